-- The JSON value of a tree is plain, and nests no deeper than 37.
use Rattle.std.proofs.Common.{◌≡◌, ℕ, zero, suc, ◌≤◌, pos, negsuc, ℤ, List, [], ◌∷◌, Bool, true, false, ◌&&◌, Option, Some, None, option_map, IsUtf8, FitsSigned, codes, refl, Ordering, Less, Equal, Greater, nat_cmp, arith}
use Rattle.std.proofs.lemmas.Bool.{and_parts, false≢true}
use Rattle.std.proofs.lemmas.List.Elements.{All-head, All-tail}
use Rattle.std.proofs.lemmas.Str.{IsUtf8-encode}
use Rattle.std.specs.Cmp.Lexicographic.{slice_cmp}
use Rattle.std.specs.Int.{w64}
use Rattle.std.specs.List.{All}
use Rattle.std.specs.Option.{IfSome}
use Rattle.std.specs.Prelude.{⊤}
use Rattle.json.proofs.Printed.Utf8.{are_ascii, IsUtf8-are_ascii}
use Rattle.bril_tree.specs.declared.function_tree.Dest.{Dest}
use Rattle.bril_tree.specs.declared.function_tree.FuncTree.{FuncTree}
use Rattle.bril_tree.specs.declared.function_tree.Item.{Item}
use Rattle.bril_tree.specs.declared.function_tree.Item.TheVariants as line
use Rattle.bril_tree.specs.declared.import.Import.{Import}
use Rattle.bril_tree.specs.declared.import.Taken.{Taken}
use Rattle.bril_tree.specs.declared.operation.Op.{Op}
use Rattle.bril_tree.proofs.Named.{each_passes}
use Rattle.bril_tree.specs.declared.tree.Tree.{Tree}
use Rattle.bril_tree.specs.declared.types.Base.{Base}
use Rattle.bril_tree.specs.declared.types.Base.TheVariants as base
use Rattle.bril_tree.specs.declared.types.Ty.{Ty}
use Rattle.bril_tree.specs.declared.value.Lit.{Lit}
use Rattle.bril_tree.specs.declared.value.Lit.TheVariants as literal
use Rattle.bril_tree.specs.Spelling.{operation_text, base_text}
use Rattle.bril_tree.specs.TreeForm.{IsName, AreNames, IsTaken, IsImport, IsDest, IsLiteral, IsItem, IsFunction, IsTree}
use Rattle.serde_json.specs.Data.{Data, number, string, array, Items, no_items, item, depth, items_depth, members_depth}
use Rattle.serde_json.specs.Find.{of_integer}
use Rattle.bril_json.specs.Canonical.{Part, standing, object_of, listed, unless_empty, in_pointers, type_json, literal_json, argument_parts, argument_json, item_parts, item_json, function_parts, function_json, taken_parts, taken_json, import_parts, import_json, tree_parts, json_of}
use Rattle.bril_json.proofs.Identifiers.{identifier_utf8}
use Rattle.bril_json.proofs.Plain.{IsPlain, ArePlain, AreInOrder, IsBefore}

-- the value is plain, and nests no deeper than n
abbrev pub IsFlat : ℕ → Data → Type 0
IsFlat n d = IsPlain d × (depth d ≤ n)

abbrev AreFlat : ℕ → Items → Type 0
AreFlat n ds = ArePlain ds × (items_depth ds ≤ n)

weaker : (m n : ℕ) (d : Data) → m ≤ n → IsFlat m d → IsFlat n d
weaker m n d le flat = (flat.0, omega (arith, flat.1))

-- ---- objects

abbrev is_greater : Ordering → Bool
is_greater Less = false
is_greater Equal = false
is_greater Greater = true

greater : (o : Ordering) → is_greater o ≡ true → o ≡ Greater
greater Less e = absurd (false≢true e)
greater Equal e = absurd (false≢true e)
greater Greater e = refl

-- the key comes before those of the parts
abbrev stands_before : List ℕ → List Part → Bool
stands_before key [] = true
stands_before key (part ∷ parts) = is_greater (slice_cmp nat_cmp part.0 key) && stands_before key parts

-- the keys are ASCII and in their order
abbrev are_in_order : List Part → Bool
are_in_order [] = true
are_in_order (part ∷ parts) = are_ascii part.0 && (stands_before part.0 parts && are_in_order parts)

abbrev IsFlatPart : ℕ → Option Data → Type 0
IsFlatPart n None = ⊤
IsFlatPart n (Some d) = IsFlat n d

abbrev AreFlatParts : ℕ → List Part → Type 0
AreFlatParts n [] = ⊤
AreFlatParts n (part ∷ parts) = IsFlatPart n part.1 × AreFlatParts n parts

before_standing : (key : List ℕ) (parts : List Part) → stands_before key parts ≡ true → IsBefore key (standing parts)
before_standing key [] e = tt
before_standing key ((other, None) ∷ parts) e = before_standing key parts (and_parts _ _ e).1
before_standing key ((other, Some d) ∷ parts) e = let both = and_parts _ _ e in (greater _ both.0, before_standing key parts both.1)

standing_flat : (n : ℕ) (parts : List Part) → are_in_order parts ≡ true → AreFlatParts n parts → AreInOrder (standing parts) × (members_depth (standing parts) ≤ n)
standing_flat n [] e flat = (tt, omega arith)
standing_flat n ((key, None) ∷ parts) e flat = standing_flat n parts (and_parts _ _ (and_parts _ _ e).1).1 flat.1
standing_flat n ((key, Some d) ∷ parts) e flat =
    let ascii = and_parts (are_ascii key) _ e in
    let order = and_parts (stands_before key parts) _ ascii.1 in
    let rest = standing_flat n parts order.1 flat.1 in
    ((IsUtf8-are_ascii key ascii.0, flat.0.0, before_standing key parts order.0, rest.0), omega (arith, flat.0.1, rest.1))

object_flat : (n : ℕ) (parts : List Part) → are_in_order parts ≡ true → AreFlatParts n parts → IsFlat (suc n) (object_of parts)
object_flat n parts e flat = let all = standing_flat n parts e flat in (all.0, omega (arith, all.1))

-- ---- lists

each_flat : {X : Type 0} (n : ℕ) (f : X → Data) (P : X → Type 0) → ((x : X) → P x → IsFlat n (f x)) → (xs : List X) → All P xs → AreFlat n (listed f xs)
each_flat n f P one [] all = (tt, omega arith)
each_flat n f P one (x ∷ xs) all =
    let first = one x (All-head P x xs all) in
    let rest = each_flat n f P one xs (All-tail P x xs all) in
    ((first.0, rest.0), omega (arith, first.1, rest.1))

list_flat : (n : ℕ) (ds : Items) → AreFlat n ds → IsFlat (suc n) (array ds)
list_flat n ds flat = (flat.0, omega (arith, flat.1))

part_flat : (m n : ℕ) (ds : Items) → suc m ≤ n → AreFlat m ds → IsFlatPart n (unless_empty ds)
part_flat m n no_items le flat = tt
part_flat m n (item d ds) le flat = weaker (suc m) n (array (item d ds)) le (list_flat m (item d ds) flat)

-- ---- trees

text_flat : (n : ℕ) (text : List ℕ) → IsUtf8 text → IsFlat n (string text)
text_flat n text u = (u, omega arith)

name_flat : (n : ℕ) (name : List ℕ) → IsName name → IsFlat n (string name)
name_flat n name is = text_flat n name (identifier_utf8 name is)

names_flat : (n : ℕ) (names : List (List ℕ)) → 1 ≤ n → AreNames names → IsFlatPart n (unless_empty (listed string names))
names_flat n names le are = part_flat 0 n _ le (each_flat 0 string IsName (name_flat 0) names are)

base_ascii : (b : Base) → are_ascii (base_text b) ≡ true
base_ascii base.Int = refl
base_ascii base.Bool = refl
base_ascii base.Char = refl

pointers_flat : (n : ℕ) (d : Data) → IsFlat 0 d → IsFlat n (in_pointers n d)
pointers_flat zero d flat = flat
pointers_flat (suc n) d flat = object_flat n ((codes "ptr", Some (in_pointers n d)) ∷ []) refl (pointers_flat n d flat, tt)

type_flat : (ty : Ty) → IsFlat 32 (type_json ty)
type_flat ty = weaker ty.depth 32 (type_json ty) ty.nests (pointers_flat ty.depth _ (text_flat 0 _ (IsUtf8-are_ascii _ (base_ascii ty.base))))

integer_flat : (n : ℕ) (z : ℤ) → FitsSigned w64 z → IsFlat n (number (of_integer z))
integer_flat n (pos m) fits = (grind arith, omega arith)
integer_flat n (negsuc m) fits = (grind arith, omega arith)

literal_flat : (n : ℕ) (value : Lit) → IsLiteral value → IsFlat n (literal_json value)
literal_flat n (literal.Int z) fits = integer_flat n z fits
literal_flat n (literal.Bool b) is = (tt, omega arith)
literal_flat n (literal.Char c) is = text_flat n _ (IsUtf8-encode c is)

argument_flat : (arg : Dest) → IsDest arg → IsFlat 33 (argument_json arg)
argument_flat arg is = object_flat 32 (argument_parts arg) refl (name_flat 32 arg.name is, (type_flat arg.ty, tt))

operation_ascii : (o : Op) → are_ascii (operation_text o) ≡ true
operation_ascii o = each_passes (λ (p : Op). are_ascii (operation_text p)) refl o

dest_flat : (dest : Option Dest) → IfSome dest IsDest → IsFlatPart 32 (option_map (λ (d : Dest). string d.name) dest)
dest_flat None is = tt
dest_flat (Some d) is = name_flat 32 d.name is

dest_type_flat : (dest : Option Dest) → IsFlatPart 32 (option_map (λ (d : Dest). type_json d.ty) dest)
dest_type_flat None = tt
dest_type_flat (Some d) = type_flat d.ty

item_flat : (i : Item) → IsItem i → IsFlat 33 (item_json i)
item_flat (line.Label name) is = object_flat 32 (item_parts (line.Label name)) refl (name_flat 32 name is, tt)
item_flat (line.Const dest ty value) is =
    object_flat 32 (item_parts (line.Const dest ty value)) refl
    (name_flat 32 dest is.0, (text_flat 32 (codes "const") (IsUtf8-are_ascii _ refl), (type_flat ty, (literal_flat 32 value is.1, tt))))
item_flat (line.Act dest operation args funcs labels) is =
    object_flat 32 (item_parts (line.Act dest operation args funcs labels)) refl (
      names_flat 32 args (omega arith) is.1,
      (
        dest_flat dest is.0,
        (
          names_flat 32 funcs (omega arith) is.2,
          (
            names_flat 32 labels (omega arith) is.3,
            (text_flat 32 (operation_text operation) (IsUtf8-are_ascii _ (operation_ascii operation)), (dest_type_flat dest, tt)),
          ),
        ),
      ),
    )

return_flat : (ret : Option Ty) → IsFlatPart 34 (option_map type_json ret)
return_flat None = tt
return_flat (Some ty) = weaker 32 34 (type_json ty) (omega arith) (type_flat ty)

function_flat : (f : FuncTree) → IsFunction f → IsFlat 35 (function_json f)
function_flat f is =
    object_flat 34 (function_parts f) refl (
      part_flat 33 34 (listed argument_json f.args) (omega arith) (each_flat 33 argument_json IsDest argument_flat f.args is.1),
      (list_flat 33 (listed item_json f.code) (each_flat 33 item_json IsItem item_flat f.code is.2), (name_flat 34 f.name is.0, (return_flat f.ret, tt))),
    )

alias_flat : (alias : Option (List ℕ)) → IfSome alias IsName → IsFlatPart 0 (option_map string alias)
alias_flat None is = tt
alias_flat (Some alias) is = name_flat 0 alias is

taken_flat : (taken : Taken) → IsTaken taken → IsFlat 1 (taken_json taken)
taken_flat taken is = object_flat 0 (taken_parts taken) refl (alias_flat taken.alias is.1, (name_flat 0 taken.name is.0, tt))

import_flat : (i : Import) → IsImport i → IsFlat 3 (import_json i)
import_flat i is = object_flat 2 (import_parts i) refl
    (list_flat 1 (listed taken_json i.names) (each_flat 1 taken_json IsTaken taken_flat i.names is.1), (text_flat 2 i.path is.0, tt))

-- the JSON value of a tree
pub tree_flat : (tree : Tree) → IsTree tree → IsFlat 37 (json_of tree)
tree_flat tree is =
    object_flat 36 (tree_parts tree) refl (
      list_flat 35 (listed function_json tree.funcs) (each_flat 35 function_json IsFunction function_flat tree.funcs is.1),
      (part_flat 3 36 (listed import_json tree.imports) (omega arith) (each_flat 3 import_json IsImport import_flat tree.imports is.0), tt),
    )
