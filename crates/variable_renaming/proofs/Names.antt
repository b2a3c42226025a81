-- Items with other names of their variables, and the numbers that they stand for.
use Rattle.std.proofs.Common.{◌≡◌, ℕ, ◌<◌, List, [], ◌∷◌, length, map, Option, Some, None, refl, sym, ap, ◌∙◌}
use Rattle.std.specs.Prelude.{slice_get}
use Rattle.std.specs.Option.{option_map}
use Rattle.std.proofs.lemmas.List.{get_or-map}
use Rattle.bril_tree.specs.declared.function_tree.Item.TheVariants as item
use Rattle.bril_tree.specs.declared.numbered.Instr.{Instr}
use Rattle.bril_tree.specs.declared.numbered.Instr.TheVariants.{Label, Const, Act}
use Rattle.bril_tree.specs.declared.program.Prog.{Prog}
use Rattle.bril_tree.specs.declared.types.Ty.{Ty}
use Rattle.bril_tree.specs.FunctionForm.{listed}
use Rattle.bril_tree.specs.Numbered.{named, dest_tree, item_tree, names_in, names_of_functions, tree_at}
use Rattle.bril_tree.specs.Step.{item_at}
use Rattle.bril_tree.proofs.Trees.{nothing_at}
use Rattle.bril_names.specs.Range.{AreBelow, IsInRange}
use Rattle.bril_names.proofs.Naming.{AreBelow-append}
use Rattle.pass_edit_laws.specs.names.Renaming.{renamed_tree}
use Rattle.pass_edit_laws.proofs.lemmas.names.Points.{found}
use Rattle.pass_edit_laws.proofs.lemmas.names.Renaming.{renamed-found, renamed-none}
use Rattle.variable_renaming.specs.Renamed.{renamed_dest, renamed_item}

pub named-map : (rename : List ℕ → List ℕ) (V : List (List ℕ)) (x : ℕ) → x < length V → named (map rename V) x ≡ rename (named V x)
named-map rename V x less = get_or-map rename V x [] [] less

names-map : (rename : List ℕ → List ℕ) (V : List (List ℕ)) (xs : List ℕ) → AreBelow (length V) xs → map (named (map rename V)) xs ≡ map rename (map (named V) xs)
names-map rename V [] below = refl
names-map rename V (x ∷ xs) below = λ i. named-map rename V x below.0 i ∷ names-map rename V xs below.1 i

dest-renamed : (rename : List ℕ → List ℕ) (V : List (List ℕ)) (d : Option ℕ) (ty : Option Ty) → AreBelow (length V) (listed d) → renamed_dest rename (dest_tree V d ty) ≡ dest_tree (map rename V) d ty
dest-renamed rename V None ty below = refl
dest-renamed rename V (Some x) None below = refl
dest-renamed rename V (Some x) (Some ty) below = λ i. Some (record { name = sym (named-map rename V x below.0) i; ty = ty })

-- an item under its new names
pub item-renamed : (rename : List ℕ → List ℕ) (fs V ls : List (List ℕ)) (nf nl : ℕ) (a : Instr) → IsInRange nf (length V) nl a → renamed_item rename (item_tree fs V ls a) ≡ item_tree fs (map rename V) ls a
item-renamed rename fs V ls nf nl (Label l) range = refl
item-renamed rename fs V ls nf nl (Const d ty v) range = λ i. item.Const (sym (named-map rename V d range.variables.0) i) ty v
item-renamed rename fs V ls nf nl (Act d ty o args fns labels) range =
    let below = AreBelow-append (length V) (listed d) args range.variables in
    λ i. item.Act (dest-renamed rename V d ty below.0 i) o (sym (names-map rename V args below.1) i) (map (named fs) fns) (map (named ls) labels)

-- a point under the new names
pub tree-renamed : (P : Prog) (f i : ℕ) (rename : List ℕ → List ℕ) → option_map (renamed_item rename) (tree_at P f i) ≡ renamed_tree (names_of_functions P.funcs) (map rename (names_in (slice_get P.funcs f))) (slice_get P.funcs f) i
tree-renamed P f i rename = by (item_at P f i) refl
  where
    by : (o : Option Instr) → item_at P f i ≡ o → option_map (renamed_item rename) (tree_at P f i) ≡ renamed_tree (names_of_functions P.funcs) (map rename (names_in (slice_get P.funcs f))) (slice_get P.funcs f) i
    by None at = ap (option_map (renamed_item rename)) (nothing_at P f i at) ∙ sym (renamed-none P f i at (map rename (names_in (slice_get P.funcs f))))
    by (Some a) at =
        let fa = found P f i a at in
        ap (option_map (renamed_item rename)) fa.tree
        ∙ ap Some (item-renamed rename (names_of_functions P.funcs) (names_in (slice_get P.funcs f)) fa.function.labels (length (names_of_functions P.funcs)) (length fa.function.labels) a fa.range)
        ∙ sym (renamed-found P f i a at fa.function fa.there (map rename (names_in (slice_get P.funcs f))))
