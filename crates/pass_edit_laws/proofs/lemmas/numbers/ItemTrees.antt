-- What an item names and how many arguments it passes, told by its tree.
use Rattle.std.proofs.Common.{◌≡◌, ℕ, Bool, true, eqb, List, [], ◌∷◌, ◌++◌, length, map, Option, Some, None, refl, sym, ap, ◌∙◌, inl, inr, ⊎_elim, arith}
use Rattle.std.specs.Prelude.{is_some}
use Rattle.std.proofs.lemmas.Bool.{eqb-true}
use Rattle.std.proofs.lemmas.Bool.Decides.{eqb_tells}
use Rattle.std.proofs.lemmas.List.{length-map, map-append}
use Rattle.bril_tree.specs.declared.function_tree.Dest.{Dest}
use Rattle.bril_tree.specs.declared.function_tree.Item.{Item}
use Rattle.bril_tree.specs.declared.function_tree.Item.TheVariants as item
use Rattle.bril_tree.specs.declared.numbered.Instr.{Instr}
use Rattle.bril_tree.specs.declared.numbered.Instr.TheVariants.{Label, Const, Act}
use Rattle.bril_tree.specs.declared.operation.Op.{Op}
use Rattle.bril_tree.specs.declared.operation.Op.TheVariants as op
use Rattle.bril_tree.specs.declared.types.Ty.{Ty}
use Rattle.program_numbers.specs.Cost.{item_passes, operation_passes}
use Rattle.bril_tree.specs.FrameWords.{names_shadow, operation_names_shadow}
use Rattle.bril_tree.specs.FunctionForm.{both_or_neither, dest_is_typed, listed, variables_of}
use Rattle.bril_tree.specs.Membership.{In}
use Rattle.bril_tree.specs.Shape.{is_action_shaped, is_shaped, shape_of}
use Rattle.bril_tree.specs.Numbered.{dest_tree, item_tree, named}
use Rattle.bril_tree.proofs.Members.{in_append_left, in_append_right}
use Rattle.bril_tree.proofs.Shapes.{shape-parts}

-- ---- the names of an item

abbrev pub first_one : {X : Type 0} → List X → List X
first_one [] = []
first_one (x ∷ xs) = x ∷ []

abbrev pub dest_names : Option Dest → List (List ℕ)
dest_names None = []
dest_names (Some d) = d.name ∷ []

abbrev pub item_names : Item → List (List ℕ)
item_names (item.Label n) = []
item_names (item.Const n ty v) = n ∷ []
item_names (item.Act d o args fns ls) = dest_names d ++ args

abbrev pub shadow_names_of : Op → Option Dest → List (List ℕ) → List (List ℕ)
shadow_names_of op.Get d args = dest_names d
shadow_names_of op.Set d args = first_one args
shadow_names_of _ d args = []

abbrev pub shadow_names : Item → List (List ℕ)
shadow_names (item.Label n) = []
shadow_names (item.Const n ty v) = []
shadow_names (item.Act d o args fns ls) = shadow_names_of o d args

abbrev pub shadows_in : Op → Option ℕ → List ℕ → List ℕ
shadows_in op.Get d args = listed d
shadows_in op.Set d args = first_one args
shadows_in _ d args = []

-- the variables whose shadows the item names
abbrev pub shadows_of : Instr → List ℕ
shadows_of (Label l) = []
shadows_of (Const d ty v) = []
shadows_of (Act d ty o args fns ls) = shadows_in o d args

dest-named : (V : List (List ℕ)) (d : Option ℕ) (t : Option Ty) → both_or_neither d t ≡ true → dest_names (dest_tree V d t) ≡ map (named V) (listed d)
dest-named V None t e = refl
dest-named V (Some x) None e = absurd cc
dest-named V (Some x) (Some ty) e = refl

module _ (fs V ls : List (List ℕ)) where
  pub names-item : (a : Instr) → dest_is_typed a ≡ true → item_names (item_tree fs V ls a) ≡ map (named V) (variables_of a)
  names-item (Label l) t = refl
  names-item (Const d ty v) t = refl
  names-item (Act d ty o args fns labels) t = ap (λ l. l ++ map (named V) args) (dest-named V d ty t) ∙ sym (map-append (named V) (listed d) args)

  shadows-operation : (o : Op) (d : Option ℕ) (t : Option Ty) (args : List ℕ) → both_or_neither d t ≡ true → shadow_names_of o (dest_tree V d t) (map (named V) args) ≡ map (named V) (shadows_in o d args)
  shadows-operation op.Get d t args e = dest-named V d t e
  shadows-operation op.Set d t [] e = refl
  shadows-operation op.Set d t (x ∷ args) e = refl
  shadows-operation _ d t args e = refl

  pub names-shadows : (a : Instr) → dest_is_typed a ≡ true → shadow_names (item_tree fs V ls a) ≡ map (named V) (shadows_of a)
  names-shadows (Label l) t = refl
  names-shadows (Const d ty v) t = refl
  names-shadows (Act d ty o args fns labels) t = shadows-operation o d ty args t

-- of lists of numbers with the same names
pub same_named : (names others : ℕ → List ℕ) (xs ys : List ℕ) → map names xs ≡ map others ys → (y : ℕ) → In y ys → (x : ℕ) × In x xs × (names x ≡ others y)
same_named names others [] [] e y i = absurd i
same_named names others [] (z ∷ ys) e y i = absurd cc
same_named names others (x ∷ xs) [] e y i = absurd i
same_named names others (x ∷ xs) (z ∷ ys) e y (inl s) = let h : names x ≡ others z = cc in (x, inl refl, h ∙ ap others (sym s))
same_named names others (x ∷ xs) (z ∷ ys) e y (inr i) = let rest : map names xs ≡ map others ys = cc in let r = same_named names others xs ys rest y i in (r.0, inr r.1, r.2)

-- ---- shadows that an item names

operation-names : (ret : Bool) (y : ℕ) (o : Op) (d : Option ℕ) (args : List ℕ) (fns labels : ℕ) → is_action_shaped ret o (is_some d) (length args) fns labels ≡ true → operation_names_shadow y o d args ≡ true → In y (shadows_in o d args)
operation-names ret y op.Get None args fns labels s e = absurd cc
operation-names ret y op.Get (Some z) args fns labels s e = inl (eqb-true y z e)
operation-names ret y op.Set d [] fns labels s e = absurd (let two = (shape-parts (shape_of ret op.Set) (is_some d) 0 fns labels s).args_are in omega (arith, two))
operation-names ret y op.Set d (z ∷ args) fns labels s e = inl (eqb-true y z e)
operation-names ret y _ d args fns labels s e = absurd cc

pub names-it : (ret : Bool) (y : ℕ) (b : Instr) → is_shaped ret b ≡ true → names_shadow y b ≡ true → In y (shadows_of b)
names-it ret y (Label l) s e = absurd cc
names-it ret y (Const d ty v) s e = absurd cc
names-it ret y (Act d ty o args fns ls) s e = operation-names ret y o d args (length fns) (length ls) s e

number_is : (x z : ℕ) → x ≡ z → eqb x z ≡ true
number_is x z e = ⊎_elim (λ h. h.0) (λ h. absurd (h.1 e)) (eqb_tells x z)

it-names : (x : ℕ) (o : Op) (d : Option ℕ) (args : List ℕ) → In x (shadows_in o d args) → operation_names_shadow x o d args ≡ true
it-names x op.Get None args i = absurd i
it-names x op.Get (Some z) args (inl e) = number_is x z e
it-names x op.Get (Some z) args (inr i) = absurd i
it-names x op.Set d [] i = absurd i
it-names x op.Set d (z ∷ args) (inl e) = number_is x z e
it-names x op.Set d (z ∷ args) (inr i) = absurd i
it-names x _ d args i = absurd i

pub is-named : (x : ℕ) (a : Instr) → In x (shadows_of a) → names_shadow x a ≡ true
is-named x (Label l) i = absurd i
is-named x (Const d ty v) i = absurd i
is-named x (Act d ty o args fns ls) i = it-names x o d args i

-- the shadow is one of a variable of the item
shadow-variable : (x : ℕ) (o : Op) (d : Option ℕ) (args : List ℕ) → In x (shadows_in o d args) → In x (listed d ++ args)
shadow-variable x op.Get d args i = in_append_left x (listed d) args i
shadow-variable x op.Set d [] i = absurd i
shadow-variable x op.Set d (z ∷ args) (inl e) = in_append_right x (listed d) (z ∷ args) (inl e)
shadow-variable x op.Set d (z ∷ args) (inr i) = absurd i
shadow-variable x _ d args i = absurd i

pub shadow-of_variable : (x : ℕ) (a : Instr) → In x (shadows_of a) → In x (variables_of a)
shadow-of_variable x (Label l) i = absurd i
shadow-of_variable x (Const d ty v) i = absurd i
shadow-of_variable x (Act d ty o args fns ls) i = shadow-variable x o d args i

-- ---- how many arguments an item passes

abbrev pub operation_count : Op → ℕ → ℕ
operation_count op.Call count = count
operation_count op.Print count = count
operation_count _ count = 0

abbrev pub tree_passes : Item → ℕ
tree_passes (item.Label n) = 0
tree_passes (item.Const n ty v) = 0
tree_passes (item.Act d o args fns ls) = operation_count o (length args)

passes-operation : (o : Op) (V : List (List ℕ)) (args : List ℕ) → operation_passes o args ≡ operation_count o (length (map (named V) args))
passes-operation op.Call V args = sym (length-map args (named V))
passes-operation op.Print V args = sym (length-map args (named V))
passes-operation _ V args = refl

pub passes-item : (fs V ls : List (List ℕ)) (a : Instr) → item_passes a ≡ tree_passes (item_tree fs V ls a)
passes-item fs V ls (Label l) = refl
passes-item fs V ls (Const d ty v) = refl
passes-item fs V ls (Act d ty o args fns labels) = passes-operation o V args
