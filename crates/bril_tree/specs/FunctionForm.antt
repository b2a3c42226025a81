-- The form of a numbered function.
use Rattle.std.specs.Prelude.{ℕ, ◌≡◌, ◌≢◌, ◌<◌, ◌≤◌, ◌+◌, Bool, true, false, ◌==◌, List, [], ◌∷◌, ◌++◌, length, Option, Some, None, if◌then◌else◌, IsSome, nat_lt, slice_get}
use Rattle.std.specs.List.{flat_map, list_all, range_with_len, AllPairs}
use Rattle.std.proofs.Props.{props}
use Rattle.bril_tree.specs.declared.numbered.Instr.{Instr}
use Rattle.bril_tree.specs.declared.numbered.Instr.TheVariants.{Label, Const, Act}
use Rattle.bril_tree.specs.declared.numbered.VarInfo.{VarInfo}
use Rattle.bril_tree.specs.declared.types.Ty.{Ty}

-- the number of a destination, where there is one, as a list
abbrev pub listed : Option ℕ → List ℕ
listed None = []
listed (Some x) = x ∷ []

-- the variables of an item in the order of their appearance: the destination, then the arguments
abbrev pub variables_of : Instr → List ℕ
variables_of (Label l) = []
variables_of (Const dest ty value) = dest ∷ []
variables_of (Act dest ty op args funcs labels) = listed dest ++ args

-- the label that stands at an item
abbrev pub label_at : Instr → List ℕ
label_at (Label l) = l ∷ []
label_at (Const dest ty value) = []
label_at (Act dest ty op args funcs labels) = []

-- the labels that an item goes to
abbrev pub targets_of : Instr → List ℕ
targets_of (Label l) = []
targets_of (Const dest ty value) = []
targets_of (Act dest ty op args funcs labels) = labels

-- the functions that an item names
abbrev pub callees_of : Instr → List ℕ
callees_of (Label l) = []
callees_of (Const dest ty value) = []
callees_of (Act dest ty op args funcs labels) = funcs

-- the type with which an item assigns the variable
abbrev pub typed_if : Bool → Option Ty → Option Ty
typed_if b ty = if b then ty else None

abbrev pub assigns_at : ℕ → Option ℕ → Option Ty → Option Ty
assigns_at x None ty = None
assigns_at x (Some y) ty = typed_if (x == y) ty

abbrev pub type_assigned : ℕ → Instr → Option Ty
type_assigned x (Label l) = None
type_assigned x (Const dest ty value) = typed_if (x == dest) (Some ty)
type_assigned x (Act dest ty op args funcs labels) = assigns_at x dest ty

-- the first of two that is there
abbrev pub first_of_two : Option Ty → Option Ty → Option Ty
first_of_two None second = second
first_of_two (Some ty) second = Some ty

-- the type of the variable's first destination
abbrev pub first_type : ℕ → List Instr → Option Ty
first_type x [] = None
first_type x (item ∷ items) = first_of_two (type_assigned x item) (first_type x items)

-- the numbers below which all are known after these appeared in order, each new one the least that is
-- not known yet
abbrev pub known_after : ℕ → List ℕ → Option ℕ
known_after known [] = Some known
known_after known (x ∷ xs) =
    if nat_lt x known then known_after known xs else (if x == known then known_after (known + 1) xs else None)

-- both are there, or neither
abbrev pub both_or_neither : Option ℕ → Option Ty → Bool
both_or_neither None None = true
both_or_neither None (Some ty) = false
both_or_neither (Some x) None = false
both_or_neither (Some x) (Some ty) = true

-- a destination has a type, and a type a destination
abbrev pub dest_is_typed : Instr → Bool
dest_is_typed (Label l) = true
dest_is_typed (Const dest ty value) = true
dest_is_typed (Act dest ty op args funcs labels) = both_or_neither dest ty

-- What a numbered function keeps: its variables are the arguments and then the others in the order of
-- their first appearance, each label stands at one item and the labels are numbered in that order, names
-- differ, and a variable that is no argument has the type of its first destination.
pub record IsFunctionForm (args : ℕ) (vars : List VarInfo) (labels : List (List ℕ)) (code : List Instr) : Type 0 where
  pub few_args : args ≤ length vars
  pub appear : known_after args (flat_map variables_of code) ≡ Some (length vars)
  pub args_typed : (x : ℕ) (v : VarInfo) → x < args → slice_get vars x ≡ Some v → IsSome v.ty
  pub types : (x : ℕ) (v : VarInfo) → args ≤ x → slice_get vars x ≡ Some v → v.ty ≡ first_type x code
  pub vars_differ : AllPairs (λ v w. v.name ≢ w.name) vars
  pub placed : flat_map label_at code ≡ range_with_len 0 (length labels)
  pub targets : list_all (λ l. nat_lt l (length labels)) (flat_map targets_of code) ≡ true
  pub labels_differ : AllPairs (λ l m. l ≢ m) labels
  pub typed : list_all dest_is_typed code ≡ true

pub IsFunctionForm-prop : (args : ℕ) (vars : List VarInfo) (labels : List (List ℕ)) (code : List Instr) → IsProp (IsFunctionForm args vars labels code)
IsFunctionForm-prop args vars labels code = hlevel props
