-- Numbers of locations, and the location that an item assigns.
use Rattle.std.proofs.Common.{◌≡◌, ℕ, List, Option, Some, None, refl, sym, ap, subst, inl, inr, arith}
use Rattle.std.specs.Prelude.{slice_get}
use Rattle.std.specs.Option.{option_map, option_to_list}
use Rattle.bril_tree.specs.declared.numbered.Instr.{Instr}
use Rattle.bril_tree.specs.declared.numbered.Instr.TheVariants.{Label, Const, Act}
use Rattle.bril_tree.specs.declared.operation.Op.{Op}
use Rattle.bril_tree.specs.declared.operation.Op.TheVariants as op
use Rattle.bril_tree.specs.Assigned.{assigns_at, operation_assigns}
use Rattle.bril_tree.specs.Membership.{In}
use Rattle.bril_tree.specs.Operand.{Location, Variable, Shadow}
use Rattle.flow_graph.specs.Location.{number_of, location_at, number_at}

pub number-one : (a b : Location) → number_of a ≡ number_of b → a ≡ b
number-one (Variable x) (Variable y) e = let same : x ≡ y = omega arith in ap Variable same
number-one (Variable x) (Shadow y) e = absurd (omega arith)
number-one (Shadow x) (Variable y) e = absurd (omega arith)
number-one (Shadow x) (Shadow y) e = let same : x ≡ y = omega arith in ap Shadow same

-- a number is of one location
pub number-is : (o : Option Location) (location : Location) → option_map number_of o ≡ Some (number_of location) → o ≡ Some location
number-is None location e = cc
number-is (Some other) location e = let same : number_of other ≡ number_of location = cc in ap Some (number-one other location same)

-- ---- what an item assigns

operation-one : (o : Op) (dest : Option ℕ) (args : List ℕ) → operation_assigns o dest args ≡ option_to_list (slice_get (operation_assigns o dest args) 0)
operation-one op.Set dest args = refl
operation-one _ None args = refl
operation-one _ (Some x) args = refl

-- an item assigns no location or one
pub assigns-one : (item : Option Instr) → assigns_at item ≡ option_to_list (location_at item)
assigns-one None = refl
assigns-one (Some (Label l)) = refl
assigns-one (Some (Const dest ty value)) = refl
assigns-one (Some (Act dest ty o args funcs labels)) = operation-one o dest args

in_option : (o : Option Location) (x : Location) → In x (option_to_list o) → o ≡ Some x
in_option None x i = absurd i
in_option (Some y) x (inl e) = ap Some (sym e)
in_option (Some y) x (inr i) = absurd i

option_in : (o : Option Location) (x : Location) → o ≡ Some x → In x (option_to_list o)
option_in None x e = absurd cc
option_in (Some y) x e = inl (let same : y ≡ x = cc in sym same)

pub assigned-location : (item : Option Instr) (x : Location) → In x (assigns_at item) → location_at item ≡ Some x
assigned-location item x i = in_option (location_at item) x (subst (In x) (assigns-one item) i)

pub location-assigned : (item : Option Instr) (x : Location) → location_at item ≡ Some x → In x (assigns_at item)
location-assigned item x e = subst (In x) (sym (assigns-one item)) (option_in (location_at item) x e)

pub assigned-number : (item : Option Instr) (x : Location) → In x (assigns_at item) → number_at item ≡ Some (number_of x)
assigned-number item x i = ap (option_map number_of) (assigned-location item x i)

pub number-assigned : (item : Option Instr) (x : Location) → number_at item ≡ Some (number_of x) → In x (assigns_at item)
number-assigned item x e = location-assigned item x (number-is (location_at item) x e)
