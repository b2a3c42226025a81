-- Homes of which no two are one are placed.
use Rattle.std.proofs.Common.{◌≡◌, ℕ, Bool, sym, ap, ◌∙◌, arith, ◌∷◌, length, Some}
use Rattle.std.specs.Prelude.{slice_get}
use Rattle.std.proofs.lemmas.Option.{same_Some}
use Rattle.bril_tree.specs.declared.numbered_function.Func.{Func}
use Rattle.bril_tree.specs.declared.program.Prog.{Prog}
use Rattle.bril_tree.specs.Accepted.{IsAccepted}
use Rattle.bril_tree.specs.Operand.{Location, Variable, Shadow}
use Rattle.bril_tree.proofs.Acceptance.{accepted_function}
use Rattle.bril_tree.proofs.Branches.{walk_within}
use Rattle.slot_code.specs.declared.slots.SlotFunction.{SlotFunction}
use Rattle.slot_code.specs.Lowered.{IsLoweredFunction}
use Rattle.slot_code.proofs.Places.{slot_place}
use Rattle.placement_laws.specs.Homes.{IsSlotIn, number_in, slot_of}
use Rattle.placement_laws.specs.Placed.{IsPlaced, LiveApart}
use Rattle.placement_laws.specs.Spans.{AreSeparate, AreSpans, Span}
use Rattle.placement_laws.proofs.Known.{are_known, sites_assign_nothing}
use Rattle.placement_laws.proofs.Living.{live_within}
use Rattle.placement_laws.proofs.Spans as spans

-- one location is a slot
pub location_one : (x y : Location) → slot_of x ≡ slot_of y → x ≡ y
location_one (Variable x) (Variable y) e = cc
location_one (Variable x) (Shadow y) e = absurd cc
location_one (Shadow x) (Variable y) e = absurd cc
location_one (Shadow x) (Shadow y) e = cc

-- and has a number
pub number_one : (f : Func) (g : SlotFunction) → IsLoweredFunction f g → (x y : Location) → IsSlotIn g x → IsSlotIn g y → number_in g x ≡ number_in g y → x ≡ y
number_one f g is x y in_x in_y same =
    location_one x y (same_Some (slot_of x) (slot_of y) (sym (slot_place f g is (slot_of x) in_x) ∙ (ap (slice_get g.slots) same ∙ slot_place f g is (slot_of y) in_y)))

module _ (p : Prog) (k : ℕ) (f : Func) (g : SlotFunction) (accepted : IsAccepted p) (there : slice_get p.funcs k ≡ Some f) (lowered : IsLoweredFunction f g) {H : Type 0} (homes : Location → H) where
  pub separate_apart : (spans : Location → Span) → AreSpans f.code f.args spans → AreSeparate (IsSlotIn g) spans homes → LiveApart f.code homes
  separate_apart of are separate = spans.live_apart f.code f.args homes of are (IsSlotIn g) (are_known p k f g accepted there lowered) separate

module _ (p : Prog) (k : ℕ) (f : Func) (g : SlotFunction) (accepted : IsAccepted p) (there : slice_get p.funcs k ≡ Some f) (lowered : IsLoweredFunction f g) {H : Type 0} (homes : Location → H) (saved : ℕ → Location → Bool) where
  pub separate_placed : (spans : Location → Span) → AreSpans f.code f.args spans → AreSeparate (IsSlotIn g) spans homes → IsPlaced f.code f.args homes saved
  separate_placed of are separate =
      spans.placed f.code f.args (accepted_function p k f accepted there).sites homes saved of are (IsSlotIn g) (are_known p k f g accepted there lowered) separate (sites_assign_nothing p k f accepted there)

  -- each location takes all points
  pub different_placed : ((x y : Location) → IsSlotIn g x → IsSlotIn g y → homes x ≡ homes y → x ≡ y) → IsPlaced f.code f.args homes saved
  different_placed one =
      separate_placed (λ x. record { first = 0; last = length f.code })
      (record {
        live = λ point x live. (omega arith, live_within f.code x point live);
        assigned = λ walk branch x is at c. (omega arith, walk_within f.code (branch ∷ walk) (at, is));
        arguments = λ j lt. (omega arith, omega arith);
        kept = λ walk newer older site x is sites live. (omega arith, walk_within f.code walk is);
      })
      (λ x y u v ne same. absurd (ne (one x y u v same)))
