-- The homes of a function, and what its speculations save, are a placement.
use Rattle.std.proofs.Common.{◌≡◌, ⊎_elim, ℕ, List, map, sym, ◌∙◌}
use Rattle.std.specs.List.{range_with_len}
use Rattle.bril_tree.specs.declared.numbered_function.Func.{Func}
use Rattle.slot_code.specs.declared.slots.SlotFunction.{SlotFunction}
use Rattle.placement_laws.specs.Homes.{IsSlotIn, number_in}
use Rattle.placement_laws.specs.Spans.{AreSeparate}
use Rattle.placement_laws.proofs.Different.{number_one, separate_apart, separate_placed}
use Rattle.shadow_place.specs.declared.placed.FunctionHomes.{FunctionHomes}
use Rattle.shadow_place.specs.Allocation.{IsAllocation}
use Rattle.shadow_place.specs.Placement.{AreSavedRows, IsAcceptedLowered, IsPlacement}
use Rattle.shadow_place.specs.Registers.{home_from}
use Rattle.shadow_place.specs.Tables.{home_of, is_saved_of}
use Rattle.shadow_place.proofs.Registering.{home_is, home_shared, homes_are_own, homes_in_registers}

module _ (f : Func) (g : SlotFunction) (in_prog : IsAcceptedLowered f g) (registers : List ℕ) (allocated : IsAllocation f g registers) (homes : FunctionHomes)
    (variables : homes.variables.items ≡ map (home_from registers) (range_with_len 0 g.variables)) (shadows : homes.shadows.items ≡ map (home_from registers) g.shadow_numbers) where
  homes_are_separate : AreSeparate (IsSlotIn g) allocated.spans (home_of homes)
  homes_are_separate x y in_x in_y ne same =
      let at_x = home_is f g in_prog.lowered registers homes variables shadows x in_x in
      let at_y = home_is f g in_prog.lowered registers homes variables shadows y in_y in
      ⊎_elim (λ e. absurd (ne (number_one f g in_prog.lowered x y in_x in_y e))) (λ h. allocated.separate x y in_x in_y ne h.0 h.1)
      (home_shared registers (number_in g x) (number_in g y) (sym at_x ∙ (same ∙ at_y)))

  pub placement_is : AreSavedRows f.code homes.saved.items → IsPlacement f g homes
  placement_is saved = record {
    apart = separate_placed in_prog.prog in_prog.number f g in_prog.accepted in_prog.there in_prog.lowered (home_of homes) (is_saved_of homes) allocated.spans allocated.are homes_are_separate;
    live = separate_apart in_prog.prog in_prog.number f g in_prog.accepted in_prog.there in_prog.lowered (home_of homes) allocated.spans allocated.are homes_are_separate;
    saved = saved;
    own = homes_are_own f g in_prog.lowered registers homes variables shadows allocated.homes;
    registers = λ few x in_g. homes_in_registers f g in_prog.lowered registers homes variables shadows allocated.homes (allocated.few few) x in_g;
  }
