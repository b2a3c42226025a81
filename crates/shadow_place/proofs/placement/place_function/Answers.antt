use Rattle.std.proofs.Common.{map, ap, ◌∙◌}
use Rattle.std.specs.List.{range_with_len}
use Rattle.bril_tree.proofs.Acceptance.{accepted_function, shaped_function}
use Rattle.shadow_place.specs.declared.placed.FunctionHomes.{FunctionHomes}
use Rattle.shadow_place.specs.Registers.{home_from}
use Rattle.shadow_place.proofs.Placing.{placement_is}
use Rattle.shadow_place.proofs.Saving.{sound_code}
use Rattle.shadow_place.proofs.placement.place_function.Goals as goal

pub of_sound-requires-clause-shaped : goal.of_sound-requires-clause-shaped
of_sound-requires-clause-shaped c =
    let l = c.requires.lowered in
    shaped_function l.prog c.args.func.now (accepted_function l.prog l.number c.args.func.now l.accepted l.there)

pub of_sound-requires-clause-sound : goal.of_sound-requires-clause-sound
of_sound-requires-clause-sound c = sound_code c.args.func.now c.args.lowered.now c.requires.lowered

pub returns : goal.returns
returns c =
    let f = c.args.func.now in
    let g = c.args.lowered.now in
    let homes : FunctionHomes = record { variables = c.in_ok-variable_homes.field-0; shadows = c.in_ok-shadow_homes.field-0; saved = c.in_ok-saved_rows.field-0 } in
    let registers = c.in_ok-registers.registers.items in
    placement_is f g c.requires.lowered registers c.in_ok-registers.ensures homes
    (c.in_ok-variable_homes.ensures ∙ ap (λ l. map (home_from l) (range_with_len 0 g.variables)) c.as_slice.ensures.value)
    (c.in_ok-shadow_homes.ensures ∙ (ap (λ l. map (home_from l) c.as_slice-numbers.result.now) c.as_slice-2.ensures.value ∙ ap (λ ns. map (home_from registers) ns) c.as_slice-numbers.ensures))
    c.in_ok-saved_rows.ensures
