use Rattle.std.proofs.Common.{◌≡◌, ◌≤◌, false, true, sym, ◌∙◌, subst}
use Rattle.std.specs.Prelude.{slice_index}
use Rattle.std.specs.List.{SomeIndex}
use Rattle.shadow_place.proofs.Saving.{none_open}
use Rattle.shadow_place.proofs.saved.mark_level.Goals as goal

clash : false ≡ true → ⊥
clash e = cc

pub returns-else-is_reached : goal.returns-else-is_reached
returns-else-is_reached c =
    let a = c.args.known.now in
    let nowhere : SomeIndex a.lowered.now.depths (λ k. c.args.level ≤ slice_index a.lowered.now.depths k) → ⊥ =
    λ s. clash (sym c.if-is_reached.false ∙ c.is_reached.ensures.1 (subst (λ ds. SomeIndex ds (λ k. c.args.level ≤ slice_index ds k)) (sym c.as_slice.ensures) s)) in
    none_open a c.requires.known c.args.level c.args.rows.now.items nowhere
