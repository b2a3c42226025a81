use Rattle.std.proofs.Common.{◌≡◌, ◌+◌, ◌≤◌, false, true, sym, ◌∙◌, subst, arith}
use Rattle.std.specs.Prelude.{slice_index}
use Rattle.std.specs.List.{SomeIndex}
use Rattle.bril_tree.specs.Sites.{most_sites}
use Rattle.shadow_place.specs.Marks.{AddsAll, IsMarkedBelow, first_rows}
use Rattle.shadow_place.specs.Placement.{AreSavedRows}
use Rattle.shadow_place.proofs.Saving.{more_levels, no_rows, rows_tell}
use Rattle.shadow_place.proofs.saved.saved_rows.Goals as goal

clash : false ≡ true → ⊥
clash e = cc

pub returns-then-not-is_reached : goal.returns-then-not-is_reached
returns-then-not-is_reached c =
    let a = c.args.known.now in
    let nowhere : SomeIndex a.lowered.now.depths (λ k. 1 ≤ slice_index a.lowered.now.depths k) → ⊥ =
    λ s. clash (sym c.if-not-is_reached.true ∙ c.is_reached.ensures.1 (subst (λ ds. SomeIndex ds (λ k. 1 ≤ slice_index ds k)) (sym c.as_slice.ensures) s)) in
    subst (AreSavedRows a.func.now.code) (sym c.new.ensures.items) (no_rows a.func.now a.lowered.now c.requires.lowered nowhere)

pub loop-level-preserved : goal.loop-level-preserved
loop-level-preserved c =
    let a = c.args.known.now in
    more_levels a c.loop-level.level (first_rows a.lowered.now.variables a.func.now.code) c.loop-level.rows.items c.mark_level.new.rows.items c.loop-level.invariant c.in_ok-mark_level.ensures

pub returns : goal.returns
returns c =
    let a = c.args.known.now in
    let rows = c.loop-level.rows.items in
    let start = first_rows a.lowered.now.variables a.func.now.code in
    let done : c.loop-level.level ≡ most_sites + 1 = omega (arith, c.loop-level-test.false, c.loop-level.auto.level-end (omega arith)) in
    rows_tell a c.requires rows (subst (λ n. AddsAll (IsMarkedBelow a n) start rows) done c.loop-level.invariant)
