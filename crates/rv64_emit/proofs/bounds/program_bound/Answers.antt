use Rattle.std.proofs.Common.{◌≡◌, Some, get_or, refl, sym, ap, ◌∙◌, arith, length}
use Rattle.std.specs.Prelude.{slice_get}
use Rattle.std.proofs.lemmas.List.Sums.{sum_by_more}
use Rattle.std.proofs.lemmas.Option.{slice_get_read}
use Rattle.rv64_image_laws.specs.WordBounds.{function_bound}
use Rattle.rv64_emit.specs.Bounds.{bound_with, locations_at}
use Rattle.rv64_emit.proofs.bounds.program_bound.Goals as goal

pub loop-number-preserved : goal.loop-number-preserved
loop-number-preserved c =
    let items = c.as_slice-func-items.result.now in
    let k = c.loop-number.number in
    let f = c.func-item.result in
    let there : slice_get c.args.prog.now.funcs k ≡ Some f = ap (λ fs. slice_get fs k) (sym c.as_slice-func-items.ensures) ∙ slice_get_read items (length items) k f refl c.loop-number-test.true c.func-item.is in
    let known : bound_with (locations_at c.args.funcs.now k) f ≡ function_bound f = c.requires k f there in
    let located : bound_with c.locations_of.result f ≡ bound_with (locations_at c.args.funcs.now k) f = ap (λ n. bound_with n f) c.locations_of.ensures in
    let more = sum_by_more function_bound items k f c.loop-number-test.true in
    let same : function_bound (get_or items k f) ≡ function_bound f = ap function_bound (sym c.func-item.is) in
    omega (arith, c.saturating_add-bound.ensures, c.function_bound_of.ensures, c.loop-number.invariant)
