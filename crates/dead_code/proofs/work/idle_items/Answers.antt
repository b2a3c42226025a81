use Rattle.std.proofs.Common.{◌≡◌, ◌⊎◌, ◌∷◌, [], true, false, length, Some, refl, sym, ap, subst, arith}
use Rattle.std.specs.Prelude.{slice_get}
use Rattle.std.proofs.lemmas.List.{length-append}
use Rattle.std.proofs.lemmas.Option.{slice_get_read}
use Rattle.bril_tree.specs.Walk.{IsReached}
use Rattle.dead_code.specs.Removable.{IsIdle, is_silent}
use Rattle.dead_code.proofs.Clearing.{IsEmptied, all-emptied, one-emptied}
use Rattle.dead_code.proofs.work.idle_items.Goals as goal

pub loop-point-preserved : goal.loop-point-preserved
loop-point-preserved c =
    let inv = c.loop-point.invariant in
    let code = c.args.func.now.code in
    let items = c.as_slice-item-items.result.now in
    let dead = c.loop-point.dead.items in
    let item = c.item-item.result in
    let b = c.is_idle.result in
    let pushed = c.in_ok-push.ensures.items in
    let at : slice_get code (length dead) ≡ Some item =
    subst (λ n. slice_get code n ≡ Some item) (sym inv.long) (subst (λ l. slice_get l c.loop-point.point ≡ Some item) c.as_slice-item-items.ensures (slice_get_read items (length items) c.loop-point.point item refl c.loop-point-test.true c.item-item.is)) in
    record {
      long = omega (arith, inv.long, ap length pushed, length-append dead (b ∷ []));
      emptied = subst (IsEmptied code) (sym pushed) (one-emptied code dead item b at (subst (λ n. b ≡ true → IsIdle code n item) (sym inv.long) c.is_idle.ensures.idle) (subst (λ n. b ≡ false → (is_silent item ≡ true) ⊎ IsReached code n) (sym inv.long) c.is_idle.ensures.busy) inv.emptied);
    }

pub returns-clause-none : goal.returns-clause-none
returns-clause-none c =
    let inv = c.loop-point.invariant in
    let long : length c.loop-point.dead.items ≡ length c.args.func.now.code = omega (arith, inv.long, ap length c.as_slice-item-items.ensures) in
    (all-emptied c.args.func.now.code c.loop-point.dead.items long inv.emptied).1
