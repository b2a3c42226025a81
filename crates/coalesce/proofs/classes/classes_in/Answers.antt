use Rattle.std.proofs.Common.{◌≡◌, length, Some, refl, sym, ap, subst, arith}
use Rattle.std.specs.Prelude.{slice_get}
use Rattle.std.proofs.lemmas.Option.{slice_get_read}
use Rattle.coalesce.specs.Classes.{IsRelatedItem}
use Rattle.coalesce.proofs.Starting.{copied-more, looked-more, looked-all}
use Rattle.coalesce.proofs.classes.classes_in.Goals as goal

pub look_at_point-requires-clause-here : goal.look_at_point-requires-clause-here
look_at_point-requires-clause-here c =
    let items = c.as_slice-item-items.result.now in
    subst (λ l. slice_get l c.loop-point.point ≡ Some c.item-item.result) c.as_slice-item-items.ensures (slice_get_read items (length items) c.loop-point.point c.item-item.result refl c.loop-point-test.true c.item-item.is)

pub look_at_point-requires-clause-related : goal.look_at_point-requires-clause-related
look_at_point-requires-clause-related c =
    let items = c.as_slice-item-items.result.now in
    let at : slice_get c.args.func.now.code c.loop-point.point ≡ Some c.item-item.result = subst (λ l. slice_get l c.loop-point.point ≡ Some c.item-item.result) c.as_slice-item-items.ensures (slice_get_read items (length items) c.loop-point.point c.item-item.result refl c.loop-point-test.true c.item-item.is) in
    subst (λ r. IsRelatedItem c.args.func.now r c.item-item.result) (sym c.as_slice-2.ensures.value) (c.in_ok-marks.ensures.relates c.loop-point.point c.item-item.result at)

pub loop-point-preserved : goal.loop-point-preserved
loop-point-preserved c = record {
  state = c.in_ok-look_at_point.ensures.next.state;
  copied = copied-more c.args.func.now c.loop-point.point c.as_slice-item-items.result.now c.as_slice-item-items.ensures c.item-item.result c.loop-point-test.true c.item-item.is c.loop-point.classes.class.items c.look_at_point.new.self.class.items c.loop-point.classes.joined c.look_at_point.new.self.joined
      c.in_ok-look_at_point.ensures.next.grows c.in_ok-look_at_point.ensures.within c.loop-point.invariant.copied;
  looked = looked-more c.args.func.now c.loop-point.point c.as_slice-item-items.result.now c.as_slice-item-items.ensures c.item-item.result c.loop-point-test.true c.item-item.is c.loop-point.classes.joined c.look_at_point.new.self.joined
      c.in_ok-look_at_point.ensures.next.kept c.in_ok-look_at_point.ensures.apart c.loop-point.invariant.looked;
}

pub returns-clause-none : goal.returns-clause-none
returns-clause-none c = λ e. let over = c.loop-point-test.false in looked-all c.args.func.now c.loop-point.point c.loop-point.classes.joined (omega (arith, ap length c.as_slice-item-items.ensures)) c.loop-point.invariant.looked e
