use Rattle.std.proofs.Common.{get_or, suc, ap, subst, sym, ◌∙◌, refl}
use Rattle.std.specs.Prelude.{slice_set}
use Rattle.variable_renaming.specs.Classes.{class_of}
use Rattle.std.proofs.Common.{arith, take, ◌+◌}
use Rattle.variable_coloring.specs.Growing.{StampsClasses}
use Rattle.variable_coloring.proofs.Stamping.{stamps-all, stamps-more, stamps-none}
use Rattle.variable_coloring.proofs.classes.Classes.stamp_all.Goals as goal

pub loop-y-init : goal.loop-y-init
loop-y-init c = record { class = refl; placed = refl; shadow = refl; stamps = stamps-none c.args.turn c.args.self.now.class.items c.args.met.now c.args.self.now.stamps.items }

pub loop-y-preserved : goal.loop-y-preserved
loop-y-preserved c =
    let i = c.loop-y.invariant in
    record {
      class = c.stamp.ensures.class ∙ i.class;
      placed = c.stamp.ensures.placed ∙ i.placed;
      shadow = c.stamp.ensures.shadow ∙ i.shadow;
      stamps = subst (StampsClasses c.args.turn c.args.self.now.class.items (take (c.loop-y.y-index + 1) c.args.met.now) c.args.self.now.stamps.items)
          (sym (c.stamp.ensures.stamps ∙ ap (λ k. slice_set c.loop-y.self.stamps.items k (suc c.args.turn)) (ap (λ l. class_of l (get_or c.args.met.now c.loop-y.y-index 0)) i.class)))
          (stamps-more c.args.turn c.args.self.now.class.items c.args.met.now c.args.self.now.stamps.items c.loop-y.self.stamps.items c.loop-y.y-index c.loop-y-test.true i.stamps);
    }

pub returns-clause-stamps : goal.returns-clause-stamps
returns-clause-stamps c = stamps-all c.args.turn c.args.self.now.class.items c.args.met.now c.args.self.now.stamps.items c.loop-y.self.stamps.items c.loop-y.y-index (let h = c.loop-y-test.false in omega (arith, h)) c.loop-y.invariant.stamps
