use Rattle.std.proofs.Common.{◌*◌, ◌∙◌, arith}
use Rattle.variable_coloring.proofs.Pairing.{all-found, more-found}
use Rattle.variable_coloring.proofs.pairs.Meetings.look_at_all.Goals as goal

pub loop-block-preserved : goal.loop-block-preserved
loop-block-preserved c =
    let inv = c.loop-block.invariant in
    record {
      sets = c.find.ensures.sets ∙ inv.sets;
      points = c.find.ensures.points ∙ inv.points;
      done = c.in_ok-look_at.ensures.done;
      found = more-found c.args.related.func.now c.loop-block.block c.loop-block.self.list.items c.look_at.new.self.list.items inv.found c.in_ok-look_at.ensures.adds;
    }

pub returns : goal.returns
returns c = all-found c.args.related.func.now (64 * c.loop-block.block) c.loop-block.self.list.items (let h = c.loop-block-test.false in let l = c.requires.long in omega (arith, h, l)) c.loop-block.invariant.found
