use Rattle.std.proofs.Common.{◌≡◌, ◌+◌, suc, subst, ◌∙◌, arith}
use Rattle.ssa_search.specs.accesses.Entries.{AreEntriesBefore}
use Rattle.ssa_search.proofs.lemmas.accesses.Labels.{entries-all}
use Rattle.ssa_search.proofs.accesses.entries.label_entries.Goals as goal

pub loop-point-preserved : goal.loop-point-preserved
loop-point-preserved c =
    let next : suc c.loop-point.point ≡ c.loop-point.point + 1 = omega arith in
    record {
      nodes = c.in_ok-push_label.ensures.nodes ∙ c.loop-point.invariant.nodes;
      before = subst (λ p. AreEntriesBefore c.args.code.now p c.push_label.new.entries.items) next c.in_ok-push_label.ensures.behind;
    }

pub returns : goal.returns
returns c = entries-all c.args.code.now c.loop-point.point c.loop-point.entries.items (let over = c.loop-point-test.false in omega (arith, over)) c.loop-point.invariant.before
