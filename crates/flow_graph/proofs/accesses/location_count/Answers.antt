use Rattle.std.proofs.Common.{◌<◌, ◌≤◌, take, subst, arith}
use Rattle.std.specs.List.{All}
use Rattle.std.proofs.lemmas.List.{take_all}
use Rattle.std.proofs.lemmas.List.Elements.{All-more, All-weaker}
use Rattle.flow_graph.proofs.accesses.location_count.Goals as goal

pub loop-access-preserved : goal.loop-access-preserved
loop-access-preserved c =
    let h = c.count_above-count.ensures in
    let result = c.count_above-count.result in
    let list = c.args.list.now in
    let i = c.loop-access.access-index in
    let same : c.loop-access.count ≤ result = h.same in
    record {
      above = All-more (λ access. access.location < result) list i (record { item = 0; location = 0 }) c.loop-access-test.true
          (All-weaker (λ access. access.location < c.loop-access.count) (λ access. access.location < result) (λ access low. omega arith) (take i list) c.loop-access.invariant.above) h.above;
      few = h.few;
    }

pub returns-clause-above : goal.returns-clause-above
returns-clause-above c =
    let all = take_all c.loop-access.access-index c.args.list.now (omega arith) in
    subst (All (λ access. access.location < c.loop-access.count)) all c.loop-access.invariant.above
