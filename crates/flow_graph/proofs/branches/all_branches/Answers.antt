use Rattle.std.proofs.Common.{◌≡◌, map, arith}
use Rattle.std.proofs.lemmas.Grind.{common_steps}
use Rattle.flow_graph.specs.Branches.{branches_of, branches_from_on}
use Rattle.flow_graph.proofs.BranchRows.{rows_are}
use Rattle.flow_graph.proofs.branches.all_branches.Goals as goal

pub returns : goal.returns
returns c =
    let same : map branches_of c.push-2.new.self.items ≡ branches_from_on c.args.code.now 0 c.args.code.now = grind (arith, common_steps) in
    rows_are c.args.code.now c.push-2.new.self.items same
