use Rattle.std.specs.Prelude.{is_some}
use Rattle.bril_tree.specs.Assigned.{assigned_of}
use Rattle.bril_tree.proofs.Acceptance.{function_walks}
use Rattle.bril_tree.proofs.Liveness.{live_assigned}
use Rattle.bril_tree.proofs.Members.{contains_in}
use Rattle.bril_tree.proofs.laws.live_locations_are_assigned.Goals as goal

pub returns : goal.returns
returns c = λ p f accepted location point live walk is ends.
    contains_in location (assigned_of f.code f.args walk).locations (live_assigned f.code f.args (is_some f.ret) (function_walks p f accepted) location point live walk is ends)
