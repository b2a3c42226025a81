use Rattle.std.proofs.Common.{◌≡◌, length, take, drop, ◌++◌, rules}
use Rattle.graph_search.proofs.Stamps.{AreReached-none, written}
use Rattle.graph_search.proofs.reached.Reached.restart.Goals as goal

pub invariant_of-self : goal.invariant_of-self
invariant_of-self c =
    let new = c.next_stamp-self-inside.new.stamps in
    let e : take c.self.inside.stamps.len (new ++ drop (length new) c.self.inside.stamps.items) ≡ new = written c.self.inside.stamps.len new c.self.inside.stamps.items (search rules) (cc) in
    rw (e, c.clear.ensures.items) (AreReached-none new c.next_stamp-self-inside.result c.next_stamp-self-inside.ensures)
