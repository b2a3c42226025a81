-- A block is live exactly where the count of those that are isn't 0.
use Rattle.std.proofs.Common.{◌≡◌, ℕ, ◌==◌, not, ◌∙◌, sym, ap}
use Rattle.std.specs.List.{count_by}
use Rattle.bril_heap.specs.Heap.{blocks_of}
use Rattle.bril_heap.proofs.Live.{is_live_any-count, count-seen}
use Rattle.bril_heap.proofs.cells.Cells.live.Goals as goal

pub returns-clause-any : goal.returns-clause-any
returns-clause-any c =
    let counted : count_by (λ b. b.is_live) (blocks_of c.args.self.now) ≡ c.self.inside.live = rw (← c.self.view_is) (count-seen c.self.inside.blocks.items ∙ sym c.self.invariant.alive) in
    is_live_any-count (blocks_of c.args.self.now) ∙ ap (λ (n : ℕ). not (n == 0)) counted
