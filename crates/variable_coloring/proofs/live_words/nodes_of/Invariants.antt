use Rattle.std.proofs.Common.{◌≡◌, map, take}
use Rattle.graph_search.specs.declared.reached_sets.Seed.{Seed}
use Rattle.variable_coloring.proofs.live_words.nodes_of.Given as goal

abbrev pub invariant-loop-seed : goal.invariant-loop-seed
invariant-loop-seed l = l.nodes.items ≡ map (λ (seed : Seed). seed.node) (take l.seed-index l.seeds)
