use Rattle.std.proofs.Common.{◌<◌, map, sym, subst, inl, inr, ⊎_elim, refl}
use Rattle.std.specs.List.{All, Contains}
use Rattle.std.proofs.lemmas.List.Elements.{All-append, All-map}
use Rattle.graph_search.specs.declared.reached_sets.Seed.{Seed}
use Rattle.graph_search.specs.Sets.{seeds_of}
use Rattle.ssa_search.specs.live_entry_count.Lanes.{seed_of}
use Rattle.ssa_search.proofs.lemmas.live_entry_count.Filling.{seeds-kept, seeds-only, seeds-there}
use Rattle.ssa_search.proofs.live_entry_count.search.push_seeds.Goals as goal

pub returns-clause-nodes : goal.returns-clause-nodes
returns-clause-nodes c = λ n old new.
    let bits = c.one_bit.result in
    subst (All (λ (seed : Seed). seed.node < n)) (sym c.in_ok-push_nodes.ensures)
    (All-append (λ (seed : Seed). seed.node < n) c.args.seeds.now.items (map (seed_of bits) c.args.nodes.now) old (All-map (λ (seed : Seed). seed.node < n) (seed_of bits) c.args.nodes.now new))

pub returns-clause-kept : goal.returns-clause-kept
returns-clause-kept c = λ k node h.
    subst (λ l. Contains (seeds_of k l) node) (sym c.in_ok-push_nodes.ensures) (seeds-kept k node c.args.seeds.now.items (map (seed_of c.one_bit.result) c.args.nodes.now) h)

pub returns-clause-there : goal.returns-clause-there
returns-clause-there c = λ node h.
    subst (λ l. Contains (seeds_of c.args.lane l) node) (sym c.in_ok-push_nodes.ensures) (seeds-there c.args.lane node c.one_bit.result c.args.seeds.now.items c.args.nodes.now ((c.one_bit.ensures c.args.lane).1 refl) h)

pub returns-clause-only : goal.returns-clause-only
returns-clause-only c = λ k node h.
    ⊎_elim inl (λ s. inr ((c.one_bit.ensures k).0 s.0, s.1))
    (seeds-only k node c.one_bit.result c.args.seeds.now.items c.args.nodes.now (subst (λ l. Contains (seeds_of k l) node) c.in_ok-push_nodes.ensures h))
