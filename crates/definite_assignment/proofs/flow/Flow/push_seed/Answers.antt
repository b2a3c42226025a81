use Rattle.std.proofs.Common.{List, refl, sym, subst}
use Rattle.std.specs.List.{Contains}
use Rattle.graph_search.specs.Sets.{seeds_of}
use Rattle.graph_search.specs.declared.reached_sets.Seed.{Seed}
use Rattle.graph_search.proofs.Seeds.{seeds-kept, seeds-pushed}
use Rattle.definite_assignment.specs.Window.{place_of}
use Rattle.definite_assignment.proofs.flow.Flow.push_seed.Goals as goal

pub returns-in_ok-push-clause-kept : goal.returns-in_ok-push-clause-kept
returns-in_ok-push-clause-kept c = λ k node h.
    let seed : Seed = record { node = c.args.read.item; bits = c.one_bit.result } in
    subst (λ items. Contains (seeds_of k items) node) (sym {A = List Seed} c.in_ok-push.ensures.items) (seeds-kept c.args.seeds.now.items seed node k h)

pub returns-in_ok-push-clause-there : goal.returns-in_ok-push-clause-there
returns-in_ok-push-clause-there c = λ local.
    let seed : Seed = record { node = c.args.read.item; bits = c.one_bit.result } in
    let place = place_of c.args.read.location in
    subst (λ items. Contains (seeds_of place items) c.args.read.item) (sym {A = List Seed} c.in_ok-push.ensures.items)
    (seeds-pushed c.args.seeds.now.items seed c.args.read.item place (refl, (c.one_bit.ensures place).1 (sym c.place_of.ensures.place)))
