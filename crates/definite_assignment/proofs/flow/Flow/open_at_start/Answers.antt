use Rattle.std.proofs.Common.{◌≡◌, ◌<◌, map, true, sym, ap, ◌∙◌, subst}
use Rattle.definite_assignment.specs.Leaving.{turned}
use Rattle.definite_assignment.specs.Window.{location_in, place_of}
use Rattle.definite_assignment.proofs.Turned.{turned-reaches}
use Rattle.definite_assignment.proofs.Windows.{location-back, place-low}
use Rattle.graph_search.specs.Path.{IsReached, other_than}
use Rattle.graph_search.specs.Sets.{has_bit, seeds_of}
use Rattle.graph_search.proofs.Paths.{reached_seed}
use Rattle.definite_assignment.proofs.flow.Flow.open_at_start.Goals as goal

pub returns-clause-all : goal.returns-clause-all
returns-clause-all c = λ n read e is unassigned.
    let self = c.args.self.now in
    let k = place_of read.location in
    let low : k < 64 = place-low read.location in
    let location : location_in c.args.window k ≡ read.location = ap (λ w. location_in w k) (sym is) ∙ location-back read.location in
    let seeds = c.in_ok-seeds.seeds.items in
    let back = map turned self.forward.arcs in
    let there : IsReached back (seeds_of k seeds) (other_than read.location) read.item =
    reached_seed back (seeds_of k seeds) (other_than read.location) read.item (c.in_ok-seeds.ensures.all n read e is unassigned.local) in
    let start : IsReached back (seeds_of k seeds) (other_than read.location) 0 = turned-reaches self.forward.arcs (seeds_of k seeds) read.location read.item unassigned.reached there in
    let past : IsReached back (seeds_of k seeds) (other_than (location_in c.args.window k)) 0 = subst (λ l. IsReached back (seeds_of k seeds) (other_than l) 0) (sym location) start in
    let searched : IsReached self.backward.arcs (seeds_of k c.as_slice.result.now) (other_than (location_in c.args.window k)) 0 =
    subst (λ arcs. IsReached arcs (seeds_of k c.as_slice.result.now) (other_than (location_in c.args.window k)) 0) (sym self.turned)
    (subst (λ ss. IsReached back (seeds_of k ss) (other_than (location_in c.args.window k)) 0) (sym c.as_slice.ensures.value) past) in
    subst (λ w. has_bit w k ≡ true) (sym c.word.ensures) ((c.in_ok-search.ensures.found 0 k low).1 searched)
