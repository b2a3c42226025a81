use Rattle.std.proofs.Common.{◌≡◌, [], ◌∷◌, true, sym, ap, ◌∙◌, subst}
use Rattle.definite_assignment.specs.Reads.{IsOpen}
use Rattle.definite_assignment.specs.Window.{IsFound, location_in, place_of, window_of}
use Rattle.definite_assignment.proofs.Lowering.{Lowers-none, Lowers-same}
use Rattle.definite_assignment.proofs.Starts.{start-only, start-there}
use Rattle.definite_assignment.proofs.Windows.{location-back, place-low}
use Rattle.flow_graph.specs.declared.reads.Access.{Access}
use Rattle.graph_search.specs.Path.{IsReached, other_than}
use Rattle.graph_search.specs.Sets.{has_bit}
use Rattle.graph_search.proofs.WordBits.{no-bits}
use Rattle.definite_assignment.proofs.flow.Flow.lowered.Goals as goal

pub returns-then-bits-eq0-clause-lowered : goal.returns-then-bits-eq0-clause-lowered
returns-then-bits-eq0-clause-lowered c =
    let self = c.args.self.now in
    Lowers-none self.reads.items (λ read. (window_of read.location ≡ c.args.window) × IsOpen self.forward.arcs self.args read) c.args.first
    (λ n read e h. no-bits (place_of read.location) (subst (λ w. has_bit w (place_of read.location) ≡ true) c.if-bits-eq0.true (c.in_ok-bits.ensures.all n read e h.0 h.1)))

pub returns-clause-lowered : goal.returns-clause-lowered
returns-clause-lowered c =
    let self = c.args.self.now in
    let arcs = self.forward.arcs in
    let window = c.args.window in
    let bits = c.in_ok-bits.bits in
    let words = c.search.new.self.words in
    let location : (read : Access) → window_of read.location ≡ window → location_in window (place_of read.location) ≡ read.location =
    λ read is. ap (λ w. location_in w (place_of read.location)) (sym is) ∙ location-back read.location in
    Lowers-same self.reads.items (λ read. (window_of read.location ≡ window) × IsFound self.args words read) (λ read. (window_of read.location ≡ window) × IsOpen arcs self.args read) c.args.first c.first_found.result
    (λ read h. let k = place_of read.location in (
      h.0,
      record {
        local = h.1.local;
        reached = subst (λ l. IsReached arcs (0 ∷ []) (other_than l) read.item) (location read h.0)
            (start-only arcs (other_than (location_in window k)) bits k read.item ((c.in_ok-search.ensures.found read.item k (place-low read.location)).0 h.1.reached));
      },
    ))
    (λ n read e h. let k = place_of read.location in (
      h.0,
      record {
        local = h.1.local;
        reached = (c.in_ok-search.ensures.found read.item k (place-low read.location)).1
            (start-there arcs (other_than (location_in window k)) bits k read.item (c.in_ok-bits.ensures.all n read e h.0 h.1)
            (subst (λ l. IsReached arcs (0 ∷ []) (other_than l) read.item) (sym (location read h.0)) h.1.reached));
      },
    ))
    c.first_found.ensures
