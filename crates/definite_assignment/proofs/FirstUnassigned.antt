-- The first open read is the first read that may be unassigned.
use Rattle.std.proofs.Common.{◌≡◌, ℕ, ◌+◌, ◌/◌, ◌<◌, Some, length, sym, ap, ◌∙◌, subst, arith}
use Rattle.std.specs.Prelude.{slice_get}
use Rattle.std.proofs.lemmas.List.Elements.{All-weaker, All-contains}
use Rattle.std.proofs.lemmas.Option.{slice_get_within}
use Rattle.bril_tree.specs.Assigned.{IsMaybeUnassigned}
use Rattle.bril_tree.specs.Operand.{Location, Variable, Shadow, reads_of}
use Rattle.bril_tree.specs.declared.numbered_function.Func.{Func}
use Rattle.bril_tree.proofs.Elements.{in_get}
use Rattle.bril_tree.proofs.Members.{in_contains}
use Rattle.definite_assignment.specs.Leaving.{leaving_arcs}
use Rattle.definite_assignment.specs.Reads.{IsOpen, IsFirstOpen}
use Rattle.definite_assignment.specs.Unassigned.{ReadsUnassigned, IsFirstUnassigned, variable_of}
use Rattle.definite_assignment.proofs.FirstRead.{IsReadAt, read-is}
use Rattle.definite_assignment.proofs.Law.{IsSoundGraph, unassigned-iff}
use Rattle.flow_graph.specs.Graph.{GraphView}
use Rattle.flow_graph.specs.Location.{number_of}
use Rattle.flow_graph.specs.Reads.{access_at, reads_from}
use Rattle.flow_graph.specs.declared.reads.Access.{Access}
use Rattle.flow_graph.proofs.ReadLists.{read-there}

half : (location : Location) → number_of location / 2 ≡ variable_of location
half (Variable x) = omega arith
half (Shadow x) = omega arith

pub none-unassigned : (f : Func) (graph : GraphView) (first : ℕ) → IsSoundGraph f.code graph →
    IsFirstOpen (leaving_arcs f.code graph.edges) f.args (reads_from 0 f.code) first → first ≡ length (reads_from 0 f.code) → (point : ℕ) → ¬ ReadsUnassigned f point
none-unassigned f graph first g is all point r =
    let there = in_get (access_at (0 + point) r.location) (reads_from 0 f.code) (read-there 0 f.code point r.item r.location r.here (in_contains r.location (reads_of r.item) r.reads)) in
    let low : there.0 < length (reads_from 0 f.code) = slice_get_within (reads_from 0 f.code) there.0 (access_at (0 + point) r.location) there.1 in
    let one : point ≡ 0 + point = omega arith in
    is.none there.0 (access_at (0 + point) r.location) (omega arith) there.1
    (subst (λ p. IsOpen (leaving_arcs f.code graph.edges) f.args (access_at p r.location)) one ((unassigned-iff f.code f.args graph g r.location point).1 r.maybe))

pub first-unassigned : (f : Func) (graph : GraphView) (first : ℕ) (read : Access) → IsSoundGraph f.code graph →
    IsFirstOpen (leaving_arcs f.code graph.edges) f.args (reads_from 0 f.code) first → slice_get (reads_from 0 f.code) first ≡ Some read →
    IsFirstUnassigned f read.item (read.location / 2)
first-unassigned f graph first read g is e =
    let arcs = leaving_arcs f.code graph.edges in
    let at : IsReadAt 0 f.code (IsOpen arcs f.args) read = read-is 0 f.code (IsOpen arcs f.args) first read e (λ j r low h. is.none j r low h) in
    let here : at.at ≡ read.item = let n = at.number in omega arith in
    let point : 0 + at.at ≡ read.item = sym at.number in
    let s = at.splits in
    let opens : (p : ℕ) (location : Location) → IsMaybeUnassigned f.code f.args location p → IsOpen arcs f.args (access_at p location) =
    λ p location m. (unassigned-iff f.code f.args graph g location p).1 m in
    record {
      item = at.instr;
      here = subst (λ p. slice_get f.code p ≡ Some at.instr) here at.here;
      earlier = s.earlier;
      location = s.location;
      later = s.later;
      reads = s.splits;
      is = sym (half s.location) ∙ ap (λ r. r.location / 2) s.is;
      maybe = (unassigned-iff f.code f.args graph g s.location read.item).0
          (subst (λ p. IsOpen arcs f.args (access_at p s.location)) point (subst (IsOpen arcs f.args) (sym s.is) (is.is_open read e)));
      others = All-weaker (λ other. ¬ IsOpen arcs f.args (access_at (0 + at.at) other)) (λ other. ¬ IsMaybeUnassigned f.code f.args other read.item)
          (λ other closed m. closed (subst (λ p. IsOpen arcs f.args (access_at p other)) (sym point) (opens read.item other m))) s.earlier s.others;
      least = λ before low r.
          let low' : before < at.at = omega arith in
          let one : before ≡ 0 + before = omega arith in
          let closed : ¬ IsOpen arcs f.args (access_at (0 + before) r.location) =
          All-contains (λ location. ¬ IsOpen arcs f.args (access_at (0 + before) location)) (reads_of r.item) r.location (at.least before r.item low' r.here) r.reads in
          closed (subst (λ p. IsOpen arcs f.args (access_at p r.location)) one (opens before r.location r.maybe));
    }
