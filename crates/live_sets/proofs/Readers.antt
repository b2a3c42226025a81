-- The readers of a location.
use Rattle.std.proofs.Common.{◌≡◌, ℕ, ◌+◌, List, Some, sym, ap, subst, ◌∙◌, arith}
use Rattle.std.specs.Prelude.{slice_get}
use Rattle.std.specs.List.{Contains}
use Rattle.bril_tree.specs.declared.numbered.Instr.{Instr}
use Rattle.bril_tree.specs.Membership.{In}
use Rattle.bril_tree.specs.Operand.{Location, reads_of}
use Rattle.bril_tree.proofs.Members.{in_contains, contains_in}
use Rattle.flow_graph.specs.Accesses.{Accesses}
use Rattle.flow_graph.specs.Location.{number_of}
use Rattle.flow_graph.specs.Reads.{access_at, reads_from}
use Rattle.flow_graph.specs.declared.reads.Access.{Access}
use Rattle.flow_graph.proofs.Locations.{number-one}
use Rattle.flow_graph.proofs.ReadLists.{ReadBy, read-there, read_by}
use Rattle.live_sets.proofs.Law.{AreReaders}

pub read_listed : (code : List Instr) (x : Location) (point : ℕ) (item : Instr) → slice_get code point ≡ Some item → Contains (reads_of item) x → Accesses (reads_from 0 code) (number_of x) point
read_listed code x point item at reads =
    let z : 0 + point ≡ point = omega arith in
    contains_in _ (reads_from 0 code) (subst (λ n. In (access_at n x) (reads_from 0 code)) z (read-there 0 code point item x at (in_contains x (reads_of item) reads)))

-- the readers that the list has are those of the items
pub readers_are : (code : List Instr) (x : Location) (items : List ℕ) → ((item : ℕ) → (Contains items item → Accesses (reads_from 0 code) (number_of x) item) × (Accesses (reads_from 0 code) (number_of x) item → Contains items item)) → AreReaders code x items
readers_are code x items same = record {
  there = λ point item at reads. (same point).1 (read_listed code x point item at reads);
  only = λ point c. by point (read_by 0 code (record { item = point; location = number_of x }) (in_contains _ (reads_from 0 code) ((same point).0 c)));
}
  where
    by : (point : ℕ) → ReadBy 0 code (record { item = point; location = number_of x }) → (item : Instr) × (slice_get code point ≡ Some item) × Contains (reads_of item) x
    by point r =
        let z : 0 + r.k ≡ r.k = omega arith in
        let at : point ≡ r.k = ap (λ (d : Access). d.item) r.is ∙ z in
        let loc : x ≡ r.x = number-one x r.x (ap (λ (d : Access). d.location) r.is) in
        (r.item, ap (slice_get code) at ∙ r.at, contains_in x (reads_of r.item) (subst (λ y. In y (reads_of r.item)) (sym loc) r.among))
