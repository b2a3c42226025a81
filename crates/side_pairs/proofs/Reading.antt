-- The readers of locations.
use Rattle.std.proofs.Common.{◌≡◌, ◌≢◌, ◌⊎◌, ◌↔◌, ℕ, ◌+◌, ◌*◌, Bool, true, false, cond, List, [], ◌∷◌, ◌++◌, Some, refl, sym, ap, subst, ◌∙◌, inl, inr, ⊎_elim, arith}
use Rattle.std.specs.Prelude.{IsTrue, slice_get, ◌==◌}
use Rattle.std.proofs.lemmas.Bool.{cases_eq, eq-eqb, eqb-true}
use Rattle.bril_tree.specs.declared.numbered.Instr.{Instr}
use Rattle.bril_tree.specs.Membership.{In}
use Rattle.bril_tree.specs.Operand.{Location, Variable, Shadow, reads_of}
use Rattle.bril_tree.proofs.Members.{in_append_left, in_append_right, in_append_cases}
use Rattle.flow_graph.specs.declared.reads.Access.{Access}
use Rattle.flow_graph.specs.Location.{number_of}
use Rattle.flow_graph.specs.Reads.{access_at, reads_from}
use Rattle.flow_graph.proofs.ReadLists.{read-there, read_by}
use Rattle.side_laws.specs.Paired.{ReadAlone}
use Rattle.side_pairs.specs.declared.readers.Readers.{Readers}
use Rattle.side_pairs.specs.declared.readers.Readers.TheVariants.{Nobody, One, Many}
use Rattle.side_pairs.specs.Readers.{AreNoted, AreReaders, AreReadersOf, HasMany, HasOne, HasRead, readers_at, with_reader}

-- ---- one read more

module _ (reads : List Access) (read : Access) where
  abbrev kept-read : (location : ℕ) → HasRead reads location → HasRead (reads ++ read ∷ []) location
  kept-read location h = record { read = h.read; among = in_append_left h.read reads (read ∷ []) h.among; of = h.of }

  abbrev new-read : HasRead (reads ++ read ∷ []) read.location
  new-read = record { read = read; among = in_append_right read reads (read ∷ []) (inl refl); of = refl }

  -- a read is an old one, or the new one
  old_or_new : (other : Access) → In other (reads ++ read ∷ []) → In other reads ⊎ (other ≡ read)
  old_or_new other m = ⊎_elim (λ o. inl o) (λ n. ⊎_elim (λ e. inr e) (λ f. absurd f) n) (in_append_cases other reads (read ∷ []) m)

  -- the readers of another location
  other-readers : (location : ℕ) → location ≢ read.location → (r : Readers) → AreReadersOf reads location r → AreReadersOf (reads ++ read ∷ []) location r
  other-readers location apart Nobody h = λ m. ⊎_elim (λ o. h (record { read = m.read; among = o; of = m.of })) (λ e. apart (sym m.of ∙ ap (λ (z : Access). z.location) e)) (old_or_new m.read m.among)
  other-readers location apart (One item) h = record {
    each = λ other m of. ⊎_elim (λ o. h.each other o of) (λ e. absurd (apart (sym of ∙ ap (λ (z : Access). z.location) e))) (old_or_new other m);
    some = kept-read location h.some;
  }
  other-readers location apart Many h = record { first = kept-read location h.first; second = kept-read location h.second; apart = h.apart }

  one-more : (item : ℕ) (b : Bool) → (item == read.item) ≡ b → HasOne reads read.location item → AreReadersOf (reads ++ read ∷ []) read.location (cond b (One item) Many)
  one-more item true e h = let same = eqb-true item read.item e in record {
    each = λ other m of. ⊎_elim (λ o. h.each other o of) (λ n. ap (λ (z : Access). z.item) n ∙ sym same) (old_or_new other m);
    some = kept-read read.location h.some;
  }
  one-more item false e h = record {
    first = kept-read read.location h.some;
    second = new-read;
    apart = λ s. let z : true ≡ false = sym (eq-eqb item read.item (sym (h.each h.some.read h.some.among h.some.of) ∙ s)) ∙ e in cc;
  }

  -- the readers of its own location
  own-readers : (r : Readers) → AreReadersOf reads read.location r → AreReadersOf (reads ++ read ∷ []) read.location (with_reader read.item r)
  own-readers Nobody h = record {
    each = λ other m of. ⊎_elim (λ o. absurd (h (record { read = other; among = o; of = of }))) (λ e. ap (λ (z : Access). z.item) e) (old_or_new other m);
    some = new-read;
  }
  own-readers (One item) h = one-more item (item == read.item) refl h
  own-readers Many h = record { first = kept-read read.location h.first; second = kept-read read.location h.second; apart = h.apart }

  pub readers-more : (table noted : List Readers) → AreReaders reads table → AreNoted read table noted → AreReaders (reads ++ read ∷ []) noted
  readers-more table noted are more = record {
    at = λ location. ⊎_elim
        (λ same. subst (λ n. AreReadersOf (reads ++ read ∷ []) n (readers_at noted n)) (sym same) (subst (AreReadersOf (reads ++ read ∷ []) read.location) (sym more.here) (own-readers (readers_at table read.location) (are.at read.location))))
        (λ apart. subst (AreReadersOf (reads ++ read ∷ []) location) (sym (more.elsewhere location apart)) (other-readers location apart (readers_at table location) (are.at location)))
        (cases_eq location read.location);
  }

-- ---- who reads a variable

module _ (code : List Instr) (n g : ℕ) where
  -- a read of the variable by an item
  record Reader (item : ℕ) : Type 0 where
    a : Instr
    at : slice_get code item ≡ Some a
    among : In (Variable n) (reads_of a)

  is-variable : (x : Location) → number_of x ≡ 2 * n → x ≡ Variable n
  is-variable (Variable y) e = let s : y ≡ n = omega (arith, e) in ap Variable s
  is-variable (Shadow y) e = absurd (omega (arith, e))

  reader-of : (h : HasRead (reads_from 0 code) (2 * n)) → Reader h.read.item
  reader-of h =
      let r = read_by 0 code h.read h.among in
      let x = is-variable r.x (sym (ap (λ (z : Access). z.location) r.is) ∙ h.of) in
      let z : 0 + r.k ≡ r.k = omega arith in
      let k : r.k ≡ h.read.item = sym (ap (λ (z : Access). z.item) r.is ∙ z) in
      record { a = r.item; at = ap (slice_get code) (sym k) ∙ r.at; among = subst (λ y. In y (reads_of r.item)) x r.among }

  read-of : (i : ℕ) (a : Instr) → slice_get code i ≡ Some a → In (Variable n) (reads_of a) → (h : HasRead (reads_from 0 code) (2 * n)) × (h.read.item ≡ i)
  read-of i a at r = (record { read = access_at (0 + i) (Variable n); among = read-there 0 code i a (Variable n) at r; of = refl }, (let z : 0 + i ≡ i = omega arith in z))

  pub alone-nobody : (HasRead (reads_from 0 code) (2 * n) → ⊥) → ReadAlone code n g
  alone-nobody h i a at r = absurd (h (read-of i a at r).0)

  pub alone-one : (item : ℕ) → HasOne (reads_from 0 code) (2 * n) item → IsTrue (item == g) ↔ ReadAlone code n g
  alone-one item h = (
    (λ e i a at r. let m = read-of i a at r in sym m.1 ∙ h.each m.0.read m.0.among m.0.of ∙ eqb-true item g e),
    (λ alone. let r = reader-of h.some in eq-eqb item g (sym (h.each h.some.read h.some.among h.some.of) ∙ alone h.some.read.item r.a r.at r.among)),
  )

  pub alone-many : HasMany (reads_from 0 code) (2 * n) → ReadAlone code n g → ⊥
  alone-many h alone = let r = reader-of h.first in let s = reader-of h.second in h.apart (alone h.first.read.item r.a r.at r.among ∙ sym (alone h.second.read.item s.a s.at s.among))
