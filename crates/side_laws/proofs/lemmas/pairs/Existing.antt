-- A function has a list of pairs.
use Rattle.std.proofs.Common.{◌≡◌, ◌⊎◌, ℕ, zero, suc, ◌+◌, ◌<◌, Bool, true, false, List, [], ◌∷◌, ◌++◌, length, Option, Some, None, refl, sym, ap, subst, ◌∙◌, inl, inr, ⊎_elim, arith}
use Rattle.std.specs.Prelude.{slice_get, slice_index}
use Rattle.std.proofs.lemmas.Bool.{cases_eq}
use Rattle.std.proofs.lemmas.Option.{same_Some, slice_get_within}
use Rattle.bril_tree.specs.declared.numbered.Instr.{Instr}
use Rattle.bril_tree.specs.declared.numbered.Instr.TheVariants.{Label, Const, Act}
use Rattle.bril_tree.specs.declared.types.Ty.{Ty}
use Rattle.bril_tree.specs.declared.operation.Op.TheVariants as op
use Rattle.bril_tree.specs.Membership.{In}
use Rattle.bril_tree.specs.Operand.{Variable, reads_of}
use Rattle.bril_tree.specs.Step.{point_of}
use Rattle.bril_tree.proofs.Assignments.{in_or_not}
use Rattle.side_laws.specs.Paired.{Within, Commits, item_place, is_guard, is_nop, labels_of_item, Run, IsRun, Going, Inverts, Pairs, Keeps, Ends, Pair, Pairing, BeginsWith, goes, stands, pairs_by, PairsFrom, PairsOf, PairsWithin, ArePairs, Walker, settled, IsBranchOn, IsGuardOn, IsInverted, IsDirect, IsKept, ReadAlone}
use Rattle.side_laws.proofs.lemmas.pairs.Deciding.{same-at, decide-run}
use Rattle.bril_tree.proofs.Deciding.{Decided, same-bool}

abbrev args_at : Option Instr → List ℕ
args_at None = []
args_at (Some (Label l)) = []
args_at (Some (Const d t v)) = []
args_at (Some (Act d t o args fns ls)) = args

abbrev dest_at : Option Instr → Option ℕ
dest_at None = None
dest_at (Some (Label l)) = None
dest_at (Some (Const d t v)) = None
dest_at (Some (Act d t o args fns ls)) = d

abbrev type_at : Option Instr → Option Ty
type_at None = None
type_at (Some (Label l)) = None
type_at (Some (Const d t v)) = None
type_at (Some (Act d t o args fns ls)) = t

module _ (code : List Instr) where
  -- ---- what stands at a point

  decide-branch : (o : Option Instr) → Decided ((c : ℕ) × (on : ℕ) × (off : ℕ) × IsBranchOn o c on off)
  decide-branch o =
      let c = slice_index (args_at o) 0 in
      let on = slice_index (labels_of_item o) 0 in
      let off = slice_index (labels_of_item o) 1 in
      ⊎_elim (λ e. inl (c, on, off, e))
      (λ n. inr (λ h.
      let ec : h.0 ≡ slice_index (args_at o) 0 = ap (λ z. slice_index (args_at z) 0) (sym h.3) in
      let eon : h.1 ≡ slice_index (labels_of_item o) 0 = ap (λ z. slice_index (labels_of_item z) 0) (sym h.3) in
      let eoff : h.2 ≡ slice_index (labels_of_item o) 1 = ap (λ z. slice_index (labels_of_item z) 1) (sym h.3) in
      n (h.3 ∙ (λ i. Some (Act None None op.Br (ec i ∷ []) [] (eon i ∷ eoff i ∷ []))))))
      (same-at o (Act None None op.Br (c ∷ []) [] (on ∷ off ∷ [])))

  decide-guard : (o : Option Instr) (c : ℕ) → Decided (IsGuardOn o c)
  decide-guard o c =
      let l = slice_index (labels_of_item o) 0 in
      ⊎_elim (λ e. inl (l, e)) (λ n. inr (λ h. let el : h.0 ≡ slice_index (labels_of_item o) 0 = ap (λ z. slice_index (labels_of_item z) 0) (sym h.1) in n (h.1 ∙ (λ i. Some (Act None None op.Guard (c ∷ []) [] (el i ∷ []))))))
      (same-at o (Act None None op.Guard (c ∷ []) [] (l ∷ [])))

  -- no other of the first items reads the variable
  alone-among : (n g count : ℕ) → ((i : ℕ) (a : Instr) → i < count → slice_get code i ≡ Some a → In (Variable n) (reads_of a) → i ≡ g) ⊎ ((i : ℕ) × (a : Instr) × (slice_get code i ≡ Some a) × In (Variable n) (reads_of a) × (i ≡ g → ⊥))
  alone-among n g zero = inl (λ i a l at r. absurd (omega (arith, l)))
  alone-among n g (suc count) = ⊎_elim (λ rest. by rest (slice_get code count) refl) inr (alone-among n g count)
    where
      by : ((i : ℕ) (a : Instr) → i < count → slice_get code i ≡ Some a → In (Variable n) (reads_of a) → i ≡ g) → (o : Option Instr) → slice_get code count ≡ o
          → ((i : ℕ) (a : Instr) → i < suc count → slice_get code i ≡ Some a → In (Variable n) (reads_of a) → i ≡ g) ⊎ ((i : ℕ) × (a : Instr) × (slice_get code i ≡ Some a) × In (Variable n) (reads_of a) × (i ≡ g → ⊥))
      by rest None none = inl (λ i a l at r. ⊎_elim (λ e. absurd (let z : None ≡ Some a = sym none ∙ ap (slice_get code) (sym e) ∙ at in cc)) (λ d. rest i a (omega (arith, l, d)) at r) (cases_eq i count))
      by rest (Some b) here = ⊎_elim
          (λ reads. ⊎_elim (λ same. inl (λ i a l at r. ⊎_elim (λ e. e ∙ same) (λ d. rest i a (omega (arith, l, d)) at r) (cases_eq i count))) (λ other. inr (count, b, here, reads, other)) (cases_eq count g))
          (λ n'. inl (λ i a l at r. ⊎_elim (λ e. absurd (n' (subst (λ z. In (Variable n) (reads_of z)) (same_Some a b (sym at ∙ ap (slice_get code) e ∙ here)) r))) (λ d. rest i a (omega (arith, l, d)) at r) (cases_eq i count)))
          (in_or_not (Variable n) (reads_of b))

  decide-alone : (n g : ℕ) → Decided (ReadAlone code n g)
  decide-alone n g = ⊎_elim (λ all. inl (λ i a at r. let w = slice_get_within code i a at in all i a w at r)) (λ b. inr (λ h. b.4 (h b.0 b.1 b.2 b.3))) (alone-among n g (length code))

  module _ (i a : ℕ) where
    abbrev Inverted : Type 0
    Inverted = (c : ℕ) × (on : ℕ) × (off : ℕ) × IsInverted code i a c on off

    inverted-by : (c on off : ℕ) → IsBranchOn (slice_get code a) c on off → (n : ℕ) → dest_at (slice_get code i) ≡ Some n → Decided Inverted
    inverted-by c on off turns n dest = ⊎_elim
        (λ nots. ⊎_elim
        (λ guards. ⊎_elim (λ same. inr (λ h. h.3.apart (number h ∙ same ∙ sym (condition h))))
        (λ apart. ⊎_elim (λ alone. inl (c, on, off, record { n = n; ty = type_at (slice_get code i); nots = nots; guards = guards; turns = turns; apart = apart; alone = alone }))
        (λ na. inr (λ h. na (subst (λ z. ReadAlone code z (suc i)) (number h) h.3.alone))) (decide-alone n (suc i)))
        (cases_eq n c))
        (λ ng. inr (λ h. ng (subst (IsGuardOn (slice_get code (suc i))) (number h) h.3.guards))) (decide-guard (slice_get code (suc i)) n))
        (λ nn. inr (λ h. let ty : h.3.ty ≡ type_at (slice_get code i) = ap type_at (sym h.3.nots) in let en = number h in let ec = condition h in nn (h.3.nots ∙ (λ z. Some (Act (Some (en z)) (ty z) op.Not (ec z ∷ []) [] [])))))
        (same-at (slice_get code i) (Act (Some n) (type_at (slice_get code i)) op.Not (c ∷ []) [] []))
      where
        number : (h : Inverted) → h.3.n ≡ n
        number h = same_Some h.3.n n (ap dest_at (sym h.3.nots) ∙ dest)

        condition : (h : Inverted) → h.0 ≡ c
        condition h = ap (λ z. slice_index (args_at z) 0) (sym h.3.turns ∙ turns)

    decide-inverted : Decided Inverted
    decide-inverted = ⊎_elim (λ t. by t.0 t.1 t.2 t.3 (dest_at (slice_get code i)) refl) (λ n. inr (λ h. n (h.0, h.1, h.2, h.3.turns))) (decide-branch (slice_get code a))
      where
        by : (c on off : ℕ) → IsBranchOn (slice_get code a) c on off → (d : Option ℕ) → dest_at (slice_get code i) ≡ d → Decided Inverted
        by c on off t None e = inr (λ h. let z : None ≡ Some h.3.n = sym e ∙ ap dest_at h.3.nots in cc)
        by c on off t (Some n) e = inverted-by c on off t n e

    decide-direct : Decided ((c : ℕ) × (on : ℕ) × (off : ℕ) × IsDirect code i a c on off)
    decide-direct = ⊎_elim
        (λ t. ⊎_elim (λ g. inl (t.0, t.1, t.2, record { guards = g; turns = t.3 })) (λ n. inr (λ h. n (subst (IsGuardOn (slice_get code i)) (ap (λ z. slice_index (args_at z) 0) (sym h.3.turns ∙ t.3)) h.3.guards))) (decide-guard (slice_get code i) t.0))
        (λ n. inr (λ h. n (h.0, h.1, h.2, h.3.turns))) (decide-branch (slice_get code a))

    decide-kept : Decided (IsKept code i a)
    decide-kept = by (slice_get code i) refl
      where
        by : (o : Option Instr) → slice_get code i ≡ o → Decided (IsKept code i a)
        by None e = inr (λ h. let z : None ≡ Some h.item = sym e ∙ h.at in cc)
        by (Some b) e = ⊎_elim
            (λ same. ⊎_elim (λ p. inl (record { item = b; at = e; same = same; no_guard = p })) (λ n. inr (λ h. n (ap is_guard (sym e ∙ h.at) ∙ h.no_guard))) (same-bool (is_guard (Some b)) false))
            (λ n. inr (λ h. n (h.same ∙ sym h.at ∙ e))) (same-at (slice_get code a) b)

    going : Going code i a
    going = ⊎_elim (λ h. Inverts h.0 h.1 h.2 h.3) (λ n. ⊎_elim (λ h. Pairs h.0 h.1 h.2 (λ c on off x. n (c, on, off, x)) h.3) (λ m. ⊎_elim (λ h. Keeps (λ c on off x. n (c, on, off, x)) (λ c on off x. m (c, on, off, x)) h) (λ k. Ends (λ c on off x. n (c, on, off, x)) (λ c on off x. m (c, on, off, x)) k) decide-kept) decide-direct) decide-inverted

  -- ---- the pairs of a run

  module _ (r : Run) (is : IsRun code r) where
    abbrev Found : Pairing → ℕ → Type 0
    Found X room = (i : ℕ) (w : Walker) (kept : List ℕ) → i + room ≡ suc (r.start + r.size) → (pairs : List Pair) × X i w kept pairs

    abbrev Skipped : Pairing → ℕ → Type 0
    Skipped Y room = (i left : ℕ) (c on off : ℕ) (kept : List ℕ) → i + suc room ≡ suc (r.start + r.size) → IsGuardOn (slice_get code (suc i)) c → (pairs : List Pair) × BeginsWith (record { guard = suc i; bail = r.bail; kept = kept; other = on }) (Y (suc (suc i)) (record { left = left; point = point_of off code }) kept) pairs

    met : (X Y : Pairing) (room : ℕ) → Found X room → Skipped Y room → (i : ℕ) (w : Walker) (kept : List ℕ) → i + suc room ≡ suc (r.start + r.size) → (pairs : List Pair) × pairs_by code r.bail X Y i w kept pairs
    met X Y room rest skip i w kept er = by (is_nop (slice_get code i)) refl
      where
        standing : (left : ℕ) → (pairs : List Pair) × stands code r.bail X Y i left (settled code w.left w.point).point kept pairs
        standing zero = ([], refl)
        standing (suc left) = goes-so (going i (settled code w.left w.point).point)
          where
            goes-so : (g : Going code i (settled code w.left w.point).point) → (pairs : List Pair) × ((h : Going code i (settled code w.left w.point).point) × goes code r.bail X Y left kept pairs h)
            goes-so (Inverts c on off h) = let s = skip i left h.n on off kept er h.guards in (s.0, (Inverts c on off h, s.1))
            goes-so (Pairs c on off n h) = let s = rest (suc i) (record { left = left; point = point_of on code }) kept (omega (arith, er)) in (record { guard = i; bail = r.bail; kept = kept; other = off } ∷ s.0, (Pairs c on off n h, (refl, s.1)))
            goes-so (Keeps n m h) = let s = rest (suc i) (record { left = left; point = suc (settled code w.left w.point).point }) (kept ++ i ∷ []) (omega (arith, er)) in (s.0, (Keeps n m h, s.1))
            goes-so (Ends n m h) = ([], (Ends n m h, refl))

        by : (b : Bool) → is_nop (slice_get code i) ≡ b → (pairs : List Pair) × pairs_by code r.bail X Y i w kept pairs
        by true e = let s = rest (suc i) w kept (omega (arith, er)) in (s.0, inl (e, s.1))
        by false e = let s = standing (settled code w.left w.point).left in (s.0, inr (e, s.1))

    -- no guard stands at the commit
    no-skip : Skipped (λ i w kept pairs. ⊥) 0
    no-skip i left c on off kept er guard =
        let same : suc i ≡ suc (r.start + r.size) = omega (arith, er) in
        absurd (let z : Within ≡ Commits = ap item_place (sym guard.1) ∙ ap (λ n. item_place (slice_get code n)) same ∙ is.closes in cc)

    from-there : (room : ℕ) → Found (PairsFrom code r.bail room) room
    from-there zero i w kept er = ([], refl)
    from-there (suc zero) i w kept er = met (PairsFrom code r.bail zero) (λ i w kept pairs. ⊥) 0 (from-there zero) no-skip i w kept er
    from-there (suc (suc room)) i w kept er = met (PairsFrom code r.bail (suc room)) (PairsFrom code r.bail room) (suc room) (from-there (suc room))
        (λ i left c on off kept er guard. let s = from-there room (suc (suc i)) (record { left = left; point = point_of off code }) kept (omega (arith, er)) in (record { guard = suc i; bail = r.bail; kept = kept; other = on } ∷ s.0, (refl, s.1))) i w kept er

    run-pairs : (pairs : List Pair) × PairsOf code r pairs
    run-pairs = from-there r.size (suc r.start) (record { left = 1023; point = suc (point_of r.bail code) }) [] (omega arith)

  within-there : (count k : ℕ) → (pairs : List Pair) × PairsWithin code count k pairs
  within-there zero k = ([], refl)
  within-there (suc count) k = ⊎_elim
      (λ h. let here = run-pairs h.0 h.2 in let rest = within-there count (suc k) in (here.0 ++ rest.0, inl (h.0, h.1, h.2, here.0, here.1, rest.0, rest.1, refl)))
      (λ n. let rest = within-there count (suc k) in (rest.0, inr ((λ r e is. n (r, e, is)), rest.1))) (decide-run code k)

  pub pairs-there : (pairs : List Pair) × ArePairs code pairs
  pairs-there = within-there (length code) 0
