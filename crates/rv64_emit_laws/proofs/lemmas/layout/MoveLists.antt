-- Lists of moves: which moves are among them, and that their words and homes are apart.
use Rattle.std.proofs.Common.{◌≡◌, ◌≢◌, ℕ, zero, suc, ◌+◌, inl, inr, Bool, true, false, cond, refl, sym, ap, ◌∙◌, subst, arith, List, [], ◌∷◌, Some}
use Rattle.std.specs.Prelude.{slice_get}
use Rattle.bril_tree.specs.Membership.{In}
use Rattle.rv64_words_laws.specs.sequences.Moves.{Move, AreWordsApart, AreHomesApart}
use Rattle.slot_code.specs.declared.item.Slot.{Slot}
use Rattle.rv64_emit_laws.specs.layout.Homes.{FunctionHomes, moves_from}

module _ (homes : FunctionHomes) (first : ℕ) (test : Slot → Bool) where
  abbrev pub move_at : Slot → ℕ → Move
  move_at s i = record { home = homes.home s; word = first + i }

  -- a move is that of a slot which passes
  pub record IsMoveOf (m : Move) (i : ℕ) (slots : List Slot) : Type 0 where
    pub place : ℕ
    pub slot : Slot
    pub there : slice_get slots place ≡ Some slot
    pub passes : test slot ≡ true
    pub is : m ≡ move_at slot (i + place)

  next_move : (m : Move) (i : ℕ) (s : Slot) (slots : List Slot) → IsMoveOf m (suc i) slots → IsMoveOf m i (s ∷ slots)
  next_move m i s slots w = record {
    place = suc w.place;
    slot = w.slot;
    there = w.there;
    passes = w.passes;
    is = w.is ∙ (let e : suc i + w.place ≡ i + suc w.place = omega arith in ap (move_at w.slot) e);
  }

  first_move : (i : ℕ) (s : Slot) (slots : List Slot) → test s ≡ true → IsMoveOf (move_at s i) i (s ∷ slots)
  first_move i s slots e = record { place = 0; slot = s; there = refl; passes = e; is = (let z : i ≡ i + 0 = omega arith in ap (move_at s) z) }

  in_more : (t : Bool) (m : Move) (i : ℕ) (s : Slot) (slots : List Slot) → test s ≡ t → In m (cond t (move_at s i ∷ moves_from homes first test (suc i) slots) (moves_from homes first test (suc i) slots)) →
      (In m (moves_from homes first test (suc i) slots) → IsMoveOf m (suc i) slots) → IsMoveOf m i (s ∷ slots)
  in_more true m i s slots e (inl is) rest = subst (λ x. IsMoveOf x i (s ∷ slots)) (sym is) (first_move i s slots e)
  in_more true m i s slots e (inr h) rest = next_move m i s slots (rest h)
  in_more false m i s slots e h rest = next_move m i s slots (rest h)

  pub in_moves : (slots : List Slot) (m : Move) (i : ℕ) → In m (moves_from homes first test i slots) → IsMoveOf m i slots
  in_moves [] m i h = absurd h
  in_moves (s ∷ slots) m i h = in_more (test s) m i s slots refl h (in_moves slots m (suc i))

  among : (t : Bool) (m n : Move) (rest : List Move) → In m rest → In m (cond t (n ∷ rest) rest)
  among true m n rest h = inr h
  among false m n rest h = h

  here : (t : Bool) (n : Move) (rest : List Move) → t ≡ true → In n (cond t (n ∷ rest) rest)
  here true n rest e = inl refl
  here false n rest e = absurd cc

  pub moves_in : (slots : List Slot) (i place : ℕ) (s : Slot) → slice_get slots place ≡ Some s → test s ≡ true → In (move_at s (i + place)) (moves_from homes first test i slots)
  moves_in [] i place s e told = absurd (none place e)
    where
      none : (k : ℕ) → slice_get [] k ≡ Some s → ⊥
      none zero x = cc
      none (suc k) x = cc
  moves_in (u ∷ slots) i zero s e told =
      let same : u ≡ s = cc in
      let z : i ≡ i + 0 = omega arith in
      subst (λ x. In (move_at s x) (moves_from homes first test i (u ∷ slots))) z (subst (λ x. In (move_at x i) (moves_from homes first test i (u ∷ slots))) same (here (test u) (move_at u i) (moves_from homes first test (suc i) slots) (ap test same ∙ told)))
  moves_in (u ∷ slots) i (suc place) s e told =
      let z : suc i + place ≡ i + suc place = omega arith in
      among (test u) (move_at s (i + suc place)) (move_at u i) (moves_from homes first test (suc i) slots) (subst (λ x. In (move_at s x) (moves_from homes first test (suc i) slots)) z (moves_in slots (suc i) place s e told))

  -- ---- apart

  words_more : (t : Bool) (i : ℕ) (s : Slot) (slots : List Slot) → AreWordsApart (moves_from homes first test (suc i) slots) → AreWordsApart (cond t (move_at s i ∷ moves_from homes first test (suc i) slots) (moves_from homes first test (suc i) slots))
  words_more true i s slots rest = (λ n h e. (let w = in_moves slots n (suc i) h in let word : n.word ≡ first + (suc i + w.place) = ap (λ (m : Move). m.word) w.is in absurd (omega arith)), rest)
  words_more false i s slots rest = rest

  pub words_apart : (slots : List Slot) (i : ℕ) → AreWordsApart (moves_from homes first test i slots)
  words_apart [] i = tt
  words_apart (s ∷ slots) i = words_more (test s) i s slots (words_apart slots (suc i))

  -- two slots of the list that pass have two homes
  abbrev pub PassApart : List Slot → Type 0
  PassApart slots = (j k : ℕ) (s t : Slot) → j ≢ k → slice_get slots j ≡ Some s → slice_get slots k ≡ Some t → test s ≡ true → test t ≡ true → homes.home s ≢ homes.home t

  homes_more : (t : Bool) (i : ℕ) (s : Slot) (slots : List Slot) → test s ≡ t → PassApart (s ∷ slots) → AreHomesApart (moves_from homes first test (suc i) slots) → AreHomesApart (cond t (move_at s i ∷ moves_from homes first test (suc i) slots) (moves_from homes first test (suc i) slots))
  homes_more true i s slots e apart rest =
      (λ n h same. (let w = in_moves slots n (suc i) h in let home : n.home ≡ homes.home w.slot = ap (λ (m : Move). m.home) w.is in apart (suc w.place) 0 w.slot s (λ z. absurd (omega arith)) w.there refl w.passes e (sym home ∙ same)), rest)
  homes_more false i s slots e apart rest = rest

  pub homes_apart : (slots : List Slot) (i : ℕ) → PassApart slots → AreHomesApart (moves_from homes first test i slots)
  homes_apart [] i apart = tt
  homes_apart (s ∷ slots) i apart = homes_more (test s) i s slots refl apart (homes_apart slots (suc i) (λ j k u v ne a b p q. apart (suc j) (suc k) u v (λ z. ne (omega arith)) a b p q))
