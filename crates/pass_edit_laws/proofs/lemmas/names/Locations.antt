-- Locations of the same names: one stands for one number each.
use Rattle.std.proofs.Common.{◌≡◌, ℕ, List, [], ◌∷◌, sym, ap, subst, ◌∙◌, inl, inr, ⊎_elim}
use Rattle.std.specs.List.{AllZip}
use Rattle.bril_tree.specs.Operand.{Location, Variable, Shadow}
use Rattle.bril_tree.specs.Membership.{In}
use Rattle.bril_tree.proofs.Assignments.{in_or_not}
use Rattle.bril_names.specs.Faults.{Differ}
use Rattle.bril_names.proofs.Naming.{one_number}
use Rattle.pass_edit_laws.specs.plan.Plan.{StaysMatched}
use Rattle.pass_edit_laws.specs.names.Named.{SameLocation}

module _ (V W : List (List ℕ)) (dW : Differ W) where
  one_right : (a b c : Location) → SameLocation V W a b → SameLocation V W a c → b ≡ c
  one_right (Variable x) (Variable y) (Variable z) h k = ap Variable (one_number W dW y z h.1 k.1 (sym h.2 ∙ k.2))
  one_right (Variable x) (Variable y) (Shadow z) h k = absurd k
  one_right (Variable x) (Shadow y) c h k = absurd h
  one_right (Shadow x) (Variable y) c h k = absurd h
  one_right (Shadow x) (Shadow y) (Variable z) h k = absurd k
  one_right (Shadow x) (Shadow y) (Shadow z) h k = ap Shadow (one_number W dW y z h.1 k.1 (sym h.2 ∙ k.2))

  to_right : (a b : Location) → SameLocation V W a b → (ps qs : List Location) → AllZip (SameLocation V W) ps qs → In a ps → In b qs
  to_right a b h [] [] z i = absurd i
  to_right a b h [] (q ∷ qs) z i = absurd z
  to_right a b h (p ∷ ps) [] z i = absurd z
  to_right a b h (p ∷ ps) (q ∷ qs) z (inl e) = inl (one_right a b q h (subst (λ c. SameLocation V W c q) (sym e) z.0))
  to_right a b h (p ∷ ps) (q ∷ qs) z (inr i) = inr (to_right a b h ps qs z.1 i)

  -- where the first side's names may be one, with what has to be apart
  pub kept-apart : (M : Location → Type 0) (ps qs : List Location) → AllZip (SameLocation V W) ps qs → (a b : Location) → SameLocation V W a b → ((In a ps → ⊥) → M a) → (In b qs → In a ps) → StaysMatched ps qs (λ x y. SameLocation V W x y × M x) a b
  kept-apart M ps qs z a b h flows apart = ⊎_elim (λ i. inl (i, to_right a b h ps qs z i)) (λ n. inr (n, (λ i. n (apart i)), (h, flows n))) (in_or_not a ps)

module _ (V W : List (List ℕ)) (dV : Differ V) where
  one_left : (a b c : Location) → SameLocation V W a c → SameLocation V W b c → a ≡ b
  one_left (Variable x) (Variable y) (Variable z) h k = ap Variable (one_number V dV x y h.0 k.0 (h.2 ∙ sym k.2))
  one_left (Variable x) (Shadow y) (Variable z) h k = absurd k
  one_left (Variable x) b (Shadow z) h k = absurd h
  one_left (Shadow x) b (Variable z) h k = absurd h
  one_left (Shadow x) (Variable y) (Shadow z) h k = absurd k
  one_left (Shadow x) (Shadow y) (Shadow z) h k = ap Shadow (one_number V dV x y h.0 k.0 (h.2 ∙ sym k.2))

  pub to_left : (a b : Location) → SameLocation V W a b → (ps qs : List Location) → AllZip (SameLocation V W) ps qs → In b qs → In a ps
  to_left a b h [] [] z i = absurd i
  to_left a b h [] (q ∷ qs) z i = absurd z
  to_left a b h (p ∷ ps) [] z i = absurd z
  to_left a b h (p ∷ ps) (q ∷ qs) z (inl e) = inl (one_left a p b h (subst (λ c. SameLocation V W p c) (sym e) z.0))
  to_left a b h (p ∷ ps) (q ∷ qs) z (inr i) = inr (to_left a b h ps qs z.1 i)
