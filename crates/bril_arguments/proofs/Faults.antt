-- Words have one fault at most, and none where they spell values.
use Rattle.std.proofs.Common.{◌≡◌, ◌≢◌, inl, inr, ℕ, zero, suc, ◌<◌, List, [], ◌∷◌, take, Option, Some, refl, sym, ap, ◌∙◌, arith}
use Rattle.std.specs.Prelude.{slice_get}
use Rattle.std.proofs.lemmas.Bool.{cases_lt}
use Rattle.bril_tree.specs.declared.types.Ty.{Ty}
use Rattle.bril_tree.specs.declared.value.Value.{Value}
use Rattle.bril_arguments.specs.Spelled.{AreSpelled}
use Rattle.bril_arguments.specs.Faults.{IsFirstMisspelled, IsFaultOf}
use Rattle.bril_arguments.specs.declared.fault.ArgFault.{ArgFault}
use Rattle.bril_arguments.specs.declared.fault.ArgFault.TheVariants.{Count, Spelling, Memory}
use Rattle.bril_arguments.proofs.Spelled.{AreSpelled-length, AreSpelled-get}

-- what stands at a place stands there in a longer front
front_get : {X : Type 0} (xs : List X) (n i : ℕ) (x : X) → i < n → slice_get xs i ≡ Some x → slice_get (take n xs) i ≡ Some x
front_get [] n i x lt here = cc
front_get (y ∷ ys) zero i x lt here = absurd (omega arith)
front_get (y ∷ ys) (suc n) zero x lt here = here
front_get (y ∷ ys) (suc n) (suc i) x lt here = front_get ys n i x (omega arith) here

module _ (types : List (Option Ty)) (words : List (List ℕ)) where
  -- no word before the first that spells nothing is another such
  not_before : (p q : ℕ) (m : IsFirstMisspelled types words p) (n : IsFirstMisspelled types words q) → m.index < n.index → ⊥
  not_before p q m n lt =
      let spelled = AreSpelled-get (take n.index types) (take n.index words) n.values m.index m.ty m.word n.before
      (front_get types n.index m.index m.ty lt m.ty_here) (front_get words n.index m.index m.word lt m.word_here) in
      m.none spelled.0 spelled.1

  one_place : (p q : ℕ) → IsFirstMisspelled types words p → IsFirstMisspelled types words q → p ≡ q
  one_place p q m n =
      elim (cases_lt m.index n.index) [
        | inl lt ↦ absurd (not_before p q m n lt)
        | inr ge ↦ elim (cases_lt n.index m.index) [
          | inl lt ↦ absurd (not_before q p n m lt)
          | inr le ↦ omega (arith, m.counted, n.counted)
        ]
      ]

  -- words that spell values have no fault
  pub only_memory : (values : List Value) (f : ArgFault) → AreSpelled types words values → IsFaultOf types words f → f ≡ Memory
  only_memory values (Count a b) all h = absurd (h.2 (h.0 ∙ AreSpelled-length types words values all ∙ sym h.1))
  only_memory values (Spelling p) all h =
      let m = h.1 in
      let spelled = AreSpelled-get types words values m.index m.ty m.word all m.ty_here m.word_here in
      absurd (m.none spelled.0 spelled.1)
  only_memory values Memory all h = refl

  -- the fault that words have is the only one
  pub one_fault : (f g : ArgFault) → f ≢ Memory → IsFaultOf types words f → IsFaultOf types words g → g ≡ f
  one_fault f Memory some h k = absurd (some (only_memory k.0 f k.1 h))
  one_fault Memory g some h k = absurd (some refl)
  one_fault (Count a b) (Count c d) some h k = λ i. Count ((k.0 ∙ sym h.0) i) ((k.1 ∙ sym h.1) i)
  one_fault (Count a b) (Spelling q) some h k = absurd (h.2 (h.0 ∙ k.0 ∙ sym h.1))
  one_fault (Spelling p) (Count c d) some h k = absurd (k.2 (k.0 ∙ h.0 ∙ sym k.1))
  one_fault (Spelling p) (Spelling q) some h k = ap Spelling (one_place q p k.1 h.1)
