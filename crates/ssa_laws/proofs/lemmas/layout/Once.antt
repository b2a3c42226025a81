-- Each variable of laid code is assigned by one item, or is an argument.
use Rattle.std.proofs.Common.{◌≡◌, ℕ, zero, suc, ◌+◌, false, List, [], ◌∷◌, Some, None, sym, ap, ◌∙◌, inl, inr}
use Rattle.std.specs.Prelude.{slice_get}
use Rattle.bril_tree.specs.declared.numbered.Instr.{Instr}
use Rattle.bril_tree.specs.declared.program.Prog.{Prog}
use Rattle.bril_tree.specs.Operand.{Location}
use Rattle.bril_tree.specs.Step.{code_of}
use Rattle.bril_tree.specs.Walk.{IsReached}
use Rattle.bril_tree.specs.Membership.{In}
use Rattle.ssa_laws.specs.inserted_copies.Inserted.{is_copy, destination}
use Rattle.ssa_laws.specs.reaching_definitions.Tables.{Tables, Defines, Writes, Gets}
use Rattle.ssa_laws.specs.layout.Form.{Assigns, AtGet, AtHome, DefinedOnce}
use Rattle.ssa_laws.specs.layout.Laid.{Setting, home, first, Begins, Laid}

module _ (P Q : Prog) (table : ℕ → Tables) (name : ℕ → ℕ → List ℕ) (gets : ℕ → ℕ → List ℕ) (sets : ℕ → ℕ → List Setting) (c : ℕ) (t : Laid P Q table name gets sets c) (f : ℕ)
    (only_reached : (k y : ℕ) (a : Location) → (table f).gets k a ≡ Some y → IsReached (code_of P f) k) (gets_once : (i k l y : ℕ) → slice_get (gets f i) k ≡ Some y → slice_get (gets f i) l ≡ Some y → k ≡ l) where
  abbrev code : List Instr
  code = code_of P f

  abbrev A : ℕ → ℕ → Type 0
  A = Assigns P Q table name gets sets f

  among : (xs : List ℕ) (k y : ℕ) → slice_get xs k ≡ Some y → In y xs
  among [] k y e = absurd cc
  among (x ∷ xs) zero y e = inl (let q : x ≡ y = cc in sym q)
  among (x ∷ xs) (suc k) y e = inr (among xs k y e)

  -- where it is defined
  pub record Place (y i : ℕ) : Type 0 where
    pub reached : IsReached code i
    pub defines : Defines code (table f) i y

  place-get : (i k y : ℕ) → slice_get (gets f (suc i)) k ≡ Some y → Place y i
  place-get i k y e = let a = t.gets_are f i y (among (gets f (suc i)) k y e) in record { reached = only_reached i y a.0 a.1; defines = Gets a.0 a.1 }

  -- no definition is both an item's and a `get`'s
  home-or-get : (i x y : ℕ) → IsReached code i → is_copy (slice_get code i) ≡ false → destination (slice_get code i) ≡ Some x → (table f).writes i ≡ y → (k l : ℕ) → slice_get (gets f (suc k)) l ≡ Some y → ⊥
  home-or-get i x y r cp d e k l g =
      let a = t.gets_are f k y (among (gets f (suc k)) l y g) in
      let r' = only_reached k y a.0 a.1 in
      let same : i ≡ k = (t.consistent f).once i k y r r' (Writes x cp d e) (Gets a.0 a.1) in
      let lab = (t.consistent f).plain k y a.0 r' a.1 in
      let z : None ≡ Some x = sym (ap destination (ap (slice_get code) same ∙ lab.1)) ∙ d in cc

  pub assigned-once : (j k y : ℕ) → A j y → A k y → j ≡ k
  assigned-once j k y (AtHome i x r cp d e h) (AtHome i' x' r' cp' d' e' h') =
      h ∙ ap (home P Q table name gets sets f) ((t.consistent f).once i i' y r r' (Writes x cp d e) (Writes x' cp' d' e')) ∙ sym h'
  assigned-once j k y (AtHome i x r cp d e h) (AtGet i' l g h') = absurd (home-or-get i x y r cp d e i' l g)
  assigned-once j k y (AtGet i l g h) (AtHome i' x r cp d e h') = absurd (home-or-get i' x y r cp d e i l g)
  assigned-once j k y (AtGet i l g h) (AtGet i' l' g' h') =
      let a = place-get i l y g in
      let b = place-get i' l' y g' in
      let same : i ≡ i' = (t.consistent f).once i i' y a.reached b.reached a.defines b.defines in
      let g'' : slice_get (gets f (suc i)) l' ≡ Some y = ap (λ n. slice_get (gets f (suc n)) l') same ∙ g' in
      h ∙ ap (λ n. first P Q table name gets sets f (suc i) + n) (gets_once (suc i) l l' y g g'') ∙ ap (λ n. first P Q table name gets sets f (suc n) + l') same ∙ sym h'

  -- and no argument is
  pub assigned-apart : (j y : ℕ) → A j y → ((a : Location) × Begins P Q table name gets sets f a y) → ⊥
  assigned-apart j y (AtHome i x r cp d e h) arg = (t.consistent f).apart i y r (Writes x cp d e) arg
  assigned-apart j y (AtGet i l g h) arg = let a = place-get i l y g in (t.consistent f).apart i y a.reached a.defines arg

pub defined-once : DefinedOnce
defined-once P Q table name gets sets c t f reached gets_once =
    (assigned-once P Q table name gets sets c t f reached gets_once, assigned-apart P Q table name gets sets c t f reached gets_once)
