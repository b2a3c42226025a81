-- Each `get` of laid code stands behind a label, with only `get`s in between.
use Rattle.std.proofs.Common.{◌≡◌, ℕ, zero, suc, ◌+◌, List, [], ◌∷◌, Some, refl, sym, ap, subst, ◌∙◌, inl, inr, arith}
use Rattle.std.specs.Prelude.{slice_get}
use Rattle.bril_tree.specs.declared.function_tree.Item.{Item}
use Rattle.bril_tree.specs.declared.function_tree.Item.TheVariants as item
use Rattle.bril_tree.specs.declared.numbered.Instr.{Instr}
use Rattle.bril_tree.specs.declared.numbered.Instr.TheVariants.{Label}
use Rattle.bril_tree.specs.declared.numbered_function.Func.{Func}
use Rattle.bril_tree.specs.declared.program.Prog.{Prog}
use Rattle.bril_tree.specs.Edge.{branches_at, branches_from, onward}
use Rattle.bril_tree.specs.Numbered.{named, tree_at}
use Rattle.bril_tree.specs.Operand.{Location, Variable}
use Rattle.bril_tree.specs.Step.{code_of}
use Rattle.bril_tree.specs.Walk.{IsReached, end_of}
use Rattle.bril_tree.specs.Membership.{In}
use Rattle.bril_tree.proofs.Members.{contains_in}
use Rattle.ssa_laws.specs.inserted_copies.Inserted.{is_copy}
use Rattle.ssa_laws.specs.layout.Form.{FollowsLabel, GetsFollowLabels}
use Rattle.ssa_laws.specs.reaching_definitions.Tables.{Tables}
use Rattle.ssa_laws.specs.layout.Laid.{Setting, home, first, name_of, Laid}
use Rattle.ssa_laws.proofs.lemmas.inserted_copies.Refines.{renamed-found}

module _ (P Q : Prog) (table : ℕ → Tables) (name : ℕ → ℕ → List ℕ) (gets : ℕ → ℕ → List ℕ) (sets : ℕ → ℕ → List Setting) (c : ℕ) (t : Laid P Q table name gets sets c) (f : ℕ) (F : Func) (p : slice_get P.funcs f ≡ Some F)
    (items : List Item) (agrees : (j : ℕ) (x : Item) → tree_at Q f j ≡ Some x → slice_get items j ≡ Some x) where
  abbrev code : List Instr
  code = code_of P f

  abbrev H : ℕ → ℕ
  H i = home P Q table name gets sets f i

  before : (xs : List ℕ) (k y : ℕ) → slice_get xs (suc k) ≡ Some y → (z : ℕ) × (slice_get xs k ≡ Some z)
  before [] k y e = absurd cc
  before (x ∷ xs) zero y e = (x, refl)
  before (x ∷ xs) (suc k) y e = before xs k y e

  after-label : (i l : ℕ) → IsReached code i → slice_get code i ≡ Some (Label l) → IsReached code (suc i)
  after-label i l r at =
      let among : In (onward i) (branches_at code i) = subst (λ o. In (onward i) (branches_from code i o)) (sym at) (inl refl) in
      record { walk = onward i ∷ r.walk; is = (contains_in (onward i) (branches_at code (end_of r.walk)) (subst (λ n. In (onward i) (branches_at code n)) (sym r.ends) among), r.is); ends = refl }

  follows : (i l : ℕ) → IsReached code i → slice_get code i ≡ Some (Label l) → (k y : ℕ) → slice_get (gets f (suc i)) k ≡ Some y → (j : ℕ) → j ≡ H i + k → FollowsLabel items (suc j)
  follows i l r at zero y e j h =
      let here : j ≡ H i = omega arith in
      inl (
        named F.labels l,
        agrees j (item.Label (named F.labels l)) (ap (tree_at Q f) here
            ∙ sym (t.same f i r (ap is_copy at))
            ∙ renamed-found P f i (Label l) (λ x. name_of P Q table name gets sets f ((table f).into i (Variable x))) (name f ((table f).writes i)) at F p),
      )
  follows i l r at (suc k) y e j h =
      let b = before (gets f (suc i)) k y e in
      let tree = t.got f (suc i) k b.0 (after-label i l r at) b.1 in
      let here : j ≡ first P Q table name gets sets f (suc i) + k = omega arith in
      let there : suc (H i + k) ≡ j = omega arith in
      inr (name f b.0, (_, agrees j _ (ap (tree_at Q f) here ∙ tree.1), refl), subst (FollowsLabel items) there (follows i l r at k b.0 b.1 (H i + k) refl))

  -- the `get`s behind label i
  pub laid-behind : (i k y : ℕ) → ((a : Location) → (table f).gets i a ≡ Some y → IsReached code i) → slice_get (gets f (suc i)) k ≡ Some y → FollowsLabel items (first P Q table name gets sets f (suc i) + k)
  laid-behind i k y reached e =
      let g = t.gets_are f i y (among (gets f (suc i)) k e) in
      let r = reached g.0 g.1 in
      let l = (t.consistent f).plain i y g.0 r g.1 in
      let there : suc (H i + k) ≡ first P Q table name gets sets f (suc i) + k = omega arith in
      subst (FollowsLabel items) there (follows i l.0 r l.1 k y e (H i + k) refl)
    where
      among : (xs : List ℕ) (k : ℕ) → slice_get xs k ≡ Some y → In y xs
      among [] k e = absurd cc
      among (x ∷ xs) zero e = inl (let q : x ≡ y = cc in sym q)
      among (x ∷ xs) (suc k) e = inr (among xs k e)

pub gets-follow_labels : GetsFollowLabels
gets-follow_labels P Q table name gets sets c t f F p reached items agrees i k y e = laid-behind P Q table name gets sets c t f F p items agrees i k y (λ a h. reached i y a h) e
