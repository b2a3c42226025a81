-- The branches of two items that do the same, one by one: those of the second go on as those of the first do, or those of the
-- first go to its labels.
use Rattle.std.proofs.Common.{◌≡◌, ◌⊎◌, ℕ, List, [], ◌∷◌, map, Option, Some, None, refl, sym, subst, inl, inr, ⊎_elim}
use Rattle.std.specs.List.{AllZip}
use Rattle.bril_tree.specs.declared.numbered.Instr.{Instr}
use Rattle.bril_tree.specs.declared.numbered.Instr.TheVariants.{Label, Const, Act}
use Rattle.bril_tree.specs.declared.operation.Op.{Op}
use Rattle.bril_tree.specs.declared.operation.Op.TheVariants as op
use Rattle.bril_tree.specs.Edge.{Branch, abort, action_branches, branches_from, item_branches, jump, onward}
use Rattle.bril_tree.specs.FunctionForm.{targets_of}
use Rattle.bril_tree.specs.Membership.{In}
use Rattle.bril_tree.specs.Operand.{Location}
use Rattle.bril_tree.specs.Step.{point_of}
use Rattle.pass_edit_laws.specs.plan.Plan.{PointItemsMatch}

-- for the code of each item and its point, and a relation of their branches
module _ (R : Branch → Branch → Type 0) (C D : List Instr) (i j : ℕ) where
  -- both go on, or the first goes to one of the labels
  abbrev pub TurnsAlike : Branch → Branch → List ℕ → Type 0
  TurnsAlike x y targets = ((y ≡ onward j) × (x ≡ onward i)) ⊎ ((l : ℕ) × In l targets × (x.to ≡ point_of l C))

  map-twin : (g h : ℕ → Branch) → ((l : ℕ) → (g l).to ≡ point_of l C) → (ls ms : List ℕ) → AllZip R (map g ls) (map h ms) → (y : Branch) → In y (map h ms) → (x : Branch) × In x (map g ls) × R x y × ((l : ℕ) × In l ls × (x.to ≡ point_of l C))
  map-twin g h to [] [] z y k = absurd k
  map-twin g h to [] (m ∷ ms) z y k = absurd z
  map-twin g h to (l ∷ ls) [] z y k = absurd k
  map-twin g h to (l ∷ ls) (m ∷ ms) z y (inl e) = (g l, inl refl, subst (R (g l)) (sym e) z.0, (l, inl refl, to l))
  map-twin g h to (l ∷ ls) (m ∷ ms) z y (inr k) = let r = map-twin g h to ls ms z.1 y k in (r.0, inr r.1, r.2, (r.3.0, inr r.3.1, r.3.2))

  onward-twin : (targets : List ℕ) → R (onward i) (onward j) → (y : Branch) → In y (onward j ∷ []) → (x : Branch) × In x (onward i ∷ []) × R x y × TurnsAlike x y targets
  onward-twin targets related y (inl e) = (onward i, inl refl, subst (R (onward i)) (sym e) related, inl (e, refl))
  onward-twin targets related y (inr n) = absurd n

  action-twin : (o : Op) (ls ms : List ℕ) → AllZip R (action_branches C i o ls) (action_branches D j o ms) → (y : Branch) → In y (action_branches D j o ms) → (x : Branch) × In x (action_branches C i o ls) × R x y × TurnsAlike x y ls
  action-twin op.Jmp ls ms z y h = let r = map-twin (jump C i) (jump D j) (λ l. refl) ls ms z y h in (r.0, r.1, r.2, inr r.3)
  action-twin op.Br ls ms z y h = let r = map-twin (jump C i) (jump D j) (λ l. refl) ls ms z y h in (r.0, r.1, r.2, inr r.3)
  action-twin op.Ret ls ms z y h = absurd h
  action-twin op.Guard ls ms z y (inl e) = (onward i, inl refl, subst (R (onward i)) (sym e) z.0, inl (e, refl))
  action-twin op.Guard ls ms z y (inr h) = let r = map-twin (abort C i) (abort D j) (λ l. refl) ls ms z.1 y h in (r.0, inr r.1, r.2, inr r.3)
  action-twin _ ls ms z y h = onward-twin ls z.0 y h

  -- the branch of a point of the second is related to one of a point of the first
  abbrev pub Twin : Branch → Option Instr → Type 0
  Twin y o = (x : Branch) × In x (branches_from C i o) × R x y × (((y ≡ onward j) × (x ≡ onward i)) ⊎ ((a : Instr) × (o ≡ Some a) × ((l : ℕ) × In l (targets_of a) × (x.to ≡ point_of l C))))

  of_item : (a : Instr) (y : Branch) → (x : Branch) × In x (item_branches C i a) × R x y × TurnsAlike x y (targets_of a) → Twin y (Some a)
  of_item a y t = (t.0, t.1, t.2, ⊎_elim inl (λ h. inr (a, refl, h)) t.3)

  pub twin : (B : Location → Location → Type 0) (o u : Option Instr) → PointItemsMatch B o u → AllZip R (branches_from C i o) (branches_from D j u) → (y : Branch) → In y (branches_from D j u) → Twin y o
  twin B None None same z y h = absurd h
  twin B None (Some b) same z y h = absurd same
  twin B (Some a) None same z y h = absurd same
  twin B (Some (Label l)) (Some (Label m)) same z y h = of_item (Label l) y (onward-twin [] z.0 y h)
  twin B (Some (Label l)) (Some (Const d t v)) same z y h = absurd same
  twin B (Some (Label l)) (Some (Act d t o args fns ms)) same z y h = absurd same
  twin B (Some (Const d t v)) (Some (Label m)) same z y h = absurd same
  twin B (Some (Const d t v)) (Some (Const e s w)) same z y h = of_item (Const d t v) y (onward-twin [] z.0 y h)
  twin B (Some (Const d t v)) (Some (Act e s o args fns ms)) same z y h = absurd same
  twin B (Some (Act d t o args fns ls)) (Some (Label m)) same z y h = absurd same
  twin B (Some (Act d t o args fns ls)) (Some (Const e s w)) same z y h = absurd same
  twin B (Some (Act d t o args fns ls)) (Some (Act e s u result_args gns ms)) same z y h =
      of_item (Act d t o args fns ls) y
      (action-twin o ls ms (subst (λ c. AllZip R (action_branches C i o ls) (action_branches D j c ms)) (sym same.operation) z) y (subst (λ c. In y (action_branches D j c ms)) (sym same.operation) h))
