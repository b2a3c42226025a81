-- One removable item becomes `nop`: the walks, their open sites and what is live at reached points.
use Rattle.std.proofs.Common.{◌≡◌, ◌⊎◌, ℕ, zero, suc, Bool, true, false, cond, List, [], ◌∷◌, map, set, Option, Some, None, refl, sym, ap, subst, ◌∙◌, inl, inr, ⊎_elim}
use Rattle.std.specs.Prelude.{slice_get}
use Rattle.std.specs.List.{Contains}
use Rattle.std.proofs.lemmas.Bool.{cases_eq}
use Rattle.std.proofs.lemmas.Option.{same_Some}
use Rattle.bril_tree.specs.declared.numbered.Instr.{Instr}
use Rattle.bril_tree.specs.declared.numbered.Instr.TheVariants.{Label, Const, Act}
use Rattle.bril_tree.specs.declared.operation.Op.{Op}
use Rattle.bril_tree.specs.declared.operation.Op.TheVariants as op
use Rattle.bril_tree.specs.Assigned.{assigns_at, assigns_of}
use Rattle.bril_tree.specs.Edge.{Branch, branches_at, branches_from, item_branches, action_branches, onward, jump, abort}
use Rattle.bril_tree.specs.Leaving.{Leaves}
use Rattle.bril_tree.specs.Live.{IsLive, Here, Later}
use Rattle.bril_tree.specs.Membership.{In}
use Rattle.bril_tree.specs.Numbered.{nop}
use Rattle.bril_tree.specs.Operand.{Location, reads_of}
use Rattle.bril_tree.specs.Sites.{Opens, Keeps, change_of, item_change, operation_change, sites_of, sites_changed}
use Rattle.bril_tree.specs.Step.{point_of, is_label}
use Rattle.bril_tree.specs.Walk.{IsWalk, IsReached, end_of}
use Rattle.bril_tree.proofs.Assignments.{in_or_not, site_speculates}
use Rattle.bril_tree.proofs.Branches.{branch_from, reached_on}
use Rattle.bril_tree.proofs.Members.{in_contains, contains_in}
use Rattle.flow_graph.proofs.Searching.{get_set_other}
use Rattle.dead_code.specs.Removable.{only_computes, is_computation, IsUnused, IsIdle, IsRemovable}

-- ---- lists

pub set-here : {X : Type 0} (xs : List X) (j : ℕ) (a x : X) → slice_get xs j ≡ Some a → slice_get (set xs j x) j ≡ Some x
set-here [] j a x e = absurd (let n : None ≡ Some a = e in cc)
set-here (y ∷ xs) zero a x e = refl
set-here (y ∷ xs) (suc j) a x e = set-here xs j a x e

-- ---- items

-- a computation goes on to the next point, and keeps the sites
computes-on : (code : List Instr) (p : ℕ) (o : Op) (labels : List ℕ) → only_computes o ≡ true → action_branches code p o labels ≡ onward p ∷ []
computes-on code p op.Jmp labels c = absurd cc
computes-on code p op.Br labels c = absurd cc
computes-on code p op.Ret labels c = absurd cc
computes-on code p op.Guard labels c = absurd cc
computes-on code p _ labels c = refl

computes-keeps : (o : Op) (b : Bool) → only_computes o ≡ true → operation_change o b ≡ Keeps
computes-keeps op.Speculate b c = absurd cc
computes-keeps op.Commit b c = absurd cc
computes-keeps op.Guard b c = absurd cc
computes-keeps _ b c = refl

pub computation-on : (code : List Instr) (p : ℕ) (item : Instr) → is_computation item ≡ true → item_branches code p item ≡ onward p ∷ []
computation-on code p (Label l) c = absurd cc
computation-on code p (Const dest ty value) c = refl
computation-on code p (Act dest ty o args funcs labels) c = computes-on code p o labels c

pub computation-keeps : (item : Instr) (b : Bool) → is_computation item ≡ true → item_change (Some item) b ≡ Keeps
computation-keeps (Label l) b c = absurd cc
computation-keeps (Const dest ty value) b c = refl
computation-keeps (Act dest ty o args funcs labels) b c = computes-keeps o b c

-- ---- labels

removable-no_label : (code : List Instr) (j l : ℕ) (item : Instr) → IsUnused code j item ⊎ IsIdle code j item → is_label l item ≡ false
removable-no_label code j l (Label m) (inl u) = absurd (let c = u.computes in cc)
removable-no_label code j l (Label m) (inr u) = absurd (let c = u.does in cc)
removable-no_label code j l (Const dest ty value) why = refl
removable-no_label code j l (Act dest ty o args funcs labels) why = refl

point-set : (l : ℕ) (code : List Instr) (j : ℕ) (a b : Instr) → slice_get code j ≡ Some a → is_label l a ≡ is_label l b → point_of l (set code j b) ≡ point_of l code
point-set l [] j a b at same = refl
point-set l (x ∷ code) zero a b at same = ap (λ t. cond t 0 (suc (point_of l code))) (sym same ∙ ap (is_label l) (sym (same_Some x a at)))
point-set l (x ∷ code) (suc j) a b at same = ap (λ n. cond (is_label l x) 0 (suc n)) (point-set l code j a b at same)

map-same : {X : Type 0} (f g : ℕ → X) → ((l : ℕ) → f l ≡ g l) → (ls : List ℕ) → map f ls ≡ map g ls
map-same f g same [] = refl
map-same f g same (l ∷ ls) = λ i. same l i ∷ map-same f g same ls i

-- items go to the same points where labels stand at the same points
module _ (code made : List Instr) (p : ℕ) (points : (l : ℕ) → point_of l made ≡ point_of l code) where
  jumps : (ls : List ℕ) → map (jump made p) ls ≡ map (jump code p) ls
  jumps ls = map-same (jump made p) (jump code p) (λ l i. record { from = p; to = points l i; aborts = false }) ls

  aborts : (ls : List ℕ) → map (abort made p) ls ≡ map (abort code p) ls
  aborts ls = map-same (abort made p) (abort code p) (λ l i. record { from = p; to = points l i; aborts = true }) ls

  action-same : (o : Op) (ls : List ℕ) → action_branches made p o ls ≡ action_branches code p o ls
  action-same op.Jmp ls = jumps ls
  action-same op.Br ls = jumps ls
  action-same op.Ret ls = refl
  action-same op.Guard ls = λ i. onward p ∷ aborts ls i
  action-same _ ls = refl

  pub branches-same : (o : Option Instr) → branches_from made p o ≡ branches_from code p o
  branches-same None = refl
  branches-same (Some (Label l)) = refl
  branches-same (Some (Const dest ty value)) = refl
  branches-same (Some (Act dest ty o args funcs labels)) = action-same o labels

-- ---- the step

module _ (code : List Instr) (j : ℕ) (r : IsRemovable code j) where
  abbrev pub now : List Instr
  now = set code j nop

  pub now-here : slice_get now j ≡ Some nop
  now-here = set-here code j r.item nop r.here

  pub now-other : (p : ℕ) → (p ≡ j → ⊥) → slice_get now p ≡ slice_get code p
  now-other p d = get_set_other code j p nop d

  pub now-points : (l : ℕ) → point_of l now ≡ point_of l code
  now-points l = point-set l code j r.item nop r.here (removable-no_label code j l r.item r.why)

  -- where a walk leads there, the item is unused
  pub reached-unused : IsReached code j → IsUnused code j r.item
  reached-unused reached = ⊎_elim (λ u. u) (λ u. absurd (u.unreached reached)) r.why

  pub same_branches : (p : ℕ) → IsReached code p → branches_at now p ≡ branches_at code p
  same_branches p reached = ⊎_elim at_item other (cases_eq p j)
    where
      at_item : p ≡ j → branches_at now p ≡ branches_at code p
      at_item e =
          let u = reached-unused (subst (IsReached code) e reached) in
          ap (branches_from now p) (ap (slice_get now) e ∙ now-here) ∙ sym (computation-on code p r.item u.computes) ∙ ap (branches_from code p) (sym (ap (slice_get code) e ∙ r.here))

      other : (p ≡ j → ⊥) → branches_at now p ≡ branches_at code p
      other d = ap (branches_from now p) (now-other p d) ∙ branches-same code now p now-points (slice_get code p)

  pub walk-now : (w : List Branch) → IsWalk code w → IsWalk now w
  walk-now [] is = tt
  walk-now (b ∷ w) is = (subst (λ l. Contains l b) (sym (same_branches (end_of w) (record { walk = w; is = is.1; ends = refl }))) is.0, walk-now w is.1)

  pub walk-was : (w : List Branch) → IsWalk now w → IsWalk code w
  walk-was [] is = tt
  walk-was (b ∷ w) is = let rest = walk-was w is.1 in (subst (λ l. Contains l b) (same_branches (end_of w) (record { walk = w; is = rest; ends = refl })) is.0, rest)

  change-same : (w : List Branch) (b : Branch) → IsWalk code w → Contains (branches_at code (end_of w)) b → change_of now b ≡ change_of code b
  change-same w b is at = ⊎_elim at_item (λ d. ap (λ o. item_change o b.aborts) (now-other b.from d)) (cases_eq b.from j)
    where
      from : b.from ≡ end_of w
      from = branch_from code (end_of w) b (in_contains b (branches_at code (end_of w)) at)

      at_item : b.from ≡ j → change_of now b ≡ change_of code b
      at_item e =
          let u = reached-unused (record { walk = w; is = is; ends = sym from ∙ e }) in
          ap (λ o. item_change o b.aborts) (ap (slice_get now) e ∙ now-here) ∙ sym (computation-keeps r.item b.aborts u.computes) ∙ ap (λ o. item_change o b.aborts) (sym (ap (slice_get code) e ∙ r.here))

  pub sites-same : (w : List Branch) → IsWalk code w → sites_of now w ≡ sites_of code w
  sites-same [] is = refl
  sites-same (b ∷ w) is = ap (λ c. sites_changed c b.from (sites_of now w)) (change-same w b is.1 is.0) ∙ ap (sites_changed (change_of code b) b.from) (sites-same w is.1)

  pub leaves-now : (p : ℕ) (b : Branch) → IsReached code p → Leaves code p b → Leaves now p b
  leaves-now p b reached (inl on) = inl (subst (λ l. Contains l b) (sym (same_branches p reached)) on.0, on.1)
  leaves-now p b reached (inr a) = inr (record { aborts = a.aborts; walk = a.walk; is = walk-now a.walk a.is; at = subst (λ l. Contains l b) (sym (same_branches (end_of a.walk) (record { walk = a.walk; is = a.is; ends = refl }))) a.at; older = a.older; sites = sites-same a.walk a.is ∙ a.sites })

  pub leaves-was : (p : ℕ) (b : Branch) → IsReached code p → Leaves now p b → Leaves code p b
  leaves-was p b reached (inl on) = inl (subst (λ l. Contains l b) (same_branches p reached) on.0, on.1)
  leaves-was p b reached (inr a) =
      let is = walk-was a.walk a.is in
      inr (record { aborts = a.aborts; walk = a.walk; is = is; at = subst (λ l. Contains l b) (same_branches (end_of a.walk) (record { walk = a.walk; is = is; ends = refl })) a.at; older = a.older; sites = sym (sites-same a.walk is) ∙ a.sites })

  -- the removable item goes on, and no abort leaves from there
  goes : (b : Branch) → IsReached code j → Leaves code j b → b ≡ onward j
  goes b reached (inl on) =
      let u = reached-unused reached in
      ⊎_elim (λ e. e) (λ n. absurd n) (subst (In b) (computation-on code j r.item u.computes) (subst (λ o. In b (branches_from code j o)) r.here (in_contains b (branches_at code j) on.0)))
  goes b reached (inr a) =
      let u = reached-unused reached in
      let opens = site_speculates code a.walk j (subst (In j) (sym a.sites) (inl refl)) in
      absurd (let k = computation-keeps r.item false u.computes in let h = ap (λ o. item_change o false) r.here in let f : Keeps ≡ Opens = sym k ∙ sym h ∙ opens in cc)

pub reached-next : (code : List Instr) (p : ℕ) (b : Branch) → IsReached code p → Leaves code p b → IsReached code b.to
reached-next code p b reached (inl on) = reached_on code p b reached (in_contains b (branches_at code p) on.0)
reached-next code p b reached (inr a) = reached_on code (end_of a.walk) b (record { walk = a.walk; is = a.is; ends = refl }) (in_contains b (branches_at code (end_of a.walk)) a.at)

-- ---- what is live

module _ (code : List Instr) (j : ℕ) (r : IsRemovable code j) (x : Location) where
  not_read : (p : ℕ) (item : Instr) → p ≡ j → slice_get (now code j r) p ≡ Some item → Contains (reads_of item) x → ⊥
  not_read p item e at reads =
      let same : nop ≡ item = same_Some nop item (sym (ap (slice_get (now code j r)) e ∙ now-here code j r) ∙ at) in
      subst (In x) (sym (ap reads_of same)) (in_contains x (reads_of item) reads)

  -- nothing becomes live
  pub live-was : (p : ℕ) → IsReached code p → IsLive (now code j r) x p → IsLive code x p
  live-was p reached (Here _ item at reads) = ⊎_elim (λ e. absurd (not_read p item e at reads)) (λ d. Here p item (sym (now-other code j r p d) ∙ at) reads) (cases_eq p j)
  live-was p reached (Later _ b leaves none live) =
      let was = leaves-was code j r p b reached leaves in
      let before = live-was b.to (reached-next code p b reached was) live in
      ⊎_elim (at_item was before) (λ d. Later p b was (subst (λ o. ¬ Contains (assigns_at o) x) (now-other code j r p d) none) before) (cases_eq p j)
    where
      at_item : Leaves code p b → IsLive code x b.to → p ≡ j → IsLive code x p
      at_item was before e = ⊎_elim assigned free (in_or_not x (assigns_of r.item))
        where
          here : IsReached code j
          here = subst (IsReached code) e reached

          to : b.to ≡ suc j
          to = ap (λ (w : Branch). w.to) (goes code j r b here (subst (λ n. Leaves code n b) e was))

          assigned : In x (assigns_of r.item) → IsLive code x p
          assigned i = let u = reached-unused code j r here in absurd (u.unused x (contains_in x (assigns_of r.item) i) (subst (IsLive code x) to before))

          free : (In x (assigns_of r.item) → ⊥) → IsLive code x p
          free n = Later p b was (λ c. n (subst (λ o. In x (assigns_at o)) (ap (slice_get code) e ∙ r.here) (in_contains x (assigns_at (slice_get code p)) c))) before

  -- what the item doesn't read stays live
  pub live-now : (In x (reads_of r.item) → ⊥) → (p : ℕ) → IsReached code p → IsLive code x p → IsLive (now code j r) x p
  live-now unread p reached (Here _ item at reads) = ⊎_elim at_item (λ d. Here p item (now-other code j r p d ∙ at) reads) (cases_eq p j)
    where
      at_item : p ≡ j → IsLive (now code j r) x p
      at_item e = absurd (unread (subst (λ (a : Instr). In x (reads_of a)) (same_Some item r.item (sym at ∙ ap (slice_get code) e ∙ r.here)) (in_contains x (reads_of item) reads)))
  live-now unread p reached (Later _ b leaves none live) =
      let after = live-now unread b.to (reached-next code p b reached leaves) live in
      Later p b (leaves-now code j r p b reached leaves) (λ c. ⊎_elim (at_item c) (λ d. none (subst (λ o. Contains (assigns_at o) x) (now-other code j r p d) c)) (cases_eq p j)) after
    where
      at_item : Contains (assigns_at (slice_get (now code j r) p)) x → p ≡ j → ⊥
      at_item c e = subst (λ o. In x (assigns_at o)) (ap (slice_get (now code j r)) e ∙ now-here code j r) (in_contains x (assigns_at (slice_get (now code j r) p)) c)
