-- The walks of a program with `get`s and `set`s put in are accepted.
use Rattle.std.proofs.Common.{◌≡◌, ◌⊎◌, ℕ, zero, suc, ◌+◌, ◌-◌, ◌<◌, ◌≤◌, Bool, true, false, List, [], ◌∷◌, ◌++◌, map, Option, Some, None, refl, sym, ap, subst, ◌∙◌, inl, inr, ⊎_elim, cond, arith}
use Rattle.std.specs.Prelude.{slice_get, slice_index, ◌==◌, IsSome}
use Rattle.std.proofs.lemmas.Option.{same_Some}
use Rattle.std.proofs.lemmas.Bool.{cases_lt, eqb-true, eqb-false}
use Rattle.bril_tree.specs.declared.numbered.Instr.{Instr}
use Rattle.bril_tree.specs.declared.numbered.Instr.TheVariants.{Label, Const, Act}
use Rattle.bril_tree.specs.declared.operation.Op.TheVariants as op
use Rattle.bril_tree.specs.declared.program.Prog.{Prog}
use Rattle.bril_tree.specs.Accepted.{IsAccepted, leaves_frame}
use Rattle.bril_tree.specs.Assigned.{Assigned, assigned_of, assigned_changed, assigns_at, assigns_of}
use Rattle.bril_tree.specs.Edge.{Branch, branches_at, branches_from, item_branches, onward}
use Rattle.bril_tree.specs.Operand.{Location, Variable, Shadow, reads_of}
use Rattle.bril_tree.specs.Sites.{Keeps, item_change, sites_of, sites_changed, needs_site}
use Rattle.bril_tree.specs.Step.{code_of, item_at}
use Rattle.bril_tree.specs.Walk.{IsWalk, IsReached, end_of}
use Rattle.bril_tree.specs.Membership.{In}
use Rattle.bril_tree.proofs.Members.{contains_in, in_append_left, in_append_right, in_append_cases}
use Rattle.pass_edit_laws.specs.plan.Plan.{Plan}
use Rattle.pass_edit_laws.specs.walks.Matched.{SavedSetsMatch, WalksMatch, MatchedWalk, IsHarmless, MatchesWalks}
use Rattle.bril_tree.specs.Accepted.{AreWalksAccepted}
use Rattle.pass_edit_laws.proofs.lemmas.walks.Walks.{regular_branch_matched}
use Rattle.pass_edit_laws.proofs.lemmas.walks.Accepting.{walks_accepted}
use Rattle.ssa_laws.specs.inserted_copies.Inserted.{is_copy, source, low, held, inserted_plan, AreInserted}
use Rattle.ssa_laws.proofs.lemmas.inserted_copies.Copies.{copy-branches, copy-keeps}
use Rattle.ssa_laws.proofs.lemmas.inserted_copies.Refines.{at_home, one_less, preserves, NopThere, nop_there}

-- ---- what a copy has, it reads; all else stays

pub source-cases : (a : Instr) (x : Location) → is_copy (Some a) ≡ true → In (source (Some a) x) (reads_of a) ⊎ ((source (Some a) x ≡ x) × (In x (assigns_of a) → ⊥))
source-cases (Label l) x c = absurd cc
source-cases (Const d ty v) x c = absurd cc
source-cases (Act None ty op.Get args fns ls) x c = inr (refl, λ h. h)
source-cases (Act (Some d) ty op.Get args fns ls) (Shadow y) c = inr (refl, λ h. ⊎_elim (λ e. cc) (λ n. n) h)
source-cases (Act (Some d) ty op.Get args fns ls) (Variable y) c = by (y == d) refl
  where
    by : (t : Bool) → (y == d) ≡ t → In (cond (y == d) (Shadow d) (Variable y)) (Shadow d ∷ []) ⊎ ((cond (y == d) (Shadow d) (Variable y) ≡ Variable y) × (In (Variable y) (Variable d ∷ []) → ⊥))
    by true e = inl (inl (ap (λ t. cond t (Shadow d) (Variable y)) e))
    by false e = inr (ap (λ t. cond t (Shadow d) (Variable y)) e, λ h. ⊎_elim (λ q. eqb-false y d e (let s : y ≡ d = cc in s)) (λ n. n) h)
source-cases (Act d ty op.Set args fns ls) (Variable y) c = inr (refl, λ h. ⊎_elim (λ e. cc) (λ n. n) h)
source-cases (Act d ty op.Set args fns ls) (Shadow y) c = by (y == slice_index args 0) refl
  where
    by : (t : Bool) → (y == slice_index args 0) ≡ t → In (cond (y == slice_index args 0) (Variable (slice_index args 1)) (Shadow y)) (Variable (slice_index args 1) ∷ []) ⊎ ((cond (y == slice_index args 0) (Variable (slice_index args 1)) (Shadow y) ≡ Shadow y) × (In (Shadow y) (Shadow (slice_index args 0) ∷ []) → ⊥))
    by true e = inl (inl (ap (λ t. cond t (Variable (slice_index args 1)) (Shadow y)) e))
    by false e = inr (ap (λ t. cond t (Variable (slice_index args 1)) (Shadow y)) e, λ h. ⊎_elim (λ q. eqb-false y (slice_index args 0) e (let s : y ≡ slice_index args 0 = cc in s)) (λ n. n) h)
source-cases (Act d ty _ args fns ls) x c = absurd cc

copy-plain : (a : Instr) → is_copy (Some a) ≡ true → (leaves_frame (Some a) ≡ false) × (needs_site (Some a) ≡ false)
copy-plain (Label l) c = absurd cc
copy-plain (Const d ty v) c = absurd cc
copy-plain (Act d ty op.Get args fns ls) c = (refl, refl)
copy-plain (Act d ty op.Set args fns ls) c = (refl, refl)
copy-plain (Act d ty _ args fns ls) c = absurd cc

-- what a location has behind a copy, it assigns or had before
pub behind-copy : (b : Instr) (y : Location) → is_copy (Some b) ≡ true → (In y (assigns_of b)) ⊎ (source (Some b) y ≡ y)
behind-copy (Label l) y c = absurd cc
behind-copy (Const d ty v) y c = absurd cc
behind-copy (Act None ty op.Get args fns ls) y c = inr refl
behind-copy (Act (Some d) ty op.Get args fns ls) (Shadow y) c = inr refl
behind-copy (Act (Some d) ty op.Get args fns ls) (Variable y) c = by (y == d) refl
  where
    by : (t : Bool) → (y == d) ≡ t → In (Variable y) (Variable d ∷ []) ⊎ (cond (y == d) (Shadow d) (Variable y) ≡ Variable y)
    by true e = inl (inl (ap Variable (eqb-true y d e)))
    by false e = inr (ap (λ t. cond t (Shadow d) (Variable y)) e)
behind-copy (Act d ty op.Set args fns ls) (Variable y) c = inr refl
behind-copy (Act d ty op.Set args fns ls) (Shadow y) c = by (y == slice_index args 0) refl
  where
    by : (t : Bool) → (y == slice_index args 0) ≡ t → In (Shadow y) (Shadow (slice_index args 0) ∷ []) ⊎ (cond (y == slice_index args 0) (Variable (slice_index args 1)) (Shadow y) ≡ Shadow y)
    by true e = inl (inl (ap Shadow (eqb-true y (slice_index args 0) e)))
    by false e = inr (ap (λ t. cond t (Variable (slice_index args 1)) (Shadow y)) e)
behind-copy (Act d ty _ args fns ls) y c = absurd cc

-- ---- one branch on, from an item that keeps the sites

module _ (code : List Instr) (args : ℕ) (w : List Branch) (a : Instr) (at : slice_get code (end_of w) ≡ Some a) (keeps : item_change (Some a) false ≡ Keeps) where
  on-assigned : assigned_of code args (onward (end_of w) ∷ w) ≡ record { locations = assigns_of a ++ (assigned_of code args w).locations; saved = (assigned_of code args w).saved }
  on-assigned = ap (λ o. assigned_changed (item_change o false) (assigns_at o) false (assigned_of code args w)) at ∙ ap (λ c. assigned_changed c (assigns_of a) false (assigned_of code args w)) keeps

  on-sites : sites_of code (onward (end_of w) ∷ w) ≡ sites_of code w
  on-sites = ap (λ o. sites_changed (item_change o false) (end_of w) (sites_of code w)) at ∙ ap (λ c. sites_changed c (end_of w) (sites_of code w)) keeps

-- ---- the point of P that stands for one of Q

module _ (home : ℕ → ℕ) where
  -- the first number from i on, among n, whose home is not before j
  stands-for : ℕ → ℕ → ℕ → ℕ
  stands-for zero i j = i
  stands-for (suc n) i j = ⊎_elim (λ l. stands-for n (suc i) j) (λ l. i) (cases_lt (home i) j)

module _ (P Q : Prog) (home : ℕ → ℕ → ℕ) (base : (f i : ℕ) → Location → Location → Type 0) (c : ℕ) (accepted : IsAccepted P) (t : AreInserted P Q home base c) (f args result_args : ℕ) where
  abbrev M : Plan
  M = inserted_plan P Q home base

  abbrev H : (i j : ℕ) → Location → Location → Type 0
  H = held P Q home base f

  abbrev code : List Instr
  code = code_of P f

  abbrev result_code : List Instr
  result_code = code_of Q f

  -- what is asked: a copy that is put in reads what holds some location of P that each walk has assigned
  pub record Assures : Type 0 where
    pub reads : (walk : List Branch) (j : ℕ) (item : Instr) (y : Location) → IsWalk code walk → low P Q home base f (end_of walk) ≤ j → j < home f (end_of walk) → item_at Q f j ≡ Some item → In y (reads_of item)
        → (x : Location) × H (end_of walk) j x y × In x (assigned_of code args walk).locations

  module _ (was : (point : ℕ) (item : Instr) (place : Location) → slice_get code point ≡ Some item → In place (reads_of item) → (walk : List Branch) → IsWalk code walk → end_of walk ≡ point → In place (assigned_of code args walk).locations) (sure : Assures) where
    abbrev L : List Branch → Type 0
    L = MatchedWalk M P Q f args result_args

    rising : (i n : ℕ) → home f i + n ≤ home f (i + n)
    rising i zero = let e : i + 0 ≡ i = omega arith in let h : home f (i + 0) ≡ home f i = ap (home f) e in omega (arith, h)
    rising i (suc n) = let r = rising i n in let o = t.order f (suc (i + n)) in let e : i + suc n ≡ suc (i + n) = omega arith in let h : home f (i + suc n) ≡ home f (suc (i + n)) = ap (home f) e in omega (arith, r, o, h)

    -- a point of Q stands by one point of P
    one-beside : (i k j : ℕ) → low P Q home base f i ≤ j → j ≤ home f i → low P Q home base f k ≤ j → j ≤ home f k → i < k → ⊥
    one-beside i zero j li hi lk hk less = omega arith
    one-beside i (suc k) j li hi lk hk less =
        let n = k - i in
        let e : i + (k - i) ≡ k = omega arith in
        let r = rising i (k - i) in
        let h : home f (i + (k - i)) ≡ home f k = ap (home f) e in
        omega (arith, r, h, lk, hi)

    same-point : (i k j : ℕ) → low P Q home base f i ≤ j → j ≤ home f i → low P Q home base f k ≤ j → j ≤ home f k → i ≡ k
    same-point i k j li hi lk hk = by (cases_lt i k) (cases_lt k i)
      where
        by : (i < k) ⊎ (k ≤ i) → (k < i) ⊎ (i ≤ k) → i ≡ k
        by (inl l) x = absurd (one-beside i k j li hi lk hk l)
        by (inr l) (inl m) = absurd (one-beside k i j lk hk li hi m)
        by (inr l) (inr m) = omega arith

    within : (i j : ℕ) → low P Q home base f i ≤ j → i ≤ suc j
    within zero j h = omega arith
    within (suc i) j h = let r = rising 0 i in let e : 0 + i ≡ i = omega arith in let q : home f (0 + i) ≡ home f i = ap (home f) e in omega (arith, r, h, q)

    before : (i k j : ℕ) → k < i → low P Q home base f i ≤ j → j ≤ home f k → ⊥
    before zero k j m b l = omega arith
    before (suc i) k j m b l =
        let e : k + (i - k) ≡ i = omega arith in
        let r = rising k (i - k) in
        let h : home f (k + (i - k)) ≡ home f i = ap (home f) e in
        omega (arith, r, h, b, l)

    found : (n k i j : ℕ) → k ≤ i → i ≤ k + n → (low P Q home base f i ≤ j) × (j ≤ home f i) → stands-for (home f) n k j ≡ i
    unfolding stands-for
    found zero k i j low' high b = omega arith
    found (suc n) k i j low' high b = by (cases_lt (home f k) j) (λ h. found n (suc k) i j h (omega arith) b)
      where
        by : (d : (home f k < j) ⊎ (j ≤ home f k)) → (suc k ≤ i → stands-for (home f) n (suc k) j ≡ i) → ⊎_elim (λ l. stands-for (home f) n (suc k) j) (λ l. k) d ≡ i
        by (inl l) rec = rec (⊎_elim (λ m. m) (λ m. absurd (let e : i ≡ k = omega arith in let h : home f i ≡ home f k = ap (home f) e in let q = b.1 in omega (arith, h, l, q))) (cases_lt k i))
        by (inr l) rec = ⊎_elim (λ m. absurd (before i k j m b.0 l)) (λ m. omega (arith, m, low')) (cases_lt k i)

    -- Q goes on alone at a copy
    module _ (w v : List Branch) (h : WalksMatch M P Q f args result_args w v) (b : Instr) (bt : item_at Q f (end_of v) ≡ Some b) (copy : is_copy (Some b) ≡ true) (less : end_of v < home f (end_of w)) where
      alone-on : WalksMatch M P Q f args result_args w (onward (end_of v) ∷ v)
      alone-on = record {
        is = h.is;
        points = (let l = h.points.0 in omega (arith, l), omega arith);
        locations = λ x y q i. subst (λ (z : Assigned). In y z.locations) (sym (on-assigned result_code result_args v b bt (copy-keeps b copy))) (there x y q i (behind-copy b y copy));
        saved = subst (λ (z : Assigned). SavedSetsMatch M P Q f args result_args (sites_of code w) (sites_of result_code (onward (end_of v) ∷ v)) (assigned_of code args w).saved z.saved) (sym (on-assigned result_code result_args v b bt (copy-keeps b copy)))
            (subst (λ l. SavedSetsMatch M P Q f args result_args (sites_of code w) l (assigned_of code args w).saved (assigned_of result_code result_args v).saved) (sym (on-sites result_code result_args v b bt (copy-keeps b copy))) h.saved);
      }
        where
          there : (x y : Location) → H (end_of w) (suc (end_of v)) x y → In x (assigned_of code args w).locations → (In y (assigns_of b)) ⊎ (source (Some b) y ≡ y) → In y (assigns_of b ++ (assigned_of result_code result_args v).locations)
          there x y q i (inl k) = in_append_left y (assigns_of b) (assigned_of result_code result_args v).locations k
          there x y q i (inr e) =
              let q' : H (end_of w) (end_of v) x y = subst (H (end_of w) (end_of v) x) (ap (λ o. source o y) bt ∙ e) (one_less P Q home base c accepted t f (end_of w) (end_of v) x y less q) in
              in_append_right y (assigns_of b) (assigned_of result_code result_args v).locations (h.locations x y q' i)

    -- P copies, and Q passes a nop
    module _ (w v : List Branch) (h : WalksMatch M P Q f args result_args w v) (a : Instr) (at : item_at P f (end_of w) ≡ Some a) (copy : is_copy (Some a) ≡ true) (home-is : end_of v ≡ home f (end_of w)) where
      reached : IsReached code (end_of w)
      reached = record { walk = w; is = h.is; ends = refl }

      there : NopThere Q f (home f (end_of w))
      there = nop_there Q f (home f (end_of w)) (t.gone f (end_of w) reached (ap is_copy at ∙ copy))

      abbrev N : Instr
      N = Act there.dest there.ty op.Nop there.args there.funcs there.labels

      bt : item_at Q f (end_of v) ≡ Some N
      bt = ap (item_at Q f) home-is ∙ there.at

      both-on : WalksMatch M P Q f args result_args (onward (end_of w) ∷ w) (onward (end_of v) ∷ v)
      both-on = record {
        is = (contains_in (onward (end_of w)) (branches_at code (end_of w)) (subst (λ o. In (onward (end_of w)) (branches_from code (end_of w) o)) (sym at) (subst (In (onward (end_of w))) (sym (copy-branches a copy code (end_of w))) (inl refl))), h.is);
        points = (let e : suc (end_of v) ≡ suc (home f (end_of w)) = ap suc home-is in omega (arith, e), (let e : suc (end_of v) ≡ suc (home f (end_of w)) = ap suc home-is in let o = t.order f (suc (end_of w)) in omega (arith, e, o)));
        locations = λ x y q i.
            let q' : H (suc (end_of w)) (suc (home f (end_of w))) x y = subst (λ n. H (suc (end_of w)) (suc n) x y) home-is q in
            let k : base f (end_of w) (source (Some a) x) y = subst (λ o. base f (end_of w) (source o x) y) at (t.copied f (end_of w) x y reached (ap is_copy at ∙ copy) q') in
            let k' : H (end_of w) (end_of v) (source (Some a) x) y = subst (λ n. H (end_of w) n (source (Some a) x) y) (sym home-is) (at_home P Q home base c accepted t f (end_of w) (source (Some a) x) y k) in
            let i' : In x (assigns_of a ++ (assigned_of code args w).locations) = subst (λ (z : Assigned). In x z.locations) (on-assigned code args w a at (copy-keeps a copy)) i in
            subst (λ (z : Assigned). In y z.locations) (sym (on-assigned result_code result_args v N bt refl)) (in_append_right y (assigns_of N) (assigned_of result_code result_args v).locations (h.locations (source (Some a) x) y k' (had x i' (source-cases a x copy))));
        saved = subst (λ (z : Assigned). SavedSetsMatch M P Q f args result_args (sites_of code (onward (end_of w) ∷ w)) (sites_of result_code (onward (end_of v) ∷ v)) z.saved (assigned_of result_code result_args (onward (end_of v) ∷ v)).saved) (sym (on-assigned code args w a at (copy-keeps a copy)))
            (subst (λ (z : Assigned). SavedSetsMatch M P Q f args result_args (sites_of code (onward (end_of w) ∷ w)) (sites_of result_code (onward (end_of v) ∷ v)) (assigned_of code args w).saved z.saved) (sym (on-assigned result_code result_args v N bt refl))
            (subst (λ l. SavedSetsMatch M P Q f args result_args l (sites_of result_code (onward (end_of v) ∷ v)) (assigned_of code args w).saved (assigned_of result_code result_args v).saved) (sym (on-sites code args w a at (copy-keeps a copy)))
            (subst (λ l. SavedSetsMatch M P Q f args result_args (sites_of code w) l (assigned_of code args w).saved (assigned_of result_code result_args v).saved) (sym (on-sites result_code result_args v N bt refl)) h.saved)));
      }
        where
          had : (x : Location) → In x (assigns_of a ++ (assigned_of code args w).locations) → In (source (Some a) x) (reads_of a) ⊎ ((source (Some a) x ≡ x) × (In x (assigns_of a) → ⊥)) → In (source (Some a) x) (assigned_of code args w).locations
          had x i (inl r) = was (end_of w) a (source (Some a) x) at r w h.is refl
          had x i (inr r) = subst (λ z. In z (assigned_of code args w).locations) (sym r.0) (⊎_elim (λ k. absurd (r.1 k)) (λ k. k) (in_append_cases x (assigns_of a) (assigned_of code args w).locations i))

    at-home-or : (i j : ℕ) → j ≤ home f i → (j < home f i) ⊎ (j ≡ home f i)
    at-home-or i j h = ⊎_elim (λ l. inl l) (λ l. inr (omega arith)) (cases_lt j (home f i))

    branches : (v : List Branch) (b : Branch) → IsWalk result_code v → L v → In b (branches_at result_code (end_of v)) → L (b ∷ v)
    branches v b is l among = ⊎_elim inside at-home (at-home-or (end_of l.walk) (end_of v) l.matches.points.1)
      where
        i : ℕ
        i = end_of l.walk

        reached : IsReached code (end_of l.walk)
        reached = record { walk = l.walk; is = l.matches.is; ends = refl }

        only : (q : Instr) → item_at Q f (end_of v) ≡ Some q → item_branches result_code (end_of v) q ≡ onward (end_of v) ∷ [] → b ≡ onward (end_of v)
        only q e w = ⊎_elim (λ s. s) (λ n. absurd n) (subst (In b) w (subst (λ o. In b (branches_from result_code (end_of v) o)) e among))

        inside : end_of v < home f (end_of l.walk) → MatchedWalk M P Q f args result_args (b ∷ v)
        inside less = by (item_at Q f (end_of v)) refl
          where
            is-copy : is_copy (item_at Q f (end_of v)) ≡ true
            is-copy = t.copies f (end_of l.walk) (end_of v) reached l.matches.points.0 less

            by : (o : Option Instr) → item_at Q f (end_of v) ≡ o → MatchedWalk M P Q f args result_args (b ∷ v)
            by None e = absurd (let x = ap is_copy (sym e) ∙ is-copy in cc)
            by (Some q) e =
                let copy : is_copy (Some q) ≡ true = ap is_copy (sym e) ∙ is-copy in
                subst (λ b. MatchedWalk M P Q f args result_args (b ∷ v)) (sym (only q e (copy-branches q copy result_code (end_of v)))) (record { walk = l.walk; matches = alone-on l.walk v l.matches q e copy less })

        at-home : end_of v ≡ home f (end_of l.walk) → MatchedWalk M P Q f args result_args (b ∷ v)
        at-home here = by (item_at P f (end_of l.walk)) (is_copy (item_at P f (end_of l.walk))) refl refl
          where
            by : (o : Option Instr) (d : Bool) → item_at P f (end_of l.walk) ≡ o → is_copy (item_at P f (end_of l.walk)) ≡ d → MatchedWalk M P Q f args result_args (b ∷ v)
            by o false e d = regular_branch_matched M P Q f args result_args accepted (preserves P Q home base c accepted t) v b (record { walk = l.walk; matches = l.matches; regular = (here, d) }) among
            by None true e d = absurd (let x = ap is_copy (sym e) ∙ d in cc)
            by (Some a) true e d =
                let copy : is_copy (Some a) ≡ true = ap is_copy (sym e) ∙ d in
                subst (λ b. MatchedWalk M P Q f args result_args (b ∷ v)) (sym (only (N l.walk v l.matches a e copy here) (bt l.walk v l.matches a e copy here) refl)) (record { walk = onward (end_of l.walk) ∷ l.walk; matches = both-on l.walk v l.matches a e copy here })

    settled : (v : List Branch) (l : MatchedWalk M P Q f args result_args v) → M.IsRegular f (end_of l.walk) (end_of v) ⊎ IsHarmless (λ y. (x : Location) × H (end_of l.walk) (end_of v) x y × In x (assigned_of code args l.walk).locations) (slice_get result_code (end_of v))
    settled v l = ⊎_elim inside at-home (at-home-or (end_of l.walk) (end_of v) l.matches.points.1)
      where
        reached : IsReached code (end_of l.walk)
        reached = record { walk = l.walk; is = l.matches.is; ends = refl }

        Result : Type 0
        Result = M.IsRegular f (end_of l.walk) (end_of v) ⊎ IsHarmless (λ y. (x : Location) × H (end_of l.walk) (end_of v) x y × In x (assigned_of code args l.walk).locations) (slice_get result_code (end_of v))

        inside : end_of v < home f (end_of l.walk) → M.IsRegular f (end_of l.walk) (end_of v) ⊎ IsHarmless (λ y. (x : Location) × H (end_of l.walk) (end_of v) x y × In x (assigned_of code args l.walk).locations) (slice_get result_code (end_of v))
        inside less = inr (by (item_at Q f (end_of v)) refl)
          where
            is-copy : is_copy (item_at Q f (end_of v)) ≡ true
            is-copy = t.copies f (end_of l.walk) (end_of v) reached l.matches.points.0 less

            by : (o : Option Instr) → item_at Q f (end_of v) ≡ o → IsHarmless (λ y. (x : Location) × H (end_of l.walk) (end_of v) x y × In x (assigned_of code args l.walk).locations) (slice_get result_code (end_of v))
            by None e = absurd (let x = ap is_copy (sym e) ∙ is-copy in cc)
            by (Some q) e =
                let copy : is_copy (Some q) ≡ true = ap is_copy (sym e) ∙ is-copy in
                record {
                  there = subst IsSome (sym e) refl;
                  alone = ap leaves_frame e ∙ (copy-plain q copy).0;
                  closed = ap needs_site e ∙ (copy-plain q copy).1;
                  reads = λ item at y r. sure.reads l.walk (end_of v) item y l.matches.is l.matches.points.0 less at r;
                }

        at-home : end_of v ≡ home f (end_of l.walk) → M.IsRegular f (end_of l.walk) (end_of v) ⊎ IsHarmless (λ y. (x : Location) × H (end_of l.walk) (end_of v) x y × In x (assigned_of code args l.walk).locations) (slice_get result_code (end_of v))
        at-home here = by (item_at P f (end_of l.walk)) (is_copy (item_at P f (end_of l.walk))) refl refl
          where
            by : (o : Option Instr) (d : Bool) → item_at P f (end_of l.walk) ≡ o → is_copy (item_at P f (end_of l.walk)) ≡ d
                → M.IsRegular f (end_of l.walk) (end_of v) ⊎ IsHarmless (λ y. (x : Location) × H (end_of l.walk) (end_of v) x y × In x (assigned_of code args l.walk).locations) (slice_get result_code (end_of v))
            by o false e d = inl (here, d)
            by None true e d = absurd (let x = ap is_copy (sym e) ∙ d in cc)
            by (Some a) true e d =
                let copy : is_copy (Some a) ≡ true = ap is_copy (sym e) ∙ d in
                let n = there l.walk v l.matches a e copy here in
                let q : item_at Q f (end_of v) ≡ Some (Act n.dest n.ty op.Nop n.args n.funcs n.labels) = ap (item_at Q f) here ∙ n.at in
                inr (record { there = subst IsSome (sym q) refl; alone = ap leaves_frame q; closed = ap needs_site q; reads = λ item at' y r. absurd (let z : Act n.dest n.ty op.Nop n.args n.funcs n.labels ≡ item = same_Some _ _ (sym q ∙ at') in let r' : In y (reads_of (Act n.dest n.ty op.Nop n.args n.funcs n.labels)) = subst (λ i. In y (reads_of i)) (sym z) r in subst (λ l. In y (map Variable l)) n.none r') })

    -- the walks are accepted
    pub copies-walks : (ret : Bool) → AreWalksAccepted code args ret → MatchedWalk M P Q f args result_args [] → AreWalksAccepted result_code result_args ret
    copies-walks ret old start = walks_accepted M P Q f args result_args matched_walks accepted (preserves P Q home base c accepted t) ret old
      where
        once : (s j u : ℕ) → M.PointsMatch f s j → M.IsRegular f s j → M.PointsMatch f s u → M.IsRegular f s u → j ≡ u
        once s j u b r b' r' = r.0 ∙ sym r'.0

        matched_walks : MatchesWalks M P Q f args result_args
        matched_walks = record {
          old = λ j. stands-for (home f) (suc j) 0 j;
          start = start;
          branches = branches;
          drawn = λ v l. (l, sym (found (suc (end_of v)) 0 (end_of l.walk) (end_of v) (omega arith) (let q = within (end_of l.walk) (end_of v) l.matches.points.0 in omega (arith, q)) l.matches.points));
          settled = λ v l e. settled v l;
          once = once;
        }
