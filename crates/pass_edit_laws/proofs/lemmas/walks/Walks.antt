-- Walks of the result go on with the walks of the program that match them.
use Rattle.std.proofs.Common.{◌≡◌, ℕ, suc, Bool, true, false, List, [], ◌∷◌, ◌++◌, map, Option, Some, None, refl, sym, ap, subst, ◌∙◌, inl, inr, ⊎_elim}
use Rattle.std.specs.Prelude.{slice_get, IsTrue}
use Rattle.bril_tree.specs.declared.numbered.Instr.{Instr}
use Rattle.bril_tree.specs.declared.numbered.Instr.TheVariants.{Label, Const, Act}
use Rattle.bril_tree.specs.declared.program.Prog.{Prog}
use Rattle.bril_tree.specs.Accepted.{IsAccepted}
use Rattle.bril_tree.specs.Assigned.{Assigned, assigned_of, assigned_behind, assigned_changed, newest_saved, assigns_at, assigns_of}
use Rattle.bril_tree.specs.Edge.{Branch, branches_at, branches_from, onward}
use Rattle.bril_tree.specs.FunctionForm.{listed}
use Rattle.bril_tree.specs.Operand.{Location, Variable, dest_of}
use Rattle.bril_tree.specs.Sites.{Change, Opens, Closes, Keeps, change_of, item_change, operation_change, sites_of, sites_changed, without_newest, needs_site}
use Rattle.bril_tree.specs.Step.{code_of, item_at}
use Rattle.bril_tree.specs.Walk.{end_of}
use Rattle.bril_tree.specs.Membership.{In}
use Rattle.bril_tree.proofs.Members.{contains_in, in_append_left, in_append_right, in_append_cases}
use Rattle.bril_tree.proofs.Shapes.{none_assigned, closing_needs}
use Rattle.bril_tree.proofs.Outcomes.{GoesOn}
use Rattle.bril_tree.proofs.Branches.{aborts-close, branches_from-leave}
use Rattle.bril_tree.proofs.Elements.{zip-find}
use Rattle.flow_graph.proofs.Told.{some_site}
use Rattle.pass_edit_laws.specs.plan.Plan.{Plan, StaysMatched, PointItemsMatch, EdgesMatch, StepsMatch, Preserves}
use Rattle.pass_edit_laws.specs.walks.Matched.{Covers, SavedSetsMatch, WalksMatch, MatchedWalk, RegularWalk}
use Rattle.pass_edit_laws.proofs.lemmas.steps.Shapes.{shaped_here}

-- ---- what items say of a branch

same_change : (A : Location → Location → Type 0) (o u : Option Instr) (b : Bool) → PointItemsMatch A o u → item_change o b ≡ item_change u b
same_change A None None b s = refl
same_change A None (Some y) b s = absurd s
same_change A (Some x) None b s = absurd s
same_change A (Some (Label l)) (Some (Label m)) b s = refl
same_change A (Some (Label l)) (Some (Const y t w)) b s = absurd s
same_change A (Some (Label l)) (Some (Act e t u result_args gns ms)) b s = absurd s
same_change A (Some (Const x t v)) (Some (Label m)) b s = absurd s
same_change A (Some (Const x t v)) (Some (Const y r w)) b s = refl
same_change A (Some (Const x t v)) (Some (Act e r u result_args gns ms)) b s = absurd s
same_change A (Some (Act d t o args fns ls)) (Some (Label m)) b s = absurd s
same_change A (Some (Act d t o args fns ls)) (Some (Const y r w)) b s = absurd s
same_change A (Some (Act d t o args fns ls)) (Some (Act e r u result_args gns ms)) b s = ap (λ z. operation_change z b) s.operation

module _ (m : Plan) (P Q : Prog) (f : ℕ) (args result_args : ℕ) (accepted : IsAccepted P) where
  abbrev S : List ℕ → List ℕ → List (List Location) → List (List Location) → Type 0
  S = SavedSetsMatch m P Q f args result_args

  saved-rest : (ss ts : List ℕ) (xs ys : List (List Location)) → S ss ts xs ys → S (without_newest ss) (without_newest ts) (without_newest xs) (without_newest ys)
  saved-rest [] [] [] [] h = tt
  saved-rest (s ∷ ss) (t ∷ ts) (x ∷ xs) (y ∷ ys) h = h.1
  saved-rest _ _ _ _ h = absurd h

  -- one branch further, by what it does to sites and sets
  module _ (w v : List Branch) (h : WalksMatch m P Q f args result_args w v) (o u : Option Instr) (at : item_at P f (end_of w) ≡ o) (bt : item_at Q f (end_of v) ≡ u) (steps : StepsMatch m P Q f (end_of w) (end_of v) o u)
      (regular : m.IsRegular f (end_of w) (end_of v)) (a b : Branch) (among : In a (branches_from (code_of P f) (end_of w) o)) (bmong : In b (branches_from (code_of Q f) (end_of v) u)) (branches : EdgesMatch m P Q f (end_of w) (end_of v) o u a b) where
    abbrev before : Assigned
    before = assigned_of (code_of P f) args w

    abbrev behind : Assigned
    behind = assigned_of (code_of Q f) result_args v

    kept-covers : a.aborts ≡ false → Covers (m.LocationsMatch f a.to b.to) (assigns_at o ++ before.locations) (assigns_at u ++ behind.locations)
    kept-covers e x y matches i = by (branches.kept e x y matches)
      where
        by : StaysMatched (assigns_at o) (assigns_at u) (m.LocationsMatch f (end_of w) (end_of v)) x y → In y (assigns_at u ++ behind.locations)
        by (inl k) = in_append_left y (assigns_at u) behind.locations k.1
        by (inr k) = in_append_right y (assigns_at u) behind.locations (h.locations x y k.2 (⊎_elim (λ j. absurd (k.0 j)) (λ j. j) (in_append_cases x (assigns_at o) before.locations i)))

    plain-covers : a.aborts ≡ false → assigns_at o ≡ [] → Covers (m.LocationsMatch f a.to b.to) before.locations behind.locations
    plain-covers e none x y matches i = by (branches.kept e x y matches)
      where
        by : StaysMatched (assigns_at o) (assigns_at u) (m.LocationsMatch f (end_of w) (end_of v)) x y → In y behind.locations
        by (inl k) = absurd (subst (In x) none k.0)
        by (inr k) = h.locations x y k.2 i

    back-covers : a.aborts ≡ true → (ss ts : List ℕ) (xs ys : List (List Location)) → sites_of (code_of P f) w ≡ ss → S ss ts xs ys → (ss ≡ [] → ⊥) → Covers (m.LocationsMatch f a.to b.to) (newest_saved before.locations xs) (newest_saved behind.locations ys)
    back-covers e [] [] [] [] ss z some = absurd (some refl)
    back-covers e (s ∷ ss) (t ∷ ts) (x ∷ xs) (y ∷ ys) es z some = λ p q matches i. z.0.2 p q (branches.back e w h.is refl s t ss es z.0.0 z.0.1 p q matches) i
    back-covers e _ _ _ _ es z some = absurd z

    none-here : (o' : Option Instr) → item_at P f (end_of w) ≡ o' → (item_change o' a.aborts ≡ Keeps → ⊥) → assigns_at o' ≡ []
    none-here None e n = refl
    none-here (Some c) e n = let s = shaped_here P accepted f (end_of w) c e in none_assigned s.ret c a.aborts s.shaped n

    some-here : item_change o a.aborts ≡ Closes → (c : Instr) → o ≡ Some c → sites_of (code_of P f) w ≡ [] → ⊥
    some-here e c there none =
        let s = shaped_here P accepted f (end_of w) c (at ∙ there) in
        some_site (code_of P f) w s.sound h.is (subst (λ z. IsTrue (needs_site z)) (sym at) (closing_needs o a.aborts e)) none

    is-some : (o' : Option Instr) → In a (branches_from (code_of P f) (end_of w) o') → (c : Instr) × (o' ≡ Some c)
    is-some None i = absurd i
    is-some (Some c) i = (c, refl)

    by_change : (c : Change) (ab : Bool) → item_change o a.aborts ≡ c → a.aborts ≡ ab → Covers (m.LocationsMatch f a.to b.to) (assigned_changed c (assigns_at o) ab before).locations (assigned_changed c (assigns_at u) ab behind).locations
        × S (sites_changed c (end_of w) (sites_of (code_of P f) w)) (sites_changed c (end_of v) (sites_of (code_of Q f) v)) (assigned_changed c (assigns_at o) ab before).saved (assigned_changed c (assigns_at u) ab behind).saved
    by_change Keeps true e ea = absurd (let k = aborts-close (code_of P f) (end_of w) o a among ea in let g = ap (item_change o) (sym ea) in let all : Closes ≡ Keeps = sym k ∙ g ∙ e in cc)
    by_change Keeps false e ea = (kept-covers ea, h.saved)
    by_change Opens true e ea = absurd (let k = aborts-close (code_of P f) (end_of w) o a among ea in let g = ap (item_change o) (sym ea) in let all : Closes ≡ Opens = sym k ∙ g ∙ e in cc)
    by_change Opens false e ea = (plain-covers ea (subst (λ z. assigns_at z ≡ []) at (none-here _ refl (λ k. let z = ap (λ y. item_change y a.aborts) at in let all : Keeps ≡ Opens = sym k ∙ z ∙ e in cc))), ((h.points, regular, h.locations), h.saved))
    by_change Closes false e ea =
        (plain-covers ea (subst (λ z. assigns_at z ≡ []) at (none-here _ refl (λ k. let z = ap (λ y. item_change y a.aborts) at in let all : Keeps ≡ Closes = sym k ∙ z ∙ e in cc))), saved-rest _ _ _ _ h.saved)
    by_change Closes true e ea =
        let c = is-some o among in
        (back-covers ea (sites_of (code_of P f) w) (sites_of (code_of Q f) v) before.saved behind.saved refl h.saved (some-here e c.0 c.1), saved-rest _ _ _ _ h.saved)

    further : WalksMatch m P Q f args result_args (a ∷ w) (b ∷ v)
    further =
        let code = code_of P f in
        let result_code = code_of Q f in
        let fa = branches_from-leave code (end_of w) o a among in
        let fb = branches_from-leave result_code (end_of v) u b bmong in
        let oa : slice_get code a.from ≡ o = ap (slice_get code) fa ∙ at in
        let ub : slice_get result_code b.from ≡ u = ap (slice_get result_code) fb ∙ bt in
        let same : item_change u b.aborts ≡ item_change o a.aborts = ap (item_change u) (sym branches.aborts) ∙ sym (same_change (m.LocationsMatch f (end_of w) (end_of v)) o u a.aborts steps.same) in
        let parts = by_change (item_change o a.aborts) a.aborts refl refl in
        let pa : assigned_changed (item_change o a.aborts) (assigns_at o) a.aborts before ≡ assigned_behind code a before = ap (λ z. assigned_changed (item_change z a.aborts) (assigns_at z) a.aborts before) (sym oa) in
        let pb : assigned_changed (item_change o a.aborts) (assigns_at u) a.aborts behind ≡ assigned_behind result_code b behind =
        ap (λ c. assigned_changed c (assigns_at u) a.aborts behind) (sym same) ∙ ap (λ n. assigned_changed (item_change u b.aborts) (assigns_at u) n behind) branches.aborts ∙ ap (λ z. assigned_changed (item_change z b.aborts) (assigns_at z) b.aborts behind) (sym ub) in
        let sa : sites_changed (item_change o a.aborts) (end_of w) (sites_of code w) ≡ sites_of code (a ∷ w) = ap (λ z. sites_changed (item_change z a.aborts) (end_of w) (sites_of code w)) (sym oa) ∙ ap (λ n. sites_changed (change_of code a) n (sites_of code w)) (sym fa) in
        let sb : sites_changed (item_change o a.aborts) (end_of v) (sites_of result_code v) ≡ sites_of result_code (b ∷ v) =
        ap (λ c. sites_changed c (end_of v) (sites_of result_code v)) (sym same) ∙ ap (λ z. sites_changed (item_change z b.aborts) (end_of v) (sites_of result_code v)) (sym ub) ∙ ap (λ n. sites_changed (change_of result_code b) n (sites_of result_code v)) (sym fb) in
        record {
          is = (contains_in a (branches_at code (end_of w)) (subst (λ z. In a (branches_from code (end_of w) z)) (sym at) among), h.is);
          points = branches.points;
          locations = subst (λ (z : Assigned). Covers (m.LocationsMatch f a.to b.to) z.locations (assigned_behind result_code b behind).locations) pa (subst (λ (z : Assigned). Covers (m.LocationsMatch f a.to b.to) (assigned_changed (item_change o a.aborts) (assigns_at o) a.aborts before).locations z.locations) pb parts.0);
          saved = subst (λ (z : Assigned). S (sites_of code (a ∷ w)) (sites_of result_code (b ∷ v)) z.saved (assigned_behind result_code b behind).saved) pa
              (subst (λ (z : Assigned). S (sites_of code (a ∷ w)) (sites_of result_code (b ∷ v)) (assigned_changed (item_change o a.aborts) (assigns_at o) a.aborts before).saved z.saved) pb
              (subst (λ l. S l (sites_of result_code (b ∷ v)) (assigned_changed (item_change o a.aborts) (assigns_at o) a.aborts before).saved (assigned_changed (item_change o a.aborts) (assigns_at u) a.aborts behind).saved) sa
              (subst (λ l. S (sites_changed (item_change o a.aborts) (end_of w) (sites_of code w)) l (assigned_changed (item_change o a.aborts) (assigns_at o) a.aborts before).saved (assigned_changed (item_change o a.aborts) (assigns_at u) a.aborts behind).saved) sb parts.1)));
        }

  -- from a regular pair each branch of Q is matched by one of P
  pub regular_branch_matched : Preserves m P Q → (v : List Branch) (b : Branch) → RegularWalk m P Q f args result_args v → In b (branches_at (code_of Q f) (end_of v)) → MatchedWalk m P Q f args result_args (b ∷ v)
  regular_branch_matched preserves v b s among =
      let w = s.walk in
      let steps = preserves.steps f (end_of w) (end_of v) (record { walk = w; is = s.matches.is; ends = refl }) s.matches.points s.regular in
      let found = zip-find (EdgesMatch m P Q f (end_of w) (end_of v) (item_at P f (end_of w)) (item_at Q f (end_of v))) (branches_at (code_of P f) (end_of w)) (branches_at (code_of Q f) (end_of v)) b steps.branches among in
      record { walk = found.0 ∷ w; matches = further w v s.matches _ _ refl refl steps s.regular found.0 b found.1 among found.2 }

  -- P goes on alone, from an item that neither opens nor closes a site
  pub alone-lifts : (w v : List Branch) → WalksMatch m P Q f args result_args w v → (a : Instr) → item_at P f (end_of w) ≡ Some a → GoesOn a → m.PointsMatch f (suc (end_of w)) (end_of v)
      → Covers (m.LocationsMatch f (suc (end_of w)) (end_of v)) (map Variable (listed (dest_of a)) ++ (assigned_of (code_of P f) args w).locations) (assigned_of (code_of Q f) result_args v).locations → WalksMatch m P Q f args result_args (onward (end_of w) ∷ w) v
  alone-lifts w v h a at on points covers =
      let code = code_of P f in
      let i = end_of w in
      let among : In (onward i) (branches_at code i) = subst (λ o. In (onward i) (branches_from code i o)) (sym at) (subst (λ l. In (onward i) l) (sym (on.branches code i)) (inl refl)) in
      let keeps : change_of code (onward i) ≡ Keeps = ap (λ o. item_change o false) at ∙ on.keeps false in
      let after : assigned_behind code (onward i) (assigned_of code args w) ≡ record { locations = map Variable (listed (dest_of a)) ++ (assigned_of code args w).locations; saved = (assigned_of code args w).saved } =
      ap (λ o. assigned_changed (item_change o false) (assigns_at o) false (assigned_of code args w)) at ∙ ap (λ c. assigned_changed c (assigns_of a) false (assigned_of code args w)) (on.keeps false)
      ∙ ap (λ l. assigned_changed Keeps l false (assigned_of code args w)) on.assigns in
      record {
        is = (contains_in (onward i) (branches_at code i) among, h.is);
        points = points;
        locations = subst (λ (z : Assigned). Covers (m.LocationsMatch f (suc i) (end_of v)) z.locations (assigned_of (code_of Q f) result_args v).locations) (sym after) covers;
        saved = subst (λ (z : Assigned). S (sites_of code (onward i ∷ w)) (sites_of (code_of Q f) v) z.saved (assigned_of (code_of Q f) result_args v).saved) (sym after)
            (subst (λ c. S (sites_changed c i (sites_of code w)) (sites_of (code_of Q f) v) (assigned_of code args w).saved (assigned_of (code_of Q f) result_args v).saved) (sym keeps) h.saved);
      }
