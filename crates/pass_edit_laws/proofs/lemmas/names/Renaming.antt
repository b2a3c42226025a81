-- A pass that gives variables other names has a plan that is preserved.
use Rattle.std.proofs.Common.{◌≡◌, ℕ, true, false, List, length, Option, Some, None, refl, sym, ap, subst, ◌∙◌}
use Rattle.std.specs.Prelude.{slice_get}
use Rattle.std.specs.Option.{option_map}
use Rattle.std.proofs.lemmas.Option.{same_Some}
use Rattle.bril_tree.specs.declared.function_tree.Item.TheVariants as item
use Rattle.bril_tree.specs.declared.numbered.Instr.{Instr}
use Rattle.bril_tree.specs.declared.numbered_function.Func.{Func}
use Rattle.bril_tree.specs.declared.program.Prog.{Prog}
use Rattle.bril_tree.specs.Accepted.{IsAccepted}
use Rattle.bril_tree.specs.Assigned.{assigns_at}
use Rattle.bril_tree.specs.Edge.{Branch, branches_at, branches_from, item_branches, onward, jump, abort}
use Rattle.bril_tree.specs.Numbered.{named, item_tree, names_of_functions, names_in, tree_at}
use Rattle.bril_tree.specs.Operand.{Location, reads_of}
use Rattle.bril_tree.specs.Step.{items_of, code_of, item_at, point_of}
use Rattle.bril_tree.specs.Walk.{IsReached}
use Rattle.bril_tree.specs.Membership.{In}
use Rattle.bril_tree.proofs.Branches.{reached_on, item-onward}
use Rattle.bril_tree.proofs.Trees.{nothing_at}
use Rattle.bril_names.specs.Range.{IsInRange}
use Rattle.bril_names.proofs.Functions.{Differ-functions}
use Rattle.pass_edit_laws.specs.plan.Plan.{Plan, IsLearned, EdgesMatch, StepsMatch, Preserves}
use Rattle.pass_edit_laws.proofs.lemmas.steps.Shapes.{shaped_here}
use Rattle.pass_edit_laws.specs.names.Named.{SameName}
use Rattle.pass_edit_laws.specs.names.NamedPlan.{NamePlan}
use Rattle.pass_edit_laws.specs.names.Renaming.{renamed_tree, renaming, Renames, RenamingPreserves}
use Rattle.pass_edit_laws.proofs.lemmas.names.Branches.{branches-zip}
use Rattle.pass_edit_laws.proofs.lemmas.names.Items.{Shares, item-shares}
use Rattle.pass_edit_laws.proofs.lemmas.names.Locations.{kept-apart}
use Rattle.pass_edit_laws.proofs.lemmas.names.Points.{Found, found, found_under, label_found, Differ-in}

-- the tree of an item with the new names
pub renamed-found : (X : Prog) (f i : ℕ) (a : Instr) → item_at X f i ≡ Some a → (F : Func) → slice_get X.funcs f ≡ Some F → (vars : List (List ℕ)) → renamed_tree (names_of_functions X.funcs) vars (slice_get X.funcs f) i ≡ Some (item_tree (names_of_functions X.funcs) vars F.labels a)
renamed-found X f i a at F there vars =
    let here : slice_get F.code i ≡ Some a = ap (λ o. slice_get (items_of o) i) (sym there) ∙ at in
    ap (λ o. renamed_tree (names_of_functions X.funcs) vars o i) there ∙ ap (option_map (item_tree (names_of_functions X.funcs) vars F.labels)) here

-- past the end there is none
pub renamed-none : (X : Prog) (f i : ℕ) → item_at X f i ≡ None → (vars : List (List ℕ)) → renamed_tree (names_of_functions X.funcs) vars (slice_get X.funcs f) i ≡ None
renamed-none X f i at vars = by (slice_get X.funcs f) at
  where
    by : (o : Option Func) → slice_get (items_of o) i ≡ None → renamed_tree (names_of_functions X.funcs) vars o i ≡ None
    by None e = refl
    by (Some F) e = ap (option_map (item_tree (names_of_functions X.funcs) vars F.labels)) e

-- Two items of one tree, where the first one's variables have these names, share what the tree says.
module _ (P Q : Prog) (accepted : IsAccepted P) (functions : names_of_functions P.funcs ≡ names_of_functions Q.funcs) (f i j : ℕ) (vars : List (List ℕ)) (sized : length vars ≡ length (names_in (slice_get P.funcs f))) (M : Location → Type 0)
    (same : renamed_tree (names_of_functions P.funcs) vars (slice_get P.funcs f) i ≡ tree_at Q f j) (a b : Instr) (at : item_at P f i ≡ Some a) (bt : item_at Q f j ≡ Some b) where
  pub items_share : ((x : Location) → In x (reads_of a) → M x) → Shares (names_of_functions P.funcs) vars (names_in (slice_get Q.funcs f)) (found P f i a at).function.labels (found Q f j b bt).function.labels (Differ-functions P) M a b
  items_share reads =
      let fs = names_of_functions P.funcs in
      let fa = found P f i a at in
      let fb = found Q f j b bt in
      let under = found_under fs Q functions f j b fb in
      let range : IsInRange (length fs) (length vars) (length fa.function.labels) a = subst (λ n. IsInRange (length fs) n (length fa.function.labels) a) (sym sized) fa.range in
      let one : item_tree fs vars fa.function.labels a ≡ item_tree fs (names_in (slice_get Q.funcs f)) fb.function.labels b = same_Some _ _ (sym (renamed-found P f i a at fa.function fa.there vars) ∙ same ∙ under.tree) in
      let shaped = shaped_here P accepted f i a at in
      item-shares fs vars (names_in (slice_get Q.funcs f)) fa.function.labels fb.function.labels (Differ-functions P) M shaped.ret a b shaped.shaped one range under.range reads

-- ---- the record

module _ (P Q : Prog) (names : ℕ → List (List ℕ)) (N : NamePlan) (accepted : IsAccepted P) (k : Renames P Q names N) where
  abbrev M : Plan
  M = renaming P Q names N

  module _ (f i j : ℕ) (reached : IsReached (code_of P f) i) (points : N.PointsMatch f i j) (regular : N.IsRegular f i j) where
    module _ (a b : Instr) (at : item_at P f i ≡ Some a) (bt : item_at Q f j ≡ Some b) where
      abbrev fa : Found P f i a
      fa = found P f i a at

      abbrev fb : Found Q f j b
      fb = found Q f j b bt

      abbrev fs : List (List ℕ)
      fs = names_of_functions P.funcs

      shares : Shares fs (names f) (names_in (slice_get Q.funcs f)) fa.function.labels fb.function.labels (Differ-functions P) (N.Matters f i) a b
      shares = items_share P Q accepted k.heads.names f i j (names f) (k.sized f) (N.Matters f i) (k.same f i j reached points regular) a b at bt (λ x h. k.reads f i j a x reached points regular at h)

      abbrev among : Branch → Type 0
      among w = In w (item_branches (code_of P f) i a)

      at_branch : (w : Branch) → among w → In w (branches_at (code_of P f) i)
      at_branch w h = subst (λ o. In w (branches_from (code_of P f) i o)) (sym at) h

      -- a branch that is no abort
      goes : (w v : Branch) → w.aborts ≡ false → v.aborts ≡ false → among w → N.PointsMatch f w.to v.to → EdgesMatch M P Q f i j (Some a) (Some b) w v
      goes w v wa va h there = record {
        aborts = wa ∙ sym va;
        points = there;
        kept = λ _ x y matches. kept-apart (names f) (names_in (slice_get Q.funcs f)) (Differ-in (slice_get Q.funcs f)) (N.Matters f i) (assigns_at (Some a)) (assigns_at (Some b)) shares.assigns x y matches.0
            (λ n. k.flows f i w x reached (at_branch w h) wa matches.1 (subst (λ o. In x (assigns_at o) → ⊥) (sym at) n))
            (λ h'. subst (λ o. In x (assigns_at o)) at (k.apart f i j w x y reached points regular (at_branch w h) wa matches.1 matches.0 (subst (λ o. In y (assigns_at o)) (sym bt) h')));
        back = λ wb. absurd (let e : false ≡ true = sym wa ∙ wb in cc);
        learns = λ _ x v known. subst (λ o. IsLearned o (N.IsKnown f i) x v) at (k.known.learns f i j w x v reached points regular (at_branch w h) wa known);
        remembers = λ wb. absurd (let e : false ≡ true = sym wa ∙ wb in cc);
      }

      -- the points of labels match
      labelled : (l m : ℕ) (w : Branch) → SameName fa.function.labels fb.function.labels l m → among w → w.to ≡ point_of l (code_of P f) → N.PointsMatch f (point_of l (code_of P f)) (point_of m (code_of Q f))
      labelled l m w s h to =
          k.labels f (point_of l (code_of P f)) (point_of m (code_of Q f)) (named fa.function.labels l)
          (subst (IsReached (code_of P f)) to (reached_on (code_of P f) i w reached (at_branch w h)))
          (label_found P f fa.function l fa.there s.0)
          (label_found Q f fb.function m fb.there s.1 ∙ ap (λ n. Some (item.Label n)) (sym s.2))

      aborts : (w v : Branch) → w.aborts ≡ true → v.aborts ≡ true → among w → N.PointsMatch f w.to v.to → EdgesMatch M P Q f i j (Some a) (Some b) w v
      aborts w v wa va h there = record {
        aborts = wa ∙ sym va;
        points = there;
        kept = λ wb. absurd (let e : true ≡ false = sym wa ∙ wb in cc);
        learns = λ wb. absurd (let e : true ≡ false = sym wa ∙ wb in cc);
        remembers = λ _ walk is ends s sites e x v known. k.known.remembers f w x v walk is (subst (λ n. In w (branches_at (code_of P f) n)) (sym ends) (at_branch w h)) wa s sites e known;
        back = λ _ walk is ends s t sites e bs rg x y matches.
            (matches.0, k.back f w x walk is (subst (λ n. In w (branches_at (code_of P f) n)) (sym ends) (at_branch w h)) wa s sites e matches.1);
      }

      item_steps : StepsMatch M P Q f i j (Some a) (Some b)
      item_steps = record {
        same = shares.same;
        branches = branches-zip (SameName fa.function.labels fb.function.labels) (EdgesMatch M P Q f i j (Some a) (Some b)) (code_of P f) (code_of Q f) i j (M.LocationsMatch f i j) a b shares.same shares.targets
            (λ stays. goes (onward i) (onward j) refl refl (item-onward (code_of P f) i a stays) (k.next f i j a reached points regular at stays))
            (λ leads l m s h. goes (jump (code_of P f) i l) (jump (code_of Q f) j m) refl refl h (labelled l m (jump (code_of P f) i l) s h refl))
            (λ l m s h. aborts (abort (code_of P f) i l) (abort (code_of Q f) j m) refl refl h (labelled l m (abort (code_of P f) i l) s h refl));
      }

    point_steps : (o u : Option Instr) → item_at P f i ≡ o → item_at Q f j ≡ u → StepsMatch M P Q f i j o u
    point_steps None None at bt = record { same = tt; branches = tt }
    point_steps None (Some b) at bt = absurd (let h = sym (renamed-none P f i at (names f)) ∙ k.same f i j reached points regular ∙ (found Q f j b bt).tree in cc)
    point_steps (Some a) None at bt = absurd (let h = sym (nothing_at Q f j bt) ∙ sym (k.same f i j reached points regular) ∙ renamed-found P f i a at (found P f i a at).function (found P f i a at).there (names f) in cc)
    point_steps (Some a) (Some b) at bt = item_steps a b at bt

  pub renaming_preserves : Preserves (renaming P Q names N) P Q
  renaming_preserves = record {
    main = k.main;
    types = k.types;
    start = k.start;
    fresh = k.fresh;
    start_known = k.known.start;
    steps = λ f i j reached points regular. point_steps f i j reached points regular _ _ refl refl;
  }

pub renaming_preserving : (plans : Prog → Prog → NamePlan) (names : Prog → Prog → ℕ → List (List ℕ)) → RenamingPreserves plans names
renaming_preserving plans names P Q accepted renames = renaming_preserves P Q (names P Q) (plans P Q) accepted renames
