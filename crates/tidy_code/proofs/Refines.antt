-- A tidied program refines the one that it is made from: a `nop` that is dropped is a step of the program alone.
use Rattle.std.proofs.Common.{◌≡◌, ◌⊎◌, ℕ, suc, ◌+◌, ◌-◌, ◌<◌, ◌≤◌, Bool, true, false, List, [], ◌∷◌, length, Option, Some, None, refl, sym, ap, subst, ◌∙◌, inl, inr, ⊎_elim, arith}
use Rattle.std.specs.Prelude.{slice_get}
use Rattle.std.proofs.lemmas.List.{length-map}
use Rattle.std.proofs.lemmas.Option.{slice_get-map, slice_get_within}
use Rattle.bril_tree.specs.declared.function_tree.Item.{Item}
use Rattle.bril_tree.specs.declared.function_tree.Item.TheVariants as item
use Rattle.bril_tree.specs.declared.limits.Limits.{Limits}
use Rattle.bril_tree.specs.declared.numbered.Instr.{Instr}
use Rattle.bril_tree.specs.declared.numbered.Instr.TheVariants.{Label, Const, Act}
use Rattle.bril_tree.specs.declared.numbered_function.Func.{Func}
use Rattle.bril_tree.specs.declared.operation.Op.TheVariants as op
use Rattle.bril_tree.specs.declared.program.Prog.{Prog}
use Rattle.bril_tree.specs.Accepted.{IsAccepted}
use Rattle.bril_tree.specs.Numbered.{variable_names, item_tree, names_of_functions, point_tree, tree_at}
use Rattle.bril_tree.specs.Run.{Refines}
use Rattle.bril_tree.specs.State.{Frame, State}
use Rattle.bril_tree.specs.Step.{items_of, code_of, item_at, step}
use Rattle.bril_tree.specs.Walk.{IsReached}
use Rattle.bril_tree.proofs.Branches.{walk_within}
use Rattle.bril_tree.proofs.Outcomes.{GoesOn}
use Rattle.bril_tree.proofs.Trees.{nothing_at}
use Rattle.bril_tree.proofs.Elements.{past_end}
use Rattle.pass_edit_laws.specs.names.NamedPlan.{NamePlan, plan, KeepsNames}
use Rattle.pass_edit_laws.proofs.lemmas.names.Preserving.{names_preserve, knows_nothing}
use Rattle.pass_edit_laws.proofs.lemmas.names.Heads.{no_partner, partner}
use Rattle.pass_edit_laws.proofs.lemmas.names.Points.{found, label_once}
use Rattle.pass_edit_laws.specs.plan.Plan.{Plan, Preserves, StatesMatch}
use Rattle.pass_edit_laws.specs.steps.Refinement.{Progress, CatchUp, SourceMoves, Advances, ChangesPlaces}
use Rattle.pass_edit_laws.proofs.lemmas.steps.Moves.{source_moves}
use Rattle.pass_edit_laws.proofs.lemmas.steps.Refinement.{plan_refines}
use Rattle.tidy_code.proofs.Points.{kept_items, kept_count, IsNop, code_tree, Tidied}
use Rattle.tidy_code.proofs.Kept.{kept-at, kept-end, count-kept, count-dropped}

nop-no_label : (P : Prog) (f i : ℕ) (a : Instr) (name : List ℕ) → item_at P f i ≡ Some a → tree_at P f i ≡ Some (item.Label name) → IsNop a → ⊥
nop-no_label P f i (Label l) name at bt n = n
nop-no_label P f i (Const d ty v) name at bt n = n
nop-no_label P f i (Act d ty o args fns ls) name at bt n = let h = sym (found P f i (Act d ty o args fns ls) at).tree ∙ bt in cc

pub nop-goes_on : (a : Instr) → IsNop a → GoesOn a
nop-goes_on (Label l) n = absurd n
nop-goes_on (Const d ty v) n = absurd n
nop-goes_on (Act d ty op.Nop args fns ls) n = record { branches = λ c i. refl; keeps = λ b. refl; assigns = refl }
nop-goes_on (Act d ty _ args fns ls) n = absurd n

nop-step : (P : Prog) (limits : Limits) (a : Instr) → IsNop a → (f : Frame) → ChangesPlaces P limits a f f.locations
nop-step P limits (Label l) n f older s = absurd n
nop-step P limits (Const d ty v) n f older s = absurd n
nop-step P limits (Act d ty op.Nop args fns ls) n f older s = refl
nop-step P limits (Act d ty _ args fns ls) n f older s = absurd n

module _ (P Q : Prog) (keep : ℕ → ℕ → Bool) (t : Tidied P keep Q) where
  -- The result stands at the count of what is kept before the program's point. Both make the same step at what is kept, and
  -- at the function's end.
  abbrev pub tidying : NamePlan
  tidying = record {
    PointsMatch = λ f i j. j ≡ kept_count (keep f) 0 i;
    Matters = λ f i a. Unit {0};
    IsRegular = λ f i j. (keep f i ≡ true) ⊎ (item_at P f i ≡ None);
    IsKnown = λ f i a v. ⊥;
  }

  abbrev pub tidy_plan : Plan
  tidy_plan = plan P Q tidying

  -- the tree of a point, by the tree of the code
  tree-of : (X : Prog) (f : ℕ) (F : Func) → slice_get X.funcs f ≡ Some F → (i : ℕ) → tree_at X f i ≡ slice_get (code_tree X F) i
  tree-of X f F there i =
      ap (λ o. point_tree (names_of_functions X.funcs) o i) there
      ∙ sym (slice_get-map (item_tree (names_of_functions X.funcs) (variable_names F.vars) F.labels) F.code i)

  -- a kept item
  pub kept-tree : (f i : ℕ) (a : Item) → tree_at P f i ≡ Some a → keep f i ≡ true → tree_at P f i ≡ tree_at Q f (kept_count (keep f) 0 i)
  kept-tree f i a at e = by (slice_get P.funcs f) refl
    where
      by : (o : Option Func) → slice_get P.funcs f ≡ o → tree_at P f i ≡ tree_at Q f (kept_count (keep f) 0 i)
      by None n = absurd (let h : None ≡ Some a = ap (λ o. point_tree (names_of_functions P.funcs) o i) (sym n) ∙ at in cc)
      by (Some F) n =
          let g = partner P Q t.heads f F n in
          let here : slice_get (code_tree P F) i ≡ Some a = sym (tree-of P f F n i) ∙ at in
          let within = slice_get_within (code_tree P F) i a here in
          tree-of P f F n i ∙ sym (kept-at (keep f) 0 i (code_tree P F) within (let z : 0 + i ≡ i = omega arith in ap (keep f) z ∙ e))
          ∙ ap (λ l. slice_get l (kept_count (keep f) 0 i)) (sym (t.code f F g.0 n g.1)) ∙ sym (tree-of Q f g.0 g.1 (kept_count (keep f) 0 i))

  -- the ends of both functions
  ends-both : (f i : ℕ) → IsReached (code_of P f) i → item_at P f i ≡ None → tree_at P f i ≡ tree_at Q f (kept_count (keep f) 0 i)
  ends-both f i reached at = by (slice_get P.funcs f) refl
    where
      by : (o : Option Func) → slice_get P.funcs f ≡ o → tree_at P f i ≡ tree_at Q f (kept_count (keep f) 0 i)
      by None n = nothing_at P f i at ∙ sym (no_partner P Q t.heads f n (kept_count (keep f) 0 i))
      by (Some F) n =
          let g = partner P Q t.heads f F n in
          let low : i ≤ length (code_of P f) = (let w = walk_within (code_of P f) reached.walk reached.is in let e = reached.ends in omega arith) in
          let high : length (code_of P f) ≤ i = past_end (code_of P f) i at in
          let same : length (code_of P f) ≡ length F.code = ap (λ o. length (items_of o)) n in
          let end : i ≡ length (code_tree P F) = (let l = length-map F.code (item_tree (names_of_functions P.funcs) (variable_names F.vars) F.labels) in omega arith) in
          nothing_at P f i at ∙ sym (kept-end (keep f) 0 (code_tree P F)) ∙ ap (λ n. slice_get (kept_items (keep f) 0 (code_tree P F)) (kept_count (keep f) 0 n)) (sym end)
          ∙ ap (λ l. slice_get l (kept_count (keep f) 0 i)) (sym (t.code f F g.0 n g.1)) ∙ sym (tree-of Q f g.0 g.1 (kept_count (keep f) 0 i))

  pub kept_label : (f i : ℕ) (name : List ℕ) → IsReached (code_of P f) i → tree_at P f i ≡ Some (item.Label name) → keep f i ≡ true
  kept_label f i name reached at = by (keep f i) refl
    where
      not_nop : (o : Option Instr) → item_at P f i ≡ o → keep f i ≡ false → ⊥
      not_nop None here e = let h = sym (nothing_at P f i here) ∙ at in cc
      not_nop (Some a) here e = nop-no_label P f i a name here at (t.dropped f i a here e reached)

      by : (b : Bool) → keep f i ≡ b → keep f i ≡ true
      by true e = e
      by false e = absurd (not_nop (item_at P f i) refl e)

  pub keeps : KeepsNames P Q tidying
  keeps = record {
    heads = t.heads;
    start = λ f. refl;
    same = λ f i j reached points regular. subst (λ n. tree_at P f i ≡ tree_at Q f n) (sym points) (⊎_elim (λ e. same_kept f i reached e) (ends-both f i reached) regular);
    next = λ f i j a reached points regular at stays. ap suc points ∙ sym (next_count f i a at regular);
    labels = λ f i j name reached at bt. label_once Q f j (kept_count (keep f) 0 i) name bt (sym (kept-tree f i (item.Label name) at (kept_label f i name reached at)) ∙ at);
    reads = λ f i j a x reached points regular at h. tt;
    flows = λ f i w x reached h e m n. tt;
    back = λ f w x walk is h e s sites same m. tt;
    known = knows_nothing P Q tidying (λ f i a v h. h);
  }
    where
      same_kept : (f i : ℕ) → IsReached (code_of P f) i → keep f i ≡ true → tree_at P f i ≡ tree_at Q f (kept_count (keep f) 0 i)
      same_kept f i reached e = by (item_at P f i) refl
        where
          by : (o : Option Instr) → item_at P f i ≡ o → tree_at P f i ≡ tree_at Q f (kept_count (keep f) 0 i)
          by None h = ends-both f i reached h
          by (Some a) h = kept-tree f i _ (found P f i a h).tree e

      next_count : (f i : ℕ) (a : Instr) → item_at P f i ≡ Some a → (keep f i ≡ true) ⊎ (item_at P f i ≡ None) → kept_count (keep f) 0 (suc i) ≡ suc (kept_count (keep f) 0 i)
      next_count f i a at (inl e) = count-kept (keep f) 0 i (let z : 0 + i ≡ i = omega arith in ap (keep f) z ∙ e)
      next_count f i a at (inr none) = absurd (let h = sym none ∙ at in cc)

  module _ (accepted : IsAccepted P) where
    pub preserves : Preserves tidy_plan P Q
    preserves = names_preserve P Q tidying accepted keeps

    -- how far the newest frame is from the end of its function
    abbrev gap : List Frame → ℕ
    gap [] = 0
    gap (f ∷ older) = length (code_of P f.function) - f.point

    module _ (limits : Limits) where
      skips : (s u : State) → (r : StatesMatch tidy_plan P Q s u) → s.ended ≡ None → (a : Instr) → item_at P r.frame.function r.frame.point ≡ Some a → keep r.frame.function r.frame.point ≡ false
          → (gap (step P limits s).frames < gap s.frames) × StatesMatch tidy_plan P Q (step P limits s) u
      skips s u r runs a at e =
          let F = r.frame in
          let contents = r.newest.contents in
          let nop = t.dropped F.function F.point a at e (record { walk = contents.walk; is = contents.is; ends = contents.ends }) in
          let on = nop-goes_on a nop in
          let count : kept_count (keep F.function) 0 (suc F.point) ≡ kept_count (keep F.function) 0 F.point = count-dropped (keep F.function) 0 F.point (let z : 0 + F.point ≡ F.point = omega arith in ap (keep F.function) z ∙ e) in
          let within : F.point < length (code_of P F.function) = slice_get_within (code_of P F.function) F.point a at in
          let n = source_moves tidy_plan P Q limits accepted preserves s u r runs a at (on.branches (code_of P F.function) F.point) (on.keeps false) F.locations (nop-step P limits a nop F) (contents.points ∙ sym count) contents.locations (λ l v k. absurd k) in
          (falls n.0 n.1 within, n.0)
        where
          falls : (n : StatesMatch tidy_plan P Q (step P limits s) u) → n.frame ≡ record r.frame { point = suc r.frame.point; locations = r.frame.locations } → r.frame.point < length (code_of P r.frame.function) → gap (step P limits s).frames < gap s.frames
          falls n same within =
              subst (λ l. gap l < gap s.frames) (sym n.frames) (subst (λ (z : Frame). gap (z ∷ n.older) < gap s.frames) (sym same) (subst (λ l. gap (record r.frame { point = suc r.frame.point } ∷ n.older) < gap l) (sym r.frames) (omega (arith, within))))

      -- each running state's newest frame is at an item that stays, at the end, or at a `nop` that is dropped
      goes : (s u : State) → (r : StatesMatch tidy_plan P Q s u) → s.ended ≡ None → Progress tidy_plan P Q limits 1 (λ s. gap s.frames) s u
      goes s u r runs = by (item_at P r.frame.function r.frame.point) (keep r.frame.function r.frame.point) refl refl
        where
          both : (keep r.frame.function r.frame.point ≡ true) ⊎ (item_at P r.frame.function r.frame.point ≡ None) → Progress tidy_plan P Q limits 1 (λ s. gap s.frames) s u
          both regular = CatchUp 0 (omega arith) (record { count = 0; few = omega arith; matched = r; regular = regular })

          by : (o : Option Instr) (b : Bool) → item_at P r.frame.function r.frame.point ≡ o → keep r.frame.function r.frame.point ≡ b → Progress tidy_plan P Q limits 1 (λ s. gap s.frames) s u
          by None b at e = both (inr at)
          by (Some a) true at e = both (inl e)
          by (Some a) false at e = let k = skips s u r runs a at e in SourceMoves k.0 k.1

      advances : Advances tidy_plan P Q limits 1
      advances = record { distance = λ s. gap s.frames; progress = goes }

    pub tidied-refines : Refines P Q 1
    tidied-refines = plan_refines (λ _ _. tidy_plan) P Q 1 accepted preserves (omega arith) advances
