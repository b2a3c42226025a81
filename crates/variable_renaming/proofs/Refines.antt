-- A renaming refines the program: what matters is what is live in the program, and where a variable is copied to one of the same
-- new name, the result is at a `nop`.
use Rattle.std.proofs.Common.{◌≡◌, ℕ, suc, ◌<◌, true, List, [], ◌∷◌, length, map, Option, Some, None, refl, sym, ap, subst, ◌∙◌, inl, ⊎_elim, arith}
use Rattle.std.specs.Prelude.{slice_get, slice_index, is_some}
use Rattle.std.specs.List.{range_with_len}
use Rattle.std.proofs.lemmas.List.{length-map}
use Rattle.bril_tree.specs.declared.limits.Limits.{Limits}
use Rattle.bril_tree.specs.declared.numbered.Instr.{Instr}
use Rattle.bril_tree.specs.declared.numbered.Instr.TheVariants.{Act}
use Rattle.bril_tree.specs.declared.numbered.VarInfo.{VarInfo}
use Rattle.bril_tree.specs.declared.numbered_function.Func.{Func}
use Rattle.bril_tree.specs.declared.operation.Op.TheVariants as op
use Rattle.bril_tree.specs.declared.program.Prog.{Prog}
use Rattle.bril_tree.specs.declared.value.Value.{Value}
use Rattle.bril_tree.specs.Accepted.{IsAccepted}
use Rattle.bril_tree.specs.Assigned.{assigns_of, assigns_at}
use Rattle.bril_tree.specs.Edge.{Branch, branches_at, branches_from, onward}
use Rattle.bril_tree.specs.Live.{IsLive}
use Rattle.bril_tree.specs.Locals.{value_at}
use Rattle.bril_tree.specs.Membership.{In}
use Rattle.bril_tree.specs.Numbered.{named, names_in, names_of_functions, nop, tree_at}
use Rattle.bril_tree.specs.Operand.{Location, Variable, Shadow, reads_of}
use Rattle.bril_tree.specs.Outcome.{argument}
use Rattle.bril_tree.specs.FunctionForm.{variables_of}
use Rattle.bril_tree.specs.Run.{Refines, types_of}
use Rattle.bril_tree.specs.Shape.{is_shaped, shape_of}
use Rattle.bril_names.specs.Range.{AreBelow}
use Rattle.bril_tree.specs.State.{Locals, State}
use Rattle.bril_tree.specs.Step.{assigned, code_of, item_at, items_of, new_frame, step}
use Rattle.bril_tree.specs.Walk.{IsReached}
use Rattle.bril_tree.proofs.Acceptance.{walks_of}
use Rattle.bril_tree.proofs.Assignments.{assigns-dest, in_or_not, same_location}
use Rattle.bril_tree.proofs.Elements.{zip-find}
use Rattle.bril_tree.proofs.Liveness.{live-reads, live-flows, live-back, live_assigned}
use Rattle.bril_tree.proofs.Members.{contains_in}
use Rattle.bril_tree.proofs.Shapes.{shape-parts}
use Rattle.pass_edit_laws.specs.names.Named.{SameLocation, SameName}
use Rattle.pass_edit_laws.specs.names.NamedPlan.{NamePlan}
use Rattle.pass_edit_laws.specs.names.Renaming.{renamed_tree, renaming, Renames}
use Rattle.pass_edit_laws.proofs.lemmas.names.Heads.{main_same, main_types_same, start_agrees}
use Rattle.pass_edit_laws.proofs.lemmas.names.Points.{found, label_once}
use Rattle.pass_edit_laws.proofs.lemmas.names.Preserving.{knows_nothing}
use Rattle.pass_edit_laws.proofs.lemmas.names.Renaming.{items_share, renamed-none, renaming_preserves}
use Rattle.pass_edit_laws.proofs.lemmas.acceptance.Heads.{start-high, start-shadow}
use Rattle.pass_edit_laws.specs.plan.Plan.{Plan, Preserves, StatesMatch, ValuesMatch}
use Rattle.pass_edit_laws.proofs.lemmas.plan.Values.{assigned-same, assigned-other}
use Rattle.pass_edit_laws.specs.steps.Refinement.{Progress, CatchUp, BothMove, Advances}
use Rattle.pass_edit_laws.proofs.lemmas.steps.Moves.{both_move}
use Rattle.pass_edit_laws.proofs.lemmas.steps.Refinement.{plan_refines}
use Rattle.pass_edit_laws.proofs.lemmas.steps.Shapes.{shaped_here, site_assigns}
use Rattle.variable_renaming.specs.Renamed.{IsRenaming, IsSelfCopy, new_name}
use Rattle.variable_renaming.proofs.Copying.{Copy, copy-is, assigning-onward, assigned-shadow, live-shadow}
use Rattle.variable_renaming.proofs.Points.{label-kept, nop-there}
use Rattle.variable_renaming.proofs.Names.{named-map, tree-renamed}

module _ (P Q : Prog) (rename : ℕ → List ℕ → List ℕ) (t : IsRenaming P Q rename) where
  abbrev pub names : ℕ → List (List ℕ)
  names f = map (rename f) (names_in (slice_get P.funcs f))

  -- Both stand at the same point. What matters is live in the program. Both make the same step but at copies of a variable to
  -- one of its new name.
  abbrev pub naming : NamePlan
  naming = record {
    PointsMatch = λ f i j. i ≡ j;
    Matters = λ f i x. IsLive (code_of P f) x i;
    IsRegular = λ f i j. IsSelfCopy P f (rename f) i → ⊥;
    IsKnown = λ f i x v. ⊥;
  }

  abbrev pub renaming_plan : Plan
  renaming_plan = renaming P Q names naming

  pub sized : (f : ℕ) → length (names f) ≡ length (names_in (slice_get P.funcs f))
  sized f = length-map (names_in (slice_get P.funcs f)) (rename f)

  -- the item of the result, by its tree
  pub regular-tree : (f i : ℕ) → (IsSelfCopy P f (rename f) i → ⊥) → renamed_tree (names_of_functions P.funcs) (names f) (slice_get P.funcs f) i ≡ tree_at Q f i
  regular-tree f i regular = ⊎_elim (λ s. absurd (regular s.0)) (λ r. sym (tree-renamed P f i (rename f)) ∙ sym r.1) (t.points f i)

  pub copy-nop : (f i : ℕ) → IsSelfCopy P f (rename f) i → item_at Q f i ≡ Some nop
  copy-nop f i s = nop-there P Q f (rename f) (t.points f) i s

  -- the new name of a number
  pub name-is : (f x : ℕ) → x < length (names f) → named (names f) x ≡ new_name P f (rename f) x
  name-is f x less = let s = sized f in named-map (rename f) (names_in (slice_get P.funcs f)) x (omega arith)

  module _ (accepted : IsAccepted P) where
    -- where a function begins, arguments alone are live, and they keep their names
    fresh : (f : ℕ) (vs : List Value) → length vs ≡ length (types_of (slice_get P.funcs f)) → (a b : Location) → SameLocation (names f) (names_in (slice_get Q.funcs f)) a b → IsLive (code_of P f) a 0
        → value_at (new_frame f vs).locations a ≡ value_at (new_frame f vs).locations b
    fresh f vs count a b h live = by (slice_get P.funcs f) refl
      where
        none : (a b : Location) → length (names f) ≡ 0 → SameLocation (names f) (names_in (slice_get Q.funcs f)) a b → ⊥
        none (Variable x) (Variable y) e h = let l = h.0 in omega arith
        none (Variable x) (Shadow y) e h = h
        none (Shadow x) (Variable y) e h = h
        none (Shadow x) (Shadow y) e h = let l = h.0 in omega arith

        old : (F : Func) → slice_get P.funcs f ≡ Some F → (a b : Location) → SameLocation (names f) (names_in (slice_get Q.funcs f)) a b → In a (map Variable (range_with_len 0 F.args)) → SameLocation (names_in (slice_get P.funcs f)) (names_in (slice_get Q.funcs f)) a b
        old F p (Variable x) (Variable y) h i =
            let s = sized f in
            let l = h.0 in
            let same : new_name P f (rename f) x ≡ named (names_in (slice_get P.funcs f)) x = subst (λ o. rename f (named (names_in o) x) ≡ named (names_in o) x) (sym p) ((t.names f F p).arguments x (start-high F.args x i)) in
            (omega arith, h.1, sym same ∙ sym (name-is f x h.0) ∙ h.2)
        old F p (Variable x) (Shadow y) h i = h
        old F p (Shadow x) (Variable y) h i = h
        old F p (Shadow x) (Shadow y) h i = absurd (start-shadow F.args x i)

        by : (o : Option Func) → slice_get P.funcs f ≡ o → value_at (new_frame f vs).locations a ≡ value_at (new_frame f vs).locations b
        by None p = absurd (none a b (sized f ∙ ap (λ o. length (names_in o)) p) h)
        by (Some F) p = start_agrees P Q t.heads f vs count a b (old F p a b h (live_assigned (code_of P f) F.args (is_some F.ret) (walks_of P accepted f F p) a 0 live [] tt refl))

    -- where an item assigns a variable, no other one of the same new name is live after it
    module _ (f i j : ℕ) (regular : IsSelfCopy P f (rename f) i → ⊥) (reached : IsReached (code_of P f) i) (same : renamed_tree (names_of_functions P.funcs) (names f) (slice_get P.funcs f) i ≡ tree_at Q f j) where
      abbrev W : List (List ℕ)
      W = names_in (slice_get Q.funcs f)

      -- the function, and two variables of one new name
      record OneName (x z : ℕ) : Type 0 where
        function : Func
        there : slice_get P.funcs f ≡ Some function
        code : code_of P f ≡ function.code
        first_low : x < length function.vars
        second_low : z < length function.vars
        one : new_name P f (rename f) z ≡ new_name P f (rename f) x

      one-name : (a : Instr) → item_at P f i ≡ Some a → (x z y : ℕ) → SameName (names f) W x y → SameName (names f) W z y → OneName x z
      one-name a at x z y h k =
          let fa = found P f i a at in
          let size : length (names_in (slice_get P.funcs f)) ≡ length fa.function.vars = ap (λ o. length (names_in o)) fa.there ∙ length-map fa.function.vars (λ (v : VarInfo). v.name) in
          let s = sized f in
          let hl = h.0 in
          let kl = k.0 in
          record {
            function = fa.function;
            there = fa.there;
            code = ap items_of fa.there;
            first_low = omega arith;
            second_low = omega arith;
            one = sym (name-is f z k.0) ∙ k.2 ∙ sym h.2 ∙ name-is f x h.0;
          }

      -- two locations of one new name, the first assigned, the second live after it
      clash : (a : Instr) → item_at P f i ≡ Some a → (x z y : Location) → (x ≡ z → ⊥) → SameLocation (names f) W x y → SameLocation (names f) W z y → In z (assigns_of a) → IsLive (code_of P f) x (suc i) → ⊥
      clash a at (Variable x) (Variable z) (Variable y) differ h k assigns live =
          let n = one-name a at x z y h k in
          let F = n.function in
          let dest = assigns-dest a z assigns in
          let sound = t.sound f F n.there z x n.second_low n.first_low (λ e. differ (ap Variable (sym e))) n.one in
          sound.spares i a (subst (λ c. IsReached c i) n.code reached) (ap (λ c. slice_get c i) (sym n.code) ∙ at) dest
          (λ u source e. regular (record { reached = reached; item = a; at = at; x = z; y = u; copies = (dest, source); same = sym e }))
          (subst (λ c. IsLive c (Variable x) (suc i)) n.code live)
      clash a at (Shadow x) (Shadow z) (Shadow y) differ h k assigns live =
          let n = one-name a at x z y h k in
          let F = n.function in
          let sound = t.sound f F n.there z x n.second_low n.first_low (λ e. differ (ap Shadow (sym e))) n.one in
          sound.shadows (record { point = i; item = a; at = ap (λ c. slice_get c i) (sym n.code) ∙ at; names = contains_in z _ (assigned-shadow a z assigns) })
          (live-shadow F.code x (suc i) (subst (λ c. IsLive c (Shadow x) (suc i)) n.code live))
      clash a at (Variable x) (Variable z) (Shadow y) differ h k assigns live = h
      clash a at (Variable x) (Shadow z) (Variable y) differ h k assigns live = k
      clash a at (Variable x) (Shadow z) (Shadow y) differ h k assigns live = h
      clash a at (Shadow x) (Variable z) (Variable y) differ h k assigns live = h
      clash a at (Shadow x) (Variable z) (Shadow y) differ h k assigns live = k
      clash a at (Shadow x) (Shadow z) (Variable y) differ h k assigns live = h

      apart : (w : Branch) (x y : Location) → In w (branches_at (code_of P f) i) → IsLive (code_of P f) x w.to → SameLocation (names f) W x y → In y (assigns_at (item_at Q f j)) → In x (assigns_at (item_at P f i))
      apart w x y among live h = by (item_at P f i) (item_at Q f j) refl refl
        where
          by : (o u : Option Instr) → item_at P f i ≡ o → item_at Q f j ≡ u → In y (assigns_at u) → In x (assigns_at o)
          by o None at bt k = absurd k
          by None (Some b) at bt k = absurd (let e = sym (renamed-none P f i at (names f)) ∙ same ∙ (found Q f j b bt).tree in cc)
          by (Some a) (Some b) at bt k =
              let shares = items_share P Q accepted t.heads.names f i j (names f) (sized f) (λ z. Unit {0}) same a b at bt (λ z m. tt) in
              let z = zip-find (SameLocation (names f) W) (assigns_of a) (assigns_of b) y shares.assigns k in
              let facts = shaped_here P accepted f i a at in
              let only : w ≡ onward i = ⊎_elim (λ e. e) (λ n. absurd n) (subst (In w) (assigning-onward facts.ret a facts.shaped z.0 z.1 (code_of P f) i) (subst (λ o. In w (branches_from (code_of P f) i o)) at among)) in
              let later : IsLive (code_of P f) x (suc i) = subst (IsLive (code_of P f) x) (ap (λ (v : Branch). v.to) only) live in
              ⊎_elim (λ m. m) (λ n. absurd (clash a at x z.0 y (λ e. n (subst (λ l. In l (assigns_of a)) (sym e) z.1)) h z.2 z.1 later)) (in_or_not x (assigns_of a))

    pub renames : Renames P Q names naming
    renames = record {
      heads = t.heads;
      main = main_same P Q t.heads;
      types = main_types_same P Q t.heads;
      sized = sized;
      start = λ f. refl;
      fresh = λ f vs count a b h. fresh f vs count a b h.0 h.1;
      same = λ f i j reached points regular. regular-tree f i regular ∙ ap (tree_at Q f) points;
      next = λ f i j a reached points regular at stays. ap suc points;
      labels = λ f i j name reached at bt. label_once Q f i j name (label-kept P Q f (rename f) (t.points f) i name at) bt;
      reads = λ f i j a x reached points regular at h. live-reads (code_of P f) i a x at h;
      flows = λ f i w x reached among plain live none. live-flows (code_of P f) i w x among plain live none;
      apart = λ f i j w x y reached points regular among plain live named h. apart f i j regular reached (regular-tree f i regular ∙ ap (tree_at Q f) points) w x y among live named h;
      back = λ f w x walk is among aborts s sites same live. live-back (code_of P f) w x walk is among aborts s sites same live (site_assigns P accepted f walk s sites same);
      known = knows_nothing P Q naming (λ f i x v h. h);
    }

    pub preserves : Preserves renaming_plan P Q
    preserves = renaming_preserves P Q names naming accepted renames

    -- a copy of a variable to one of its new name
    module _ (f i : ℕ) (s : IsSelfCopy P f (rename f) i) where
      abbrev copy : Copy s.item s.x s.y
      copy = copy-is s.item s.x s.y s.copies

      one_argument : length copy.args ≡ 1
      one_argument =
          let facts = shaped_here P accepted f i s.item s.at in
          (shape-parts (shape_of facts.ret op.Id) true (length copy.args) (length copy.funcs) (length copy.labels) (subst (λ (a : Instr). is_shaped facts.ret a ≡ true) copy.is facts.shaped)).args_are

      first_read : (args : List ℕ) (y : ℕ) → slice_index args 0 ≡ y → length args ≡ 1 → In (Variable y) (map Variable args)
      first_read [] y e n = absurd (omega arith)
      first_read (z ∷ args) y e n = inl (ap Variable (sym e))

      first_below : (n : ℕ) (args : List ℕ) (y : ℕ) → slice_index args 0 ≡ y → length args ≡ 1 → AreBelow n args → y < n
      first_below n [] y e l below = absurd (omega arith)
      first_below n (z ∷ args) y e l below = let h = below.0 in omega (arith, e)

      -- its source is live at it, and has a number below that of the names
      pub source-live : IsLive (code_of P f) (Variable s.y) i
      source-live = live-reads (code_of P f) i s.item (Variable s.y) s.at (subst (λ (a : Instr). In (Variable s.y) (reads_of a)) (sym copy.is) (first_read copy.args s.y copy.source one_argument))

      pub source-below : s.y < length (names f)
      source-below =
          let fa = found P f i s.item s.at in
          let size = sized f in
          let below : AreBelow (length (names_in (slice_get P.funcs f))) (variables_of s.item) = fa.range.variables in
          let h = first_below (length (names_in (slice_get P.funcs f))) copy.args s.y copy.source one_argument (subst (λ (a : Instr). AreBelow (length (names_in (slice_get P.funcs f))) (variables_of a)) copy.is below).1 in
          omega arith

      -- what matches its destination matches its source
      pub source-matches : (W : List (List ℕ)) (a b : Location) → a ≡ Variable s.x → SameLocation (names f) W a b → SameLocation (names f) W (Variable s.y) b
      source-matches W a b e h = by b (subst (λ z. SameLocation (names f) W z b) e h)
        where
          by : (b : Location) → SameLocation (names f) W (Variable s.x) b → SameLocation (names f) W (Variable s.y) b
          by (Variable y) h = (source-below, h.1, name-is f s.y source-below ∙ sym s.same ∙ sym (name-is f s.x h.0) ∙ h.2)
          by (Shadow y) h = h

    module _ (limits : Limits) where
      -- P copies, and the result does nothing
      copies : (s u : State) → (r : StatesMatch renaming_plan P Q s u) → s.ended ≡ None → IsSelfCopy P r.frame.function (rename r.frame.function) r.frame.point → StatesMatch renaming_plan P Q (step P limits s) (step Q limits u)
      copies s u r runs k =
          let F = r.frame in
          let G = r.result_frame in
          let contents = r.newest.contents in
          let f = F.function in
          let c = copy-is k.item k.x k.y k.copies in
          let a : Instr = Act (Some k.x) c.ty op.Id c.args c.funcs c.labels in
          let at : item_at P f F.point ≡ Some a = k.at ∙ ap Some c.is in
          let there : item_at Q G.function G.point ≡ Some nop = ap (λ n. item_at Q n G.point) (sym r.newest.function) ∙ ap (item_at Q f) (sym contents.points) ∙ copy-nop f F.point k in
          let v : Value = argument F.locations c.args 0 in
          let after : Locals = assigned (Some k.x) v F.locations in
          let onward_there : In (onward F.point) (branches_at (code_of P f) F.point) = subst (λ o. In (onward F.point) (branches_from (code_of P f) F.point o)) (sym at) (inl refl) in
          let agree : ValuesMatch (renaming_plan.LocationsMatch f (suc F.point) (suc G.point)) after G.locations =
          λ x y h.
          ⊎_elim
          (λ e. assigned-same k.x v F.locations x e ∙ ap (λ n. value_at F.locations (Variable n)) c.source ∙ contents.locations (Variable k.y) y (source-matches f F.point k (names_in (slice_get Q.funcs f)) x y e h.0, source-live f F.point k))
          (λ n. assigned-other k.x v F.locations x n
          ∙ contents.locations x y (h.0, live-flows (code_of P f) F.point (onward F.point) x onward_there refl h.1 (λ i. subst (λ o. In x (assigns_at o) → ⊥) (sym at) (λ j. ⊎_elim n (λ e. absurd e) j) i)))
          (same_location x (Variable k.x)) in
          both_move renaming_plan P Q limits accepted preserves s u r runs a nop at there refl refl after G.locations (λ older z. refl) (λ older z. refl) (ap suc contents.points) agree (λ x v h. absurd h)

      goes : (s u : State) → (r : StatesMatch renaming_plan P Q s u) → s.ended ≡ None → Progress renaming_plan P Q limits 1 (λ s. 0) s u
      goes s u r runs =
          ⊎_elim
          (λ k. BothMove (record { early = 0; moves = 0; within = omega arith; quiet = refl; running = runs; again = inl (copies s u r runs k.0) }))
          (λ k. CatchUp 0 (omega arith) (record { count = 0; few = omega arith; matched = r; regular = k.0 }))
          (t.points r.frame.function r.frame.point)

      advances : Advances renaming_plan P Q limits 1
      advances = record { distance = λ s. 0; progress = goes }

    pub renaming-refines : Refines P Q 1
    renaming-refines = plan_refines (λ _ _. renaming_plan) P Q 1 accepted preserves (omega arith) advances
