-- A folded program refines the one that it is made from.
use Rattle.std.proofs.Common.{◌≡◌, ◌⊎◌, ℕ, suc, ◌<◌, Bool, true, false, cond, List, [], ◌∷◌, length, map, Option, Some, None, refl, sym, ap, subst, ◌∙◌, inl, inr, ⊎_elim, arith}
use Rattle.std.specs.Prelude.{slice_get, slice_index, is_some, IsTrue}
use Rattle.std.proofs.lemmas.Option.{same_Some}
use Rattle.bril_tree.specs.declared.limits.Limits.{Limits}
use Rattle.bril_tree.specs.declared.numbered.Instr.{Instr}
use Rattle.bril_tree.specs.declared.numbered.Instr.TheVariants.{Label, Const, Act}
use Rattle.bril_tree.specs.declared.operation.Op.{Op}
use Rattle.bril_tree.specs.declared.operation.Op.TheVariants as op
use Rattle.bril_tree.specs.declared.program.Prog.{Prog}
use Rattle.bril_tree.specs.declared.types.Ty.{Ty}
use Rattle.bril_tree.specs.declared.value.Lit.{Lit}
use Rattle.bril_tree.specs.declared.value.Value.{Value}
use Rattle.bril_tree.specs.Accepted.{IsAccepted}
use Rattle.bril_tree.specs.Assigned.{assigns_of, assigns_at}
use Rattle.bril_tree.specs.Edge.{Branch, branches_at, branches_from, item_branches, onward, jump, abort}
use Rattle.bril_tree.specs.Membership.{In}
use Rattle.bril_tree.specs.Numbered.{names_in, nop}
use Rattle.bril_tree.specs.Operand.{Location, Variable, dest_of}
use Rattle.bril_tree.specs.Outcome.{Yields, argument, outcome_of, bool_of}
use Rattle.bril_tree.specs.Run.{Refines}
use Rattle.bril_tree.specs.Shape.{shape_of}
use Rattle.bril_tree.specs.FunctionForm.{listed}
use Rattle.bril_tree.specs.Sites.{Keeps, item_change, needs_site, sites_changed, sites_of, without_newest}
use Rattle.bril_tree.specs.State.{Locals, Frame, State}
use Rattle.bril_tree.specs.Step.{code_of, item_at, point_of, assigned, saved, dropped, by_outcome, jumps, guards, step}
use Rattle.bril_tree.specs.Value.{literal_value}
use Rattle.bril_tree.proofs.Elements.{in_index}
use Rattle.bril_tree.proofs.Members.{in_map}
use Rattle.bril_tree.proofs.Outcomes.{giver-goes_on}
use Rattle.bril_tree.proofs.Shapes.{HasShape, dest_none, shape-parts}
use Rattle.flow_graph.proofs.Told.{some_site}
use Rattle.bril_names.specs.Faults.{Differ}
use Rattle.pass_edit_laws.specs.names.Named.{SameName, SameLocation}
use Rattle.pass_edit_laws.proofs.lemmas.names.Locations.{kept-apart, to_left}
use Rattle.pass_edit_laws.proofs.lemmas.names.Points.{Differ-in}
use Rattle.pass_edit_laws.specs.plan.Plan.{Plan, ValuesMatch, HoldsKnown, IsLearned, StaysMatched, EdgesMatch, StepsMatch, SavesMatch, StatesMatch}
use Rattle.pass_edit_laws.proofs.lemmas.plan.Values.{agree-assigned, holds-assigned, read_at-agree}
use Rattle.pass_edit_laws.specs.steps.Refinement.{Progress, CatchUp, BothMove, Advances}
use Rattle.pass_edit_laws.proofs.lemmas.steps.Moves.{both_branch, both_move, reframed, step-at}
use Rattle.pass_edit_laws.proofs.lemmas.steps.Refinement.{plan_refines}
use Rattle.pass_edit_laws.proofs.lemmas.steps.Shapes.{shaped_here, writes-gives, zip_map-at}
use Rattle.constant_pass.specs.declared.constants.known.Known.{Known}
use Rattle.constant_pass.specs.declared.constants.known.Known.TheVariants.{Nothing, One, Many}
use Rattle.constant_pass.specs.constants.Answer.{Knowledge, answer}
use Rattle.constant_pass.specs.constants.Ways.{chosen, item_ways}
use Rattle.constant_pass.specs.constants.Consistent.{Table}
use Rattle.constant_pass.proofs.lemmas.constants.Rules.{first-read}
use Rattle.constant_pass.specs.Items.{condition, jump_to, nop_or}
use Rattle.constant_pass.specs.Folded.{becomes}
use Rattle.constant_pass.proofs.Fates.{Fate, Stays, Folds, Jumps, Passes, fate_at, literal-one, given-outcome}
use Rattle.constant_pass.proofs.Plans.{is_no, never_passes, walk_plan, walks_preserve, Visits, Plain, run_plan, runs_preserve, Facts, facts, visits_on, told-gives, told-read, told-learned, told-remembered}
use Rattle.constant_pass.proofs.Points.{Folded, IsKept, const_there, const_name, JumpThere, jump_there, nop_there}

-- ---- names

-- a variable of a name is matched by that of the name alone
pub only-name : (V W : List (List ℕ)) → Differ V → Differ W → (x y : ℕ) → SameName V W x y → (a b : Location) → SameLocation V W a b → StaysMatched (Variable x ∷ []) (Variable y ∷ []) (λ c d. SameLocation V W c d × Unit {0}) a b
only-name V W v w x y same a b h = kept-apart V W w (λ z. Unit {0}) (Variable x ∷ []) (Variable y ∷ []) (same, tt) a b h (λ n. tt) (to_left V W v a b h (Variable x ∷ []) (Variable y ∷ []) (same, tt))

-- an item that gives a value leads to the next point
action-way : (k : Knowledge) (code : List Instr) (i : ℕ) (o : Op) (d : Option ℕ) (ty : Option Ty) (args fs ls : List ℕ) (p : Locals) (v : Value) → outcome_of (Act d ty o args fs ls) p ≡ Yields v → In (suc i) (item_ways k code i (Act d ty o args fs ls))
action-way k code i op.Jmp d ty args fs ls p v e = absurd cc
action-way k code i op.Br d ty args fs ls p v e = absurd cc
action-way k code i op.Ret d ty args fs ls p v e = absurd cc
action-way k code i op.Guard d ty args fs ls p v e = absurd cc
action-way k code i _ d ty args fs ls p v e = inl refl

giver-way : (k : Knowledge) (code : List Instr) (i : ℕ) (a : Instr) (p : Locals) (v : Value) → outcome_of a p ≡ Yields v → In (suc i) (item_ways k code i a)
giver-way k code i (Label l) p v e = absurd cc
giver-way k code i (Const d ty l) p v e = inl refl
giver-way k code i (Act d ty o args fs ls) p v e = action-way k code i o d ty args fs ls p v e

module _ (P Q : Prog) (T : ℕ → Table) (t : Folded P Q T) (accepted : IsAccepted P) (limits : Limits) where
  abbrev M : Plan
  M = run_plan P Q T t

  -- saves without the newest
  dropped-match : (k : ℕ) (sites : List ℕ) (ps qs : List Locals) → SavesMatch M P Q k sites ps qs → SavesMatch M P Q k (without_newest sites) (dropped ps) (dropped qs)
  dropped-match k [] [] [] h = tt
  dropped-match k [] [] (q ∷ qs) h = absurd h
  dropped-match k [] (p ∷ ps) qs h = absurd h
  dropped-match k (s ∷ sites) [] qs h = absurd h
  dropped-match k (s ∷ sites) (p ∷ ps) [] h = absurd h
  dropped-match k (s ∷ sites) (p ∷ ps) (q ∷ qs) h = h.1

  -- what is put back matches, and what was told at the site holds
  saved-match : (k s : ℕ) (older sites : List ℕ) (p q : Locals) (ps qs : List Locals) → sites ≡ s ∷ older → SavesMatch M P Q k sites ps qs → (i j : ℕ) → ValuesMatch (M.LocationsMatch k i j) (saved ps p) (saved qs q) × HoldsKnown (M.IsKnown k s) (saved ps p)
  saved-match k s older [] p q ps qs e h i j = absurd cc
  saved-match k s older (z ∷ sites) p q [] qs e h i j = absurd h
  saved-match k s older (z ∷ sites) p q (x ∷ ps) [] e h i j = absurd h
  saved-match k s older (z ∷ sites) p q (x ∷ ps) (y ∷ qs) e h i j =
      let same : z ≡ s = cc in
      (h.0.3, subst (λ n. HoldsKnown (M.IsKnown k n) x) same h.0.4)

  module _ (s u : State) (r : StatesMatch M P Q s u) (runs : s.ended ≡ None) where
    abbrev F : Frame
    F = r.frame

    abbrev G : Frame
    G = r.result_frame

    k : ℕ
    k = r.frame.function

    i : ℕ
    i = r.frame.point

    function : G.function ≡ F.function
    function = sym r.newest.function

    points : G.point ≡ F.point
    points = sym r.newest.contents.points.0

    vis : Visits P Q T t F.function F.point
    vis = r.newest.contents.points.1

    result_runs : u.ended ≡ None
    result_runs = sym r.ended ∙ runs

    there : (b : Instr) → item_at Q F.function F.point ≡ Some b → item_at Q G.function G.point ≡ Some b
    there b e = ap (λ n. item_at Q n G.point) function ∙ ap (item_at Q F.function) points ∙ e

    -- nothing is assigned along the branch
    told-stays : (a : Instr) → item_at P F.function F.point ≡ Some a → assigns_of a ≡ [] → (w : Branch) → In w (branches_at (code_of P F.function) F.point) → w.aborts ≡ false → HoldsKnown (M.IsKnown F.function w.to) F.locations
    told-stays a at none w among plain x v told =
        ⊎_elim (λ h. r.newest.contents.known x v h.1) (λ h. absurd (subst (In x) none (subst (λ o. In x (assigns_at o)) at h.0))) (told-learned P Q T t accepted F.function F.point vis w among plain x v told)

    -- a value that the item assigns is the one that is told
    learned : (a : Instr) → item_at P F.function F.point ≡ Some a → assigns_of a ≡ map Variable (listed (dest_of a)) → (l : Value) → outcome_of a F.locations ≡ Yields l → (y : Location) (v : Value)
        → IsLearned (item_at P F.function F.point) (M.IsKnown F.function F.point) y v → ((In y (map Variable (listed (dest_of a))) → ⊥) × M.IsKnown F.function F.point y v) ⊎ (In y (map Variable (listed (dest_of a))) × (l ≡ v))
    learned a at assigns l gives y v h = subst (λ z. ((In y z → ⊥) × M.IsKnown F.function F.point y v) ⊎ (In y z × (l ≡ v))) assigns (by (subst (λ o. IsLearned o (M.IsKnown F.function F.point) y v) at h))
      where
        by : IsLearned (Some a) (M.IsKnown F.function F.point) y v → ((In y (assigns_of a) → ⊥) × M.IsKnown F.function F.point y v) ⊎ (In y (assigns_of a) × (l ≡ v))
        by (inl h) = inl h
        by (inr h) = inr (h.0, writes-gives a F.locations l v gives (h.1 F.locations r.newest.contents.known))

    -- ---- a value is written out

    folds : (a : Instr) → item_at P F.function F.point ≡ Some a → (x : ℕ) (ty : Ty) (l : Lit) → dest_of a ≡ Some x → (reached : (T F.function).reached F.point ≡ true) → answer (T F.function).known a ≡ One (literal_value l) → becomes (T F.function) F.point a ≡ Const x ty l
        → StatesMatch M P Q (step P limits s) (step Q limits u)
    folds a at x ty l dest reached one is =
        let kn = facts P Q T t accepted F.function F.point a at in
        let V = names_in (slice_get P.funcs F.function) in
        let W = names_in (slice_get Q.funcs F.function) in
        let c = const_there P Q T t F.function F.point a at x ty l is in
        let gives : outcome_of a F.locations ≡ Yields (literal_value l) = given-outcome kn.ret a x F.locations (literal_value l) kn.shaped dest (told-gives P Q T t accepted F.function F.point a at F.locations r.newest.contents.known (literal_value l) one) in
        let on = giver-goes_on a F.locations (literal_value l) gives in
        let same : SameName V W x c.y = const_name P Q T t F.function F.point a at x ty l is dest in
        let along : In (onward F.point) (branches_at (code_of P F.function) F.point) = subst (λ o. In (onward F.point) (branches_from (code_of P F.function) F.point o)) (sym at) (subst (In (onward F.point)) (sym (on.branches (code_of P F.function) F.point)) (inl refl)) in
        let way : In (suc F.point) (item_ways (T F.function).known (code_of P F.function) F.point a) = giver-way (T F.function).known (code_of P F.function) F.point a F.locations (literal_value l) gives in
        both_move M P Q limits accepted (runs_preserve P Q T t accepted) s u r runs a (Const c.y ty l) at (there (Const c.y ty l) c.at) (on.branches (code_of P F.function) F.point) (on.keeps false)
        (assigned (dest_of a) (literal_value l) F.locations) (assigned (Some c.y) (literal_value l) G.locations)
        (λ older v. ap (λ o. by_outcome P limits o a F older v) gives) (λ older v. refl)
        (ap suc (sym points), visits_on P Q T t accepted F.function F.point vis a at (onward F.point) along way)
        (agree-assigned (M.LocationsMatch F.function F.point G.point) (M.LocationsMatch F.function (suc F.point) (suc G.point)) F.locations G.locations r.newest.contents.locations (dest_of a) (Some c.y) (literal_value l) (ap is_some dest)
        (λ y z m. subst (λ d. StaysMatched (map Variable (listed d)) (Variable c.y ∷ []) (M.LocationsMatch F.function F.point G.point) y z) (sym dest) (only-name V W (Differ-in (slice_get P.funcs F.function)) (Differ-in (slice_get Q.funcs F.function)) x c.y same y z m.0)))
        (holds-assigned (M.IsKnown F.function F.point) (M.IsKnown F.function (suc F.point)) F.locations r.newest.contents.known (dest_of a) (literal_value l)
        (λ y v told. learned a at on.assigns (literal_value l) gives y v (told-learned P Q T t accepted F.function F.point vis (onward F.point) along refl y v told)))

    -- the saves as they are
    saves-stay : (o : Option Instr) (aborts : Bool) → item_change o aborts ≡ Keeps → SavesMatch M P Q F.function (sites_changed (item_change o aborts) F.point (sites_of (code_of P F.function) r.newest.contents.walk)) F.saves G.saves
    saves-stay o aborts keeps = subst (λ c. SavesMatch M P Q F.function (sites_changed c F.point (sites_of (code_of P F.function) r.newest.contents.walk)) F.saves G.saves) (sym keeps) r.newest.contents.saves

    along-branches : (a : Instr) → item_at P F.function F.point ≡ Some a → (w : Branch) → In w (item_branches (code_of P F.function) F.point a) → In w (branches_at (code_of P F.function) F.point)
    along-branches a at w i = subst (λ o. In w (branches_from (code_of P F.function) F.point o)) (sym at) i

    -- ---- a branch is decided

    module _ (d : Option ℕ) (ty : Option Ty) (args fs ls : List ℕ) (v : Value) (at : item_at P F.function F.point ≡ Some (Act d ty op.Br args fs ls)) (reached : (T F.function).reached F.point ≡ true)
        (one : (T F.function).known (Variable (slice_index args 0)) ≡ One v) (is : becomes (T F.function) F.point (Act d ty op.Br args fs ls) ≡ jump_to (slice_index ls (cond (bool_of v) 0 1))) where
      abbrev A : Instr
      A = Act d ty op.Br args fs ls

      abbrev l : ℕ
      l = slice_index ls (cond (bool_of v) 0 1)

      kn : Facts P Q T t F.function A
      kn = facts P Q T t accepted F.function F.point A at

      parts : HasShape (shape_of kn.ret op.Br) (is_some d) (length args) (length fs) (length ls)
      parts = shape-parts (shape_of kn.ret op.Br) (is_some d) (length args) (length fs) (length ls) kn.shaped

      two-low : (b : Bool) → cond b 0 1 < length ls
      two-low true = let e = parts.labels_are in omega (arith, e)
      two-low false = let e = parts.labels_are in omega (arith, e)

      l-in : In l ls
      l-in = in_index ls (cond (bool_of v) 0 1) (two-low (bool_of v))

      no-dest : d ≡ None
      no-dest = dest_none (shape_of kn.ret op.Br) d (length args) (length fs) (length ls) refl kn.shaped

      abbrev w : Branch
      w = jump (code_of P F.function) F.point l

      among : In w (item_branches (code_of P F.function) F.point A)
      among = in_map (jump (code_of P F.function) F.point) l ls l-in

      holds : argument F.locations args 0 ≡ v
      holds = told-read P Q T t accepted F.function F.point A at F.locations r.newest.contents.known (Variable (slice_index args 0)) (first-read args parts.args_are) v one

      way : In (point_of l (code_of P F.function)) (item_ways (T F.function).known (code_of P F.function) F.point A)
      way = subst (λ z. In (point_of l (code_of P F.function)) (chosen z (point_of (slice_index ls 0) (code_of P F.function)) (point_of (slice_index ls 1) (code_of P F.function)))) (sym one) (inl (by (bool_of v)))
        where
          by : (b : Bool) → point_of (slice_index ls (cond b 0 1)) (code_of P F.function) ≡ cond b (point_of (slice_index ls 0) (code_of P F.function)) (point_of (slice_index ls 1) (code_of P F.function))
          by true = refl
          by false = refl

      j : JumpThere P Q T t F.function F.point l
      j = jump_there P Q T t F.function F.point d ty args fs ls at l l-in is

      jumps-step : step P limits s ≡ record s { frames = record F { point = point_of l (code_of P F.function) } ∷ r.older }
      jumps-step = step-at P limits s F r.older runs r.frames A at ∙ ap (λ z. jumps P limits (slice_index ls (cond (bool_of z) 0 1)) F r.older s) holds

      result-step : step Q limits u ≡ record u { frames = record G { point = point_of j.number (code_of Q F.function) } ∷ r.result_older }
      result-step = step-at Q limits u G r.result_older result_runs r.result_frames (jump_to j.number) (there (jump_to j.number) j.at) ∙ ap (λ n. record u { frames = record G { point = point_of j.number (code_of Q n) } ∷ r.result_older }) function

      pub jumps-match : StatesMatch M P Q (step P limits s) (step Q limits u)
      jumps-match = both_branch M P Q s u r (Some A) at w among (point_of j.number (code_of Q F.function)) F.locations G.locations F.saves G.saves (step P limits s) (step Q limits u)
          (reframed s (step P limits s) (record F { point = point_of l (code_of P F.function) }) r.older jumps-step)
          (reframed u (step Q limits u) (record G { point = point_of j.number (code_of Q F.function) }) r.result_older result-step)
          (j.to, visits_on P Q T t accepted F.function F.point vis A at w (along-branches A at w among) way)
          r.newest.contents.locations
          (told-stays A at (ap (λ z. map Variable (listed z)) no-dest) w (along-branches A at w among) refl)
          (saves-stay (Some A) false refl)

    -- ---- a guard always holds, or always fails

    module _ (d : Option ℕ) (ty : Option Ty) (args fs ls : List ℕ) (v : Value) (at : item_at P F.function F.point ≡ Some (Act d ty op.Guard args fs ls)) (one : (T F.function).known (Variable (slice_index args 0)) ≡ One v) where
      abbrev B : Instr
      B = Act d ty op.Guard args fs ls

      guard-facts : Facts P Q T t F.function B
      guard-facts = facts P Q T t accepted F.function F.point B at

      guard-parts : HasShape (shape_of guard-facts.ret op.Guard) (is_some d) (length args) (length fs) (length ls)
      guard-parts = shape-parts (shape_of guard-facts.ret op.Guard) (is_some d) (length args) (length fs) (length ls) guard-facts.shaped

      guard-dest : d ≡ None
      guard-dest = dest_none (shape_of guard-facts.ret op.Guard) d (length args) (length fs) (length ls) refl guard-facts.shaped

      guard-holds : argument F.locations args 0 ≡ v
      guard-holds = told-read P Q T t accepted F.function F.point B at F.locations r.newest.contents.known (Variable (slice_index args 0)) (first-read args guard-parts.args_are) v one

      guard-step : (b : Bool) → bool_of v ≡ b → step P limits s ≡ guards P limits b (slice_index ls 0) F r.older s
      guard-step b e = step-at P limits s F r.older runs r.frames B at ∙ ap (λ z. guards P limits (bool_of z) (slice_index ls 0) F r.older s) guard-holds ∙ ap (λ z. guards P limits z (slice_index ls 0) F r.older s) e

      pub passes-match : bool_of v ≡ true → becomes (T F.function) F.point B ≡ nop → StatesMatch M P Q (step P limits s) (step Q limits u)
      passes-match is_true is =
          let here = nop_there P Q T t F.function F.point B at is in
          let mine = guard-step true is_true in
          let theirs : step Q limits u ≡ record u { frames = record G { point = suc G.point } ∷ r.result_older } = step-at Q limits u G r.result_older result_runs r.result_frames nop (there nop here) in
          let way : In (suc F.point) (item_ways (T F.function).known (code_of P F.function) F.point B) = subst (λ z. In (suc F.point) (chosen z (suc F.point) (point_of (slice_index ls 0) (code_of P F.function)))) (sym one) (inl (ap (λ c. cond c (suc F.point) (point_of (slice_index ls 0) (code_of P F.function))) (sym is_true))) in
          both_branch M P Q s u r (Some B) at (onward F.point) (inl refl) (suc G.point) F.locations G.locations F.saves G.saves (step P limits s) (step Q limits u)
          (reframed s (step P limits s) (record F { point = suc F.point }) r.older mine)
          (reframed u (step Q limits u) (record G { point = suc G.point }) r.result_older theirs)
          (ap suc (sym points), visits_on P Q T t accepted F.function F.point vis B at (onward F.point) (along-branches B at (onward F.point) (inl refl)) way)
          r.newest.contents.locations
          (told-stays B at (ap (λ z. map Variable (listed z)) guard-dest) (onward F.point) (along-branches B at (onward F.point) (inl refl)) refl)
          (saves-stay (Some B) false refl)

      module _ (is_false : bool_of v ≡ false) (kept : IsKept P Q T t F.function F.point) where
        steps : StepsMatch (walk_plan P Q T t) P Q F.function F.point F.point (Some B) (item_at Q F.function F.point)
        steps = subst (λ o. StepsMatch (walk_plan P Q T t) P Q F.function F.point F.point o (item_at Q F.function F.point)) at
            ((walks_preserve P Q T t accepted).steps F.function F.point F.point (record { walk = r.newest.contents.walk; is = r.newest.contents.is; ends = r.newest.contents.ends }) refl kept)

        abbrev fl : ℕ
        fl = slice_index ls 0

        abbrev fw : Branch
        fw = abort (code_of P F.function) F.point fl

        fails-among : In fw (item_branches (code_of P F.function) F.point B)
        fails-among = inr (in_map (abort (code_of P F.function) F.point) fl ls (in_index ls 0 (let e = guard-parts.labels_are in omega (arith, e))))

        fails-way : In (point_of fl (code_of P F.function)) (item_ways (T F.function).known (code_of P F.function) F.point B)
        fails-way = subst (λ z. In (point_of fl (code_of P F.function)) (chosen z (suc F.point) (point_of fl (code_of P F.function)))) (sym one) (inl (ap (λ c. cond c (suc F.point) (point_of fl (code_of P F.function))) (sym is_false)))

        -- the newest site
        site : (n : ℕ) × (older : List ℕ) × (sites_of (code_of P F.function) r.newest.contents.walk ≡ n ∷ older)
        site = by (sites_of (code_of P F.function) r.newest.contents.walk) refl
          where
            some : sites_of (code_of P F.function) r.newest.contents.walk ≡ [] → ⊥
            some = some_site (code_of P F.function) r.newest.contents.walk (shaped_here P accepted F.function F.point B at).sound r.newest.contents.is
                (subst (λ n. IsTrue (needs_site (slice_get (code_of P F.function) n))) (sym r.newest.contents.ends) (subst (λ o. IsTrue (needs_site o)) (sym at) refl))

            by : (fl : List ℕ) → sites_of (code_of P F.function) r.newest.contents.walk ≡ fl → (n : ℕ) × (older : List ℕ) × (sites_of (code_of P F.function) r.newest.contents.walk ≡ n ∷ older)
            by [] e = absurd (some e)
            by (n ∷ older) e = (n, older, e)

        mine : step P limits s ≡ guards P limits false fl F r.older s
        mine = guard-step false is_false

        fails-by : (b : Option Instr) → item_at Q F.function F.point ≡ b → StepsMatch (walk_plan P Q T t) P Q F.function F.point F.point (Some B) b → StatesMatch M P Q (step P limits s) (step Q limits u)
        fails-by None e st = absurd st.same
        fails-by (Some (Label n)) e st = absurd st.same
        fails-by (Some (Const y tz n)) e st = absurd st.same
        fails-by (Some (Act e tz o brgs gs ms)) eq st =
            let code = code_of P F.function in
            let result_code = code_of Q F.function in
            let same : op.Guard ≡ o = st.same.operation in
            let l' = slice_index ms 0 in
            let st' : StepsMatch (walk_plan P Q T t) P Q F.function F.point F.point (Some B) (Some (Act e tz op.Guard brgs gs ms)) = subst (λ z. StepsMatch (walk_plan P Q T t) P Q F.function F.point F.point (Some B) (Some (Act e tz z brgs gs ms))) (sym same) st in
            let at' : item_at Q F.function F.point ≡ Some (Act e tz op.Guard brgs gs ms) = eq ∙ ap (λ z. Some (Act e tz z brgs gs ms)) (sym same) in
            let edges = zip_map-at (EdgesMatch (walk_plan P Q T t) P Q F.function F.point F.point (Some B) (Some (Act e tz op.Guard brgs gs ms))) (abort code F.point) (abort result_code F.point) ls ms 0 (let h = guard-parts.labels_are in omega (arith, h)) st'.branches.1 in
            let condition : argument G.locations brgs 0 ≡ v = sym (read_at-agree (M.LocationsMatch F.function F.point G.point) (M.LocationsMatch F.function F.point G.point) F.locations G.locations r.newest.contents.locations args brgs 0 (let h = guard-parts.args_are in omega (arith, h)) st'.same.reads) ∙ guard-holds in
            let theirs : step Q limits u ≡ guards Q limits false l' G r.result_older u =
            step-at Q limits u G r.result_older result_runs r.result_frames (Act e tz op.Guard brgs gs ms) (there (Act e tz op.Guard brgs gs ms) at') ∙ ap (λ z. guards Q limits (bool_of z) l' G r.result_older u) condition ∙ ap (λ z. guards Q limits z l' G r.result_older u) is_false in
            let back = saved-match F.function site.0 site.1 (sites_of code r.newest.contents.walk) F.locations G.locations F.saves G.saves site.2 r.newest.contents.saves (point_of fl code) (point_of l' result_code) in
            both_branch M P Q s u r (Some B) at fw fails-among (point_of l' result_code) (saved F.saves F.locations) (saved G.saves G.locations) (dropped F.saves) (dropped G.saves) (step P limits s) (step Q limits u)
            (record { ended = ap (λ (z : State). z.ended) mine; printed = ap (λ (z : State). z.printed) mine; blocks = ap (λ (z : State). z.blocks) mine; frames = ap (λ (z : State). z.frames) mine })
            (record { ended = ap (λ (z : State). z.ended) theirs; printed = ap (λ (z : State). z.printed) theirs; blocks = ap (λ (z : State). z.blocks) theirs; frames = ap (λ (z : State). z.frames) theirs ∙ ap (λ n. record G { point = point_of l' (code_of Q n); locations = saved G.saves G.locations; saves = dropped G.saves } ∷ r.result_older) function })
            (edges.points, visits_on P Q T t accepted F.function F.point vis B at fw (along-branches B at fw fails-among) fails-way)
            back.0
            (λ x z told. back.1 x z (told-remembered P Q T t accepted F.function fw r.newest.contents.walk r.newest.contents.is (subst (λ n. In fw (branches_at code n)) (sym r.newest.contents.ends) (along-branches B at fw fails-among)) refl site.0 site.1 site.2 x z told))
            (dropped-match F.function (sites_of code r.newest.contents.walk) F.saves G.saves r.newest.contents.saves)

        pub fails-match : StatesMatch M P Q (step P limits s) (step Q limits u)
        fails-match = fails-by (item_at Q F.function F.point) refl steps

    -- ---- all items

    both : StatesMatch M P Q (step P limits s) (step Q limits u) → Progress M P Q limits 1 (λ s. 0) s u
    both m = BothMove (record { early = 0; moves = 0; within = omega arith; quiet = refl; running = runs; again = inl m })

    regular : IsKept P Q T t F.function F.point → Plain P Q T t F.function F.point G.point → Progress M P Q limits 1 (λ s. 0) s u
    regular kept plain = CatchUp 0 (omega arith) (record { count = 0; few = omega arith; matched = r; regular = (kept, plain) })

    module _ (a : Instr) (at : item_at P F.function F.point ≡ Some a) where
      alone : (c : Instr) → item_at P F.function F.point ≡ Some c → a ≡ c
      alone c e = same_Some a c (sym at ∙ e)

      kept-by : becomes (T F.function) F.point a ≡ a → IsKept P Q T t F.function F.point
      kept-by same c e = subst (λ z. becomes (T F.function) F.point z ≡ z) (alone c e) same

      plain-by : never_passes (T F.function).known a ≡ false → Plain P Q T t F.function F.point G.point
      plain-by p c e = subst (λ z. never_passes (T F.function).known z ≡ false) (alone c e) p

      by-fate : never_passes (T F.function).known a ≡ false → (T F.function).reached F.point ≡ true → Fate (T F.function).known a (becomes (T F.function) F.point a) → Progress M P Q limits 1 (λ s. 0) s u
      by-fate passes reached (Stays same) = regular (kept-by same) (plain-by passes)
      by-fate passes reached (Folds x ty l dest typed one is) = both (folds a at x ty l dest reached (literal-one (answer (T F.function).known a) l one) is)
      by-fate passes reached (Jumps d ty args fs ls v is one became) = both (jumps-match d ty args fs ls v (at ∙ ap Some is) reached one (ap (becomes (T F.function) F.point) (sym is) ∙ became))
      by-fate passes reached (Passes d ty args fs ls v is one is_true became) = both (passes-match d ty args fs ls v (at ∙ ap Some is) one is_true (ap (becomes (T F.function) F.point) (sym is) ∙ became))

      -- a guard that never passes stays
      module _ (d : Option ℕ) (ty : Option Ty) (args fs ls : List ℕ) (here : item_at P F.function F.point ≡ Some (Act d ty op.Guard args fs ls)) where
        failing : (c : Known) → (T F.function).known (Variable (slice_index args 0)) ≡ c → is_no (condition c) ≡ true → Progress M P Q limits 1 (λ s. 0) s u
        failing Nothing e n = absurd cc
        failing (One v) e n = both (fails-match d ty args fs ls v here e (by (bool_of v) n) stays)
          where
            by : (b : Bool) → cond b false true ≡ true → b ≡ false
            by true n = absurd cc
            by false n = refl

            stays : IsKept P Q T t F.function F.point
            stays c at' = subst (λ z. becomes (T F.function) F.point z ≡ z) (same_Some (Act d ty op.Guard args fs ls) c (sym here ∙ at')) (unchanged ((T F.function).reached F.point))
              where
                unchanged : (b : Bool) → cond b (nop_or (condition ((T F.function).known (Variable (slice_index args 0)))) (Act d ty op.Guard args fs ls)) (Act d ty op.Guard args fs ls) ≡ Act d ty op.Guard args fs ls
                unchanged true = ap (λ z. nop_or (condition z) (Act d ty op.Guard args fs ls)) e ∙ ap (λ b. nop_or (Some b) (Act d ty op.Guard args fs ls)) (by (bool_of v) n)
                unchanged false = refl
        failing Many e n = absurd cc

      by-never : (c : Instr) → a ≡ c → never_passes (T F.function).known c ≡ true → Progress M P Q limits 1 (λ s. 0) s u
      by-never (Label l) e n = absurd cc
      by-never (Const d ty l) e n = absurd cc
      by-never (Act d ty op.Guard args fs ls) e n = failing d ty args fs ls (at ∙ ap Some e) ((T F.function).known (Variable (slice_index args 0))) refl n
      by-never (Act d ty o args fs ls) e n = absurd cc

      by-item : (b : Bool) → never_passes (T F.function).known a ≡ b → Progress M P Q limits 1 (λ s. 0) s u
      by-item true e = by-never a refl e
      by-item false e = ⊎_elim (λ same. regular (kept-by same) (plain-by e)) (λ h. by-fate e h.0 h.1) (fate_at (T F.function) F.point a)

    goes : Progress M P Q limits 1 (λ s. 0) s u
    goes = by (item_at P F.function F.point) refl
      where
        by : (o : Option Instr) → item_at P F.function F.point ≡ o → Progress M P Q limits 1 (λ s. 0) s u
        by None e = regular (λ c at. absurd (let h = sym e ∙ at in cc)) (λ c at. absurd (let h = sym e ∙ at in cc))
        by (Some a) e = by-item a e (never_passes (T F.function).known a) refl

  advances : Advances M P Q limits 1
  advances = record { distance = λ s. 0; progress = goes }

pub folded-refines : (P Q : Prog) (T : ℕ → Table) → Folded P Q T → IsAccepted P → Refines P Q 1
folded-refines P Q T t accepted = plan_refines (λ _ _. run_plan P Q T t) P Q 1 accepted (runs_preserve P Q T t accepted) (omega arith) (λ limits. advances P Q T t accepted limits)
