-- A program with side exits refines the one that it is made from, with the factor 1.
use Rattle.std.proofs.Common.{◌≡◌, ◌⊎◌, ℕ, zero, suc, ◌+◌, ◌-◌, ◌<◌, ◌≤◌, Bool, true, false, List, [], ◌∷◌, ◌++◌, length, map, Option, Some, None, refl, sym, ap, subst, ◌∙◌, inl, inr, ⊎_elim, arith}
use Rattle.std.specs.Prelude.{slice_get, slice_index, is_some, IsSome}
use Rattle.std.specs.Option.{option_map}
use Rattle.std.proofs.lemmas.Bool.{cases_eq, cases_lt}
use Rattle.std.proofs.lemmas.Option.{slice_get_within}
use Rattle.simulation.specs.System.{after}
use Rattle.simulation.specs.Simulation.{Chunk, Simulation}
use Rattle.simulation.proofs.After.{after-suc, after-add}
use Rattle.simulation.proofs.Simulation.{Follows-from_simulation}
use Rattle.bril_tree.specs.declared.function_tree.Dest.{Dest}
use Rattle.bril_tree.specs.declared.limits.End.{End}
use Rattle.bril_tree.specs.declared.limits.Fault.{Fault}
use Rattle.bril_tree.specs.declared.limits.Limits.{Limits}
use Rattle.bril_tree.specs.declared.numbered.Instr.{Instr}
use Rattle.bril_tree.specs.declared.numbered.Instr.TheVariants.{Label, Const, Act}
use Rattle.bril_tree.specs.declared.operation.Op.{Op}
use Rattle.bril_tree.specs.declared.program.Prog.{Prog}
use Rattle.bril_tree.specs.declared.types.Ty.{Ty}
use Rattle.bril_tree.specs.declared.function_tree.Item.TheVariants as item
use Rattle.bril_tree.specs.declared.operation.Op.TheVariants as op
use Rattle.bril_tree.specs.Accepted.{IsAccepted}
use Rattle.bril_tree.specs.Edge.{Branch, branches_at, branches_from, item_branches, onward, abort, leads_away}
use Rattle.bril_tree.specs.FunctionForm.{listed, targets_of}
use Rattle.bril_tree.specs.Membership.{In}
use Rattle.bril_tree.specs.Numbered.{dest_tree, item_tree, named, names_in, names_of_functions, tree_at}
use Rattle.bril_tree.specs.Operand.{Location}
use Rattle.bril_tree.specs.Outcome.{argument, bool_of}
use Rattle.bril_tree.specs.Run.{program, first_state, Suits, types_of, Refines}
use Rattle.bril_tree.specs.Shape.{shape_of}
use Rattle.bril_tree.specs.Sites.{Keeps, Closes, item_change, sites_changed, sites_of}
use Rattle.bril_tree.specs.State.{Locals, Frame, Block, State}
use Rattle.bril_tree.specs.Step.{code_of, item_at, point_of, guards, item_step, step, faulted}
use Rattle.bril_tree.specs.Walk.{IsWalk, end_of}
use Rattle.bril_tree.proofs.Branches.{label_within, item-onward}
use Rattle.bril_tree.proofs.Elements.{zip-long}
use Rattle.bril_tree.proofs.Grows.{program_is_system}
use Rattle.bril_tree.proofs.Members.{contains_in, in_map}
use Rattle.bril_tree.proofs.Shapes.{shape-parts}
use Rattle.bril_names.specs.Range.{AreBelow, IsInRange}
use Rattle.bril_names.proofs.Naming.{AreBelow-append}
use Rattle.pass_edit_laws.specs.plan.Plan.{Plan, ValuesMatch, SavesMatch, ContentsMatch, StacksMatch, StatesMatch, ItemsMatch}
use Rattle.pass_edit_laws.proofs.lemmas.plan.Values.{read-agree}
use Rattle.pass_edit_laws.proofs.lemmas.names.Points.{found, label_found}
use Rattle.pass_edit_laws.proofs.lemmas.names.Standing.{ActionAt, action_at, same_item, IsLabelAt, first_target, label_at}
use Rattle.pass_edit_laws.proofs.lemmas.steps.Shapes.{shaped_here}
use Rattle.pass_edit_laws.proofs.lemmas.steps.Steps.{frame, state, matches, regular_steps_match, first_states_match}
use Rattle.pass_edit_laws.proofs.lemmas.walks.Under.{sites-effect}
use Rattle.pass_edit_laws.specs.plan.Lines.{jmp_line, listed_item}
use Rattle.pass_edit_laws.specs.labels.Fresh.{labels_here, labels_in}
use Rattle.pass_edit_laws.specs.steps.Refinement.{EndedAlike}
use Rattle.pass_edit_laws.proofs.lemmas.names.Items.{first_same}
use Rattle.side_laws.specs.Laws.{SideExitsRefine}
use Rattle.side_laws.specs.Paired.{Run, Pair, IsBranchOn, item_place, operation_place, Within, Commits, is_guard, labels_of_item}
use Rattle.side_laws.specs.Passage.{Passage}
use Rattle.side_laws.specs.Sided.{SideExit, kept_lines, retargeted_by, lines_behind, exit_at}
use Rattle.side_laws.specs.Laid.{HasRun, Laid, Stands}
use Rattle.side_laws.proofs.lemmas.layout.Laying.{sided-laid}
use Rattle.side_laws.proofs.lemmas.refinement.Locking.{IsGuardItem, guard_item}
use Rattle.side_laws.proofs.lemmas.refinement.Making.{SharedItem, Copied}
use Rattle.side_laws.proofs.lemmas.pairs.Passages.{attempted-goes, glide-turn}
use Rattle.side_laws.proofs.lemmas.pairs.Placed.{pairs_fine, run_label}
use Rattle.side_laws.proofs.lemmas.layout.Plans.{A, M, IsOutside, BeginsNone, label-outside, label-stands, outside-untouched, running-preserves, untouched}
use Rattle.side_laws.proofs.lemmas.pairs.Runs.{run-apart, run-size, within-stays}
use Rattle.side_laws.proofs.lemmas.refinement.Together.{Locked, Comes, Remains, LeadsOff, comes, remains, faults-both, leads-off}
use Rattle.side_laws.proofs.lemmas.refinement.Tracking.{Faulted, Failed, Passed, RestFaults, RestFails, RestCommits}

-- ---- items within a run

act-keeps : (o : Op) (d : Option ℕ) (t : Option Ty) (args fns ls : List ℕ) → operation_place o ≡ Within → item_change (Some (Act d t o args fns ls)) false ≡ Keeps
act-keeps op.Speculate d t args fns ls e = absurd cc
act-keeps op.Commit d t args fns ls e = absurd cc
act-keeps op.Guard d t args fns ls e = refl
act-keeps _ d t args fns ls e = refl

within-keeps : (a : Instr) → item_place (Some a) ≡ Within → item_change (Some a) false ≡ Keeps
within-keeps (Label l) e = absurd cc
within-keeps (Const d t v) e = refl
within-keeps (Act d t o args fns ls) e = act-keeps o d t args fns ls e

-- a commit
record IsCommit (a : Instr) : Type 0 where
  d : Option ℕ
  ty : Option Ty
  args : List ℕ
  fns : List ℕ
  ls : List ℕ
  is : a ≡ Act d ty op.Commit args fns ls

commit-act : (o : Op) (d : Option ℕ) (t : Option Ty) (args fns ls : List ℕ) → operation_place o ≡ Commits → IsCommit (Act d t o args fns ls)
commit-act op.Commit d t args fns ls e = record { d = d; ty = t; args = args; fns = fns; ls = ls; is = refl }
commit-act _ d t args fns ls e = absurd cc

commit-item : (a : Instr) → item_place (Some a) ≡ Commits → IsCommit a
commit-item (Label l) e = absurd cc
commit-item (Const d t v) e = absurd cc
commit-item (Act d t o args fns ls) e = commit-act o d t args fns ls e

same-commit : (B : Location → Location → Type 0) (a b : Instr) → IsCommit a → ItemsMatch B a b → IsCommit b
same-commit B a b c s = by b (subst (λ z. ItemsMatch B z b) c.is s)
  where
    by : (b : Instr) → ItemsMatch B (Act c.d c.ty op.Commit c.args c.fns c.ls) b → IsCommit b
    by (Label l) s = absurd s
    by (Const d t v) s = absurd s
    by (Act d t o args fns ls) s = record { d = d; ty = t; args = args; fns = fns; ls = ls; is = ap (λ z. Act d t z args fns ls) (sym s.operation) }

is-guard-plain : (a : Instr) → IsCommit a → is_guard (Some a) ≡ false
is-guard-plain a c = ap (λ z. is_guard (Some z)) c.is

-- a walk through kept items, by its sites
record Reach (code : List Instr) (v : List Branch) (to : ℕ) : Type 0 where
  walk : List Branch
  is : IsWalk code walk
  ends : end_of walk ≡ to
  sites : sites_of code walk ≡ sites_of code v

reach-on : (code : List Instr) (v : List Branch) → IsWalk code v → (a : Instr) → slice_get code (end_of v) ≡ Some a → (b : Branch) → b.from ≡ end_of v → b.aborts ≡ false → In b (item_branches code (end_of v) a) → item_change (Some a) false ≡ Keeps → Reach code v b.to
reach-on code v is a at b from goes among keeps = record {
  walk = b ∷ v;
  is = (contains_in b (branches_at code (end_of v)) (subst (λ o. In b (branches_from code (end_of v) o)) (sym at) among), is);
  ends = refl;
  sites = sites-effect code v b (Some a) at from ∙ ap (λ z. sites_changed (item_change (Some a) z) (end_of v) (sites_of code v)) goes ∙ ap (λ c. sites_changed c (end_of v) (sites_of code v)) keeps;
}

passage-reach : (code : List Instr) (from : ℕ) (kept : List ℕ) (to : ℕ) → Passage code from kept to → (v : List Branch) → IsWalk code v → end_of v ≡ from → Reach code v to
passage-reach code from [] to p v is e = let d = p v is e in record { walk = d.walk; is = d.is; ends = d.ends; sites = d.sites }
passage-reach code from (i ∷ kept) to p v is e =
    let d = p.1 v is e in
    let h = p.2 in
    let g = attempted-goes h.item p.3 in
    let s = reach-on code d.walk d.is h.item (ap (slice_get code) d.ends ∙ h.same) (onward (end_of d.walk)) refl refl (subst (λ l. In (onward (end_of d.walk)) l) (sym (g.branches code (end_of d.walk))) (inl refl)) g.keeps in
    let r = passage-reach code (suc p.0) kept to p.4 s.walk s.is (s.ends ∙ ap suc d.ends) in
    record { walk = r.walk; is = r.is; ends = r.ends; sites = r.sites ∙ s.sites ∙ d.sites }

module _ (P Q : Prog) (limits : Limits) (accepted : IsAccepted P) (st : Laid P Q) where
  abbrev N : Plan
  N = M P Q accepted st

  abbrev R : State → State → Type 0
  R s t = StatesMatch (M P Q accepted st) P Q s t ⊎ EndedAlike s t

  abbrev Chunks : State → State → Type 0
  Chunks s t = Chunk (program P limits) (program Q limits) 1 R s t

  -- ---- a guard of P, and what stands there in Q

  record GuardQ (k j : ℕ) (args : List ℕ) (labels : List (List ℕ)) : Type 0 where
    dest : Option Dest
    names : List (List ℕ)
    funcs : List (List ℕ)
    q : ActionAt Q k j dest op.Guard names funcs labels
    alike : (p' q' : Locals) → ValuesMatch (A P Q accepted st k) p' q' → argument p' args 0 ≡ argument q' q.arguments 0

  abbrev labels-by : Option SideExit → List (List ℕ) → List (List ℕ)
  labels-by None labels = labels
  labels-by (Some w) labels = w.name ∷ []

  retargeted-act : (o : Option SideExit) (d : Option Dest) (u : Op) (args funcs labels : List (List ℕ)) → retargeted_by o (item.Act d u args funcs labels) ≡ item.Act d u args funcs (labels-by o labels)
  retargeted-act None d u args funcs labels = refl
  retargeted-act (Some w) d u args funcs labels = refl

  -- the function's labels, and the guard with those that it has in Q
  guard-Q : (k i : ℕ) (a : Instr) (at : item_at P k i ≡ Some a) (g : IsGuardItem a) → i ≤ length (code_of P k) → GuardQ k (st.old k i) g.args (labels-by (exit_at (st.exits k) i) (map (named (found P k i a at).function.labels) g.ls))
  guard-Q k i a at g inside =
      let V = names_in (slice_get P.funcs k) in
      let U = names_in (slice_get Q.funcs k) in
      let fs = names_of_functions P.funcs in
      let h = found P k i a at in
      let treeP : tree_at P k i ≡ Some (item.Act (dest_tree V g.d g.ty) op.Guard (map (named V) g.args) (map (named fs) g.fns) (map (named h.function.labels) g.ls)) = h.tree ∙ ap (λ z. Some (item_tree fs V h.function.labels z)) g.is in
      let treeQ = st.placed k i inside ∙ ap (option_map (retargeted_by (exit_at (st.exits k) i))) treeP ∙ ap Some (retargeted-act (exit_at (st.exits k) i) (dest_tree V g.d g.ty) op.Guard (map (named V) g.args) (map (named fs) g.fns) (map (named h.function.labels) g.ls)) in
      let n = action_at Q k (st.old k i) (dest_tree V g.d g.ty) op.Guard (map (named V) g.args) (map (named fs) g.fns) (labels-by (exit_at (st.exits k) i) (map (named h.function.labels) g.ls)) treeQ in
      let s = shaped_here P accepted k i (Act g.d g.ty op.Guard g.args g.fns g.ls) (at ∙ ap Some g.is) in
      let one = (shape-parts (shape_of s.ret op.Guard) (is_some g.d) (length g.args) (length g.fns) (length g.ls) s.shaped).args_are in
      let belowP = (AreBelow-append (length V) (listed g.d) g.args (subst (λ z. IsInRange (length fs) (length V) (length h.function.labels) z) g.is h.range).variables).1 in
      let belowQ = (AreBelow-append (length U) (listed n.assigned) n.arguments n.range.variables).1 in
      record {
        dest = dest_tree V g.d g.ty;
        names = map (named V) g.args;
        funcs = map (named fs) g.fns;
        q = n;
        alike = λ p' q' agree. read-agree (A P Q accepted st k) (A P Q accepted st k) p' q' agree (slice_index g.args 0) (slice_index n.arguments 0) (first_same V U g.args n.arguments (sym n.has_args) belowP belowQ (omega (arith, one)), tt);
      }

  -- ---- at a run

  module _ (k i : ℕ) (h : HasRun (code_of P k) (st.exits k) i) (p q : Locals) (ps qs : List Locals) (contents : ContentsMatch (M P Q accepted st) P Q k h.run.start (st.old k h.run.start) p q ps qs) (fs gs : List Frame) (callers : StacksMatch (M P Q accepted st) P Q k fs gs) (blocks : List Block) (printed : List ℕ) (x y : ℕ → ℕ → ℕ) where
    abbrev C : List Instr
    C = code_of P k

    abbrev r : Run
    r = h.run

    abbrev old : ℕ → ℕ
    old = st.old k

    abbrev bail : ℕ
    bail = point_of h.run.bail (code_of P k)

    abbrev B : Location → Location → Type 0
    B = A P Q accepted st k

    lab : IsLabelAt P k (point_of h.run.bail (code_of P k))
    lab = run_label P accepted k h.run h.is

    -- ---- the items of the run, in both programs

    record Inside (j : ℕ) : Type 0 where
      a : Instr
      at : item_at P k j ≡ Some a
      within : item_place (Some a) ≡ Within
      long : j ≤ length (code_of P k)
      n : ℕ
      less : n < h.run.size
      same : j ≡ suc (h.run.start + n)

    inside : (j : ℕ) → suc r.start ≤ j → j < suc (r.start + r.size) → Inside j
    inside j lo hi = by (item_at P k j) refl
      where
        m : ℕ
        m = j - suc h.run.start

        same : j ≡ suc (h.run.start + (j - suc h.run.start))
        same = omega (arith, lo)

        place : item_place (item_at P k j) ≡ Within
        place = ap (λ n. item_place (item_at P k n)) same ∙ h.is.within (j - suc h.run.start) (omega (arith, lo, hi))

        by : (o : Option Instr) → item_at P k j ≡ o → Inside j
        by None e = absurd (let z : item_place None ≡ Within = ap item_place (sym e) ∙ place in cc)
        by (Some a) e = record { a = a; at = e; within = ap item_place (sym e) ∙ place; long = (let w = slice_get_within (code_of P k) j a e in omega (arith, w)); n = j - suc h.run.start; less = omega (arith, lo, hi); same = same }

    next-in : (j : ℕ) → suc r.start ≤ j → j < suc (r.start + r.size) → old (suc j) ≡ suc (old j)
    next-in j lo hi =
        let e = inside j lo hi in
        let n = st.next k j in
        let z = st.alone k j e.a e.at (within-stays e.a e.within) in
        omega (arith, n, z)

    -- an item that is no guard stands in Q as it is
    plain-exit : (j : ℕ) (a : Instr) → item_at P k j ≡ Some a → is_guard (Some a) ≡ false → exit_at (st.exits k) j ≡ None
    plain-exit j a at plain = by (exit_at (st.exits k) j) refl
      where
        by : (o : Option SideExit) → exit_at (st.exits k) j ≡ o → exit_at (st.exits k) j ≡ None
        by None e = e
        by (Some w) e =
            let o = st.owners k j w e in
            let g = (st.paired k w o.0).fine in
            absurd (let z : true ≡ false = sym (ap is_guard (sym at ∙ ap (item_at P k) (sym o.1) ∙ g.guards.1)) ∙ plain in cc)

    shared : (j j' : ℕ) (a : Instr) → item_at P k j ≡ Some a → tree_at Q k j' ≡ tree_at P k j → SharedItem B Q k j' a
    shared j j' a at e = let s = same_item P Q accepted st.heads.names k j j' a at (sym e) in record { b = s.item; at = s.at; same = s.same; kept = s.kept }

    kept-trees : (j : ℕ) (a : Instr) → suc r.start ≤ j → j < suc (r.start + r.size) → item_at P k j ≡ Some a → is_guard (Some a) ≡ false → tree_at Q k (old j) ≡ tree_at P k j
    kept-trees j a lo hi at plain = sym (untouched P Q accepted st k j (inside j lo hi).long (plain-exit j a at plain))

    guarded : (j : ℕ) (a : Instr) → suc r.start ≤ j → j < suc (r.start + r.size) → item_at P k j ≡ Some a → (g : IsGuardItem a) → (b : Instr) × (item_at Q k (old j) ≡ Some b) × (hb : IsGuardItem b) × ((p' q' : Locals) → ValuesMatch B p' q' → argument p' g.args 0 ≡ argument q' hb.args 0)
    guarded j a lo hi at g =
        let n = guard-Q k j a at g (inside j lo hi).long in
        (Act n.q.assigned n.q.ty op.Guard n.q.arguments n.q.callees n.q.targets, n.q.at, record { d = n.q.assigned; ty = n.q.ty; args = n.q.arguments; fns = n.q.callees; ls = n.q.targets; is = refl }, n.alike)

    -- ---- walks of P through the run

    record InRun (j : ℕ) : Type 0 where
      walk : List Branch
      is : IsWalk (code_of P k) walk
      ends : end_of walk ≡ j
      sites : sites_of (code_of P k) walk ≡ h.run.start ∷ sites_of (code_of P k) contents.walk

    opening : InRun (suc r.start)
    opening =
        let at : slice_get C (end_of contents.walk) ≡ Some (Act None None op.Speculate [] [] []) = ap (slice_get C) contents.ends ∙ h.is.opens in
        record {
          walk = onward (end_of contents.walk) ∷ contents.walk;
          is = (contains_in (onward (end_of contents.walk)) (branches_at C (end_of contents.walk)) (subst (λ o. In (onward (end_of contents.walk)) (branches_from C (end_of contents.walk) o)) (sym at) (inl refl)), contents.is);
          ends = ap suc contents.ends;
          sites = sites-effect C contents.walk (onward (end_of contents.walk)) (Some (Act None None op.Speculate [] [] [])) at refl ∙ ap (λ n. n ∷ sites_of C contents.walk) contents.ends;
        }

    through : (n : ℕ) → n ≤ r.size → InRun (suc (r.start + n))
    through zero low = let e : suc r.start ≡ suc (r.start + 0) = omega arith in subst InRun e opening
    through (suc n) low = on (through n (omega (arith, low)))
      where
        on : InRun (suc (h.run.start + n)) → InRun (suc (h.run.start + suc n))
        on w =
            let e = inside (suc (h.run.start + n)) (omega arith) (omega (arith, low)) in
            let s = reach-on C w.walk w.is e.a (ap (slice_get C) w.ends ∙ e.at) (onward (end_of w.walk)) refl refl (item-onward C (end_of w.walk) e.a (within-stays e.a e.within)) (within-keeps e.a e.within) in
            let z : suc (suc (h.run.start + n)) ≡ suc (h.run.start + suc n) = omega arith in
            record { walk = s.walk; is = s.is; ends = s.ends ∙ ap suc w.ends ∙ z; sites = s.sites ∙ w.sites }

    to : (j : ℕ) → suc r.start ≤ j → j < suc (r.start + r.size) → InRun j
    to j lo hi = let e = inside j lo hi in let l = e.less in subst InRun (sym e.same) (through e.n (omega (arith, l)))

    -- a guard of the run, and what stands there in Q
    record Guarding (j : ℕ) : Type 0 where
      a : Instr
      at : item_at P k j ≡ Some a
      g : IsGuardItem a
      targets : g.ls ≡ h.run.bail ∷ []
      long : j ≤ length (code_of P k)

    guarding : (j : ℕ) → suc r.start ≤ j → j < suc (r.start + r.size) → is_guard (item_at P k j) ≡ true → Guarding j
    guarding j lo hi is =
        let e = inside j lo hi in
        let g = guard_item e.a (ap is_guard (sym e.at) ∙ is) in
        let there : is_guard (slice_get (code_of P k) (suc (h.run.start + e.n))) ≡ true = ap (λ m. is_guard (slice_get (code_of P k) m)) (sym e.same) ∙ is in
        record {
          a = e.a;
          at = e.at;
          g = g;
          targets = ap labels_of_item (ap Some (sym g.is) ∙ sym e.at ∙ ap (slice_get (code_of P k)) e.same) ∙ h.is.guards e.n e.less there;
          long = e.long;
        }

    -- back at the label: the sites are those before the `speculate`
    aborted : (j : ℕ) (lo : suc r.start ≤ j) (hi : j < suc (r.start + r.size)) → Guarding j → Reach C contents.walk bail
    aborted j lo hi g =
        let w = to j lo hi in
        let a = Act g.g.d g.g.ty op.Guard g.g.args g.g.fns g.g.ls in
        let at : slice_get C (end_of w.walk) ≡ Some (Act g.g.d g.g.ty op.Guard g.g.args g.g.fns g.g.ls) = ap (slice_get C) w.ends ∙ g.at ∙ ap Some g.g.is in
        let b = abort C (end_of w.walk) r.bail in
        record {
          walk = abort C (end_of w.walk) r.bail ∷ w.walk;
          is = (contains_in (abort C (end_of w.walk) r.bail) (branches_at C (end_of w.walk)) (subst (λ o. In (abort C (end_of w.walk) r.bail) (branches_from C (end_of w.walk) o)) (sym at) (inr (in_map (abort C (end_of w.walk)) r.bail g.g.ls (subst (In r.bail) (sym g.targets) (inl refl))))), w.is);
          ends = refl;
          sites = sites-effect C w.walk (abort C (end_of w.walk) r.bail) (Some (Act g.g.d g.g.ty op.Guard g.g.args g.g.fns g.g.ls)) at refl ∙ ap (λ l. sites_changed Closes (end_of w.walk) l) w.sites;
        }

    -- ---- the steps in

    abbrev stateP : State
    stateP = state (frame k h.run.start p ps ∷ fs) blocks printed None x

    abbrev stateQ : State
    stateQ = state (frame k (st.old k h.run.start) q qs ∷ gs) blocks printed None y

    abbrev InP : ℕ → Locals → State
    InP j p' = state (frame k j p' (p ∷ ps) ∷ fs) blocks printed None x

    abbrev InQ : ℕ → Locals → State
    InQ j q' = state (frame k j q' (q ∷ qs) ∷ gs) blocks printed None y

    abbrev OutP : (ℕ → ℕ → ℕ) → ℕ → Locals → State
    OutP z j p' = state (frame k j p' ps ∷ fs) blocks printed None z

    abbrev OutQ : (ℕ → ℕ → ℕ) → ℕ → Locals → State
    OutQ z j q' = state (frame k j q' qs ∷ gs) blocks printed None z

    opens-P : step P limits stateP ≡ InP (suc r.start) p
    opens-P = ap (λ o. item_step P limits o (frame k h.run.start p ps) fs stateP) h.is.opens

    opens-Q : step Q limits stateQ ≡ InQ (old (suc r.start)) q
    opens-Q =
        let inside : h.run.start ≤ length (code_of P k) = (let w = slice_get_within (code_of P k) h.run.start (Act None None op.Speculate [] [] []) h.is.opens in omega (arith, w)) in
        let tree = sym (untouched P Q accepted st k h.run.start inside (outside-untouched P Q accepted st k h.run.start contents.points.1)) ∙ (found P k h.run.start (Act None None op.Speculate [] [] []) h.is.opens).tree in
        let n = action_at Q k (st.old k h.run.start) None op.Speculate [] [] [] tree in
        let m = st.next k h.run.start in
        let z = st.alone k h.run.start (Act None None op.Speculate [] [] []) h.is.opens refl in
        let e : suc (st.old k h.run.start) ≡ st.old k (suc h.run.start) = omega (arith, m, z) in
        ap (λ o. item_step Q limits o (frame k (st.old k h.run.start) q qs) gs stateQ) n.at ∙ ap (λ j. InQ j q) e

    abbrev Lk : ℕ → Locals → State → Type 0
    Lk = Locked P Q limits accepted B k p q contents.locations ps qs fs gs blocks printed x y r h.is lab.number lab.at old next-in shared kept-trees guarded

    attempt : Comes P Q limits accepted B k p q contents.locations ps qs fs gs blocks printed x y r h.is lab.number lab.at old next-in shared kept-trees guarded h.here
    attempt = comes P Q limits accepted B k p q contents.locations ps qs fs gs blocks printed x y r h.is lab.number lab.at old next-in shared kept-trees guarded h.here h.of

    -- after n steps in the run
    came-P : (n j : ℕ) (p' : Locals) → after (step P limits) n (InP (suc r.start) p) ≡ InP j p' → after (step P limits) (suc n) stateP ≡ InP j p'
    came-P n j p' e = ap (after (step P limits) n) opens-P ∙ e

    came-Q : (n : ℕ) → after (step Q limits) (suc n) stateQ ≡ after (step Q limits) n (InQ (old (suc r.start)) q)
    came-Q n = ap (after (step Q limits) n) opens-Q

    -- both are out of the run, at matching points, over the saves that they had
    out : (z z' : ℕ → ℕ → ℕ) (j : ℕ) (p' q' : Locals) → Reach C contents.walk j → IsOutside P Q accepted st k j → ValuesMatch B p' q' → StatesMatch (M P Q accepted st) P Q (OutP z j p') (OutQ z' (old j) q')
    out z z' j p' q' w outside agree =
        matches (M P Q accepted st) P Q limits accepted (running-preserves P Q accepted st) (frame k j p' ps) (frame k (st.old k j) q' qs) fs gs blocks printed None z z'
        (record { function = refl; contents = record { walk = w.walk; is = w.is; ends = w.ends; points = (refl, outside); locations = agree; known = λ a v n. absurd n; saves = subst (λ l. SavesMatch (M P Q accepted st) P Q k l ps qs) (sym w.sites) contents.saves } }) callers

    -- so many steps each, within the run, and one more
    one-more : (n j : ℕ) (p' : Locals) → after (step P limits) n (InP (suc r.start) p) ≡ InP j p' → R (step P limits (InP j p')) (step Q limits (after (step Q limits) n (InQ (old (suc r.start)) q))) → Chunks stateP stateQ
    one-more n j p' e again =
        let c = came-P n j p' e in
        record {
          early = suc n;
          moves = suc n;
          within = omega arith;
          quiet = ap (λ (z : State). z.printed) c;
          running = ap (λ (z : State). z.ended) c;
          again = subst (λ z. R z (after (step Q limits) (suc (suc n)) stateQ)) (sym (after-suc (step P limits) (suc n) stateP ∙ ap (step P limits) c))
              (subst (λ z. R (step P limits (InP j p')) z) (sym (after-suc (step Q limits) (suc n) stateQ ∙ ap (step Q limits) (came-Q n))) again);
        }

    -- ---- a fault

    faulted-chunk : (n : ℕ) (kind : Fault) (j : ℕ) (p' : Locals) → suc r.start ≤ j → j < suc (r.start + r.size) → Lk j p' (after (step Q limits) n (InQ (old (suc r.start)) q)) → after (step P limits) n (InP (suc r.start) p) ≡ InP j p' → step P limits (InP j p') ≡ faulted kind (InP j p') → Chunks stateP stateQ
    faulted-chunk n kind j p' lo hi lk es ef =
        let f = faults-both P Q limits accepted B k p q contents.locations ps qs fs gs blocks printed x y r h.is lab.number lab.at old next-in shared kept-trees guarded j p' (after (step Q limits) n (InQ (old (suc r.start)) q)) kind lo hi lk ef in
        one-more n j p' es (inr (record { final = subst (λ (o : Option End). IsSome o) (sym (ap (λ (z : State). z.ended) ef)) refl; ended = f.ended; printed = f.printed_same }))

    -- ---- the commit

    committed-chunk : (n : ℕ) (p' : Locals) → Lk (suc (r.start + r.size)) p' (after (step Q limits) n (InQ (old (suc r.start)) q)) → after (step P limits) n (InP (suc r.start) p) ≡ InP (suc (r.start + r.size)) p' → Chunks stateP stateQ
    committed-chunk n p' lk es = by (item_at P k (suc (h.run.start + h.run.size))) refl
      where
        j : ℕ
        j = suc (h.run.start + h.run.size)

        -- no run goes on behind it
        behind : IsOutside P Q accepted st k (suc (suc (h.run.start + h.run.size)))
        behind s is low high = ⊎_elim
            (λ e. run-size (code_of P k) h.run s h.is is e (omega (arith, high, e)))
            (λ d. ⊎_elim
            (λ l. let a = run-apart (code_of P k) h.run s h.is is l in omega (arith, a, low))
            (λ l. let a = run-apart (code_of P k) s h.run is h.is (omega (arith, l, d)) in omega (arith, a, high)) (cases_lt h.run.start s.start))
            (cases_eq h.run.start s.start)

        by : (o : Option Instr) → item_at P k (suc (h.run.start + h.run.size)) ≡ o → Chunks stateP stateQ
        by None e = absurd (let z : item_place None ≡ Commits = ap item_place (sym e) ∙ h.is.closes in cc)
        by (Some a) e = commits a e (commit-item a (ap item_place (sym e) ∙ h.is.closes))
          where
            commits : (a : Instr) → item_at P k (suc (h.run.start + h.run.size)) ≡ Some a → IsCommit a → Chunks stateP stateQ
            commits a e c =
                let inside : suc (h.run.start + h.run.size) ≤ length (code_of P k) = (let w = slice_get_within (code_of P k) (suc (h.run.start + h.run.size)) a e in omega (arith, w)) in
                let none = plain-exit (suc (h.run.start + h.run.size)) a e (is-guard-plain a c) in
                let s = same_item P Q accepted st.heads.names k (suc (h.run.start + h.run.size)) (st.old k (suc (h.run.start + h.run.size))) a e (untouched P Q accepted st k (suc (h.run.start + h.run.size)) inside none) in
                let d = same-commit B a s.item c s.same in
                let stepP : step P limits (InP (suc (h.run.start + h.run.size)) p') ≡ OutP x (suc (suc (h.run.start + h.run.size))) p' =
                ap (λ o. item_step P limits o (frame k (suc (h.run.start + h.run.size)) p' (p ∷ ps)) fs (InP (suc (h.run.start + h.run.size)) p')) (e ∙ ap Some c.is) in
                let m = st.next k (suc (h.run.start + h.run.size)) in
                let z = st.alone k (suc (h.run.start + h.run.size)) a e (ap (λ w. leads_away (Some w)) c.is) in
                let point : suc (st.old k (suc (h.run.start + h.run.size))) ≡ st.old k (suc (suc (h.run.start + h.run.size))) = omega (arith, m, z) in
                let stepQ : step Q limits (after (step Q limits) n (InQ (st.old k (suc h.run.start)) q)) ≡ OutQ y (st.old k (suc (suc (h.run.start + h.run.size)))) lk.q =
                ap (step Q limits) lk.is ∙ ap (λ o. item_step Q limits o (frame k (st.old k (suc (h.run.start + h.run.size))) lk.q (q ∷ qs)) gs (InQ (st.old k (suc (h.run.start + h.run.size))) lk.q)) (s.at ∙ ap Some d.is)
                ∙ ap (λ w. OutQ y w lk.q) point in
                let w = through h.run.size (omega arith) in
                let at : slice_get C (end_of w.walk) ≡ Some (Act c.d c.ty op.Commit c.args c.fns c.ls) = ap (slice_get C) w.ends ∙ e ∙ ap Some c.is in
                let after-commit : Reach C contents.walk (suc (suc (h.run.start + h.run.size))) = record {
                  walk = onward (end_of w.walk) ∷ w.walk;
                  is = (contains_in (onward (end_of w.walk)) (branches_at C (end_of w.walk)) (subst (λ o. In (onward (end_of w.walk)) (branches_from C (end_of w.walk) o)) (sym at) (inl refl)), w.is);
                  ends = ap suc w.ends;
                  sites = sites-effect C w.walk (onward (end_of w.walk)) (Some (Act c.d c.ty op.Commit c.args c.fns c.ls)) at refl ∙ ap (λ l. sites_changed Closes (end_of w.walk) l) w.sites;
                } in
                one-more n (suc (h.run.start + h.run.size)) p' es
                (subst (λ z. R z (step Q limits (after (step Q limits) n (InQ (st.old k (suc h.run.start)) q)))) (sym stepP)
                (subst (λ z. R (OutP x (suc (suc (h.run.start + h.run.size))) p') z) (sym stepQ) (inl (out x y (suc (suc (h.run.start + h.run.size))) p' lk.q after-commit behind lk.alike))))

    -- ---- a guard fails

    -- P's guard failed, so its condition is false
    longer : (zs : List Locals) → length zs ≡ length (p ∷ zs) → ⊥
    longer zs e = omega (arith, e)

    abbrev saves-of : List Frame → List Locals
    saves-of [] = []
    saves-of (f ∷ older) = f.saves

    false-there : (j : ℕ) (p' : Locals) (z : ℕ → ℕ → ℕ) (g : Guarding j) → step P limits (InP j p') ≡ OutP z bail p → bool_of (argument p' g.g.args 0) ≡ false
    false-there j p' z g e = by (bool_of (argument p' g.g.args 0)) refl
      where
        stepP : step P limits (InP j p') ≡ item_step P limits (Some (Act g.g.d g.g.ty op.Guard g.g.args g.g.fns g.g.ls)) (frame k j p' (p ∷ ps)) fs (InP j p')
        stepP = ap (λ o. item_step P limits o (frame k j p' (p ∷ ps)) fs (InP j p')) (g.at ∙ ap Some g.g.is)

        by : (c : Bool) → bool_of (argument p' g.g.args 0) ≡ c → bool_of (argument p' g.g.args 0) ≡ false
        by false e' = e'
        by true e' = absurd (longer ps (ap (λ (s : State). length (saves-of s.frames))
            (sym (sym (stepP ∙ ap (λ c. guards P limits c (slice_index g.g.ls 0) (frame k j p' (p ∷ ps)) fs (InP j p')) e') ∙ e))))

    -- Q's guard fails too, and goes to its label
    record FailsQ (j : ℕ) (q' : Locals) (label : ℕ) : Type 0 where
      z : ℕ → ℕ → ℕ
      is : step Q limits (InQ (old j) q') ≡ OutQ z label q

    fails-Q : (j : ℕ) (p' q' : Locals) (g : Guarding j) (labels : List (List ℕ)) (n : GuardQ k (old j) g.g.args labels) (name : List ℕ) → labels ≡ name ∷ [] → (point : ℕ) → tree_at Q k point ≡ Some (item.Label name) → ValuesMatch B p' q' → bool_of (argument p' g.g.args 0) ≡ false → FailsQ j q' point
    fails-Q j p' q' g labels n name one point label agree e = record {
      z = (guards Q limits false (slice_index n.q.targets 0) (frame k (old j) q' (q ∷ qs)) gs (InQ (old j) q')).failures;
      is = ap (λ o. item_step Q limits o (frame k (old j) q' (q ∷ qs)) gs (InQ (old j) q')) n.q.at
          ∙ ap (λ c. guards Q limits c (slice_index n.q.targets 0) (frame k (old j) q' (q ∷ qs)) gs (InQ (old j) q')) (ap bool_of (sym (n.alike p' q' agree)) ∙ e)
          ∙ ap (λ m. OutQ (guards Q limits false (slice_index n.q.targets 0) (frame k (old j) q' (q ∷ qs)) gs (InQ (old j) q')).failures m q) (target n.q);
    }
      where
        target : (m : ActionAt Q k (old j) n.dest op.Guard n.names n.funcs labels) → point_of (slice_index m.targets 0) (code_of Q k) ≡ point
        target m = first_target Q k (old j) n.dest op.Guard n.names n.funcs name
            (record { assigned = m.assigned; ty = m.ty; arguments = m.arguments; callees = m.callees; targets = m.targets; at = m.at; function = m.function; there = m.there; range = m.range; has_dest = m.has_dest; has_args = m.has_args; has_funcs = m.has_funcs; has_labels = m.has_labels ∙ one }) point label

    -- an unpaired guard: both are at the label
    unpaired-chunk : (n j : ℕ) (p' : Locals) (z : ℕ → ℕ → ℕ) → suc r.start ≤ j → j < suc (r.start + r.size) → is_guard (item_at P k j) ≡ true → exit_at (st.exits k) j ≡ None → (lk : Lk j p' (after (step Q limits) n (InQ (old (suc r.start)) q)))
        → after (step P limits) n (InP (suc r.start) p) ≡ InP j p' → step P limits (InP j p') ≡ OutP z bail p → Chunks stateP stateQ
    unpaired-chunk n j p' z lo hi is none lk es ef =
        let g = guarding j lo hi is in
        let F = (found P k j g.a g.at).function in
        let there = (found P k j g.a g.at).there in
        let name = named F.labels r.bail in
        let below = subst (λ w. AreBelow (length F.labels) (targets_of w)) g.g.is (found P k j g.a g.at).range.targets in
        let less : r.bail < length F.labels = (subst (AreBelow (length F.labels)) g.targets below).0 in
        let at = label_found P k F r.bail there less in
        let labels : labels-by (exit_at (st.exits k) j) (map (named F.labels) g.g.ls) ≡ named F.labels r.bail ∷ [] = ap (λ o. labels-by o (map (named F.labels) g.g.ls)) none ∙ plain (map (named F.labels) g.g.ls) ∙ ap (map (named F.labels)) g.targets in
        let f = fails-Q j p' lk.q g (labels-by (exit_at (st.exits k) j) (map (named F.labels) g.g.ls)) (guard-Q k j g.a g.at g.g g.long) (named F.labels r.bail) labels (old bail)
        (label-stands P Q accepted st k bail (named F.labels r.bail) (label_within r.bail C) at) lk.alike (false-there j p' z g ef) in
        one-more n j p' es
        (subst (λ w. R w (step Q limits (after (step Q limits) n (InQ (old (suc r.start)) q)))) (sym ef)
        (subst (λ w. R (OutP z bail p) w) (sym (ap (step Q limits) lk.is ∙ f.is)) (inl (out z f.z bail p q (aborted j lo hi g) (label-outside P Q accepted st k bail lab.number lab.at) contents.locations))))
      where
        plain : (labels : List (List ℕ)) → labels-by None labels ≡ labels
        plain labels = refl

    -- the lines of an exit are copies of what the walk makes, and a `jmp`
    Copies : ℕ → List ℕ → Type 0
    Copies j kept = Copied P Q limits accepted B k bail p q contents.locations ps qs fs gs blocks printed x shared j kept

    copies : (j : ℕ) (kept : List ℕ) (other : ℕ) → ((i : ℕ) → In i kept → (a : Instr) × (slice_get C i ≡ Some a)) → Stands P Q k j (lines_behind (tree_at P k) (labels_in P k) kept other) → Copied P Q limits accepted B k bail p q contents.locations ps qs fs gs blocks printed x shared j kept × (tree_at Q k (j + length kept) ≡ Some (jmp_line (named (labels_in P k) other)))
    copies j [] other there s = (tt, (let e : j + 0 ≡ j = omega arith in ap (tree_at Q k) e ∙ s.0))
    copies j (i ∷ kept) other there s =
        let a = there i (inl refl) in
        let g = found P k i a.0 a.1 in
        let tree = item_tree (names_of_functions P.funcs) (names_in (slice_get P.funcs k)) g.function.labels a.0 in
        let here : Stands P Q k j (item_tree (names_of_functions P.funcs) (names_in (slice_get P.funcs k)) g.function.labels a.0 ∷ lines_behind (tree_at P k) (labels_in P k) kept other) = subst (λ z. Stands P Q k j ((listed_item z ++ kept_lines (tree_at P k) kept) ++ jmp_line (named (labels_in P k) other) ∷ [])) g.tree s in
        let rest = copies (suc j) kept other (λ i' m. there i' (inr m)) here.1 in
        let e : j + suc (length kept) ≡ suc j + length kept = omega arith in
        ((here.0 ∙ sym g.tree, rest.0), ap (tree_at Q k) e ∙ rest.1)

    abbrev PairedCase : Pair → Type 0
    PairedCase pair = In pair h.here → (n : ℕ) (p' : Locals) (z : ℕ → ℕ → ℕ) → Lk pair.guard p' (after (step Q limits) n (InQ (old (suc r.start)) q)) → after (step P limits) n (InP (suc r.start) p) ≡ InP pair.guard p' → step P limits (InP pair.guard p') ≡ OutP z bail p
        → LeadsOff P Q limits accepted B k p q contents.locations ps qs fs gs blocks printed x y r h.is lab.number lab.at old next-in shared kept-trees guarded z pair.kept pair.other p' → Chunks stateP stateQ

    paired-chunk : (w : SideExit) → In w (st.exits k) → exit_at (st.exits k) w.pair.guard ≡ Some w → PairedCase w.pair
    paired-chunk w among at here n p' z lk es ef u =
        let fine = pairs_fine P accepted k r h.is lab.number lab.at h.here h.of w.pair here in
        let g = guarding w.pair.guard fine.low fine.high (ap is_guard fine.guards.1) in
        let F = (found P k w.pair.guard g.a g.at).function in
        let before = st.stands k w among in
        let labels : labels-by (exit_at (st.exits k) w.pair.guard) (map (named F.labels) g.g.ls) ≡ w.name ∷ [] = ap (λ o. labels-by o (map (named F.labels) g.g.ls)) at ∙ leads (map (named F.labels) g.g.ls) in
        let f = fails-Q w.pair.guard p' lk.q g (labels-by (exit_at (st.exits k) w.pair.guard) (map (named F.labels) g.g.ls)) (guard-Q k w.pair.guard g.a g.at g.g g.long) w.name labels before.point before.lines.0 lk.alike (false-there w.pair.guard p' z g ef) in
        let l = label_at Q k before.point w.name before.lines.0 in
        let over : step Q limits (OutQ f.z before.point q) ≡ OutQ f.z (suc before.point) q = ap (λ o. item_step Q limits o (frame k before.point q qs) gs (OutQ f.z before.point q)) l.at in
        let c = copies (suc before.point) w.pair.kept w.pair.other (λ i m. let t = fine.computes i m in (t.0, t.1)) before.lines.1 in
        let m = u.made f.z (suc before.point) c.0 in
        let j = action_at Q k (suc before.point + length w.pair.kept) None op.Jmp [] [] (named (labels_in P k) w.pair.other ∷ []) c.1 in
        let F' = slice_get P.funcs k in
        let ol = the-other w fine.turning.c fine.turning.on fine.turning.off fine.turning.stands fine.turning.turns fine.turning.other in
        let to = first_target Q k (suc before.point + length w.pair.kept) None op.Jmp [] [] (named (labels_in P k) w.pair.other) j (old (point_of w.pair.other C)) ol in
        let jumped : step Q limits (OutQ f.z (suc before.point + length w.pair.kept) m.q) ≡ OutQ f.z (old (point_of w.pair.other C)) m.q =
        ap (λ o. item_step Q limits o (frame k (suc before.point + length w.pair.kept) m.q qs) gs (OutQ f.z (suc before.point + length w.pair.kept) m.q)) j.at ∙ ap (λ d. OutQ f.z d m.q) to in
        let t0 : after (step Q limits) (suc n) stateQ ≡ InQ (old w.pair.guard) lk.q = came-Q n ∙ lk.is in
        let t1 : after (step Q limits) (suc (suc n)) stateQ ≡ OutQ f.z before.point q = after-suc (step Q limits) (suc n) stateQ ∙ ap (step Q limits) t0 ∙ f.is in
        let t2 : after (step Q limits) (suc (suc (suc n))) stateQ ≡ OutQ f.z (suc before.point) q = after-suc (step Q limits) (suc (suc n)) stateQ ∙ ap (step Q limits) t1 ∙ over in
        let t3 : after (step Q limits) (suc (suc (suc n)) + length w.pair.kept) stateQ ≡ OutQ f.z (suc before.point + length w.pair.kept) m.q =
        after-add (step Q limits) (suc (suc (suc n))) (length w.pair.kept) stateQ ∙ ap (after (step Q limits) (length w.pair.kept)) t2 ∙ m.steps in
        let t4 : after (step Q limits) (suc (suc (suc (suc n)) + length w.pair.kept)) stateQ ≡ OutQ f.z (old (point_of w.pair.other C)) m.q =
        after-suc (step Q limits) (suc (suc (suc n)) + length w.pair.kept) stateQ ∙ ap (step Q limits) t3 ∙ jumped in
        let sum : suc (n + suc (length w.pair.kept + 2)) ≡ suc (suc (suc (suc n)) + length w.pair.kept) = omega arith in
        let a = aborted w.pair.guard fine.low fine.high g in
        let same : bail ≡ point_of w.pair.bail C = ap (λ b. point_of b C) (sym fine.bail) in
        let d = passage-reach C (point_of w.pair.bail C) w.pair.kept fine.turning.stands fine.turning.passage a.walk a.is (a.ends ∙ same) in
        let e = glide-turn C fine.turning.stands fine.turning.c fine.turning.on fine.turning.off w.pair.other fine.turning.turns fine.turning.other d.walk d.is d.ends in
        let reach : Reach C contents.walk (point_of w.pair.other C) = record { walk = e.walk; is = e.is; ends = e.ends; sites = e.sites ∙ d.sites ∙ a.sites } in
        leads-off P Q limits accepted B k p q contents.locations ps qs fs gs blocks printed x y r h.is lab.number lab.at old next-in shared kept-trees guarded R stateP stateQ (OutQ f.z (old (point_of w.pair.other C)) m.q) refl refl opens-P
        w.pair n p' z es ef u (ap (λ c. after (step Q limits) c stateQ) sum ∙ t4)
        (inl (out z f.z (point_of w.pair.other C) u.w m.q reach (other-outside w fine.turning.c fine.turning.on fine.turning.off fine.turning.stands fine.turning.turns fine.turning.other) m.alike))
      where
        leads : (labels : List (List ℕ)) → labels-by (Some w) labels ≡ w.name ∷ []
        leads labels = refl

        -- the other label is there
        other-found : (w : SideExit) (c on off stands : ℕ) → IsBranchOn (slice_get C stands) c on off → In w.pair.other (on ∷ off ∷ []) → tree_at P k (point_of w.pair.other C) ≡ Some (item.Label (named (labels_in P k) w.pair.other))
        other-found w c on off stands turns other =
            let h = found P k stands (Act None None op.Br (c ∷ []) [] (on ∷ off ∷ [])) turns in
            let below = h.range.targets in
            let less : w.pair.other < length h.function.labels = ⊎_elim (λ e. subst (λ n. n < length h.function.labels) (sym e) below.0) (λ r. ⊎_elim (λ e. subst (λ n. n < length h.function.labels) (sym e) below.1.0) (λ z. absurd z) r) other in
            let names : h.function.labels ≡ labels_in P k = ap labels_here (sym h.there) in
            label_found P k h.function w.pair.other h.there less ∙ ap (λ l. Some (item.Label (named l w.pair.other))) names

        the-other : (w : SideExit) (c on off stands : ℕ) → IsBranchOn (slice_get C stands) c on off → In w.pair.other (on ∷ off ∷ []) → tree_at Q k (old (point_of w.pair.other C)) ≡ Some (item.Label (named (labels_in P k) w.pair.other))
        the-other w c on off stands turns other = label-stands P Q accepted st k (point_of w.pair.other C) (named (labels_in P k) w.pair.other) (label_within w.pair.other C) (other-found w c on off stands turns other)

        other-outside : (w : SideExit) (c on off stands : ℕ) → IsBranchOn (slice_get C stands) c on off → In w.pair.other (on ∷ off ∷ []) → IsOutside P Q accepted st k (point_of w.pair.other C)
        other-outside w c on off stands turns other = let l = label_at P k (point_of w.pair.other C) (named (labels_in P k) w.pair.other) (other-found w c on off stands turns other) in label-outside P Q accepted st k (point_of w.pair.other C) l.number l.at

    -- ---- all ends of a run

    -- the rest of a run, behind the last pair
    rest-chunk : (n j : ℕ) (p' : Locals) → suc r.start ≤ j → ((pair : Pair) → In pair h.here → pair.guard < j) → after (step P limits) n (InP (suc r.start) p) ≡ InP j p'
        → Remains P Q limits accepted B k p q contents.locations ps qs fs gs blocks printed x y r h.is lab.number lab.at old next-in shared kept-trees guarded j p' (after (step Q limits) n (InQ (old (suc r.start)) q)) → Chunks stateP stateQ
    rest-chunk n j p' low below es (RestFaults m kind j' p'' lo hi lk es' ef) =
        faulted-chunk (n + m) kind j' p'' lo hi (subst (Lk j' p'') (sym (after-add (step Q limits) n m (InQ (old (suc r.start)) q))) lk) (after-add (step P limits) n m (InP (suc r.start) p) ∙ ap (after (step P limits) m) es ∙ es') ef
    rest-chunk n j p' low below es (RestFails m j' p'' z up hi is lk es' ef) =
        unpaired-chunk (n + m) j' p'' z (omega (arith, low, up)) hi is (untouched-there (exit_at (st.exits k) j') refl)
        (subst (Lk j' p'') (sym (after-add (step Q limits) n m (InQ (old (suc r.start)) q))) lk) (after-add (step P limits) n m (InP (suc r.start) p) ∙ ap (after (step P limits) m) es ∙ es') ef
      where
        untouched-there : (o : Option SideExit) → exit_at (st.exits k) j' ≡ o → exit_at (st.exits k) j' ≡ None
        untouched-there None e = e
        untouched-there (Some w) e =
            let o = st.owners k j' w e in
            let same = o.1 in
            let b = below w.pair (h.only w o.0 (omega (arith, low, up, same)) (omega (arith, hi, same))) in
            absurd (omega (arith, b, same, up))
    rest-chunk n j p' low below es (RestCommits m p'' lk es') =
        committed-chunk (n + m) p'' (subst (Lk (suc (r.start + r.size)) p'') (sym (after-add (step Q limits) n m (InQ (old (suc r.start)) q))) lk) (after-add (step P limits) n m (InP (suc r.start) p) ∙ ap (after (step P limits) m) es ∙ es')

    run-chunk : Chunks stateP stateQ
    run-chunk = by attempt
      where
        by : Comes P Q limits accepted B k p q contents.locations ps qs fs gs blocks printed x y r h.is lab.number lab.at old next-in shared kept-trees guarded h.here → Chunks stateP stateQ
        by (Faulted n kind j p' lo hi lk es ef) = faulted-chunk n kind j p' lo hi lk es ef
        by (Failed pair among n p' z lk es ef u) =
            let w = h.exits_of pair among in
            let at : exit_at (st.exits k) w.0.pair.guard ≡ Some w.0 = ap (λ (v : Pair). exit_at (st.exits k) v.guard) w.2 ∙ w.1 in
            let o = st.owners k w.0.pair.guard w.0 at in
            subst PairedCase w.2 (paired-chunk w.0 o.0 at) among n p' z lk es ef u
        by (Passed n room j w kept p' up below lk es er rest) =
            rest-chunk n j p' up below es (remains P Q limits accepted B k p q contents.locations ps qs fs gs blocks printed x y r h.is lab.number lab.at old next-in shared kept-trees guarded room j p' (after (step Q limits) n (InQ (old (suc r.start)) q)) er up lk)

  -- ---- elsewhere

  same_function : (F G : Frame) → F.function ≡ G.function → G ≡ frame F.function G.point G.locations G.saves
  same_function F G e = λ z. frame (sym e z) G.point G.locations G.saves

  running-chunk : (s t : State) (r : StatesMatch (M P Q accepted st) P Q s t) → s.ended ≡ None → HasRun (code_of P r.frame.function) (st.exits r.frame.function) r.frame.point → Chunks s t
  running-chunk s t r runs h =
      let F = r.frame in
      let G = r.result_frame in
      let k = F.function in
      let start : h.run.start ≡ F.point = h.begins in
      let point : G.point ≡ st.old F.function h.run.start = r.newest.contents.points.0 ∙ ap (st.old F.function) (sym h.begins) in
      let es : s ≡ state (frame F.function h.run.start F.locations F.saves ∷ r.older) s.blocks s.printed None s.failures =
      (λ z. state (r.frames z) s.blocks s.printed (runs z) s.failures) ∙ (λ z. state (frame F.function (sym h.begins z) F.locations F.saves ∷ r.older) s.blocks s.printed None s.failures) in
      let et : t ≡ state (frame F.function (st.old F.function h.run.start) G.locations G.saves ∷ r.result_older) s.blocks s.printed None t.failures =
      (λ z. state (r.result_frames z) (sym r.blocks z) (sym r.printed z) ((sym r.ended ∙ runs) z) t.failures)
      ∙ (λ z. state (same_function F G r.newest.function z ∷ r.result_older) s.blocks s.printed None t.failures)
      ∙ (λ z. state (frame F.function (point z) G.locations G.saves ∷ r.result_older) s.blocks s.printed None t.failures) in
      let contents : ContentsMatch (M P Q accepted st) P Q F.function h.run.start (st.old F.function h.run.start) F.locations G.locations F.saves G.saves =
      subst (λ n. ContentsMatch (M P Q accepted st) P Q F.function n (st.old F.function h.run.start) F.locations G.locations F.saves G.saves) (sym h.begins)
      (subst (λ n. ContentsMatch (M P Q accepted st) P Q F.function F.point n F.locations G.locations F.saves G.saves) point r.newest.contents) in
      subst (λ z. Chunks z t) (sym es)
      (subst (λ z. Chunks (state (frame F.function h.run.start F.locations F.saves ∷ r.older) s.blocks s.printed None s.failures) z) (sym et)
      (run-chunk F.function F.point h F.locations G.locations F.saves G.saves contents r.older r.result_older r.callers s.blocks s.printed s.failures t.failures))

  plain-chunk : (s t : State) (r : StatesMatch (M P Q accepted st) P Q s t) → s.ended ≡ None → BeginsNone P Q accepted st r.frame.function r.frame.point → Chunks s t
  plain-chunk s t r runs none = record {
    early = 0;
    moves = 0;
    within = omega arith;
    quiet = refl;
    running = runs;
    again = inl (regular_steps_match (M P Q accepted st) P Q limits accepted (running-preserves P Q accepted st) s t r runs none);
  }

  any-chunk : (s t : State) → R s t → s.ended ≡ None → Chunks s t
  any-chunk s t (inr e) runs = absurd (let h = subst (λ (o : Option End). IsSome o) runs e.final in cc)
  any-chunk s t (inl r) runs = ⊎_elim (λ h. running-chunk s t r runs h) (λ none. plain-chunk s t r runs none) (st.runs r.frame.function r.frame.point)

  agreeing : (s t : State) → R s t → (s.ended ≡ t.ended) × (s.printed ≡ t.printed)
  agreeing s t (inl r) = (r.ended, r.printed)
  agreeing s t (inr e) = (e.ended, e.printed)

  pub simulates : Simulation (program P limits) (program Q limits) 1 R
  simulates = record { agrees = agreeing; chunk = any-chunk }

pub laid-refines : (P Q : Prog) → IsAccepted P → Laid P Q → Refines P Q 1
laid-refines P Q accepted st = record {
  same_types = (running-preserves P Q accepted st).types;
  positive = omega arith;
  follows = λ limits args fit.
      Follows-from_simulation (program P limits) (program Q limits) (R P Q limits accepted st) (program_is_system P limits) (program_is_system Q limits) 1 (simulates P Q limits accepted st)
      (first_state P limits args) (first_state Q limits args) (inl (first_states_match (M P Q accepted st) P Q limits accepted (running-preserves P Q accepted st) args (zip-long Suits args (types_of (slice_get P.funcs P.main)) fit)));
}

pub exits-refine : SideExitsRefine
exits-refine P Q accepted made = laid-refines P Q accepted (sided-laid P Q accepted made)
