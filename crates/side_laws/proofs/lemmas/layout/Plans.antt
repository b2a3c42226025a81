-- Which points match: for acceptance all points of the program, for the simulation those outside of runs.
use Rattle.std.proofs.Common.{◌≡◌, ℕ, suc, ◌+◌, ◌-◌, ◌<◌, ◌≤◌, List, length, Option, Some, None, refl, sym, ap, subst, ◌∙◌, ⊎_elim, arith}
use Rattle.std.specs.Prelude.{slice_get}
use Rattle.std.specs.Option.{option_map}
use Rattle.std.proofs.lemmas.Bool.{cases_eq}
use Rattle.bril_tree.specs.declared.function_tree.Item.{Item}
use Rattle.bril_tree.specs.declared.numbered.Instr.TheVariants.{Label}
use Rattle.bril_tree.specs.declared.program.Prog.{Prog}
use Rattle.bril_tree.specs.declared.function_tree.Item.TheVariants as item
use Rattle.bril_tree.specs.Accepted.{IsAccepted}
use Rattle.bril_tree.specs.Numbered.{names_in, tree_at}
use Rattle.bril_tree.specs.Operand.{Location}
use Rattle.bril_tree.specs.Step.{code_of, item_at}
use Rattle.bril_tree.specs.Walk.{IsReached}
use Rattle.bril_tree.proofs.Branches.{walk_within}
use Rattle.pass_edit_laws.specs.plan.Plan.{Plan, Preserves}
use Rattle.pass_edit_laws.specs.names.Named.{SameLocation}
use Rattle.pass_edit_laws.specs.names.NamedPlan.{NamePlan, plan, KeepsNames}
use Rattle.pass_edit_laws.proofs.lemmas.names.Preserving.{knows_nothing, names_preserve}
use Rattle.pass_edit_laws.proofs.lemmas.names.Points.{label_once}
use Rattle.pass_edit_laws.proofs.lemmas.names.Standing.{label_at}
use Rattle.side_laws.specs.Paired.{Run, IsRun, item_place, Within, Commits, Breaks}
use Rattle.side_laws.specs.Sided.{SideExit, exit_at, retargeted_by}
use Rattle.side_laws.specs.Laid.{Laid}

retargeted-none : (o : Option Item) → option_map (retargeted_by None) o ≡ o
retargeted-none None = refl
retargeted-none (Some a) = refl

retargeted-label : (o : Option SideExit) (name : List ℕ) → retargeted_by o (item.Label name) ≡ item.Label name
retargeted-label None name = refl
retargeted-label (Some w) name = refl

module _ (P Q : Prog) (accepted : IsAccepted P) (st : Laid P Q) where
  reached-inside : (f i : ℕ) → IsReached (code_of P f) i → i ≤ length (code_of P f)
  reached-inside f i reached = let w = walk_within (code_of P f) reached.walk reached.is in let z = reached.ends in omega (arith, w, z)

  -- an item that isn't a paired guard stands in Q
  pub untouched : (f i : ℕ) → i ≤ length (code_of P f) → exit_at (st.exits f) i ≡ None → tree_at P f i ≡ tree_at Q f (st.old f i)
  untouched f i inside none = sym (st.placed f i inside ∙ ap (λ o. option_map (retargeted_by o) (tree_at P f i)) none ∙ retargeted-none (tree_at P f i))

  -- so does a label
  pub label-stands : (f i : ℕ) (name : List ℕ) → i ≤ length (code_of P f) → tree_at P f i ≡ Some (item.Label name) → tree_at Q f (st.old f i) ≡ Some (item.Label name)
  label-stands f i name inside at = st.placed f i inside ∙ ap (option_map (retargeted_by (exit_at (st.exits f) i))) at ∙ ap Some (retargeted-label (exit_at (st.exits f) i) name)

  -- places of one name
  abbrev pub A : ℕ → Location → Location → Type 0
  A k a b = SameLocation (names_in (slice_get P.funcs k)) (names_in (slice_get Q.funcs k)) a b × Unit {0}

  -- ---- for acceptance: all points, regular but at paired guards

  abbrev pub walking : NamePlan
  walking = record { PointsMatch = λ f i j. j ≡ st.old f i; Matters = λ f i a. Unit {0}; IsRegular = λ f i j. exit_at (st.exits f) i ≡ None; IsKnown = λ f i a v. ⊥ }

  abbrev pub W : Plan
  W = plan P Q walking

  keeps-walking : KeepsNames P Q walking
  keeps-walking = record {
    heads = st.heads;
    start = λ f. sym (st.start f);
    same = λ f i j reached points regular. subst (λ n. tree_at P f i ≡ tree_at Q f n) (sym points) (untouched f i (reached-inside f i reached) regular);
    next = λ f i j a reached points regular at goes. let n = st.next f i in let z = st.alone f i a at goes in omega (arith, points, n, z);
    labels = λ f i j name reached at bt. label_once Q f j (st.old f i) name bt (label-stands f i name (reached-inside f i reached) at);
    reads = λ f i j a x reached points regular at h. tt;
    flows = λ f i w x reached h e m n. tt;
    back = λ f w x walk is h e s sites same m. tt;
    known = knows_nothing P Q walking (λ f i a v h. h);
  }

  pub walking-preserves : Preserves W P Q
  walking-preserves = names_preserve P Q walking accepted keeps-walking

  -- ---- for the simulation: points outside of runs, regular where none begins

  abbrev pub IsOutside : ℕ → ℕ → Type 0
  IsOutside f i = (r : Run) → IsRun (code_of P f) r → r.start < i → i ≤ suc (r.start + r.size) → ⊥

  abbrev pub BeginsNone : ℕ → ℕ → Type 0
  BeginsNone f i = (r : Run) → IsRun (code_of P f) r → r.start ≡ i → ⊥

  abbrev pub running : NamePlan
  running = record { PointsMatch = λ f i j. (j ≡ st.old f i) × IsOutside f i; Matters = λ f i a. Unit {0}; IsRegular = λ f i j. BeginsNone f i; IsKnown = λ f i a v. ⊥ }

  abbrev pub M : Plan
  M = plan P Q running

  -- no paired guard is outside
  pub outside-untouched : (f i : ℕ) → IsOutside f i → exit_at (st.exits f) i ≡ None
  outside-untouched f i outside = by (exit_at (st.exits f) i) refl
    where
      by : (o : Option SideExit) → exit_at (st.exits f) i ≡ o → o ≡ None
      by None e = refl
      by (Some w) e =
          let o = st.owners f i w e in
          let p = st.paired f w o.0 in
          let low = p.fine.low in
          let high = p.fine.high in
          let at = o.1 in
          absurd (outside p.run p.is (omega (arith, low, at)) (omega (arith, high, at)))

  -- a label is
  pub label-outside : (f i l : ℕ) → item_at P f i ≡ Some (Label l) → IsOutside f i
  label-outside f i l at r is low high = ⊎_elim last before (cases_eq i (suc (r.start + r.size)))
    where
      last : i ≡ suc (r.start + r.size) → ⊥
      last e = let z : Breaks ≡ Commits = ap item_place (sym at ∙ ap (item_at P f) e) ∙ is.closes in cc

      before : (i ≡ suc (r.start + r.size) → ⊥) → ⊥
      before n =
          let m : ℕ = i - suc r.start in
          let same : i ≡ suc (r.start + (i - suc r.start)) = omega (arith, low) in
          let less : i - suc r.start < r.size = omega (arith, low, high, (λ (e : i ≡ suc (r.start + r.size)). n e)) in
          let z : Breaks ≡ Within = ap item_place (sym at ∙ ap (item_at P f) same) ∙ is.within (i - suc r.start) less in cc

  keeps-running : KeepsNames P Q running
  keeps-running = record {
    heads = st.heads;
    start = λ f. (sym (st.start f), λ r is low high. omega (arith, low));
    same = λ f i j reached points regular. subst (λ n. tree_at P f i ≡ tree_at Q f n) (sym points.0) (untouched f i (reached-inside f i reached) (outside-untouched f i points.1));
    next = λ f i j a reached points regular at goes. (
      (let n = st.next f i in let z = st.alone f i a at goes in let p = points.0 in omega (arith, p, n, z)),
      λ r is low high. ⊎_elim (λ e. regular r is e) (λ n. points.1 r is (omega (arith, low, n)) (omega (arith, high))) (cases_eq r.start i),
    );
    labels = λ f i j name reached at bt. (
      label_once Q f j (st.old f i) name bt (label-stands f i name (reached-inside f i reached) at),
      (let l = label_at P f i name at in label-outside f i l.number l.at),
    );
    reads = λ f i j a x reached points regular at h. tt;
    flows = λ f i w x reached h e m n. tt;
    back = λ f w x walk is h e s sites same m. tt;
    known = knows_nothing P Q running (λ f i a v h. h);
  }

  pub running-preserves : Preserves M P Q
  running-preserves = names_preserve P Q running accepted keeps-running
