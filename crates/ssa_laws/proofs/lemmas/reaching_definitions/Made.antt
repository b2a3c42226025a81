-- Tables that are computed item by item are consistent, and tell of each location that is live.
use Rattle.std.proofs.Common.{◌≡◌, ◌⊎◌, ℕ, zero, suc, ◌+◌, ◌<◌, Bool, true, false, List, length, Option, Some, None, refl, sym, ap, subst, ◌∙◌, inl, inr, ⊎_elim, cond, arith}
use Rattle.std.specs.Prelude.{slice_get}
use Rattle.std.proofs.lemmas.Option.{slice_get_within}
use Rattle.bril_tree.specs.declared.numbered.Instr.{Instr}
use Rattle.bril_tree.specs.declared.numbered.Instr.TheVariants.{Label, Const, Act}
use Rattle.bril_tree.specs.Assigned.{assigns_at}
use Rattle.bril_tree.specs.Edge.{Branch, branches_at, branches_from, onward}
use Rattle.bril_tree.specs.Live.{IsLive, Here, Later}
use Rattle.bril_tree.specs.Operand.{Location, reads_of}
use Rattle.bril_tree.specs.Walk.{IsWalk, IsReached, end_of}
use Rattle.bril_tree.specs.Membership.{In}
use Rattle.bril_tree.proofs.Members.{contains_in, in_contains}
use Rattle.bril_tree.proofs.Assignments.{in_or_not}
use Rattle.ssa_laws.specs.inserted_copies.Inserted.{is_copy, destination, source}
use Rattle.ssa_laws.specs.reaching_definitions.Tables.{Tables, is_dest, passed, else_passed, behind, Defines, Writes, Gets, AreConsistent}
use Rattle.ssa_laws.proofs.lemmas.reaching_definitions.Entering.{entering}
use Rattle.ssa_laws.specs.reaching_definitions.Told.{LeadToLabels, argument, entered, passed_by, written, into_at, table_of, AreWanted}
use Rattle.ssa_laws.proofs.lemmas.reaching_definitions.Items.{dest-in, dest-out, assigned-plain}
use Rattle.ssa_laws.proofs.lemmas.inserted_copies.Walks.{source-cases}

-- what is told where an item is entered was told before it
pub entered-same : (o : Option Instr) (x : Option ℕ) (y : ℕ) → entered o x ≡ Some y → x ≡ Some y
entered-same None x y e = e
entered-same (Some (Label l)) x y e = absurd cc
entered-same (Some (Const d ty v)) x y e = e
entered-same (Some (Act d ty o args fns ls)) x y e = e

module _ (code : List Instr) (args : ℕ) (gets : ℕ → Location → Option ℕ) (leads : LeadToLabels code) (wants : AreWanted code args gets) (IsArgument : ℕ → Type 0)
    (begins : (a : Location) (y : ℕ) → argument args a ≡ Some y → IsArgument y) (few : (y : ℕ) → IsArgument y → y < args) where
  abbrev n : Tables
  n = table_of code args gets

  -- ---- points that are no labels are entered from the point before

  pub no-label : (i y : ℕ) (a : Location) → n.into i a ≡ Some y → (l : ℕ) → slice_get code i ≡ Some (Label l) → ⊥
  no-label zero y a e l at = absurd (let h = sym (ap (λ o. entered o (argument args a)) at) ∙ e in cc)
  no-label (suc i) y a e l at = absurd (let h = sym (ap (λ o. entered o (else_passed (gets i a) (passed_by (slice_get code i) (written code args gets i) (into_at code args gets i) a))) at) ∙ e in cc)

  pub entered-is : (o : Option Instr) (x : Option ℕ) → ((l : ℕ) → o ≡ Some (Label l) → ⊥) → entered o x ≡ x
  entered-is None x h = refl
  entered-is (Some (Label l)) x h = absurd (h l refl)
  entered-is (Some (Const d ty v)) x h = refl
  entered-is (Some (Act d ty o args fns ls)) x h = refl

  pub is-label : (o : Option Instr) → ((l : ℕ) × (o ≡ Some (Label l))) ⊎ ((l : ℕ) → o ≡ Some (Label l) → ⊥)
  is-label None = inr (λ l e. cc)
  is-label (Some (Label l)) = inl (l, refl)
  is-label (Some (Const d ty v)) = inr (λ l e. cc)
  is-label (Some (Act d ty o args fns ls)) = inr (λ l e. cc)

  pub into-next : (i y : ℕ) (a : Location) → n.into (suc i) a ≡ Some y → behind code n i a ≡ Some y
  into-next i y a e = entered-same (slice_get code (suc i)) (behind code n i a) y e

  -- ---- consistency

  pub tabled-consistent : AreConsistent code n IsArgument
  tabled-consistent = record {
    start = λ a y e. begins a y (entered-same (slice_get code 0) (argument args a) y e);
    next = λ walk w a y is among ab e. next walk w a y is e (leads (end_of walk) w among);
    back = λ walk w a y is among ab s sites open_sites e. back walk w a y e ab (leads (end_of walk) w among);
    once = once;
    apart = apart;
    single = λ i y a b reached g h. (wants.once i i y a b g h).1;
    plain = λ i y a reached g. wants.label i y a g;
  }
    where
      next : (walk : List Branch) (w : Branch) (a : Location) (y : ℕ) → IsWalk code walk → n.into w.to a ≡ Some y → (w ≡ onward (end_of walk)) ⊎ ((l : ℕ) × (slice_get code w.to ≡ Some (Label l))) → behind code n (end_of walk) a ≡ Some y
      next walk w a y is e (inl o) = into-next (end_of walk) y a (ap (λ (b : Branch). n.into b.to a) (sym o) ∙ e)
      next walk w a y is e (inr l) = absurd (no-label w.to y a e l.0 l.1)

      back : (walk : List Branch) (w : Branch) (a : Location) (y : ℕ) → n.into w.to a ≡ Some y → w.aborts ≡ true → (w ≡ onward (end_of walk)) ⊎ ((l : ℕ) × (slice_get code w.to ≡ Some (Label l))) → {X : Type 0} → X
      back walk w a y e ab (inl o) = absurd (let x : false ≡ true = sym (ap (λ (b : Branch). b.aborts) o) ∙ ab in cc)
      back walk w a y e ab (inr l) = absurd (no-label w.to y a e l.0 l.1)

      inside : (o : Option ℕ) → ℕ
      inside o = 0

      defined : (i y : ℕ) → IsReached code i → Defines code n i y → ((args + i ≡ y) × (i < length code)) ⊎ ((a : Location) × (gets i a ≡ Some y))
      defined i y reached (Writes x copy d e) = inl (e, there (slice_get code i) refl)
        where
          there : (o : Option Instr) → slice_get code i ≡ o → i < length code
          there None at = absurd (let h = sym (ap destination at) ∙ d in cc)
          there (Some q) at = slice_get_within code i q at
      defined i y reached (Gets a g) = inr (a, g)

      once : (i j y : ℕ) → IsReached code i → IsReached code j → Defines code n i y → Defines code n j y → i ≡ j
      once i j y ri rj h k = by (defined i y ri h) (defined j y rj k)
        where
          by : ((args + i ≡ y) × (i < length code)) ⊎ ((a : Location) × (gets i a ≡ Some y)) → ((args + j ≡ y) × (j < length code)) ⊎ ((a : Location) × (gets j a ≡ Some y)) → i ≡ j
          by (inl e) (inl f) = let p = e.0 in let q = f.0 in omega (arith, p, q)
          by (inl e) (inr g) = absurd (let p = e.0 in let q = e.1 in let r = wants.above j y g.0 g.1 in omega (arith, p, q, r))
          by (inr g) (inl e) = absurd (let p = e.0 in let q = e.1 in let r = wants.above i y g.0 g.1 in omega (arith, p, q, r))
          by (inr g) (inr h) = (wants.once i j y g.0 h.0 g.1 h.1).0

      apart : (i y : ℕ) → IsReached code i → Defines code n i y → IsArgument y → ⊥
      apart i y reached h arg = by (defined i y reached h)
        where
          by : ((args + i ≡ y) × (i < length code)) ⊎ ((a : Location) × (gets i a ≡ Some y)) → ⊥
          by (inl e) = let p = e.0 in let q = few y arg in omega (arith, p, q)
          by (inr g) = let r = wants.above i y g.0 g.1 in let q = few y arg in omega (arith, r, q)

  -- ---- what is live is told

  module _ (argued : (a : Location) → IsLive code a 0 → (y : ℕ) × (argument args a ≡ Some y)) where
    abbrev Told : ℕ → Location → Type 0
    Told i a = (y : ℕ) × ((n.into i a ≡ Some y) ⊎ (gets i a ≡ Some y))

    -- behind an item from which an edge leaves to where the location is live
    behind-told : (i : ℕ) → ((a : Location) → IsLive code a i → Told i a) → (w : Branch) → In w (branches_at code i) → w.aborts ≡ false → (a : Location) → IsLive code a w.to → (y : ℕ) × (behind code n i a ≡ Some y)
    behind-told i before w among ab a live = by (slice_get code i) refl (gets i a) refl (in_or_not a (assigns_at (slice_get code i)))
      where
        live-here : (In a (assigns_at (slice_get code i)) → ⊥) → IsLive code a i
        live-here h = Later i w (inl (contains_in w (branches_at code i) among, ab)) (λ c. h (in_contains a (assigns_at (slice_get code i)) c)) live

        there : (In w (branches_from code i None)) → ⊥
        there h = h

        by : (o : Option Instr) → slice_get code i ≡ o → (g : Option ℕ) → gets i a ≡ g → In a (assigns_at (slice_get code i)) ⊎ (In a (assigns_at (slice_get code i)) → ⊥) → (y : ℕ) × (behind code n i a ≡ Some y)
        by o at (Some y) g h = (y, ap (λ x. else_passed x (passed n (slice_get code i) i a)) g)
        by None at None g h = absurd (subst (λ o. In w (branches_from code i o)) at among)
        by (Some q) at None g h = by_copy (is_copy (Some q)) refl h
          where
            behind-is : behind code n i a ≡ passed n (Some q) i a
            behind-is = ap (λ x. else_passed x (passed n (slice_get code i) i a)) g ∙ ap (λ o. passed n o i a) at

            not-here : (b : Location) → (is_copy (Some q) ≡ true) → (y : ℕ) → gets i b ≡ Some y → ⊥
            not-here b copy y e = let l = wants.label i y b e in let x : false ≡ true = ap is_copy (sym l.1 ∙ at) ∙ copy in cc

            told-plain : (b : Location) → Told i b → ((y : ℕ) → gets i b ≡ Some y → ⊥) → (y : ℕ) × (n.into i b ≡ Some y)
            told-plain b (y, inl e) none = (y, e)
            told-plain b (y, inr e) none = absurd (none y e)

            by_copy : (c : Bool) → is_copy (Some q) ≡ c → In a (assigns_at (slice_get code i)) ⊎ (In a (assigns_at (slice_get code i)) → ⊥) → (y : ℕ) × (behind code n i a ≡ Some y)
            by_copy true c h =
                let live-source : IsLive code (source (Some q) a) i = ⊎_elim
                (λ r. Here i q at (contains_in (source (Some q) a) (reads_of q) r))
                (λ s. subst (λ b. IsLive code b i) (sym s.0) (live-here (λ k. s.1 (subst (λ o. In a (assigns_at o)) at k))))
                (source-cases q a c) in
                let t = told-plain (source (Some q) a) (before (source (Some q) a) live-source) (λ y e. not-here (source (Some q) a) c y e) in
                (t.0, behind-is ∙ ap (λ d. cond d (n.into i (source (Some q) a)) (cond (is_dest (destination (Some q)) a) (Some (n.writes i)) (n.into i a))) c ∙ t.1)
            by_copy false c (inl h) =
                let d : is_dest (destination (Some q)) a ≡ true = by_dest (is_dest (destination (Some q)) a) refl in
                (n.writes i, behind-is ∙ ap (λ d. cond d (n.into i (source (Some q) a)) (cond (is_dest (destination (Some q)) a) (Some (n.writes i)) (n.into i a))) c ∙ ap (λ d. cond d (Some (n.writes i)) (n.into i a)) d)
              where
                by_dest : (b : Bool) → is_dest (destination (Some q)) a ≡ b → is_dest (destination (Some q)) a ≡ true
                by_dest true e = e
                by_dest false e = absurd (dest-out (destination (Some q)) a e (subst (In a) (assigned-plain (Some q) c) (subst (λ o. In a (assigns_at o)) at h)))
            by_copy false c (inr h) =
                let d : is_dest (destination (Some q)) a ≡ false = by_dest (is_dest (destination (Some q)) a) refl in
                let t = told-plain a (before a (live-here h)) (λ y e. absurd (let x = sym g ∙ e in cc)) in
                (t.0, behind-is ∙ ap (λ d. cond d (n.into i (source (Some q) a)) (cond (is_dest (destination (Some q)) a) (Some (n.writes i)) (n.into i a))) c ∙ ap (λ d. cond d (Some (n.writes i)) (n.into i a)) d ∙ t.1)
              where
                by_dest : (b : Bool) → is_dest (destination (Some q)) a ≡ b → is_dest (destination (Some q)) a ≡ false
                by_dest false e = e
                by_dest true e = absurd (h (subst (λ o. In a (assigns_at o)) (sym at) (subst (In a) (sym (assigned-plain (Some q) c)) (dest-in (destination (Some q)) a e))))

    pub live-told : (i : ℕ) (a : Location) → IsReached code i → IsLive code a i → Told i a
    live-told zero a reached live = by (is-label (slice_get code 0))
      where
        by : ((l : ℕ) × (slice_get code 0 ≡ Some (Label l))) ⊎ ((l : ℕ) → slice_get code 0 ≡ Some (Label l) → ⊥) → Told 0 a
        by (inl l) = let w = wants.wanted 0 l.0 a l.1 reached live in (w.0, inr w.1)
        by (inr none) = let y = argued a live in (y.0, inl (entered-is (slice_get code 0) (argument args a) none ∙ y.1))
    live-told (suc i) a reached live = by (is-label (slice_get code (suc i))) (λ b r l. live-told i b r l)
      where
        by : ((l : ℕ) × (slice_get code (suc i) ≡ Some (Label l))) ⊎ ((l : ℕ) → slice_get code (suc i) ≡ Some (Label l) → ⊥) → ((b : Location) → IsReached code i → IsLive code b i → Told i b) → Told (suc i) a
        by (inl l) before = let w = wants.wanted (suc i) l.0 a l.1 reached live in (w.0, inr w.1)
        by (inr none) before =
            let e = entering code leads i none reached in
            let y = behind-told i (λ b l. before b e.0 l) (onward i) e.1 refl a live in
            (y.0, inl (entered-is (slice_get code (suc i)) (behind code n i a) none ∙ y.1))

    -- what an edge brings to a label is told where it leaves
    pub edge-told : (walk : List Branch) (w : Branch) (a : Location) → IsWalk code walk → In w (branches_at code (end_of walk)) → w.aborts ≡ false → IsLive code a w.to → (y : ℕ) × (behind code n (end_of walk) a ≡ Some y)
    edge-told walk w a is among ab live = behind-told (end_of walk) (λ b l. live-told (end_of walk) b (record { walk = walk; is = is; ends = refl }) l) w among ab a live
