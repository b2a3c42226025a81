-- What is known of each paired guard: its run, the items that are kept before it, and the passage to its branch.
use Rattle.std.proofs.Common.{◌≡◌, ◌⊎◌, ℕ, zero, suc, ◌+◌, ◌-◌, ◌<◌, ◌≤◌, true, false, List, [], ◌∷◌, ◌++◌, length, Option, Some, None, refl, sym, ap, subst, ◌∙◌, inl, inr, ⊎_elim, arith}
use Rattle.std.specs.Prelude.{slice_get}
use Rattle.std.proofs.lemmas.List.{length-append}
use Rattle.bril_tree.specs.declared.numbered.Instr.{Instr}
use Rattle.bril_tree.specs.declared.numbered.Instr.TheVariants.{Label, Const, Act}
use Rattle.bril_tree.specs.declared.numbered_function.Func.{Func}
use Rattle.bril_tree.specs.declared.program.Prog.{Prog}
use Rattle.bril_tree.specs.Accepted.{IsAccepted}
use Rattle.bril_tree.specs.Edge.{onward}
use Rattle.bril_tree.specs.Membership.{In}
use Rattle.bril_tree.specs.Step.{code_of, item_at, point_of}
use Rattle.bril_tree.specs.FunctionForm.{targets_of}
use Rattle.bril_tree.specs.Numbered.{named}
use Rattle.bril_tree.proofs.Members.{in_append_cases}
use Rattle.bril_names.specs.Range.{AreBelow}
use Rattle.pass_edit_laws.proofs.lemmas.names.Points.{found, label_found}
use Rattle.pass_edit_laws.proofs.lemmas.names.Standing.{IsLabelAt, label_at}
use Rattle.pass_edit_laws.proofs.lemmas.steps.Attempts.{is_attempted}
use Rattle.side_laws.specs.Paired.{item_place, Within, is_nop, Run, IsRun, Going, Inverts, Pairs, Keeps, Ends, Pair, Pairing, BeginsWith, goes, stands, pairs_by, PairsFrom, PairsOf, PairsWithin, ArePairs, labels_of_item, Walker, settled, IsKept}
use Rattle.side_laws.specs.Passage.{Passage, PairFacts, IsPaired}
use Rattle.side_laws.proofs.lemmas.pairs.Passages.{settles, glide-one, glide-turn, passage-glide, passage-snoc, stay}
use Rattle.side_laws.proofs.lemmas.refinement.Tracking.{within-attempted}

module _ (P : Prog) (accepted : IsAccepted P) (k : ℕ) (r : Run) (is : IsRun (code_of P k) r) (l : ℕ) (labelled : slice_get (code_of P k) (point_of r.bail (code_of P k)) ≡ Some (Label l)) where
  abbrev code : List Instr
  code = code_of P k

  abbrev bail : ℕ
  bail = point_of r.bail (code_of P k)

  abbrev Computes : List ℕ → Type 0
  Computes kept = (j : ℕ) → In j kept → (a : Instr) × (slice_get code j ≡ Some a) × (is_attempted a ≡ true)

  abbrev IsFine : Pair → Type 0
  IsFine = PairFacts code r

  -- what holds of the items before item i
  record Before (w : Walker) (kept : List ℕ) (room : ℕ) : Type 0 where
    computes : Computes kept
    few : length kept + room ≤ r.size
    passage : Passage (code_of P k) bail kept w.point

  abbrev AreFine : Pairing → ℕ → Type 0
  AreFine X room = (i : ℕ) (w : Walker) (kept : List ℕ) (pairs : List Pair) → i + room ≡ suc (r.start + r.size) → suc r.start ≤ i → Before w kept room → X i w kept pairs → (pair : Pair) → In pair pairs → IsFine pair

  nothing : (pairs : List Pair) (pair : Pair) → pairs ≡ [] → In pair pairs → IsFine pair
  nothing [] pair e i = absurd i
  nothing (p ∷ pairs) pair e i = absurd cc

  begins : (X : List Pair → Type 0) (first : Pair) (pairs : List Pair) → IsFine first → ((rest : List Pair) → X rest → (pair : Pair) → In pair rest → IsFine pair) → BeginsWith first X pairs → (pair : Pair) → In pair pairs → IsFine pair
  begins X first [] fine rest h pair among = absurd among
  begins X first (p ∷ pairs) fine rest h pair (inl e) = subst IsFine (sym (e ∙ h.0)) fine
  begins X first (p ∷ pairs) fine rest h pair (inr i) = rest pairs h.1 pair i

  attempted : (i room : ℕ) → i + suc room ≡ suc (r.start + r.size) → suc r.start ≤ i → is_nop (slice_get code i) ≡ false → (a : ℕ) (h : IsKept code i a) → is_attempted h.item ≡ true
  attempted i room er low nn a h =
      let n : ℕ = i - suc r.start in
      let here : i ≡ suc (r.start + n) = omega arith in
      let below : n < r.size = omega arith in
      let within : item_place (Some h.item) ≡ Within = ap item_place (sym h.at ∙ ap (slice_get code) here) ∙ is.within n below in
      within-attempted h.item within h.no_guard (ap is_nop (sym h.at) ∙ nn)

  kept_more : (i : ℕ) (kept : List ℕ) (a : ℕ) (h : IsKept code i a) → is_attempted h.item ≡ true → Computes kept → Computes (kept ++ i ∷ [])
  kept_more i kept a h t computes j among = by (in_append_cases j kept (i ∷ []) among)
    where
      by : In j kept ⊎ In j (i ∷ []) → (b : Instr) × (slice_get code j ≡ Some b) × (is_attempted b ≡ true)
      by (inl m) = computes j m
      by (inr (inl e)) = (h.item, ap (slice_get code) e ∙ h.at, t)
      by (inr (inr f)) = absurd f

  -- where the walk stands once it has passed over what it passes over
  abbrev there : Walker → ℕ
  there w = (settled code w.left w.point).point

  on : (w : Walker) (kept : List ℕ) (room : ℕ) → Before w kept room → Passage code bail kept (there w)
  on w kept room b = passage-glide code bail kept w.point (there w) b.passage (settles P accepted k w.left w.point)

  -- two items further
  abbrev Skips : Pairing → ℕ → Type 0
  Skips Y room = (i left : ℕ) (w : Walker) (c on' off : ℕ) (kept : List ℕ) (pairs : List Pair) → i + suc room ≡ suc (r.start + r.size) → suc r.start ≤ i → Before w kept (suc room) → (h : Going code i (there w)) → (pair : Pair) → In pair pairs
      → goes code r.bail (λ i w kept pairs. ⊥) Y left kept pairs h → IsFine pair

  module _ (X : Pairing) (room : ℕ) (rest : AreFine X room) where
    -- by how the item goes with the walk's; `skipped` has what is said two items further
    met : (Y : Pairing) → ((i left c on' off : ℕ) (w : Walker) (kept : List ℕ) (pairs : List Pair) → i + suc room ≡ suc (r.start + r.size) → suc r.start ≤ i → Before w kept (suc room) → Passage code bail kept (point_of off code) → IsFine (record { guard = suc i; bail = r.bail; kept = kept; other = on' }) ⊎ (room ≡ 0)
        → BeginsWith (record { guard = suc i; bail = r.bail; kept = kept; other = on' }) (Y (suc (suc i)) (record { left = left; point = point_of off code }) kept) pairs → (pair : Pair) → In pair pairs → IsFine pair)
        → (i : ℕ) (w : Walker) (kept : List ℕ) (pairs : List Pair) → i + suc room ≡ suc (r.start + r.size) → suc r.start ≤ i → Before w kept (suc room) → pairs_by code r.bail X Y i w kept pairs → (pair : Pair) → In pair pairs → IsFine pair
    met Y skip i w kept pairs er low b h pair among = by h
      where
        few : length kept + suc room ≤ r.size
        few = b.few

        standing : (left : ℕ) → is_nop (slice_get code i) ≡ false → stands code r.bail X Y i left (there w) kept pairs → IsFine pair
        standing zero nn e = nothing pairs pair e among
        standing (suc left) nn (Inverts c on' off g, x') =
            skip i left c on' off w kept pairs er low b (passage-glide code bail kept (there w) (point_of off code) (on w kept (suc room) b) (glide-turn code (there w) c on' off off g.turns (inr (inl refl))))
            (first (cases room refl)) x' pair among
          where
            cases : (n : ℕ) → room ≡ n → (room ≡ 0) ⊎ (0 < room)
            cases zero e = inl e
            cases (suc n) e = inr (omega (arith, e))

            first : (room ≡ 0) ⊎ (0 < room) → IsFine (record { guard = suc i; bail = r.bail; kept = kept; other = on' }) ⊎ (room ≡ 0)
            first (inl e) = inr e
            first (inr m) = inl (record {
              bail = refl;
              low = omega (arith, low);
              high = omega (arith, er, m);
              tested = g.n;
              guards = g.guards;
              few = omega (arith, few);
              computes = b.computes;
              turning = record { stands = there w; passage = on w kept (suc room) b; c = c; on = on'; off = off; turns = g.turns; other = inl refl };
            })
        standing (suc left) nn (Pairs c on' off n g, x') =
            begins (X (suc i) (record { left = left; point = point_of on' code }) kept) (record { guard = i; bail = r.bail; kept = kept; other = off }) pairs
            (record {
              bail = refl;
              low = low;
              high = omega (arith, er);
              tested = c;
              guards = g.guards;
              few = omega (arith, few);
              computes = b.computes;
              turning = record { stands = there w; passage = on w kept (suc room) b; c = c; on = on'; off = off; turns = g.turns; other = inr (inl refl) };
            })
            (λ ps x2. rest (suc i) (record { left = left; point = point_of on' code }) kept ps (omega (arith, er)) (omega (arith, low))
            (record { computes = b.computes; few = omega (arith, few); passage = passage-glide code bail kept (there w) (point_of on' code) (on w kept (suc room) b) (glide-turn code (there w) c on' off on' g.turns (inl refl)) }) x2) x' pair among
        standing (suc left) nn (Keeps n m g, x') =
            let t = attempted i room er low nn (there w) g in
            let more = length-append kept (i ∷ []) in
            rest (suc i) (record { left = left; point = suc (there w) }) (kept ++ i ∷ []) pairs (omega (arith, er)) (omega (arith, low))
            (record { computes = kept_more i kept (there w) g t b.computes; few = omega (arith, few, more); passage = passage-snoc code bail kept (there w) i (there w) (on w kept (suc room) b) (stay code (there w)) g t }) x' pair among
        standing (suc left) nn (Ends n m g, x') = nothing pairs pair x' among

        by : pairs_by code r.bail X Y i w kept pairs → IsFine pair
        by (inl h) = rest (suc i) w kept pairs (omega (arith, er)) (omega (arith, low)) (record { computes = b.computes; few = omega (arith, few); passage = b.passage }) h.1 pair among
        by (inr h) = standing (settled code w.left w.point).left h.0 h.1

  fine_from : (room : ℕ) → AreFine (PairsFrom code r.bail room) room
  fine_from zero i w kept pairs er low b h pair among = nothing pairs pair h among
  fine_from (suc zero) i w kept pairs er low b h pair among =
      met (PairsFrom code r.bail zero) 0 (fine_from zero) (λ i w kept pairs. ⊥)
      (λ i left c on' off w kept pairs er low b p first x' pair among. absurd (past (record { guard = suc i; bail = r.bail; kept = kept; other = on' }) pairs x')) i w kept pairs er low b h pair among
    where
      past : (first : Pair) (pairs : List Pair) → BeginsWith first (λ ps. ⊥) pairs → ⊥
      past first [] x = x
      past first (q ∷ qs) x = x.1
  fine_from (suc (suc room)) i w kept pairs er low b h pair among =
      met (PairsFrom code r.bail (suc room)) (suc room) (fine_from (suc room)) (PairsFrom code r.bail room)
      (λ i left c on' off w kept pairs er low b p first x' pair among.
      begins (PairsFrom code r.bail room (suc (suc i)) (record { left = left; point = point_of off code }) kept) (record { guard = suc i; bail = r.bail; kept = kept; other = on' }) pairs
      (⊎_elim (λ f. f) (λ e. absurd (omega (arith, e))) first)
      (λ ps x2. fine_from room (suc (suc i)) (record { left = left; point = point_of off code }) kept ps (omega (arith, er)) (omega (arith, low)) (record { computes = b.computes; few = (let g = b.few in omega (arith, g)); passage = p }) x2) x' pair among)
      i w kept pairs er low b h pair among

  -- each pair of a run
  pub pairs_fine : (pairs : List Pair) → PairsOf code r pairs → (pair : Pair) → In pair pairs → IsFine pair
  pairs_fine pairs h pair among =
      fine_from r.size (suc r.start) (record { left = 1023; point = suc (point_of r.bail code) }) [] pairs (omega arith) (omega arith)
      (record { computes = λ j f. absurd f; few = omega arith; passage = glide-one code bail (Label l) (onward bail) labelled refl refl (inl refl) refl refl }) h pair among

-- ---- the label that the guards of a run name

module _ (P : Prog) (accepted : IsAccepted P) (k : ℕ) where
  pub bail_within : (r : Run) → IsRun (code_of P k) r → (F : Func) × (slice_get P.funcs k ≡ Some F) × (r.bail < length F.labels)
  bail_within r is = by (item_at P k at_guard) refl
    where
      at_guard : ℕ
      at_guard = suc (r.start + is.guard)

      names : labels_of_item (item_at P k at_guard) ≡ r.bail ∷ []
      names = is.guards is.guard is.guard_in is.guard_is

      targets : (a : Instr) → item_at P k at_guard ≡ Some a → targets_of a ≡ r.bail ∷ []
      targets (Label l) at = absurd (let h : [] ≡ r.bail ∷ [] = ap labels_of_item (sym at) ∙ names in cc)
      targets (Const d t v) at = absurd (let h : [] ≡ r.bail ∷ [] = ap labels_of_item (sym at) ∙ names in cc)
      targets (Act d t o args fns ls) at = ap labels_of_item (sym at) ∙ names

      by : (o : Option Instr) → item_at P k at_guard ≡ o → (F : Func) × (slice_get P.funcs k ≡ Some F) × (r.bail < length F.labels)
      by None at = absurd (let h : [] ≡ r.bail ∷ [] = ap labels_of_item (sym at) ∙ names in cc)
      by (Some a) at = let h = found P k at_guard a at in (h.function, h.there, (subst (AreBelow (length h.function.labels)) (targets a at) h.range.targets).0)

  pub run_label : (r : Run) → IsRun (code_of P k) r → IsLabelAt P k (point_of r.bail (code_of P k))
  run_label r is = let b = bail_within r is in label_at P k (point_of r.bail (code_of P k)) (named b.0.labels r.bail) (label_found P k b.0 r.bail b.1 b.2)

  -- ---- each pair of a function is one of a run

  run_paired : (r : Run) (is : IsRun (code_of P k) r) (pairs : List Pair) → PairsOf (code_of P k) r pairs → (pair : Pair) → In pair pairs → IsPaired (code_of P k) pair
  run_paired r is pairs h pair among = let l = run_label r is in record { run = r; is = is; fine = pairs_fine P accepted k r is l.number l.at pairs h pair among }

  within_paired : (count j : ℕ) (pairs : List Pair) → PairsWithin (code_of P k) count j pairs → (pair : Pair) → In pair pairs → IsPaired (code_of P k) pair
  within_paired zero j [] h pair among = absurd among
  within_paired zero j (p ∷ pairs) h pair among = absurd cc
  within_paired (suc count) j pairs (inl h) pair among = ⊎_elim (λ m. run_paired h.0 h.2 h.3 h.4 pair m) (λ m. within_paired count (suc j) h.5 h.6 pair m) (in_append_cases pair h.3 h.5 (subst (In pair) h.7 among))
  within_paired (suc count) j pairs (inr h) pair among = within_paired count (suc j) pairs h.1 pair among

  pub paired : (pairs : List Pair) → ArePairs (code_of P k) pairs → (pair : Pair) → In pair pairs → IsPaired (code_of P k) pair
  paired pairs h pair among = within_paired (length (code_of P k)) 0 pairs h pair among
