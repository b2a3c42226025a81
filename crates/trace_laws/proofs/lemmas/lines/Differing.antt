-- The labels of a function with laid traces differ.
use Rattle.bril_tree.proofs.Members.{in_append_cases}
use Rattle.pass_edit_laws.proofs.lemmas.labels.Listed.{labels-get}
use Rattle.trace_laws.proofs.lemmas.lines.Layings.{parts}
use Rattle.bril_tree.specs.declared.function_tree.Item.TheVariants as item
use Rattle.std.proofs.Common.{◌≡◌, ℕ, zero, suc, ◌+◌, ◌<◌, ◌≤◌, Bool, true, false, List, [], ◌∷◌, ◌++◌, length, Option, Some, None, refl, sym, ap, subst, ◌∙◌, ⊎_elim, cond, arith}
use Rattle.std.specs.Prelude.{slice_get}
use Rattle.std.proofs.lemmas.List.Elements.{filter_map-append}
use Rattle.std.proofs.lemmas.Option.{same_Some, slice_get_within}
use Rattle.bril_tree.specs.declared.function_tree.Item.{Item}
use Rattle.bril_tree.specs.declared.program.Prog.{Prog}
use Rattle.bril_tree.specs.declared.types.Ty.{Ty}
use Rattle.bril_tree.specs.Numbered.{tree_at}
use Rattle.bril_tree.specs.Step.{code_of, item_at}
use Rattle.bril_names.specs.Faults.{Differ, label_of, labels_of}
use Rattle.trace_paths.specs.Path.{path_of}
use Rattle.trace_laws.specs.lines.Lines.{leg_lines, end_lines}
use Rattle.pass_edit_laws.specs.plan.Spliced.{spliced}
use Rattle.trace_laws.specs.lines.Traced.{Trace, Laying, AreLaid, stops_before, stop_lines, trace_at, lines_behind}
use Rattle.trace_paths.specs.Fits.{Fit, fit_path}
use Rattle.trace_laws.specs.lines.Names.{is_label_item, Bases, AreBases, AreNames}
use Rattle.pass_edit_laws.specs.labels.Fresh.{IsFresh, labels_in}
use Rattle.trace_laws.proofs.lemmas.lines.Layings.{located, StopLine, stop_line}
use Rattle.pass_edit_laws.proofs.lemmas.labels.Fresh.{fresh-once}
use Rattle.pass_edit_laws.proofs.lemmas.labels.Spliced.{Apart, apart-append, differ-apart, empty-apart, spliced-apart}
use Rattle.trace_laws.proofs.lemmas.lines.Quiet.{legs-ok, legs-quiet}
use Rattle.bril_tree.specs.Membership.{In}
use Rattle.pass_edit_laws.proofs.lemmas.names.Points.{label_once}
use Rattle.bril_tree.proofs.Elements.{in_get, get_in}

-- the names of the entry at a place
names-at : (bases : Bases) (P : Prog) (K : ℕ) (fits : List Fit) (laid : List Laying) → AreLaid bases P K fits laid → (n : ℕ) (y : Laying) → slice_get laid n ≡ Some y → AreNames bases P (K + n) y.fit y.names
names-at bases P K [] laid h n y e = absurd (let z : None ≡ Some y = ap (λ l. slice_get l n) (sym h) ∙ e in cc)
names-at bases P K (x ∷ fits) [] h n y e = absurd h
names-at bases P K (x ∷ fits) (z ∷ laid) h zero y e =
    let s : z ≡ y = same_Some z y e in
    let k : K ≡ K + zero = omega arith in
    subst (λ m. AreNames bases P m y.fit y.names) k (subst (λ (w : Laying). AreNames bases P K w.fit w.names) s (subst (λ w. AreNames bases P K w z.names) (sym h.0) h.1))
names-at bases P K (x ∷ fits) (z ∷ laid) h (suc n) y e = let k : suc K + n ≡ K + suc n = omega arith in subst (λ m. AreNames bases P m y.fit y.names) k (names-at bases P (suc K) fits laid h.2 n y e)

module _ (bases : Bases) (ok : AreBases bases) (P : Prog) (bool : Ty) (f : ℕ)
    -- a label of P is among its function's labels
    (known : (i : ℕ) (a : List ℕ) → tree_at P f i ≡ Some (item.Label a) → In a (labels_in P f)) where
  -- the labels before one item differ
  stop-labels : (K : ℕ) (fits : List Fit) (laid : List Laying) → AreLaid bases P K fits laid → K + length laid ≤ 65 → (i : ℕ) → Apart (labels_of (stop_lines P laid f i))
  stop-labels K fits [] h few i = tt
  stop-labels K [] (x ∷ laid) h few i = absurd (let z : x ∷ laid ≡ [] = h in cc)
  stop-labels K (w ∷ fits) (x ∷ laid) h few i = by (stops_before P x f i) refl (stop-labels (suc K) fits laid h.2 (omega arith) i)
    where
      by : (b : Bool) → stops_before P x f i ≡ b → Apart (labels_of (stop_lines P laid f i)) → Apart (labels_of (cond b (item.Label x.names.stop ∷ stop_lines P laid f i) (stop_lines P laid f i)))
      by false e rest = rest
      by true e rest = (fresh, rest)
        where
          line : StopLine P (x ∷ laid) f i 0
          line = stop_line P (x ∷ laid) f i 0 (subst (λ b. 0 < length (cond b (item.Label x.names.stop ∷ stop_lines P laid f i) (stop_lines P laid f i))) (sym e) (omega arith))

          own-stop : (fit_path P x.fit).stop ≡ i
          own-stop = (parts P x f i e).1

          fresh : In x.names.stop (labels_of (stop_lines P laid f i)) → ⊥
          fresh j =
              let k = labels-get (stop_lines P laid f i) x.names.stop j in
              let s = stop_line P laid f i k.0 (slice_get_within (stop_lines P laid f i) k.0 (item.Label x.names.stop) k.1) in
              let n = in_get s.x laid s.among in
              let same : x.names.stop ≡ s.x.names.stop = (let z : item.Label x.names.stop ≡ item.Label s.x.names.stop = same_Some _ _ (sym k.1 ∙ s.is) in cc) in
              let mine = names-at bases P K (w ∷ fits) (x ∷ laid) h 0 x refl in
              let theirs = names-at bases P (suc K) fits laid h.2 n.0 s.x n.1 in
              let p = parts P x f i e in
              let fm = mine.stop (ap (λ z. is_label_item (item_at P z (fit_path P x.fit).stop)) p.0 ∙ ap (λ z. is_label_item (item_at P f z)) p.1 ∙ p.2) in
              let ft = theirs.stop (ap (λ z. is_label_item (item_at P z (fit_path P s.x.fit).stop)) s.function ∙ ap (λ z. is_label_item (item_at P f z)) s.stop ∙ s.no_label) in
              let b = fresh-once (labels_in P x.fit.function) (labels_in P s.x.fit.function) (bases.stop (K + 0)) (bases.stop (suc K + n.0)) x.names.stop s.x.names.stop fm ft (ok.stop_plain (K + 0)) (ok.stop_plain (suc K + n.0)) same in
              let less = slice_get_within laid n.0 s.x n.1 in
              let e' = ok.stop_once (K + 0) (suc K + n.0) (omega arith) (omega arith) b in
              omega arith

  module _ (fits : List Fit) (laid : List Laying) (are : AreLaid bases P 1 fits laid) (most : length laid ≤ 64) where
    data Owned (i : ℕ) (a : List ℕ) : Type 0 where
      OldLabel : tree_at P f i ≡ Some (item.Label a) → Owned i a
      StopLabel : (n : ℕ) (y : Laying) → slice_get laid n ≡ Some y → (fit_path P y.fit).stop ≡ i → IsFresh (labels_in P f) (bases.stop (1 + n)) y.names.stop → a ≡ y.names.stop → Owned i a
      BailLabel : (n : ℕ) (y : Laying) → slice_get laid n ≡ Some y → y.fit.point ≡ i → IsFresh (labels_in P f) (bases.bail (1 + n)) y.names.bail → a ≡ y.names.bail → Owned i a

    same-entry : (n m : ℕ) (y z : Laying) → slice_get laid n ≡ Some y → slice_get laid m ≡ Some z → 1 + n ≡ 1 + m → y ≡ z
    same-entry n m y z e d k = let s : n ≡ m = omega arith in same_Some y z (sym e ∙ ap (slice_get laid) s ∙ d)

    once : (i j : ℕ) (a : List ℕ) → Owned i a → Owned j a → i ≡ j
    once i j a (OldLabel e) (OldLabel d) = label_once P f i j a e d
    once i j a (OldLabel e) (StopLabel m z d s g q) = absurd (g.new (subst (λ b. In b (labels_in P f)) q (known i a e)))
    once i j a (OldLabel e) (BailLabel m z d s g q) = absurd (g.new (subst (λ b. In b (labels_in P f)) q (known i a e)))
    once i j a (StopLabel n y e t h p) (OldLabel d) = absurd (h.new (subst (λ b. In b (labels_in P f)) p (known j a d)))
    once i j a (StopLabel n y e t h p) (StopLabel m z d s g q) =
        let b = fresh-once (labels_in P f) (labels_in P f) (bases.stop (1 + n)) (bases.stop (1 + m)) y.names.stop z.names.stop h g (ok.stop_plain (1 + n)) (ok.stop_plain (1 + m)) (sym p ∙ q) in
        sym t ∙ ap (λ (w : Laying). (fit_path P w.fit).stop) (same-entry n m y z e d (ok.stop_once (1 + n) (1 + m) (let w = slice_get_within laid n y e in omega arith) (let w = slice_get_within laid m z d in omega arith) b)) ∙ s
    once i j a (StopLabel n y e t h p) (BailLabel m z d s g q) = absurd (ok.differ (1 + m) (1 + n) (fresh-once (labels_in P f) (labels_in P f) (bases.bail (1 + m)) (bases.stop (1 + n)) z.names.bail y.names.stop g h (ok.bail_plain (1 + m)) (ok.stop_plain (1 + n)) (sym q ∙ p)))
    once i j a (BailLabel n y e t h p) (OldLabel d) = absurd (h.new (subst (λ b. In b (labels_in P f)) p (known j a d)))
    once i j a (BailLabel n y e t h p) (StopLabel m z d s g q) = absurd (ok.differ (1 + n) (1 + m) (fresh-once (labels_in P f) (labels_in P f) (bases.bail (1 + n)) (bases.stop (1 + m)) y.names.bail z.names.stop h g (ok.bail_plain (1 + n)) (ok.stop_plain (1 + m)) (sym p ∙ q)))
    once i j a (BailLabel n y e t h p) (BailLabel m z d s g q) =
        let b = fresh-once (labels_in P f) (labels_in P f) (bases.bail (1 + n)) (bases.bail (1 + m)) y.names.bail z.names.bail h g (ok.bail_plain (1 + n)) (ok.bail_plain (1 + m)) (sym p ∙ q) in
        sym t ∙ ap (λ (w : Laying). w.fit.point) (same-entry n m y z e d (ok.bail_once (1 + n) (1 + m) (let w = slice_get_within laid n y e in omega arith) (let w = slice_get_within laid m z d in omega arith) b)) ∙ s

    abbrev before : ℕ → List Item
    before i = stop_lines P laid f i

    abbrev behind : ℕ → List Item
    behind i = lines_behind P bool f i (trace_at laid f i)

    record StopOwn (i : ℕ) (a : List ℕ) : Type 0 where
      n : ℕ
      y : Laying
      at : slice_get laid n ≡ Some y
      stop : (fit_path P y.fit).stop ≡ i
      fresh : IsFresh (labels_in P f) (bases.stop (1 + n)) y.names.stop
      is : a ≡ y.names.stop

    stop-own : (i : ℕ) (a : List ℕ) → In a (labels_of (before i)) → StopOwn i a
    stop-own i a among =
        let k = labels-get (stop_lines P laid f i) a among in
        let s = stop_line P laid f i k.0 (slice_get_within (stop_lines P laid f i) k.0 (item.Label a) k.1) in
        let n = in_get s.x laid s.among in
        let names = names-at bases P 1 fits laid are n.0 s.x n.1 in
        let none : is_label_item (item_at P s.x.fit.function (fit_path P s.x.fit).stop) ≡ false = ap (λ z. is_label_item (item_at P z (fit_path P s.x.fit).stop)) s.function ∙ ap (λ z. is_label_item (item_at P f z)) s.stop ∙ s.no_label in
        let same : a ≡ s.x.names.stop = (let z : item.Label a ≡ item.Label s.x.names.stop = same_Some _ _ (sym k.1 ∙ s.is) in cc) in
        record { n = n.0; y = s.x; at = n.1; stop = s.stop; fresh = subst (λ g. IsFresh (labels_in P g) (bases.stop (1 + n.0)) s.x.names.stop) s.function (names.stop none); is = same }

    record BailOwn (i : ℕ) (a : List ℕ) : Type 0 where
      n : ℕ
      y : Laying
      at : slice_get laid n ≡ Some y
      point : y.fit.point ≡ i
      fresh : IsFresh (labels_in P f) (bases.bail (1 + n)) y.names.bail
      is : a ≡ y.names.bail

    -- a laid item is no label
    no-labels : (i : ℕ) (t : Trace) (a : List ℕ) → In a (labels_of (leg_lines bool (tree_at P f) t.names 0 (path_of (code_of P f) i t.choices).legs)) → ⊥
    no-labels i t a among =
        let k = labels-get (leg_lines bool (tree_at P f) t.names 0 (path_of (code_of P f) i t.choices).legs) a among in
        legs-quiet P f bool t.names (item.Label a) 0 (path_of (code_of P f) i t.choices).legs (legs-ok (code_of P f) i 1023 256 t.choices (suc i))
        (get_in (leg_lines bool (tree_at P f) t.names 0 (path_of (code_of P f) i t.choices).legs) k.0 (item.Label a) k.1)

    cut : (i : ℕ) (t : Trace) → labels_of (lines_behind P bool f i (Some t)) ≡ labels_of (leg_lines bool (tree_at P f) t.names 0 (path_of (code_of P f) i t.choices).legs) ++ t.names.bail ∷ []
    cut i t = filter_map-append label_of (leg_lines bool (tree_at P f) t.names 0 (path_of (code_of P f) i t.choices).legs) (end_lines bool (tree_at P f) t.names)

    bail-own : (i : ℕ) (a : List ℕ) → In a (labels_of (behind i)) → BailOwn i a
    bail-own i a among = by (trace_at laid f i) refl among
      where
        by : (o : Option Trace) → trace_at laid f i ≡ o → In a (labels_of (lines_behind P bool f i o)) → BailOwn i a
        by None e among = absurd among
        by (Some t) e among =
            let l = located P laid f i t e in
            let n = in_get l.x laid l.among in
            let names = names-at bases P 1 fits laid are n.0 l.x n.1 in
            let is : a ≡ t.names.bail = ⊎_elim (λ j. absurd (no-labels i t a j)) (λ j. ⊎_elim (λ s. s) (λ z. absurd z) j) (in_append_cases a (labels_of (leg_lines bool (tree_at P f) t.names 0 (path_of (code_of P f) i t.choices).legs)) (t.names.bail ∷ []) (subst (In a) (cut i t) among)) in
            record { n = n.0; y = l.x; at = n.1; point = l.point; fresh = subst (λ g. IsFresh (labels_in P g) (bases.bail (1 + n.0)) l.x.names.bail) l.function names.bail; is = is ∙ ap (λ (z : Trace). z.names.bail) (sym l.is) }

    lasts : (i : ℕ) → Apart (labels_of (behind i))
    lasts i = by (trace_at laid f i)
      where
        by : (o : Option Trace) → Apart (labels_of (lines_behind P bool f i o))
        by None = tt
        by (Some t) =
            subst Apart (sym (cut i t))
            (apart-append (labels_of (leg_lines bool (tree_at P f) t.names 0 (path_of (code_of P f) i t.choices).legs)) (t.names.bail ∷ []) (empty-apart (labels_of (leg_lines bool (tree_at P f) t.names 0 (path_of (code_of P f) i t.choices).legs)) (no-labels i t)) ((λ z. z), tt)
            (λ a j k. no-labels i t a j))

    owns : (i : ℕ) (a : List ℕ) → tree_at P f i ≡ Some (item.Label a) → Owned i a × (In a (labels_of (before i)) → ⊥) × (In a (labels_of (behind i)) → ⊥)
    owns i a e = (
      OldLabel e,
      (λ j. let s = stop-own i a j in s.fresh.new (subst (λ b. In b (labels_in P f)) s.is (known i a e))),
      (λ j. let s = bail-own i a j in s.fresh.new (subst (λ b. In b (labels_in P f)) s.is (known i a e))),
    )

    -- the labels of the edited items differ
    pub laid-differ : (items : List Item) → ((i : ℕ) → tree_at P f i ≡ slice_get items i) → Differ (labels_of (spliced (stop_lines P laid f) (λ i. lines_behind P bool f i (trace_at laid f i)) 0 items))
    laid-differ items of =
        differ-apart (labels_of (spliced (stop_lines P laid f) (λ i. lines_behind P bool f i (trace_at laid f i)) 0 items))
        (spliced-apart (stop_lines P laid f) (λ i. lines_behind P bool f i (trace_at laid f i)) Owned once
        (λ i a j. let s = stop-own i a j in StopLabel s.n s.y s.at s.stop s.fresh s.is) (λ i a j. let s = bail-own i a j in BailLabel s.n s.y s.at s.point s.fresh s.is)
        (λ i. stop-labels 1 fits laid are (omega arith) i) lasts
        (λ i a j k. let s = stop-own i a j in let b = bail-own i a k in ok.differ (1 + b.n) (1 + s.n) (fresh-once (labels_in P f) (labels_in P f) (bases.bail (1 + b.n)) (bases.stop (1 + s.n)) b.y.names.bail s.y.names.stop b.fresh s.fresh (ok.bail_plain (1 + b.n)) (ok.stop_plain (1 + s.n)) (sym b.is ∙ s.is)))
        0 items
        (λ i a e. let n : 0 + i ≡ i = omega arith in subst (λ m. Owned m a × (In a (labels_of (before m)) → ⊥) × (In a (labels_of (behind m)) → ⊥)) (sym n) (owns i a (of i ∙ e))))
