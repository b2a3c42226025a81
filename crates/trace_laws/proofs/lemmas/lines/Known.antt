-- Each item of a function with laid traces names functions and labels that are there.
use Rattle.std.specs.List.{Contains}
use Rattle.bril_tree.specs.declared.function_tree.Item.TheVariants as item
use Rattle.std.proofs.Common.{◌≡◌, ◌⊎◌, ℕ, zero, suc, ◌<◌, ◌≤◌, Bool, true, false, List, [], ◌∷◌, length, Option, Some, None, refl, sym, ap, subst, ◌∙◌, inl, inr, ⊎_elim, arith}
use Rattle.std.specs.Prelude.{slice_get}
use Rattle.std.proofs.lemmas.List.Elements.{All-nil, All-cons}
use Rattle.std.proofs.lemmas.Option.{same_Some, slice_get_within}
use Rattle.bril_tree.specs.declared.function_tree.Item.{Item}
use Rattle.bril_tree.specs.declared.program.Prog.{Prog}
use Rattle.bril_tree.specs.declared.types.Ty.{Ty}
use Rattle.bril_tree.specs.Step.{code_of, item_at}
use Rattle.bril_names.specs.Faults.{labels_of, callees_of, targets_of, AreAmong, IsKnown}
use Rattle.trace_paths.specs.Path.{Leg, Straight, Turn, path_of}
use Rattle.pass_edit_laws.proofs.lemmas.labels.Listed.{among-more, label-in, labels-get}
use Rattle.trace_laws.specs.lines.Lines.{TraceNames, leg_lines, end_lines, trace_lines}
use Rattle.pass_edit_laws.specs.plan.Lines.{listed_item}
use Rattle.pass_edit_laws.specs.plan.Spliced.{spliced}
use Rattle.trace_laws.specs.lines.Traced.{Trace, Laying, stop_lines, trace_at, lines_behind}
use Rattle.trace_paths.specs.Fits.{fit_path}
use Rattle.trace_laws.specs.lines.Names.{is_label_item}
use Rattle.trace_laws.proofs.lemmas.lines.Layings.{Located, located, stop_line, stop_number}
use Rattle.pass_edit_laws.proofs.lemmas.plan.Splicing.{in-spliced, item-position, before-position, after-position}
use Rattle.bril_tree.specs.Membership.{In}
use Rattle.bril_tree.proofs.Members.{in_append_cases, in_append_right, contains_in}
use Rattle.bril_tree.specs.Numbered.{tree_at}
use Rattle.bril_tree.proofs.Elements.{in_get, get_in}

-- a laid line is a copy, or goes to the last label at most
data Goes (tree : ℕ → Option Item) (bail : List ℕ) (a : Item) : Type 0 where
  Copied : (i : ℕ) → tree i ≡ Some a → Goes tree bail a
  Bare : callees_of a ≡ [] → targets_of a ≡ [] → Goes tree bail a
  Bails : callees_of a ≡ [] → targets_of a ≡ bail ∷ [] → Goes tree bail a

module _ (bool : Ty) (tree : ℕ → Option Item) (names : TraceNames) (a : Item) where
  listed-goes : (i : ℕ) (o : Option Item) → tree i ≡ o → In a (listed_item o) → Goes tree names.bail a
  listed-goes i None e among = absurd among
  listed-goes i (Some b) e (inl s) = Copied i (e ∙ ap Some (sym s))
  listed-goes i (Some b) e (inr n) = absurd n

  leg-goes : (n : ℕ) (legs : List Leg) → In a (leg_lines bool tree names n legs) → Goes tree names.bail a
  leg-goes n [] among = absurd among
  leg-goes n (Straight i ∷ legs) among = ⊎_elim (listed-goes i (tree i) refl) (leg-goes n legs) (in_append_cases a (listed_item (tree i)) (leg_lines bool tree names n legs) among)
  leg-goes n (Turn i true ∷ legs) among = ⊎_elim (λ e. Bails (ap callees_of e) (ap targets_of e)) (leg-goes n legs) among
  leg-goes n (Turn i false ∷ legs) among = ⊎_elim (λ e. Bare (ap callees_of e) (ap targets_of e)) (λ r. ⊎_elim (λ e. Bails (ap callees_of e) (ap targets_of e)) (leg-goes (suc n) legs) r) among

module _ (P : Prog) (bool : Ty) (f : ℕ) (laid : List Laying) (functions : List (List ℕ)) (items : List Item) (of : (i : ℕ) → tree_at P f i ≡ slice_get items i) (known : (a : Item) → In a items → IsKnown functions (labels_of items) a)
    -- each entry of this function stands at a label, stops inside, and jumps to the label where it stopped or to one of its own
    (inside : (x : Laying) → In x laid → x.fit.function ≡ f → (x.fit.point < length items) × ((fit_path P x.fit).stop ≤ length items))
    (at_label : (x : Laying) → In x laid → x.fit.function ≡ f → is_label_item (item_at P f (fit_path P x.fit).stop) ≡ true → tree_at P f (fit_path P x.fit).stop ≡ Some (item.Label x.names.stop)) where
  abbrev before : ℕ → List Item
  before i = stop_lines P laid f i

  abbrev behind : ℕ → List Item
  behind i = lines_behind P bool f i (trace_at laid f i)

  abbrev edited : List Item
  edited = spliced (stop_lines P laid f) (λ i. lines_behind P bool f i (trace_at laid f i)) 0 items

  item-in : (i : ℕ) (a : Item) → slice_get items i ≡ Some a → In a edited
  item-in i a e = get_in edited _ a (item-position before behind items i (let w = slice_get_within items i a e in omega arith) ∙ e)

  before-in : (i : ℕ) (a : Item) → i ≤ length items → In a (before i) → In a edited
  before-in i a less among = let k = in_get a (before i) among in get_in edited _ a (before-position before behind items i k.0 less (slice_get_within (before i) k.0 a k.1) ∙ k.1)

  behind-in : (i : ℕ) (b a : Item) → slice_get items i ≡ Some b → In a (behind i) → In a edited
  behind-in i b a e among = let k = in_get a (behind i) among in get_in edited _ a (after-position before behind items i k.0 b e (slice_get_within (behind i) k.0 a k.1) ∙ k.1)

  old-known : (i : ℕ) (a : Item) → slice_get items i ≡ Some a → IsKnown functions (labels_of edited) a
  old-known i a e =
      let h = known a (get_in items i a e) in
      (h.0, among-more (labels_of items) (labels_of edited) (targets_of a) (λ b j. let k = labels-get items b j in label-in edited b (item-in k.0 (item.Label b) k.1)) h.1)

  plain-known : (a : Item) → callees_of a ≡ [] → targets_of a ≡ [] → IsKnown functions (labels_of edited) a
  plain-known a c t = (subst (AreAmong functions) (sym c) (All-nil (λ z. Contains functions z)), subst (AreAmong (labels_of edited)) (sym t) (All-nil (λ z. Contains (labels_of edited) z)))

  target-known : (a : Item) (l : List ℕ) → callees_of a ≡ [] → targets_of a ≡ l ∷ [] → In (item.Label l) edited → IsKnown functions (labels_of edited) a
  target-known a l c t among = (
    subst (AreAmong functions) (sym c) (All-nil (λ z. Contains functions z)),
    subst (AreAmong (labels_of edited)) (sym t) (All-cons (λ z. Contains (labels_of edited) z) l [] (contains_in l (labels_of edited) (label-in edited l among)) (All-nil (λ z. Contains (labels_of edited) z))),
  )

  -- the label to which a trace jumps
  stop-in : (x : Laying) → In x laid → x.fit.function ≡ f → In (item.Label x.names.stop) edited
  stop-in x among ef = by (is_label_item (item_at P f (fit_path P x.fit).stop)) refl
    where
      by : (b : Bool) → is_label_item (item_at P f (fit_path P x.fit).stop) ≡ b → In (item.Label x.names.stop) edited
      by true e = item-in (fit_path P x.fit).stop (item.Label x.names.stop) (sym (of (fit_path P x.fit).stop) ∙ at_label x among ef e)
      by false e =
          let s = stop_number P laid x among f (fit_path P x.fit).stop ef refl e in
          before-in (fit_path P x.fit).stop (item.Label x.names.stop) (inside x among ef).1 (get_in (before (fit_path P x.fit).stop) s.number (item.Label x.names.stop) s.is)

  trace-known : (i : ℕ) (o : Option Trace) → trace_at laid f i ≡ o → (a : Item) → In a (lines_behind P bool f i o) → IsKnown functions (labels_of edited) a
  trace-known i None e a among = absurd among
  trace-known i (Some t) e a among = by among
    where
      l : Located P laid f i t
      l = located P laid f i t e

      here : (b : Item) × (slice_get items i ≡ Some b)
      here = get-some items i (let w = (inside l.x l.among l.function).0 in let p = l.point in omega arith)
        where
          get-some : (xs : List Item) (k : ℕ) → k < length xs → (b : Item) × (slice_get xs k ≡ Some b)
          get-some [] k less = absurd (omega arith)
          get-some (x ∷ xs) zero less = (x, refl)
          get-some (x ∷ xs) (suc k) less = get-some xs k (omega arith)

      placed : (c : Item) → In c (trace_lines bool (tree_at P f) t.names (path_of (code_of P f) i t.choices).legs) → In c edited
      placed c j = behind-in i here.0 c here.1 (subst (λ o. In c (lines_behind P bool f i o)) (sym e) j)

      bail-in : In (item.Label t.names.bail) edited
      bail-in = placed (item.Label t.names.bail) (inr (in_append_right (item.Label t.names.bail) (leg_lines bool (tree_at P f) t.names 0 (path_of (code_of P f) i t.choices).legs) (end_lines bool (tree_at P f) t.names) (inr (inr (inl refl)))))

      jumps-in : In (item.Label t.names.stop) edited
      jumps-in = subst (λ (z : Trace). In (item.Label z.names.stop) edited) l.is (stop-in l.x l.among l.function)

      by_goes : Goes (tree_at P f) t.names.bail a → IsKnown functions (labels_of edited) a
      by_goes (Copied k h) = old-known k a (sym (of k) ∙ h)
      by_goes (Bare c g) = plain-known a c g
      by_goes (Bails c g) = target-known a t.names.bail c g bail-in

      by_end : In a (end_lines bool (tree_at P f) t.names) → IsKnown functions (labels_of edited) a
      by_end (inl s) = plain-known a (ap callees_of s) (ap targets_of s)
      by_end (inr (inl s)) = target-known a t.names.stop (ap callees_of s) (ap targets_of s) jumps-in
      by_end (inr (inr (inl s))) = plain-known a (ap callees_of s) (ap targets_of s)
      by_end (inr (inr (inr n))) = absurd n

      by : In a (trace_lines bool (tree_at P f) t.names (path_of (code_of P f) i t.choices).legs) → IsKnown functions (labels_of edited) a
      by (inl s) = plain-known a (ap callees_of s) (ap targets_of s)
      by (inr j) = ⊎_elim (λ k. by_goes (leg-goes bool (tree_at P f) t.names a 0 (path_of (code_of P f) i t.choices).legs k)) by_end (in_append_cases a (leg_lines bool (tree_at P f) t.names 0 (path_of (code_of P f) i t.choices).legs) (end_lines bool (tree_at P f) t.names) j)

  -- each item of the edited list is known
  pub laid-known : (a : Item) → In a edited → IsKnown functions (labels_of edited) a
  laid-known a among = by (in-spliced (stop_lines P laid f) (λ i. lines_behind P bool f i (trace_at laid f i)) a 0 items among)
    where
      by : ((i : ℕ) × (slice_get items i ≡ Some a)) ⊎ (((i : ℕ) × In a (before i)) ⊎ ((i : ℕ) × In a (behind i))) → IsKnown functions (labels_of edited) a
      by (inl h) = old-known h.0 a h.1
      by (inr (inl h)) =
          let k = in_get a (before h.0) h.1 in
          let s = stop_line P laid f h.0 k.0 (slice_get_within (before h.0) k.0 a k.1) in
          let e = same_Some _ _ (sym k.1 ∙ s.is) in
          plain-known a (ap callees_of e) (ap targets_of e)
      by (inr (inr h)) = trace-known h.0 (trace_at laid f h.0) refl a h.1
