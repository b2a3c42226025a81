-- What is put in, entry by entry.
use Rattle.std.proofs.Common.{◌≡◌, ℕ, suc, ◌+◌, ◌<◌, Bool, true, false, ◌&&◌, ◌||◌, List, [], ◌∷◌, ◌++◌, length, map, take, get_or, Some, append_assoc, append-nil, refl, sym, ap, subst, ◌∙◌, arith, cond}
use Rattle.std.specs.Prelude.{◌==◌, slice_get, if◌then◌else◌}
use Rattle.std.specs.List.{All, AllPairs, list_any}
use Rattle.std.proofs.Math.Seq.{take-append_seam}
use Rattle.std.proofs.lemmas.Bool.{and_parts, cond-true, cond-false, eqb-true}
use Rattle.std.proofs.lemmas.List.{get_or-take, get_or_default, length-take, take_more}
use Rattle.std.proofs.lemmas.List.Elements.{All-head, All-tail}
use Rattle.std.proofs.lemmas.Option.{slice_get-get_or}
use Rattle.bril_tree.specs.declared.function_tree.Item.{Item}
use Rattle.bril_tree.specs.declared.function_tree.Item.TheVariants as item
use Rattle.pass_edit_laws.specs.plan.Spliced.{spliced}
use Rattle.trace_stitcher.specs.declared.matching.fitting.Fitting.{Fitting}
use Rattle.trace_stitcher.specs.matching.Fitting.{IsElsewhere}
use Rattle.trace_laws.specs.lines.Lines.{TraceNames}
use Rattle.trace_stitcher.specs.Inserted.{AreNamesFor, has_function, label_put, labels_before, lines_behind, lines_of, listed_name, row, stands_at, traced_items}
use Rattle.trace_stitcher.specs.Stops.{AreNamesHere, put_stop}
use Rattle.trace_stitcher.proofs.Splicing.{spliced-none, spliced-same}

module _ (code : List Item) (f : ℕ) (names : ℕ → TraceNames) where
  -- ---- one entry more

  labels-push : (K : ℕ) (xs : List Fitting) (x : Fitting) (i : ℕ) → labels_before code f names K (xs ++ x ∷ []) i ≡ labels_before code f names K xs i ++ label_put code f (names (K + length xs)) x i
  labels-push K [] x i = let e : K ≡ K + 0 = omega arith in append-nil (label_put code f (names K) x i) ∙ ap (λ n. label_put code f (names n) x i) e
  labels-push K (y ∷ xs) x i =
      let e : suc K + length xs ≡ K + suc (length xs) = omega arith in
      ap (λ l. label_put code f (names K) y i ++ l) (labels-push (suc K) xs x i ∙ ap (λ n. labels_before code f names (suc K) xs i ++ label_put code f (names n) x i) e)
      ∙ sym (append_assoc (label_put code f (names K) y i) (labels_before code f names (suc K) xs i) (label_put code f (names (K + suc (length xs))) x i))

  -- one that stands at another label than all before it
  lines-push : (K : ℕ) (xs : List Fitting) (x : Fitting) (i : ℕ) → All (λ y. IsElsewhere y x) xs → lines_behind code f names K (xs ++ x ∷ []) i ≡ (if stands_at f x i then lines_of code (names (K + length xs)) x else lines_behind code f names K xs i)
  lines-push K [] x i apart = let e : K ≡ K + 0 = omega arith in ap (λ n. if stands_at f x i then lines_of code (names n) x else []) e
  lines-push K (y ∷ xs) x i apart = by (stands_at f x i) refl (stands_at f y i) refl (lines-push (suc K) xs x i (All-tail (λ z. IsElsewhere z x) y xs apart))
    where
      both : stands_at f x i ≡ true → stands_at f y i ≡ true → ⊥
      both s t =
          let a = and_parts (x.function == f) (x.point == i) s in
          let b = and_parts (y.function == f) (y.point == i) t in
          All-head (λ z. IsElsewhere z x) y xs apart (eqb-true y.function f b.0 ∙ sym (eqb-true x.function f a.0)) (eqb-true y.point i b.1 ∙ sym (eqb-true x.point i a.1))

      e : suc K + length xs ≡ K + suc (length xs)
      e = omega arith

      by : (s : Bool) → stands_at f x i ≡ s → (t : Bool) → stands_at f y i ≡ t → lines_behind code f names (suc K) (xs ++ x ∷ []) i ≡ (if stands_at f x i then lines_of code (names (suc K + length xs)) x else lines_behind code f names (suc K) xs i)
          → (if stands_at f y i then lines_of code (names K) y else lines_behind code f names (suc K) (xs ++ x ∷ []) i) ≡ (if stands_at f x i then lines_of code (names (K + suc (length xs))) x else (if stands_at f y i then lines_of code (names K) y else lines_behind code f names (suc K) xs i))
      by true hs true ht rest = absurd (both hs ht)
      by true hs false ht rest =
          cond-false (stands_at f y i) (lines_of code (names K) y) (lines_behind code f names (suc K) (xs ++ x ∷ []) i) ht ∙ rest
          ∙ cond-true (stands_at f x i) (lines_of code (names (suc K + length xs)) x) (lines_behind code f names (suc K) xs i) hs
          ∙ ap (λ n. lines_of code (names n) x) e
          ∙ sym (cond-true (stands_at f x i) (lines_of code (names (K + suc (length xs))) x) (if stands_at f y i then lines_of code (names K) y else lines_behind code f names (suc K) xs i) hs)
      by false hs t ht rest =
          ap (λ l. if stands_at f y i then lines_of code (names K) y else l) (rest ∙ cond-false (stands_at f x i) (lines_of code (names (suc K + length xs)) x) (lines_behind code f names (suc K) xs i) hs)
          ∙ sym (cond-false (stands_at f x i) (lines_of code (names (K + suc (length xs))) x) (if stands_at f y i then lines_of code (names K) y else lines_behind code f names (suc K) xs i) hs)

  -- ---- the loop over all entries

  module _ (fits : List Fitting) (k : ℕ) (x : Fitting) (within : k < length fits) (is : x ≡ get_or fits k x) where
    first : take (k + 1) fits ≡ take k fits ++ x ∷ []
    first = take_more fits k x within ∙ ap (λ z. take k fits ++ z ∷ []) (sym is)

    long : length (take k fits) ≡ k
    long = let h = length-take k fits in omega (arith, h)

    number : 1 + length (take k fits) ≡ suc k
    number = let h = long in omega (arith, h)

    pub entry-there : slice_get fits k ≡ Some x
    entry-there = slice_get-get_or fits k x within ∙ ap Some (sym is)

    pub labels-step : (i : ℕ) (old new : List (List ℕ)) → old ≡ labels_before code f names 1 (take k fits) i → new ≡ old ++ label_put code f (names (suc k)) x i → new ≡ labels_before code f names 1 (take (k + 1) fits) i
    labels-step i old new so_far e =
        e ∙ ap (λ l. l ++ label_put code f (names (suc k)) x i) so_far ∙ ap (λ n. labels_before code f names 1 (take k fits) i ++ label_put code f (names n) x i) (sym number)
        ∙ sym (labels-push 1 (take k fits) x i) ∙ ap (λ l. labels_before code f names 1 l i) (sym first)

    before-apart : AllPairs IsElsewhere fits → All (λ y. IsElsewhere y x) (take k fits)
    before-apart pairs j d low =
        let h = length-take k fits in
        let less : j < k = omega (arith, h, low) in
        let p = pairs j k x less within in
        λ a b. p (ap (λ (z : Fitting). z.function) (at j d less) ∙ a ∙ ap (λ (z : Fitting). z.function) is) (ap (λ (z : Fitting). z.point) (at j d less) ∙ b ∙ ap (λ (z : Fitting). z.point) is)
      where
        at : (j : ℕ) (d : Fitting) → j < k → get_or fits j x ≡ get_or (take k fits) j d
        at j d less = let l : j < length fits = omega (arith, less, within) in get_or_default fits j x d l ∙ sym (get_or-take k fits j d less)

    pub lines-step : (i : ℕ) (old new : List Item) → AllPairs IsElsewhere fits → old ≡ lines_behind code f names 1 (take k fits) i → new ≡ (if stands_at f x i then lines_of code (names (suc k)) x else old) → new ≡ lines_behind code f names 1 (take (k + 1) fits) i
    lines-step i old new pairs so_far e =
        e ∙ ap (λ l. if stands_at f x i then lines_of code (names (suc k)) x else l) so_far ∙ ap (λ n. if stands_at f x i then lines_of code (names n) x else lines_behind code f names 1 (take k fits) i) (sym number)
        ∙ sym (lines-push 1 (take k fits) x i (before-apart pairs)) ∙ ap (λ l. lines_behind code f names 1 l i) (sym first)

  -- ---- no entries

  other : (x : Fitting) (fits : List Fitting) → list_any (has_function f) (x ∷ fits) ≡ false → (x.function == f ≡ false) × (list_any (has_function f) fits ≡ false)
  other x fits e = by (x.function == f) (list_any (has_function f) fits) e
    where
      by : (a b : Bool) → (a || b) ≡ false → (a ≡ false) × (b ≡ false)
      by true b h = absurd (let g : true ≡ false = h in cc)
      by false b h = (refl, h)

  no-labels : (K : ℕ) (fits : List Fitting) (i : ℕ) → list_any (has_function f) fits ≡ false → labels_before code f names K fits i ≡ []
  no-labels K [] i e = refl
  no-labels K (x ∷ fits) i e =
      let o = other x fits e in
      ap (λ l. label_put code f (names K) x i ++ l) (no-labels (suc K) fits i o.1) ∙ append-nil (label_put code f (names K) x i)
      ∙ ap (λ b. cond (b && (x.path.stop == i)) (listed_name (put_stop (slice_get code i) (names K).stop)) []) o.0

  no-lines : (K : ℕ) (fits : List Fitting) (i : ℕ) → list_any (has_function f) fits ≡ false → lines_behind code f names K fits i ≡ []
  no-lines K [] i e = refl
  no-lines K (x ∷ fits) i e =
      let o = other x fits e in
      ap (λ b. if b && (x.point == i) then lines_of code (names K) x else lines_behind code f names (suc K) fits i) o.0 ∙ no-lines (suc K) fits i o.1

  pub nothing-put : (fits : List Fitting) → list_any (has_function f) fits ≡ false → traced_items code f names fits ≡ code
  nothing-put fits e = spliced-none (λ i. map item.Label (labels_before code f names 1 fits i)) (lines_behind code f names 1 fits) 0 code (λ i. ap (map item.Label) (no-labels 1 fits i e)) (λ i. no-lines 1 fits i e)

  -- ---- what was put in

  pub all-put : (fits : List Fitting) (before : List (List (List ℕ))) (behind : List (List Item)) (made : List Item) → ((i : ℕ) → row before i ≡ labels_before code f names 1 fits i) → ((i : ℕ) → row behind i ≡ lines_behind code f names 1 fits i)
      → made ≡ spliced (λ i. map item.Label (row before i)) (row behind) 0 code → made ≡ traced_items code f names fits
  all-put fits before behind made b a e = e ∙ spliced-same (λ i. map item.Label (row before i)) (λ i. map item.Label (labels_before code f names 1 fits i)) (row behind) (lines_behind code f names 1 fits) 0 code (λ i. ap (map item.Label) (b i)) a

-- names of other lists that are the same
pub names-same : (labels labels' variables variables' : List (List ℕ)) (code code' : List Item) (f : ℕ) (fits : List Fitting) (names : ℕ → TraceNames) → labels ≡ labels' → variables ≡ variables' → code ≡ code' → AreNamesFor labels' variables' code' f fits names → AreNamesFor labels variables code f fits names
names-same labels labels' variables variables' code code' f fits names l v c are k x at same =
    subst (λ z. AreNamesHere z variables code (suc k) x.path.stop (names (suc k))) (sym l)
    (subst (λ z. AreNamesHere labels' z code (suc k) x.path.stop (names (suc k))) (sym v) (subst (λ z. AreNamesHere labels' variables' z (suc k) x.path.stop (names (suc k))) (sym c) (are k x at same)))

-- a list that was lent and came back
pub lent-same : {A : Type 0} (n : ℕ) (xs rest : List A) → n ≡ length xs → take n (xs ++ rest) ≡ xs
lent-same n xs rest e = ap (λ k. take k (xs ++ rest)) e ∙ take-append_seam xs rest
