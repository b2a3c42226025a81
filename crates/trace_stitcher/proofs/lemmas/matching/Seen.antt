-- The entries that were found, one after another.
use Rattle.std.proofs.Common.{◌≡◌, ◌⊎◌, ℕ, Bool, true, false, ◌||◌, List, [], ◌∷◌, ◌++◌, map, Option, Some, None, refl, sym, ap, subst, ◌∙◌, inl, inr, append_assoc, append-nil}
use Rattle.std.specs.Prelude.{◌==◌}
use Rattle.std.specs.List.{All, AllPairs, list_any}
use Rattle.std.proofs.lemmas.List.Quantifiers.{all_pairs_push}
use Rattle.std.proofs.lemmas.Bool.{and_parts, and_from, eq-eqb, eqb-true, or_parts, or_right}
use Rattle.std.proofs.lemmas.List.{map_push}
use Rattle.std.proofs.lemmas.List.Elements.{All-nil, All-cons, All-push}
use Rattle.bril_profile.specs.declared.profile.Entry.{Entry}
use Rattle.bril_tree.specs.declared.program.Prog.{Prog}
use Rattle.trace_stitcher.specs.declared.matching.fitting.Fitting.{Fitting}
use Rattle.trace_stitcher.specs.matching.Fitting.{FitSoFar, HasPath, IsElsewhere, IsFound, candidate, fit_of, is_at, listed_fit, seen_of}
use Rattle.trace_paths.specs.Fits.{Fit, FitsAre, IsFit, Repeats}

-- ---- at one label

pub at-is : (function point : ℕ) (x : Fitting) → is_at function point x ≡ true → (x.function ≡ function) × (x.point ≡ point)
at-is function point x e = let parts = and_parts (x.function == function) (x.point == point) e in (eqb-true x.function function parts.0, eqb-true x.point point parts.1)

pub is-at : (function point : ℕ) (x : Fitting) → x.function ≡ function → x.point ≡ point → is_at function point x ≡ true
is-at function point x f p = and_from (x.function == function) (x.point == point) (eq-eqb x.function function f) (eq-eqb x.point point p)

module _ (function point : ℕ) (choices : List Bool) where
  -- one that was found is there, or one before
  pub repeats-any : (found : List Fitting) (seen : List Fit) → Repeats (seen_of found seen) (candidate function point choices) → (list_any (is_at function point) found ≡ true) ⊎ Repeats seen (candidate function point choices)
  repeats-any [] seen r = inr r
  repeats-any (x ∷ found) seen r = by (is_at function point x) refl (repeats-any found (fit_of x ∷ seen) r)
    where
      by : (b : Bool) → is_at function point x ≡ b → (list_any (is_at function point) found ≡ true) ⊎ Repeats (fit_of x ∷ seen) (candidate function point choices) → (list_any (is_at function point) (x ∷ found) ≡ true) ⊎ Repeats seen (candidate function point choices)
      by b e (inl h) = inl (ap (λ z. is_at function point x || z) h ∙ or_right (is_at function point x) true refl)
      by b e (inr (inl h)) = inl (ap (λ z. z || list_any (is_at function point) found) (is-at function point x h.0 h.1))
      by b e (inr (inr h)) = inr h

  pub seen-repeats : (found : List Fitting) (seen : List Fit) → Repeats seen (candidate function point choices) → Repeats (seen_of found seen) (candidate function point choices)
  seen-repeats [] seen r = r
  seen-repeats (x ∷ found) seen r = seen-repeats found (fit_of x ∷ seen) (inr r)

  pub any-repeats : (found : List Fitting) (seen : List Fit) → list_any (is_at function point) found ≡ true → Repeats (seen_of found seen) (candidate function point choices)
  any-repeats [] seen e = absurd (let h : false ≡ true = e in cc)
  any-repeats (x ∷ found) seen e = by (is_at function point x) refl (any-repeats found (fit_of x ∷ seen))
    where
      by : (b : Bool) → is_at function point x ≡ b → (list_any (is_at function point) found ≡ true → Repeats (seen_of found (fit_of x ∷ seen)) (candidate function point choices)) → Repeats (seen_of (x ∷ found) seen) (candidate function point choices)
      by true h rest = seen-repeats found (fit_of x ∷ seen) (inl (at-is function point x h))
      by false h rest = rest (ap (λ z. z || list_any (is_at function point) found) (sym h) ∙ e)

  pub none-apart : (found : List Fitting) (y : Fitting) → fit_of y ≡ candidate function point choices → list_any (is_at function point) found ≡ false → All (λ x. IsElsewhere x y) found
  none-apart [] y is e = All-nil (λ x. IsElsewhere x y)
  none-apart (x ∷ found) y is e = All-cons (λ z. IsElsewhere z y) x found (λ f p. by (is-at function point x (f ∙ ap (λ (z : Fit). z.function) is) (p ∙ ap (λ (z : Fit). z.point) is))) (none-apart found y is rest)
    where
      by : is_at function point x ≡ true → ⊥
      by h = let g : true ≡ false = sym (ap (λ z. z || list_any (is_at function point) found) h) ∙ e in cc

      rest : list_any (is_at function point) found ≡ false
      rest = (or_parts (is_at function point x) (list_any (is_at function point) found) e).1

-- ---- one entry more

seen-push : (found : List Fitting) (x : Fitting) (seen : List Fit) → seen_of (found ++ x ∷ []) seen ≡ fit_of x ∷ seen_of found seen
seen-push [] x seen = refl
seen-push (y ∷ found) x seen = seen-push found x (fit_of y ∷ seen)

module _ (P : Prog) (entries : List Entry) (found : List Fitting) (e : Entry) (so_far : FitSoFar P entries found) where
  pub fit-more : (x : Fitting) → IsFit P e (fit_of x) → (Repeats (seen_of found []) (fit_of x) → ⊥) → FitSoFar P (entries ++ e ∷ []) (found ++ x ∷ [])
  fit-more x fits new rest more are =
      let whole = so_far (e ∷ rest) (fit_of x ∷ more) (inl (fits, new, subst (λ seen. FitsAre P seen rest more) (seen-push found x []) are)) in
      subst (λ es. FitsAre P [] es (map fit_of (found ++ x ∷ []) ++ more)) (sym (append_assoc entries (e ∷ []) rest))
      (subst (FitsAre P [] (entries ++ e ∷ rest)) (sym (ap (λ l. l ++ more) (map_push fit_of found x) ∙ append_assoc (map fit_of found) (fit_of x ∷ []) more)) whole)

  pub fit-same : ((y : Fit) → IsFit P e y → Repeats (seen_of found []) y) → FitSoFar P (entries ++ e ∷ []) found
  fit-same none rest more are =
      subst (λ es. FitsAre P [] es (map fit_of found ++ more)) (sym (append_assoc entries (e ∷ []) rest)) (so_far (e ∷ rest) more (by more are))
    where
      by : (more : List Fit) → FitsAre P (seen_of found []) rest more → FitsAre P (seen_of found []) (e ∷ rest) more
      by [] are = (none, are)
      by (y ∷ more) are = inr (none, are)

pub all-fit : (P : Prog) (entries : List Entry) (found : List Fitting) → FitSoFar P entries found → FitsAre P [] entries (map fit_of found)
all-fit P entries found so_far = subst (FitsAre P [] entries) (append-nil (map fit_of found)) (subst (λ es. FitsAre P [] es (map fit_of found ++ [])) (append-nil entries) (so_far [] [] refl))

-- ---- the loop over the entries

module _ (P : Prog) (entries : List Entry) (found : List Fitting) (e : Entry) where
  pub so-far-grows : (o : Option Fitting) → FitSoFar P entries found → IsFound P e found o → FitSoFar P (entries ++ e ∷ []) (found ++ listed_fit o)
  so-far-grows None so_far h = subst (FitSoFar P (entries ++ e ∷ [])) (sym (append-nil found)) (fit-same P entries found e so_far h)
  so-far-grows (Some x) so_far h = fit-more P entries found e so_far x h.0 h.1

  pub paths-grow : (o : Option Fitting) → All (HasPath P) found → IsFound P e found o → All (HasPath P) (found ++ listed_fit o)
  paths-grow None paths h = subst (All (HasPath P)) (sym (append-nil found)) paths
  paths-grow (Some x) paths h = All-push (HasPath P) found x paths h.2

  pub apart-grow : (o : Option Fitting) → AllPairs IsElsewhere found → IsFound P e found o → AllPairs IsElsewhere (found ++ listed_fit o)
  apart-grow None apart h = subst (AllPairs IsElsewhere) (sym (append-nil found)) apart
  apart-grow (Some x) apart h = all_pairs_push IsElsewhere found x apart h.3
