-- Which entries of a profile fit can be decided, so there is a list of them.
use Rattle.std.proofs.Common.{◌≡◌, ◌≢◌, ℕ, zero, suc, ◌<◌, Bool, true, false, List, [], ◌∷◌, length, bytes_eq, Some, None, refl, sym, ap, subst, ◌∙◌, inl, inr, ⊎_elim, arith}
use Rattle.std.specs.Prelude.{slice_get}
use Rattle.std.proofs.lemmas.Bool.{cases_eq, cases_lt}
use Rattle.std.proofs.lemmas.List.{length-map}
use Rattle.std.proofs.lemmas.Option.{same_Some}
use Rattle.std.proofs.lemmas.Slice.Eq.{bytes_eq-Decides}
use Rattle.bril_profile.specs.declared.profile.Entry.{Entry}
use Rattle.bril_tree.specs.declared.function_tree.Item.{Item}
use Rattle.bril_tree.specs.declared.function_tree.Item.TheVariants as item
use Rattle.bril_tree.specs.declared.numbered_function.Func.{Func}
use Rattle.bril_tree.specs.declared.program.Prog.{Prog}
use Rattle.bril_tree.specs.Accepted.{IsAccepted, IsAcceptedFunction}
use Rattle.bril_tree.specs.Edge.{Branch}
use Rattle.bril_tree.specs.Numbered.{items_in, named, names_of_functions, tree_at, tree_of}
use Rattle.bril_tree.specs.Sites.{AreSitesSound, most_sites, sites_of}
use Rattle.bril_tree.specs.Step.{code_of, items_of}
use Rattle.bril_tree.specs.Walk.{IsReached, IsWalk, end_of}
use Rattle.bril_names.proofs.Functions.{Differ-functions}
use Rattle.bril_names.proofs.Naming.{one_number}
use Rattle.bril_tree.proofs.Elements.{All-at, get_inside}
use Rattle.pass_edit_laws.proofs.lemmas.names.Points.{label_once}
use Rattle.bril_tree.proofs.Trees.{tree_at-items}
use Rattle.ssa_laws.proofs.lemmas.live_entries.Deciding.{decide-reached}
use Rattle.bril_tree.proofs.Deciding.{Decided}
use Rattle.flow_graph.proofs.Told.{same_sites}
use Rattle.trace_laws.specs.Laws.{FitsAreOneList}
use Rattle.trace_laws.proofs.Unique.{fit-one, fits-one}
use Rattle.trace_paths.specs.Fits.{Fit, FitsAre, IsFit, Repeats, fit_path}
use Rattle.trace_paths.specs.Path.{Leg}

-- ---- names

same-name : (x y : List ℕ) → Decided (x ≡ y)
same-name x y = by (bytes_eq x y) refl
  where
    by : (b : Bool) → bytes_eq x y ≡ b → Decided (x ≡ y)
    by true e = inl ((bytes_eq-Decides x y).0 e)
    by false e = inr (λ same. let h : true ≡ false = sym ((bytes_eq-Decides x y).1 same) ∙ e in cc)

-- the number of a name
find-name : (names : List (List ℕ)) (name : List ℕ) → Decided ((k : ℕ) × (k < length names) × (named names k ≡ name))
find-name [] name = inr (λ h. omega (arith, h.1))
find-name (x ∷ names) name = ⊎_elim
    (λ e. inl (0, omega arith, e))
    (λ n. ⊎_elim (λ h. inl (suc h.0, (let l = h.1 in omega arith), h.2)) (λ m. inr (λ h. neither n m h.0 h.1 h.2)) (find-name names name))
    (same-name x name)
  where
    neither : (x ≡ name → ⊥) → ((k : ℕ) × (k < length names) × (named names k ≡ name) → ⊥) → (k : ℕ) → k < suc (length names) → named (x ∷ names) k ≡ name → ⊥
    neither n m zero l e = n e
    neither n m (suc k) l e = m (k, omega arith, e)

-- ---- labels

is-label : (a : Item) (label : List ℕ) → Decided (a ≡ item.Label label)
is-label (item.Label name) label = ⊎_elim (λ e. inl (ap item.Label e)) (λ n. inr (λ h. n (let e : name ≡ label = cc in e))) (same-name name label)
is-label (item.Const d t v) label = inr (λ h. cc)
is-label (item.Act d o args fns ls) label = inr (λ h. cc)

find-label : (items : List Item) (label : List ℕ) → Decided ((k : ℕ) × (slice_get items k ≡ Some (item.Label label)))
find-label [] label = inr (λ h. let n : None ≡ Some (item.Label label) = h.1 in cc)
find-label (a ∷ items) label = ⊎_elim
    (λ e. inl (0, ap Some e))
    (λ n. ⊎_elim (λ h. inl (suc h.0, h.1)) (λ m. inr (λ h. neither n m h.0 h.1)) (find-label items label))
    (is-label a label)
  where
    neither : (a ≡ item.Label label → ⊥) → ((k : ℕ) × (slice_get items k ≡ Some (item.Label label)) → ⊥) → (k : ℕ) → slice_get (a ∷ items) k ≡ Some (item.Label label) → ⊥
    neither n m zero e = n (same_Some a (item.Label label) e)
    neither n m (suc k) e = m (k, e)

-- ---- entries

legs-there : (legs : List Leg) → Decided (legs ≢ [])
legs-there [] = inr (λ n. n refl)
legs-there (leg ∷ legs) = inl (λ e. cc)

repeats-or_not : (seen : List Fit) (x : Fit) → Decided (Repeats seen x)
repeats-or_not [] x = inr (λ h. h)
repeats-or_not (y ∷ seen) x = ⊎_elim
    (λ r. inl (inr r))
    (λ n. ⊎_elim
    (λ f. ⊎_elim (λ p. inl (inl (f, p))) (λ m. inr (λ h. ⊎_elim (λ b. m b.1) n h)) (cases_eq y.point x.point))
    (λ m. inr (λ h. ⊎_elim (λ b. m b.0) n h)) (cases_eq y.function x.function))
    (repeats-or_not seen x)

module _ (P : Prog) (accepted : IsAccepted P) where
  sound-sites : (f : ℕ) → f < length (names_of_functions P.funcs) → AreSitesSound (code_of P f)
  sound-sites f low =
      let many = length-map P.funcs (λ (F : Func). F.name) in
      let F = get_inside P.funcs f (omega arith) in
      subst AreSitesSound (sym (ap items_of F.1)) (All-at (IsAcceptedFunction P) P.funcs f F.0 accepted.functions F.1).sites

  module _ (e : Entry) (f : ℕ) (low : f < length (names_of_functions P.funcs)) (name : named (names_of_functions P.funcs) f ≡ e.func) (p : ℕ) (label : tree_at P f p ≡ Some (item.Label e.label)) where
    abbrev candidate : Fit
    candidate = record { function = f; point = p; choices = e.choices }

    -- whatever fits is this, in all that is told of it
    is-candidate : (y : Fit) → IsFit P e y → (IsReached (code_of P f) p) × ((walk : List Branch) → IsWalk (code_of P f) walk → end_of walk ≡ p → length (sites_of (code_of P f) walk) < most_sites) × ((fit_path P candidate).legs ≢ [])
    is-candidate y fit =
        let function : y.function ≡ f = one_number (names_of_functions P.funcs) (Differ-functions P) y.function f fit.function low (fit.named_so ∙ sym name) in
        let point : y.point ≡ p = label_once P f y.point p e.label (ap (λ n. tree_at P n y.point) (sym function) ∙ fit.label) label in
        let same : y ≡ candidate = λ i. record { function = function i; point = point i; choices = fit.choices i } in
        let all = subst (IsFit P e) same fit in
        (all.reached, all.few, all.lays)

    few-or_not : (r : IsReached (code_of P f) p) → Decided ((walk : List Branch) → IsWalk (code_of P f) walk → end_of walk ≡ p → length (sites_of (code_of P f) walk) < most_sites)
    few-or_not r = ⊎_elim
        (λ few. inl (λ walk is ends. subst (λ sites. length sites < most_sites) (same_sites (code_of P f) (sound-sites f low) r.walk walk r.is is (r.ends ∙ sym ends)) few))
        (λ many. inr (λ h. let few = h r.walk r.is r.ends in omega (arith, few, many)))
        (cases_lt (length (sites_of (code_of P f) r.walk)) most_sites)

    decide-candidate : Decided ((x : Fit) × IsFit P e x)
    decide-candidate = ⊎_elim
        (λ r. ⊎_elim
        (λ few. ⊎_elim
        (λ lays. inl (candidate, record { function = low; named_so = name; label = label; choices = refl; reached = r; few = few; lays = lays }))
        (λ n. inr (λ h. n (is-candidate h.0 h.1).2)) (legs-there (fit_path P candidate).legs))
        (λ n. inr (λ h. n (is-candidate h.0 h.1).1)) (few-or_not r))
        (λ n. inr (λ h. n (is-candidate h.0 h.1).0)) (decide-reached (code_of P f) p)

  decide-fit : (e : Entry) → Decided ((x : Fit) × IsFit P e x)
  decide-fit e = ⊎_elim
      (λ k. ⊎_elim
      (λ h. decide-candidate e k.0 k.1 k.2 h.0 (tree_at-items P k.0 h.0 ∙ h.1))
      (λ n. inr (λ h. n (h.0.point, sym (tree_at-items P k.0 h.0.point) ∙ ap (λ f. tree_at P f h.0.point) (sym (one_number (names_of_functions P.funcs) (Differ-functions P) h.0.function k.0 h.1.function k.1 (h.1.named_so ∙ sym k.2))) ∙ h.1.label)))
      (find-label (items_in (slice_get (tree_of P).funcs k.0)) e.label))
      (λ n. inr (λ h. n (h.0.function, h.1.function, h.1.named_so)))
      (find-name (names_of_functions P.funcs) e.func)

  -- ---- lists of entries

  skip : (seen : List Fit) (e : Entry) (es : List Entry) (xs : List Fit) → ((y : Fit) → IsFit P e y → Repeats seen y) → FitsAre P seen es xs → FitsAre P seen (e ∷ es) xs
  skip seen e es [] repeats are = (repeats, are)
  skip seen e es (x ∷ xs) repeats are = inr (repeats, are)

  pub fits-there : (seen : List Fit) (es : List Entry) → (xs : List Fit) × FitsAre P seen es xs
  fits-there seen [] = ([], refl)
  fits-there seen (e ∷ es) = ⊎_elim
      (λ x. ⊎_elim
      (λ r. let rest = fits-there seen es in (rest.0, skip seen e es rest.0 (λ y fit. subst (Repeats seen) (fit-one P e x.0 y x.1 fit) r) rest.1))
      (λ n. let rest = fits-there (x.0 ∷ seen) es in (x.0 ∷ rest.0, inl (x.1, n, rest.1)))
      (repeats-or_not seen x.0))
      (λ n. let rest = fits-there seen es in (rest.0, skip seen e es rest.0 (λ y fit. absurd (n (y, fit))) rest.1))
      (decide-fit e)

pub one-list : FitsAreOneList
one-list P entries accepted = let f = fits-there P accepted [] entries in record { fits = f.0; are = f.1; only = λ xs are. fits-one P [] entries xs f.0 are f.1 }
