-- How many locations a result has more than the program: where its items come from the program's, at most those by extra
-- names.
use Rattle.std.proofs.Common.{◌≡◌, ◌≢◌, ◌⊎◌, ℕ, ◌+◌, ◌<◌, ◌≤◌, Bool, true, List, [], ◌∷◌, ◌++◌, length, map, take, get_or, Some, None, refl, sym, ap, subst, ◌∙◌, inl, inr, ⊎_elim, arith}
use Rattle.std.specs.Prelude.{is_some, slice_get}
use Rattle.std.specs.List.{AllPairs, filter, flat_map, range_with_len}
use Rattle.std.proofs.lemmas.Bool.{cases_lt}
use Rattle.std.proofs.lemmas.List.{get_or-take, length-append, length-map, length-take}
use Rattle.std.proofs.lemmas.List.Elements.{Contains-get_or}
use Rattle.std.proofs.lemmas.List.Folds.{Any-from_list_any}
use Rattle.std.proofs.lemmas.List.FromFn.{length-range_with_len}
use Rattle.std.proofs.lemmas.List.Kept.{AllPairs-filter}
use Rattle.std.proofs.lemmas.List.Sums.{length-filter}
use Rattle.bril_tree.specs.declared.function_tree.Dest.{Dest}
use Rattle.bril_tree.specs.declared.numbered.Instr.{Instr}
use Rattle.bril_tree.specs.declared.numbered.VarInfo.{VarInfo}
use Rattle.bril_tree.specs.declared.numbered_function.Func.{Func}
use Rattle.bril_tree.specs.declared.program.Prog.{Prog}
use Rattle.bril_tree.specs.Accepted.{IsAccepted, IsAcceptedFunction}
use Rattle.bril_tree.specs.FrameWords.{location_count, names_shadow}
use Rattle.bril_tree.specs.FunctionForm.{known_after, variables_of}
use Rattle.bril_tree.specs.Membership.{In}
use Rattle.bril_tree.specs.Numbered.{named, variable_names}
use Rattle.bril_tree.specs.Operand.{Location, Variable, Shadow}
use Rattle.bril_tree.specs.Shape.{is_shaped}
use Rattle.bril_tree.proofs.Elements.{get_in}
use Rattle.bril_tree.proofs.LabelPoints.{in_range, range_high}
use Rattle.bril_tree.proofs.Members.{in_append_cases, in_append_left, in_append_right, in_contains, in_flat_map_source, in_map, in_map_source}
use Rattle.bril_names.proofs.Appearance.{Seen, seen, old, fresh, strange}
use Rattle.bril_names.proofs.Functions.{Differ-variables}
use Rattle.bril_names.proofs.Naming.{one_number}
use Rattle.bril_names.proofs.Variables.{argument_names_taken}
use Rattle.pass_edit_laws.proofs.lemmas.plan.Elements.{all_in}
use Rattle.bril_tree.proofs.Counting.{no_more}
use Rattle.pass_edit_laws.proofs.lemmas.numbers.Different.{differ-both, differ-map, in_filter, filter_in, range-differ}
use Rattle.pass_edit_laws.proofs.lemmas.numbers.ItemTrees.{names-it}
use Rattle.pass_edit_laws.proofs.lemmas.numbers.Items.{IsNamed, IsOfItems, is_used}

-- ---- the locations of a function

abbrev pub locations_of : Func → List Location
locations_of f = map Variable (range_with_len 0 (length f.vars)) ++ map Shadow (filter (is_used f.code) (range_with_len 0 (length f.vars)))

abbrev pub IsLocationOf : Func → Location → Type 0
IsLocationOf f (Variable x) = x < length f.vars
IsLocationOf f (Shadow x) = (x < length f.vars) × (is_used f.code x ≡ true)

module _ (f : Func) where
  abbrev numbers : List ℕ
  numbers = range_with_len 0 (length f.vars)

  below : (x : ℕ) → In x numbers → x < length f.vars
  below x i = let high = range_high 0 (length f.vars) x i in omega arith

  pub locations-counted : length (locations_of f) ≡ location_count f
  locations-counted =
      let both = length-append (map Variable numbers) (map Shadow (filter (is_used f.code) numbers)) in
      let variables = length-map numbers Variable in
      let shadows = length-map (filter (is_used f.code) numbers) Shadow in
      let size = length-range_with_len 0 (length f.vars) in
      let used = length-filter (is_used f.code) numbers in
      omega arith

  pub location-listed : (l : Location) → IsLocationOf f l → In l (locations_of f)
  location-listed (Variable x) low = in_append_left (Variable x) (map Variable numbers) (map Shadow (filter (is_used f.code) numbers)) (in_map Variable x numbers (in_range 0 (length f.vars) x (omega arith) (omega arith)))
  location-listed (Shadow x) h =
      let low = h.0 in
      in_append_right (Shadow x) (map Variable numbers) (map Shadow (filter (is_used f.code) numbers))
      (in_map Shadow x (filter (is_used f.code) numbers) (in_filter (is_used f.code) numbers x (in_range 0 (length f.vars) x (omega arith) (omega arith)) h.1))

  pub listed-location : (l : Location) → In l (locations_of f) → IsLocationOf f l
  listed-location l i = ⊎_elim variable shadow (in_append_cases l (map Variable numbers) (map Shadow (filter (is_used f.code) numbers)) i)
    where
      variable : In l (map Variable numbers) → IsLocationOf f l
      variable k = let s = in_map_source Variable l numbers k in subst (IsLocationOf f) (sym s.2) (below s.0 s.1)

      shadow : In l (map Shadow (filter (is_used f.code) numbers)) → IsLocationOf f l
      shadow k =
          let s = in_map_source Shadow l (filter (is_used f.code) numbers) k in
          let u = filter_in (is_used f.code) numbers s.0 s.1 in
          subst (IsLocationOf f) (sym s.2) (below s.0 u.0, u.1)

  pub locations-differ : AllPairs (λ a b. a ≢ b) (locations_of f)
  locations-differ =
      differ-both (map Variable numbers) (map Shadow (filter (is_used f.code) numbers))
      (differ-map Variable (λ x y e. cc) numbers (range-differ (length f.vars)))
      (differ-map Shadow (λ x y e. cc) (filter (is_used f.code) numbers) (AllPairs-filter (λ a b. a ≢ b) (is_used f.code) numbers (range-differ (length f.vars))))
      (λ l i j. let v = in_map_source Variable l numbers i in let s = in_map_source Shadow l (filter (is_used f.code) numbers) j in let e : Variable v.0 ≡ Shadow s.0 = sym v.2 ∙ s.2 in absurd cc)

-- The locations of a function are no more than some things, where each is related to one of these, and no two are to one.
pub locations-few : {X : Type 0} (G : Func) (R : Location → X → Type 0) (xs : List X) → ((l : Location) → IsLocationOf G l → (x : X) × In x xs × R l x) → ((l k : Location) (x : X) → R l x → R k x → l ≡ k) → location_count G ≤ length xs
locations-few G R xs each one =
    let few = no_more R (locations_of G) xs (locations-differ G) (λ l i. each l (listed-location G l i)) one in
    let count = locations-counted G in
    omega arith

-- ---- numbers in the order of their appearance

-- each number that is known in the end was known or appeared
pub appeared : (known : ℕ) (xs : List ℕ) (n y : ℕ) → known_after known xs ≡ Some n → known ≤ y → y < n → In y xs
appeared known [] n y e low high = let f : known ≡ n = cc in absurd (omega arith)
appeared known (x ∷ xs) n y e low high = by (seen known x xs) (λ k h l. appeared k xs n y h l high)
  where
    by : Seen known x xs → ((k : ℕ) → known_after k xs ≡ Some n → k ≤ y → In y xs) → In y (x ∷ xs)
    by (old h same) again = inr (again known (sym same ∙ e) low)
    by (fresh h same) again = ⊎_elim (λ l. inr (again (known + 1) (sym same ∙ e) (omega arith))) (λ g. let s : y ≡ known = omega arith in inl (s ∙ sym h)) (cases_lt known y)
    by (strange same) again = let f : None ≡ Some n = sym same ∙ e in absurd cc

-- ---- the locations of a result

module _ (rename : List ℕ → List ℕ) (extra : List (List ℕ)) (F G : Func) (of_items : IsOfItems rename extra F G) where
  abbrev V : List (List ℕ)
  V = variable_names F.vars

  abbrev W : List (List ℕ)
  W = variable_names G.vars

  argument-named : (y : ℕ) → y < G.args → IsNamed rename F G y
  argument-named y low =
      let t : take F.args V ≡ take G.args W = sym (argument_names_taken F.args F.vars F.formed.args_typed) ∙ ap (map (λ (a : Dest). a.name)) of_items.args ∙ argument_names_taken G.args G.vars G.formed.args_typed in
      let few_f = F.formed.few_args in
      let few_g = G.formed.few_args in
      let long_v = length-map F.vars (λ (v : VarInfo). v.name) in
      let long_w = length-map G.vars (λ (v : VarInfo). v.name) in
      let size_v = length-take F.args V in
      let size_w = length-take G.args W in
      let same : F.args ≡ G.args = omega (arith, ap length t) in
      let mine : y < F.args = omega arith in
      record {
        x = y;
        low = omega arith;
        same = of_items.stay y mine ∙ sym (get_or-take F.args V y [] mine) ∙ ap (λ l. get_or l y []) t ∙ get_or-take G.args W y [] low;
      }

  pub variable-named : (y : ℕ) → y < length G.vars → IsNamed rename F G y ⊎ In (named W y) extra
  variable-named y low = ⊎_elim (λ l. inl (argument-named y l)) later (cases_lt y G.args)
    where
      later : G.args ≤ y → IsNamed rename F G y ⊎ In (named W y) extra
      later above =
          let s = in_flat_map_source variables_of y G.code (appeared G.args (flat_map variables_of G.code) (length G.vars) y G.formed.appear above low) in
          (of_items.items s.0 s.1).variables y s.2

  shadow-named : (ret : Bool) → ((b : Instr) → In b G.code → is_shaped ret b ≡ true) → (y : ℕ) → is_used G.code y ≡ true → (n : IsNamed rename F G y) × (is_used F.code n.x ≡ true)
  shadow-named ret shaped y e =
      let s = Any-from_list_any (names_shadow y) G.code e in
      let i : In s.1 G.code = subst (λ b. In b G.code) s.3 (in_contains (get_or G.code s.0 s.1) G.code (Contains-get_or G.code s.0 s.1 s.2)) in
      (of_items.items s.1 i).shadows y (names-it ret y s.1 (shaped s.1 i) s.4)

  -- the location that a location of G was, or its extra name
  abbrev Stands : Location → Location ⊎ List ℕ → Type 0
  Stands (Variable y) (inl (Variable x)) = (y < length G.vars) × (rename (named V x) ≡ named W y)
  Stands (Variable y) (inl (Shadow x)) = ⊥
  Stands (Variable y) (inr name) = (y < length G.vars) × (name ≡ named W y)
  Stands (Shadow y) (inl (Variable x)) = ⊥
  Stands (Shadow y) (inl (Shadow x)) = (y < length G.vars) × (rename (named V x) ≡ named W y)
  Stands (Shadow y) (inr name) = ⊥

  one-name : (y z : ℕ) (name : List ℕ) → y < length G.vars → z < length G.vars → name ≡ named W y → name ≡ named W z → y ≡ z
  one-name y z name low high a b =
      let long = length-map G.vars (λ (v : VarInfo). v.name) in
      one_number W (Differ-variables G) y z (omega arith) (omega arith) (sym a ∙ b)

  one-stands : (l k : Location) (x : Location ⊎ List ℕ) → Stands l x → Stands k x → l ≡ k
  one-stands (Variable y) (Variable z) (inl (Variable x)) a b = ap Variable (one-name y z (rename (named V x)) a.0 b.0 a.1 b.1)
  one-stands (Variable y) (Variable z) (inl (Shadow x)) a b = absurd a
  one-stands (Variable y) (Variable z) (inr name) a b = ap Variable (one-name y z name a.0 b.0 a.1 b.1)
  one-stands (Variable y) (Shadow z) (inl (Variable x)) a b = absurd b
  one-stands (Variable y) (Shadow z) (inl (Shadow x)) a b = absurd a
  one-stands (Variable y) (Shadow z) (inr name) a b = absurd b
  one-stands (Shadow y) (Variable z) (inl (Variable x)) a b = absurd a
  one-stands (Shadow y) (Variable z) (inl (Shadow x)) a b = absurd b
  one-stands (Shadow y) (Variable z) (inr name) a b = absurd a
  one-stands (Shadow y) (Shadow z) (inl (Variable x)) a b = absurd a
  one-stands (Shadow y) (Shadow z) (inl (Shadow x)) a b = ap Shadow (one-name y z (rename (named V x)) a.0 b.0 a.1 b.1)
  one-stands (Shadow y) (Shadow z) (inr name) a b = absurd a

  abbrev was : Location → Location ⊎ List ℕ
  was l = inl l

  abbrev new : List ℕ → Location ⊎ List ℕ
  new name = inr name

  pub few-locations : (ret : Bool) → ((b : Instr) → In b G.code → is_shaped ret b ≡ true) → location_count G ≤ location_count F + length extra
  few-locations ret shaped =
      let few = locations-few G Stands (map was (locations_of F) ++ map new extra) each one-stands in
      let both = length-append (map was (locations_of F)) (map new extra) in
      let old_ones : length (map was (locations_of F)) ≡ length (locations_of F) = length-map (locations_of F) was in
      let new_ones : length (map new extra) ≡ length extra = length-map extra new in
      let count = locations-counted F in
      omega arith
    where
      there : (l : Location) → IsLocationOf F l → In (was l) (map was (locations_of F) ++ map new extra)
      there l is = in_append_left (was l) (map was (locations_of F)) (map new extra) (in_map was l (locations_of F) (location-listed F l is))

      each : (l : Location) → IsLocationOf G l → (x : Location ⊎ List ℕ) × In x (map was (locations_of F) ++ map new extra) × Stands l x
      each (Variable y) low =
          ⊎_elim (λ n. (inl (Variable n.x), there (Variable n.x) n.low, (low, n.same))) (λ i. (inr (named W y), in_append_right (new (named W y)) (map was (locations_of F)) (map new extra) (in_map new (named W y) extra i), (low, refl)))
          (variable-named y low)
      each (Shadow y) h = let n = shadow-named ret shaped y h.1 in (inl (Shadow n.0.x), there (Shadow n.0.x) (n.0.low, n.1), (h.0, n.0.same))

  -- of a function of an accepted program
  pub accepted-locations : (Q : Prog) → IsAccepted Q → (f : ℕ) → slice_get Q.funcs f ≡ Some G → location_count G ≤ location_count F + length extra
  accepted-locations Q accepted f q =
      few-locations (is_some G.ret) (λ b i. all_in (λ b. is_shaped (is_some G.ret) b ≡ true) G.code (all_in (IsAcceptedFunction Q) Q.funcs accepted.functions G (get_in Q.funcs f G q)).shaped b i)
