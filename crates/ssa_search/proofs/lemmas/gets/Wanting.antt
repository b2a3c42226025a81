-- Rows of `get`s, one for each location that is live at a reached label, are the wanted `get`s.
use Rattle.std.proofs.Common.{◌≡◌, ◌≢◌, ◌↔◌, ℕ, zero, suc, ◌+◌, ◌-◌, ◌*◌, ◌<◌, ◌≤◌, Bool, true, false, cond, List, [], ◌∷◌, length, take, drop, get_or, Option, Some, None, refl, sym, ap, subst, ◌∙◌, inl, inr, ⊎_elim, arith}
use Rattle.std.specs.Prelude.{◌==◌, is_some, slice_get, slice_index, slice_range}
use Rattle.std.specs.List.{All, AllPairs}
use Rattle.std.proofs.lemmas.Bool.{cases_eq, cases_lt, eq-eqb, eqb-true}
use Rattle.std.proofs.lemmas.List.{get_or_past}
use Rattle.std.proofs.lemmas.List.Elements.{Contains-get_or}
use Rattle.std.proofs.lemmas.Option.{same_Some, slice_get_within}
use Rattle.bril_tree.specs.declared.numbered.Instr.{Instr}
use Rattle.bril_tree.specs.declared.numbered.Instr.TheVariants.{Label, Const, Act}
use Rattle.bril_tree.specs.declared.numbered_function.Func.{Func}
use Rattle.bril_tree.specs.Live.{IsLive}
use Rattle.bril_tree.specs.Membership.{In}
use Rattle.bril_tree.specs.Operand.{Location}
use Rattle.bril_tree.specs.Shape.{shape_fault_of}
use Rattle.bril_tree.proofs.Counting.{differ-first, differ-rest}
use Rattle.bril_tree.proofs.Elements.{get_in, in_get}
use Rattle.bril_tree.proofs.Members.{contains_in, in_contains, in_map, in_map_source}
use Rattle.flow_graph.specs.Location.{number_of}
use Rattle.flow_graph.proofs.Locations.{number-one}
use Rattle.flow_graph.specs.Accesses.{Accesses}
use Rattle.flow_graph.specs.declared.reads.Access.{Access}
use Rattle.ssa_search.specs.gets.Found.{AreFoundBefore, IsLiveNumber, found_at}
use Rattle.ssa_search.specs.placing.Blocks.{IsLiveLabel}
use Rattle.ssa_search.specs.gets.Rows.{AreRowsBefore, IsRow, locations_of}
use Rattle.ssa_search.specs.gets.Wants.{AreWantsOf, WantsView, definition_in, gets_of, row_of}
use Rattle.ssa_search.proofs.lemmas.gets.Finding.{live-below}
use Rattle.ssa_search.specs.declared.renaming.now.WantedGet.{WantedGet}
use Rattle.ssa_laws.specs.reaching_definitions.Told.{AreWanted}
use Rattle.ssa_search.specs.placing.Wanted.{is_label}

-- ---- the definition of a location's `get`

pub definition-there : (gets : List WantedGet) (n y : ℕ) → definition_in gets n ≡ Some y → In {A = WantedGet} (record { location = n; definition = y }) gets
definition-there [] n y e = absurd (let h : None ≡ Some y = e in cc)
definition-there (get ∷ gets) n y e = by (λ k. definition-there gets n y k) (get.location == n) refl e
  where
    by : (definition_in gets n ≡ Some y → In {A = WantedGet} (record { location = n; definition = y }) gets) → (b : Bool) → (get.location == n) ≡ b → cond b (Some get.definition) (definition_in gets n) ≡ Some y → In {A = WantedGet} (record { location = n; definition = y }) (get ∷ gets)
    by rest true t k = inl (ap (λ m. record { location = m; definition = y }) (sym (eqb-true get.location n t)) ∙ ap (λ d. record { location = get.location; definition = d }) (sym (same_Some get.definition y k)))
    by rest false t k = inr (rest k)

pub definition-only : (gets : List WantedGet) → AllPairs (λ x y. x ≢ y) (locations_of gets) → (get : WantedGet) → In get gets → definition_in gets get.location ≡ Some get.definition
definition-only [] differ get i = absurd i
definition-only (first ∷ gets) differ get (inl e) =
    ap (λ (g : WantedGet). definition_in (first ∷ gets) g.location) e
    ∙ ap (λ b. cond b (Some first.definition) (definition_in gets first.location)) (eq-eqb first.location first.location refl)
    ∙ ap (λ (g : WantedGet). Some g.definition) (sym e)
definition-only (first ∷ gets) differ get (inr i) = by (definition-only gets (differ-rest first.location (locations_of gets) differ) get i) (first.location == get.location) refl
  where
    by : definition_in gets get.location ≡ Some get.definition → (b : Bool) → (first.location == get.location) ≡ b → definition_in (first ∷ gets) get.location ≡ Some get.definition
    by rest true t = absurd (differ-first first.location (locations_of gets) differ get.location (in_map (λ (g : WantedGet). g.location) get gets i) (eqb-true first.location get.location t))
    by rest false t = ap (λ b. cond b (Some first.definition) (definition_in gets get.location)) t ∙ rest

-- ---- parts of a list, by places

drop-get : {A : Type 0} (i : ℕ) (xs : List A) (k : ℕ) (x : A) → slice_get (drop i xs) k ≡ Some x → slice_get xs (i + k) ≡ Some x
drop-get zero xs k x e = let z : k ≡ 0 + k = omega arith in ap (slice_get xs) (sym z) ∙ e
drop-get (suc i) [] k x e = absurd (let h : None ≡ Some x = e in cc)
drop-get (suc i) (y ∷ xs) k x e = let z : suc (i + k) ≡ suc i + k = omega arith in ap (slice_get (y ∷ xs)) (sym z) ∙ drop-get i xs k x e

get-drop : {A : Type 0} (i : ℕ) (xs : List A) (k : ℕ) (x : A) → slice_get xs (i + k) ≡ Some x → slice_get (drop i xs) k ≡ Some x
get-drop zero xs k x e = let z : k ≡ 0 + k = omega arith in ap (slice_get xs) z ∙ e
get-drop (suc i) [] k x e = absurd (let h : None ≡ Some x = e in cc)
get-drop (suc i) (y ∷ xs) k x e = let z : suc (i + k) ≡ suc i + k = omega arith in get-drop i xs k x (ap (slice_get (y ∷ xs)) z ∙ e)

take-get : {A : Type 0} (n : ℕ) (xs : List A) (k : ℕ) (x : A) → slice_get (take n xs) k ≡ Some x → (k < n) × (slice_get xs k ≡ Some x)
take-get zero xs k x e = absurd (let h : None ≡ Some x = e in cc)
take-get (suc n) [] k x e = absurd (let h : None ≡ Some x = e in cc)
take-get (suc n) (y ∷ xs) zero x e = (omega arith, e)
take-get (suc n) (y ∷ xs) (suc k) x e = let r = take-get n xs k x e in (let l = r.0 in omega (arith, l), r.1)

get-take : {A : Type 0} (n : ℕ) (xs : List A) (k : ℕ) (x : A) → k < n → slice_get xs k ≡ Some x → slice_get (take n xs) k ≡ Some x
get-take zero xs k x low e = absurd (omega (arith, low))
get-take (suc n) [] k x low e = absurd (let h : None ≡ Some x = e in cc)
get-take (suc n) (y ∷ xs) zero x low e = e
get-take (suc n) (y ∷ xs) (suc k) x low e = get-take n xs k x (omega (arith, low)) e

-- what is in a part stands between its ends
pub part-place : {A : Type 0} (xs : List A) (i j : ℕ) (x : A) → In x (slice_range xs i j) → (t : ℕ) × (slice_get xs t ≡ Some x) × (i ≤ t) × (t < j)
part-place xs i j x among =
    let g = in_get x (slice_range xs i j) among in
    let t = take-get (j - i) (drop i xs) g.0 x g.1 in
    (i + g.0, drop-get i xs g.0 x t.1, omega arith, let l = t.0 in omega (arith, l))

pub place-part : {A : Type 0} (xs : List A) (i j t : ℕ) (x : A) → slice_get xs t ≡ Some x → i ≤ t → t < j → In x (slice_range xs i j)
place-part xs i j t x at from to =
    let z : i + (t - i) ≡ t = omega (arith, from) in
    get_in (slice_range xs i j) (t - i) x (get-take (j - i) (drop i xs) (t - i) x (omega (arith, from, to)) (get-drop i xs (t - i) x (ap (slice_get xs) z ∙ at)))

none-in_empty : {A : Type 0} (xs : List A) (i j : ℕ) → j ≤ i → slice_range xs i j ≡ []
none-in_empty xs i j over = ap (λ n. take n (drop i xs)) (let z : j - i ≡ 0 = omega (arith, over) in z)

-- ---- all

module _ (F : Func) (shaped : shape_fault_of (is_some F.ret) F.code ≡ None) (v : WantsView) (rows : AreRowsBefore (IsLiveNumber F.code) (F.args + length F.code) (length F.code) v.starts v.list) (few : F.args + length F.code + length v.list < 4294967296) where
  abbrev code : List Instr
  code = F.code

  abbrev start : ℕ → ℕ
  start k = slice_index v.starts k

  -- behind a point that is no item's there is none
  past-empty : (k : ℕ) → length F.code ≤ k → row_of v k ≡ []
  past-empty k over =
      let l = rows.long in
      let e = get_or_past v.starts (suc k) 0 (omega (arith, l, over)) in
      none-in_empty v.list (slice_index v.starts k) (slice_index v.starts (suc k)) (omega (arith, e))

  row-at : (k : ℕ) → k < length F.code → IsRow (IsLiveNumber F.code k) (row_of v k)
  row-at k low = rows.rows k low

  get-within : (k : ℕ) (get : WantedGet) → In get (row_of v k) → k < length F.code
  get-within k get i = ⊎_elim (λ low. low) (λ over. absurd (subst (In get) (past-empty k over) i)) (cases_lt k (length F.code))

  differ-at : (k : ℕ) → AllPairs (λ x y. x ≢ y) (locations_of (row_of v k))
  differ-at k = ⊎_elim (λ low. (row-at k low).differ) (λ over. subst (λ r. AllPairs (λ x y. x ≢ y) (locations_of r)) (sym (past-empty k over)) (λ i j d less inside. absurd (omega arith))) (cases_lt k (length F.code))

  live-at : (k : ℕ) (get : WantedGet) → In get (row_of v k) → IsLiveNumber F.code k get.location
  live-at k get i = ((row-at k (get-within k get i)).exact get.location).0 (contains_in get.location (locations_of (row_of v k)) (in_map (λ (g : WantedGet). g.location) get (row_of v k) i))

  -- the `get` that the table tells
  got : (k y : ℕ) (a : Location) → gets_of v k a ≡ Some y → In {A = WantedGet} (record { location = number_of a; definition = y }) (row_of v k)
  got k y a e = definition-there (row_of v k) (number_of a) y e

  place-of : (k y : ℕ) (a : Location) → gets_of v k a ≡ Some y → (t : ℕ) × (slice_get v.list t ≡ Some (record { location = number_of a; definition = y })) × (start k ≤ t) × (t < start (suc k))
  place-of k y a e = part-place v.list (slice_index v.starts k) (slice_index v.starts (suc k)) (record { location = number_of a; definition = y }) (got k y a e)

  live-label : (k y : ℕ) (a : Location) → gets_of v k a ≡ Some y → IsLiveNumber F.code k (number_of a)
  live-label k y a e = live-at k (record { location = number_of a; definition = y }) (got k y a e)

  label-number : (o : Option Instr) → is_label o ≡ true → (l : ℕ) × (o ≡ Some (Label l))
  label-number None e = absurd cc
  label-number (Some (Label l)) e = (l, refl)
  label-number (Some (Const d ty x)) e = absurd cc
  label-number (Some (Act d ty o args fns ls)) e = absurd cc

  -- starts rise
  rises : (n k : ℕ) → k + n ≤ length F.code → start k ≤ start (k + n)
  rises zero k low = let z : k + 0 ≡ k = omega arith in let e = ap start z in omega (arith, e)
  rises (suc n) k low =
      let before = rises n k (omega (arith, low)) in
      let z : suc (k + n) ≡ k + suc n = omega arith in
      let step = rows.rising (k + n) (omega (arith, low)) in
      let e = ap start z in
      omega (arith, before, step, e)

  -- a place is in one row
  one-row : (j k t : ℕ) → j < length F.code → k < length F.code → start j ≤ t → t < start (suc j) → start k ≤ t → t < start (suc k) → j ≡ k
  one-row j k t jl kl a b c d = ⊎_elim
      (λ same. same)
      (λ differs. absurd (⊎_elim
      (λ less.
      let r = rises (k - suc j) (suc j) (omega (arith, less, kl)) in
      let z : suc j + (k - suc j) ≡ k = omega (arith, less) in
      let e = ap start z in
      omega (arith, r, e, b, c))
      (λ over.
      let r = rises (j - suc k) (suc k) (omega (arith, over, differs, jl)) in
      let z : suc k + (j - suc k) ≡ j = omega (arith, over, differs) in
      let e = ap start z in
      omega (arith, r, e, d, a))
      (cases_lt j k)))
      (cases_eq j k)

  wanted : AreWanted F.code F.args (gets_of v)
  wanted = record {
    wanted = λ k l a at reached live. there k l a at (record { location = a; number = refl; live = record { label = ap is_label at; reached = reached; live = live } });
    label = λ k y a e. label-number (slice_get F.code k) (live-label k y a e).live.label;
    reached = λ k y a e. (live-label k y a e).live.reached;
    live = λ k y a e. let l = live-label k y a e in subst (λ b. is-live b k) (number-one l.location a l.number) l.live.live;
    above = λ k y a e. let p = place-of k y a e in let n = rows.numbered p.0 (record { location = number_of a; definition = y }) p.1 in omega (arith, n);
    once = once;
  }
    where
      is-live : Location → ℕ → Type 0
      is-live b k = IsLive F.code b k

      there : (k l : ℕ) (a : Location) → slice_get F.code k ≡ Some (Label l) → IsLiveNumber F.code k (number_of a) → (y : ℕ) × (gets_of v k a ≡ Some y)
      there k l a at n =
          let low = slice_get_within F.code k (Label l) at in
          let c = ((row-at k low).exact (number_of a)).1 n in
          let s = in_map_source (λ (g : WantedGet). g.location) (number_of a) (row_of v k) (in_contains (number_of a) (locations_of (row_of v k)) c) in
          (s.0.definition, ap (definition_in (row_of v k)) s.2 ∙ definition-only (row_of v k) (differ-at k) s.0 s.1)

      once : (j k y : ℕ) (a b : Location) → gets_of v j a ≡ Some y → gets_of v k b ≡ Some y → (j ≡ k) × (a ≡ b)
      once j k y a b g h =
          let p = place-of j y a g in
          let q = place-of k y b h in
          let m = rows.numbered p.0 (record { location = number_of a; definition = y }) p.1 in
          let n = rows.numbered q.0 (record { location = number_of b; definition = y }) q.1 in
          let same : p.0 ≡ q.0 = omega (arith, m, n) in
          let both : Some (record { location = number_of a; definition = y }) ≡ Some (record { location = number_of b; definition = y }) = sym p.1 ∙ ap (slice_get v.list) same ∙ q.1 in (
            one-row j k p.0 (get-within j _ (got j y a g)) (get-within k _ (got k y b h)) p.2 p.3 (let l = q.2 in omega (arith, same, l)) (let l = q.3 in omega (arith, same, l)),
            number-one a b (ap (λ (x : WantedGet). x.location) (same_Some _ _ both)),
          )

  -- the row in which a place stands
  row-of_place : (n t : ℕ) → n ≤ length F.code → t < start n → (k : ℕ) × (k < n) × (start k ≤ t) × (t < start (suc k))
  row-of_place zero t low less = absurd (let f = rows.first in omega (arith, less, f))
  row-of_place (suc n) t low less = ⊎_elim
      (λ before. let r = row-of_place n t (omega (arith, low)) before in (r.0, let l = r.1 in omega (arith, l), r.2, r.3))
      (λ over. (n, omega arith, over, less))
      (cases_lt t (start n))

  pub are-wants : AreWantsOf F v
  are-wants = record {
    wanted = wanted;
    points = rows.long ∙ (let z : suc (length F.code) ≡ length F.code + 1 = omega arith in z);
    rows = λ k. record {
      there = λ a y e. contains_in _ (row_of v k) (got k y a e);
      only = λ get c.
          let i = in_contains get (row_of v k) c in
          let l = live-at k get i in
          (l.location, sym l.number, ap (definition_in (row_of v k)) l.number ∙ definition-only (row_of v k) (differ-at k) get i);
    };
    numbered = rows.numbered;
    few = few;
    placed = λ t get at.
        let low = slice_get_within v.list t get at in
        let last = rows.last in
        let r = row-of_place (length F.code) t (omega arith) (omega (arith, low, last)) in
        (r.0, contains_in get (row_of v r.0) (place-part v.list (start r.0) (start (suc r.0)) t get at r.2 r.3));
    listed = λ k get c. let p = part-place v.list (slice_index v.starts k) (slice_index v.starts (suc k)) get (in_contains get (row_of v k) c) in (p.0, p.1);
    locations = λ t d low. below t d low;
  }
    where
      below : (t : ℕ) (d : WantedGet) → t < length v.list → (get_or v.list t d).location < 2 * length F.vars
      below t d low =
          let g = in_get (get_or v.list t d) v.list (in_contains (get_or v.list t d) v.list (Contains-get_or v.list t d low)) in
          let inside = slice_get_within v.list g.0 (get_or v.list t d) g.1 in
          let last = rows.last in
          let r = row-of_place (length F.code) g.0 (omega arith) (omega (arith, inside, last)) in
          let l = live-at r.0 (get_or v.list t d) (place-part v.list (start r.0) (start (suc r.0)) g.0 (get_or v.list t d) g.1 r.2 r.3) in
          let b = live-below F shaped l.location r.0 l.live.live in
          let n = l.number in
          omega (arith, b, n)

-- what was found at a point
pub found-row : (code : List Instr) (bound : ℕ) (found : List Access) → AreFoundBefore code bound found → ((a : Location) (k : ℕ) → IsLiveLabel code a k → number_of a < bound) → (k x : ℕ) → Accesses found k x ↔ IsLiveNumber code k x
found-row code bound found b low k x = (
  (λ c. (b.only (found_at x k) c).0),
  (λ l. b.there k x (let n = l.number in let s = low l.location k l.live in omega (arith, n, s)) l),
)

-- and its items are locations
pub found-within : (code : List Instr) (bound : ℕ) (found : List Access) → AreFoundBefore code bound found → All (λ (access : Access). access.item < bound) found
found-within code bound found b i d low = (b.only (get_or found i d) (Contains-get_or found i d low)).1
