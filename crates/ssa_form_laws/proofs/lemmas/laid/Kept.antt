-- The `get`s that stay behind a label: they are those of the tables without the trivial ones, each once, and no more than the function
-- has locations.
use Rattle.std.proofs.Common.{◌≡◌, ◌≢◌, ◌⊎◌, ℕ, ◌+◌, ◌-◌, ◌<◌, ◌≤◌, min, Bool, true, false, cond, ◌&&◌, List, [], ◌∷◌, length, map, take, drop, get_or, Option, Some, None, is_some, refl, sym, ap, subst, ◌∙◌, inl, inr, arith}
use Rattle.std.specs.Prelude.{◌==◌, nat_le, slice_index, slice_range}
use Rattle.std.specs.List.{AllPairs}
use Rattle.std.proofs.lemmas.Bool.{eq-eqb, eqb-false, eqb-true}
use Rattle.std.proofs.lemmas.List.{get_or-drop, get_or-take, length-drop, length-take}
use Rattle.std.proofs.lemmas.List.Folds.{list_any_at}
use Rattle.std.proofs.lemmas.List.Kept.{AllPairs-filter}
use Rattle.std.proofs.lemmas.Option.{get_or_from_slice_get, same_Some, slice_get-get_or, slice_get_within}
use Rattle.bril_tree.specs.declared.function_tree.FuncTree.{FuncTree}
use Rattle.bril_tree.specs.declared.numbered.Instr.{Instr}
use Rattle.bril_tree.specs.declared.numbered.Instr.TheVariants.{Label, Const, Act}
use Rattle.bril_tree.specs.declared.numbered_function.Func.{Func}
use Rattle.bril_tree.specs.declared.operation.Op.TheVariants as op
use Rattle.bril_tree.specs.FrameWords.{is_number, location_count, names_shadow}
use Rattle.bril_tree.specs.Live.{IsLive}
use Rattle.bril_tree.specs.Membership.{In}
use Rattle.bril_tree.specs.Operand.{Location, Shadow, Variable, reads_of, shadow_of}
use Rattle.bril_tree.specs.Shape.{shape_fault_of}
use Rattle.bril_tree.specs.Sites.{AreSitesSound}
use Rattle.bril_tree.proofs.Counting.{no_more}
use Rattle.bril_tree.proofs.Members.{contains_in, in_contains, in_map_source}
use Rattle.flow_graph.specs.Location.{number_of}
use Rattle.ssa_laws.proofs.lemmas.live_entries.Deciding.{live-read}
use Rattle.pass_edit_laws.proofs.lemmas.numbers.Different.{filter_in, in_filter}
use Rattle.pass_edit_laws.proofs.lemmas.numbers.Locations.{IsLocationOf, location-listed, locations-counted, locations_of}
use Rattle.ssa_build.specs.code.Items.{stays}
use Rattle.ssa_build.specs.code.Sweep.{LayoutView, kept_at, part, row_in}
use Rattle.ssa_search.specs.gets.Wants.{gets_of}
use Rattle.ssa_search.proofs.lemmas.gets.Finding.{live-below}
use Rattle.ssa_search.specs.declared.renaming.now.WantedGet.{WantedGet}
use Rattle.ssa_laws.specs.reaching_definitions.Tables.{Tables, kept, replaced, resolved}
use Rattle.ssa_laws.specs.reaching_definitions.Told.{table_of}
use Rattle.ssa_build.specs.tree.Made.{IsLaidFunction}
use Rattle.ssa_form_laws.specs.laid.Tables.{find_of, resolved_table, view_of}

-- ---- lists that differ

abbrev DifferGets : List WantedGet → Type 0
DifferGets gets = AllPairs (λ p q. p ≢ q) gets

dropped : (n : ℕ) (xs : List WantedGet) → DifferGets xs → DifferGets (drop n xs)
dropped n xs h i j d less low e = h (n + i) (n + j) d (omega arith) (let s = length-drop n xs in omega (arith, s, low)) (sym (get_or-drop n xs i d) ∙ e ∙ get_or-drop n xs j d)

both-low : (n m j l : ℕ) → l ≡ min n m → j < l → (j < n) × (j < m)
both-low n m j l e h = (grind arith, grind arith)

taken : (n : ℕ) (xs : List WantedGet) → DifferGets xs → DifferGets (take n xs)
taken n xs h i j d less low e =
    let b = both-low n (length xs) j (length (take n xs)) (length-take n xs) low in
    let jn = b.0 in
    h i j d less b.1 (sym (get_or-take n xs i d (omega (arith, less, jn))) ∙ e ∙ get_or-take n xs j d jn)

part-differ : (list : List WantedGet) (from to : ℕ) → DifferGets list → DifferGets (part list from to)
part-differ list from to h = by (nat_le from to && nat_le to (length list))
  where
    by : (b : Bool) → DifferGets (cond b (slice_range list from to) [])
    by true = taken (to - from) (drop from list) (dropped from list h)
    by false = λ i j d less low e. omega (arith, low)

-- ---- shadows that are read

get-shadow : (d : Option ℕ) (x : ℕ) → In (Shadow x) (shadow_of d) → is_number x d ≡ true
get-shadow None x i = absurd i
get-shadow (Some y) x (inl e) = eq-eqb x y (let s : x ≡ y = cc in s)
get-shadow (Some y) x (inr i) = absurd i

second-plain : (x y : ℕ) → In (Shadow x) (Variable y ∷ []) → ⊥
second-plain x y (inl e) = absurd cc
second-plain x y (inr i) = i

all-plain : (x : ℕ) (args : List ℕ) → In (Shadow x) (map Variable args) → ⊥
all-plain x args i = let s = in_map_source Variable (Shadow x) args i in let e : Shadow x ≡ Variable s.0 = s.2 in absurd cc

shadow-read : (a : Instr) (x : ℕ) → In (Shadow x) (reads_of a) → names_shadow x a ≡ true
shadow-read (Label l) x i = absurd i
shadow-read (Const d ty v) x i = absurd i
shadow-read (Act d ty op.Get args fns ls) x i = get-shadow d x i
shadow-read (Act d ty op.Set args fns ls) x i = absurd (second-plain x (slice_index args 1) i)
shadow-read (Act d ty _ args fns ls) x i = absurd (all-plain x args i)

pub live-location : (F : Func) → shape_fault_of (is_some F.ret) F.code ≡ None → AreSitesSound F.code → (a : Location) (k : ℕ) → IsLive F.code a k → IsLocationOf F a
live-location F shaped sound (Variable x) k live = let low = live-below F shaped (Variable x) k live in omega (arith, low)
live-location F shaped sound (Shadow x) k live =
    let low = live-below F shaped (Shadow x) k live in
    let r = live-read F.code sound (Shadow x) k live in
    let named = shadow-read r.1 x r.3 in (
      omega (arith, low),
      list_any_at (names_shadow x) F.code r.0 r.1 (slice_get_within F.code r.0 r.1 r.2) (ap (names_shadow x) (get_or_from_slice_get F.code r.0 r.1 r.1 r.2) ∙ named),
    )

same_get : (p q : WantedGet) → p.location ≡ q.location → p.definition ≡ q.definition → p ≡ q
same_get p q e d = λ i. record { location = e i; definition = d i }

module _ (F : Func) (function g : FuncTree) (x : IsLaidFunction F function g) where
  abbrev pub G : ℕ → Location → Option ℕ
  G = gets_of x.wants

  abbrev pub n : Tables
  n = table_of F.code F.args G

  abbrev pub m : Tables
  m = resolved_table F function g x

  abbrev pub l : LayoutView
  l = view_of F function g x

  abbrev pub find : ℕ → ℕ
  find = find_of F function g x

  abbrev pub row : ℕ → List WantedGet
  row k = row_in l.starts l.list k

  -- ---- which `get`s stay

  pub kept-is : (o : Option ℕ) (y : ℕ) → kept find o ≡ Some y → (o ≡ Some y) × (find y ≡ y)
  kept-is None y e = absurd cc
  kept-is (Some u) y e = by (find u == u) refl e
    where
      by : (b : Bool) → (find u == u) ≡ b → cond b (Some u) None ≡ Some y → (Some u ≡ Some y) × (find y ≡ y)
      by true t h = (h, subst (λ z. find z ≡ z) (same_Some u y h) (eqb-true (find u) u t))
      by false t h = absurd cc

  pub kept-back : (o : Option ℕ) (y : ℕ) → o ≡ Some y → find y ≡ y → kept find o ≡ Some y
  kept-back o y e h = ap (kept find) e ∙ ap (λ b. cond b (Some y) None) (eq-eqb (find y) y h)

  -- what the tables tell once the trivial `get`s are left out: what stands for one of these, or for what was told
  pub resolved-cases : (w o : Option ℕ) (y : ℕ) → resolved find w o ≡ Some y → ((u : ℕ) × (w ≡ Some u) × (find u ≡ u → ⊥) × (find u ≡ y)) ⊎ ((u : ℕ) × (o ≡ Some u) × (find u ≡ y))
  resolved-cases None None y e = absurd cc
  resolved-cases None (Some u) y e = inr (u, refl, same_Some (find u) y e)
  resolved-cases (Some u) o y e = by (find u == u) refl o e
    where
      by : (b : Bool) → (find u == u) ≡ b → (o : Option ℕ) → cond b (replaced find o) (Some (find u)) ≡ Some y → ((v : ℕ) × (Some u ≡ Some v) × (find v ≡ v → ⊥) × (find v ≡ y)) ⊎ ((v : ℕ) × (o ≡ Some v) × (find v ≡ y))
      by false t o h = inl (u, refl, eqb-false (find u) u t, same_Some (find u) y h)
      by true t None h = absurd cc
      by true t (Some v) h = inr (v, refl, same_Some (find v) y h)

  pub in-kept : (k y : ℕ) (a : Location) → m.gets k a ≡ Some y → In (record { location = number_of a; definition = y }) (kept_at l k)
  in-kept k y a e =
      let h = kept-is (G k a) y e in
      in_filter (stays x.find) (row k) (record { location = number_of a; definition = y }) (in_contains (record { location = number_of a; definition = y }) (row k) ((x.are_gets k).there a y h.0)) (eq-eqb (slice_index x.find y) y h.1)

  pub record IsKept (k : ℕ) (get : WantedGet) : Type 0 where
    pub location : Location
    pub number : get.location ≡ number_of location
    pub wanted : G k location ≡ Some get.definition
    pub stays : find get.definition ≡ get.definition

  pub kept-only : (k : ℕ) (get : WantedGet) → In get (kept_at l k) → IsKept k get
  kept-only k get i =
      let h = filter_in (stays x.find) (row k) get i in
      let o = (x.are_gets k).only get (contains_in get (row k) h.0) in
      record { location = o.0; number = o.1; wanted = o.2; stays = eqb-true (slice_index x.find get.definition) get.definition h.1 }

  pub kept-got : (k : ℕ) (get : WantedGet) (h : IsKept k get) → m.gets k h.location ≡ Some get.definition
  kept-got k get h = kept-back (G k h.location) get.definition h.wanted h.stays

  pub kept-one : (j k : ℕ) (p q : WantedGet) → In p (kept_at l j) → In q (kept_at l k) → p.definition ≡ q.definition → p ≡ q
  kept-one j k p q i h e =
      let a = kept-only j p i in
      let b = kept-only k q h in
      let o = x.are_wants.wanted.once j k p.definition a.location b.location a.wanted (b.wanted ∙ ap Some (sym e)) in
      same_get p q (a.number ∙ ap number_of o.1 ∙ sym b.number) e

  -- ---- how many

  list-differ : DifferGets x.wants.list
  list-differ i j d less low e =
      let p = x.are_wants.numbered i (get_or x.wants.list i d) (slice_get-get_or x.wants.list i d (omega (arith, less, low))) in
      let q = x.are_wants.numbered j (get_or x.wants.list j d) (slice_get-get_or x.wants.list j d low) in
      let s = ap (λ (w : WantedGet). w.definition) e in
      omega (arith, p, q, s, less)

  pub kept-differ : (k : ℕ) → AllPairs (λ p q. p ≢ q) (kept_at l k)
  kept-differ k = AllPairs-filter (λ p q. p ≢ q) (stays x.find) (row k) (part-differ l.list (slice_index l.starts k) (slice_index l.starts (k + 1)) list-differ)

  pub kept-few : shape_fault_of (is_some F.ret) F.code ≡ None → AreSitesSound F.code → (k : ℕ) → length (kept_at l k) ≤ location_count F
  kept-few shaped sound k =
      let count = locations-counted F in
      let few = no_more (λ (get : WantedGet) (a : Location). (get.location ≡ number_of a) × (G k a ≡ Some get.definition)) (kept_at l k) (locations_of F) (kept-differ k)
      (λ get i. let h = kept-only k get i in (h.location, location-listed F h.location (live-location F shaped sound h.location k (x.are_wants.wanted.live k get.definition h.location h.wanted)), (h.number, h.wanted)))
      (λ p q a r s. same_get p q (r.0 ∙ sym s.0) (same_Some p.definition q.definition (sym r.1 ∙ s.1))) in
      omega (arith, count, few)
