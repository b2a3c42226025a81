-- Where the pieces of laid code stand: before each item its `get`s, each with a type, and then its `set`s.
use Rattle.std.proofs.Common.{◌≡◌, ℕ, zero, suc, ◌+◌, ◌/◌, ◌<◌, ◌≤◌, Bool, true, false, List, [], ◌∷◌, ◌++◌, length, map, Option, Some, None, refl, sym, ap, subst, ◌∙◌, inl, inr, arith, append_assoc}
use Rattle.std.specs.Prelude.{slice_get, slice_index_or}
use Rattle.std.specs.Option.{option_map}
use Rattle.std.proofs.lemmas.List.{length-append, length-map, map-append}
use Rattle.std.proofs.lemmas.Option.{same_Some, slice_get-map, slice_get_within}
use Rattle.bril_tree.specs.declared.function_tree.FuncTree.{FuncTree}
use Rattle.bril_tree.specs.declared.function_tree.Item.{Item}
use Rattle.bril_tree.specs.declared.numbered.VarInfo.{VarInfo}
use Rattle.bril_tree.specs.declared.numbered_function.Func.{Func}
use Rattle.bril_tree.specs.declared.program.Prog.{Prog}
use Rattle.bril_tree.specs.declared.types.Ty.{Ty}
use Rattle.bril_tree.specs.Membership.{In}
use Rattle.bril_tree.specs.Numbered.{function_tree, item_tree, variable_names}
use Rattle.bril_tree.specs.Typing.{variable_type}
use Rattle.bril_tree.proofs.Elements.{get_in}
use Rattle.pass_edit_laws.specs.plan.Spliced.{position_of, start_of}
use Rattle.pass_edit_laws.proofs.lemmas.plan.Splicing.{get-left, get-right}
use Rattle.ssa_build.specs.code.Items.{get_item, get_items, got_item, name_in, put_item, set_item, set_items, typed_get}
use Rattle.ssa_build.specs.code.Sweep.{LayoutView, falls_at, gets_before, kept_at, now_at, sets_falling, sets_leaving, sets_to}
use Rattle.ssa_laws.specs.layout.Laid.{Setting, first, home}
use Rattle.ssa_search.specs.declared.renaming.now.WantedGet.{WantedGet}
use Rattle.ssa_build.specs.tree.Made.{IsLaidFunction}
use Rattle.ssa_build.specs.tree.Standing.{ItemsStand, before_in, nothing}
use Rattle.ssa_build.proofs.lemmas.tree.Standing.{laid-stand}
use Rattle.ssa_form_laws.specs.laid.Tables.{FunctionTables, function_tables, setting_of, settings_falling, settings_leaving, settings_to}
use Rattle.ssa_form_laws.proofs.lemmas.laid.Kept.{G, l}

-- ---- `set`s, by settings

module _ (names : List (List ℕ)) where
  abbrev pub put_of : Setting → Item
  put_of s = put_item (name_in names s.get) (name_in names s.from)

  module _ (find now : List ℕ) where
    puts-all : (gets : List WantedGet) → set_items names find now gets ≡ map put_of (map (setting_of find now) gets)
    puts-all [] = refl
    puts-all (get ∷ gets) = ap (λ (r : List Item). set_item names find now get ∷ r) (puts-all gets)

-- ---- `get`s, each with its type

module _ (vars : List VarInfo) (names : List (List ℕ)) where
  abbrev HasType : WantedGet → Type 0
  HasType get = (ty : Ty) × (variable_type vars (get.location / 2) ≡ Some ty)

  one-get : (get : WantedGet) (h : HasType get) → get_item vars names get ≡ got_item (name_in names get.definition) h.0 ∷ []
  one-get get h = ap (λ o. typed_get o (name_in names get.definition)) h.1

  gets-long : (gets : List WantedGet) → ((get : WantedGet) → In get gets → HasType get) → length (get_items vars names gets) ≡ length gets
  gets-long [] each = refl
  gets-long (get ∷ gets) each =
      let rest = gets-long gets (λ w i. each w (inr i)) in
      let here = one-get get (each get (inl refl)) in
      let both : length (get_item vars names get ++ get_items vars names gets) ≡ suc (length (get_items vars names gets)) = ap (λ (r : List Item). length (r ++ get_items vars names gets)) here in
      omega (arith, rest, both)

  get-at : (gets : List WantedGet) → ((get : WantedGet) → In get gets → HasType get) → (t : ℕ) (get : WantedGet) → slice_get gets t ≡ Some get → (h : HasType get) × (slice_get (get_items vars names gets) t ≡ Some (got_item (name_in names get.definition) h.0))
  get-at [] each t get e = absurd (let h : None ≡ Some get = e in cc)
  get-at (w ∷ gets) each zero get e =
      let same : w ≡ get = same_Some w get e in
      let h = each w (inl refl) in
      let k : HasType get = subst HasType same h in
      (k, ap (λ (r : List Item). slice_get (r ++ get_items vars names gets) 0) (one-get w h) ∙ moved w get same h)
    where
      moved : (w get : WantedGet) (same : w ≡ get) (h : HasType w) → Some (got_item (name_in names w.definition) h.0) ≡ Some (got_item (name_in names get.definition) (subst HasType same h).0)
      moved w get same h =
          let k : HasType get = subst HasType same h in
          let ty : h.0 ≡ k.0 = same_Some h.0 k.0 (sym h.1 ∙ ap (λ (v : WantedGet). variable_type vars (v.location / 2)) same ∙ k.1) in
          ap (λ (v : WantedGet). Some (got_item (name_in names v.definition) h.0)) same ∙ ap (λ (u : Ty). Some (got_item (name_in names get.definition) u)) ty
  get-at (w ∷ gets) each (suc t) get e =
      let h = get-at gets (λ v i. each v (inr i)) t get e in
      (h.0, ap (λ (r : List Item). slice_get (r ++ get_items vars names gets) (suc t)) (one-get w (each w (inl refl))) ∙ h.1)

module _ (F : Func) (functions : List (List ℕ)) (g : FuncTree) (x : IsLaidFunction F (function_tree functions F) g) (typed : (k : ℕ) (get : WantedGet) → In get (kept_at (l F (function_tree functions F) g x) k) → (ty : Ty) × (variable_type F.vars (get.location / 2) ≡ Some ty)) where
  abbrev view : LayoutView
  view = l F (function_tree functions F) g x

  abbrev pub T : FunctionTables
  T = function_tables F (function_tree functions F) g x

  abbrev array : ℕ → List ℕ
  array i = now_at x.laid.nows i

  abbrev falls : ℕ → Bool
  falls i = falls_at F.code x.graph.sites i

  abbrev labels : ℕ → List ℕ
  labels i = slice_index_or x.rows i []

  abbrev pub before : ℕ → List Item
  before i = before_in F x.graph.sites view x.laid.nows i

  puts-falling : (b : Bool) (i k : ℕ) → sets_falling view (array i) b k ≡ map (put_of x.names) (settings_falling view (array i) b k)
  puts-falling true i k = puts-all x.names x.find (array i) (kept_at view k)
  puts-falling false i k = refl

  puts-leaving : (i : ℕ) (row : List ℕ) → sets_leaving view (array i) row ≡ map (put_of x.names) (settings_leaving view (array i) row)
  puts-leaving i [] = refl
  puts-leaving i (k ∷ row) =
      ap (λ (r : List Item). sets_to view (array i) k ++ r) (puts-leaving i row) ∙ ap (λ (r : List Item). r ++ map (put_of x.names) (settings_leaving view (array i) row)) (puts-all x.names x.find (array i) (kept_at view k))
      ∙ sym (map-append (put_of x.names) (settings_to view (array i) k) (settings_leaving view (array i) row))

  -- the `get`s, and then the `set`s
  before-is : (i : ℕ) → before i ≡ gets_before view i ++ map (put_of x.names) (T.sets i)
  before-is i =
      append_assoc (gets_before view i) (sets_falling view (array i) (falls i) i) (sets_leaving view (array i) (labels i))
      ∙ ap (λ (r : List Item). gets_before view i ++ r)
      (ap (λ (r : List Item). r ++ sets_leaving view (array i) (labels i)) (puts-falling (falls i) i i) ∙ ap (λ (r : List Item). map (put_of x.names) (settings_falling view (array i) (falls i) i) ++ r) (puts-leaving i (labels i))
      ∙ sym (map-append (put_of x.names) (settings_falling view (array i) (falls i) i) (settings_leaving view (array i) (labels i))))

  before-gets : (i : ℕ) → length (gets_before view i) ≡ length (T.gets i)
  before-gets zero = refl
  before-gets (suc k) =
      let h = gets-long F.vars x.names (kept_at view k) (typed k) in
      let m = length-map (kept_at view k) (λ (w : WantedGet). w.definition) in
      omega (arith, h, m)

  pub before-long : (i : ℕ) → length (before i) ≡ length (T.gets i) + length (T.sets i)
  before-long i =
      let e = ap (λ (r : List Item). length r) (before-is i) in
      let a = length-append (gets_before view i) (map (put_of x.names) (T.sets i)) in
      let m = length-map (T.sets i) (put_of x.names) in
      let h = before-gets i in
      omega (arith, e, a, m, h)

  -- ---- positions

  module _ (P Q : Prog) (f : ℕ) where
    abbrev pub home_of : ℕ → ℕ
    home_of i = home P Q (λ _. T.table) (λ _. T.name) (λ _. T.gets) (λ _. T.sets) f i

    abbrev pub first_of : ℕ → ℕ
    first_of i = first P Q (λ _. T.table) (λ _. T.name) (λ _. T.gets) (λ _. T.sets) f i

    pub home-is : (i : ℕ) → home_of i ≡ position_of before nothing i
    home-is zero = let h = before-long 0 in omega (arith, h)
    home-is (suc i) = let e = home-is i in let h = before-long (suc i) in omega (arith, e, h)

    pub first-is : (i : ℕ) → first_of i ≡ start_of before nothing i
    first-is zero = refl
    first-is (suc i) = let e = home-is i in omega (arith, e)

  -- ---- what stands there

  code-long : length (function_tree functions F).code ≡ length F.code
  code-long = length-map F.code (item_tree functions (variable_names F.vars) F.labels)

  pub stand : ItemsStand F x.graph.sites view x.laid.nows (function_tree functions F).code x.made
  stand = laid-stand F x.graph.sites view (G F (function_tree functions F) g x) (function_tree functions F).code x.made code-long x.laid

  in-front : (i k : ℕ) → i ≤ length F.code → k < length (before i) → slice_get x.made (start_of before nothing i + k) ≡ slice_get (before i) k
  in-front i k low less = stand.in_front i k (let c = code-long in omega (arith, c, low)) less

  -- a `get` before an item, with its label and its type
  pub record GetStands (i t y : ℕ) : Type 0 where
    pub label : ℕ
    pub is : i ≡ suc label
    pub get : WantedGet
    pub among : In get (kept_at view label)
    pub definition : get.definition ≡ y
    pub ty : Ty
    pub has : variable_type F.vars (get.location / 2) ≡ Some ty
    pub at : slice_get x.made (start_of before nothing i + t) ≡ Some (got_item (name_in x.names y) ty)

  pub get-stands : (i t y : ℕ) → i ≤ length F.code → slice_get (T.gets i) t ≡ Some y → GetStands i t y
  get-stands zero t y low at = absurd (let h : None ≡ Some y = at in cc)
  get-stands (suc k) t y low at = found (slice_get (kept_at view k) t) refl
    where
      by-get : (o : Option WantedGet) → slice_get (kept_at view k) t ≡ o → option_map (λ (w : WantedGet). w.definition) o ≡ Some y
      by-get o e = ap (option_map (λ (w : WantedGet). w.definition)) (sym e) ∙ sym (slice_get-map (λ (w : WantedGet). w.definition) (kept_at view k) t) ∙ at

      found : (o : Option WantedGet) → slice_get (kept_at view k) t ≡ o → GetStands (suc k) t y
      found None e = absurd (let h : None ≡ Some y = by-get None e in cc)
      found (Some get) e =
          let same : get.definition ≡ y = same_Some get.definition y (by-get (Some get) e) in
          let h = get-at F.vars x.names (kept_at view k) (typed k) t get e in
          let less = slice_get_within (kept_at view k) t get e in
          let long = gets-long F.vars x.names (kept_at view k) (typed k) in
          let all = before-long (suc k) in
          let m = length-map (kept_at view k) (λ (w : WantedGet). w.definition) in
          let front = in-front (suc k) t low (omega (arith, all, m, less)) in
          record {
            label = k;
            is = refl;
            get = get;
            among = get_in (kept_at view k) t get e;
            definition = same;
            ty = h.0.0;
            has = h.0.1;
            at = front ∙ ap (λ (r : List Item). slice_get r t) (before-is (suc k)) ∙ get-left (gets_before view (suc k)) (map (put_of x.names) (T.sets (suc k))) t (omega (arith, long, less)) ∙ h.1
                ∙ ap (λ d. Some (got_item (name_in x.names d) h.0.0)) same;
          }

  -- a `set` before an item
  pub set-stands : (i t : ℕ) (s : Setting) → i ≤ length F.code → slice_get (T.sets i) t ≡ Some s → slice_get x.made (start_of before nothing i + length (T.gets i) + t) ≡ Some (put_of x.names s)
  set-stands i t s low at =
      let less = slice_get_within (T.sets i) t s at in
      let all = before-long i in
      let front = in-front i (length (T.gets i) + t) low (omega (arith, all, less)) in
      let place : start_of before nothing i + length (T.gets i) + t ≡ start_of before nothing i + (length (T.gets i) + t) = omega arith in
      let h = before-gets i in
      let local : length (T.gets i) + t ≡ length (gets_before view i) + t = omega (arith, h) in
      ap (slice_get x.made) place ∙ front ∙ ap (λ (r : List Item). slice_get r (length (T.gets i) + t)) (before-is i) ∙ ap (slice_get (gets_before view i ++ map (put_of x.names) (T.sets i))) local
      ∙ get-right (gets_before view i) (map (put_of x.names) (T.sets i)) t ∙ slice_get-map (put_of x.names) (T.sets i) t ∙ ap (option_map (put_of x.names)) at
