-- What stands before the items of laid code: `get`s that stay, behind their labels, and `set`s of these.
use Rattle.std.proofs.Common.{◌≡◌, ◌≢◌, ◌⊎◌, ℕ, zero, suc, ◌+◌, ◌-◌, ◌<◌, ◌≤◌, ◌/◌, Bool, true, false, cond, ◌&&◌, List, [], ◌∷◌, ◌++◌, length, map, take, drop, get_or, Option, Some, None, refl, sym, ap, ◌∙◌, inl, inr, ⊎_elim, arith, append_assoc}
use Rattle.std.specs.Prelude.{nat_le, slice_get, slice_index, slice_index_or, slice_range}
use Rattle.std.specs.List.{AllPairs}
use Rattle.std.proofs.lemmas.Bool.{cases_lt, eqb-true}
use Rattle.std.proofs.lemmas.List.{get_or-drop, get_or-take, length-drop, length-take}
use Rattle.std.proofs.lemmas.List.Kept.{AllPairs-filter}
use Rattle.std.proofs.lemmas.Option.{slice_get_within, slice_get-get_or}
use Rattle.bril_tree.specs.declared.function_tree.FuncTree.{FuncTree}
use Rattle.bril_tree.specs.declared.function_tree.Item.{Item}
use Rattle.bril_tree.specs.declared.numbered.VarInfo.{VarInfo}
use Rattle.bril_tree.specs.declared.numbered_function.Func.{Func}
use Rattle.bril_tree.specs.declared.types.Ty.{Ty}
use Rattle.bril_tree.specs.Membership.{In}
use Rattle.bril_tree.specs.Numbered.{function_tree}
use Rattle.bril_tree.specs.Operand.{Location}
use Rattle.bril_tree.specs.Typing.{variable_type}
use Rattle.bril_tree.proofs.Elements.{get_in, in_get}
use Rattle.bril_tree.proofs.Members.{contains_in, in_append_cases, in_append_left, in_append_right, in_flat_map_source, in_map_source}
use Rattle.flow_graph.specs.Location.{number_of}
use Rattle.pass_edit_laws.proofs.lemmas.numbers.Different.{filter_in}
use Rattle.pass_edit_laws.proofs.lemmas.plan.Splicing.{get-left, get-right}
use Rattle.ssa_build.specs.code.Items.{get_item, get_items, got_item, name_in, put_item, set_item, standing, stays, typed_get}
use Rattle.ssa_build.specs.code.Sweep.{falls_at, gets_before, kept_at, part, row_in, sets_falling, sets_leaving, sets_to}
use Rattle.ssa_search.specs.gets.Wants.{gets_of}
use Rattle.ssa_build.specs.operands.Operands.{base_of}
use Rattle.ssa_search.specs.declared.renaming.now.WantedGet.{WantedGet}
use Rattle.ssa_build.specs.tree.Made.{IsLaidFunction}
use Rattle.ssa_form_laws.proofs.lemmas.form.Points.{front, layout, now}

-- ---- parts of a list of `get`s

in-take : {X : Type 0} (n : ℕ) (xs : List X) (y : X) → In y (take n xs) → In y xs
in-take zero xs y i = absurd i
in-take (suc n) [] y i = absurd i
in-take (suc n) (x ∷ xs) y (inl e) = inl e
in-take (suc n) (x ∷ xs) y (inr i) = inr (in-take n xs y i)

in-drop : {X : Type 0} (n : ℕ) (xs : List X) (y : X) → In y (drop n xs) → In y xs
in-drop zero xs y i = i
in-drop (suc n) [] y i = absurd i
in-drop (suc n) (x ∷ xs) y i = inr (in-drop n xs y i)

-- the definitions of `get`s differ
abbrev pub Apart : List WantedGet → Type 0
Apart gets = AllPairs (λ (a b : WantedGet). a.definition ≢ b.definition) gets

apart-none : Apart []
apart-none = λ i j d less inside. absurd (omega arith)

pub apart-rest : (w : WantedGet) (gets : List WantedGet) → Apart (w ∷ gets) → Apart gets
apart-rest w gets apart i j d less inside = apart (suc i) (suc j) d (omega arith) (omega arith)

pub apart-first : (w : WantedGet) (gets : List WantedGet) → Apart (w ∷ gets) → (v : WantedGet) → In v gets → w.definition ≡ v.definition → ⊥
apart-first w gets apart v i e = let c = at v gets i in apart 0 (suc c.0) w (omega arith) (omega (arith, c.1)) (e ∙ ap (λ (u : WantedGet). u.definition) (sym c.2))
  where
    at : (v : WantedGet) (list : List WantedGet) → In v list → (k : ℕ) × (k < length list) × (get_or list k w ≡ v)
    at v [] i = absurd i
    at v (u ∷ list) (inl e) = (0, omega arith, sym e)
    at v (u ∷ list) (inr i) = let r = at v list i in (suc r.0, omega (arith, r.1), r.2)

apart-range : (list : List WantedGet) (from to : ℕ) → Apart list → Apart (slice_range list from to)
apart-range list from to apart i j d less inside =
    let size = length-take (to - from) (drop from list) in
    let rest = length-drop from list in
    let mine = get_or-take (to - from) (drop from list) i d (omega arith) ∙ get_or-drop from list i d in
    let theirs = get_or-take (to - from) (drop from list) j d (omega arith) ∙ get_or-drop from list j d in
    λ e. apart (from + i) (from + j) d (omega arith) (omega arith) (ap (λ (w : WantedGet). w.definition) (sym mine) ∙ e ∙ ap (λ (w : WantedGet). w.definition) theirs)

either-part : (b : Bool) (xs : List WantedGet) (P : List WantedGet → Type 0) → P xs → P [] → P (cond b xs [])
either-part true xs P h n = h
either-part false xs P h n = n

apart-part : (list : List WantedGet) (from to : ℕ) → Apart list → Apart (part list from to)
apart-part list from to apart = either-part (nat_le from to && nat_le to (length list)) (slice_range list from to) Apart (apart-range list from to apart) apart-none

-- ---- items of `get`s and `set`s

-- the item of some of these `get`s, of this type
pub record IsGot (vars : List VarInfo) (names : List (List ℕ)) (gets : List WantedGet) (y : Item) : Type 0 where
  pub get : WantedGet
  pub among : In get gets
  pub ty : Ty
  pub typed : variable_type vars (get.location / 2) ≡ Some ty
  pub is : y ≡ got_item (name_in names get.definition) ty

-- the `set` of some of these
pub record IsPut (names : List (List ℕ)) (find now : List ℕ) (gets : List WantedGet) (y : Item) : Type 0 where
  pub get : WantedGet
  pub among : In get gets
  pub is : y ≡ set_item names find now get

got-source : (vars : List VarInfo) (names : List (List ℕ)) (get : WantedGet) (o : Option Ty) (y : Item) → variable_type vars (get.location / 2) ≡ o → In y (typed_get o (name_in names get.definition)) → (ty : Ty) × (variable_type vars (get.location / 2) ≡ Some ty) × (y ≡ got_item (name_in names get.definition) ty)
got-source vars names get None y t i = absurd i
got-source vars names get (Some ty) y t (inl e) = (ty, t, e)
got-source vars names get (Some ty) y t (inr i) = absurd i

pub is-got : (vars : List VarInfo) (names : List (List ℕ)) (gets : List WantedGet) (y : Item) → In y (get_items vars names gets) → IsGot vars names gets y
is-got vars names gets y i =
    let s = in_flat_map_source (get_item vars names) y gets i in
    let t = got-source vars names s.0 (variable_type vars (s.0.location / 2)) y refl s.2 in
    record { get = s.0; among = s.1; ty = t.0; typed = t.1; is = t.2 }

pub is-put : (names : List (List ℕ)) (find now : List ℕ) (gets : List WantedGet) (y : Item) → In y (map (set_item names find now) gets) → IsPut names find now gets y
is-put names find now gets y i = let s = in_map_source (set_item names find now) y gets i in record { get = s.0; among = s.1; is = s.2 }

-- ---- of a laid function

module _ (fs : List (List ℕ)) (F : Func) (g : FuncTree) (x : IsLaidFunction F (function_tree fs F) g) where
  -- so many definitions there are
  abbrev pub total : ℕ
  total = base_of F.code F.args + length x.wants.list

  -- the `get`s that stay behind a label
  abbrev pub staying : ℕ → List WantedGet
  staying k = kept_at (layout fs F g x) k

  -- one of them, by its location
  pub record IsStaying (k : ℕ) (get : WantedGet) : Type 0 where
    pub location : Location
    pub numbered : get.location ≡ number_of location
    pub got : gets_of x.wants k location ≡ Some get.definition
    pub stays : slice_index x.find get.definition ≡ get.definition
    pub high : get.definition < total
    pub low : base_of F.code F.args ≤ get.definition

  pub row-get : (k : ℕ) (get : WantedGet) → In get (row_in x.wants.starts x.wants.list k) → (a : Location) × (get.location ≡ number_of a) × (gets_of x.wants k a ≡ Some get.definition)
  row-get k get i = (x.are_gets k).only get (contains_in get (row_in x.wants.starts x.wants.list k) i)

  -- a wanted `get` is one of the list
  pub listed-get : (k y : ℕ) (a : Location) → gets_of x.wants k a ≡ Some y → (t : ℕ) × (slice_get x.wants.list t ≡ Some (record { location = number_of a; definition = y }))
  listed-get k y a e = x.are_wants.listed k (record { location = number_of a; definition = y }) ((x.are_wants.rows k).there a y e)

  pub get-high : (k y : ℕ) (a : Location) → gets_of x.wants k a ≡ Some y → y < total
  get-high k y a e =
      let t = listed-get k y a e in
      let n = x.are_wants.numbered t.0 (record { location = number_of a; definition = y }) t.1 in
      let w = slice_get_within x.wants.list t.0 (record { location = number_of a; definition = y }) t.1 in
      omega arith

  pub is-staying : (k : ℕ) (get : WantedGet) → In get (staying k) → IsStaying k get
  is-staying k get i =
      let s = filter_in (stays x.find) (row_in x.wants.starts x.wants.list k) get i in
      let r = row-get k get s.0 in
      record { location = r.0; numbered = r.1; got = r.2; stays = eqb-true (slice_index x.find get.definition) get.definition s.1; high = get-high k get.definition r.0 r.2; low = x.are_wants.wanted.above k get.definition r.0 r.2 }

  -- they stay at reached labels
  pub list-apart : Apart x.wants.list
  list-apart i j d less inside e =
      let mine = x.are_wants.numbered i (get_or x.wants.list i d) (slice_get-get_or x.wants.list i d (omega arith)) in
      let theirs = x.are_wants.numbered j (get_or x.wants.list j d) (slice_get-get_or x.wants.list j d inside) in
      omega (arith, e)

  pub staying-apart : (k : ℕ) → Apart (staying k)
  staying-apart k =
      AllPairs-filter (λ (a b : WantedGet). a.definition ≢ b.definition) (stays x.find) (row_in x.wants.starts x.wants.list k) (apart-part x.wants.list (slice_index x.wants.starts k) (slice_index x.wants.starts (k + 1)) list-apart)

  -- ---- what stands before an item

  abbrev pub gets-part : ℕ → List Item
  gets-part i = gets_before (layout fs F g x) i

  abbrev pub falls-part : ℕ → List Item
  falls-part i = sets_falling (layout fs F g x) (now fs F g x i) (falls_at F.code x.graph.sites i) i

  abbrev pub leaves-part : ℕ → List Item
  leaves-part i = sets_leaving (layout fs F g x) (now fs F g x i) (slice_index_or x.rows i [])

  -- a `set` that stands there is for a label that is entered so
  pub data InFront (i : ℕ) (y : Item) : Type 0 where
    AtLabel : (k : ℕ) → i ≡ suc k → IsGot F.vars x.names (staying k) y → InFront i y
    Falls : falls_at F.code x.graph.sites i ≡ true → IsPut x.names x.find (now fs F g x i) (staying i) y → InFront i y
    Leaves : (k : ℕ) → In k (slice_index_or x.rows i []) → IsPut x.names x.find (now fs F g x i) (staying k) y → InFront i y

  in-gets : (i : ℕ) (y : Item) → In y (gets-part i) → InFront i y
  in-gets zero y i = absurd i
  in-gets (suc k) y i = AtLabel k refl (is-got F.vars x.names (staying k) y i)

  in-falls : (i : ℕ) (y : Item) (b : Bool) → falls_at F.code x.graph.sites i ≡ b → In y (sets_falling (layout fs F g x) (now fs F g x i) b i) → InFront i y
  in-falls i y true e among = Falls e (is-put x.names x.find (now fs F g x i) (staying i) y among)
  in-falls i y false e among = absurd among

  in-leaves : (i : ℕ) (y : Item) → In y (leaves-part i) → InFront i y
  in-leaves i y among =
      let s = in_flat_map_source (sets_to (layout fs F g x) (now fs F g x i)) y (slice_index_or x.rows i []) among in
      Leaves s.0 s.1 (is-put x.names x.find (now fs F g x i) (staying s.0) y s.2)

  pub in-front : (i : ℕ) (y : Item) → In y (front fs F g x i) → InFront i y
  in-front i y among = ⊎_elim
      (λ h. ⊎_elim (in-gets i y) (in-falls i y (falls_at F.code x.graph.sites i) refl) (in_append_cases y (gets-part i) (falls-part i) h))
      (in-leaves i y) (in_append_cases y (gets-part i ++ falls-part i) (leaves-part i) among)

  -- a `set` is put in
  abbrev pub IsPutIn : Item → Type 0
  IsPutIn y = (name : List ℕ) × (from : List ℕ) × (y ≡ put_item name from)

  -- the `get`s come first, in their order
  pub data FrontAt (i n : ℕ) (y : Item) : Type 0 where
    GotAt : (k : ℕ) → i ≡ suc k → slice_get (gets-part (suc k)) n ≡ Some y → FrontAt i n y
    PutAt : IsPutIn y → FrontAt i n y

  put-in : (names : List (List ℕ)) (find now : List ℕ) (gets : List WantedGet) (y : Item) → IsPut names find now gets y → IsPutIn y
  put-in names find now gets y p = (name_in names p.get.definition, name_in names (standing find now p.get.location), p.is)

  put-falls : (i : ℕ) (y : Item) (b : Bool) → In y (sets_falling (layout fs F g x) (now fs F g x i) b i) → IsPutIn y
  put-falls i y true among = put-in x.names x.find (now fs F g x i) (staying i) y (is-put x.names x.find (now fs F g x i) (staying i) y among)
  put-falls i y false among = absurd among

  put-leaves : (i : ℕ) (y : Item) → In y (leaves-part i) → IsPutIn y
  put-leaves i y among =
      let s = in_flat_map_source (sets_to (layout fs F g x) (now fs F g x i)) y (slice_index_or x.rows i []) among in
      put-in x.names x.find (now fs F g x i) (staying s.0) y (is-put x.names x.find (now fs F g x i) (staying s.0) y s.2)

  got-at : (i n : ℕ) (y : Item) → slice_get (gets-part i) n ≡ Some y → FrontAt i n y
  got-at zero n y at = absurd (let h : None ≡ Some y = at in cc)
  got-at (suc k) n y at = GotAt k refl at

  pub front-at : (i n : ℕ) (y : Item) → slice_get (front fs F g x i) n ≡ Some y → FrontAt i n y
  front-at i n y at = ⊎_elim
      (λ less. got-at i n y (sym (get-left (gets-part i) (falls-part i ++ leaves-part i) n less) ∙ whole))
      (λ ge. later (n - length (gets-part i)) (omega arith)) (cases_lt n (length (gets-part i)))
    where
      whole : slice_get (gets-part i ++ (falls-part i ++ leaves-part i)) n ≡ Some y
      whole = ap (λ (l : List Item). slice_get l n) (sym (append_assoc (gets-part i) (falls-part i) (leaves-part i))) ∙ at

      later : (m : ℕ) → n ≡ length (gets-part i) + m → FrontAt i n y
      later m e =
          let rest : slice_get (falls-part i ++ leaves-part i) m ≡ Some y = sym (get-right (gets-part i) (falls-part i ++ leaves-part i) m) ∙ ap (slice_get (gets-part i ++ (falls-part i ++ leaves-part i))) (sym e) ∙ whole in
          PutAt (⊎_elim (put-falls i y (falls_at F.code x.graph.sites i)) (put-leaves i y) (in_append_cases y (falls-part i) (leaves-part i) (get_in (falls-part i ++ leaves-part i) m y rest)))

  -- and an item of the `get`s stands there
  pub got-front : (k n : ℕ) (y : Item) → slice_get (gets-part (suc k)) n ≡ Some y → slice_get (front fs F g x (suc k)) n ≡ Some y
  got-front k n y at =
      ap (λ (l : List Item). slice_get l n) (append_assoc (gets-part (suc k)) (falls-part (suc k)) (leaves-part (suc k)))
      ∙ get-left (gets-part (suc k)) (falls-part (suc k) ++ leaves-part (suc k)) n (slice_get_within (gets-part (suc k)) n y at) ∙ at

  -- so do the `set`s
  pub put-front : (i : ℕ) (y : Item) → In y (falls-part i) ⊎ In y (leaves-part i) → (n : ℕ) × (slice_get (front fs F g x i) n ≡ Some y)
  put-front i y (inl among) = in_get y (front fs F g x i) (in_append_left y (gets-part i ++ falls-part i) (leaves-part i) (in_append_right y (gets-part i) (falls-part i) among))
  put-front i y (inr among) = in_get y (front fs F g x i) (in_append_right y (gets-part i ++ falls-part i) (leaves-part i) among)
