-- Each variable of laid code is assigned by one item, or is an argument and by none.
use Rattle.std.proofs.Common.{◌≡◌, ◌≢◌, ℕ, zero, suc, ◌+◌, ◌-◌, ◌<◌, ◌≤◌, ◌/◌, Bool, true, false, cond, List, [], ◌∷◌, ◌++◌, length, map, take, get_or, Option, Some, None, refl, sym, ap, subst, ◌∙◌, inl, inr, ⊎_elim, arith}
use Rattle.std.specs.Prelude.{slice_get, slice_index}
use Rattle.std.specs.List.{AllPairs, Contains}
use Rattle.std.proofs.lemmas.Bool.{cases_lt, lt-ltb}
use Rattle.std.proofs.lemmas.List.{get_or_default, get_or-take, length-take, length-map}
use Rattle.std.proofs.lemmas.List.Kept.{AllPairs-cons}
use Rattle.std.proofs.lemmas.Option.{same_Some, slice_get_within, slice_get-get_or}
use Rattle.bril_names.specs.Faults.{argument_names}
use Rattle.bril_names.proofs.Functions.{Differ-variables}
use Rattle.bril_names.proofs.Naming.{one_number}
use Rattle.bril_names.proofs.Variables.{argument_names_taken}
use Rattle.bril_tree.specs.declared.function_tree.FuncTree.{FuncTree}
use Rattle.bril_tree.specs.declared.function_tree.Item.{Item}
use Rattle.bril_tree.specs.declared.function_tree.Item.TheVariants as item
use Rattle.bril_tree.specs.declared.numbered.Instr.{Instr}
use Rattle.bril_tree.specs.declared.numbered.VarInfo.{VarInfo}
use Rattle.bril_tree.specs.declared.numbered_function.Func.{Func}
use Rattle.bril_tree.specs.declared.operation.Op.TheVariants as op
use Rattle.bril_tree.specs.declared.types.Ty.{Ty}
use Rattle.bril_tree.specs.Membership.{In}
use Rattle.bril_tree.specs.Numbered.{function_tree, named, variable_names}
use Rattle.bril_tree.specs.Typing.{variable_type}
use Rattle.bril_tree.proofs.Elements.{get_in}
use Rattle.pass_edit_laws.proofs.lemmas.plan.Elements.{in_all}
use Rattle.ssa_build.specs.code.Items.{get_items, got_item, laid_item, name_in, read_name, typed_get}
use Rattle.ssa_build.specs.code.Sweep.{item_args, reached_at}
use Rattle.ssa_build.specs.code.Names.{variables_written}
use Rattle.ssa_build.specs.fresh_names.Names.{base_name, definition_name, made_name}
use Rattle.ssa_build.proofs.lemmas.fresh_names.Differing.{names-differ}
use Rattle.ssa_search.specs.declared.renaming.now.WantedGet.{WantedGet}
use Rattle.ssa_build.specs.tree.Made.{IsLaidFunction}
use Rattle.ssa_build.proofs.lemmas.tree.Parts.{written-long}
use Rattle.ssa_form_laws.specs.form.Form.{Assigns, assigned_name}
use Rattle.ssa_form_laws.proofs.lemmas.form.Fronts.{Apart, FrontAt, GotAt, IsStaying, PutAt, apart-first, apart-rest, front-at, gets-part, is-got, is-staying, staying, staying-apart, total}
use Rattle.ssa_form_laws.proofs.lemmas.form.Points.{Front, Home, Point, begin, home, now, own, point, tree_in}

-- ---- what a laid item assigns

own-assigned : (r : Bool) (args : List (List ℕ)) (w : List ℕ) (t : Item) (name : List ℕ) → assigned_name (laid_item r args w t) ≡ Some name → name ≡ w
own-assigned r args w (item.Label l) name e = absurd (by r e)
  where
    by : (b : Bool) → assigned_name (laid_item b args w (item.Label l)) ≡ Some name → ⊥
    by true h = let n : None ≡ Some name = h in cc
    by false h = let n : None ≡ Some name = h in cc
own-assigned true args w (item.Const dest ty value) name e = sym (same_Some _ _ e)
own-assigned false args w (item.Const dest ty value) name e = absurd (let n : None ≡ Some name = e in cc)
own-assigned false args w (item.Act dest o old funcs labels) name e = absurd (let n : None ≡ Some name = e in cc)
own-assigned true args w (item.Act dest op.Get old funcs labels) name e = absurd (let n : None ≡ Some name = e in cc)
own-assigned true args w (item.Act dest op.Set old funcs labels) name e = absurd (let n : None ≡ Some name = e in cc)
own-assigned true args w (item.Act None _ old funcs labels) name e = absurd (let n : None ≡ Some name = e in cc)
own-assigned true args w (item.Act (Some d) _ old funcs labels) name e = sym (same_Some _ _ e)

-- ---- one place for each name

abbrev OtherNames : Item → Item → Type 0
OtherNames a b = assigned_name a ≢ assigned_name b

-- of items that assign different variables one assigns it
one-place : (xs : List Item) → AllPairs OtherNames xs → (n m : ℕ) (a b : Item) → slice_get xs n ≡ Some a → slice_get xs m ≡ Some b → assigned_name a ≡ assigned_name b → n ≡ m
one-place xs differ n m a b at bt e = ⊎_elim (λ l. absurd (before n m a b at bt l e)) (λ h. ⊎_elim (λ l. absurd (before m n b a bt at l (sym e))) (λ k. omega arith) (cases_lt m n)) (cases_lt n m)
  where
    before : (n m : ℕ) (a b : Item) → slice_get xs n ≡ Some a → slice_get xs m ≡ Some b → n < m → assigned_name a ≡ assigned_name b → ⊥
    before n m a b at bt less e =
        let low = slice_get_within xs n a at in
        let high = slice_get_within xs m b bt in
        let mine : a ≡ get_or xs n a = same_Some _ _ (sym at ∙ slice_get-get_or xs n a low) in
        let theirs : b ≡ get_or xs m a = same_Some _ _ (sym bt ∙ slice_get-get_or xs m a high) in
        differ n m a less high (ap assigned_name (sym mine) ∙ e ∙ ap assigned_name theirs)

module _ (fs : List (List ℕ)) (F : Func) (g : FuncTree) (x : IsLaidFunction F (function_tree fs F) g) where
  -- ---- names of definitions

  long-names : length x.names ≡ total fs F g x
  long-names = let w = written-long F.code x.wants.list in let l = x.are_names.long in omega arith

  name-is : (y : ℕ) → y < total fs F g x → name_in x.names y ≡ definition_name (variable_names F.vars) F.args x.are_names.front (λ z. slice_index (variables_written F.code x.wants.list) (z - F.args)) y
  name-is y low =
      let w = written-long F.code x.wants.list in
      let l = long-names in
      get_or_default x.names y (118 ∷ []) [] (omega arith) ∙ x.are_names.each y (omega arith)

  -- no two definitions have one name
  pub names-one : (y z : ℕ) → y < total fs F g x → z < total fs F g x → name_in x.names y ≡ name_in x.names z → y ≡ z
  names-one y z low high e =
      names-differ (variable_names F.vars) F.args x.are_names.front (λ z. slice_index (variables_written F.code x.wants.list) (z - F.args))
      (λ a b less more same. let size = length-map F.vars (λ (v : VarInfo). v.name) in let few = F.formed.few_args in one_number (variable_names F.vars) (Differ-variables F) a b (omega arith) (omega arith) same)
      x.are_names.enough y z (sym (name-is y low) ∙ e ∙ name-is z high)

  -- ---- `get`s of one label

  got-apart : (gets : List WantedGet) → Apart gets → ((get : WantedGet) → In get gets → get.definition < total fs F g x) → AllPairs OtherNames (get_items F.vars x.names gets)
  got-apart [] apart low = λ i j d less inside. absurd (omega arith)
  got-apart (w ∷ gets) apart low = by (variable_type F.vars (w.location / 2)) refl (got-apart gets (apart-rest w gets apart) (λ get i. low get (inr i)))
    where
      other : (z : Item) → In z (get_items F.vars x.names gets) → (ty : Ty) → OtherNames (got_item (name_in x.names w.definition) ty) z
      other z i ty e =
          let s = is-got F.vars x.names gets z i in
          let same : name_in x.names w.definition ≡ name_in x.names s.get.definition = same_Some _ _ (e ∙ ap assigned_name s.is) in
          let one = names-one w.definition s.get.definition (low w (inl refl)) (low s.get (inr s.among)) same in
          apart-first w gets apart s.get s.among one

      by : (o : Option Ty) → variable_type F.vars (w.location / 2) ≡ o → AllPairs OtherNames (get_items F.vars x.names gets) → AllPairs OtherNames (get_items F.vars x.names (w ∷ gets))
      by None e rest = subst (λ o. AllPairs OtherNames (typed_get o (name_in x.names w.definition) ++ get_items F.vars x.names gets)) (sym e) rest
      by (Some ty) e rest =
          subst (λ o. AllPairs OtherNames (typed_get o (name_in x.names w.definition) ++ get_items F.vars x.names gets)) (sym e)
          (AllPairs-cons OtherNames (got_item (name_in x.names w.definition) ty) (get_items F.vars x.names gets) (in_all (OtherNames (got_item (name_in x.names w.definition) ty)) (get_items F.vars x.names gets) (λ z i. other z i ty)) rest)

  gets-differ : (i : ℕ) → AllPairs OtherNames (gets-part fs F g x i)
  gets-differ zero = λ i j d less inside. absurd (omega arith)
  gets-differ (suc k) = got-apart (staying fs F g x k) (staying-apart fs F g x k) (λ get i. (is-staying fs F g x k get i).high)

  -- ---- which definition a point assigns

  -- the point is that of item i, or one of the `get`s behind label i
  pub data Definition (j y : ℕ) : Type 0 where
    ByItem : (i : ℕ) → i < length F.code → j ≡ home fs F g x i → y ≡ F.args + i → Definition j y
    ByGet : (k n : ℕ) (get : WantedGet) (z : Item) → IsStaying fs F g x k get → slice_get (gets-part fs F g x (suc k)) n ≡ Some z → assigned_name z ≡ Some (name_in x.names y) → j ≡ begin fs F g x (suc k) + n → y ≡ get.definition → Definition j y

  pub record IsDefined (j : ℕ) (name : List ℕ) : Type 0 where
    pub number : ℕ
    pub low : F.args ≤ number
    pub high : number < total fs F g x
    pub name_is : name ≡ name_in x.names number
    pub by : Definition j number

  own-defined : (j : ℕ) (y : Item) (name : List ℕ) → assigned_name y ≡ Some name → (i : ℕ) (b : Instr) → slice_get F.code i ≡ Some b → j ≡ home fs F g x i → y ≡ own fs F g x i (tree_in fs F b) → IsDefined j name
  own-defined j y name e i b at there is =
      let low = slice_get_within F.code i b at in
      record {
        number = F.args + i;
        low = omega arith;
        high = omega arith;
        name_is = own-assigned (reached_at (slice_get x.graph.sites i)) (map (read_name x.names x.find (now fs F g x i)) (item_args (slice_get F.code i))) (name_in x.names (F.args + i)) (tree_in fs F b) name (ap assigned_name (sym is) ∙ e);
        by = ByItem i low there refl;
      }

  got-defined : (j : ℕ) (y : Item) (name : List ℕ) → assigned_name y ≡ Some name → (i n : ℕ) → j ≡ begin fs F g x i + n → FrontAt fs F g x i n y → IsDefined j name
  got-defined j y name e i n there (GotAt k next at) =
      let s = is-got F.vars x.names (staying fs F g x k) y (get_in (gets-part fs F g x (suc k)) n y at) in
      let stay = is-staying fs F g x k s.get s.among in
      let low = stay.low in
      let is : name ≡ name_in x.names s.get.definition = same_Some _ _ (sym e ∙ ap assigned_name s.is) in
      record {
        number = s.get.definition;
        low = omega arith;
        high = stay.high;
        name_is = is;
        by = ByGet k n s.get y stay at (e ∙ ap Some is) (there ∙ ap (λ m. begin fs F g x m + n) next) refl;
      }
  got-defined j y name e i n there (PutAt p) = absurd (let h : None ≡ Some name = ap assigned_name (sym p.2) ∙ e in cc)

  pub defined : (j : ℕ) (name : List ℕ) → Assigns g.code j name → IsDefined j name
  defined j name a = by (point fs F g x j a.0 a.1)
    where
      by : Point fs F g x j a.0 → IsDefined j name
      by (Home i b at there is) = own-defined j a.0 name a.2 i b at there is
      by (Front i n low at there) = got-defined j a.0 name a.2 i n there (front-at fs F g x i n a.0 at)

  one-definition : (j k y : ℕ) → Definition j y → Definition k y → j ≡ k
  one-definition j k y (ByItem i low there is) (ByItem h low' there' is') = let same : i ≡ h = omega arith in there ∙ ap (home fs F g x) same ∙ sym there'
  one-definition j k y (ByItem i low there is) (ByGet h n get z stay at named there' is') = absurd (let above = stay.low in omega arith)
  one-definition j k y (ByGet h n get z stay at named there is) (ByItem i low there' is') = absurd (let above = stay.low in omega arith)
  one-definition j k y (ByGet h n get z stay at named there is) (ByGet i m get' z' stay' at' named' there' is') =
      let same = (x.are_wants.wanted.once h i y stay.location stay'.location (stay.got ∙ ap Some (sym is)) (stay'.got ∙ ap Some (sym is'))).0 in
      let place = one-place (gets-part fs F g x (suc h)) (gets-differ (suc h)) n m z z' at (ap (λ q. slice_get (gets-part fs F g x (suc q)) m) same ∙ at') (named ∙ sym named') in
      there ∙ ap (λ q. begin fs F g x (suc h) + q) place ∙ ap (λ q. begin fs F g x (suc q) + m) same ∙ sym there'

  pub once : (j k : ℕ) (name : List ℕ) → Assigns g.code j name → Assigns g.code k name → j ≡ k
  once j k name a b =
      let d = defined j name a in
      let e = defined k name b in
      let same = names-one d.number e.number d.high e.high (sym d.name_is ∙ e.name_is) in
      one-definition j k d.number d.by (subst (Definition k) (sym same) e.by)

  -- an argument has its own name
  pub argument-name : (name : List ℕ) → Contains (argument_names g) name → (y : ℕ) × (y < F.args) × (name ≡ name_in x.names y)
  argument-name name c =
      let taken : argument_names g ≡ take F.args (variable_names F.vars) = ap argument_names x.tree ∙ argument_names_taken F.args F.vars F.formed.args_typed in
      let t : Contains (take F.args (variable_names F.vars)) name = subst (λ (l : List (List ℕ)). Contains l name) taken c in
      let size = length-take F.args (variable_names F.vars) in
      let low : t.0 < F.args = omega (arith, t.1) in
      let least : t.0 < total fs F g x = omega arith in (
        t.0,
        low,
        sym t.2 ∙ get_or-take F.args (variable_names F.vars) t.0 name low ∙ get_or_default (variable_names F.vars) t.0 name [] (omega (arith, t.1)) ∙ sym (ap (λ b. cond b (named (variable_names F.vars) t.0) (made_name x.are_names.front (base_name (variable_names F.vars) (slice_index (variables_written F.code x.wants.list) (t.0 - F.args))) t.0)) (lt-ltb t.0 F.args low))
            ∙ sym (name-is t.0 least),
      )

  pub apart : (j : ℕ) (name : List ℕ) → Assigns g.code j name → Contains (argument_names g) name → ⊥
  apart j name a c =
      let d = defined j name a in
      let y = argument-name name c in
      let low = d.low in
      let same = names-one d.number y.0 d.high (omega (arith, y.1)) (sym d.name_is ∙ y.2) in
      omega (arith, y.1)
