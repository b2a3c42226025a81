-- Each point of a laid function is one of its items, a `get`, a `set`, a `nop` or a label, and each definition has its type.
use Rattle.std.proofs.Common.{◌≡◌, ℕ, zero, suc, ◌+◌, ◌-◌, ◌/◌, ◌<◌, ◌≤◌, Bool, false, cond, List, length, map, Option, Some, None, is_some, refl, sym, ap, subst, ◌∙◌, inl, inr, ⊎_elim, arith}
use Rattle.std.specs.Prelude.{slice_get}
use Rattle.std.specs.Option.{option_map}
use Rattle.std.proofs.lemmas.Bool.{cases_lt, lt-ltb}
use Rattle.std.proofs.lemmas.List.{length-map}
use Rattle.std.proofs.lemmas.Option.{same_Some, slice_get-map, slice_get_within}
use Rattle.bril_tree.specs.declared.function_tree.FuncTree.{FuncTree}
use Rattle.bril_tree.specs.declared.function_tree.Item.{Item}
use Rattle.bril_tree.specs.declared.function_tree.Item.TheVariants as item
use Rattle.bril_tree.specs.declared.numbered.Instr.{Instr}
use Rattle.bril_tree.specs.declared.numbered.Instr.TheVariants.{Label, Const, Act}
use Rattle.bril_tree.specs.declared.numbered.VarInfo.{VarInfo}
use Rattle.bril_tree.specs.declared.numbered_function.Func.{Func}
use Rattle.bril_tree.specs.declared.operation.Op.TheVariants as op
use Rattle.bril_tree.specs.declared.program.Prog.{Prog}
use Rattle.bril_tree.specs.declared.tree.Tree.{Tree}
use Rattle.bril_tree.specs.declared.types.Ty.{Ty}
use Rattle.bril_tree.specs.Accepted.{IsAccepted, IsAcceptedFunction}
use Rattle.bril_tree.specs.Membership.{In}
use Rattle.bril_tree.specs.Numbered.{Numbered, function_tree, item_tree, named, names_of_functions, tree_at, variable_names}
use Rattle.bril_tree.specs.Operand.{Location, Variable, dest_of, reads_of}
use Rattle.bril_tree.specs.Shape.{shape_fault_of}
use Rattle.bril_tree.specs.Sites.{AreSitesSound}
use Rattle.bril_tree.specs.Typing.{variable_type}
use Rattle.bril_tree.specs.Walk.{IsReached}
use Rattle.bril_tree.specs.Locals.{location_type}
use Rattle.bril_tree.proofs.Acceptance.{shaped_at, typed_at}
use Rattle.bril_tree.specs.Edge.{branches_from, onward}
use Rattle.bril_tree.specs.Step.{item_at, items_of}
use Rattle.bril_tree.proofs.Branches.{reached_on, reached_start}
use Rattle.bril_tree.proofs.Elements.{get_in, get_inside, none_past}
use Rattle.bril_tree.proofs.Formed.{typed_destination}
use Rattle.bril_tree.proofs.Members.{in_map}
use Rattle.bril_tree.proofs.Typings.{some_type, type_of}
use Rattle.flow_graph.proofs.Told.{walk_to}
use Rattle.pass_edit_laws.proofs.lemmas.acceptance.Heads.{argument-typed}
use Rattle.pass_edit_laws.proofs.lemmas.acceptance.Staying.{dest-typed}
use Rattle.pass_edit_laws.specs.names.NamedPlan.{SameHeads}
use Rattle.pass_edit_laws.proofs.lemmas.names.Heads.{first_names, same_args}
use Rattle.pass_edit_laws.proofs.lemmas.names.Points.{found}
use Rattle.pass_edit_laws.specs.plan.Spliced.{position_of, start_of}
use Rattle.ssa_build.specs.code.Items.{laid_item, name_in, read_name, unreached_item}
use Rattle.ssa_build.specs.code.Sweep.{item_args, kept_at, now_at, reached_at}
use Rattle.ssa_laws.specs.inserted_copies.Inserted.{is_copy}
use Rattle.ssa_laws.specs.layout.Accepted.{args_named}
use Rattle.ssa_laws.specs.layout.Laid.{Setting, get_tree}
use Rattle.ssa_search.specs.declared.renaming.now.WantedGet.{WantedGet}
use Rattle.ssa_laws.specs.reaching_definitions.Laws.{IsTabled}
use Rattle.ssa_laws.specs.reaching_definitions.Told.{HasTypeOf}
use Rattle.ssa_build.specs.tree.Made.{IsLaidFunction}
use Rattle.ssa_build.specs.tree.Standing.{nothing}
use Rattle.ssa_form_laws.specs.laid.Tables.{FunctionTables}
use Rattle.ssa_form_laws.proofs.lemmas.laid.Items.{at-made, facts, function, got-at, shaped, sound, tabled, typed, within}
use Rattle.ssa_form_laws.proofs.lemmas.laid.Kept.{G, find, kept-is, kept-only, l}
use Rattle.ssa_form_laws.proofs.lemmas.laid.Names.{argument-name, names-apart}
use Rattle.ssa_form_laws.proofs.lemmas.laid.Parts.{CoverAt, DeadAt, GetAt, HomeAt, IsCoveredAt, PutAt, UnreachedAt, first_in}
use Rattle.ssa_form_laws.proofs.lemmas.laid.Placing.{before, before-long, first-is, get-stands, home-is, stand}
use Rattle.ssa_form_laws.proofs.lemmas.laid.Tables.{U}
use Rattle.ssa_form_laws.proofs.lemmas.laid.Told.{Fallen, Left, SetHere, Started, into-found, set-here}
use Rattle.ssa_form_laws.proofs.lemmas.laid.Typed.{are-typed, behind-typed_so, get-typed, into-typed, number-type, live-typed, read-typed, types-in, write-typed}

-- the type of an item's destination
tree_type : Option Item → Option Ty
tree_type None = None
tree_type (Some (item.Label name)) = None
tree_type (Some (item.Const dest ty value)) = Some ty
tree_type (Some (item.Act None o args funcs labels)) = None
tree_type (Some (item.Act (Some d) o args funcs labels)) = Some d.ty

one-type : (name : List ℕ) (s t : Ty) → Some (get_tree name s) ≡ Some (get_tree name t) → s ≡ t
unfolding tree_type
one-type name s t e = same_Some s t (ap tree_type e)

-- an item that is no copy reads the variables that it names
reads-named : (a : Instr) (v : ℕ) → is_copy (Some a) ≡ false → In v (args_named a) → In (Variable v) (reads_of a)
reads-named (Label q) v c i = absurd i
reads-named (Const d ty value) v c i = absurd i
reads-named (Act d ty op.Get args fns ls) v c i = absurd cc
reads-named (Act d ty op.Set args fns ls) v c i = absurd cc
reads-named (Act d ty _ args fns ls) v c i = in_map Variable v args i

-- ---- places of a list with others put in before its items

data Place (many : ℕ) (long : ℕ → ℕ) (start : ℕ → ℕ) (j : ℕ) : Type 0 where
  AtItem : (i : ℕ) → i < many → j ≡ start i + long i → Place many long start j
  InFront : (i k : ℕ) → i ≤ many → k < long i → j ≡ start i + k → Place many long start j

-- each place before an item is one of an item before it, or of what stands before one of these
place-before : (many : ℕ) (long start : ℕ → ℕ) → start 0 ≡ 0 → ((i : ℕ) → start (suc i) ≡ start i + long i + 1) → (i : ℕ) → i ≤ many → (j : ℕ) → j < start i → Place many long start j
place-before many long start zero-is next zero low j less = absurd (omega (arith, zero-is, less))
place-before many long start zero-is next (suc i) low j less = ⊎_elim (λ h. place-before many long start zero-is next i (omega (arith, low)) j h) here (cases_lt j (start i))
  where
    here : start i ≤ j → Place many long start j
    here high = ⊎_elim
        (λ h. InFront i (j - start i) (omega (arith, low)) (omega (arith, h, high)) (omega (arith, high)))
        (λ h. AtItem i (omega (arith, low)) (let n = next i in omega (arith, h, high, n, less)))
        (cases_lt j (start i + long i))

module _ (P Q : Prog) (tree : Tree) (accepted : IsAccepted P) (numbered : Numbered tree Q) (f : ℕ) (F : Func) (there : slice_get P.funcs f ≡ Some F) (g : FuncTree) (made : slice_get tree.funcs f ≡ Some g) (x : IsLaidFunction F (function_tree (names_of_functions P.funcs) F) g) where
  abbrev fs : List (List ℕ)
  fs = names_of_functions P.funcs

  abbrev H : FuncTree
  H = function P Q tree accepted numbered f F there g made x

  abbrev Z : (k : ℕ) (get : WantedGet) → In get (kept_at (l F H g x) k) → (ty : Ty) × (variable_type F.vars (get.location / 2) ≡ Some ty)
  Z = typed P Q tree accepted numbered f F there g made x

  abbrev V : FunctionTables
  V = U P Q tree accepted numbered f F there g made x

  abbrev S : shape_fault_of (is_some F.ret) F.code ≡ None
  S = shaped P Q tree accepted numbered f F there g made x

  abbrev D : AreSitesSound F.code
  D = sound P Q tree accepted numbered f F there g made x

  abbrev W : IsTabled F.code F.args (G F H g x)
  W = tabled P Q tree accepted numbered f F there g made x

  abbrev front : ℕ → List Item
  front i = before F fs g x Z i

  abbrev Cover : ℕ → Type 0
  Cover j = CoverAt P Q f (Some F) V j

  abbrev pub type-of : ℕ → Option Ty
  type-of = types-in P F (facts P Q tree accepted numbered f F there g made x) H g x W

  -- ---- which points stand before reached ones

  set-reached : (i : ℕ) (s : Setting) → SetHere F H g x S D W i s → IsReached F.code i
  set-reached i s (Started a z e got told from) = subst (IsReached F.code) (sym e) (reached_start F.code)
  set-reached i s (Fallen a p z e r got told from) = subst (IsReached F.code) (sym e) (W.wanted.reached (suc p) s.get a (kept-is F H g x (G F H g x (suc p) a) s.get got).0)
  set-reached i s (Left a k z r leaves got none told from) = r

  -- behind a label
  get-reached : (i t y : ℕ) → i ≤ length F.code → slice_get (V.gets i) t ≡ Some y → IsReached F.code i
  get-reached i t y low at =
      let s = get-stands F fs g x Z i t y low at in
      let k = kept-only F H g x s.label s.get s.among in
      let r = W.wanted.reached s.label s.get.definition k.location k.wanted in
      let label = W.wanted.label s.label s.get.definition k.location k.wanted in
      subst (IsReached F.code) (sym s.is) (reached_on F.code s.label (onward s.label) r (subst (λ o. In (onward s.label) (branches_from F.code s.label o)) (sym label.1) (inl refl)))

  in-front : (i k j : ℕ) → i ≤ length F.code → k < length (front i) → j ≡ start_of front nothing i + k → Cover j
  in-front i k j low less e = ⊎_elim get put (cases_lt k (length (V.gets i)))
    where
      place : first_in P Q f (Some F) V i ≡ start_of front nothing i
      place = first-is F fs g x Z P Q f i

      get : k < length (V.gets i) → Cover j
      get h = let y = get_inside (V.gets i) k h in GetAt i k y.0 (get-reached i k y.0 low y.1) y.1 (e ∙ ap (λ p. p + k) (sym place))

      put : length (V.gets i) ≤ k → Cover j
      put h =
          let all = before-long F fs g x Z i in
          let s = get_inside (V.sets i) (k - length (V.gets i)) (omega (arith, all, h, less)) in
          PutAt i (k - length (V.gets i)) s.0 (set-reached i s.0 (set-here F H g x S D W i s.0 low (get_in (V.sets i) (k - length (V.gets i)) s.0 s.1))) s.1 (omega (arith, e, place, h))

  -- ---- items

  dead-item : (a : Instr) (j : ℕ) → tree_at Q f j ≡ Some (unreached_item (item_tree fs (variable_names F.vars) F.labels a)) → Cover j
  dead-item (Label q) j e = UnreachedAt (named F.labels q) e
  dead-item (Const d ty value) j e = DeadAt e
  dead-item (Act d ty o args fns ls) j e = DeadAt e

  at-item : (i j : ℕ) → i < length F.code → j ≡ start_of front nothing i + length (front i) → Cover j
  at-item i j low e = by (slice_get x.graph.sites i) refl
    where
      a : (b : Instr) × (slice_get F.code i ≡ Some b)
      a = get_inside F.code i low

      stands : (b : Bool) → reached_at (slice_get x.graph.sites i) ≡ b → tree_at Q f j ≡ Some (laid_item b (map (read_name x.names x.find (now_at x.laid.nows i)) (item_args (slice_get F.code i))) (name_in x.names (F.args + i)) (item_tree fs (variable_names F.vars) F.labels a.0))
      stands b r =
          ap (tree_at Q f) e ∙ at-made P Q tree accepted numbered f F there g made x (position_of front nothing i)
          ∙ (stand F fs g x Z).there i (item_tree fs (variable_names F.vars) F.labels a.0) (slice_get-map (item_tree fs (variable_names F.vars) F.labels) F.code i ∙ ap (option_map (item_tree fs (variable_names F.vars) F.labels)) a.1)
          ∙ ap (λ c. Some (laid_item c (map (read_name x.names x.find (now_at x.laid.nows i)) (item_args (slice_get F.code i))) (name_in x.names (F.args + i)) (item_tree fs (variable_names F.vars) F.labels a.0))) r

      by : (o : Option (Option (List ℕ))) → slice_get x.graph.sites i ≡ o → Cover j
      by None at = dead-item a.0 j (stands false (ap reached_at at))
      by (Some None) at = dead-item a.0 j (stands false (ap reached_at at))
      by (Some (Some sites)) at =
          let w = walk_to F.code x.graph x.is_graph i sites at in
          HomeAt i (record { walk = w.0; is = w.1; ends = w.2 }) (e ∙ sym (home-is F fs g x Z P Q f i))

  code-long : length H.code ≡ length F.code
  code-long = length-map F.code (item_tree fs (variable_names F.vars) F.labels)

  covered : (j : ℕ) (it : Item) → slice_get x.made j ≡ Some it → Cover j
  covered j it at = ⊎_elim early late (cases_lt j (start_of front nothing (length F.code)))
    where
      early : j < start_of front nothing (length F.code) → Cover j
      early less = by (place-before (length F.code) (λ i. length (front i)) (λ i. start_of front nothing i) refl (λ i. omega arith) (length F.code) (omega arith) j less)
        where
          by : Place (length F.code) (λ i. length (front i)) (λ i. start_of front nothing i) j → Cover j
          by (AtItem i low e) = at-item i j low e
          by (InFront i k low less e) = in-front i k j low less e

      late : start_of front nothing (length F.code) ≤ j → Cover j
      late high = ⊎_elim inside past (cases_lt j (position_of front nothing (length F.code)))
        where
          inside : j < position_of front nothing (length F.code) → Cover j
          inside less = in-front (length F.code) (j - start_of front nothing (length F.code)) j (omega arith) (omega (arith, less, high)) (omega (arith, high))

          past : position_of front nothing (length F.code) ≤ j → Cover j
          past over = absurd (none_past x.made (position_of front nothing (length F.code)) (let w = slice_get_within x.made j it at in omega (arith, w, over)) (ap (λ k. slice_get x.made (position_of front nothing k)) (sym code-long) ∙ (stand F fs g x Z).end))

  -- ---- types

  abbrev accepts : IsAcceptedFunction P F
  accepts = facts P Q tree accepted numbered f F there g made x

  has : (z : ℕ) (a : Location) (ty : Ty) → location_type F a ≡ Some ty → HasTypeOf (location_type F) type-of z a → type-of z ≡ Some ty
  has z a ty t (inl none) = absurd (let h : None ≡ Some ty = sym none ∙ t in cc)
  has z a ty t (inr same) = same ∙ t

  set-types : (i : ℕ) (s : Setting) → SetHere F H g x S D W i s → (ty : Ty) × (type-of s.get ≡ Some ty) × (type-of s.from ≡ Some ty)
  set-types i s (Started a z e got told from) =
      let wanted = (kept-is F H g x (G F H g x 0 a) s.get got).0 in
      let t = live-typed P F accepts 0 a (W.wanted.live 0 s.get a wanted) in
      (t.0, get-typed P F accepts H g x W 0 s.get a wanted ∙ t.1, ap type-of from ∙ (are-typed P F accepts H g x W).argument a z told ∙ t.1)
  set-types i s (Fallen a p z e r got told from) =
      let wanted = (kept-is F H g x (G F H g x (suc p) a) s.get got).0 in
      let t = live-typed P F accepts (suc p) a (W.wanted.live (suc p) s.get a wanted) in
      (t.0, get-typed P F accepts H g x W (suc p) s.get a wanted ∙ t.1, ap type-of from ∙ has (find F H g x z) a t.0 t.1 (behind-typed_so P F accepts H g x W p a z r told))
  set-types i s (Left a k z r leaves got none told from) =
      let wanted = (kept-is F H g x (G F H g x k a) s.get got).0 in
      let t = live-typed P F accepts k a (W.wanted.live k s.get a wanted) in (
        t.0,
        get-typed P F accepts H g x W k s.get a wanted ∙ t.1,
        ap type-of from ∙ has (find F H g x z) a t.0 t.1 (into-typed P F accepts H g x W i a (find F H g x z) r (into-found F H g x S D W i z a none told)),
      )

  module _ (heads : SameHeads P Q) (R : Func) (q : slice_get Q.funcs f ≡ Some R) where
    argued : (v y : ℕ) → v < R.args → (v < length (variable_names R.vars)) × (named (variable_names R.vars) v ≡ V.name y) → variable_type R.vars v ≡ type-of y
    argued v y low has =
        let both = (same_args P Q heads f F R there q).count in
        let less : v < F.args = omega (arith, both, low) in
        let few = F.formed.few_args in
        let size = length-map F.vars (λ (w : VarInfo). w.name) in
        let first = first_names P Q heads f F R there q v less in
        let same : y ≡ v = names-apart F H g x y v (sym has.1 ∙ sym first ∙ sym (argument-name F H g x v less)) in
        sym (argument-typed P Q heads f F R there q v v (omega (arith, few, size, less), has.0, first) low)
        ∙ sym ((are-typed P F accepts H g x W).argument (Variable v) v (ap (λ b. cond b (Some v) None) (lt-ltb v F.args less))) ∙ ap type-of (sym same)

    dest-types : (i v : ℕ) (a : Instr) → slice_get F.code i ≡ Some a → dest_of a ≡ Some v → (type-of (F.args + i) ≡ type_of a) × (type-of (F.args + i) ≡ variable_type F.vars v)
    dest-types i v a at d =
        let wrote = write-typed P F accepts H g x W i v a at d in
        let t = some_type a v (typed_destination F i a at) d in
        let has = dest-typed P F (is_some F.ret) a v t.0 (shaped_at P F accepts i a at) (typed_at P F accepts i a at) d t.1 in
        (wrote ∙ has ∙ sym t.1, wrote)

    pub covered-at : IsCoveredAt P Q f F R V type-of
    covered-at = record {
      covers = λ j b at. by j b at (slice_get x.made j) refl;
      argued = argued;
      arg_typed = λ i v y a r at copy i-named e.
          let t = read-typed P F accepts i a (Variable v) at (reads-named a v copy i-named) in
          has y (Variable v) t.0 t.1 (into-typed P F accepts H g x W i (Variable v) y r e) ∙ sym t.1;
      dest_typed = λ i v a r at copy d. dest-types i v a at d;
      got_typed = λ i k y ty r at e.
          let h = got-at P Q tree accepted numbered f F there g made x i k y r at in
          let same = one-type (V.name y) h.ty ty (sym h.at ∙ e) in
          get-typed P F accepts H g x W h.label y h.location h.wanted ∙ sym (number-type F h.location) ∙ h.has ∙ ap Some same;
      set_typed = λ i k s r at. set-types i s (set-here F H g x S D W i s (within P Q tree accepted numbered f F there g made x i r) (get_in (V.sets i) k s at));
    }
      where
        by : (j : ℕ) (b : Instr) → slice_get R.code j ≡ Some b → (o : Option Item) → slice_get x.made j ≡ o → Cover j
        by j b at (Some it) e = covered j it e
        by j b at None e =
            let here : item_at Q f j ≡ Some b = ap (λ o. slice_get (items_of o) j) q ∙ at in
            absurd (let h = sym e ∙ sym (at-made P Q tree accepted numbered f F there g made x j) ∙ (found Q f j b here).tree in cc)
