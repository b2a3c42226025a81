-- The variables of the result: those of the program, and those that stand for shadows of variables with a type.
use Rattle.std.proofs.Common.{◌≡◌, ◌⊎◌, ℕ, ◌<◌, Bool, true, ◌&&◌, List, [], ◌∷◌, length, map, Option, Some, None, refl, sym, ap, subst, ◌∙◌, inl, inr, ⊎_elim, arith}
use Rattle.std.specs.Prelude.{is_some, slice_get}
use Rattle.std.specs.List.{filter, range_with_len}
use Rattle.std.specs.Option.{option_map}
use Rattle.std.proofs.lemmas.Bool.{and_parts, eq-eqb, and_from}
use Rattle.std.proofs.lemmas.Map.Keys.{any_passes_from_place}
use Rattle.std.proofs.lemmas.Option.{same_Some}
use Rattle.bril_tree.specs.declared.function_tree.Item.{Item}
use Rattle.bril_tree.specs.declared.numbered.Instr.{Instr}
use Rattle.bril_tree.specs.declared.numbered.Instr.TheVariants.{Act}
use Rattle.bril_tree.specs.declared.numbered_function.Func.{Func}
use Rattle.bril_tree.specs.declared.operation.Op.TheVariants as op
use Rattle.bril_tree.specs.declared.program.Prog.{Prog}
use Rattle.bril_tree.specs.declared.types.Ty.{Ty}
use Rattle.bril_tree.specs.Accepted.{IsAccepted}
use Rattle.bril_tree.specs.FrameWords.{names_shadow}
use Rattle.bril_tree.specs.Membership.{In}
use Rattle.bril_tree.specs.Numbered.{item_tree, named, names_of_functions, nop, point_tree, tree_at, variable_names}
use Rattle.bril_tree.specs.Step.{item_at}
use Rattle.bril_tree.specs.Typing.{is_set_typed, variable_type}
use Rattle.bril_tree.proofs.Acceptance.{accepted_function, shaped_at, typed_at}
use Rattle.bril_tree.proofs.Elements.{get_in}
use Rattle.bril_tree.proofs.Formed.{variable_below}
use Rattle.bril_tree.proofs.LabelPoints.{in_range, range_high}
use Rattle.bril_tree.proofs.Members.{in_map, in_map_source}
use Rattle.bril_tree.proofs.Trees.{nop-at}
use Rattle.bril_tree.proofs.Typings.{same_type-is, typed-unless}
use Rattle.pass_edit_laws.proofs.lemmas.acceptance.Staying.{dest-typed}
use Rattle.pass_edit_laws.proofs.lemmas.numbers.Different.{filter_in, in_filter}
use Rattle.pass_edit_laws.proofs.lemmas.numbers.Items.{IsNamed, IsOfItems, IsPlain, is_used, items-plain, nop-plain, plain-tree, unchanged}
use Rattle.pass_edit_laws.proofs.lemmas.numbers.Locations.{variable-named}
use Rattle.ssa_exit.specs.Unssaed.{copy_item, undef_item}
use Rattle.ssa_exit.proofs.Items.{in-code, names-long}
use Rattle.ssa_exit.proofs.Points.{Unssaed, Kind, Stays, Gets, Sets, kind, kept, new-name, Got, Copied, Undefined, got, Put, Given, Gone, put}

-- ---- types that a `get` and a `set` tell

module _ (P : Prog) (accepted : IsAccepted P) (f : ℕ) (F : Func) (p : slice_get P.funcs f ≡ Some F) (i : ℕ) where
  pub get-typed : (x : ℕ) (ty : Ty) (args fns ls : List ℕ) → item_at P f i ≡ Some (Act (Some x) (Some ty) op.Get args fns ls) → variable_type F.vars x ≡ Some ty
  get-typed x ty args fns ls at =
      let a : Instr = Act (Some x) (Some ty) op.Get args fns ls in
      let facts = accepted_function P f F accepted p in
      dest-typed P F (is_some F.ret) a x ty (shaped_at P F facts i a (in-code P f F p i a at)) (typed_at P F facts i a (in-code P f F p i a at)) refl refl

  same-set : (s : Ty) (u v : Option Ty) → u ≡ Some s → is_set_typed u v ≡ true → v ≡ Some s
  same-set s None v e h = absurd (let n : None ≡ Some s = e in cc)
  same-set s (Some r) None e h = absurd cc
  same-set s (Some r) (Some t) e h = ap Some (sym (same_type-is r t h)) ∙ e

  pub set-typed : (ty : Option Ty) (x y : ℕ) (fns ls : List ℕ) → item_at P f i ≡ Some (Act None ty op.Set (x ∷ y ∷ []) fns ls) → (s : Ty) → variable_type F.vars x ≡ Some s → variable_type F.vars y ≡ Some s
  set-typed ty x y fns ls at s e =
      let a : Instr = Act None ty op.Set (x ∷ y ∷ []) fns ls in
      let t = typed-unless (is_set_typed (variable_type F.vars x) (variable_type F.vars y)) (typed_at P F (accepted_function P f F accepted p) i a (in-code P f F p i a at)) in
      same-set s (variable_type F.vars x) (variable_type F.vars y) e t

module _ (P Q : Prog) (fresh : ℕ → ℕ → List ℕ) (accepted : IsAccepted P) (t : Unssaed P Q fresh) (f : ℕ) (F G : Func) (p : slice_get P.funcs f ≡ Some F) (q : slice_get Q.funcs f ≡ Some G) where
  abbrev V : List (List ℕ)
  V = variable_names F.vars

  abbrev W : List (List ℕ)
  W = variable_names G.vars

  -- ---- names that are extra

  -- a `get` or a `set` names the shadow, and its variable has a type
  abbrev pub is_left : ℕ → Bool
  is_left x = is_used F.code x && is_some (variable_type F.vars x)

  abbrev pub extra : List (List ℕ)
  extra = map (fresh f) (filter is_left (range_with_len 0 (length F.vars)))

  in_extra : (x : ℕ) (ty : Ty) → x < length F.vars → is_used F.code x ≡ true → variable_type F.vars x ≡ Some ty → In (fresh f x) extra
  in_extra x ty low used typed =
      in_map (fresh f) x (filter is_left (range_with_len 0 (length F.vars)))
      (in_filter is_left (range_with_len 0 (length F.vars)) x (in_range 0 (length F.vars) x (omega arith) (omega arith)) (and_from (is_used F.code x) (is_some (variable_type F.vars x)) used (ap is_some typed)))

  -- ---- items

  module _ (j : ℕ) (b : Instr) (bt : slice_get G.code j ≡ Some b) where
    tree-of : (i : Item) → tree_at Q f j ≡ Some i → item_tree (names_of_functions Q.funcs) W G.labels b ≡ i
    tree-of i at = same_Some _ _ (sym (ap (λ o. point_tree (names_of_functions Q.funcs) o j) q ∙ ap (option_map (item_tree (names_of_functions Q.funcs) W G.labels)) bt) ∙ at)

    among : In b G.code
    among = get_in G.code j b bt

    abbrev NameOf : List ℕ → Type 0
    NameOf name = ((x : ℕ) × (x < length F.vars) × (unchanged (named V x) ≡ name)) ⊎ In name extra

    of-get : (x : ℕ) (ty : Ty) (args fns ls : List ℕ) → item_at P f j ≡ Some (Act (Some x) (Some ty) op.Get args fns ls) → IsPlain unchanged extra F G b
    of-get x ty args fns ls at = by (got P Q fresh t f F p j x ty args fns ls at)
      where
        here : slice_get F.code j ≡ Some (Act (Some x) (Some ty) op.Get args fns ls)
        here = in-code P f F p j _ at

        low : x < length F.vars
        low = variable_below F j _ here x (inl refl)

        names : (name : List ℕ) → In name (named V x ∷ fresh f x ∷ []) → NameOf name
        names name (inl e) = inl (x, low, sym e)
        names name (inr (inl e)) =
            inr (subst (λ n. In n extra) (sym e) (in_extra x ty low (any_passes_from_place (names_shadow x) F.code j _ here (eq-eqb x x refl)) (get-typed P accepted f F p j x ty args fns ls at)))
        names name (inr (inr n)) = absurd n

        name : (name : List ℕ) → In name (named V x ∷ []) → NameOf name
        name n (inl e) = inl (x, low, sym e)
        name n (inr k) = absurd k

        by : Got P Q fresh t f F p j x ty → IsPlain unchanged extra F G b
        by (Copied w tree) = plain-tree unchanged extra F G b among (names_of_functions Q.funcs) (copy_item (named V x) ty (fresh f x)) (tree-of _ tree) refl refl names
        by (Undefined w tree) = plain-tree unchanged extra F G b among (names_of_functions Q.funcs) (undef_item (named V x) ty) (tree-of _ tree) refl refl name

    of-set : (ty : Option Ty) (x y : ℕ) (fns ls : List ℕ) → item_at P f j ≡ Some (Act None ty op.Set (x ∷ y ∷ []) fns ls) → IsPlain unchanged extra F G b
    of-set ty x y fns ls at = by (put P Q fresh t f F p j ty x y fns ls at)
      where
        here : slice_get F.code j ≡ Some (Act None ty op.Set (x ∷ y ∷ []) fns ls)
        here = in-code P f F p j _ at

        names : (s : Ty) → variable_type F.vars x ≡ Some s → (name : List ℕ) → In name (fresh f x ∷ named V y ∷ []) → NameOf name
        names s typed name (inl e) =
            inr (subst (λ n. In n extra) (sym e) (in_extra x s (variable_below F j _ here x (inl refl)) (any_passes_from_place (names_shadow x) F.code j _ here (eq-eqb x x refl)) typed))
        names s typed name (inr (inl e)) = inl (y, variable_below F j _ here y (inr (inl refl)), sym e)
        names s typed name (inr (inr n)) = absurd n

        by : Put P Q fresh t f F p j x y → IsPlain unchanged extra F G b
        by (Given s typed tree) = plain-tree unchanged extra F G b among (names_of_functions Q.funcs) (copy_item (fresh f x) s (named V y)) (tree-of _ tree) refl refl (names s typed)
        by (Gone none tree) = nop-plain unchanged extra F G b (same_Some _ _ (sym bt ∙ in-code Q f G q j nop (nop-at Q f j tree)))

    each : IsPlain unchanged extra F G b ⊎ ((i : ℕ) × (tree_at P f i ≡ tree_at Q f j))
    each = by (kind P accepted f j)
      where
        by : Kind (item_at P f j) → IsPlain unchanged extra F G b ⊎ ((i : ℕ) × (tree_at P f i ≡ tree_at Q f j))
        by (Stays e) = inr (j, kept P Q fresh t f j e)
        by (Gets x ty args fns ls at) = inl (of-get x ty args fns ls at)
        by (Sets ty x y fns ls at) = inl (of-set ty x y fns ls at)

  pub of_items : IsOfItems unchanged extra F G
  of_items = items-plain P Q f F G p q extra (t.heads.args f F G p q) each

  -- ---- variables

  -- the variable stands for the shadow of one that has a type
  pub record StandsFor (y : ℕ) : Type 0 where
    pub x : ℕ
    pub low : x < length F.vars
    pub used : is_used F.code x ≡ true
    pub typed : is_some (variable_type F.vars x) ≡ true
    pub same : fresh f x ≡ named W y

  pub variables : (y : ℕ) → y < length G.vars → IsNamed unchanged F G y ⊎ StandsFor y
  variables y low = ⊎_elim inl (λ i. inr (from i)) (variable-named unchanged extra F G of_items y low)
    where
      from : In (named W y) extra → StandsFor y
      from i =
          let s = in_map_source (fresh f) (named W y) (filter is_left (range_with_len 0 (length F.vars))) i in
          let h = filter_in is_left (range_with_len 0 (length F.vars)) s.0 s.1 in
          let parts = and_parts (is_used F.code s.0) (is_some (variable_type F.vars s.0)) h.1 in
          let high = range_high 0 (length F.vars) s.0 h.0 in
          record { x = s.0; low = omega arith; used = parts.0; typed = parts.1; same = sym s.2 }

  -- nothing stands for the shadow of a variable without a type
  pub none-stands : (x : ℕ) → x < length F.vars → variable_type F.vars x ≡ None → (y : ℕ) → y < length G.vars → named W y ≡ fresh f x → ⊥
  none-stands x low none y high e = ⊎_elim old new (variables y high)
    where
      old : IsNamed unchanged F G y → ⊥
      old n = let l = n.low in new-name P Q fresh t f F p x n.x (omega (arith, names-long P f F p)) (omega (arith, names-long P f F p)) (sym e ∙ sym n.same)

      new : StandsFor y → ⊥
      new s =
          let l = s.low in
          let one : s.x ≡ x = (t.are f F p).differ s.x x (omega (arith, names-long P f F p)) (omega (arith, names-long P f F p)) (s.same ∙ e) in
          let h : is_some (variable_type F.vars x) ≡ true = ap (λ z. is_some (variable_type F.vars z)) (sym one) ∙ s.typed in
          let n = ap is_some none in
          cc
