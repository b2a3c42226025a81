-- A program whose items are renamed items of an accepted one, `get`s, `set`s, labels and `nop`s fits, where each definition has
-- its type: so it is accepted.
use Rattle.std.proofs.Common.{◌≡◌, ◌⊎◌, ℕ, zero, suc, ◌<◌, ◌≤◌, true, false, List, [], ◌∷◌, ◌++◌, length, map, Option, Some, None, refl, sym, ap, subst, ◌∙◌, inl, inr, arith}
use Rattle.std.specs.Prelude.{slice_get, is_some, ◌&&◌}
use Rattle.std.proofs.lemmas.Bool.{cases_lt, eq-eqb}
use Rattle.std.proofs.lemmas.List.{length-map}
use Rattle.std.proofs.lemmas.Option.{same_Some}
use Rattle.bril_tree.specs.declared.function_tree.Dest.{Dest}
use Rattle.bril_tree.specs.declared.function_tree.Item.TheVariants as item
use Rattle.bril_tree.specs.declared.numbered.Instr.{Instr}
use Rattle.bril_tree.specs.declared.numbered.Instr.TheVariants.{Label, Const, Act}
use Rattle.bril_tree.specs.declared.numbered.VarInfo.{VarInfo}
use Rattle.bril_tree.specs.declared.numbered_function.Func.{Func}
use Rattle.bril_tree.specs.declared.operation.Op.{Op}
use Rattle.bril_tree.specs.declared.operation.Op.TheVariants as op
use Rattle.bril_tree.specs.declared.program.Prog.{Prog}
use Rattle.bril_tree.specs.declared.types.Base.{Base}
use Rattle.bril_tree.specs.declared.types.Base.TheVariants as base
use Rattle.bril_tree.specs.declared.types.Ty.{Ty}
use Rattle.bril_tree.specs.Accepted.{IsAccepted, IsAcceptedFunction, AreWalksAccepted}
use Rattle.bril_tree.specs.Shape.{is_shaped}
use Rattle.bril_tree.specs.FunctionForm.{listed, both_or_neither, dest_is_typed, variables_of}
use Rattle.bril_tree.specs.Numbered.{named, names_in, names_of_functions, variable_names, tree_at, typed_name, dest_tree, item_tree}
use Rattle.bril_tree.specs.Operand.{dest_of}
use Rattle.bril_tree.specs.Run.{types_of}
use Rattle.bril_tree.specs.Step.{items_of, code_of, item_at}
use Rattle.bril_tree.specs.Typing.{variable_type, return_type, same_type, same_base, both_typed, wrong_unless, is_set_typed, type_fault, is_call_shaped}
use Rattle.bril_tree.specs.Membership.{In}
use Rattle.bril_tree.proofs.Acceptance.{accepted_function, shaped_at, call_at, typed_at}
use Rattle.bril_tree.proofs.Elements.{zip-long}
use Rattle.bril_tree.proofs.Typings.{type_of, some_type}
use Rattle.bril_names.specs.Range.{AreBelow}
use Rattle.bril_names.proofs.Functions.{Differ-functions}
use Rattle.bril_names.proofs.Naming.{one_number, AreBelow-append}
use Rattle.bril_tree.proofs.Typings.{IsDestination}
use Rattle.pass_edit_laws.specs.names.Named.{SameName}
use Rattle.pass_edit_laws.specs.names.NamedPlan.{SameHeads}
use Rattle.pass_edit_laws.proofs.lemmas.names.Points.{Found, found, found_under, Differ-in}
use Rattle.pass_edit_laws.specs.acceptance.Stays.{FitsByItself, Stays}
use Rattle.bril_tree.specs.Numbered.{nop_item}
use Rattle.ssa_laws.specs.inserted_copies.Inserted.{is_copy, renamed, renamed_at, renamed_dest}
use Rattle.ssa_laws.specs.layout.Accepted.{args_named}
use Rattle.ssa_laws.specs.layout.Laid.{get_tree, set_tree}
use Rattle.ssa_laws.proofs.lemmas.inserted_copies.Refines.{renamed-found}
use Rattle.ssa_laws.proofs.lemmas.inserted_copies.Renamed.{Matches, item-matches}
use Rattle.ssa_laws.proofs.lemmas.layout.Fitting.{act-fits, const-fits, type-of_variable}

abbrev pub name_or : (ℕ → List ℕ) → Option ℕ → List ℕ
name_or name None = []
name_or name (Some y) = name y

same_base-own : (b : Base) → same_base b b ≡ true
same_base-own base.Int = refl
same_base-own base.Bool = refl
same_base-own base.Char = refl

same_type-own : (t : Ty) → same_type t t ≡ true
same_type-own t = ap (λ b. b && same_base t.base t.base) (eq-eqb t.depth t.depth refl) ∙ same_base-own t.base

module _ (P Q : Prog) (accepted : IsAccepted P) (heads : SameHeads P Q) (f : ℕ) (F G : Func) (p : slice_get P.funcs f ≡ Some F) (q : slice_get Q.funcs f ≡ Some G)
    (callees : (g : ℕ) → types_of (slice_get P.funcs g) ≡ types_of (slice_get Q.funcs g)) (results : (g : ℕ) → return_type (slice_get P.funcs g) ≡ return_type (slice_get Q.funcs g))
    (name : ℕ → List ℕ) (injective : (y z : ℕ) → name y ≡ name z → y ≡ z) (types : ℕ → Option Ty) where
  abbrev pub W : List (List ℕ)
  W = names_in (slice_get Q.funcs f)

  -- the variable has the name of the definition
  abbrev pub Has : ℕ → ℕ → Type 0
  Has v y = (v < length W) × (named W v ≡ name y)

  abbrev pub Given : ℕ → Type 0
  Given y = (v : ℕ) → Has v y → (v < G.args) ⊎ IsDestination G.code v

  -- what an item of the result is
  pub data Piece (j : ℕ) : Type 0 where
    Moved : (i : ℕ) (a : Instr) (r : ℕ → Option ℕ) (w : ℕ) → item_at P f i ≡ Some a → is_copy (Some a) ≡ false → renamed_at P (λ x. name_or name (r x)) (name w) f i ≡ tree_at Q f j
        → ((x : ℕ) → In x (args_named a) → (y : ℕ) × (r x ≡ Some y) × (types y ≡ variable_type F.vars x) × Given y) → ((x : ℕ) → dest_of a ≡ Some x → (types w ≡ type_of a) × (types w ≡ variable_type F.vars x)) → Piece j
    Got : (y : ℕ) (ty : Ty) → tree_at Q f j ≡ Some (get_tree (name y) ty) → types y ≡ Some ty → Piece j
    Put : (y z : ℕ) (ty : Ty) → tree_at Q f j ≡ Some (set_tree (name y) (name z)) → types y ≡ Some ty → types z ≡ Some ty → Given y → Given z → Piece j
    Blank : tree_at Q f j ≡ Some nop_item → Piece j
    Mark : (l : List ℕ) → tree_at Q f j ≡ Some (item.Label l) → Piece j

  -- ---- an action of the result, by its tree

  record ActThere (j : ℕ) (D : Option Dest) (o : Op) (names : List (List ℕ)) (b : Instr) : Type 0 where
    dest : Option ℕ
    ty : Option Ty
    args : List ℕ
    funcs : List ℕ
    labels : List ℕ
    is : b ≡ Act dest ty o args funcs labels
    dest_is : dest_tree W dest ty ≡ D
    args_are : map (named W) args ≡ names
    no_funcs : funcs ≡ []
    no_labels : labels ≡ []
    below : AreBelow (length W) (listed dest ++ args)
    typed : both_or_neither dest ty ≡ true

  empty : (ns : List (List ℕ)) (xs : List ℕ) → map (named ns) xs ≡ [] → xs ≡ []
  empty ns [] e = refl
  empty ns (x ∷ xs) e = absurd cc

  act-there : (j : ℕ) (D : Option Dest) (o : Op) (names : List (List ℕ)) (b : Instr) → item_at Q f j ≡ Some b → tree_at Q f j ≡ Some (item.Act D o names [] []) → ActThere j D o names b
  act-there j D o names b at tree = by b (found Q f j b at) (same_Some _ _ (sym (found Q f j b at).tree ∙ tree))
    where
      by : (c : Instr) → (g : Found Q f j c) → item_tree (names_of_functions Q.funcs) W g.function.labels c ≡ item.Act D o names [] [] → ActThere j D o names c
      by (Label l) g e = absurd cc
      by (Const d t v) g e = absurd cc
      by (Act d t u args fns ls) g e =
          let eo : u ≡ o = cc in
          let ed : dest_tree W d t ≡ D = cc in
          let ea : map (named W) args ≡ names = cc in
          let ef : map (named (names_of_functions Q.funcs)) fns ≡ [] = cc in
          let el : map (named g.function.labels) ls ≡ [] = cc in
          record { dest = d; ty = t; args = args; funcs = fns; labels = ls; is = ap (λ z. Act d t z args fns ls) eo; dest_is = ed; args_are = ea; no_funcs = empty (names_of_functions Q.funcs) fns ef; no_labels = empty g.function.labels ls el; below = g.range.variables; typed = g.range.typed }

  -- ---- a moved item

  record MovedThere (i j : ℕ) (a b : Instr) (r : ℕ → Option ℕ) (w : ℕ) : Type 0 where
    PL : List (List ℕ)
    QL : List (List ℕ)
    tree : renamed (names_of_functions P.funcs) PL (λ x. name_or name (r x)) (name w) a ≡ item_tree (names_of_functions P.funcs) W QL b
    typed : dest_is_typed b ≡ true
    below : AreBelow (length W) (variables_of b)
    matches : Matches (names_of_functions P.funcs) (names_in (slice_get P.funcs f)) W PL QL (Differ-functions P) (λ x. name_or name (r x)) (name w) (λ x y. Unit {0}) a b

  moved-there : (i j : ℕ) (a b : Instr) (r : ℕ → Option ℕ) (w : ℕ) → item_at P f i ≡ Some a → is_copy (Some a) ≡ false → renamed_at P (λ x. name_or name (r x)) (name w) f i ≡ tree_at Q f j → item_at Q f j ≡ Some b → MovedThere i j a b r w
  moved-there i j a b r w at plain same bt =
      let fa = found P f i a at in
      let fb = found Q f j b bt in
      let fs = names_of_functions P.funcs in
      let under = found_under fs Q heads.names f j b fb in
      let tree : renamed fs fa.function.labels (λ x. name_or name (r x)) (name w) a ≡ item_tree fs W fb.function.labels b = same_Some _ _ (sym (renamed-found P f i a (λ x. name_or name (r x)) (name w) at fa.function fa.there) ∙ same ∙ under.tree) in
      record { PL = fa.function.labels; QL = fb.function.labels; tree = tree; typed = fb.range.typed; below = fb.range.variables; matches = item-matches fs (names_in (slice_get P.funcs f)) W fa.function.labels fb.function.labels (Differ-functions P) (λ x. name_or name (r x)) (name w) (λ x y. Unit {0}) a b plain tree fa.range under.range (λ x y h l e. tt) }

  -- its destination has the name of w and its type
  moved-dest : (i j : ℕ) (a b : Instr) (r : ℕ → Option ℕ) (w : ℕ) → MovedThere i j a b r w → (v : ℕ) → dest_of b ≡ Some v → (x : ℕ) × (dest_of a ≡ Some x) × (named W v ≡ name w) × (type_of b ≡ type_of a)
  moved-dest i j (Label l) (Label m) r w h v d = absurd cc
  moved-dest i j (Label l) (Const y t u) r w h v d = absurd (let e = h.tree in cc)
  moved-dest i j (Label l) (Act e t u args fns ls) r w h v d = absurd (let k = h.tree in cc)
  moved-dest i j (Const x s c) (Label m) r w h v d = absurd cc
  moved-dest i j (Const x s c) (Const y t u) r w h v d = let k = h.tree in let n : name w ≡ named W y = cc in let m : s ≡ t = cc in let yv : y ≡ v = cc in (x, refl, ap (named W) (sym yv) ∙ sym n, ap Some (sym m))
  moved-dest i j (Const x s c) (Act e t u args fns ls) r w h v d = absurd (let k = h.tree in cc)
  moved-dest i j (Act e s o args fns ls) (Label m) r w h v d = absurd cc
  moved-dest i j (Act e s o args fns ls) (Const y t u) r w h v d = absurd (let k = h.tree in cc)
  moved-dest i j (Act e s o args fns ls) (Act e' s' o' args' fns' ls') r w h v d = by e s e' s' (let k = h.tree in let z : renamed_dest e s (name w) ≡ dest_tree W e' s' = cc in z) h.matches.same.dest (sym h.matches.same.ty) h.typed d
    where
      by : (e : Option ℕ) (s : Option Ty) (e' : Option ℕ) (s' : Option Ty) → renamed_dest e s (name w) ≡ dest_tree W e' s' → is_some e ≡ is_some e' → s' ≡ s → both_or_neither e' s' ≡ true → e' ≡ Some v → (x : ℕ) × (e ≡ Some x) × (named W v ≡ name w) × (s' ≡ s)
      by None s e' s' k there t b d = absurd (let z : false ≡ true = there ∙ ap is_some d in cc)
      by (Some x) None None s' k there t b d = absurd cc
      by (Some x) None (Some y) None k there t b d = absurd cc
      by (Some x) None (Some y) (Some u) k there t b d = absurd cc
      by (Some x) (Some u) None s' k there t b d = absurd cc
      by (Some x) (Some u) (Some y) None k there t b d = absurd cc
      by (Some x) (Some u) (Some y) (Some u') k there t b d =
          let one = same_Some (typed_name (name w) u) (typed_name (named W y) u') k in
          let yv : y ≡ v = cc in
          (x, refl, ap (named W) (sym yv) ∙ sym (ap (λ (z : Dest). z.name) one), t)

  -- ---- types of variables

  module _ (pieces : (j : ℕ) (b : Instr) → item_at Q f j ≡ Some b → Piece j) (argued : (v y : ℕ) → v < G.args → Has v y → variable_type G.vars v ≡ types y) where
    -- each destination of a definition's name has its type
    dest-has : (j v y : ℕ) (b : Instr) → item_at Q f j ≡ Some b → dest_of b ≡ Some v → named W v ≡ name y → type_of b ≡ types y
    dest-has j v y b bt d n = by (pieces j b bt)
      where
        tree-dest : (D : Option Dest) (o : Op) (names : List (List ℕ)) → ActThere j D o names b → (e : Option ℕ) (s : Option Ty) → dest_of b ≡ e → type_of b ≡ s → dest_tree W e s ≡ D
        tree-dest D o names t e s de se = ap (λ k. dest_tree W k s) (sym de ∙ ap dest_of t.is) ∙ ap (dest_tree W t.dest) (sym se ∙ ap type_of t.is) ∙ t.dest_is

        by : Piece j → type_of b ≡ types y
        by (Moved i a r w at plain same reads dests) =
            let h = moved-there i j a b r w at plain same bt in
            let m = moved-dest i j a b r w h v d in
            let e : w ≡ y = injective w y (sym m.2 ∙ n) in
            m.3 ∙ sym (dests m.0 m.1).0 ∙ ap types e
        by (Got z ty tree typed) =
            let t = act-there j (Some (typed_name (name z) ty)) op.Get [] b bt tree in
            by_type (type_of b) refl (tree-dest (Some (typed_name (name z) ty)) op.Get [] t (Some v) (type_of b) d refl)
          where
            by_type : (s : Option Ty) → type_of b ≡ s → dest_tree W (Some v) s ≡ Some (typed_name (name z) ty) → type_of b ≡ types y
            by_type None se e = absurd cc
            by_type (Some u) se e =
                let one = same_Some (typed_name (named W v) u) (typed_name (name z) ty) e in
                let zy : z ≡ y = injective z y (sym (ap (λ (k : Dest). k.name) one) ∙ n) in
                se ∙ ap Some (ap (λ (k : Dest). k.ty) one) ∙ sym typed ∙ ap types zy
        by (Put z u ty tree tz tu gz gu) = absurd (let t = act-there j None op.Set (name z ∷ name u ∷ []) b bt tree in none t (type_of b) refl (tree-dest None op.Set (name z ∷ name u ∷ []) t (Some v) (type_of b) d refl))
          where
            none : ActThere j None op.Set (name z ∷ name u ∷ []) b → (s : Option Ty) → type_of b ≡ s → dest_tree W (Some v) s ≡ None → ⊥
            none t (Some k) se e = cc
            none t None se e = let x : false ≡ true = ap (both_or_neither (Some v)) (sym se ∙ ap type_of t.is) ∙ ap (λ k. both_or_neither k t.ty) (sym d ∙ ap dest_of t.is) ∙ t.typed in cc
        by (Blank tree) = absurd (let t = act-there j None op.Nop [] b bt tree in none t (type_of b) refl (tree-dest None op.Nop [] t (Some v) (type_of b) d refl))
          where
            none : ActThere j None op.Nop [] b → (s : Option Ty) → type_of b ≡ s → dest_tree W (Some v) s ≡ None → ⊥
            none t (Some k) se e = cc
            none t None se e = let x : false ≡ true = ap (both_or_neither (Some v)) (sym se ∙ ap type_of t.is) ∙ ap (λ k. both_or_neither k t.ty) (sym d ∙ ap dest_of t.is) ∙ t.typed in cc
        by (Mark l tree) = absurd (label b (found Q f j b bt) (same_Some _ _ (sym (found Q f j b bt).tree ∙ tree)) d)
          where
            label : (c : Instr) → (g : Found Q f j c) → item_tree (names_of_functions Q.funcs) W g.function.labels c ≡ item.Label l → dest_of c ≡ Some v → ⊥
            label (Label k) g e d = cc
            label (Const x s u) g e d = absurd cc
            label (Act x s o args fns ls) g e d = absurd cc

    -- the type of a variable that has a definition's name
    variable-typed : (v y : ℕ) (t : Ty) → Has v y → types y ≡ Some t → Given y → variable_type G.vars v ≡ Some t
    variable-typed v y t h typed given = by (cases_lt v G.args) (given v h)
      where
        W-is : W ≡ variable_names G.vars
        W-is = ap names_in q

        by : (v < G.args) ⊎ (G.args ≤ v) → (v < G.args) ⊎ IsDestination G.code v → variable_type G.vars v ≡ Some t
        by (inl l) g = argued v y l h ∙ typed
        by (inr l) (inl k) = absurd (omega (arith, l, k))
        by (inr l) (inr g) = at_dest (slice_get G.vars v) refl
          where
            code-is : code_of Q f ≡ G.code
            code-is = ap items_of q

            at_dest : (o : Option VarInfo) → slice_get G.vars v ≡ o → variable_type G.vars v ≡ Some t
            at_dest None e = absurd (let n = none G.vars v (let k = length-map G.vars (λ (u : VarInfo). u.name) in let z = ap length W-is in let m = h.0 in omega (arith, k, z, m)) e in n)
              where
                none : (vars : List VarInfo) (k : ℕ) → k < length vars → slice_get vars k ≡ None → ⊥
                none [] k l e = omega arith
                none (u ∷ vars) zero l e = cc
                none (u ∷ vars) (suc k) l e = none vars k (omega arith) e
            at_dest (Some u) e =
                type-of_variable G v t l u e
                (λ b i dest. let k = index b G.code i in dest-has k.0 v y b (ap (λ c. slice_get c k.0) code-is ∙ k.1) dest h.1 ∙ typed)
                g.item (among g.point g.item G.code g.at) g.dest
              where
                index : (b : Instr) (code : List Instr) → In b code → (k : ℕ) × (slice_get code k ≡ Some b)
                index b [] i = absurd i
                index b (c ∷ code) (inl e) = (0, ap Some (sym e))
                index b (c ∷ code) (inr i) = let r = index b code i in (suc r.0, r.1)

                among : (k : ℕ) (b : Instr) (code : List Instr) → slice_get code k ≡ Some b → In b code
                among k b [] e = absurd cc
                among zero b (c ∷ code) e = inl (sym (same_Some _ _ e))
                among (suc k) b (c ∷ code) e = inr (among k b code e)

    -- the same, whatever the type is
    has-type : (v y : ℕ) → Has v y → Given y → variable_type G.vars v ≡ types y
    has-type v y h given = by (given v h)
      where
        by : (v < G.args) ⊎ IsDestination G.code v → variable_type G.vars v ≡ types y
        by (inl l) = argued v y l h
        by (inr g) =
            let bt : item_at Q f g.point ≡ Some g.item = ap (λ o. slice_get (items_of o) g.point) q ∙ g.at in
            let t = some_type g.item v (found Q f g.point g.item bt).range.typed g.dest in
            let e : types y ≡ Some t.0 = sym (dest-has g.point v y g.item bt g.dest h.1) ∙ t.1 in
            variable-typed v y t.0 h e given ∙ sym e

    -- what is assigned by an item of the result
    given-here : (j v y : ℕ) (b : Instr) → item_at Q f j ≡ Some b → dest_of b ≡ Some v → Has v y → Given y
    given-here j v y b bt d h u k =
        let one : u ≡ v = one_number W (Differ-in (slice_get Q.funcs f)) u v k.0 h.0 (k.1 ∙ sym h.1) in
        inr (record { point = j; item = b; at = sym (ap (λ o. slice_get (items_of o) j) q) ∙ bt; dest = d ∙ ap Some (sym one) })

    zip-typed : (r : ℕ → List ℕ) (args rargs : List ℕ) → map r args ≡ map (named W) rargs → AreBelow (length W) rargs → ((x v : ℕ) → In x args → In v rargs → v < length W → named W v ≡ r x → variable_type F.vars x ≡ variable_type G.vars v) → map (variable_type F.vars) args ≡ map (variable_type G.vars) rargs
    zip-typed r [] [] e b h = refl
    zip-typed r [] (v ∷ vs) e b h = absurd cc
    zip-typed r (x ∷ xs) [] e b h = absurd cc
    zip-typed r (x ∷ xs) (v ∷ vs) e b h =
        let n : r x ≡ named W v = cc in
        let rest : map r xs ≡ map (named W) vs = cc in
        let one = h x v (inl refl) (inl refl) b.0 (sym n) in
        let more = zip-typed r xs vs rest b.1 (λ y u i k. h y u (inr i) (inr k)) in
        λ i. one i ∷ more i

    facts : IsAcceptedFunction P F
    facts = accepted_function P f F accepted p

    module _ (i j : ℕ) (a b : Instr) (r : ℕ → Option ℕ) (w : ℕ) (at : item_at P f i ≡ Some a) (plain : is_copy (Some a) ≡ false) (same : renamed_at P (λ x. name_or name (r x)) (name w) f i ≡ tree_at Q f j) (bt : item_at Q f j ≡ Some b)
        (reads : (x : ℕ) → In x (args_named a) → (y : ℕ) × (r x ≡ Some y) × (types y ≡ variable_type F.vars x) × Given y) (dests : (x : ℕ) → dest_of a ≡ Some x → (types w ≡ type_of a) × (types w ≡ variable_type F.vars x)) where
      h : MovedThere i j a b r w
      h = moved-there i j a b r w at plain same bt

      at-f : slice_get F.code i ≡ Some a
      at-f = sym (ap (λ o. slice_get (items_of o) i) p) ∙ at

      dest-typed : (x v : ℕ) → dest_of a ≡ Some x → dest_of b ≡ Some v → v < length W → variable_type F.vars x ≡ variable_type G.vars v
      dest-typed x v da db less =
          let m = moved-dest i j a b r w h v db in
          sym (dests x da).1 ∙ sym (has-type v w (less, m.2) (given-here j v w b bt db (less, m.2)))

      arg-typed : (x v : ℕ) → In x (args_named a) → v < length W → named W v ≡ name_or name (r x) → variable_type F.vars x ≡ variable_type G.vars v
      arg-typed x v ix less n =
          let y = reads x ix in
          sym y.2 ∙ sym (has-type v y.0 (less, n ∙ ap (name_or name) y.1) y.3)

      moved-fits : FitsByItself Q G b
      moved-fits = by a b refl refl
        where
          shaped-a : is_shaped (is_some F.ret) a ≡ true
          shaped-a = shaped_at P F facts i a at-f

          called-a : is_call_shaped P F a ≡ true
          called-a = call_at P F facts i a at-f

          typed-a : type_fault P F a ≡ None
          typed-a = typed_at P F facts i a at-f

          by : (c d : Instr) → a ≡ c → b ≡ d → FitsByItself Q G b
          by (Label l) (Label m) ea eb = subst (FitsByItself Q G) (sym eb) (record { shaped = refl; calls = refl; typed = refl })
          by (Label l) (Const y t u) ea eb = absurd (let k = h.tree in cc)
          by (Label l) (Act e t u args fns ls) ea eb = absurd (let k = h.tree in cc)
          by (Const x s c) (Label m) ea eb = absurd (let k = h.tree in cc)
          by (Const x s c) (Const y t u) ea eb =
              let k : item.Const (name w) s c ≡ item.Const (named W y) t u = sym (ap (renamed (names_of_functions P.funcs) h.PL (λ x. name_or name (r x)) (name w)) ea) ∙ h.tree ∙ ap (item_tree (names_of_functions P.funcs) W h.QL) eb in
              let st : s ≡ t = cc in
              let cu : c ≡ u = cc in
              let less : y < length W = (subst (λ z. AreBelow (length W) (variables_of z)) eb h.below).0 in
              let e = dest-typed x y (ap dest_of ea) (ap dest_of eb) less in
              subst (FitsByItself Q G) (sym eb) (const-fits P Q F G callees results (heads.ret f F G p q) x y t u e (ap (type_fault P F) (sym (ea ∙ ap (λ z. Const x z c) st ∙ ap (λ z. Const x t z) cu)) ∙ typed-a))
          by (Const x s c) (Act e t u args fns ls) ea eb = absurd (let k = h.tree in cc)
          by (Act d s o args fns ls) (Label m) ea eb = absurd (let k = h.tree in cc)
          by (Act d s o args fns ls) (Const y t u) ea eb = absurd (let k = h.tree in cc)
          by (Act d s o args fns ls) (Act e t u rargs gns ms) ea eb =
              let k : renamed (names_of_functions P.funcs) h.PL (λ x. name_or name (r x)) (name w) (Act d s o args fns ls) ≡ item_tree (names_of_functions P.funcs) W h.QL (Act e t u rargs gns ms) = sym (ap (renamed (names_of_functions P.funcs) h.PL (λ x. name_or name (r x)) (name w)) ea) ∙ h.tree ∙ ap (item_tree (names_of_functions P.funcs) W h.QL) eb in
              let m : Matches (names_of_functions P.funcs) (names_in (slice_get P.funcs f)) W h.PL h.QL (Differ-functions P) (λ x. name_or name (r x)) (name w) (λ x y. Unit {0}) (Act d s o args fns ls) (Act e t u rargs gns ms) =
              subst (λ z. Matches (names_of_functions P.funcs) (names_in (slice_get P.funcs f)) W h.PL h.QL (Differ-functions P) (λ x. name_or name (r x)) (name w) (λ x y. Unit {0}) (Act d s o args fns ls) z) eb
              (subst (λ z. Matches (names_of_functions P.funcs) (names_in (slice_get P.funcs f)) W h.PL h.QL (Differ-functions P) (λ x. name_or name (r x)) (name w) (λ x y. Unit {0}) z b) ea h.matches) in
              let ek : map (λ x. name_or name (r x)) args ≡ map (named W) rargs = cc in
              let below = AreBelow-append (length W) (listed e) rargs (subst (λ z. AreBelow (length W) (variables_of z)) eb h.below) in
              subst (FitsByItself Q G) (sym eb) (act-fits P Q F G callees results (heads.ret f F G p q) o u d e s t args rargs fns gns ls ms
              (record {
                operation = m.same.operation;
                ty = m.same.ty;
                dest = m.same.dest;
                funcs = m.same.funcs;
                labels = zip-long (SameName h.PL h.QL) ls ms m.targets;
                args_typed = zip-typed (λ x. name_or name (r x)) args rargs ek below.1 (λ x v ix iv less n. arg-typed x v (subst (In x) (sym (ap args_named ea)) ix) less n);
                dest_typed = λ x v dx dv. dest-typed x v (ap dest_of ea ∙ dx) (ap dest_of eb ∙ dv) (subst (λ z. AreBelow (length W) (listed z)) dv below.0).0;
              })
              (ap (is_shaped (is_some F.ret)) (sym ea) ∙ shaped-a) (ap (is_call_shaped P F) (sym ea) ∙ called-a) (ap (type_fault P F) (sym ea) ∙ typed-a))

    -- ---- `get`s, `set`s, `nop`s and labels

    got-fits : (j y : ℕ) (ty : Ty) (b : Instr) → item_at Q f j ≡ Some b → tree_at Q f j ≡ Some (get_tree (name y) ty) → types y ≡ Some ty → FitsByItself Q G b
    got-fits j y ty b bt tree typed = by t.dest t.ty t.args t.funcs t.labels t.is t.dest_is (empty W t.args t.args_are) t.no_funcs t.no_labels t.below
      where
        t : ActThere j (Some (typed_name (name y) ty)) op.Get [] b
        t = act-there j (Some (typed_name (name y) ty)) op.Get [] b bt tree

        by : (d : Option ℕ) (s : Option Ty) (args fns ls : List ℕ) → b ≡ Act d s op.Get args fns ls → dest_tree W d s ≡ Some (typed_name (name y) ty) → args ≡ [] → fns ≡ [] → ls ≡ [] → AreBelow (length W) (listed d ++ args) → FitsByItself Q G b
        by None s args fns ls is e a n l below = absurd cc
        by (Some v) None args fns ls is e a n l below = absurd cc
        by (Some v) (Some u) args fns ls is e a n l below =
            let one = same_Some (typed_name (named W v) u) (typed_name (name y) ty) e in
            let has : Has v y = (below.0, ap (λ (k : Dest). k.name) one) in
            let us : Some u ≡ Some ty = ap Some (ap (λ (k : Dest). k.ty) one) in
            let vt : variable_type G.vars v ≡ Some u = has-type v y has (given-here j v y b bt (ap dest_of is) has) ∙ typed ∙ sym us in
            let all : b ≡ Act (Some v) (Some u) op.Get [] [] [] = is ∙ ap (λ z. Act (Some v) (Some u) op.Get z fns ls) a ∙ ap (λ z. Act (Some v) (Some u) op.Get [] z ls) n ∙ ap (λ z. Act (Some v) (Some u) op.Get [] [] z) l in
            subst (FitsByItself Q G) (sym all) (record {
              shaped = refl;
              calls = refl;
              typed = ap (λ o. wrong_unless (both_typed same_type (Some u) o && true)) vt ∙ ap (λ c. wrong_unless (c && true)) (same_type-own u);
            })

    put-fits : (j y z : ℕ) (ty : Ty) (b : Instr) → item_at Q f j ≡ Some b → tree_at Q f j ≡ Some (set_tree (name y) (name z)) → types y ≡ Some ty → types z ≡ Some ty → Given y → Given z → FitsByItself Q G b
    put-fits j y z ty b bt tree ty-y ty-z gy gz = by t.dest t.ty t.args t.funcs t.labels t.is t.dest_is t.args_are t.no_funcs t.no_labels t.below t.typed
      where
        t : ActThere j None op.Set (name y ∷ name z ∷ []) b
        t = act-there j None op.Set (name y ∷ name z ∷ []) b bt tree

        by : (d : Option ℕ) (s : Option Ty) (args fns ls : List ℕ) → b ≡ Act d s op.Set args fns ls → dest_tree W d s ≡ None → map (named W) args ≡ name y ∷ name z ∷ [] → fns ≡ [] → ls ≡ [] → AreBelow (length W) (listed d ++ args) → both_or_neither d s ≡ true → FitsByItself Q G b
        by (Some v) (Some u) args fns ls is e a n l below both = absurd cc
        by (Some v) None args fns ls is e a n l below both = absurd cc
        by None (Some u) args fns ls is e a n l below both = absurd cc
        by None None [] fns ls is e a n l below both = absurd cc
        by None None (v ∷ []) fns ls is e a n l below both = absurd cc
        by None None (v ∷ u ∷ k ∷ rest) fns ls is e a n l below both = absurd cc
        by None None (v ∷ u ∷ []) fns ls is e a n l below both =
            let nv : named W v ≡ name y = cc in
            let nu : named W u ≡ name z = cc in
            let tv : variable_type G.vars v ≡ Some ty = has-type v y (below.0, nv) gy ∙ ty-y in
            let tu : variable_type G.vars u ≡ Some ty = has-type u z (below.1.0, nu) gz ∙ ty-z in
            let all : b ≡ Act None None op.Set (v ∷ u ∷ []) [] [] = is ∙ ap (λ k. Act None None op.Set (v ∷ u ∷ []) k ls) n ∙ ap (λ k. Act None None op.Set (v ∷ u ∷ []) [] k) l in
            subst (FitsByItself Q G) (sym all) (record {
              shaped = refl;
              calls = refl;
              typed = ap (λ o. wrong_unless (true && is_set_typed o (variable_type G.vars u))) tv ∙ ap (λ o. wrong_unless (true && is_set_typed (Some ty) o)) tu ∙ ap (λ c. wrong_unless (true && c)) (same_type-own ty);
            })

    blank-fits : (j : ℕ) (b : Instr) → item_at Q f j ≡ Some b → tree_at Q f j ≡ Some nop_item → FitsByItself Q G b
    blank-fits j b bt tree = by t.dest t.ty t.args t.funcs t.labels t.is t.dest_is (empty W t.args t.args_are) t.no_funcs t.no_labels t.typed
      where
        t : ActThere j None op.Nop [] b
        t = act-there j None op.Nop [] b bt tree

        by : (d : Option ℕ) (s : Option Ty) (args fns ls : List ℕ) → b ≡ Act d s op.Nop args fns ls → dest_tree W d s ≡ None → args ≡ [] → fns ≡ [] → ls ≡ [] → both_or_neither d s ≡ true → FitsByItself Q G b
        by (Some v) (Some u) args fns ls is e a n l both = absurd cc
        by (Some v) None args fns ls is e a n l both = absurd cc
        by None (Some u) args fns ls is e a n l both = absurd cc
        by None None args fns ls is e a n l both =
            let all : b ≡ Act None None op.Nop [] [] [] = is ∙ ap (λ k. Act None None op.Nop k fns ls) a ∙ ap (λ k. Act None None op.Nop [] k ls) n ∙ ap (λ k. Act None None op.Nop [] [] k) l in
            subst (FitsByItself Q G) (sym all) (record { shaped = refl; calls = refl; typed = refl })

    mark-fits : (j : ℕ) (l : List ℕ) (b : Instr) → item_at Q f j ≡ Some b → tree_at Q f j ≡ Some (item.Label l) → FitsByItself Q G b
    mark-fits j l b bt tree = by b (found Q f j b bt) (same_Some _ _ (sym (found Q f j b bt).tree ∙ tree))
      where
        by : (c : Instr) → (g : Found Q f j c) → item_tree (names_of_functions Q.funcs) W g.function.labels c ≡ item.Label l → FitsByItself Q G c
        by (Label k) g e = record { shaped = refl; calls = refl; typed = refl }
        by (Const x s u) g e = absurd cc
        by (Act x s o args fns ls) g e = absurd cc

    pub piece-fits : (j : ℕ) (b : Instr) → item_at Q f j ≡ Some b → FitsByItself Q G b
    piece-fits j b bt = by (pieces j b bt)
      where
        by : Piece j → FitsByItself Q G b
        by (Moved i a r w at plain same reads dests) = moved-fits i j a b r w at plain same bt reads dests
        by (Got y ty tree typed) = got-fits j y ty b bt tree typed
        by (Put y z ty tree ty-y ty-z gy gz) = put-fits j y z ty b bt tree ty-y ty-z gy gz
        by (Blank tree) = blank-fits j b bt tree
        by (Mark l tree) = mark-fits j l b bt tree

    pub piece-stays : AreWalksAccepted (code_of Q f) G.args (is_some G.ret) → Stays P Q f F G
    piece-stays walks = record { items = λ j b bt. inl (piece-fits j b bt); walks = walks }
