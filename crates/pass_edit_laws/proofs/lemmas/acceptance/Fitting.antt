-- Items of the new function have their shapes and types where those of the old one have.
use Rattle.std.proofs.Common.{◌≡◌, ◌⊎◌, ℕ, Bool, true, List, [], ◌∷◌, length, map, Option, Some, None, refl, sym, ap, subst, ◌∙◌, inl, inr, ⊎_elim, arith}
use Rattle.std.specs.Prelude.{slice_get, slice_index, is_some, ◌==◌, ◌&&◌}
use Rattle.std.specs.List.{AllZip}
use Rattle.std.proofs.lemmas.Bool.{and_parts, and_from}
use Rattle.bril_tree.specs.declared.numbered.Instr.{Instr}
use Rattle.bril_tree.specs.declared.numbered.Instr.TheVariants.{Label, Const, Act}
use Rattle.bril_tree.specs.declared.numbered_function.Func.{Func}
use Rattle.bril_tree.specs.declared.operation.Op.{Op}
use Rattle.bril_tree.specs.declared.operation.Op.TheVariants as op
use Rattle.bril_tree.specs.declared.program.Prog.{Prog}
use Rattle.bril_tree.specs.declared.types.Ty.{Ty}
use Rattle.bril_tree.specs.declared.value.Lit.{Lit}
use Rattle.bril_tree.specs.FunctionForm.{listed}
use Rattle.bril_tree.specs.Operand.{Location, Variable, dest_of, reads_of, reading_of, locations_read}
use Rattle.bril_tree.specs.Run.{types_of}
use Rattle.bril_tree.specs.Shape.{is_shaped, is_action_shaped, same, shape_of}
use Rattle.bril_tree.specs.Typing.{variable_type, type_fault, action_type_fault, is_dest_typed, is_literal_typed, both_typed, same_type, return_type, is_call_shaped, action_call_fits, wrong_unless, is_set_typed, argument_type}
use Rattle.bril_names.specs.Faults.{Differ}
use Rattle.bril_tree.specs.Membership.{In}
use Rattle.bril_tree.proofs.Members.{in_map}
use Rattle.bril_tree.proofs.Shapes.{shape-parts}
use Rattle.bril_tree.proofs.Elements.{zip-long, in_index}
use Rattle.bril_tree.proofs.Typings.{typed-unless}
use Rattle.pass_edit_laws.specs.names.Named.{args_of, SameName}
use Rattle.pass_edit_laws.proofs.lemmas.names.Items.{Shares, zip-at}
use Rattle.pass_edit_laws.proofs.lemmas.acceptance.Typed.{act-typed}

zip-types : (V W : List (List ℕ)) (F G : Func) (xs ys : List ℕ) → AllZip (SameName V W) xs ys → ((x y : ℕ) → SameName V W x y → In y ys → variable_type F.vars x ≡ variable_type G.vars y) → map (variable_type F.vars) xs ≡ map (variable_type G.vars) ys
zip-types V W F G [] [] z t = refl
zip-types V W F G [] (y ∷ ys) z t = absurd z
zip-types V W F G (x ∷ xs) [] z t = absurd z
zip-types V W F G (x ∷ xs) (y ∷ ys) z t = let e = t x y z.0 (inl refl) in let r = zip-types V W F G xs ys z.1 (λ a b n i. t a b n (inr i)) in λ i. e i ∷ r i

-- ---- operands that are read

none_in : (xs : List ℕ) (y : ℕ) → length xs ≡ 0 → In y xs → ⊥
none_in [] y e i = i
none_in (x ∷ xs) y e i = omega arith

-- each operation but `set` reads all its arguments
arguments-read : (ret : Bool) (o : Op) (d : Option ℕ) (args : List ℕ) (fns labels : ℕ) → is_action_shaped ret o (is_some d) (length args) fns labels ≡ true → (o ≡ op.Set) ⊎ ((y : ℕ) → In y args → In (Variable y) (locations_read (reading_of o) d args))
arguments-read ret op.Set d args fns labels s = inl refl
arguments-read ret op.Get d args fns labels s = inr (λ y i. absurd (none_in args y (shape-parts (shape_of ret op.Get) (is_some d) (length args) fns labels s).args_are i))
arguments-read ret _ d args fns labels s = inr (λ y i. in_map Variable y args i)

-- a shadow's variable may lose its type
set-relaxed : (s u t : Option Ty) → (u ≡ None) ⊎ (s ≡ u) → is_set_typed s t ≡ true → is_set_typed u t ≡ true
set-relaxed s u None h e = absurd (untyped s e)
  where
    untyped : (s : Option Ty) → is_set_typed s None ≡ true → ⊥
    untyped None e = cc
    untyped (Some r) e = cc
set-relaxed s u (Some t) (inl n) e = ap (λ o. is_set_typed o (Some t)) n
set-relaxed s u (Some t) (inr k) e = ap (λ o. is_set_typed o (Some t)) (sym k) ∙ e

-- two calls of functions that take and return the same fit alike
pub fits-same : (P Q : Prog) (F G : Func) (callees : (g : ℕ) → types_of (slice_get P.funcs g) ≡ types_of (slice_get Q.funcs g)) (results : (g : ℕ) → return_type (slice_get P.funcs g) ≡ return_type (slice_get Q.funcs g)) (o : Op) (d e : Option ℕ) (args result_args fns : List ℕ) → is_some d ≡ is_some e → length args ≡ length result_args → action_call_fits P F o d args fns ≡ action_call_fits Q G o e result_args fns
fits-same P Q F G callees results op.Call d e args result_args fns sd n =
    let g = slice_index fns 0 in
    ap (λ z. (z == length (types_of (slice_get P.funcs g))) && same (is_some (return_type (slice_get P.funcs g))) (is_some d)) n
    ∙ ap (λ z. (length result_args == length z) && same (is_some (return_type (slice_get P.funcs g))) (is_some d)) (callees g)
    ∙ ap (λ z. (length result_args == length (types_of (slice_get Q.funcs g))) && same (is_some z) (is_some d)) (results g)
    ∙ ap (λ z. (length result_args == length (types_of (slice_get Q.funcs g))) && same (is_some (return_type (slice_get Q.funcs g))) z) sd
fits-same P Q F G callees results _ d e args result_args fns sd n = refl

module _ (fs V W lP lQ : List (List ℕ)) (differ : Differ fs) (M : Location → Type 0) (P Q : Prog) (F G : Func) (callees : (g : ℕ) → types_of (slice_get P.funcs g) ≡ types_of (slice_get Q.funcs g)) (results : (g : ℕ) → return_type (slice_get P.funcs g) ≡ return_type (slice_get Q.funcs g)) (ret_same : F.ret ≡ G.ret) where
  abbrev Both : Instr → Instr → Type 0
  Both a b = Shares fs V W lP lQ differ M a b

  pub shape-same : (ret : Bool) (a b : Instr) → Shares fs V W lP lQ differ M a b → is_shaped ret a ≡ is_shaped ret b
  shape-same ret (Label l) (Label m) h = refl
  shape-same ret (Label l) (Const y t w) h = refl
  shape-same ret (Label l) (Act e t u result_args gns ms) h = absurd h.same
  shape-same ret (Const x s v) (Label m) h = refl
  shape-same ret (Const x s v) (Const y t w) h = refl
  shape-same ret (Const x s v) (Act e t u result_args gns ms) h = absurd h.same
  shape-same ret (Act d s o args fns ls) (Label m) h = absurd h.same
  shape-same ret (Act d s o args fns ls) (Const y t w) h = absurd h.same
  shape-same ret (Act d s o args fns ls) (Act e t u result_args gns ms) h =
      ap (λ z. is_action_shaped ret z (is_some d) (length args) (length fns) (length ls)) h.same.operation ∙ ap (λ z. is_action_shaped ret u z (length args) (length fns) (length ls)) h.same.dest
      ∙ ap (λ z. is_action_shaped ret u (is_some e) z (length fns) (length ls)) h.same.count ∙ ap (λ z. is_action_shaped ret u (is_some e) (length result_args) (length z) (length ls)) h.same.funcs
      ∙ ap (λ z. is_action_shaped ret u (is_some e) (length result_args) (length gns) z) (zip-long (SameName lP lQ) ls ms h.targets)

  pub call-same : (a b : Instr) → Shares fs V W lP lQ differ M a b → is_call_shaped P F a ≡ is_call_shaped Q G b
  call-same (Label l) (Label m) h = refl
  call-same (Label l) (Const y t w) h = refl
  call-same (Label l) (Act e t u result_args gns ms) h = absurd h.same
  call-same (Const x s v) (Label m) h = refl
  call-same (Const x s v) (Const y t w) h = refl
  call-same (Const x s v) (Act e t u result_args gns ms) h = absurd h.same
  call-same (Act d s o args fns ls) (Label m) h = absurd h.same
  call-same (Act d s o args fns ls) (Const y t w) h = absurd h.same
  call-same (Act d s o args fns ls) (Act e t u result_args gns ms) h =
      ap (λ z. action_call_fits P F z d args fns) h.same.operation ∙ ap (λ z. action_call_fits P F u d args z) h.same.funcs ∙ fits-same P Q F G callees results u d e args result_args gns h.same.dest h.same.count

  -- destinations of the same type
  dest-same : (d e : Option ℕ) (ty : Option Ty) → AllZip (SameName V W) (listed d) (listed e) → ((x y : ℕ) → SameName V W x y → In y (listed e) → variable_type F.vars x ≡ variable_type G.vars y) → is_dest_typed P F d ty ≡ is_dest_typed Q G e ty
  dest-same None None ty z t = refl
  dest-same None (Some y) ty z t = absurd z
  dest-same (Some x) None ty z t = absurd z
  dest-same (Some x) (Some y) ty z t = ap (λ u. both_typed same_type ty u) (t x y z.0 (inl refl))

  -- where the variables that an item names have the same types on both sides
  pub typed-same : (a b : Instr) → is_shaped (is_some F.ret) a ≡ true → Shares fs V W lP lQ differ M a b → ((x y : ℕ) → SameName V W x y → In y (listed (dest_of b)) → variable_type F.vars x ≡ variable_type G.vars y)
      → ((x y : ℕ) → SameName V W x y → In y (args_of b) → variable_type F.vars x ≡ variable_type G.vars y) → type_fault P F a ≡ type_fault Q G b
  typed-same (Label l) (Label m) s h td ta = refl
  typed-same (Label l) (Const y t w) s h td ta = absurd h.same
  typed-same (Label l) (Act e t u result_args gns ms) s h td ta = absurd h.same
  typed-same (Const x r v) (Label m) s h td ta = absurd h.same
  typed-same (Const x r v) (Const y t w) s h td ta =
      ap (λ u. wrong_unless (u && is_literal_typed v r)) (dest-same (Some x) (Some y) (Some r) h.dests td)
      ∙ const (literals (is_dest_typed Q G (Some y) (Some r)) h.same) (same_some r t h.types)
    where
      same_some : (r t : Ty) → Some r ≡ Some t → r ≡ t
      same_some r t e = cc

      literals : (b : Bool) → v ≡ w → wrong_unless (b && is_literal_typed v r) ≡ wrong_unless (b && is_literal_typed w r)
      literals b e = ap (λ (l : Lit). wrong_unless (b && is_literal_typed l r)) e

      const : wrong_unless (is_dest_typed Q G (Some y) (Some r) && is_literal_typed v r) ≡ wrong_unless (is_dest_typed Q G (Some y) (Some r) && is_literal_typed w r) → r ≡ t
          → wrong_unless (is_dest_typed Q G (Some y) (Some r) && is_literal_typed v r) ≡ wrong_unless (is_dest_typed Q G (Some y) (Some t) && is_literal_typed w t)
      const e k = e ∙ ap (λ (z : Ty). wrong_unless (is_dest_typed Q G (Some y) (Some z) && is_literal_typed w z)) k
  typed-same (Const x r v) (Act e t u result_args gns ms) s h td ta = absurd h.same
  typed-same (Act d r o args fns ls) (Label m) s h td ta = absurd h.same
  typed-same (Act d r o args fns ls) (Const y t w) s h td ta = absurd h.same
  typed-same (Act d r o args fns ls) (Act e t u result_args gns ms) s h td ta =
      act-typed P Q F G callees results ret_same (is_some F.ret) o d e r args result_args fns (length ls) s (zip-types V W F G args result_args h.operands ta) refl (dest-same d e r h.dests td)
      ∙ ap (λ z. action_type_fault Q G z e r result_args fns) h.same.operation ∙ ap (λ z. action_type_fault Q G u e z result_args fns) h.types ∙ ap (λ z. action_type_fault Q G u e t result_args z) h.same.funcs

  -- the same where only what an item reads keeps its type: the variable whose shadow a `set` assigns may lose it
  pub typed-kept : (a b : Instr) → is_shaped (is_some F.ret) a ≡ true → Shares fs V W lP lQ differ M a b → ((x y : ℕ) → SameName V W x y → In y (listed (dest_of b)) → variable_type F.vars x ≡ variable_type G.vars y)
      → ((x y : ℕ) → SameName V W x y → In (Variable y) (reads_of b) → variable_type F.vars x ≡ variable_type G.vars y) → ((x y : ℕ) → SameName V W x y → In y (args_of b) → (variable_type G.vars y ≡ None) ⊎ (variable_type F.vars x ≡ variable_type G.vars y))
      → type_fault P F a ≡ None → type_fault Q G b ≡ None
  typed-kept a (Label m) s h td tr tn fits = refl
  typed-kept a (Const y t w) s h td tr tn fits = sym (typed-same a (Const y t w) s h td (λ x y n i. absurd i)) ∙ fits
  typed-kept (Label l) (Act e t u result_args gns ms) s h td tr tn fits = absurd h.same
  typed-kept (Const x r v) (Act e t u result_args gns ms) s h td tr tn fits = absurd h.same
  typed-kept (Act d r o args fns ls) (Act e t u result_args gns ms) s h td tr tn fits =
      ⊎_elim
      (λ k. sets k)
      (λ k. sym (typed-same (Act d r o args fns ls) (Act e t u result_args gns ms) s h td (λ x y n i. tr x y n (k y i))) ∙ fits)
      (arguments-read (is_some F.ret) u e result_args (length gns) (length ms) (sym (shape-same (is_some F.ret) (Act d r o args fns ls) (Act e t u result_args gns ms) h) ∙ s))
    where
      sets : u ≡ op.Set → action_type_fault Q G u e t result_args gns ≡ None
      sets k =
          let ok : o ≡ op.Set = h.same.operation ∙ k in
          let two = (shape-parts (shape_of (is_some F.ret) op.Set) (is_some d) (length args) (length fns) (length ls) (ap (λ z. is_action_shaped (is_some F.ret) z (is_some d) (length args) (length fns) (length ls)) (sym ok) ∙ s)).args_are in
          let n = h.same.count in
          let parts = and_parts _ _ (typed-unless (is_dest_typed P F d r && is_set_typed (argument_type F.vars args 0) (argument_type F.vars args 1)) (ap (λ z. action_type_fault P F z d r args fns) (sym ok) ∙ fits)) in
          let dest : is_dest_typed Q G e r ≡ true = sym (dest-same d e r h.dests td) ∙ parts.0 in
          let n0 : SameName V W (slice_index args 0) (slice_index result_args 0) = zip-at (SameName V W) args result_args 0 (omega (arith, two)) h.operands in
          let n1 : SameName V W (slice_index args 1) (slice_index result_args 1) = zip-at (SameName V W) args result_args 1 (omega (arith, two)) h.operands in
          let value = tr (slice_index args 1) (slice_index result_args 1) n1 (subst (λ z. In (Variable (slice_index result_args 1)) (locations_read (reading_of z) e result_args)) (sym k) (inl refl)) in
          let shadowed = tn (slice_index args 0) (slice_index result_args 0) n0 (in_index result_args 0 (omega (arith, two, n))) in
          let set : is_set_typed (argument_type G.vars result_args 0) (argument_type G.vars result_args 1) ≡ true =
          set-relaxed (argument_type F.vars args 0) (argument_type G.vars result_args 0) (argument_type G.vars result_args 1) shadowed (ap (is_set_typed (argument_type F.vars args 0)) (sym value) ∙ parts.1) in
          ap (λ z. action_type_fault Q G z e t result_args gns) k ∙ ap (λ z. action_type_fault Q G op.Set e z result_args gns) (sym h.types) ∙ ap wrong_unless (and_from _ _ dest set)
