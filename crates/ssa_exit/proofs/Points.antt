-- A program without shadows by its points, and what stands at each.
use Rattle.std.proofs.Common.{◌≡◌, ℕ, ◌<◌, Bool, true, false, List, [], ◌∷◌, length, Option, Some, None, refl, sym, ap, subst, ◌∙◌, inl, inr, ⊎_elim, cond, arith}
use Rattle.std.specs.Prelude.{is_some, slice_get, slice_index}
use Rattle.std.specs.List.{Contains, range_with_len}
use Rattle.std.specs.Option.{option_map}
use Rattle.std.proofs.lemmas.Bool.{eq-eqb}
use Rattle.std.proofs.lemmas.List.Elements.{Contains-get_or}
use Rattle.std.proofs.lemmas.Map.Keys.{any_passes_from_place}
use Rattle.bril_tree.specs.declared.numbered.Instr.{Instr}
use Rattle.bril_tree.specs.declared.numbered.Instr.TheVariants.{Label, Const, Act}
use Rattle.bril_tree.specs.declared.numbered_function.Func.{Func}
use Rattle.bril_tree.specs.declared.operation.Op.TheVariants as op
use Rattle.bril_tree.specs.declared.program.Prog.{Prog}
use Rattle.bril_tree.specs.declared.types.Ty.{Ty}
use Rattle.bril_tree.specs.Accepted.{AreWalksAccepted, IsAccepted}
use Rattle.bril_tree.specs.Assigned.{assigned_of, assigns_of}
use Rattle.bril_tree.specs.Edge.{Branch}
use Rattle.bril_tree.specs.Membership.{In}
use Rattle.bril_tree.specs.Numbered.{item_tree, named, names_of_functions, nop_item, point_tree, tree_at, variable_names}
use Rattle.bril_tree.specs.Operand.{Location, Variable, Shadow, reads_of}
use Rattle.bril_tree.specs.Shape.{shape_of}
use Rattle.bril_tree.specs.Step.{code_of, item_at, items_of}
use Rattle.bril_tree.specs.Typing.{variable_type}
use Rattle.bril_tree.specs.Walk.{IsReached, IsWalk, end_of}
use Rattle.bril_tree.proofs.Acceptance.{walks_of}
use Rattle.bril_tree.proofs.Assignments.{assigned_from, in_or_not}
use Rattle.bril_tree.proofs.Members.{contains_in, in_contains, in_map_source}
use Rattle.bril_tree.proofs.Formed.{typed_destination}
use Rattle.bril_tree.proofs.Shapes.{dest_none, dest_there, shape-parts}
use Rattle.bril_tree.proofs.Trees.{found_at, nothing_at}
use Rattle.pass_edit_laws.specs.names.NamedPlan.{SameHeads}
use Rattle.pass_edit_laws.proofs.lemmas.names.Heads.{no_partner}
use Rattle.pass_edit_laws.proofs.lemmas.steps.Shapes.{shaped_here}
use Rattle.ssa_exit.specs.Fresh.{AreFresh}
use Rattle.ssa_exit.specs.Unssaed.{copy_item, is_written, left_item, names_a_shadow, set_item, undef_item, writes_shadow}
use Rattle.ssa_exit.proofs.Items.{left-same}

-- `fresh f x` is the name of what stands for the shadow of x in function f
pub record Unssaed (P Q : Prog) (fresh : ℕ → ℕ → List ℕ) : Type 0 where
  pub heads : SameHeads P Q
  pub are : (f : ℕ) (F : Func) → slice_get P.funcs f ≡ Some F → AreFresh (variable_names F.vars) (fresh f)
  pub tree : (f i : ℕ) (F : Func) → slice_get P.funcs f ≡ Some F → tree_at Q f i ≡ option_map (λ a. left_item F (fresh f) a (item_tree (names_of_functions P.funcs) (variable_names F.vars) F.labels a)) (slice_get F.code i)

-- ---- the kinds of items

-- an item stays, or is a `get` or a `set`
pub data Kind (o : Option Instr) : Type 0 where
  Stays : names_a_shadow o ≡ false → Kind o
  Gets : (x : ℕ) (ty : Ty) (args fns ls : List ℕ) → o ≡ Some (Act (Some x) (Some ty) op.Get args fns ls) → Kind o
  Sets : (ty : Option Ty) (x y : ℕ) (fns ls : List ℕ) → o ≡ Some (Act None ty op.Set (x ∷ y ∷ []) fns ls) → Kind o

pub kind : (P : Prog) → IsAccepted P → (f i : ℕ) → Kind (item_at P f i)
kind P accepted f i = by (item_at P f i) refl
  where
    get : (d : Option ℕ) (ty : Option Ty) (args fns ls : List ℕ) → item_at P f i ≡ Some (Act d ty op.Get args fns ls) → Kind (item_at P f i)
    get None ty args fns ls at = absurd (let s = shaped_here P accepted f i _ at in let d = dest_there (shape_of s.ret op.Get) None (length args) (length fns) (length ls) refl s.shaped in let e : None ≡ Some d.0 = d.1 in cc)
    get (Some x) None args fns ls at = absurd (let h = found_at P f i _ at in let e = typed_destination h.function i _ h.here in cc)
    get (Some x) (Some ty) args fns ls at = Gets x ty args fns ls at

    two : (ty : Option Ty) (args fns ls : List ℕ) → length args ≡ 2 → item_at P f i ≡ Some (Act None ty op.Set args fns ls) → Kind (item_at P f i)
    two ty [] fns ls n at = absurd (omega (arith, n))
    two ty (x ∷ []) fns ls n at = absurd (omega (arith, n))
    two ty (x ∷ y ∷ z ∷ args) fns ls n at = absurd (omega (arith, n))
    two ty (x ∷ y ∷ []) fns ls n at = Sets ty x y fns ls at

    set : (d : Option ℕ) (ty : Option Ty) (args fns ls : List ℕ) → item_at P f i ≡ Some (Act d ty op.Set args fns ls) → Kind (item_at P f i)
    set d ty args fns ls at =
        let s = shaped_here P accepted f i _ at in
        let none = dest_none (shape_of s.ret op.Set) d (length args) (length fns) (length ls) refl s.shaped in
        two ty args fns ls (shape-parts (shape_of s.ret op.Set) (is_some d) (length args) (length fns) (length ls) s.shaped).args_are (at ∙ ap (λ z. Some (Act z ty op.Set args fns ls)) none)

    by : (o : Option Instr) → item_at P f i ≡ o → Kind (item_at P f i)
    by None at = Stays (ap names_a_shadow at)
    by (Some (Label l)) at = Stays (ap names_a_shadow at)
    by (Some (Const d ty v)) at = Stays (ap names_a_shadow at)
    by (Some (Act d ty op.Get args fns ls)) at = get d ty args fns ls at
    by (Some (Act d ty op.Set args fns ls)) at = set d ty args fns ls at
    by (Some (Act d ty _ args fns ls)) at = Stays (ap names_a_shadow at)

-- ---- what is read was assigned

pub read-assigned : (code : List Instr) (args : ℕ) (returns : Bool) → AreWalksAccepted code args returns → (walk : List Branch) → IsWalk code walk → (a : Instr) → slice_get code (end_of walk) ≡ Some a → (x : Location) → In x (reads_of a) → In x (assigned_of code args walk).locations
read-assigned code args returns walks walk is a at x among =
    ⊎_elim (λ i. i)
    (λ n. absurd (walks.assigned (end_of walk) a x at (contains_in x (reads_of a) among) (record { walk = walk; is = is; ends = refl; lacks = λ c. n (in_contains x (assigned_of code args walk).locations c) })))
    (in_or_not x (assigned_of code args walk).locations)

-- a shadow is assigned by a `set` of it
sets-it : (a : Instr) (x : ℕ) → In (Shadow x) (assigns_of a) → writes_shadow x a ≡ true
sets-it (Label l) x i = absurd i
sets-it (Const d ty v) x (inl e) = absurd cc
sets-it (Const d ty v) x (inr i) = absurd i
sets-it (Act d ty op.Set args fns ls) x (inl e) = let s : x ≡ slice_index args 0 = cc in eq-eqb x (slice_index args 0) s
sets-it (Act d ty op.Set args fns ls) x (inr i) = absurd i
sets-it (Act None ty _ args fns ls) x i = absurd i
sets-it (Act (Some y) ty _ args fns ls) x i = ⊎_elim (λ e. absurd cc) (λ n. absurd n) i

-- so a shadow that is assigned is written
pub assigned-written : (code : List Instr) (args : ℕ) (walk : List Branch) (x : ℕ) → In (Shadow x) (assigned_of code args walk).locations → is_written code x ≡ true
assigned-written code args walk x i =
    ⊎_elim (λ s. absurd (let h = in_map_source Variable (Shadow x) (range_with_len 0 args) s in let e = h.2 in cc))
    (λ s. any_passes_from_place (writes_shadow x) code s.1 s.0 s.2 (sets-it s.0 x s.3)) (assigned_from code args walk (Shadow x) i)

-- ---- the items

module _ (P Q : Prog) (fresh : ℕ → ℕ → List ℕ) (t : Unssaed P Q fresh) where
  -- what stands for a shadow has no name of P
  pub new-name : (f : ℕ) (F : Func) → slice_get P.funcs f ≡ Some F → (x y : ℕ) → x < length (variable_names F.vars) → y < length (variable_names F.vars) → fresh f x ≡ named (variable_names F.vars) y → ⊥
  new-name f F p x y low high e = (t.are f F p).new x low (subst (Contains (variable_names F.vars)) (sym e) (Contains-get_or (variable_names F.vars) y [] high))

  -- what names no shadow stays
  pub kept : (f i : ℕ) → names_a_shadow (item_at P f i) ≡ false → tree_at P f i ≡ tree_at Q f i
  kept f i e = by (slice_get P.funcs f) refl
    where
      by : (o : Option Func) → slice_get P.funcs f ≡ o → tree_at P f i ≡ tree_at Q f i
      by None p = nothing_at P f i (ap (λ o. slice_get (items_of o) i) p) ∙ sym (no_partner P Q t.heads f p i)
      by (Some F) p = ap (λ o. point_tree (names_of_functions P.funcs) o i) p ∙ here (slice_get F.code i) (ap (λ o. names_a_shadow (slice_get (items_of o) i)) (sym p) ∙ e) ∙ sym (t.tree f i F p)
        where
          here : (o : Option Instr) → names_a_shadow o ≡ false → option_map (item_tree (names_of_functions P.funcs) (variable_names F.vars) F.labels) o
              ≡ option_map (λ a. left_item F (fresh f) a (item_tree (names_of_functions P.funcs) (variable_names F.vars) F.labels a)) o
          here None n = refl
          here (Some a) n = ap Some (sym (left-same F (fresh f) a (item_tree (names_of_functions P.funcs) (variable_names F.vars) F.labels a) n))

  module _ (f : ℕ) (F : Func) (p : slice_get P.funcs f ≡ Some F) (i : ℕ) where
    there : (a : Instr) → item_at P f i ≡ Some a → tree_at Q f i ≡ Some (left_item F (fresh f) a (item_tree (names_of_functions P.funcs) (variable_names F.vars) F.labels a))
    there a at = t.tree f i F p ∙ ap (option_map (λ a. left_item F (fresh f) a (item_tree (names_of_functions P.funcs) (variable_names F.vars) F.labels a))) (ap (λ o. slice_get (items_of o) i) (sym p) ∙ at)

    -- what stands in place of a `get`
    pub data Got (x : ℕ) (ty : Ty) : Type 0 where
      Copied : is_written F.code x ≡ true → tree_at Q f i ≡ Some (copy_item (named (variable_names F.vars) x) ty (fresh f x)) → Got x ty
      Undefined : is_written F.code x ≡ false → tree_at Q f i ≡ Some (undef_item (named (variable_names F.vars) x) ty) → Got x ty

    pub got : (x : ℕ) (ty : Ty) (args fns ls : List ℕ) → item_at P f i ≡ Some (Act (Some x) (Some ty) op.Get args fns ls) → Got x ty
    got x ty args fns ls at = by (is_written F.code x) refl
      where
        by : (b : Bool) → is_written F.code x ≡ b → Got x ty
        by true e = Copied e (there (Act (Some x) (Some ty) op.Get args fns ls) at ∙ ap (λ b. Some (cond b (copy_item (named (variable_names F.vars) x) ty (fresh f x)) (undef_item (named (variable_names F.vars) x) ty))) e)
        by false e = Undefined e (there (Act (Some x) (Some ty) op.Get args fns ls) at ∙ ap (λ b. Some (cond b (copy_item (named (variable_names F.vars) x) ty (fresh f x)) (undef_item (named (variable_names F.vars) x) ty))) e)

    -- what stands in place of a `set`
    pub data Put (x y : ℕ) : Type 0 where
      Given : (ty : Ty) → variable_type F.vars x ≡ Some ty → tree_at Q f i ≡ Some (copy_item (fresh f x) ty (named (variable_names F.vars) y)) → Put x y
      Gone : variable_type F.vars x ≡ None → tree_at Q f i ≡ Some nop_item → Put x y

    pub put : (ty : Option Ty) (x y : ℕ) (fns ls : List ℕ) → item_at P f i ≡ Some (Act None ty op.Set (x ∷ y ∷ []) fns ls) → Put x y
    put ty x y fns ls at = by (variable_type F.vars x) refl
      where
        given : (o : Option Ty) → variable_type F.vars x ≡ o → tree_at Q f i ≡ Some (set_item F (fresh f) o x y)
        given o e = there (Act None ty op.Set (x ∷ y ∷ []) fns ls) at ∙ ap (λ o. Some (set_item F (fresh f) o x y)) e

        by : (o : Option Ty) → variable_type F.vars x ≡ o → Put x y
        by None e = Gone e (given None e)
        by (Some s) e = Given s e (given (Some s) e)

    -- a `get` that is reached is a copy: its shadow was assigned
    pub reached-written : IsAccepted P → IsReached (code_of P f) i → (x : ℕ) (ty : Option Ty) (args fns ls : List ℕ) → item_at P f i ≡ Some (Act (Some x) ty op.Get args fns ls) → is_written F.code x ≡ true
    reached-written accepted r x ty args fns ls at =
        let a : Instr = Act (Some x) ty op.Get args fns ls in
        let here : slice_get (code_of P f) (end_of r.walk) ≡ Some a = ap (slice_get (code_of P f)) r.ends ∙ at in
        subst (λ code. is_written code x ≡ true) (ap items_of p)
        (assigned-written (code_of P f) F.args r.walk x (read-assigned (code_of P f) F.args _ (walks_of P accepted f F p) r.walk r.is a here (Shadow x) (inl refl)))
