-- The locations that an item reads and assigns have numbers below twice the number of variables.
use Rattle.std.proofs.Common.{◌≡◌, ℕ, ◌*◌, ◌<◌, Bool, true, List, length, Option, Some, None, refl, sym, subst, inl, inr, arith}
use Rattle.std.specs.Prelude.{is_some, slice_get, slice_index}
use Rattle.std.proofs.lemmas.Option.{same_Some}
use Rattle.bril_tree.specs.Assigned.{assigns_of, operation_assigns}
use Rattle.bril_tree.specs.declared.numbered.Instr.{Instr}
use Rattle.bril_tree.specs.declared.numbered.Instr.TheVariants.{Label, Const, Act}
use Rattle.bril_tree.specs.declared.numbered_function.Func.{Func}
use Rattle.bril_tree.specs.declared.operation.Op.{Op}
use Rattle.bril_tree.specs.declared.operation.Op.TheVariants as op
use Rattle.bril_tree.specs.declared.types.Ty.{Ty}
use Rattle.bril_tree.specs.FunctionForm.{listed, variables_of}
use Rattle.bril_tree.specs.Membership.{In}
use Rattle.bril_tree.specs.Operand.{Location, Variable, reads_of}
use Rattle.bril_tree.specs.Shape.{is_shaped, shape_fault_of, shape_of}
use Rattle.bril_tree.proofs.Elements.{get_in, in_index, passes_in}
use Rattle.bril_tree.proofs.Formed.{variable_below}
use Rattle.bril_tree.proofs.Members.{in_append_right, in_map_source}
use Rattle.bril_tree.proofs.Shapes.{shape-parts}
use Rattle.flow_graph.proofs.BranchRows.{all_shaped}
use Rattle.flow_graph.specs.Location.{number_of}

-- the item at a point has the shape of its operation
pub shaped-at : (F : Func) → shape_fault_of (is_some F.ret) F.code ≡ None → (k : ℕ) (item : Instr) → slice_get F.code k ≡ Some item → is_shaped (is_some F.ret) item ≡ true
shaped-at F shaped k item at = passes_in (is_shaped (is_some F.ret)) F.code item (all_shaped (is_some F.ret) F.code shaped) (get_in F.code k item at)

module _ (ret : Bool) (many : ℕ) where
  -- all variables of the item are below the number
  abbrev pub Below : Instr → Type 0
  Below item = (x : ℕ) → In x (variables_of item) → x < many

  -- a `set` has two arguments
  pub set-args : (d : Option ℕ) (ty : Option Ty) (args fns ls : List ℕ) → is_shaped ret (Act d ty op.Set args fns ls) ≡ true → length args ≡ 2
  set-args d ty args fns ls shaped = (shape-parts (shape_of ret op.Set) (is_some d) (length args) (length fns) (length ls) shaped).args_are

  pub set-arg : (d : Option ℕ) (ty : Option Ty) (args fns ls : List ℕ) → is_shaped ret (Act d ty op.Set args fns ls) ≡ true → Below (Act d ty op.Set args fns ls) → (k : ℕ) → k < 2 → slice_index args k < many
  set-arg d ty args fns ls shaped below k less =
      let two = set-args d ty args fns ls shaped in
      below (slice_index args k) (in_append_right (slice_index args k) (listed d) args (in_index args k (omega (arith, two, less))))

  listed-below : (d : Option ℕ) (o : Op) (ty : Option Ty) (args fns ls : List ℕ) → Below (Act d ty o args fns ls) → (x : ℕ) → d ≡ Some x → x < many
  listed-below None o ty args fns ls below x e = absurd cc
  listed-below (Some y) o ty args fns ls below x e = below x (inl (sym (same_Some y x e)))

  args-below : (a : Location) (d : Option ℕ) (o : Op) (ty : Option Ty) (args fns ls : List ℕ) → Below (Act d ty o args fns ls) → (x : ℕ) → In x args → a ≡ Variable x → number_of a < 2 * many
  args-below a d o ty args fns ls below x i e =
      let low = below x (in_append_right x (listed d) args i) in
      subst (λ b. number_of b < 2 * many) (sym e) (omega (arith, low))

  pub reads-below : (item : Instr) → is_shaped ret item ≡ true → Below item → (a : Location) → In a (reads_of item) → number_of a < 2 * many
  reads-below (Label l) shaped below a i = absurd i
  reads-below (Const d ty v) shaped below a i = absurd i
  reads-below (Act None ty op.Get args fns ls) shaped below a i = absurd i
  reads-below (Act (Some x) ty op.Get args fns ls) shaped below a (inl e) =
      let low = below x (inl refl) in
      subst (λ b. number_of b < 2 * many) (sym e) (omega (arith, low))
  reads-below (Act (Some x) ty op.Get args fns ls) shaped below a (inr i) = absurd i
  reads-below (Act d ty op.Set args fns ls) shaped below a (inl e) =
      let low = set-arg d ty args fns ls shaped below 1 (omega arith) in
      subst (λ b. number_of b < 2 * many) (sym e) (omega (arith, low))
  reads-below (Act d ty op.Set args fns ls) shaped below a (inr i) = absurd i
  reads-below (Act d ty o args fns ls) shaped below a i =
      let plain : In a (reads_of (Act d ty o args fns ls)) = i in
      let s = in_map_source Variable a args i in args-below a d o ty args fns ls below s.0 s.1 s.2

  assigned-list : (d : Option ℕ) (o : Op) (ty : Option Ty) (args fns ls : List ℕ) → Below (Act d ty o args fns ls) → (a : Location) → In a (operation_assigns op.Nop d args) → number_of a < 2 * many
  assigned-list None o ty args fns ls below a i = absurd i
  assigned-list (Some x) o ty args fns ls below a (inl e) =
      let low = below x (inl refl) in
      subst (λ b. number_of b < 2 * many) (sym e) (omega (arith, low))
  assigned-list (Some x) o ty args fns ls below a (inr i) = absurd i

  pub assigns-below : (item : Instr) → is_shaped ret item ≡ true → Below item → (a : Location) → In a (assigns_of item) → number_of a < 2 * many
  assigns-below (Label l) shaped below a i = absurd i
  assigns-below (Const d ty v) shaped below a (inl e) =
      let low = below d (inl refl) in
      subst (λ b. number_of b < 2 * many) (sym e) (omega (arith, low))
  assigns-below (Const d ty v) shaped below a (inr i) = absurd i
  assigns-below (Act d ty op.Set args fns ls) shaped below a (inl e) =
      let low = set-arg d ty args fns ls shaped below 0 (omega arith) in
      subst (λ b. number_of b < 2 * many) (sym e) (omega (arith, low))
  assigns-below (Act d ty op.Set args fns ls) shaped below a (inr i) = absurd i
  assigns-below (Act d ty o args fns ls) shaped below a i = assigned-list d o ty args fns ls below a i

-- in a function
pub function-below : (F : Func) (k : ℕ) (item : Instr) → slice_get F.code k ≡ Some item → Below (is_some F.ret) (length F.vars) item
function-below F k item at x i = variable_below F k item at x i
