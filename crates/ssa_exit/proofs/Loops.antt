-- The loop over the items of a function: what is known of the one at a point.
use Rattle.std.proofs.Common.{◌≡◌, ℕ, ◌<◌, true, List, [], ◌∷◌, length, Some, None, refl, inl, inr}
use Rattle.std.specs.Prelude.{is_some, slice_get}
use Rattle.bril_tree.specs.declared.numbered.Instr.{Instr}
use Rattle.bril_tree.specs.declared.numbered_function.Func.{Func}
use Rattle.bril_tree.specs.FunctionForm.{variables_of}
use Rattle.bril_tree.specs.Membership.{In}
use Rattle.bril_tree.specs.Shape.{is_shaped, shape_fault_of}
use Rattle.bril_tree.proofs.Elements.{get_in, passes_in}
use Rattle.bril_tree.proofs.Formed.{variable_below}
use Rattle.bril_names.specs.Range.{AreBelow}
use Rattle.flow_graph.proofs.BranchRows.{all_shaped}

all-below : (n : ℕ) (xs : List ℕ) → ((x : ℕ) → In x xs → x < n) → AreBelow n xs
all-below n [] each = tt
all-below n (x ∷ xs) each = (each x (inl refl), all-below n xs (λ y i. each y (inr i)))

pub below-at : (F : Func) (k : ℕ) (a : Instr) → slice_get F.code k ≡ Some a → AreBelow (length F.vars) (variables_of a)
below-at F k a at = all-below (length F.vars) (variables_of a) (λ x i. variable_below F k a at x i)

pub shaped-at : (F : Func) → shape_fault_of (is_some F.ret) F.code ≡ None → (k : ℕ) (a : Instr) → slice_get F.code k ≡ Some a → is_shaped (is_some F.ret) a ≡ true
shaped-at F shaped k a at = passes_in (is_shaped (is_some F.ret)) F.code a (all_shaped (is_some F.ret) F.code shaped) (get_in F.code k a at)
