-- What is live is a variable of the function, and walks go on behind what clashes.
use Rattle.std.proofs.Common.{◌≡◌, ℕ, suc, ◌<◌, length, Bool, true, false, Some, None, refl, sym, subst, ◌∙◌, inl, inr, arith}
use Rattle.std.specs.Prelude.{slice_get, slice_index, is_some}
use Rattle.bril_tree.specs.declared.numbered.Instr.{Instr}
use Rattle.bril_tree.specs.declared.numbered.Instr.TheVariants.{Label, Const, Act}
use Rattle.bril_tree.specs.declared.numbered_function.Func.{Func}
use Rattle.bril_tree.specs.declared.operation.Op.TheVariants as op
use Rattle.bril_tree.specs.Edge.{branches_from, leads_away, onward}
use Rattle.bril_tree.specs.FunctionForm.{listed, variables_of}
use Rattle.bril_tree.specs.Live.{IsLive}
use Rattle.bril_tree.specs.Membership.{In}
use Rattle.bril_tree.specs.Operand.{Variable, Shadow, dest_of, reads_of}
use Rattle.bril_tree.specs.Shape.{is_shaped, shape_fault_of, shape_of}
use Rattle.bril_tree.specs.Walk.{IsReached}
use Rattle.bril_tree.proofs.Branches.{item-onward, reached_on}
use Rattle.bril_tree.proofs.Elements.{get_in, in_index, passes_in}
use Rattle.bril_tree.proofs.Formed.{variable_below}
use Rattle.bril_tree.proofs.Members.{in_append_right, in_contains, in_map_source}
use Rattle.bril_tree.proofs.Shapes.{dest_none, shape-parts}
use Rattle.flow_graph.proofs.BranchRows.{all_shaped}
use Rattle.live_sets.proofs.Law.{live-read}
use Rattle.variable_renaming.specs.Clashes.{Clashes}

-- what reads a variable names it
read-named : (returns : Bool) (item : Instr) (x : ℕ) → is_shaped returns item ≡ true → In (Variable x) (reads_of item) → In x (variables_of item)
read-named returns (Label l) x shaped i = absurd i
read-named returns (Const d ty v) x shaped i = absurd i
read-named returns (Act None ty op.Get args funcs labels) x shaped i = absurd i
read-named returns (Act (Some y) ty op.Get args funcs labels) x shaped (inl e) = absurd (let h : Variable x ≡ Shadow y = e in cc)
read-named returns (Act (Some y) ty op.Get args funcs labels) x shaped (inr i) = absurd i
read-named returns (Act d ty op.Set args funcs labels) x shaped (inl e) =
    let two = (shape-parts (shape_of returns op.Set) (is_some d) (length args) (length funcs) (length labels) shaped).args_are in
    let same : x ≡ slice_index args 1 = (let h : Variable x ≡ Variable (slice_index args 1) = e in cc) in
    in_append_right x (listed d) args (subst (λ v. In v args) (sym same) (in_index args 1 (omega (arith, two))))
read-named returns (Act d ty op.Set args funcs labels) x shaped (inr i) = absurd i
read-named returns (Act d ty o args funcs labels) x shaped i =
    let plain : In (Variable x) (reads_of (Act d ty o args funcs labels)) = i in
    let s = in_map_source Variable (Variable x) args i in
    let same : x ≡ s.0 = (let h : Variable x ≡ Variable s.0 = s.2 in cc) in
    in_append_right x (listed d) args (subst (λ v. In v args) (sym same) s.1)

-- what assigns a variable goes on to the next item
stays : (returns : Bool) (item : Instr) (x : ℕ) → is_shaped returns item ≡ true → dest_of item ≡ Some x → leads_away (Some item) ≡ false
stays returns (Label l) x shaped dest = refl
stays returns (Const d ty v) x shaped dest = refl
stays returns (Act d ty op.Jmp args funcs labels) x shaped dest = absurd (let n : d ≡ None = dest_none (shape_of returns op.Jmp) d (length args) (length funcs) (length labels) refl shaped in let h : Some x ≡ None = sym dest ∙ n in cc)
stays returns (Act d ty op.Br args funcs labels) x shaped dest = absurd (let n : d ≡ None = dest_none (shape_of returns op.Br) d (length args) (length funcs) (length labels) refl shaped in let h : Some x ≡ None = sym dest ∙ n in cc)
stays returns (Act d ty op.Ret args funcs labels) x shaped dest = absurd (let n : d ≡ None = dest_none (shape_of returns op.Ret) d (length args) (length funcs) (length labels) refl shaped in let h : Some x ≡ None = sym dest ∙ n in cc)
stays returns (Act d ty o args funcs labels) x shaped dest = refl

module _ (F : Func) (returns : Bool) (shaped : shape_fault_of returns F.code ≡ None) where
  shaped-at : (point : ℕ) (item : Instr) → slice_get F.code point ≡ Some item → is_shaped returns item ≡ true
  shaped-at point item at = passes_in (is_shaped returns) F.code item (all_shaped returns F.code shaped) (get_in F.code point item at)

  pub live-below : (x point : ℕ) → IsLive F.code (Variable x) point → x < length F.vars
  live-below x point live =
      let r = live-read F.code (Variable x) point live in
      variable_below F r.0 r.1 r.2 x (read-named returns r.1 x (shaped-at r.0 r.1 r.2) (in_contains (Variable x) (reads_of r.1) r.3))

  pub clash-goes-on : (item x y : ℕ) → Clashes F.code item x y → IsReached F.code (suc item)
  clash-goes-on item x y c =
      reached_on F.code item (onward item) c.reached
      (subst (λ o. In (onward item) (branches_from F.code item o)) (sym c.at) (item-onward F.code item c.instr (stays returns c.instr x (shaped-at item c.instr c.at) c.dest)))
