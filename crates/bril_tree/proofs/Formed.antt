-- The numbers of a program's items lie below the counts of what they number.
use Rattle.std.proofs.Common.{◌≡◌, ℕ, ◌<◌, true, List, [], ◌∷◌, length, Some, sym, subst, inl, inr, arith, nat_lt}
use Rattle.std.specs.Prelude.{slice_get}
use Rattle.std.specs.List.{AllByRecursion, flat_map, list_all}
use Rattle.std.proofs.lemmas.Bool.{ltb-true}
use Rattle.bril_tree.specs.declared.numbered.Instr.{Instr}
use Rattle.bril_tree.specs.declared.numbered_function.Func.{Func}
use Rattle.bril_tree.specs.declared.program.Prog.{Prog}
use Rattle.bril_tree.specs.FunctionForm.{variables_of, label_at, targets_of, callees_of, dest_is_typed}
use Rattle.bril_tree.specs.Membership.{In}
use Rattle.bril_tree.proofs.Appearance.{known_below}
use Rattle.bril_tree.proofs.Elements.{get_in, get_inside, passes_in}
use Rattle.bril_tree.proofs.LabelPoints.{range_high}
use Rattle.bril_tree.proofs.Members.{in_flat_map}

below_in : (n x : ℕ) (xs : List ℕ) → AllByRecursion (λ y. y < n) xs → In x xs → x < n
below_in n x [] all i = absurd i
below_in n x (y ∷ xs) all (inl e) = subst (λ z. z < n) (sym e) all.0
below_in n x (y ∷ xs) all (inr i) = below_in n x xs all.1 i

module _ (f : Func) (point : ℕ) (item : Instr) (at : slice_get f.code point ≡ Some item) where
  -- a variable of an item is one of the function's
  pub variable_below : (x : ℕ) → In x (variables_of item) → x < length f.vars
  variable_below x i =
      below_in (length f.vars) x (flat_map variables_of f.code) (known_below f.args (flat_map variables_of f.code) (length f.vars) f.formed.appear)
      (in_flat_map variables_of item x f.code (get_in f.code point item at) i)

  -- a label that an item goes to is one of the function's
  pub target_below : (l : ℕ) → In l (targets_of item) → l < length f.labels
  target_below l i =
      ltb-true l (length f.labels) (passes_in (λ m. nat_lt m (length f.labels)) (flat_map targets_of f.code) l f.formed.targets (in_flat_map targets_of item l f.code (get_in f.code point item at) i))

  -- and so is a label that stands at an item
  pub label_below : (l : ℕ) → In l (label_at item) → l < length f.labels
  label_below l i =
      let high = range_high 0 (length f.labels) l (subst (In l) f.formed.placed (in_flat_map label_at item l f.code (get_in f.code point item at) i)) in
      omega arith

  -- an item has a destination and a type, or neither
  pub typed_destination : dest_is_typed item ≡ true
  typed_destination = passes_in dest_is_typed f.code item f.formed.typed (get_in f.code point item at)

-- the callee of an item is a function of the program
pub callee_there : (p : Prog) (k point : ℕ) (f : Func) (item : Instr) (g : ℕ) → slice_get p.funcs k ≡ Some f → slice_get f.code point ≡ Some item → In g (callees_of item) → (h : Func) × (slice_get p.funcs g ≡ Some h)
callee_there p k point f item g there at i =
    let called = passes_in (λ f. list_all (λ g. nat_lt g (length p.funcs)) (flat_map callees_of f.code)) p.funcs f p.formed.called (get_in p.funcs k f there) in
    let among = in_flat_map callees_of item g f.code (get_in f.code point item at) i in
    get_inside p.funcs g (ltb-true g (length p.funcs) (passes_in (λ g. nat_lt g (length p.funcs)) (flat_map callees_of f.code) g called among))
