-- Each operation is found by its own name, and by no other.
use Rattle.std.proofs.Common.{◌≡◌, ℕ, Bool, true, false, cond, List, [], ◌∷◌, Some, bytes_eq, Decides, refl, subst, ◌∙◌, ap}
use Rattle.std.specs.Prelude.{◌↔◌}
use Rattle.std.specs.List.{list_all}
use Rattle.std.proofs.lemmas.Bool.{and_parts}
use Rattle.std.proofs.lemmas.Option.{same_Some}
use Rattle.std.proofs.lemmas.Slice.Eq.{bytes_eq-Decides}
use Rattle.bril_tree.specs.declared.operation.Op.{Op}
use Rattle.bril_tree.specs.declared.operation.Op.TheVariants as op
use Rattle.bril_tree.specs.Spelling.{operation_text, operation_among, operation_of, operations}

found_is_named : (os : List Op) (name : List ℕ) (o : Op) → operation_among os name ≡ Some o → name ≡ operation_text o
found_is_named [] name o e = absurd (cc)
found_is_named (x ∷ os) name o e = by (bytes_eq name (operation_text x)) (bytes_eq-Decides name (operation_text x)) (found_is_named os name o) e
  where
    by : (b : Bool) → Decides b (name ≡ operation_text x) → (operation_among os name ≡ Some o → name ≡ operation_text o) → cond b (Some x) (operation_among os name) ≡ Some o → name ≡ operation_text o
    by true same later h = same.0 refl ∙ ap operation_text (same_Some x o h)
    by false same later h = later h

pub named_is_found : (o : Op) → operation_of (operation_text o) ≡ Some o
unfolding operation_of
named_is_found op.Add = refl
named_is_found op.Sub = refl
named_is_found op.Mul = refl
named_is_found op.Div = refl
named_is_found op.Eq = refl
named_is_found op.Lt = refl
named_is_found op.Gt = refl
named_is_found op.Le = refl
named_is_found op.Ge = refl
named_is_found op.Ceq = refl
named_is_found op.Clt = refl
named_is_found op.Cgt = refl
named_is_found op.Cle = refl
named_is_found op.Cge = refl
named_is_found op.Not = refl
named_is_found op.And = refl
named_is_found op.Or = refl
named_is_found op.Id = refl
named_is_found op.Nop = refl
named_is_found op.Jmp = refl
named_is_found op.Br = refl
named_is_found op.Call = refl
named_is_found op.Ret = refl
named_is_found op.Print = refl
named_is_found op.Alloc = refl
named_is_found op.Free = refl
named_is_found op.Store = refl
named_is_found op.Load = refl
named_is_found op.PtrAdd = refl
named_is_found op.CharToInt = refl
named_is_found op.IntToChar = refl
named_is_found op.Get = refl
named_is_found op.Set = refl
named_is_found op.Undef = refl
named_is_found op.Speculate = refl
named_is_found op.Commit = refl
named_is_found op.Guard = refl

pub operation_is_named : (o : Op) (name : List ℕ) → (operation_of name ≡ Some o) ↔ (name ≡ operation_text o)
unfolding operation_of
operation_is_named o name = (found_is_named operations name o, λ e. rw e (named_is_found o))

found_passes : (test : Op → Bool) (os : List Op) (name : List ℕ) (o : Op) → operation_among os name ≡ Some o → list_all test os ≡ true → test o ≡ true
found_passes test [] name o e all = absurd (cc)
found_passes test (x ∷ os) name o e all = by (bytes_eq name (operation_text x)) (found_passes test os name o) e
  where
    by : (b : Bool) → (operation_among os name ≡ Some o → list_all test os ≡ true → test o ≡ true) → cond b (Some x) (operation_among os name) ≡ Some o → test o ≡ true
    by true later h = subst (λ y. test y ≡ true) (same_Some x o h) (and_parts (test x) (list_all test os) all).0
    by false later h = later h (and_parts (test x) (list_all test os) all).1

-- a test that all operations in the list pass is passed by each operation
pub each_passes : (test : Op → Bool) → list_all test operations ≡ true → (o : Op) → test o ≡ true
unfolding operation_of
each_passes test all o = found_passes test operations (operation_text o) o (named_is_found o) all
