-- The branches of two items that do the same, one beside the other.
use Rattle.std.proofs.Common.{◌≡◌, ℕ, true, false, List, [], ◌∷◌, map, Option, Some, refl, subst, inl, inr}
use Rattle.std.specs.List.{AllZip}
use Rattle.bril_tree.specs.declared.numbered.Instr.{Instr}
use Rattle.bril_tree.specs.declared.numbered.Instr.TheVariants.{Label, Const, Act}
use Rattle.bril_tree.specs.declared.operation.Op.{Op}
use Rattle.bril_tree.specs.declared.operation.Op.TheVariants as op
use Rattle.bril_tree.specs.declared.types.Ty.{Ty}
use Rattle.bril_tree.specs.Edge.{Branch, item_branches, action_branches, onward, jump, abort, leads_away}
use Rattle.bril_tree.specs.FunctionForm.{targets_of}
use Rattle.bril_tree.specs.Operand.{Location}
use Rattle.bril_tree.specs.Membership.{In}
use Rattle.bril_tree.proofs.Members.{in_map}
use Rattle.pass_edit_laws.specs.plan.Plan.{ItemsMatch}

pub zip-map : {X Y : Type 0} (S : ℕ → ℕ → Type 0) (R : X → Y → Type 0) (f : ℕ → X) (g : ℕ → Y) (xs ys : List ℕ) → AllZip S xs ys → ((x y : ℕ) → S x y → In x xs → R (f x) (g y)) → AllZip R (map f xs) (map g ys)
zip-map S R f g [] [] z h = tt
zip-map S R f g [] (y ∷ ys) z h = absurd z
zip-map S R f g (x ∷ xs) [] z h = absurd z
zip-map S R f g (x ∷ xs) (y ∷ ys) z h = (h x y z.0 (inl refl), zip-map S R f g xs ys z.1 (λ a b s i. h a b s (inr i)))

module _ (S : ℕ → ℕ → Type 0) (R : Branch → Branch → Type 0) (code result_code : List Instr) (i j : ℕ) where
  act-branches : (d : Option ℕ) (s : Option Ty) (args fns : List ℕ) (o : Op) (ls ms : List ℕ) → AllZip S ls ms → (leads_away (Some (Act d s o args fns ls)) ≡ false → R (onward i) (onward j))
      → (leads_away (Some (Act d s o args fns ls)) ≡ true → (l m : ℕ) → S l m → In (jump code i l) (action_branches code i o ls) → R (jump code i l) (jump result_code j m))
      → ((l m : ℕ) → S l m → In (abort code i l) (action_branches code i o ls) → R (abort code i l) (abort result_code j m)) → AllZip R (action_branches code i o ls) (action_branches result_code j o ms)
  act-branches d s args fns op.Jmp ls ms z on jm ab = zip-map S R (jump code i) (jump result_code j) ls ms z (λ l m s h. jm refl l m s (in_map (jump code i) l ls h))
  act-branches d s args fns op.Br ls ms z on jm ab = zip-map S R (jump code i) (jump result_code j) ls ms z (λ l m s h. jm refl l m s (in_map (jump code i) l ls h))
  act-branches d s args fns op.Ret ls ms z on jm ab = tt
  act-branches d s args fns op.Guard ls ms z on jm ab = (on refl, zip-map S R (abort code i) (abort result_code j) ls ms z (λ l m s h. ab l m s (inr (in_map (abort code i) l ls h))))
  act-branches d s args fns _ ls ms z on jm ab = (on refl, tt)

  -- one beside the other where control goes on, and for each pair of labels
  pub branches-zip : (A : Location → Location → Type 0) (a b : Instr) → ItemsMatch A a b → AllZip S (targets_of a) (targets_of b) → (leads_away (Some a) ≡ false → R (onward i) (onward j))
      → (leads_away (Some a) ≡ true → (l m : ℕ) → S l m → In (jump code i l) (item_branches code i a) → R (jump code i l) (jump result_code j m))
      → ((l m : ℕ) → S l m → In (abort code i l) (item_branches code i a) → R (abort code i l) (abort result_code j m)) → AllZip R (item_branches code i a) (item_branches result_code j b)
  branches-zip A (Label l) (Label m) same z on jm ab = (on refl, tt)
  branches-zip A (Label l) (Const y t w) same z on jm ab = absurd same
  branches-zip A (Label l) (Act e t u result_args gns ms) same z on jm ab = absurd same
  branches-zip A (Const x s v) (Label m) same z on jm ab = absurd same
  branches-zip A (Const x s v) (Const y t w) same z on jm ab = (on refl, tt)
  branches-zip A (Const x s v) (Act e t u result_args gns ms) same z on jm ab = absurd same
  branches-zip A (Act d s o args fns ls) (Label m) same z on jm ab = absurd same
  branches-zip A (Act d s o args fns ls) (Const y t w) same z on jm ab = absurd same
  branches-zip A (Act d s o args fns ls) (Act e t u result_args gns ms) same z on jm ab = subst (λ x. AllZip R (action_branches code i o ls) (action_branches result_code j x ms)) same.operation (act-branches d s args fns o ls ms z on jm ab)
