-- Items whose operands have the same types are typed alike.
use Rattle.std.proofs.Common.{◌≡◌, ℕ, zero, suc, ◌<◌, Bool, true, false, List, [], ◌∷◌, length, map, Option, Some, None, refl, ap, ◌∙◌, cond, arith}
use Rattle.std.specs.Prelude.{slice_get, slice_index, is_some, ◌&&◌}
use Rattle.bril_tree.specs.declared.numbered_function.Func.{Func}
use Rattle.bril_tree.specs.declared.operation.Op.{Op}
use Rattle.bril_tree.specs.declared.operation.Op.TheVariants as op
use Rattle.bril_tree.specs.declared.program.Prog.{Prog}
use Rattle.bril_tree.specs.declared.types.Ty.{Ty}
use Rattle.bril_tree.specs.Run.{types_of}
use Rattle.bril_tree.specs.Shape.{is_action_shaped, shape_of}
use Rattle.bril_tree.specs.Typing.{variable_type, argument_type, is_action_typed, is_dest_typed, action_type_fault, print_fault, wrong_unless, is_return_typed, return_type, are_typed, same_result}
use Rattle.bril_tree.proofs.Shapes.{shape-parts}

type-at : (V W : ℕ → Option Ty) (xs ys : List ℕ) (k : ℕ) → map V xs ≡ map W ys → k < length xs → V (slice_index xs k) ≡ W (slice_index ys k)
type-at V W [] ys k e l = absurd (omega arith)
type-at V W (x ∷ xs) [] k e l = absurd cc
type-at V W (x ∷ xs) (y ∷ ys) zero e l = cc
type-at V W (x ∷ xs) (y ∷ ys) (suc k) e l = let t : map V xs ≡ map W ys = cc in type-at V W xs ys k t (omega arith)

-- where an item is typed, its operands are
pub second-holds : (b c : Bool) → wrong_unless (b && c) ≡ None → c ≡ true
second-holds true true e = refl
second-holds true false e = absurd cc
second-holds false c e = absurd cc

module _ (P Q : Prog) (F G : Func) (callees : (g : ℕ) → types_of (slice_get P.funcs g) ≡ types_of (slice_get Q.funcs g)) (results : (g : ℕ) → return_type (slice_get P.funcs g) ≡ return_type (slice_get Q.funcs g)) (ret_same : F.ret ≡ G.ret) where
  first : (args result_args : List ℕ) → map (variable_type F.vars) args ≡ map (variable_type G.vars) result_args → (c : ℕ) → length args ≡ suc c → argument_type F.vars args 0 ≡ argument_type G.vars result_args 0
  first args result_args ts c n = type-at (variable_type F.vars) (variable_type G.vars) args result_args 0 ts (omega arith)

  second : (args result_args : List ℕ) → map (variable_type F.vars) args ≡ map (variable_type G.vars) result_args → length args ≡ 2 → argument_type F.vars args 1 ≡ argument_type G.vars result_args 1
  second args result_args ts n = type-at (variable_type F.vars) (variable_type G.vars) args result_args 1 ts (omega arith)

  return-typed : (r : Option Ty) (b : Bool) (args result_args : List ℕ) → b ≡ is_some r → map (variable_type F.vars) args ≡ map (variable_type G.vars) result_args → length args ≡ cond b 1 0 → is_return_typed r F.vars args ≡ is_return_typed r G.vars result_args
  return-typed None b args result_args e ts n = refl
  return-typed (Some t) true args result_args e ts n = let e0 = first args result_args ts 0 n in cc
  return-typed (Some t) false args result_args e ts n = absurd cc

  -- operands of the same types
  operands-typed : (ret : Bool) (o : Op) (dest : Bool) (ty : Option Ty) (args result_args fns : List ℕ) (labels : ℕ) → is_action_shaped ret o dest (length args) (length fns) labels ≡ true → (ts : map (variable_type F.vars) args ≡ map (variable_type G.vars) result_args) → (link : ret ≡ is_some F.ret)
      → is_action_typed P F o ty args fns ≡ is_action_typed Q G o ty result_args fns
  operands-typed ret op.Not dest ty args result_args fns labels s ts link = let e0 = first args result_args ts 0 (shape-parts (shape_of ret op.Not) dest (length args) (length fns) labels s).args_are in cc
  operands-typed ret op.Id dest ty args result_args fns labels s ts link = let e0 = first args result_args ts 0 (shape-parts (shape_of ret op.Id) dest (length args) (length fns) labels s).args_are in cc
  operands-typed ret op.CharToInt dest ty args result_args fns labels s ts link = let e0 = first args result_args ts 0 (shape-parts (shape_of ret op.CharToInt) dest (length args) (length fns) labels s).args_are in cc
  operands-typed ret op.IntToChar dest ty args result_args fns labels s ts link = let e0 = first args result_args ts 0 (shape-parts (shape_of ret op.IntToChar) dest (length args) (length fns) labels s).args_are in cc
  operands-typed ret op.Alloc dest ty args result_args fns labels s ts link = let e0 = first args result_args ts 0 (shape-parts (shape_of ret op.Alloc) dest (length args) (length fns) labels s).args_are in cc
  operands-typed ret op.Load dest ty args result_args fns labels s ts link = let e0 = first args result_args ts 0 (shape-parts (shape_of ret op.Load) dest (length args) (length fns) labels s).args_are in cc
  operands-typed ret op.Br dest ty args result_args fns labels s ts link = let e0 = first args result_args ts 0 (shape-parts (shape_of ret op.Br) dest (length args) (length fns) labels s).args_are in cc
  operands-typed ret op.Guard dest ty args result_args fns labels s ts link = let e0 = first args result_args ts 0 (shape-parts (shape_of ret op.Guard) dest (length args) (length fns) labels s).args_are in cc
  operands-typed ret op.Free dest ty args result_args fns labels s ts link = let e0 = first args result_args ts 0 (shape-parts (shape_of ret op.Free) dest (length args) (length fns) labels s).args_are in cc
  operands-typed ret op.Nop dest ty args result_args fns labels s ts link = refl
  operands-typed ret op.Jmp dest ty args result_args fns labels s ts link = refl
  operands-typed ret op.Print dest ty args result_args fns labels s ts link = refl
  operands-typed ret op.Get dest ty args result_args fns labels s ts link = refl
  operands-typed ret op.Undef dest ty args result_args fns labels s ts link = refl
  operands-typed ret op.Speculate dest ty args result_args fns labels s ts link = refl
  operands-typed ret op.Commit dest ty args result_args fns labels s ts link = refl
  operands-typed ret op.Add dest ty args result_args fns labels s ts link = let n = (shape-parts (shape_of ret op.Add) dest (length args) (length fns) labels s).args_are in let e0 = first args result_args ts 1 n in let e1 = second args result_args ts n in cc
  operands-typed ret op.Sub dest ty args result_args fns labels s ts link = let n = (shape-parts (shape_of ret op.Sub) dest (length args) (length fns) labels s).args_are in let e0 = first args result_args ts 1 n in let e1 = second args result_args ts n in cc
  operands-typed ret op.Mul dest ty args result_args fns labels s ts link = let n = (shape-parts (shape_of ret op.Mul) dest (length args) (length fns) labels s).args_are in let e0 = first args result_args ts 1 n in let e1 = second args result_args ts n in cc
  operands-typed ret op.Div dest ty args result_args fns labels s ts link = let n = (shape-parts (shape_of ret op.Div) dest (length args) (length fns) labels s).args_are in let e0 = first args result_args ts 1 n in let e1 = second args result_args ts n in cc
  operands-typed ret op.Eq dest ty args result_args fns labels s ts link = let n = (shape-parts (shape_of ret op.Eq) dest (length args) (length fns) labels s).args_are in let e0 = first args result_args ts 1 n in let e1 = second args result_args ts n in cc
  operands-typed ret op.Lt dest ty args result_args fns labels s ts link = let n = (shape-parts (shape_of ret op.Lt) dest (length args) (length fns) labels s).args_are in let e0 = first args result_args ts 1 n in let e1 = second args result_args ts n in cc
  operands-typed ret op.Gt dest ty args result_args fns labels s ts link = let n = (shape-parts (shape_of ret op.Gt) dest (length args) (length fns) labels s).args_are in let e0 = first args result_args ts 1 n in let e1 = second args result_args ts n in cc
  operands-typed ret op.Le dest ty args result_args fns labels s ts link = let n = (shape-parts (shape_of ret op.Le) dest (length args) (length fns) labels s).args_are in let e0 = first args result_args ts 1 n in let e1 = second args result_args ts n in cc
  operands-typed ret op.Ge dest ty args result_args fns labels s ts link = let n = (shape-parts (shape_of ret op.Ge) dest (length args) (length fns) labels s).args_are in let e0 = first args result_args ts 1 n in let e1 = second args result_args ts n in cc
  operands-typed ret op.Ceq dest ty args result_args fns labels s ts link = let n = (shape-parts (shape_of ret op.Ceq) dest (length args) (length fns) labels s).args_are in let e0 = first args result_args ts 1 n in let e1 = second args result_args ts n in cc
  operands-typed ret op.Clt dest ty args result_args fns labels s ts link = let n = (shape-parts (shape_of ret op.Clt) dest (length args) (length fns) labels s).args_are in let e0 = first args result_args ts 1 n in let e1 = second args result_args ts n in cc
  operands-typed ret op.Cgt dest ty args result_args fns labels s ts link = let n = (shape-parts (shape_of ret op.Cgt) dest (length args) (length fns) labels s).args_are in let e0 = first args result_args ts 1 n in let e1 = second args result_args ts n in cc
  operands-typed ret op.Cle dest ty args result_args fns labels s ts link = let n = (shape-parts (shape_of ret op.Cle) dest (length args) (length fns) labels s).args_are in let e0 = first args result_args ts 1 n in let e1 = second args result_args ts n in cc
  operands-typed ret op.Cge dest ty args result_args fns labels s ts link = let n = (shape-parts (shape_of ret op.Cge) dest (length args) (length fns) labels s).args_are in let e0 = first args result_args ts 1 n in let e1 = second args result_args ts n in cc
  operands-typed ret op.And dest ty args result_args fns labels s ts link = let n = (shape-parts (shape_of ret op.And) dest (length args) (length fns) labels s).args_are in let e0 = first args result_args ts 1 n in let e1 = second args result_args ts n in cc
  operands-typed ret op.Or dest ty args result_args fns labels s ts link = let n = (shape-parts (shape_of ret op.Or) dest (length args) (length fns) labels s).args_are in let e0 = first args result_args ts 1 n in let e1 = second args result_args ts n in cc
  operands-typed ret op.PtrAdd dest ty args result_args fns labels s ts link = let n = (shape-parts (shape_of ret op.PtrAdd) dest (length args) (length fns) labels s).args_are in let e0 = first args result_args ts 1 n in let e1 = second args result_args ts n in cc
  operands-typed ret op.Store dest ty args result_args fns labels s ts link = let n = (shape-parts (shape_of ret op.Store) dest (length args) (length fns) labels s).args_are in let e0 = first args result_args ts 1 n in let e1 = second args result_args ts n in cc
  operands-typed ret op.Set dest ty args result_args fns labels s ts link = let n = (shape-parts (shape_of ret op.Set) dest (length args) (length fns) labels s).args_are in let e0 = first args result_args ts 1 n in let e1 = second args result_args ts n in cc
  operands-typed ret op.Call dest ty args result_args fns labels s ts link =
      let g = slice_index fns 0 in
      ap (λ l. are_typed l (types_of (slice_get P.funcs g)) && same_result ty (return_type (slice_get P.funcs g))) ts ∙ ap (λ l. are_typed (map (variable_type G.vars) result_args) l && same_result ty (return_type (slice_get P.funcs g))) (callees g)
      ∙ ap (λ r. are_typed (map (variable_type G.vars) result_args) (types_of (slice_get Q.funcs g)) && same_result ty r) (results g)
  operands-typed ret op.Ret dest ty args result_args fns labels s ts link =
      return-typed F.ret ret args result_args link ts (shape-parts (shape_of ret op.Ret) dest (length args) (length fns) labels s).args_are ∙ ap (λ r. is_return_typed r G.vars result_args) ret_same

  -- an item is typed where one of the same operands' types is
  pub act-typed : (ret : Bool) (o : Op) (d e : Option ℕ) (ty : Option Ty) (args result_args fns : List ℕ) (labels : ℕ) → is_action_shaped ret o (is_some d) (length args) (length fns) labels ≡ true → map (variable_type F.vars) args ≡ map (variable_type G.vars) result_args → ret ≡ is_some F.ret
      → is_dest_typed P F d ty ≡ is_dest_typed Q G e ty → action_type_fault P F o d ty args fns ≡ action_type_fault Q G o e ty result_args fns
  act-typed ret op.Print d e ty args result_args fns labels s ts link dest = ap print_fault ts
  act-typed ret o d e ty args result_args fns labels s ts link dest =
      ap (λ b. wrong_unless (b && is_action_typed P F o ty args fns)) dest ∙ ap (λ b. wrong_unless (is_dest_typed Q G e ty && b)) (operands-typed ret o (is_some d) ty args result_args fns labels s ts link)
