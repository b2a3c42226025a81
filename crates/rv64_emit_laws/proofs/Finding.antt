-- An item of an accepted program finds what it needs: one row for each operation.
use Rattle.std.proofs.Common.{◌≡◌, ℕ, ◌<◌, Bool, true, false, cond, List, [], ◌∷◌, length, map, Option, Some, None, refl, sym, ap, ◌∙◌, subst, arith, inl, length-take}
use Rattle.std.specs.Prelude.{All, is_some, slice_get, slice_index, take}
use Rattle.std.specs.List.{Contains}
use Rattle.std.proofs.lemmas.Bool.{and_parts, eqb-true, false≢true}
use Rattle.std.proofs.lemmas.List.{length-map}
use Rattle.bril_tree.specs.declared.numbered.Instr.{Instr}
use Rattle.bril_tree.specs.declared.numbered.Instr.TheVariants.{Label, Const, Act}
use Rattle.bril_tree.specs.declared.numbered_function.Func.{Func}
use Rattle.bril_tree.specs.declared.operation.Op.{Op}
use Rattle.bril_tree.specs.declared.operation.Op.TheVariants as op
use Rattle.bril_tree.specs.declared.program.Prog.{Prog}
use Rattle.bril_tree.specs.declared.types.Base.{Base}
use Rattle.bril_tree.specs.declared.types.Base.TheVariants as base
use Rattle.bril_tree.specs.declared.types.Ty.{Ty}
use Rattle.bril_tree.specs.Accepted.{IsAccepted, IsAcceptedFunction, leaves_frame}
use Rattle.bril_tree.specs.Literals.{AreLiteralsInRange, IsLiteralInRange}
use Rattle.bril_tree.specs.Operand.{Variable, Shadow, reads_of}
use Rattle.bril_tree.specs.Run.{types_of}
use Rattle.bril_tree.specs.Shape.{is_action_shaped, same}
use Rattle.bril_tree.specs.Sites.{needs_site}
use Rattle.bril_tree.specs.State.{Frame}
use Rattle.bril_tree.specs.Typing.{return_type, if_typed, is_plain, is_pointer, binary, argument_type, action_type_fault}
use Rattle.bril_tree.specs.Membership.{In}
use Rattle.bril_tree.proofs.Acceptance.{accepted_function, call_at, shaped_at, typed_at}
use Rattle.bril_tree.proofs.Elements.{All-at, in_index}
use Rattle.bril_tree.proofs.Formed.{callee_there}
use Rattle.bril_tree.proofs.Members.{contains_in, in_map}
use Rattle.slot_code.specs.declared.slots.Slots.{Slots}
use Rattle.slot_code.specs.Lowered.{IsLowered, lowered_action, lowered_item}
use Rattle.type_soundness.specs.WellTyped.{IsWellTyped}
use Rattle.type_soundness.proofs.Locals.{IsTypedAct, act-typed, counted}
use Rattle.rv64_emit_laws.proofs.Sources.{lowered_at}
use Rattle.rv64_emit_laws.proofs.Held.{Held, literal_block, plain, pointer, points_is_pointer, prints, value, values, zero_found}
use Rattle.rv64_emit_laws.proofs.Ready.{HoldsKind, HoldsPointer, gives_back, CallFinds, ReturnFinds, Finds}

module _ (p : Prog) (slots : Slots) (accepted : IsAccepted p) (literals : AreLiteralsInRange p) (lowered : IsLowered p slots) (f : Frame) (w : IsWellTyped p f) where
  abbrev func : Func
  func = w.function

  facts : IsAcceptedFunction p func
  facts = accepted_function p f.function func accepted w.there

  abbrev IsHere : Instr → Type 0
  IsHere item = slice_get func.code f.point ≡ Some item

  -- what an item that reads its arguments reads
  read : (item : Instr) (args : List ℕ) → IsHere item → reads_of item ≡ map Variable args → (x : ℕ) → In x args → Held func.vars f.locations x
  read item args here e x i =
      let c = subst (λ list. Contains list (Variable x)) (sym e) (contains_in (Variable x) (map Variable args) (in_map Variable x args i)) in
      let h = w.reads item (Variable x) here c in
      record { value = h.0; is = h.1; suits = h.2 }

  at : (item : Instr) (args : List ℕ) (k n : ℕ) → IsHere item → reads_of item ≡ map Variable args → length args ≡ n → k < n → Held func.vars f.locations (slice_index args k)
  at item args k n here e long less = read item args here e (slice_index args k) (in_index args k (omega arith))

  two_plain : (b to : Base) (item : Instr) (ty : Option Ty) (args : List ℕ) → IsHere item → reads_of item ≡ map Variable args → length args ≡ 2 → binary b to func.vars args ty ≡ true →
      HoldsKind f.locations b (slice_index args 0) × HoldsKind f.locations b (slice_index args 1)
  two_plain b to item ty args here e long t =
      let operands = and_parts _ _ (and_parts _ _ t).0 in (
        plain func.vars f.locations b (slice_index args 0) operands.0 (at item args 0 2 here e long (omega arith)),
        plain func.vars f.locations b (slice_index args 1) operands.1 (at item args 1 2 here e long (omega arith)),
      )

  one_plain : (b : Base) (item : Instr) (args : List ℕ) → IsHere item → reads_of item ≡ map Variable args → length args ≡ 1 → if_typed (is_plain b) (argument_type func.vars args 0) ≡ true → HoldsKind f.locations b (slice_index args 0)
  one_plain b item args here e long t = plain func.vars f.locations b (slice_index args 0) t (at item args 0 1 here e long (omega arith))

  one_pointer : (item : Instr) (args : List ℕ) (n : ℕ) → IsHere item → reads_of item ≡ map Variable args → length args ≡ n → 0 < n → if_typed is_pointer (argument_type func.vars args 0) ≡ true → HoldsPointer f.locations (slice_index args 0)
  one_pointer item args n here e long some t = pointer func.vars f.locations (slice_index args 0) t (at item args 0 n here e long some)

  -- ---- calls and returns

  gives_is : gives_back p f.function ≡ is_some func.ret
  gives_is = ap (λ o. is_some (return_type o)) w.there

  returned : (item : Instr) (args : List ℕ) → IsHere item → reads_of item ≡ map Variable args → length args ≡ cond (is_some func.ret) 1 0 → ReturnFinds p slots f (slice_get args 0)
  returned item [] here e long = gives_is ∙ by_test (is_some func.ret) long
    where
      by_test : (b : Bool) → ◌≡◌ {A = ℕ} 0 (cond b 1 0) → b ≡ false
      by_test true h = absurd (omega arith)
      by_test false h = refl
  returned item (x ∷ args) here e long = value func.vars f.locations x (read item (x ∷ args) here e x (inl refl))

  taken : (b : Bool) → same b true ≡ true → b ≡ true
  taken true e = refl
  taken false e = absurd (false≢true e)

  called : (dest : Option ℕ) (ty : Option Ty) (args funcs labels : List ℕ) → IsHere (Act dest ty op.Call args funcs labels) → CallFinds p slots f dest (slice_index funcs 0) args
  called dest ty args funcs labels here =
      let item = Act dest ty op.Call args funcs labels in
      let one : length funcs ≡ 1 = eqb-true (length funcs) 1 (and_parts _ _ (shaped_at p func facts f.point item here)).0 in
      let callee = callee_there p f.function f.point func item (slice_index funcs 0) w.there here (in_index funcs 0 (omega arith)) in
      let g = lowered_at p slots lowered (slice_index funcs 0) callee.0 callee.1 in
      let fits = eqb-true (length args) (length (types_of (slice_get p.funcs (slice_index funcs 0)))) (and_parts _ _ (call_at p func facts f.point item here)).0 in
      let typed : length (types_of (slice_get p.funcs (slice_index funcs 0))) ≡ length (take callee.0.args callee.0.vars) = ap (λ o. length (types_of o)) callee.1 ∙ length-map (take callee.0.args callee.0.vars) (λ v. v.ty) in
      let as_many : g.function.variables ≡ length callee.0.vars = g.is.variables in
      let taken_most : g.function.args ≡ callee.0.args = g.is.args in
      record {
        callee = g.function;
        there = g.there;
        fits = omega (arith, length-take callee.0.args callee.0.vars);
        few = omega (arith, length-take callee.0.args callee.0.vars);
        holds = values func.vars f.locations args (read item args here refl);
        takes = λ x d. (let wanted = (and_parts _ _ (call_at p func facts f.point item here)).1 in taken (gives_back p (slice_index funcs 0)) (ap (λ o. same (gives_back p (slice_index funcs 0)) (is_some o)) (sym d) ∙ wanted));
        alone = w.alone (ap leaves_frame here);
      }

  -- ---- rows

  action_finds : (o : Op) (dest : Option ℕ) (ty : Option Ty) (args funcs labels : List ℕ) → IsHere (Act dest ty o args funcs labels) →
      is_action_shaped (is_some func.ret) o (is_some dest) (length args) (length funcs) (length labels) ≡ true → action_type_fault p func o dest ty args funcs ≡ None → IsTypedAct p func o dest ty args funcs →
      Finds p slots f (lowered_action func o dest ty args funcs labels)
  action_finds op.Add (Some x) ty args funcs labels here h e t = two_plain base.Int base.Int (Act (Some x) ty op.Add args funcs labels) ty args here refl (counted p func op.Add (Some x) args funcs labels h) t.operands_typed
  action_finds op.Add None ty args funcs labels here h e t = absurd (false≢true h)
  action_finds op.Sub (Some x) ty args funcs labels here h e t = two_plain base.Int base.Int (Act (Some x) ty op.Sub args funcs labels) ty args here refl (counted p func op.Sub (Some x) args funcs labels h) t.operands_typed
  action_finds op.Sub None ty args funcs labels here h e t = absurd (false≢true h)
  action_finds op.Mul (Some x) ty args funcs labels here h e t = two_plain base.Int base.Int (Act (Some x) ty op.Mul args funcs labels) ty args here refl (counted p func op.Mul (Some x) args funcs labels h) t.operands_typed
  action_finds op.Mul None ty args funcs labels here h e t = absurd (false≢true h)
  action_finds op.Div (Some x) ty args funcs labels here h e t = two_plain base.Int base.Int (Act (Some x) ty op.Div args funcs labels) ty args here refl (counted p func op.Div (Some x) args funcs labels h) t.operands_typed
  action_finds op.Div None ty args funcs labels here h e t = absurd (false≢true h)
  action_finds op.Eq (Some x) ty args funcs labels here h e t = two_plain base.Int base.Bool (Act (Some x) ty op.Eq args funcs labels) ty args here refl (counted p func op.Eq (Some x) args funcs labels h) t.operands_typed
  action_finds op.Eq None ty args funcs labels here h e t = absurd (false≢true h)
  action_finds op.Lt (Some x) ty args funcs labels here h e t = two_plain base.Int base.Bool (Act (Some x) ty op.Lt args funcs labels) ty args here refl (counted p func op.Lt (Some x) args funcs labels h) t.operands_typed
  action_finds op.Lt None ty args funcs labels here h e t = absurd (false≢true h)
  action_finds op.Gt (Some x) ty args funcs labels here h e t = two_plain base.Int base.Bool (Act (Some x) ty op.Gt args funcs labels) ty args here refl (counted p func op.Gt (Some x) args funcs labels h) t.operands_typed
  action_finds op.Gt None ty args funcs labels here h e t = absurd (false≢true h)
  action_finds op.Le (Some x) ty args funcs labels here h e t = two_plain base.Int base.Bool (Act (Some x) ty op.Le args funcs labels) ty args here refl (counted p func op.Le (Some x) args funcs labels h) t.operands_typed
  action_finds op.Le None ty args funcs labels here h e t = absurd (false≢true h)
  action_finds op.Ge (Some x) ty args funcs labels here h e t = two_plain base.Int base.Bool (Act (Some x) ty op.Ge args funcs labels) ty args here refl (counted p func op.Ge (Some x) args funcs labels h) t.operands_typed
  action_finds op.Ge None ty args funcs labels here h e t = absurd (false≢true h)
  action_finds op.Ceq (Some x) ty args funcs labels here h e t = two_plain base.Char base.Bool (Act (Some x) ty op.Ceq args funcs labels) ty args here refl (counted p func op.Ceq (Some x) args funcs labels h) t.operands_typed
  action_finds op.Ceq None ty args funcs labels here h e t = absurd (false≢true h)
  action_finds op.Clt (Some x) ty args funcs labels here h e t = two_plain base.Char base.Bool (Act (Some x) ty op.Clt args funcs labels) ty args here refl (counted p func op.Clt (Some x) args funcs labels h) t.operands_typed
  action_finds op.Clt None ty args funcs labels here h e t = absurd (false≢true h)
  action_finds op.Cgt (Some x) ty args funcs labels here h e t = two_plain base.Char base.Bool (Act (Some x) ty op.Cgt args funcs labels) ty args here refl (counted p func op.Cgt (Some x) args funcs labels h) t.operands_typed
  action_finds op.Cgt None ty args funcs labels here h e t = absurd (false≢true h)
  action_finds op.Cle (Some x) ty args funcs labels here h e t = two_plain base.Char base.Bool (Act (Some x) ty op.Cle args funcs labels) ty args here refl (counted p func op.Cle (Some x) args funcs labels h) t.operands_typed
  action_finds op.Cle None ty args funcs labels here h e t = absurd (false≢true h)
  action_finds op.Cge (Some x) ty args funcs labels here h e t = two_plain base.Char base.Bool (Act (Some x) ty op.Cge args funcs labels) ty args here refl (counted p func op.Cge (Some x) args funcs labels h) t.operands_typed
  action_finds op.Cge None ty args funcs labels here h e t = absurd (false≢true h)
  action_finds op.And (Some x) ty args funcs labels here h e t = two_plain base.Bool base.Bool (Act (Some x) ty op.And args funcs labels) ty args here refl (counted p func op.And (Some x) args funcs labels h) t.operands_typed
  action_finds op.And None ty args funcs labels here h e t = absurd (false≢true h)
  action_finds op.Or (Some x) ty args funcs labels here h e t = two_plain base.Bool base.Bool (Act (Some x) ty op.Or args funcs labels) ty args here refl (counted p func op.Or (Some x) args funcs labels h) t.operands_typed
  action_finds op.Or None ty args funcs labels here h e t = absurd (false≢true h)
  action_finds op.Not (Some x) ty args funcs labels here h e t = one_plain base.Bool (Act (Some x) ty op.Not args funcs labels) args here refl (counted p func op.Not (Some x) args funcs labels h) (and_parts _ _ t.operands_typed).0
  action_finds op.Not None ty args funcs labels here h e t = absurd (false≢true h)
  action_finds op.CharToInt (Some x) ty args funcs labels here h e t = one_plain base.Char (Act (Some x) ty op.CharToInt args funcs labels) args here refl (counted p func op.CharToInt (Some x) args funcs labels h) (and_parts _ _ t.operands_typed).0
  action_finds op.CharToInt None ty args funcs labels here h e t = absurd (false≢true h)
  action_finds op.IntToChar (Some x) ty args funcs labels here h e t = one_plain base.Int (Act (Some x) ty op.IntToChar args funcs labels) args here refl (counted p func op.IntToChar (Some x) args funcs labels h) (and_parts _ _ t.operands_typed).0
  action_finds op.IntToChar None ty args funcs labels here h e t = absurd (false≢true h)
  action_finds op.Id (Some x) ty args funcs labels here h e t = value func.vars f.locations (slice_index args 0) (at (Act (Some x) ty op.Id args funcs labels) args 0 1 here refl (counted p func op.Id (Some x) args funcs labels h) (omega arith))
  action_finds op.Id None ty args funcs labels here h e t = absurd (false≢true h)
  action_finds op.Nop None ty args funcs labels here h e t = tt
  action_finds op.Nop (Some x) ty args funcs labels here h e t = absurd (false≢true h)
  action_finds op.Jmp None ty args funcs labels here h e t = tt
  action_finds op.Jmp (Some x) ty args funcs labels here h e t = absurd (false≢true h)
  action_finds op.Br None ty args funcs labels here h e t = one_plain base.Bool (Act None ty op.Br args funcs labels) args here refl (counted p func op.Br None args funcs labels h) t.operands_typed
  action_finds op.Br (Some x) ty args funcs labels here h e t = absurd (false≢true h)
  action_finds op.Call dest ty args funcs labels here h e t = called dest ty args funcs labels here
  action_finds op.Ret None ty args funcs labels here h e t = returned (Act None ty op.Ret args funcs labels) args here refl (counted p func op.Ret None args funcs labels h)
  action_finds op.Ret (Some x) ty args funcs labels here h e t = absurd (false≢true h)
  action_finds op.Print None ty args funcs labels here h e t = prints func.vars f.locations args e (read (Act None ty op.Print args funcs labels) args here refl)
  action_finds op.Print (Some x) ty args funcs labels here h e t = absurd (false≢true h)
  action_finds op.Alloc (Some x) ty args funcs labels here h e t = one_plain base.Int (Act (Some x) ty op.Alloc args funcs labels) args here refl (counted p func op.Alloc (Some x) args funcs labels h) (and_parts _ _ t.operands_typed).0
  action_finds op.Alloc None ty args funcs labels here h e t = absurd (false≢true h)
  action_finds op.Free None ty args funcs labels here h e t = one_pointer (Act None ty op.Free args funcs labels) args 1 here refl (counted p func op.Free None args funcs labels h) (omega arith) t.operands_typed
  action_finds op.Free (Some x) ty args funcs labels here h e t = absurd (false≢true h)
  action_finds op.Store None ty args funcs labels here h e t = (
    one_pointer (Act None ty op.Store args funcs labels) args 2 here refl (counted p func op.Store None args funcs labels h) (omega arith) (points_is_pointer (argument_type func.vars args 0) (argument_type func.vars args 1) t.operands_typed),
    value func.vars f.locations (slice_index args 1) (at (Act None ty op.Store args funcs labels) args 1 2 here refl (counted p func op.Store None args funcs labels h) (omega arith)),
  )
  action_finds op.Store (Some x) ty args funcs labels here h e t = absurd (false≢true h)
  action_finds op.Load (Some x) ty args funcs labels here h e t = one_pointer (Act (Some x) ty op.Load args funcs labels) args 1 here refl (counted p func op.Load (Some x) args funcs labels h) (omega arith) (points_is_pointer (argument_type func.vars args 0) ty t.operands_typed)
  action_finds op.Load None ty args funcs labels here h e t = absurd (false≢true h)
  action_finds op.PtrAdd (Some x) ty args funcs labels here h e t =
      let operands = and_parts _ _ (and_parts _ _ t.operands_typed).0 in (
        one_pointer (Act (Some x) ty op.PtrAdd args funcs labels) args 2 here refl (counted p func op.PtrAdd (Some x) args funcs labels h) (omega arith) operands.0,
        plain func.vars f.locations base.Int (slice_index args 1) operands.1 (at (Act (Some x) ty op.PtrAdd args funcs labels) args 1 2 here refl (counted p func op.PtrAdd (Some x) args funcs labels h) (omega arith)),
      )
  action_finds op.PtrAdd None ty args funcs labels here h e t = absurd (false≢true h)
  action_finds op.Get (Some x) ty args funcs labels here h e t =
      let r = w.reads (Act (Some x) ty op.Get args funcs labels) (Shadow x) here (0, omega arith, refl) in
      record { value = r.0; is = r.1 }
  action_finds op.Get None ty args funcs labels here h e t = absurd (false≢true h)
  action_finds op.Set None ty args funcs labels here h e t =
      let r = w.reads (Act None ty op.Set args funcs labels) (Variable (slice_index args 1)) here (0, omega arith, refl) in
      record { value = r.0; is = r.1 }
  action_finds op.Set (Some x) ty args funcs labels here h e t = absurd (false≢true h)
  action_finds op.Undef (Some x) (Some type) args funcs labels here h e t = zero_found type.depth type.base
  action_finds op.Undef (Some x) None args funcs labels here h e t = tt
  action_finds op.Undef None ty args funcs labels here h e t = absurd (false≢true h)
  action_finds op.Speculate None ty args funcs labels here h e t = tt
  action_finds op.Speculate (Some x) ty args funcs labels here h e t = absurd (false≢true h)
  action_finds op.Commit None ty args funcs labels here h e t = w.saved (ap needs_site here)
  action_finds op.Commit (Some x) ty args funcs labels here h e t = absurd (false≢true h)
  action_finds op.Guard None ty args funcs labels here h e t = (one_plain base.Bool (Act None ty op.Guard args funcs labels) args here refl (counted p func op.Guard None args funcs labels h) t.operands_typed, w.saved (ap needs_site here))
  action_finds op.Guard (Some x) ty args funcs labels here h e t = absurd (false≢true h)

  pub item_finds : (item : Instr) → IsHere item → Finds p slots f (lowered_item func item)
  item_finds (Label l) here = tt
  item_finds (Const dest ty value) here = (All-at IsLiteralInRange func.code f.point (Const dest ty value) (All-at (λ g. All IsLiteralInRange g.code) p.funcs f.function func literals w.there) here, literal_block value)
  item_finds (Act dest ty o args funcs labels) here =
      let item = Act dest ty o args funcs labels in
      let h = shaped_at p func facts f.point item here in
      let e = typed_at p func facts f.point item here in
      action_finds o dest ty args funcs labels here h e (act-typed p func o dest ty args funcs labels h e)
