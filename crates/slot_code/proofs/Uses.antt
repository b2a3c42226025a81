-- What an item reads or writes is a slot of its function.
use Rattle.std.proofs.Common.{◌≡◌, ℕ, ◌<◌, Bool, true, false, ◌&&◌, ◌||◌, eqb, List, [], ◌∷◌, ◌++◌, length, map, Option, Some, None, refl, sym, ap, ◌∙◌, subst, inl, inr, arith}
use Rattle.std.specs.Prelude.{All, slice_get, slice_index, is_some, option_map}
use Rattle.std.proofs.lemmas.Bool.{and_parts, eqb-true, false≢true}
use Rattle.std.proofs.lemmas.Bool.Decides.{nat_tests}
use Rattle.std.proofs.lemmas.List.Elements.{All-nil, All-cons}
use Rattle.std.proofs.lemmas.List.Folds.{list_any_at}
use Rattle.std.proofs.lemmas.Option.{get_or_from_slice_get, same_Some, slice_get-map, slice_get_within}
use Rattle.bril_tree.specs.declared.numbered.Instr.{Instr}
use Rattle.bril_tree.specs.declared.numbered.Instr.TheVariants.{Label, Const, Act}
use Rattle.bril_tree.specs.declared.numbered_function.Func.{Func}
use Rattle.bril_tree.specs.declared.operation.Op.{Op}
use Rattle.bril_tree.specs.declared.operation.Op.TheVariants as op
use Rattle.bril_tree.specs.declared.program.Prog.{Prog}
use Rattle.bril_tree.specs.declared.types.Ty.{Ty}
use Rattle.bril_tree.specs.Accepted.{IsAccepted}
use Rattle.bril_tree.specs.FunctionForm.{listed, variables_of}
use Rattle.bril_tree.specs.Membership.{In}
use Rattle.bril_tree.specs.Shape.{Shape, fits_shape, gives, is_action_shaped, is_shaped, same, takes}
use Rattle.bril_tree.proofs.Acceptance.{accepted_function, shaped_at}
use Rattle.bril_tree.proofs.Elements.{in_index}
use Rattle.bril_tree.proofs.Formed.{variable_below}
use Rattle.slot_code.specs.declared.item.Slot.TheVariants.{Variable, Shadow}
use Rattle.slot_code.specs.declared.item.SlotItem.{SlotItem}
use Rattle.slot_code.specs.declared.slots.SlotFunction.{SlotFunction}
use Rattle.slot_code.specs.Laws.{IsSlotOf, slots_used}
use Rattle.slot_code.specs.Lowered.{IsLoweredFunction, lowered_action, lowered_item, printed_as}
use Rattle.slot_code.specs.Numbering.{is_used, uses_shadow}

same_number : (n : ℕ) → eqb n n ≡ true
same_number n = grind (arith, nat_tests)

-- an operation has as many arguments as its shape
arguments : (shape : Shape) (dest : Bool) (args funcs labels : ℕ) → fits_shape shape dest args funcs labels ≡ true → args ≡ shape.args
arguments shape dest args funcs labels h =
    let front = and_parts (same shape.dest dest && eqb args shape.args && eqb funcs 0) (eqb labels shape.labels) h in
    let inner = and_parts (same shape.dest dest && eqb args shape.args) (eqb funcs 0) front.0 in
    eqb-true args shape.args (and_parts (same shape.dest dest) (eqb args shape.args) inner.0).1

module _ (f : Func) (g : SlotFunction) where
  one : (x : ℕ) → x < g.variables → All (IsSlotOf g) (Variable x ∷ [])
  one x less = All-cons (IsSlotOf g) (Variable x) [] less (All-nil (IsSlotOf g))

  two : (x y : ℕ) → x < g.variables → y < g.variables → All (IsSlotOf g) (Variable x ∷ Variable y ∷ [])
  two x y less small = All-cons (IsSlotOf g) (Variable x) (Variable y ∷ []) less (one y small)

  argument : (args : List ℕ) (k : ℕ) → ((y : ℕ) → In y args → y < g.variables) → k < length args → slice_index args k < g.variables
  argument args k known less = known (slice_index args k) (in_index args k less)

  given_one : (x : ℕ) (args : List ℕ) → length args ≡ 1 → ((y : ℕ) → In y (x ∷ args) → y < g.variables) → All (IsSlotOf g) (Variable x ∷ Variable (slice_index args 0) ∷ [])
  given_one x args n known = two x (slice_index args 0) (known x (inl refl)) (argument args 0 (λ y i. known y (inr i)) (omega arith))

  given_two : (x : ℕ) (args : List ℕ) → length args ≡ 2 → ((y : ℕ) → In y (x ∷ args) → y < g.variables) → All (IsSlotOf g) (Variable x ∷ Variable (slice_index args 0) ∷ Variable (slice_index args 1) ∷ [])
  given_two x args n known =
      All-cons (IsSlotOf g) (Variable x) (Variable (slice_index args 0) ∷ Variable (slice_index args 1) ∷ []) (known x (inl refl))
      (two (slice_index args 0) (slice_index args 1) (argument args 0 (λ y i. known y (inr i)) (omega arith)) (argument args 1 (λ y i. known y (inr i)) (omega arith)))

  every : (xs : List ℕ) → ((y : ℕ) → In y xs → y < g.variables) → All (IsSlotOf g) (map Variable xs)
  every [] known = All-nil (IsSlotOf g)
  every (x ∷ xs) known = All-cons (IsSlotOf g) (Variable x) (map Variable xs) (known x (inl refl)) (every xs (λ y i. known y (inr i)))

  returned : (args : List ℕ) → ((y : ℕ) → In y args → y < g.variables) → All (IsSlotOf g) (map Variable (listed (slice_get args 0)))
  returned [] known = All-nil (IsSlotOf g)
  returned (x ∷ args) known = one x (known x (inl refl))

  printed : (args : List ℕ) → ((y : ℕ) → In y args → y < g.variables) → All (IsSlotOf g) (map (λ a. Variable a.variable) (map (printed_as f.vars) args))
  printed [] known = All-nil (IsSlotOf g)
  printed (x ∷ args) known =
      All-cons (IsSlotOf g) (Variable x) (map (λ a. Variable a.variable) (map (printed_as f.vars) args)) (known x (inl refl)) (printed args (λ y i. known y (inr i)))

  action_slots : (operation : Op) (dest : Option ℕ) (ty : Option Ty) (args funcs labels : List ℕ) → is_action_shaped (is_some f.ret) operation (is_some dest) (length args) (length funcs) (length labels) ≡ true →
      ((y : ℕ) → In y (listed dest ++ args) → y < g.variables) → ((x : ℕ) → uses_shadow x (lowered_action f operation dest ty args funcs labels) ≡ true → is_used g.code x ≡ true) →
      All (IsSlotOf g) (slots_used (lowered_action f operation dest ty args funcs labels))
  action_slots op.Add (Some x) ty args funcs labels h known used = given_two x args (arguments (gives 2) true (length args) (length funcs) (length labels) h) known
  action_slots op.Add None ty args funcs labels h known used = absurd (false≢true h)
  action_slots op.Sub (Some x) ty args funcs labels h known used = given_two x args (arguments (gives 2) true (length args) (length funcs) (length labels) h) known
  action_slots op.Sub None ty args funcs labels h known used = absurd (false≢true h)
  action_slots op.Mul (Some x) ty args funcs labels h known used = given_two x args (arguments (gives 2) true (length args) (length funcs) (length labels) h) known
  action_slots op.Mul None ty args funcs labels h known used = absurd (false≢true h)
  action_slots op.Div (Some x) ty args funcs labels h known used = given_two x args (arguments (gives 2) true (length args) (length funcs) (length labels) h) known
  action_slots op.Div None ty args funcs labels h known used = absurd (false≢true h)
  action_slots op.Eq (Some x) ty args funcs labels h known used = given_two x args (arguments (gives 2) true (length args) (length funcs) (length labels) h) known
  action_slots op.Eq None ty args funcs labels h known used = absurd (false≢true h)
  action_slots op.Lt (Some x) ty args funcs labels h known used = given_two x args (arguments (gives 2) true (length args) (length funcs) (length labels) h) known
  action_slots op.Lt None ty args funcs labels h known used = absurd (false≢true h)
  action_slots op.Gt (Some x) ty args funcs labels h known used = given_two x args (arguments (gives 2) true (length args) (length funcs) (length labels) h) known
  action_slots op.Gt None ty args funcs labels h known used = absurd (false≢true h)
  action_slots op.Le (Some x) ty args funcs labels h known used = given_two x args (arguments (gives 2) true (length args) (length funcs) (length labels) h) known
  action_slots op.Le None ty args funcs labels h known used = absurd (false≢true h)
  action_slots op.Ge (Some x) ty args funcs labels h known used = given_two x args (arguments (gives 2) true (length args) (length funcs) (length labels) h) known
  action_slots op.Ge None ty args funcs labels h known used = absurd (false≢true h)
  action_slots op.Ceq (Some x) ty args funcs labels h known used = given_two x args (arguments (gives 2) true (length args) (length funcs) (length labels) h) known
  action_slots op.Ceq None ty args funcs labels h known used = absurd (false≢true h)
  action_slots op.Clt (Some x) ty args funcs labels h known used = given_two x args (arguments (gives 2) true (length args) (length funcs) (length labels) h) known
  action_slots op.Clt None ty args funcs labels h known used = absurd (false≢true h)
  action_slots op.Cgt (Some x) ty args funcs labels h known used = given_two x args (arguments (gives 2) true (length args) (length funcs) (length labels) h) known
  action_slots op.Cgt None ty args funcs labels h known used = absurd (false≢true h)
  action_slots op.Cle (Some x) ty args funcs labels h known used = given_two x args (arguments (gives 2) true (length args) (length funcs) (length labels) h) known
  action_slots op.Cle None ty args funcs labels h known used = absurd (false≢true h)
  action_slots op.Cge (Some x) ty args funcs labels h known used = given_two x args (arguments (gives 2) true (length args) (length funcs) (length labels) h) known
  action_slots op.Cge None ty args funcs labels h known used = absurd (false≢true h)
  action_slots op.Not (Some x) ty args funcs labels h known used = given_one x args (arguments (gives 1) true (length args) (length funcs) (length labels) h) known
  action_slots op.Not None ty args funcs labels h known used = absurd (false≢true h)
  action_slots op.And (Some x) ty args funcs labels h known used = given_two x args (arguments (gives 2) true (length args) (length funcs) (length labels) h) known
  action_slots op.And None ty args funcs labels h known used = absurd (false≢true h)
  action_slots op.Or (Some x) ty args funcs labels h known used = given_two x args (arguments (gives 2) true (length args) (length funcs) (length labels) h) known
  action_slots op.Or None ty args funcs labels h known used = absurd (false≢true h)
  action_slots op.Id (Some x) ty args funcs labels h known used = given_one x args (arguments (gives 1) true (length args) (length funcs) (length labels) h) known
  action_slots op.Id None ty args funcs labels h known used = absurd (false≢true h)
  action_slots op.Nop None ty args funcs labels h known used = All-nil (IsSlotOf g)
  action_slots op.Nop (Some x) ty args funcs labels h known used = absurd (false≢true h)
  action_slots op.Jmp None ty args funcs labels h known used = All-nil (IsSlotOf g)
  action_slots op.Jmp (Some x) ty args funcs labels h known used = absurd (false≢true h)
  action_slots op.Br None ty args funcs labels h known used = one (slice_index args 0) (argument args 0 known (let n : length args ≡ 1 = arguments (takes 1 2) false (length args) (length funcs) (length labels) h in omega arith))
  action_slots op.Br (Some x) ty args funcs labels h known used = absurd (false≢true h)
  action_slots op.Call dest ty args funcs labels h known used = every (listed dest ++ args) known
  action_slots op.Ret None ty args funcs labels h known used = returned args known
  action_slots op.Ret (Some x) ty args funcs labels h known used = absurd (false≢true h)
  action_slots op.Print None ty args funcs labels h known used = printed args known
  action_slots op.Print (Some x) ty args funcs labels h known used = absurd (false≢true h)
  action_slots op.Alloc (Some x) ty args funcs labels h known used = given_one x args (arguments (gives 1) true (length args) (length funcs) (length labels) h) known
  action_slots op.Alloc None ty args funcs labels h known used = absurd (false≢true h)
  action_slots op.Free None ty args funcs labels h known used = one (slice_index args 0) (argument args 0 known (let n : length args ≡ 1 = arguments (takes 1 0) false (length args) (length funcs) (length labels) h in omega arith))
  action_slots op.Free (Some x) ty args funcs labels h known used = absurd (false≢true h)
  action_slots op.Store None ty args funcs labels h known used = let n : length args ≡ 2 = arguments (takes 2 0) false (length args) (length funcs) (length labels) h in two (slice_index args 0) (slice_index args 1) (argument args 0 known (omega arith)) (argument args 1 known (omega arith))
  action_slots op.Store (Some x) ty args funcs labels h known used = absurd (false≢true h)
  action_slots op.Load (Some x) ty args funcs labels h known used = given_one x args (arguments (gives 1) true (length args) (length funcs) (length labels) h) known
  action_slots op.Load None ty args funcs labels h known used = absurd (false≢true h)
  action_slots op.PtrAdd (Some x) ty args funcs labels h known used = given_two x args (arguments (gives 2) true (length args) (length funcs) (length labels) h) known
  action_slots op.PtrAdd None ty args funcs labels h known used = absurd (false≢true h)
  action_slots op.CharToInt (Some x) ty args funcs labels h known used = given_one x args (arguments (gives 1) true (length args) (length funcs) (length labels) h) known
  action_slots op.CharToInt None ty args funcs labels h known used = absurd (false≢true h)
  action_slots op.IntToChar (Some x) ty args funcs labels h known used = given_one x args (arguments (gives 1) true (length args) (length funcs) (length labels) h) known
  action_slots op.IntToChar None ty args funcs labels h known used = absurd (false≢true h)
  action_slots op.Get (Some x) ty args funcs labels h known used = All-cons (IsSlotOf g) (Variable x) (Shadow x ∷ []) (known x (inl refl)) (All-cons (IsSlotOf g) (Shadow x) [] (known x (inl refl), used x (same_number x)) (All-nil (IsSlotOf g)))
  action_slots op.Get None ty args funcs labels h known used = absurd (false≢true h)
  action_slots op.Set None ty args funcs labels h known used = let n : length args ≡ 2 = arguments (takes 2 0) false (length args) (length funcs) (length labels) h in All-cons (IsSlotOf g) (Shadow (slice_index args 0)) (Variable (slice_index args 1) ∷ []) (argument args 0 known (omega arith), used (slice_index args 0) (ap (λ b. b || false) (same_number (slice_index args 0)))) (one (slice_index args 1) (argument args 1 known (omega arith)))
  action_slots op.Set (Some x) ty args funcs labels h known used = absurd (false≢true h)
  action_slots op.Undef (Some x) (Some type) args funcs labels h known used = one x (known x (inl refl))
  action_slots op.Undef (Some x) None args funcs labels h known used = All-nil (IsSlotOf g)
  action_slots op.Undef None ty args funcs labels h known used = absurd (false≢true h)
  action_slots op.Speculate None ty args funcs labels h known used = All-nil (IsSlotOf g)
  action_slots op.Speculate (Some x) ty args funcs labels h known used = absurd (false≢true h)
  action_slots op.Commit None ty args funcs labels h known used = All-nil (IsSlotOf g)
  action_slots op.Commit (Some x) ty args funcs labels h known used = absurd (false≢true h)
  action_slots op.Guard None ty args funcs labels h known used = one (slice_index args 0) (argument args 0 known (let n : length args ≡ 1 = arguments (takes 1 1) false (length args) (length funcs) (length labels) h in omega arith))
  action_slots op.Guard (Some x) ty args funcs labels h known used = absurd (false≢true h)

  item_slots : (item : Instr) → is_shaped (is_some f.ret) item ≡ true → ((y : ℕ) → In y (variables_of item) → y < g.variables) → ((x : ℕ) → uses_shadow x (lowered_item f item) ≡ true → is_used g.code x ≡ true) →
      All (IsSlotOf g) (slots_used (lowered_item f item))
  item_slots (Label l) h known used = All-nil (IsSlotOf g)
  item_slots (Const dest ty value) h known used = one dest (known dest (inl refl))
  item_slots (Act dest ty operation args funcs labels) h known used = action_slots operation dest ty args funcs labels h known used

-- a shadow that an item uses is used in its function
used_at : (code : List SlotItem) (point x : ℕ) (item : SlotItem) → slice_get code point ≡ Some item → uses_shadow x item ≡ true → is_used code x ≡ true
used_at code point x item at uses =
    list_any_at (uses_shadow x) code point item (slice_get_within code point item at)
    (ap (uses_shadow x) (get_or_from_slice_get code point item item at) ∙ uses)

pub items_use_slots : (p : Prog) (k : ℕ) (f : Func) (g : SlotFunction) → IsAccepted p → slice_get p.funcs k ≡ Some f → IsLoweredFunction f g → (point : ℕ) (item : SlotItem) → slice_get g.code point ≡ Some item → All (IsSlotOf g) (slots_used item)
items_use_slots p k f g accepted there is point item at = by (slice_get f.code point) refl
  where
    made : slice_get g.code point ≡ option_map (lowered_item f) (slice_get f.code point)
    made = ap (λ code. slice_get code point) is.code ∙ slice_get-map (lowered_item f) f.code point

    by : (o : Option Instr) → slice_get f.code point ≡ o → All (IsSlotOf g) (slots_used item)
    by None e = absurd (let h : Some item ≡ None = sym at ∙ made ∙ ap (option_map (lowered_item f)) e in cc)
    by (Some instr) e =
        let here : slice_get g.code point ≡ Some (lowered_item f instr) = made ∙ ap (option_map (lowered_item f)) e in
        let same : lowered_item f instr ≡ item = same_Some _ _ (sym here ∙ at) in
        subst (λ i. All (IsSlotOf g) (slots_used i)) same
        (item_slots f g instr (shaped_at p f (accepted_function p k f accepted there) point instr e)
        (λ y i. subst (λ n. y < n) (sym is.variables) (variable_below f point instr e y i))
        (λ x uses. used_at g.code point x (lowered_item f instr) here uses))
