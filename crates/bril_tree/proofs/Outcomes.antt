-- The outcome of an item depends on what it reads alone, and an item that gives a value goes on.
use Rattle.std.proofs.Common.{◌≡◌, ℕ, zero, suc, ◌<◌, Bool, true, false, cond, List, [], ◌∷◌, length, map, Option, Some, None, ℤ, pos, negsuc, refl, ap, ◌∙◌, arith}
use Rattle.std.specs.Prelude.{is_some, ◌+ℤ◌}
use Rattle.std.specs.List.{AllZip}
use Rattle.bril_tree.specs.declared.limits.Fault.{Fault}
use Rattle.bril_tree.specs.declared.numbered.Instr.{Instr}
use Rattle.bril_tree.specs.declared.numbered.Instr.TheVariants.{Label, Const, Act}
use Rattle.bril_tree.specs.declared.operation.Op.{Op}
use Rattle.bril_tree.specs.declared.operation.Op.TheVariants as op
use Rattle.bril_tree.specs.declared.types.Ty.{Ty}
use Rattle.bril_tree.specs.declared.value.Value.{Value}
use Rattle.bril_tree.specs.Assigned.{assigns_of}
use Rattle.bril_tree.specs.Edge.{item_branches, onward}
use Rattle.bril_tree.specs.FunctionForm.{listed}
use Rattle.bril_tree.specs.Operand.{Location, Variable, dest_of, locations_read, reading_of, shadow_of}
use Rattle.bril_tree.specs.Outcome.{Yields, FaultsWith, HasEffect, outcome_of, action_outcome, computed, int_of, block_of, offset_of, argument, shadow_given, divided, char_from, is_scalar, moved, fits_32}
use Rattle.bril_tree.specs.Locals.{value_at}
use Rattle.bril_tree.specs.Shape.{is_action_shaped, shape_of}
use Rattle.bril_tree.specs.Sites.{Keeps, item_change}
use Rattle.bril_tree.specs.State.{Locals, read}
use Rattle.bril_tree.proofs.Shapes.{shape-parts}

-- ---- items that give a value

-- The item has one branch on, to the next point, it neither opens nor closes a site, and it assigns its destination.
pub record GoesOn (item : Instr) : Type 0 where
  pub branches : (code : List Instr) (point : ℕ) → item_branches code point item ≡ onward point ∷ []
  pub keeps : (aborts : Bool) → item_change (Some item) aborts ≡ Keeps
  pub assigns : assigns_of item ≡ map Variable (listed (dest_of item))

act-goes_on : (o : Op) (dest : Option ℕ) (ty : Option Ty) (args funcs labels : List ℕ) (locations : Locals) (v : Value) → action_outcome o dest ty args locations ≡ Yields v → GoesOn (Act dest ty o args funcs labels)
act-goes_on op.Jmp dest ty args funcs labels locations v e = absurd (cc)
act-goes_on op.Br dest ty args funcs labels locations v e = absurd (cc)
act-goes_on op.Ret dest ty args funcs labels locations v e = absurd (cc)
act-goes_on op.Guard dest ty args funcs labels locations v e = absurd (cc)
act-goes_on op.Set dest ty args funcs labels locations v e = absurd (cc)
act-goes_on op.Speculate dest ty args funcs labels locations v e = absurd (cc)
act-goes_on op.Commit dest ty args funcs labels locations v e = absurd (cc)
act-goes_on _ dest ty args funcs labels locations v e = record { branches = λ code point. refl; keeps = λ b. refl; assigns = refl }

pub giver-goes_on : (item : Instr) (locations : Locals) (v : Value) → outcome_of item locations ≡ Yields v → GoesOn item
giver-goes_on (Label l) locations v e = absurd (cc)
giver-goes_on (Const dest ty value) locations v e = record { branches = λ code point. refl; keeps = λ b. refl; assigns = refl }
giver-goes_on (Act dest ty o args funcs labels) locations v e = act-goes_on o dest ty args funcs labels locations v e

-- ---- outcomes

-- with n arguments the first, and the second, are equal where they are there
record AreSame (n : ℕ) (a b x y : Value) : Type 0 where
  first : 0 < n → a ≡ x
  second : 1 < n → b ≡ y

module _ (o : Op) (ty : Option Ty) (n : ℕ) (a b x y : Value) (h : AreSame n a b x y) where
  one : n ≡ 1 → computed o ty a b ≡ computed o ty x b
  one e = ap (λ v. computed o ty v b) (h.first (omega arith))

  both : n ≡ 2 → computed o ty a b ≡ computed o ty x y
  both e = ap (λ v. computed o ty v b) (h.first (omega arith)) ∙ ap (λ v. computed o ty x v) (h.second (omega arith))

module _ (returns : Bool) (ty : Option Ty) (dest : Bool) (n funcs labels : ℕ) (a b x y : Value) (h : AreSame n a b x y) where
  computed-same : (o : Op) → is_action_shaped returns o dest n funcs labels ≡ true → computed o ty a b ≡ computed o ty x y
  computed-same op.Not s = one op.Not ty n a b x y h (shape-parts (shape_of returns op.Not) dest n funcs labels s).args_are
  computed-same op.Id s = one op.Id ty n a b x y h (shape-parts (shape_of returns op.Id) dest n funcs labels s).args_are
  computed-same op.CharToInt s = one op.CharToInt ty n a b x y h (shape-parts (shape_of returns op.CharToInt) dest n funcs labels s).args_are
  computed-same op.IntToChar s = one op.IntToChar ty n a b x y h (shape-parts (shape_of returns op.IntToChar) dest n funcs labels s).args_are
  computed-same op.Add s = both op.Add ty n a b x y h (shape-parts (shape_of returns op.Add) dest n funcs labels s).args_are
  computed-same op.Sub s = both op.Sub ty n a b x y h (shape-parts (shape_of returns op.Sub) dest n funcs labels s).args_are
  computed-same op.Mul s = both op.Mul ty n a b x y h (shape-parts (shape_of returns op.Mul) dest n funcs labels s).args_are
  computed-same op.Div s = both op.Div ty n a b x y h (shape-parts (shape_of returns op.Div) dest n funcs labels s).args_are
  computed-same op.Eq s = both op.Eq ty n a b x y h (shape-parts (shape_of returns op.Eq) dest n funcs labels s).args_are
  computed-same op.Lt s = both op.Lt ty n a b x y h (shape-parts (shape_of returns op.Lt) dest n funcs labels s).args_are
  computed-same op.Gt s = both op.Gt ty n a b x y h (shape-parts (shape_of returns op.Gt) dest n funcs labels s).args_are
  computed-same op.Le s = both op.Le ty n a b x y h (shape-parts (shape_of returns op.Le) dest n funcs labels s).args_are
  computed-same op.Ge s = both op.Ge ty n a b x y h (shape-parts (shape_of returns op.Ge) dest n funcs labels s).args_are
  computed-same op.Ceq s = both op.Ceq ty n a b x y h (shape-parts (shape_of returns op.Ceq) dest n funcs labels s).args_are
  computed-same op.Clt s = both op.Clt ty n a b x y h (shape-parts (shape_of returns op.Clt) dest n funcs labels s).args_are
  computed-same op.Cgt s = both op.Cgt ty n a b x y h (shape-parts (shape_of returns op.Cgt) dest n funcs labels s).args_are
  computed-same op.Cle s = both op.Cle ty n a b x y h (shape-parts (shape_of returns op.Cle) dest n funcs labels s).args_are
  computed-same op.Cge s = both op.Cge ty n a b x y h (shape-parts (shape_of returns op.Cge) dest n funcs labels s).args_are
  computed-same op.And s = both op.And ty n a b x y h (shape-parts (shape_of returns op.And) dest n funcs labels s).args_are
  computed-same op.Or s = both op.Or ty n a b x y h (shape-parts (shape_of returns op.Or) dest n funcs labels s).args_are
  computed-same op.PtrAdd s = both op.PtrAdd ty n a b x y h (shape-parts (shape_of returns op.PtrAdd) dest n funcs labels s).args_are
  computed-same _ s = refl

-- ---- operations that always yield a value or a fault

pub either-yields : (b : Bool) (v : Value) (kind : Fault) → cond b (Yields v) (FaultsWith kind) ≡ HasEffect → ⊥
either-yields true v kind e = cc
either-yields false v kind e = cc

divided-yields : (b : Bool) (x y : ℤ) → divided b x y ≡ HasEffect → ⊥
divided-yields true x y e = cc
divided-yields false x y e = cc

char_from-yields : (z : ℤ) → char_from z ≡ HasEffect → ⊥
char_from-yields (pos n) e = either-yields (is_scalar n) _ _ e
char_from-yields (negsuc n) e = cc

moved-yields : (block : ℕ) (offset : ℤ) → moved block offset ≡ HasEffect → ⊥
moved-yields block offset e = either-yields (fits_32 offset) _ _ e

-- `div`, `int2char` and `ptradd` never act, whatever they read
pub div-never_acts : (ty : Option Ty) (a b : Value) → computed op.Div ty a b ≡ HasEffect → ⊥
div-never_acts ty a b e = divided-yields _ _ _ e

pub int2char-never_acts : (ty : Option Ty) (a b : Value) → computed op.IntToChar ty a b ≡ HasEffect → ⊥
int2char-never_acts ty a b e = char_from-yields (int_of a) e

pub ptradd-never_acts : (ty : Option Ty) (a b : Value) → computed op.PtrAdd ty a b ≡ HasEffect → ⊥
ptradd-never_acts ty a b e = moved-yields (block_of a) (offset_of a +ℤ int_of b) e

-- two frames hold the same at locations that are read
module _ (p q : Locals) where
  abbrev pub ReadAlike : Location → Location → Type 0
  ReadAlike a b = value_at p a ≡ value_at q b

  -- the values of two lists of arguments
  pub arguments-same : (args brgs : List ℕ) → AllZip ReadAlike (map Variable args) (map Variable brgs) → map (read p.vars) args ≡ map (read q.vars) brgs
  arguments-same [] [] h = refl
  arguments-same [] (y ∷ brgs) h = absurd h
  arguments-same (x ∷ args) [] h = absurd h
  arguments-same (x ∷ args) (y ∷ brgs) h = λ i. h.0 i ∷ arguments-same args brgs h.1 i

  -- and of one of them
  pub argument-same : (args brgs : List ℕ) (k : ℕ) → k < length args → AllZip ReadAlike (map Variable args) (map Variable brgs) → argument p args k ≡ argument q brgs k
  argument-same [] brgs k less h = absurd (omega arith)
  argument-same (x ∷ args) [] k less h = absurd h
  argument-same (x ∷ args) (y ∷ brgs) zero less h = h.0
  argument-same (x ∷ args) (y ∷ brgs) (suc k) less h = argument-same args brgs k (omega arith) h.1

  given-same : (d e : Option ℕ) → is_some d ≡ is_some e → AllZip ReadAlike (shadow_of d) (shadow_of e) → shadow_given p d ≡ shadow_given q e
  given-same None None s h = refl
  given-same None (Some y) s h = absurd (cc)
  given-same (Some x) None s h = absurd (cc)
  given-same (Some x) (Some y) s h = ap Yields h.0

  -- One operation with operands that read the same gives the same. How many operands there are is its shape's.
  pub action-same : (returns : Bool) (o : Op) (d e : Option ℕ) (ty : Option Ty) (args brgs : List ℕ) (funcs labels : ℕ) → is_action_shaped returns o (is_some d) (length args) funcs labels ≡ true → is_some d ≡ is_some e
      → AllZip ReadAlike (locations_read (reading_of o) d args) (locations_read (reading_of o) e brgs) → action_outcome o d ty args p ≡ action_outcome o e ty brgs q
  action-same returns op.Get d e ty args brgs funcs labels shaped there reads = given-same d e there reads
  action-same returns op.Set d e ty args brgs funcs labels shaped there reads = refl
  action-same returns o d e ty args brgs funcs labels shaped there reads =
      computed-same returns ty (is_some d) (length args) funcs labels (argument p args 0) (argument p args 1) (argument q brgs 0) (argument q brgs 1)
      (record { first = λ l. argument-same args brgs 0 l reads; second = λ l. argument-same args brgs 1 l reads }) o shaped
