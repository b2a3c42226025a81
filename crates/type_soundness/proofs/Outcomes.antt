-- What operations compute from values of their types is a value of the destination's type.
use Rattle.std.proofs.Common.{◌≡◌, ℕ, zero, suc, Bool, true, false, cond, List, Option, Some, None, ℤ, pos, negsuc, refl, subst, inl, arith, FitsSigned}
use Rattle.std.specs.Prelude.{nat_lt, ◌+ℤ◌}
use Rattle.std.specs.Char.{IsScalar}
use Rattle.std.specs.Int.{w32, w64}
use Rattle.std.proofs.lemmas.Bool.{and_parts}
use Rattle.std.proofs.lemmas.Bool.Decides.{nat_tests}
use Rattle.std.proofs.lemmas.Int.{SFits-int_wrap}
use Rattle.bril_tree.specs.declared.limits.Fault.TheVariants.{BadChar, PtrRange}
use Rattle.bril_tree.specs.declared.numbered_function.Func.{Func}
use Rattle.bril_tree.specs.declared.operation.Op.{Op}
use Rattle.bril_tree.specs.declared.operation.Op.TheVariants as op
use Rattle.bril_tree.specs.declared.program.Prog.{Prog}
use Rattle.bril_tree.specs.declared.types.Base.{Base}
use Rattle.bril_tree.specs.declared.types.Base.TheVariants as base
use Rattle.bril_tree.specs.declared.types.Ty.{Ty}
use Rattle.bril_tree.specs.declared.value.Value.{Value}
use Rattle.bril_tree.specs.declared.value.Value.TheVariants.{Int, Bool as Boolean, Char, Ptr}
use Rattle.bril_tree.specs.Outcome.{Yields, FaultsWith, computed, divided, char_from, is_scalar, fits_32, moved, undefined, char_of, block_of, offset_of, int_of, int_same}
use Rattle.bril_tree.specs.Typing.{is_action_typed, argument_type, if_typed, is_plain, is_pointer}
use Rattle.bril_tree.specs.Value.{IsInRange, zero_of, zero_at}
use Rattle.type_soundness.proofs.Typed.{Cell, HasType, IsTyped, HasType-plain, HasType-suits, HasType-both}

-- ---- ranges

char-scalar : (n : ℕ) → is_scalar n ≡ true → IsScalar n
char-scalar n e = grind (arith, nat_tests)

scalar-fits : (n : ℕ) → IsScalar n → FitsSigned w64 (pos n)
scalar-fits n e = record { sfits = grind (arith, nat_tests) }

fits-32 : (z : ℤ) → fits_32 z ≡ true → FitsSigned w32 z
fits-32 (pos n) e = record { sfits = grind (arith, nat_tests) }
fits-32 (negsuc n) e = record { sfits = grind (arith, nat_tests) }

char_of-fits : (v : Value) → IsInRange v → FitsSigned w64 (pos (char_of v))
char_of-fits (Int n) r = record { sfits = omega arith }
char_of-fits (Boolean b) r = record { sfits = omega arith }
char_of-fits (Char c) r = scalar-fits c r
char_of-fits (Ptr block offset) r = record { sfits = omega arith }

-- ---- what is given

-- the operations whose outcome is of its type only where the first argument is
abbrev pub uses_first : Op → Bool
uses_first op.Id = true
uses_first op.PtrAdd = true
uses_first op.CharToInt = true
uses_first _ = false

module _ (heap : List Cell) where
  int_given : (ty : Option Ty) (n : ℤ) (v : Value) → if_typed (is_plain base.Int) ty ≡ true → FitsSigned w64 n → Yields (Int n) ≡ Yields v → HasType heap ty v
  int_given ty n v t fits e = let same : Int n ≡ v = cc in subst (λ w. HasType heap ty w) same (HasType-plain heap base.Int ty (Int n) t fits tt)

  bool_given : (ty : Option Ty) (b : Bool) (v : Value) → if_typed (is_plain base.Bool) ty ≡ true → Yields (Boolean b) ≡ Yields v → HasType heap ty v
  bool_given ty b v t e = let same : Boolean b ≡ v = cc in subst (λ w. HasType heap ty w) same (HasType-plain heap base.Bool ty (Boolean b) t tt tt)

  char_given : (ty : Option Ty) (c : ℕ) (v : Value) → if_typed (is_plain base.Char) ty ≡ true → IsScalar c → Yields (Char c) ≡ Yields v → HasType heap ty v
  char_given ty c v t scalar e = let same : Char c ≡ v = cc in subst (λ w. HasType heap ty w) same (HasType-plain heap base.Char ty (Char c) t scalar tt)

  divided_given : (zero_divisor : Bool) (ty : Option Ty) (a b : ℤ) (v : Value) → if_typed (is_plain base.Int) ty ≡ true → divided zero_divisor a b ≡ Yields v → HasType heap ty v
  divided_given true ty a b v t e = absurd (cc)
  divided_given false ty a b v t e = int_given ty _ v t (SFits-int_wrap w64 _) e

  char_by_test : (scalar : Bool) (ty : Option Ty) (n : ℕ) (v : Value) → if_typed (is_plain base.Char) ty ≡ true → is_scalar n ≡ scalar → cond scalar (Yields (Char n)) (FaultsWith BadChar) ≡ Yields v → HasType heap ty v
  char_by_test true ty n v t s e = char_given ty n v t (char-scalar n s) e
  char_by_test false ty n v t s e = absurd (cc)

  char_from_given : (ty : Option Ty) (z : ℤ) (v : Value) → if_typed (is_plain base.Char) ty ≡ true → char_from z ≡ Yields v → HasType heap ty v
  char_from_given ty (pos n) v t e = char_by_test (is_scalar n) ty n v t refl e
  char_from_given ty (negsuc n) v t e = absurd (cc)

  zero_typed : (depth : ℕ) (b : Base) → IsTyped heap depth b (zero_at depth b)
  zero_typed zero base.Int = (record { sfits = omega arith }, tt)
  zero_typed zero base.Bool = (tt, tt)
  zero_typed zero base.Char = (refl, tt)
  zero_typed (suc depth) b = ((omega arith, record { sfits = omega arith }), inl refl)

  undefined_given : (ty : Option Ty) (v : Value) → undefined ty ≡ Yields v → HasType heap ty v
  undefined_given None v e = absurd (cc)
  undefined_given (Some ty) v e = let same : zero_of ty ≡ v = cc in subst (λ w. HasType heap (Some ty) w) same (zero_typed ty.depth ty.base)

  -- a pointer with another offset
  moved_typed : (depth : ℕ) (b : Base) (a : Value) (offset : ℤ) → nat_lt 0 depth ≡ true → FitsSigned w32 offset → IsTyped heap depth b a → IsTyped heap depth b (Ptr (block_of a) offset)
  moved_typed zero b a offset p fits h = absurd (cc)
  moved_typed (suc depth) b (Int n) offset p fits h = absurd h.1
  moved_typed (suc depth) b (Boolean x) offset p fits h = absurd h.1
  moved_typed (suc depth) b (Char c) offset p fits h = absurd h.1
  moved_typed (suc depth) b (Ptr block o) offset p fits h = ((h.0.0, fits), h.1)

  moved_by_test : (fits : Bool) (t : Ty) (a : Value) (offset : ℤ) (v : Value) → is_pointer t ≡ true → fits_32 offset ≡ fits → HasType heap (Some t) a → cond fits (Yields (Ptr (block_of a) offset)) (FaultsWith PtrRange) ≡ Yields v → HasType heap (Some t) v
  moved_by_test true t a offset v p fits h e =
      let same : Ptr (block_of a) offset ≡ v = cc in
      subst (λ w. HasType heap (Some t) w) same (moved_typed t.depth t.base a offset p (fits-32 offset fits) h)
  moved_by_test false t a offset v p fits h e = absurd (cc)

  moved_given : (t : Option Ty) (a : Value) (offset : ℤ) (v : Value) → if_typed is_pointer t ≡ true → HasType heap t a → moved (block_of a) offset ≡ Yields v → HasType heap t v
  moved_given None a offset v p h e = absurd (cc)
  moved_given (Some t) a offset v p h e = moved_by_test (fits_32 offset) t a offset v p refl h e

  typed_range : (is : Ty → Bool) (t : Option Ty) (v : Value) → if_typed is t ≡ true → HasType heap t v → IsInRange v
  typed_range is None v e h = absurd (cc)
  typed_range is (Some t) v e h = (HasType-suits heap t v h).0

  -- an operation that computes gives a value of its type, from a first argument of its own type
  pub computed_typed : (p : Prog) (f : Func) (o : Op) (ty : Option Ty) (args funcs : List ℕ) (a b v : Value) → is_action_typed p f o ty args funcs ≡ true
      → (uses_first o ≡ true → HasType heap (argument_type f.vars args 0) a) → computed o ty a b ≡ Yields v → HasType heap ty v
  computed_typed p f op.Add ty args funcs a b v t first e = int_given ty _ v (and_parts _ _ t).1 (SFits-int_wrap w64 _) e
  computed_typed p f op.Sub ty args funcs a b v t first e = int_given ty _ v (and_parts _ _ t).1 (SFits-int_wrap w64 _) e
  computed_typed p f op.Mul ty args funcs a b v t first e = int_given ty _ v (and_parts _ _ t).1 (SFits-int_wrap w64 _) e
  computed_typed p f op.Div ty args funcs a b v t first e = divided_given (int_same (int_of b) (pos 0)) ty _ _ v (and_parts _ _ t).1 e
  computed_typed p f op.Eq ty args funcs a b v t first e = bool_given ty _ v (and_parts _ _ t).1 e
  computed_typed p f op.Lt ty args funcs a b v t first e = bool_given ty _ v (and_parts _ _ t).1 e
  computed_typed p f op.Gt ty args funcs a b v t first e = bool_given ty _ v (and_parts _ _ t).1 e
  computed_typed p f op.Le ty args funcs a b v t first e = bool_given ty _ v (and_parts _ _ t).1 e
  computed_typed p f op.Ge ty args funcs a b v t first e = bool_given ty _ v (and_parts _ _ t).1 e
  computed_typed p f op.Ceq ty args funcs a b v t first e = bool_given ty _ v (and_parts _ _ t).1 e
  computed_typed p f op.Clt ty args funcs a b v t first e = bool_given ty _ v (and_parts _ _ t).1 e
  computed_typed p f op.Cgt ty args funcs a b v t first e = bool_given ty _ v (and_parts _ _ t).1 e
  computed_typed p f op.Cle ty args funcs a b v t first e = bool_given ty _ v (and_parts _ _ t).1 e
  computed_typed p f op.Cge ty args funcs a b v t first e = bool_given ty _ v (and_parts _ _ t).1 e
  computed_typed p f op.Not ty args funcs a b v t first e = bool_given ty _ v (and_parts _ _ t).1 e
  computed_typed p f op.And ty args funcs a b v t first e = bool_given ty _ v (and_parts _ _ t).1 e
  computed_typed p f op.Or ty args funcs a b v t first e = bool_given ty _ v (and_parts _ _ t).1 e
  computed_typed p f op.Id ty args funcs a b v t first e =
      let same : a ≡ v = cc in
      subst (λ w. HasType heap ty w) same (HasType-both heap (argument_type f.vars args 0) ty a t (first refl))
  computed_typed p f op.PtrAdd ty args funcs a b v t first e =
      let parts = and_parts _ _ t in
      let pointer = (and_parts _ _ parts.0).0 in
      HasType-both heap (argument_type f.vars args 0) ty v parts.1 (moved_given (argument_type f.vars args 0) a (offset_of a +ℤ int_of b) v pointer (first refl) e)
  computed_typed p f op.CharToInt ty args funcs a b v t first e =
      let parts = and_parts _ _ t in
      int_given ty _ v parts.1 (char_of-fits a (typed_range (is_plain base.Char) (argument_type f.vars args 0) a parts.0 (first refl))) e
  computed_typed p f op.IntToChar ty args funcs a b v t first e = char_from_given ty (int_of a) v (and_parts _ _ t).1 e
  computed_typed p f op.Undef ty args funcs a b v t first e = undefined_given ty v e
  computed_typed p f _ ty args funcs a b v t first e = absurd (cc)
