-- The words of operands.
use Rattle.std.proofs.Common.{◌≡◌, ℕ, ◌+◌, ◌*◌, ◌^◌, ◌<◌, refl, ap, ◌∙◌, arith}
use Rattle.std.specs.Prelude.{FitsSigned}
use Rattle.std.specs.Int.{w32, w64, cast_unsigned, from_bool}
use Rattle.std.proofs.Math.Utf8.{scalar_fits}
use Rattle.bril_tree.specs.declared.value.Value.{Value}
use Rattle.bril_tree.specs.declared.value.Value.TheVariants.{Int, Bool as Boolean, Char, Ptr}
use Rattle.bril_tree.specs.Outcome.{Yields, FaultsWith, int_of, bool_of, char_of, block_of, offset_of}
use Rattle.bril_tree.specs.declared.limits.Fault.{Fault}
use Rattle.bril_tree.specs.Value.{word_of}
use Rattle.rv64_words_laws.specs.values.Operands.{IsInt, IsBool, IsChar, IsPtr}

pub int_word : (a : Value) → IsInt a → word_of a ≡ cast_unsigned w64 (int_of a)
int_word (Int n) h = refl
int_word (Boolean b) h = absurd h
int_word (Char c) h = absurd h
int_word (Ptr block offset) h = absurd h

pub int_fits : (a : Value) → IsInt a → FitsSigned w64 (int_of a)
int_fits (Int n) h = h
int_fits (Boolean b) h = absurd h
int_fits (Char c) h = absurd h
int_fits (Ptr block offset) h = absurd h

pub bool_word : (a : Value) → IsBool a → word_of a ≡ from_bool (bool_of a)
bool_word (Int n) h = absurd h
bool_word (Boolean b) h = refl
bool_word (Char c) h = absurd h
bool_word (Ptr block offset) h = absurd h

pub char_word : (a : Value) → IsChar a → word_of a ≡ char_of a
char_word (Int n) h = absurd h
char_word (Boolean b) h = absurd h
char_word (Char c) h = refl
char_word (Ptr block offset) h = absurd h

pub char_below : (a : Value) → IsChar a → char_of a < 2 ^ 63
char_below (Int n) h = absurd h
char_below (Boolean b) h = absurd h
char_below (Char c) h = let k : c < 2 ^ 32 = scalar_fits c h in omega arith
char_below (Ptr block offset) h = absurd h

pub pointer_word : (a : Value) → IsPtr a → word_of a ≡ block_of a * 2 ^ 32 + cast_unsigned w32 (offset_of a)
pointer_word (Int n) h = absurd h
pointer_word (Boolean b) h = absurd h
pointer_word (Char c) h = absurd h
pointer_word (Ptr block offset) h = refl

pub block_below : (a : Value) → IsPtr a → block_of a < 2 ^ 32
block_below (Int n) h = absurd h
block_below (Boolean b) h = absurd h
block_below (Char c) h = absurd h
block_below (Ptr block offset) h = h.0

pub offset_fits : (a : Value) → IsPtr a → FitsSigned w32 (offset_of a)
offset_fits (Int n) h = absurd h
offset_fits (Boolean b) h = absurd h
offset_fits (Char c) h = absurd h
offset_fits (Ptr block offset) h = h.1

-- ---- outcomes

pub two : {x y v w : ℕ} (f : ℕ → ℕ → ℕ) → x ≡ v → y ≡ w → f x y ≡ f v w
two {y = y} {v = v} f e g = ap (λ t. f t y) e ∙ ap (f v) g

pub yielded : (v w : Value) → Yields v ≡ Yields w → v ≡ w
yielded v w e = cc

pub faulted : (k l : Fault) → FaultsWith k ≡ FaultsWith l → k ≡ l
faulted k l e = cc

pub no_fault : (v : Value) (k : Fault) → Yields v ≡ FaultsWith k → ⊥
no_fault v k e = cc

pub no_value : (k : Fault) (v : Value) → FaultsWith k ≡ Yields v → ⊥
no_value k v e = cc
