-- That the words of an operation compute it, as a law of any image in which they stand.
use Rattle.std.specs.Prelude.{◌≡◌, ℕ, ◌^◌, ◌<◌, None}
use Rattle.bril_tree.specs.declared.limits.End.TheVariants.{Faulted}
use Rattle.bril_tree.specs.declared.limits.Fault.{Fault}
use Rattle.bril_tree.specs.declared.operators.BinaryOp.{BinaryOp}
use Rattle.bril_tree.specs.declared.operators.UnaryOp.{UnaryOp}
use Rattle.bril_tree.specs.declared.value.Value.{Value}
use Rattle.bril_tree.specs.Operators.{binary_operation, unary_operation}
use Rattle.bril_tree.specs.Outcome.{Yields, FaultsWith, computed}
use Rattle.bril_tree.specs.Value.{word_of}
use Rattle.rv64_words.specs.declared.image.Image.{Image}
use Rattle.rv64_words.specs.Region.{Sizes}
use Rattle.rv64_words_laws.specs.stretches.Core.{Core}
use Rattle.rv64_words_laws.specs.stretches.Runs.{HasAt}
use Rattle.rv64_words_laws.specs.sequences.Operations.{unary_words, unary_size, binary_words, binary_size}
use Rattle.rv64_words_laws.specs.values.Operands.{UnarySuits, BinarySuits, UnaryTakes, BinaryTakes, Gives, EndsSo}

-- The words of an operation stand at word k, its registers have the words of its operands, and the operands suit it.
pub record UnaryReady (image : Image) (k : ℕ) (c : Core) (operation : UnaryOp) (d r : ℕ) (a : Value) : Type 0 where
  pub has : HasAt image k (unary_words operation d r)
  pub takes : UnaryTakes operation d r
  pub low : k < 2 ^ 19
  pub null : c.registers 0 ≡ 0
  pub operand : c.registers r ≡ word_of a
  pub suits : UnarySuits operation a

pub record BinaryReady (image : Image) (k : ℕ) (c : Core) (operation : BinaryOp) (d r q : ℕ) (a b : Value) : Type 0 where
  pub has : HasAt image k (binary_words operation d r q)
  pub takes : BinaryTakes operation d r q
  pub low : k < 2 ^ 19
  pub null : c.registers 0 ≡ 0
  pub first : c.registers r ≡ word_of a
  pub second : c.registers q ≡ word_of b
  pub suits : BinarySuits operation a b

-- what the operation gives stands in register d then
abbrev pub UnaryWordsGive : Type 0
UnaryWordsGive = (image : Image) (z : Sizes) (k : ℕ) (c : Core) (operation : UnaryOp) (d r : ℕ) (a v : Value) → UnaryReady image k c operation d r a → computed (unary_operation operation) None a a ≡ Yields v → Gives image z k c d (unary_size operation) (word_of v)

abbrev pub BinaryWordsGive : Type 0
BinaryWordsGive = (image : Image) (z : Sizes) (k : ℕ) (c : Core) (operation : BinaryOp) (d r q : ℕ) (a b v : Value) → BinaryReady image k c operation d r q a b → computed (binary_operation operation) None a b ≡ Yields v → Gives image z k c d (binary_size operation) (word_of v)

-- and where it faults the run ends with that fault
abbrev pub UnaryWordsFault : Type 0
UnaryWordsFault = (image : Image) (z : Sizes) (k : ℕ) (c : Core) (operation : UnaryOp) (d r : ℕ) (a : Value) (kind : Fault) → UnaryReady image k c operation d r a → computed (unary_operation operation) None a a ≡ FaultsWith kind → EndsSo image z k c (unary_size operation) (Faulted kind)

abbrev pub BinaryWordsFault : Type 0
BinaryWordsFault = (image : Image) (z : Sizes) (k : ℕ) (c : Core) (operation : BinaryOp) (d r q : ℕ) (a b : Value) (kind : Fault) → BinaryReady image k c operation d r q a b → computed (binary_operation operation) None a b ≡ FaultsWith kind → EndsSo image z k c (binary_size operation) (Faulted kind)
