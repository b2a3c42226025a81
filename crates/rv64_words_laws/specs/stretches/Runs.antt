-- Words in an image, and the stretches of a run through them.
use Rattle.std.specs.Prelude.{◌≡◌, ℕ, ◌+◌, ◌*◌, ◌<◌, ◌≤◌, Bool, false, List, [], ◌∷◌, Some, slice_get}
use Rattle.std.specs.Int.{w64, cast_unsigned}
use Rattle.simulation.specs.System.{after}
use Rattle.bril_tree.specs.declared.limits.End.{End}
use Rattle.rv64_words.specs.declared.image.Image.{Image}
use Rattle.rv64_words.specs.declared.word.Word.{Word}
use Rattle.rv64_words.specs.declared.word.Word.TheVariants.{Lui, OpImm, ShiftImm, Op}
use Rattle.rv64_words.specs.Arithmetic.{extended_32, with_immediate, shifted, computed}
use Rattle.rv64_words.specs.Encoding.{IsWord, encoded}
use Rattle.rv64_words.specs.Machine.{is_guard_word, machine_step}
use Rattle.rv64_words.specs.Region.{Sizes}
use Rattle.rv64_words.specs.State.{State, finished}
use Rattle.rv64_words_laws.specs.stretches.Core.{Core, machine, written}

-- Word k of the image has the bits of w, and it is a guard's word or none.
pub record WordAt (image : Image) (guard : Bool) (k : ℕ) (w : Word) : Type 0 where
  pub bits : slice_get image.words k ≡ Some (encoded w)
  pub is_word : IsWord w
  pub is_guard : is_guard_word image.guards k ≡ guard

-- these words stand in the image from word k on, and none is a guard's
abbrev pub HasAt : Image → ℕ → List Word → Type 0
HasAt image k [] = Unit {0}
HasAt image k (w ∷ ws) = WordAt image false k w × HasAt image (k + 1) ws

-- ---- words that compute alone

abbrev pub IsComputing : Word → Type 0
IsComputing (Lui rd u) = Unit {0}
IsComputing (OpImm o rd rs1 i) = Unit {0}
IsComputing (ShiftImm o rd rs1 s) = Unit {0}
IsComputing (Op o rd rs1 rs2) = Unit {0}
IsComputing _ = ⊥

abbrev pub AreComputing : List Word → Type 0
AreComputing [] = Unit {0}
AreComputing (w ∷ ws) = IsComputing w × AreComputing ws

abbrev pub effect : Word → Core → Core
effect (Lui rd u) c = written c rd (extended_32 (u * 4096))
effect (OpImm o rd rs1 i) c = written c rd (with_immediate o (c.registers rs1) (cast_unsigned w64 i))
effect (ShiftImm o rd rs1 s) c = written c rd (shifted o (c.registers rs1) s)
effect (Op o rd rs1 rs2) c = written c rd (computed o (c.registers rs1) (c.registers rs2))
effect _ c = c

abbrev pub effects : List Word → Core → Core
effects [] c = c
effects (w ∷ ws) c = effects ws (effect w c)

-- ---- runs

-- The machine is before a word: `first` or a later one, and one before `bound`.
pub record StandsWithin (first bound : ℕ) (t : State) : Type 0 where
  pub word : ℕ
  pub at : t.pc ≡ 4 * word
  pub from : first ≤ word
  pub before : word < bound

module _ (image : Image) (z : Sizes) where
  -- where n steps from there go in between: each but the last leads to a later word, which is before `bound`
  abbrev pub Inside : ℕ → Core → ℕ → ℕ → Type 0
  Inside k c n bound = (d i : ℕ) → i < n → StandsWithin (k + i) bound (after (machine_step image z) i (machine k c d))

  -- from the running machine at word k with core c, n steps lead to word j with core e, and each leads to a later word
  pub record Runs (k : ℕ) (c : Core) (n j : ℕ) (e : Core) : Type 0 where
    pub done : ℕ → ℕ
    pub steps : (d : ℕ) → after (machine_step image z) n (machine k c d) ≡ machine j e (done d)
    pub forward : k + n ≤ j
    pub inside : Inside k c n j

  -- from there n steps lead to word j with core e, where the last one may lead anywhere; those before it stay before `bound`
  pub record Leaves (k : ℕ) (c : Core) (n bound j : ℕ) (e : Core) : Type 0 where
    pub done : ℕ → ℕ
    pub steps : (d : ℕ) → after (machine_step image z) n (machine k c d) ≡ machine j e (done d)
    pub inside : Inside k c n bound

  -- from there n steps lead to an end of the program, with core e, and those before the last stay before `bound`
  pub record Ends (k : ℕ) (c : Core) (n bound : ℕ) (how : End) (e : Core) : Type 0 where
    pub at : ℕ
    pub done : ℕ → ℕ
    pub steps : (d : ℕ) → after (machine_step image z) n (machine k c d) ≡ finished how (machine at e (done d))
    pub inside : Inside k c n bound
