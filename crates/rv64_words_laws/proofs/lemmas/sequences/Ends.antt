-- The run ends: by a fault, or at the end of the program.
use Rattle.std.proofs.Common.{◌≡◌, ℕ, zero, suc, ◌+◌, ◌%◌, ◌^◌, ◌<◌, ap, ◌∙◌, arith, List, [], ◌∷◌, ◌++◌, Some, pos}
use Rattle.bril_tree.specs.declared.limits.End.{End}
use Rattle.rv64_words.specs.declared.image.Image.{Image}
use Rattle.rv64_words.specs.declared.word.Word.{Word}
use Rattle.rv64_words.specs.Mnemonics.{addi}
use Rattle.rv64_words.specs.Region.{Sizes}
use Rattle.rv64_words_laws.specs.stretches.Core.{Core}
use Rattle.rv64_words_laws.specs.stretches.Runs.{effects, Ends}
use Rattle.rv64_words_laws.proofs.lemmas.stretches.Calls.{ending, finish}
use Rattle.rv64_words_laws.proofs.lemmas.stretches.Going.{Going, plain}
use Rattle.rv64_words_laws.specs.sequences.Sequences.{fault_words}

-- registers 10 and 17 after the words of a fault
abbrev pub called_off : ℕ → Core → Core
called_off number e = effects (addi 10 0 (pos number) ∷ addi 17 0 (pos 8) ∷ []) e

module _ (image : Image) (z : Sizes) where
  -- the end is the one that call 8 makes of the number
  pub finishes : {k : ℕ} {c : Core} {n j : ℕ} {e : Core} {ws : List Word} → (number : ℕ) (how : End) → number < 2 ^ 64 → e.registers 0 ≡ 0 → ending number e ≡ Some how → Going image z k c n j e (fault_words number ++ ws) → Ends image z k c (n + 1 + 1 + 1) (j + 1 + 1 + 1) how (called_off number e)
  finishes {e = e} number how lt null how_is g =
      let eight : (e.registers 0 + 8) % 2 ^ 64 ≡ 8 = ap (λ x. (x + 8) % 2 ^ 64) null in
      let least : (0 + number) % 2 ^ 64 ≡ number = omega arith in
      let argument : (e.registers 0 + number) % 2 ^ 64 ≡ number = ap (λ x. (x + number) % 2 ^ 64) null ∙ least in
      finish image z number how eight argument (same_end number e how how_is) (plain image z tt (plain image z tt g))
    where
      same_end : (number : ℕ) (e : Core) (how : End) → ending number e ≡ Some how → ending number (called_off number e) ≡ Some how
      same_end zero e how is = is
      same_end (suc m) e how is = is
