-- An environment call with the word of a slot as its argument.
use Rattle.std.proofs.Common.{◌≡◌, ℕ, ◌+◌, ◌%◌, ◌^◌, ◌<◌, false, refl, ap, ◌∙◌, arith, List, ◌∷◌, ◌++◌, length, pos}
use Rattle.bril_tree.specs.declared.value.Value.{Value}
use Rattle.bril_tree.specs.State as bril
use Rattle.rv64_words_laws.specs.stretches.Core.{Core, Keeps, written}
use Rattle.rv64_words_laws.proofs.lemmas.stretches.Going.{Going, plain}
use Rattle.rv64_words_laws.specs.sequences.Moves.{fetch_size, fetch_words}
use Rattle.rv64_words_laws.proofs.lemmas.values.Kept.{keeps_written}
use Rattle.rv64_words.specs.declared.word.Word.{Word}
use Rattle.rv64_words.specs.Mnemonics.{addi}
use Rattle.rv64_words.specs.State.{State}
use Rattle.slot_code.specs.declared.item.Slot.TheVariants.{Variable}
use Rattle.rv64_emit_laws.proofs.Arriving.{here, home_here}
use Rattle.rv64_emit_laws.proofs.Holding.{SameHomes}
use Rattle.rv64_emit_laws.proofs.Operands.{Holds, brings}
use Rattle.rv64_emit_laws.proofs.Relation.{HasWord, RunsAlike}
use Rattle.rv64_emit_laws.proofs.Setting.{Setting, sizes}

module _ (S : Setting) (s : bril.State) (t : State) (r : RunsAlike S s t) (number x : ℕ) (v : Value) where
  -- the machine before the call of a number
  pub record Asked (n j : ℕ) (e : Core) (ws : List Word) : Type 0 where
    pub core : Core
    pub keeps : Keeps e core
    pub number_is : core.registers 17 ≡ number
    pub word : HasWord (length s.blocks) v (core.registers 10)
    pub going : Going S.image (sizes S) (here S s t r) r.core (n + fetch_size (home_here S s t r (Variable x)) + 1) (j + fetch_size (home_here S s t r (Variable x)) + 1) core ws

  pub asks : {n j : ℕ} {e : Core} {ws : List Word} → number < 2 ^ 64 → Holds S s t r (Variable x) v → SameHomes r.core e →
      Going S.image (sizes S) (here S s t r) r.core n j e (fetch_words 10 (home_here S s t r (Variable x)) ++ (addi 17 0 (pos number) ∷ ws)) → Asked n j e ws
  asks {e = e} small held same g =
      let q = brings S s t r false 10 (Variable x) v refl held same g in
      let null : q.core.registers 0 ≡ 0 = q.keeps.zero_register ∙ (same.zero_register ∙ r.holds.zero_is) in
      let least : (0 + number) % 2 ^ 64 ≡ number = omega arith in
      record {
        core = written q.core 17 ((q.core.registers 0 + number) % 2 ^ 64);
        keeps = keeps_written e q.core 16 ((q.core.registers 0 + number) % 2 ^ 64) refl refl refl refl refl q.keeps;
        number_is = ap (λ n. (n + number) % 2 ^ 64) null ∙ least;
        word = q.word;
        going = plain S.image (sizes S) tt q.going;
      }
