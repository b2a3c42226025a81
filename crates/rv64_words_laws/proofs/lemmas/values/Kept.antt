-- Stretches that keep what other code relies on.
use Rattle.std.proofs.Common.{IsTrue, true≢false, false, ◌≡◌, ◌≢◌, ℕ, zero, suc, ◌+◌, ◌%◌, ◌<◌, ◌≤◌, ◌^◌, refl, sym, ap, ◌∙◌, subst, arith, List, [], ◌++◌, length, Some, append-nil}
use Rattle.std.specs.Option.{option_map}
use Rattle.bril_tree.specs.declared.limits.End.TheVariants.{Faulted}
use Rattle.bril_tree.specs.declared.limits.Fault.{Fault}
use Rattle.rv64_words.specs.declared.image.Image.{Image}
use Rattle.rv64_words.specs.declared.word.Word.{Word}
use Rattle.rv64_words.specs.Environment.{fault_of}
use Rattle.rv64_words.specs.Region.{Sizes}
use Rattle.rv64_words_laws.specs.stretches.Core.{Core, written, Keeps, KeepsBut}
use Rattle.rv64_words.proofs.Assigned.{assigned_other}
use Rattle.rv64_words_laws.specs.stretches.Runs.{HasAt, AreComputing, effects, Runs}
use Rattle.rv64_words_laws.proofs.lemmas.stretches.Going.{Going, begin, plains}
use Rattle.rv64_words_laws.proofs.lemmas.stretches.Steps.{ends_sooner}
use Rattle.rv64_words_laws.specs.sequences.Sequences.{fault_words}
use Rattle.rv64_words_laws.proofs.lemmas.sequences.Ends.{called_off, finishes}
pub use Rattle.rv64_words_laws.proofs.lemmas.sequences.Kept.{keeps_itself, keeps_on, keeps_written, keeps_but}
use Rattle.rv64_words_laws.specs.values.Operands.{is_result_register, Gives, EndsSo}

-- the registers that operations use
pub keeps_five : (c e : Core) (v : ℕ) → Keeps c e → Keeps c (written e 5 v)
keeps_five c e v k = keeps_written c e 4 v refl refl refl refl refl k

pub keeps_six : (c e : Core) (v : ℕ) → Keeps c e → Keeps c (written e 6 v)
keeps_six c e v k = keeps_written c e 5 v refl refl refl refl refl k

pub keeps_seven : (c e : Core) (v : ℕ) → Keeps c e → Keeps c (written e 7 v)
keeps_seven c e v k = keeps_written c e 6 v refl refl refl refl refl k

-- a register for results is none of the others
pub result_apart : (d s : ℕ) → is_result_register s ≡ false → IsTrue (is_result_register d) → s ≢ d
result_apart d s none some same = absurd (true≢false (sym some ∙ (ap is_result_register (sym same) ∙ none)))

pub keeps_result : (d : ℕ) (c e : Core) (v : ℕ) → IsTrue (is_result_register d) → Keeps c e → KeepsBut d c (written e d v)
keeps_result zero c e v h k = absurd (true≢false (sym h))
keeps_result (suc d) c e v h k = record {
  zero_register = other 0 refl ∙ k.zero_register;
  link_register = other 1 refl ∙ k.link_register;
  frame_register = other 2 refl ∙ k.frame_register;
  frames_left = other 8 refl ∙ k.frames_left;
  homes = λ r home ne. assigned_other e.registers (suc d) v r ne ∙ k.homes r home;
  stack = k.stack;
  table = k.table;
  cells = k.cells;
  blocks = k.blocks;
  next_free = k.next_free;
  printed = k.printed;
  arrivals = k.arrivals;
}
  where
    other : (s : ℕ) → is_result_register s ≡ false → (written e (suc d) v).registers s ≡ e.registers s
    other s none = assigned_other e.registers (suc d) v s (result_apart (suc d) s none h)

-- and those by which a run is ended
pub keeps_called_off : (e : Core) (number : ℕ) → Keeps e (called_off number e)
keeps_called_off e number = keeps_written e (written e 10 ((e.registers 0 + number) % 2 ^ 64)) 16 _ refl refl refl refl refl (keeps_written e e 9 _ refl refl refl refl refl (keeps_itself e))

fault_named : (number : ℕ) (kind : Fault) → fault_of number ≡ Some kind → option_map Faulted (fault_of number) ≡ Some (Faulted kind)
fault_named number kind is = ap (option_map Faulted) is

module _ (image : Image) (z : Sizes) where
  -- a stretch that went over all its words
  pub gives_by : {k : ℕ} {c : Core} {n j : ℕ} {e : Core} → (d size v : ℕ) → n ≤ size → j ≡ k + size → KeepsBut d c e → e.registers d ≡ v → Going image z k c n j e [] → Gives image z k c d size v
  gives_by {k} {c} {n} {j} {e} d size v within over keeps is g = record {
    steps = n;
    within = within;
    core = e;
    keeps = keeps;
    result = is;
    runs = subst (λ i. Runs image z k c n i e) over g.runs;
  }

  -- words that only compute
  pub gives_plain : (k : ℕ) (c : Core) (ws : List Word) (d v : ℕ) → HasAt image k ws → AreComputing ws → KeepsBut d c (effects ws c) → (effects ws c).registers d ≡ v → Gives image z k c d (length ws) v
  gives_plain k c ws d v has computing keeps is =
      let there : HasAt image k (ws ++ []) = subst (HasAt image k) (sym (append-nil ws)) has in
      gives_by d (length ws) v (omega arith) refl keeps is (plains image z ws [] computing (begin image z k c (ws ++ []) there))

  -- a fault
  pub faults_by : {k : ℕ} {c : Core} {n j : ℕ} {e : Core} {ws : List Word} → (size number : ℕ) (kind : Fault) → j + 3 ≤ k + size → number < 11 → Keeps c e → c.registers 0 ≡ 0 → fault_of number ≡ Some kind → Going image z k c n j e (fault_words (suc number) ++ ws) → EndsSo image z k c size (Faulted kind)
  faults_by {k} {c} {n} {j} {e} size number kind within few keeps null is g =
      let low : suc number < 2 ^ 64 = omega arith in
      let over = g.runs.forward in
      record {
        steps = n + 1 + 1 + 1;
        within = omega arith;
        core = called_off (suc number) e;
        keeps = keeps_on c e (called_off (suc number) e) keeps (keeps_called_off e (suc number));
        ends = ends_sooner image z (k + size) (omega arith) (finishes image z (suc number) (Faulted kind) low (keeps.zero_register ∙ null) (fault_named number kind is) g);
      }
