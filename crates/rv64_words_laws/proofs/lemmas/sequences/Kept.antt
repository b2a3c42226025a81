-- What the code between frames relies on is kept.
use Rattle.std.proofs.Common.{IsTrue, true≢false, cond, eqb, false, ◌≡◌, ◌≢◌, ℕ, zero, suc, refl, sym, ap, ◌∙◌, arith}
use Rattle.std.proofs.lemmas.Bool.{ne_eqb}
use Rattle.std.proofs.lemmas.Bool.Decides.{nat_tests}
use Rattle.bril_tree.specs.Home.{is_home_register}
use Rattle.rv64_words_laws.specs.stretches.Core.{Core, written, Keeps, KeepsBut}
use Rattle.rv64_words.proofs.Assigned.{assigned_other}
use Rattle.rv64_words_laws.proofs.lemmas.stretches.Cores.{apart_from}
use Rattle.rv64_words_laws.specs.sequences.Moves.{is_temporary}

pub keeps_itself : (c : Core) → Keeps c c
keeps_itself c = record { zero_register = refl; link_register = refl; frame_register = refl; frames_left = refl; homes = λ r h. refl; stack = refl; table = refl; cells = refl; blocks = refl; next_free = refl; printed = refl; arrivals = refl }

pub keeps_on : (c e f : Core) → Keeps c e → Keeps e f → Keeps c f
keeps_on c e f a b = record {
  zero_register = b.zero_register ∙ a.zero_register;
  link_register = b.link_register ∙ a.link_register;
  frame_register = b.frame_register ∙ a.frame_register;
  frames_left = b.frames_left ∙ a.frames_left;
  homes = λ r h. b.homes r h ∙ a.homes r h;
  stack = b.stack ∙ a.stack;
  table = b.table ∙ a.table;
  cells = b.cells ∙ a.cells;
  blocks = b.blocks ∙ a.blocks;
  next_free = b.next_free ∙ a.next_free;
  printed = b.printed ∙ a.printed;
  arrivals = b.arrivals ∙ a.arrivals;
}

-- a register that no other code relies on gets a value
pub keeps_written : (c e : Core) (r v : ℕ) → eqb 0 (suc r) ≡ false → eqb 1 (suc r) ≡ false → eqb 2 (suc r) ≡ false → eqb 8 (suc r) ≡ false → is_home_register (suc r) ≡ false → Keeps c e → Keeps c (written e (suc r) v)
keeps_written c e r v zero_other one_other two_other eight_other none k = record {
  zero_register = ap (λ b. cond b v (e.registers 0)) zero_other ∙ k.zero_register;
  link_register = ap (λ b. cond b v (e.registers 1)) one_other ∙ k.link_register;
  frame_register = ap (λ b. cond b v (e.registers 2)) two_other ∙ k.frame_register;
  frames_left = ap (λ b. cond b v (e.registers 8)) eight_other ∙ k.frames_left;
  homes = λ s h. assigned_other e.registers (suc r) v s (apart_from (suc r) s none h) ∙ k.homes s h;
  stack = k.stack;
  table = k.table;
  cells = k.cells;
  blocks = k.blocks;
  next_free = k.next_free;
  printed = k.printed;
  arrivals = k.arrivals;
}

-- ---- the registers for operands

-- they are none of the others
pub temporary_apart : (r s : ℕ) → is_temporary s ≡ false → IsTrue (is_temporary r) → s ≢ r
temporary_apart r s none some same = absurd (true≢false (sym some ∙ (ap is_temporary (sym same) ∙ none)))

pub temporary_is_no_home : (r : ℕ) → IsTrue (is_temporary r) → is_home_register r ≡ false
temporary_is_no_home r h = grind (arith, nat_tests)

pub keeps_temporary : (c e : Core) (r v : ℕ) → IsTrue (is_temporary r) → Keeps c e → Keeps c (written e r v)
keeps_temporary c e zero v h k = absurd (true≢false (sym h))
keeps_temporary c e (suc r) v h k = keeps_written c e r v (other 0 refl) (other 1 refl) (other 2 refl) (other 8 refl) (temporary_is_no_home (suc r) h) k
  where
    other : (s : ℕ) → is_temporary s ≡ false → eqb s (suc r) ≡ false
    other s none = ne_eqb s (suc r) (temporary_apart (suc r) s none h)

-- ---- all but one register

pub keeps_but : (d : ℕ) (c e : Core) → Keeps c e → KeepsBut d c e
keeps_but d c e k = record {
  zero_register = k.zero_register;
  link_register = k.link_register;
  frame_register = k.frame_register;
  frames_left = k.frames_left;
  homes = λ r h ne. k.homes r h;
  stack = k.stack;
  table = k.table;
  cells = k.cells;
  blocks = k.blocks;
  next_free = k.next_free;
  printed = k.printed;
  arrivals = k.arrivals;
}
