-- The registers in which operations find their operands and leave their results.
use Rattle.std.proofs.Common.{◌≡◌, ◌≢◌, ℕ, Bool, IsTrue, true, false, ◌||◌, refl, sym, ◌∙◌, arith}
use Rattle.bril_tree.specs.declared.home.Home.{Home}
use Rattle.bril_tree.specs.declared.home.Home.TheVariants.{Reg, Frame}
use Rattle.bril_tree.specs.declared.operators.BinaryOp.{BinaryOp}
use Rattle.bril_tree.specs.declared.operators.BinaryOp.TheVariants as binary
use Rattle.bril_tree.specs.Home.{is_home_register}
use Rattle.rv64_words_laws.specs.stretches.Core.{Core, Keeps, KeepsBut}
use Rattle.rv64_words_laws.proofs.lemmas.stretches.Cores.{apart_from}
use Rattle.rv64_words_laws.specs.sequences.Moves.{IsUsable, operand_register, register_for, result_register}
use Rattle.rv64_words_laws.specs.sequences.Operations.{binary_takes_any}
use Rattle.rv64_words_laws.specs.values.Operands.{BinaryTakes, is_result_register}

or_second : (a b : Bool) → IsTrue b → IsTrue (a || b)
or_second true b h = refl
or_second false b h = h

-- a result goes to register 5, or to a home
pub takes_result : (home : Home) → IsUsable home → IsTrue (is_result_register (register_for 5 home))
takes_result (Reg r) usable = or_second _ (is_home_register r) usable
takes_result (Frame o) usable = refl

-- what goes from homes to a home suits each operation
pub binary_takes : (operation : BinaryOp) (dest first second : Home) → IsUsable dest →
    BinaryTakes operation (result_register (binary_takes_any operation) dest) (operand_register (binary_takes_any operation) 5 first) (operand_register (binary_takes_any operation) 7 second)
binary_takes binary.PtrAdd dest first second usable = (refl, (refl, refl))
binary_takes _ dest first second usable = takes_result dest usable

-- the first operand stays where it is while the second is brought
pub first_stays : (any : Bool) (first second : Home) (c e : Core) → IsUsable first → IsUsable second → Keeps c e → ((q : ℕ) → q ≢ operand_register any 7 second → q ≢ 6 → e.registers q ≡ c.registers q) →
    e.registers (operand_register any 5 first) ≡ c.registers (operand_register any 5 first)
first_stays false first second c e usable other keeps same = same 5 (λ x. absurd (omega arith)) (λ x. absurd (omega arith))
first_stays true (Reg r) second c e usable other keeps same = keeps.homes r usable
first_stays true (Frame o) (Reg s) c e usable other keeps same = same 5 (λ x. apart_from 5 s refl other (sym x)) (λ x. absurd (omega arith))
first_stays true (Frame o) (Frame p) c e usable other keeps same = same 5 (λ x. absurd (omega arith)) (λ x. absurd (omega arith))

-- what two stretches keep, of which the second changes a register
pub but_on : (d : ℕ) (c e f : Core) → Keeps c e → KeepsBut d e f → KeepsBut d c f
but_on d c e f a b = record {
  zero_register = b.zero_register ∙ a.zero_register;
  link_register = b.link_register ∙ a.link_register;
  frame_register = b.frame_register ∙ a.frame_register;
  frames_left = b.frames_left ∙ a.frames_left;
  homes = λ r home ne. b.homes r home ne ∙ a.homes r home;
  stack = b.stack ∙ a.stack;
  table = b.table ∙ a.table;
  cells = b.cells ∙ a.cells;
  blocks = b.blocks ∙ a.blocks;
  next_free = b.next_free ∙ a.next_free;
  printed = b.printed ∙ a.printed;
  arrivals = b.arrivals ∙ a.arrivals;
}
