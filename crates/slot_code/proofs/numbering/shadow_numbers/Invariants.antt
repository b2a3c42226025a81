use Rattle.std.proofs.Common.{◌≡◌, ◌≤◌, ◌+◌, ℕ, Bool, List, length, map}
use Rattle.std.specs.List.{range_with_len}
use Rattle.slot_code.specs.Numbering.{shadow_number}
use Rattle.slot_code.proofs.numbering.shadow_numbers.Given as goal

pub record Numbered (marks : List Bool) (x next : ℕ) (numbers : List ℕ) : Type 0 where
  pub few : next ≤ length marks + x
  pub next_is : (test : ℕ → Bool) → marks ≡ map test (range_with_len 0 (length marks)) → next ≡ shadow_number (length marks) test x
  pub so_far : (test : ℕ → Bool) → marks ≡ map test (range_with_len 0 (length marks)) → numbers ≡ map (shadow_number (length marks) test) (range_with_len 0 x)

abbrev pub invariant-loop-x : goal.invariant-loop-x
invariant-loop-x l = Numbered l.marks l.x l.next l.numbers
