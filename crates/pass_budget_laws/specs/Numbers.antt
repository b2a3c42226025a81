-- The numbers of a program through which a budget is computed.
use Rattle.std.specs.Prelude.{◌≡◌, ℕ, ◌≤◌}
use Rattle.bril_tree.specs.declared.program.Prog.{Prog}
use Rattle.bril_tree.specs.Size.{item_count}
use Rattle.program_numbers.specs.Cost.{longest_arguments}
use Rattle.program_numbers.specs.ProgramNumbers.{AreEntries, IsGreatestDepth, IsGreatestWidth, most_locations}

-- Items, and pairs of a leave point and a label that an edge joins, in all functions together; and of one function the most locations,
-- labels that are entered from one leave point, sites that are open at once, and the longest list of arguments.
pub record Numbers : Type 0 where
  pub items : ℕ
  pub entries : ℕ
  pub locations : ℕ
  pub width : ℕ
  pub depth : ℕ
  pub longest : ℕ

-- These are the program's numbers.
pub record AreNumbers (p : Prog) (n : Numbers) : Type 0 where
  pub items : item_count p ≡ n.items
  pub entries : AreEntries p n.entries
  pub locations : most_locations p ≡ n.locations
  pub width : IsGreatestWidth p n.width
  pub depth : IsGreatestDepth p n.depth
  pub longest : longest_arguments p ≡ n.longest

-- The program's numbers are at most these.
pub record AreWithin (p : Prog) (n : Numbers) : Type 0 where
  pub items : item_count p ≤ n.items
  pub entries : (entries : ℕ) → AreEntries p entries → entries ≤ n.entries
  pub locations : most_locations p ≤ n.locations
  pub width : (width : ℕ) → IsGreatestWidth p width → width ≤ n.width
  pub depth : (depth : ℕ) → IsGreatestDepth p depth → depth ≤ n.depth
  pub longest : longest_arguments p ≤ n.longest
