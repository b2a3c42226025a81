-- From how numbers grow to a row.
use Rattle.std.proofs.Common.{ℕ, ◌≤◌, ⊎_elim, arith}
use Rattle.std.proofs.lemmas.Bool.{cases_lt}
use Rattle.bril_tree.specs.declared.program.Prog.{Prog}
use Rattle.bril_tree.specs.Accepted.{IsAccepted}
use Rattle.bril_tree.specs.Size.{item_count}
use Rattle.ssa_laws.proofs.lemmas.live_entries.Existing.{widths-there}
use Rattle.pass_budget_laws.specs.Numbers.{Numbers, AreWithin}
use Rattle.pass_budget_laws.proofs.Existing.{not_depthless}
use Rattle.pass_edit_laws.specs.numbers.Numbers.{Growth, NumbersGrow}
use Rattle.pass_budget_laws.proofs.Entries.{program-entries-there}

-- Of numbers of at most n the growth makes at most m.
pub record Leads (growth : Growth) (n m : Numbers) : Type 0 where
  pub locations : (x : ℕ) → x ≤ n.locations → growth.locations x ≤ m.locations
  pub arguments : (x : ℕ) → x ≤ n.longest → growth.arguments x ≤ m.longest
  pub depth : (x : ℕ) → x ≤ n.depth → growth.depth x ≤ m.depth
  pub entries : (x : ℕ) → x ≤ n.entries → growth.entries x ≤ m.entries
  pub width : (x : ℕ) → x ≤ n.width → growth.width x ≤ m.width

pub grows-within : (P Q : Prog) (growth : Growth) (n m : Numbers) → IsAccepted P → AreWithin P n → NumbersGrow P Q growth → Leads growth n m → item_count Q ≤ m.items → AreWithin Q m
grows-within P Q growth n m accepted within grow leads items = record {
  items = items;
  entries = λ e is. let d = program-entries-there P accepted in let g = grow.entries d.0 e d.1 is in let l = leads.entries d.0 (within.entries d.0 d.1) in omega (arith, g, l);
  locations = let g = grow.locations in let l = leads.locations _ within.locations in omega (arith, g, l);
  width = λ e is. let d = widths-there P accepted in let g = grow.width d.0 e d.1 is in let l = leads.width d.0 (within.width d.0 d.1) in omega (arith, g, l);
  depth = λ e is. ⊎_elim
      (λ less. absurd (not_depthless P accepted (λ d h. let g = grow.depth d e h is in let l = leads.depth d (within.depth d h) in omega (arith, g, l, less))))
      (λ l. l) (cases_lt m.depth e);
  longest = let g = grow.arguments in let l = leads.arguments _ within.longest in omega (arith, g, l);
}
