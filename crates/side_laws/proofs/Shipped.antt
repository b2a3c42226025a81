-- The pass as it comes with the program: its row, and that what it makes is within it.
use Rattle.std.proofs.Common.{ℕ, ◌≤◌, length, refl, arith}
use Rattle.pass_budget_laws.proofs.Growing.{Leads, grows-within}
use Rattle.pass_budget_laws.specs.Laws.{IsWithinRow}
use Rattle.pass_budget_laws.specs.Numbers.{Numbers}
use Rattle.pass_budget_laws.specs.Shipped.{Shipped}
use Rattle.side_laws.specs.Row.{side_row}
use Rattle.side_laws.specs.Side.{side_growth, side_meaning}
use Rattle.side_laws.specs.Sided.{exits_count}
use Rattle.side_laws.proofs.lemmas.layout.Bound.{bounds-short, count-few}

leads-side : (n : Numbers) (guards traced : ℕ) → guards ≤ n.items → Leads (side_growth guards) n (side_row.after traced n)
leads-side n guards traced few = record {
  locations = λ x l. l;
  arguments = λ x l. l;
  depth = λ x l. l;
  entries = λ x l. omega (arith, l, few);
  width = λ x l. omega (arith, l, few);
}

pub side-within_row : IsWithinRow side_meaning side_row
side-within_row = record {
  factor = λ P profile n k accepted within is. omega (arith, is);
  after = λ P Q profile n accepted within link.
      let made = link.makes.sided in
      let few = count-few P accepted made.exits made.are_exits in
      let bound = bounds-short P link.bound accepted link.is_bound in
      let items = within.items in
      let size = link.within in
      grows-within P Q (side_growth (exits_count made.exits (length P.funcs))) n (side_row.after (length profile.entries) n) accepted within link.makes.numbers
      (leads-side n (exits_count made.exits (length P.funcs)) (length profile.entries) (omega (arith, few, items))) (omega (arith, bound, items, size));
}

abbrev pub side_shipped : Shipped
side_shipped = record { meaning = side_meaning; row = side_row; answers = λ name. refl; within = side-within_row }
