-- The pass as it comes with the program: its row, and that what it makes is within it.
use Rattle.std.proofs.Common.{ℕ, ◌+◌, ◌*◌, ◌≤◌, refl, arith}
use Rattle.std.proofs.lemmas.Nat.{mul-le}
use Rattle.bril_tree.specs.declared.program.Prog.{Prog}
use Rattle.bril_tree.specs.Accepted.{IsAccepted}
use Rattle.pass_budget_laws.specs.Laws.{IsWithinRow}
use Rattle.pass_budget_laws.specs.Numbers.{Numbers, AreWithin}
use Rattle.pass_budget_laws.specs.Shipped.{Shipped}
use Rattle.pass_budget_laws.proofs.Entries.{program-entries-there}
use Rattle.pass_budget_laws.proofs.Growing.{Leads, grows-within}
use Rattle.program_numbers.specs.ProgramNumbers.{most_locations}
use Rattle.ssa_form_laws.specs.form.Numbers.{IsSsaBound, IsSsaFactor, ssa_growth}
use Rattle.ssa_form_laws.specs.form.Row.{ssa_items, ssa_row}
use Rattle.ssa_form_laws.specs.form.Ssa.{ssa_meaning}
use Rattle.ssa_form_laws.proofs.lemmas.form.Entries.{live-entries-few}

bound-few : (P : Prog) (n : Numbers) (bound : ℕ) → IsAccepted P → AreWithin P n → IsSsaBound P bound → bound ≤ ssa_items n
bound-few P n bound accepted within is =
    let e = program-entries-there P accepted in
    let few = live-entries-few P is.entries e.0 accepted is.are e.1 in
    let product = mul-le e.0 (most_locations P) n.entries n.locations (within.entries e.0 e.1) within.locations in
    let items = within.items in
    let b = is.is in
    omega (arith, few, product, items, b)

factor-few : (P : Prog) (n : Numbers) (k : ℕ) → AreWithin P n → IsSsaFactor P k → k ≤ 1 + 2 * n.locations * (n.width + 1)
factor-few P n k within is =
    let locations = within.locations in
    let width = within.width is.width is.is_width in
    let product = mul-le (2 * most_locations P) (is.width + 1) (2 * n.locations) (n.width + 1) (omega (arith, locations)) (omega (arith, width)) in
    let e = is.is in
    omega (arith, product, e)

leads-ssa : (n : Numbers) (bound : ℕ) → bound ≤ ssa_items n → Leads (ssa_growth bound) n (ssa_row.after 0 n)
leads-ssa n bound few = record {
  locations = λ x l. let most : 2 * (bound + x) ≤ 2 * (ssa_items n + n.locations) = twice (bound + x) (ssa_items n + n.locations) (sums bound x (ssa_items n) n.locations few l) in most;
  arguments = λ x l. l;
  depth = λ x l. l;
  entries = λ x l. l;
  width = λ x l. l;
}
  where
    twice : (a b : ℕ) → a ≤ b → 2 * a ≤ 2 * b
    twice a b l = omega arith

    sums : (a b c d : ℕ) → a ≤ c → b ≤ d → a + b ≤ c + d
    sums a b c d l m = omega arith

long : {a : ℕ} (b c : ℕ) → a ≤ b → b ≤ c → a ≤ c
long b c l m = omega arith

pub ssa-within_row : IsWithinRow ssa_meaning ssa_row
ssa-within_row = record {
  factor = λ P profile n k accepted within is. factor-few P n k within is;
  after = λ P Q profile n accepted within link.
      let few = bound-few P n link.bound accepted within link.is_bound in
      grows-within P Q (ssa_growth link.bound) n (ssa_row.after 0 n) accepted within (link.makes.numbers link.bound link.is_bound) (leads-ssa n link.bound few) (long link.bound (ssa_items n) link.within few);
}

abbrev pub ssa_shipped : Shipped
ssa_shipped = record { meaning = ssa_meaning; row = ssa_row; answers = λ name. refl; within = ssa-within_row }
