-- The pass as it comes with the program: its row, and that what it makes is within it.
use Rattle.std.proofs.Common.{ℕ, ◌+◌, ◌*◌, ◌≤◌, List, [], ◌∷◌, length, refl, arith}
use Rattle.std.specs.List.{sum_by}
use Rattle.std.proofs.lemmas.List.Sums.{sum_by-cons}
use Rattle.bril_profile.specs.declared.profile.Profile.{Profile}
use Rattle.bril_tree.specs.declared.program.Prog.{Prog}
use Rattle.bril_tree.specs.Step.{code_of}
use Rattle.pass_budget_laws.specs.Laws.{IsWithinRow}
use Rattle.pass_budget_laws.specs.Numbers.{Numbers, AreWithin}
use Rattle.pass_budget_laws.specs.Shipped.{Shipped}
use Rattle.pass_budget_laws.proofs.Growing.{Leads, grows-within}
use Rattle.trace_laws.specs.Row.{trace_row}
use Rattle.trace_laws.specs.Trace.{trace_meaning}
use Rattle.trace_laws.specs.lines.Bound.{IsTraceBound, laid_count}
use Rattle.trace_laws.proofs.lemmas.lines.Entries.{fits-few}
use Rattle.trace_laws.specs.growth.Numbers.{trace_growth}
use Rattle.trace_paths.specs.Fits.{Fit, count_of}
use Rattle.trace_paths.specs.Taken.{taken}
use Rattle.trace_paths.proofs.Order.{length-taken}
use Rattle.trace_paths.proofs.Short.{paths_are_short}

few-laid : (P : Prog) (x : Fit) → laid_count P x ≤ 256
few-laid P x = (paths_are_short (code_of P x.function) x.point x.choices).laid

laid-sum : (P : Prog) (fits : List Fit) → sum_by (laid_count P) fits ≤ 256 * length fits
laid-sum P [] = omega arith
laid-sum P (x ∷ fits) =
    let one = few-laid P x in
    let rest = laid-sum P fits in
    let s = sum_by-cons (laid_count P) x fits in
    omega (arith, one, rest, s)

bound-sum : (P : Prog) (fits : List Fit) → sum_by (λ x. 2 * laid_count P x + 5) fits ≤ 517 * length fits
bound-sum P [] = omega arith
bound-sum P (x ∷ fits) =
    let one = few-laid P x in
    let rest = bound-sum P fits in
    let s = sum_by-cons (λ x. 2 * laid_count P x + 5) x fits in
    omega (arith, one, rest, s)

leads-trace : (n : Numbers) (traces laid traced : ℕ) → traces ≤ traced → laid ≤ 256 * traced → Leads (trace_growth traces laid) n (trace_row.after traced n)
leads-trace n traces laid traced few short = record {
  locations = λ x l. omega (arith, l, short);
  arguments = λ x l. l;
  depth = λ x l. omega (arith, l);
  entries = λ x l. omega (arith, l, few);
  width = λ x l. omega (arith, l);
}

bound-few : (P : Prog) (profile : Profile) (n : Numbers) (bound : ℕ) → AreWithin P n → IsTraceBound P profile bound → bound ≤ n.items + 517 * length profile.entries
bound-few P profile n bound within is =
    let few = fits-few P [] (taken count_of profile.entries) is.fits is.are_fits in
    let long = length-taken count_of profile.entries in
    let sum = bound-sum P is.fits in
    let items = within.items in
    let e = is.is in
    omega (arith, few, long, sum, items, e)

pub trace-within_row : IsWithinRow trace_meaning trace_row
trace-within_row = record {
  factor = λ P profile n k accepted within is. omega (arith, is);
  after = λ P Q profile n accepted within link.
      let made = link.makes.traced in
      let few = fits-few P [] (taken count_of profile.entries) made.fits made.are_fits in
      let long = length-taken count_of profile.entries in
      let laid = laid-sum P made.fits in
      let bound = bound-few P profile n link.bound within link.is_bound in
      let size = link.within in
      grows-within P Q (trace_growth (length made.fits) (sum_by (laid_count P) made.fits)) n (trace_row.after (length profile.entries) n) accepted within link.makes.numbers
      (leads-trace n (length made.fits) (sum_by (laid_count P) made.fits) (length profile.entries) (omega (arith, few, long)) (omega (arith, few, long, laid))) (omega (arith, size, bound));
}

abbrev pub trace_shipped : Shipped
trace_shipped = record { meaning = trace_meaning; row = trace_row; answers = λ name. refl; within = trace-within_row }
