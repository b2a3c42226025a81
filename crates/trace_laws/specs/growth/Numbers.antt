-- How the numbers of a program grow by traces.
use Rattle.std.specs.Prelude.{ℕ, ◌+◌, ◌*◌, length, max, min}
use Rattle.std.specs.List.{sum_by}
use Rattle.bril_profile.specs.declared.profile.Profile.{Profile}
use Rattle.bril_tree.specs.declared.program.Prog.{Prog}
use Rattle.bril_tree.specs.Accepted.{IsAccepted}
use Rattle.pass_edit_laws.specs.numbers.Numbers.{Growth, NumbersGrow}
use Rattle.trace_laws.specs.lines.Bound.{laid_count}
use Rattle.trace_laws.specs.lines.Traced.{IsTraced}

-- By so many traces, which lay so many items together. Each laid branch may bring a variable. A trace brings three entries: of the label
-- behind it, of the label to which it jumps, and of that label from above. It opens one site, where fewer than 8 are open.
abbrev pub trace_growth : (traces laid : ℕ) → Growth
trace_growth traces laid = record { locations = λ n. n + laid; arguments = λ n. n; depth = λ n. min (n + 1) 8; entries = λ n. n + 3 * traces; width = λ n. max n 2 }

-- The numbers of what the pass makes grow by no more.
abbrev pub TraceKeepsNumbers : Type 0
TraceKeepsNumbers = (P Q : Prog) (profile : Profile) → IsAccepted P → (made : IsTraced P profile Q) → NumbersGrow P Q (trace_growth (length made.fits) (sum_by (laid_count P) made.fits))
