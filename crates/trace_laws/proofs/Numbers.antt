-- The numbers of the pass: there is one of each.
use Rattle.std.proofs.Common.{ℕ, [], refl}
use Rattle.bril_profile.specs.declared.profile.Profile.{Profile}
use Rattle.bril_tree.specs.declared.program.Prog.{Prog}
use Rattle.bril_tree.specs.Accepted.{IsAccepted}
use Rattle.pass_law.specs.Meaning.{HasNumbers}
use Rattle.pass_law.proofs.Equations.{equation_number}
use Rattle.trace_laws.specs.lines.Bound.{IsTraceBound, bound_with}
use Rattle.trace_laws.specs.Trace.{trace_meaning}
use Rattle.trace_laws.proofs.Existing.{fits-there}
use Rattle.trace_laws.proofs.Unique.{bound-one}
use Rattle.trace_paths.specs.Fits.{count_of}
use Rattle.trace_paths.specs.Taken.{taken}

some-bound : (P : Prog) (profile : Profile) → IsAccepted P → (k : ℕ) × IsTraceBound P profile k
some-bound P profile accepted = let f = fits-there P accepted [] (taken count_of profile.entries) in (bound_with P f.0, record { fits = f.0; are_fits = f.1; is = refl })

pub has-numbers : HasNumbers trace_meaning
has-numbers = record { factor = equation_number (λ P profile. 520); bound = record { one = bound-one; some = some-bound } }
