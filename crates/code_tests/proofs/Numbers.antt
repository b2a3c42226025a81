-- A pass of the factor of `pad` and of a bound that is given has one of each.
use Rattle.std.proofs.Common.{◌≡◌, ℕ, Bool, List}
use Rattle.bril_profile.specs.declared.profile.Profile.{Profile}
use Rattle.bril_tree.specs.declared.program.Prog.{Prog}
use Rattle.pass_law.proofs.Equations.{equation_number}
use Rattle.pass_law.specs.Meaning.{HasNumbers}
use Rattle.pass_pad.specs.Pad.{pad_meaning}

pub bounded_numbers : (answers : List ℕ → Bool) (Makes : Prog → Profile → Prog → Type 0) (bound : ℕ) → HasNumbers (record pad_meaning { answers = answers; IsBound = λ P profile k. k ≡ bound; Makes = Makes })
bounded_numbers answers Makes bound = record { factor = equation_number (λ P profile. 2); bound = equation_number (λ P profile. bound) }
