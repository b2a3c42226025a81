-- How many items a program has with the traces of a profile's entries.
use Rattle.std.specs.Prelude.{◌≡◌, ℕ, ◌+◌, ◌*◌, List, [], length}
use Rattle.std.specs.List.{sum_by}
use Rattle.bril_profile.specs.declared.profile.Profile.{Profile}
use Rattle.bril_tree.specs.declared.program.Prog.{Prog}
use Rattle.bril_tree.specs.Size.{item_count}
use Rattle.trace_paths.specs.Fits.{Fit, FitsAre, count_of, fit_path}
use Rattle.trace_paths.specs.Taken.{taken}

-- how many items an entry lays
abbrev pub laid_count : Prog → Fit → ℕ
laid_count P x = length (fit_path P x).legs

-- the items, and for each of these entries twice what it lays and five
abbrev pub bound_with : Prog → List Fit → ℕ
bound_with P fits = item_count P + sum_by (λ x. 2 * laid_count P x + 5) fits

-- the same for the entries of the profile that fit, as they are taken
pub record IsTraceBound (P : Prog) (profile : Profile) (bound : ℕ) : Type 0 where
  pub fits : List Fit
  pub are_fits : FitsAre P [] (taken count_of profile.entries) fits
  pub is : bound ≡ bound_with P fits
