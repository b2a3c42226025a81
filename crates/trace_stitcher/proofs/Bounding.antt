-- The bound of the entries that were found.
use Rattle.std.proofs.Common.{◌≡◌, ℕ, ◌+◌, ◌*◌, List, [], ◌∷◌, length, map, refl, sym, ap, ◌∙◌}
use Rattle.std.specs.List.{All, sum_by}
use Rattle.std.proofs.lemmas.List.{length-map}
use Rattle.std.proofs.lemmas.List.Elements.{All-head, All-tail}
use Rattle.std.proofs.lemmas.List.Sums.{sum_by-cons}
use Rattle.bril_profile.specs.declared.profile.Profile.{Profile}
use Rattle.bril_tree.specs.declared.program.Prog.{Prog}
use Rattle.bril_tree.specs.Size.{item_count}
use Rattle.pass_law.specs.Bounds.{capped}
use Rattle.pass_make.specs.Edited.{TellsBound}
use Rattle.trace_stitcher.specs.declared.matching.fitting.Fitting.{Fitting}
use Rattle.trace_stitcher.specs.matching.Fitting.{HasPath, added_by, fit_of}
use Rattle.trace_laws.specs.lines.Bound.{IsTraceBound, laid_count}
use Rattle.trace_paths.specs.Fits.{Fit, FitsAre, count_of}
use Rattle.trace_paths.specs.Taken.{taken}
use Rattle.trace_paths.specs.Walked.{leg_of}

added-same : (P : Prog) (found : List Fitting) → All (HasPath P) found → added_by found ≡ sum_by (λ (x : Fit). 2 * laid_count P x + 5) (map fit_of found)
added-same P [] paths = refl
added-same P (x ∷ found) paths =
    let one : length x.path.legs.items ≡ laid_count P (fit_of x) = sym (length-map x.path.legs.items leg_of) ∙ ap length (All-head (HasPath P) x found paths).legs in
    let rest = added-same P found (All-tail (HasPath P) x found paths) in
    sum_by-cons (λ (y : Fitting). 2 * length y.path.legs.items + 5) x found ∙ (λ i. (2 * one i + 5) + rest i) ∙ sym (sum_by-cons (λ (y : Fit). 2 * laid_count P y + 5) (fit_of x) (map fit_of found))

pub bound-told : (P : Prog) (profile : Profile) (found : List Fitting) (told : ℕ) → FitsAre P [] (taken count_of profile.entries) (map fit_of found) → All (HasPath P) found → told ≡ capped (item_count P + added_by found) → TellsBound (IsTraceBound P profile) told
bound-told P profile found told fits paths e = record {
  bound = item_count P + added_by found;
  is = record { fits = map fit_of found; are_fits = fits; is = ap (λ n. item_count P + n) (added-same P found paths) };
  tells = e;
}
