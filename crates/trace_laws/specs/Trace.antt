-- What the pass means.
use Rattle.std.specs.Prelude.{◌≡◌, ℕ, Some, codes, length}
use Rattle.std.specs.List.{sum_by}
use Rattle.bril_profile.specs.declared.profile.Profile.{Profile}
use Rattle.bril_tree.specs.declared.program.Prog.{Prog}
use Rattle.pass_edit_laws.specs.numbers.Numbers.{NumbersGrow}
use Rattle.pass_law.specs.Meaning.{Meaning, is_name}
use Rattle.trace_laws.specs.growth.Numbers.{trace_growth}
use Rattle.trace_laws.specs.lines.Bound.{IsTraceBound, laid_count}
use Rattle.trace_laws.specs.lines.Traced.{IsTraced, Trace, trace_at}
use Rattle.trace_laws.specs.refinement.Laws.{GivesBack, HasQuietTrace, StartsAlike}

-- What the pass makes of P by the profile: P with the traces of the entries that fit, as they are taken: by falling count, equal counts
-- in the profile's order. Between the `speculate` and the `commit` of each stands nothing that prints, stores, takes or frees a block,
-- or calls. An attempt begins with what P holds just behind the entry's label, and gives that back where a guard fails. The program's
-- numbers grow by no more than the entries allow.
pub record IsTraceOf (P : Prog) (profile : Profile) (Q : Prog) : Type 0 where
  pub traced : IsTraced P profile Q
  pub quiet : (f point : ℕ) (t : Trace) → trace_at traced.laid f point ≡ Some t → HasQuietTrace P Q f point t
  pub starts_alike : (f point : ℕ) (t : Trace) (at : trace_at traced.laid f point ≡ Some t) → StartsAlike P Q f point t (quiet f point t at)
  pub gives_back : (f point : ℕ) (t : Trace) (at : trace_at traced.laid f point ≡ Some t) → GivesBack P Q f point t (quiet f point t at)
  pub numbers : NumbersGrow P Q (trace_growth (length traced.fits) (sum_by (laid_count P) traced.fits))

-- It is named `trace`. One step becomes 520 at most. At an entry's label it becomes at most 515: the label, the `speculate`, a trace of
-- at most 512 items that fails at its last guard, and the label behind it. Elsewhere it becomes at most 65: an item, and the labels of at
-- most 64 traces that are put before it.
abbrev pub trace_meaning : Meaning
trace_meaning = record {
  answers = is_name (codes "trace");
  IsFactor = λ P profile k. k ≡ 520;
  IsBound = λ P profile k. IsTraceBound P profile k;
  Makes = λ P profile Q. IsTraceOf P profile Q;
}
