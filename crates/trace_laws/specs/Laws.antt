-- What the pass keeps of a program.
use Rattle.std.specs.Prelude.{◌≡◌, List, []}
use Rattle.bril_profile.specs.declared.profile.Entry.{Entry}
use Rattle.bril_profile.specs.declared.profile.Profile.{Profile}
use Rattle.bril_tree.specs.declared.program.Prog.{Prog}
use Rattle.bril_tree.specs.declared.tree.Tree.{Tree}
use Rattle.bril_tree.specs.Accepted.{IsAccepted}
use Rattle.bril_tree.specs.Size.{IsCounted, item_count}
use Rattle.pass_make.specs.Edited.{HasRoom, IsLinkedTo}
use Rattle.pass_make.specs.declared.made.Made.TheVariants as making
use Rattle.trace_laws.specs.lines.Bound.{IsTraceBound}
use Rattle.trace_laws.specs.lines.Traced.{IsTracedTree}
use Rattle.trace_paths.specs.Fits.{Fit, FitsAre}
use Rattle.trace_laws.specs.Trace.{trace_meaning}

-- A tree with traces is one of which the pass makes its program: it can be numbered, and the program is accepted, refines the given
-- one with the pass's factor, and is within its bound.
abbrev pub TracesLink : Type 0
TracesLink = (P : Prog) (profile : Profile) (tree : Tree) → IsAccepted P → IsCounted P → HasRoom (IsTraceBound P profile) (item_count P) → IsTracedTree P profile tree → IsLinkedTo trace_meaning profile P (making.Tree tree)

-- There is one list of entries that fit.
pub record IsOneList (P : Prog) (entries : List Entry) : Type 0 where
  pub fits : List Fit
  pub are : FitsAre P [] entries fits
  pub only : (xs : List Fit) → FitsAre P [] entries xs → xs ≡ fits

abbrev pub FitsAreOneList : Type 0
FitsAreOneList = (P : Prog) (entries : List Entry) → IsAccepted P → IsOneList P entries
