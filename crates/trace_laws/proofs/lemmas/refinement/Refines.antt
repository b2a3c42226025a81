-- What the pass makes refines what it was given.
use Rattle.std.proofs.Common.{◌≤◌, List, [], length, arith}
use Rattle.bril_profile.specs.declared.profile.Entry.{Entry}
use Rattle.trace_paths.specs.Fits.{count_of}
use Rattle.trace_paths.specs.Taken.{taken}
use Rattle.bril_tree.specs.declared.program.Prog.{Prog}
use Rattle.bril_tree.specs.declared.types.Ty.{Ty}
use Rattle.bril_tree.specs.Accepted.{IsAccepted}
use Rattle.bril_tree.specs.Numbered.{tree_of}
use Rattle.bril_tree.specs.Run.{Refines}
use Rattle.trace_laws.specs.lines.Lines.{bool_type}
use Rattle.trace_laws.specs.lines.Names.{Bases, trace_bases}
use Rattle.trace_laws.specs.lines.Traced.{IsLaid}
use Rattle.trace_laws.proofs.lemmas.lines.Entries.{fits-few, laid-few, layable, taken-few}
use Rattle.trace_laws.specs.refinement.Stitched.{Stitched}
use Rattle.trace_laws.specs.refinement.Laws.{TracesRefine}
use Rattle.trace_laws.proofs.lemmas.refinement.Laying.{stitched}
use Rattle.trace_laws.proofs.lemmas.refinement.Refining.{stitched-refines}

-- the points of what is made
pub laid-stitched : (bases : Bases) (P Q : Prog) (bool : Ty) (entries : List Entry) → length entries ≤ 64 → IsLaid bases P bool entries (tree_of Q) → Stitched P Q bool
laid-stitched bases P Q bool entries few l =
    stitched P Q bool l.laid (layable bases P entries l.fits l.laid l.are_fits l.are_laid)
    (let a = fits-few P [] entries l.fits l.are_fits in let b = laid-few bases P 1 l.fits l.laid l.are_laid in omega arith) l.spliced_so

laid-refines : (bases : Bases) (P Q : Prog) (bool : Ty) (entries : List Entry) → IsAccepted P → length entries ≤ 64 → IsLaid bases P bool entries (tree_of Q) → Refines P Q 520
laid-refines bases P Q bool entries accepted few l = stitched-refines P Q bool accepted (laid-stitched bases P Q bool entries few l)

pub traces-refine : TracesRefine
traces-refine P Q profile accepted made = laid-refines trace_bases P Q bool_type (taken count_of profile.entries) accepted (taken-few profile) made
