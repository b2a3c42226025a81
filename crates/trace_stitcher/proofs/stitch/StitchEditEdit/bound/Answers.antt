use Rattle.std.proofs.Common.{◌+◌, ◌∙◌, [], List, map, subst}
use Rattle.bril_profile.specs.declared.profile.Entry.{Entry}
use Rattle.bril_tree.specs.declared.program.Prog.{Prog}
use Rattle.bril_tree.proofs.Sizes.{counted-size}
use Rattle.pass_law.specs.Bounds.{capped}
use Rattle.pass_make.specs.Edited.{TellsBound}
use Rattle.trace_stitcher.specs.matching.Fitting.{added_by, fit_of}
use Rattle.trace_laws.specs.lines.Bound.{IsTraceBound}
use Rattle.trace_paths.specs.Fits.{FitsAre, count_of}
use Rattle.trace_paths.specs.Taken.{taken}
use Rattle.trace_laws.proofs.Numbers.{has-numbers}
use Rattle.trace_stitcher.proofs.Bounding.{bound-told}
use Rattle.trace_stitcher.proofs.stitch.StitchEditEdit.bound.Goals as goal

pub returns-in_err-fits-clause-numbers : goal.returns-in_err-fits-clause-numbers
returns-in_err-fits-clause-numbers c = has-numbers

pub size-requires : goal.size-requires
size-requires c = counted-size c.prog-prog.result.now c.prog-prog.ensures.counted

pub returns-clause-numbers : goal.returns-clause-numbers
returns-clause-numbers c = has-numbers

pub returns-clause-bound : goal.returns-clause-bound
returns-clause-bound c =
    let P = c.prog-prog.result.now in
    let profile = c.args.profile.now in
    let found = c.in_ok-fits.fits.items in
    subst (λ (Q : Prog). TellsBound (IsTraceBound Q profile) c.added_items.result) c.prog-prog.ensures.value
    (bound-told P profile found c.added_items.result (subst (λ (es : List Entry). FitsAre P [] (taken count_of es) (map fit_of found)) c.as_slice.ensures c.in_ok-fits.ensures.fits) c.in_ok-fits.ensures.paths
    (c.added_items.ensures ∙ (λ i. capped (c.size.ensures i + added_by (c.as_slice-2.ensures.value i)))))
