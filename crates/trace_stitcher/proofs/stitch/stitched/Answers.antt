use Rattle.std.proofs.Common.{◌≤◌, [], List, length, map, sym, ap, subst, arith}
use Rattle.std.proofs.lemmas.List.{length-map}
use Rattle.bril_profile.specs.declared.profile.Entry.{Entry}
use Rattle.trace_stitcher.specs.declared.matching.fitting.Fitting.{Fitting}
use Rattle.trace_stitcher.specs.matching.Fitting.{fit_of}
use Rattle.trace_laws.specs.lines.Names.{trace_bases}
use Rattle.trace_laws.specs.lines.Traced.{AreLaid}
use Rattle.trace_laws.proofs.lemmas.lines.Entries.{fits-few}
use Rattle.trace_paths.specs.Fits.{FitsAre, count_of}
use Rattle.trace_paths.specs.Taken.{taken}
use Rattle.trace_paths.proofs.Order.{length-taken}
use Rattle.trace_stitcher.proofs.Existing.{laid-there}
use Rattle.trace_stitcher.proofs.stitch.stitched.Goals as goal

pub traced-requires-clause-few : goal.traced-requires-clause-few
traced-requires-clause-few c =
    let found = c.in_ok-fits.fits.items in
    let entries = c.as_slice.result.now in
    let few = fits-few c.args.prog.now [] (taken count_of entries) (map fit_of found) c.in_ok-fits.ensures.fits in
    let taken_all = length-taken count_of entries in
    let long = length-map found fit_of in
    let all = ap (λ (es : List Entry). length es) c.as_slice.ensures in
    let same = ap (λ (fs : List Fitting). length fs) c.as_slice-2.ensures.value in
    let most : length c.args.profile.now.entries ≤ 64 = c.args.profile.now.few in
    omega (arith, few, taken_all, long, all, same, most)

pub returns : goal.returns
returns c =
    let P = c.args.prog.now in
    let found = c.in_ok-fits.fits.items in
    let laid = laid-there trace_bases P 1 (map fit_of found) in
    record {
      fits = map fit_of found;
      laid = laid.0;
      are_fits = subst (λ (es : List Entry). FitsAre P [] (taken count_of es) (map fit_of found)) c.as_slice.ensures c.in_ok-fits.ensures.fits;
      are_laid = laid.1;
      spliced_so = c.in_ok-tree.ensures laid.0 (subst (λ (fs : List Fitting). AreLaid trace_bases P 1 (map fit_of fs) laid.0) (sym c.as_slice-2.ensures.value) laid.1);
    }
