use Rattle.std.proofs.Common.{◌≡◌, ◌∙◌, ◌++◌, ◌∷◌, [], List, take, take_all, length, sym, ap, subst, arith}
use Rattle.std.specs.List.{All, AllPairs}
use Rattle.std.proofs.lemmas.Option.{same_Some, slice_get_within}
use Rattle.bril_profile.specs.declared.profile.Entry.{Entry}
use Rattle.bril_tree.proofs.Elements.{zip-long}
use Rattle.trace_paths.specs.declared.ranks.Ranked.{Ranked}
use Rattle.trace_paths.specs.Fits.{count_of}
use Rattle.trace_paths.specs.Taken.{taken}
use Rattle.trace_stitcher.specs.declared.matching.fitting.Fitting.{Fitting}
use Rattle.trace_stitcher.specs.matching.Fitting.{FitSoFar, HasPath, IsElsewhere, IsFound}
use Rattle.trace_stitcher.specs.matching.Ranking.{IsRankOf}
use Rattle.trace_stitcher.proofs.lemmas.matching.Ranking.{taken-read}
use Rattle.trace_stitcher.proofs.lemmas.matching.Seen.{all-fit, apart-grow, paths-grow, so-far-grows}
use Rattle.trace_stitcher.proofs.matching.fitting.fitting_entries.Goals as goal

pub entry_at-entry-requires : goal.entry_at-entry-requires
entry_at-entry-requires c =
    let es = c.args.entries.now in
    let at = taken-read es c.in_ok-ranks.ranks.items c.as_slice-rank-items.result.now c.loop-rank.rank-index (record { place = 0; count = 0 }) c.in_ok-ranks.ensures c.as_slice-rank-items.ensures.value c.loop-rank-test.true in
    slice_get_within es _ at.entry at.place

pub loop-rank-preserved : goal.loop-rank-preserved
loop-rank-preserved c =
    let P = c.args.prog.now in
    let es = c.args.entries.now in
    let ts = taken count_of es in
    let k = c.loop-rank.rank-index in
    let inv = c.loop-rank.invariant in
    let o = c.in_ok-fit.fit in
    let at = taken-read es c.in_ok-ranks.ranks.items c.as_slice-rank-items.result.now k (record { place = 0; count = 0 }) c.in_ok-ranks.ensures c.as_slice-rank-items.ensures.value c.loop-rank-test.true in
    let e = at.entry in
    let read : c.entry_at-entry.result.now ≡ e = same_Some _ _ (sym c.entry_at-entry.ensures ∙ at.place) in
    let is : IsFound P e c.loop-rank.found.items o =
    subst (λ (x : Entry). IsFound P x c.loop-rank.found.items o) read (subst (λ (found : List Fitting). IsFound P c.entry_at-entry.result.now found o) c.as_slice.ensures.value c.in_ok-fit.ensures.found) in
    record {
      surveys = c.in_ok-fit.ensures.surveys;
      fits = subst (λ (l : List Entry). FitSoFar P l c.push_found.new.found.items) (sym at.next) (subst (FitSoFar P (take k ts ++ e ∷ [])) (sym c.in_ok-push_found.ensures) (so-far-grows P (take k ts) c.loop-rank.found.items e o inv.fits is));
      paths = subst (All (HasPath P)) (sym c.in_ok-push_found.ensures) (paths-grow P (take k ts) c.loop-rank.found.items e o inv.paths is);
      apart = subst (AllPairs IsElsewhere) (sym c.in_ok-push_found.ensures) (apart-grow P (take k ts) c.loop-rank.found.items e o inv.apart is);
    }

pub returns-clause-fits : goal.returns-clause-fits
returns-clause-fits c =
    let P = c.args.prog.now in
    let ts = taken count_of c.args.entries.now in
    let long = zip-long (IsRankOf c.args.entries.now) c.in_ok-ranks.ranks.items ts c.in_ok-ranks.ensures in
    let same = ap (λ (rs : List Ranked). length rs) c.as_slice-rank-items.ensures.value in
    let past = c.loop-rank-test.false in
    all-fit P ts c.loop-rank.found.items (subst (λ (l : List Entry). FitSoFar P l c.loop-rank.found.items) (take_all c.loop-rank.rank-index ts (omega (arith, long, same, past))) c.loop-rank.invariant.fits)
