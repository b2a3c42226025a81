use Rattle.std.proofs.Common.{length, sym, ap, subst, arith}
use Rattle.ssa_search.proofs.lemmas.live_entry_count.Words.{function-counted}
use Rattle.bril_tree.specs.Sites.{AreSitesSound}
use Rattle.ssa_search.proofs.live_entry_count.count.count_live_entries.Goals as goal

pub label_entries-requires-clause-sound : goal.label_entries-requires-clause-sound
label_entries-requires-clause-sound c = subst AreSitesSound (sym c.as_slice-2.ensures) c.requires.sound

pub returns : goal.returns
returns c =
    let F = c.args.func.now in
    let told = c.in_ok-count.ensures in
    let many = c.in_ok-locations.ensures.count in
    let vars = ap length c.as_slice.ensures in
    let enough = told.enough in
    record {
      count = told.counted.count;
      is = function-counted F c.requires.shaped told.reach told.counted.count (omega (arith, enough, many, vars)) told.counted.is;
      tells = told.counted.tells;
    }
