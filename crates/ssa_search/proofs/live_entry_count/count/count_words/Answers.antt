use Rattle.std.proofs.Common.{◌<◌, ◌^◌, None, ap, ◌∙◌, subst, arith}
use Rattle.std.specs.Prelude.{slice_index}
use Rattle.std.specs.Int.RustNames.{count_ones}
use Rattle.std.proofs.lemmas.List.{drop_all, drop_more, take_all}
use Rattle.std.proofs.lemmas.List.Elements.{All-more}
use Rattle.ssa_search.specs.declared.accesses.entries.Entry.{Entry}
use Rattle.ssa_search.specs.live_entry_count.Counted.{AreWords, ones_in}
use Rattle.ssa_search.proofs.live_entry_count.count.count_words.Goals as goal

pub loop-entry-preserved : goal.loop-entry-preserved
loop-entry-preserved c =
    let words = c.args.words.now.words in
    let entries = c.args.entries.now in
    let i = c.loop-entry.entry-index in
    let low = c.loop-entry-test.true in
    let d : Entry = record { leave = None; label = 0 } in
    let inv = c.loop-entry.invariant in
    let more = ap (ones_in words) (drop_more entries i d low) in
    let word = c.ones_of.ensures.count ∙ ap count_ones c.word.ensures in
    let sum = c.saturating_add-count.ensures in
    let before = inv.count in
    record {
      count = omega (arith, more, word, sum, before);
      words = All-more (λ (entry : Entry). slice_index words entry.label < 2 ^ 64) entries i d low inv.words (let e = c.word.ensures in let fits = c.ones_of.ensures.fits in omega (arith, e, fits));
      fits = omega (arith, sum);
    }

pub returns-clause-count : goal.returns-clause-count
returns-clause-count c =
    let words = c.args.words.now.words in
    let entries = c.args.entries.now in
    let rest = ap (ones_in words) (drop_all c.loop-entry.entry-index entries (let over = c.loop-entry-test.false in omega (arith, over))) in
    let inv = c.loop-entry.invariant.count in
    let fits = c.loop-entry.invariant.fits in
    omega (arith, rest, inv, fits)

pub returns-clause-words : goal.returns-clause-words
returns-clause-words c =
    subst (AreWords c.args.words.now.words) (take_all c.loop-entry.entry-index c.args.entries.now (let over = c.loop-entry-test.false in omega (arith, over))) c.loop-entry.invariant.words
