use Rattle.std.proofs.Common.{◌≡◌, ◌+◌, ◌≤◌, drop, take, min}
use Rattle.ssa_search.specs.live_entry_count.Counted.{AreWords, ones_in}
use Rattle.ssa_search.proofs.live_entry_count.count.count_words.Given as goal

abbrev pub invariant-loop-entry : goal.invariant-loop-entry
invariant-loop-entry l = record {
  count : min (l.count + ones_in l.words.words (drop l.entry-index l.entries)) 18446744073709551615 ≡ min (ones_in l.words.words l.entries) 18446744073709551615;
  words : AreWords l.words.words (take l.entry-index l.entries);
  fits : l.count ≤ 18446744073709551615;
}
