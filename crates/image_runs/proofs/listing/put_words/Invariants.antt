-- The lines of the words so far were put.
use Rattle.std.proofs.Common.{take}
use Rattle.bril_report.specs.Puts.{PutsAll}
use Rattle.bril_commands.specs.commands.Emit.{listing}
use Rattle.image_runs.proofs.listing.put_words.Given as goal

abbrev pub invariant-loop-word : goal.invariant-loop-word
invariant-loop-word g l = PutsAll (g.O.Sink.seen l.initial.out) (listing (take l.word-index l.words)) (g.O.Sink.seen l.out)
