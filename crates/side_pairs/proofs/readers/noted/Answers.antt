use Rattle.std.proofs.Common.{get_or, take, sym, subst}
use Rattle.std.proofs.lemmas.List.{take_more}
use Rattle.side_pairs.specs.Readers.{AreReaders}
use Rattle.side_pairs.proofs.Reading.{readers-more}
use Rattle.side_pairs.proofs.readers.noted.Goals as goal

pub loop-read-preserved : goal.loop-read-preserved
loop-read-preserved c =
    let reads = c.args.reads.now in
    let i = c.loop-read.read-index in
    let read = get_or reads i (record { item = 0; location = 0 }) in
    subst (λ l. AreReaders l c.note.new.readers.items) (sym (take_more reads i (record { item = 0; location = 0 }) c.loop-read-test.true))
    (readers-more (take i reads) read c.loop-read.readers.items c.note.new.readers.items c.loop-read.invariant c.in_ok-note.ensures)
