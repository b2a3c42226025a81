use Rattle.std.proofs.Common.{◌∙◌, get_or, arith}
use Rattle.std.proofs.lemmas.List.{get_or_default, take_all}
use Rattle.dead_code.proofs.Sweeping.{read-noted, reads-noted}
use Rattle.dead_code.proofs.sweep.Sweep.note_reads.Goals as goal

pub loop-read-preserved : goal.loop-read-preserved
loop-read-preserved c =
    let inv = c.loop-read.invariant in
    let reads = c.as_slice-read-items.result.now in
    let i = c.loop-read.read-index in
    let read = get_or reads i (record { item = 0; location = 0 }) in
    record {
      dead = inv.dead;
      assigns = inv.assigns;
      branch = inv.branch;
      end = inv.end;
      noted = read-noted c.args.point i reads read c.args.self.now.reads.items c.loop-read.self.reads.items c.note.new.list.items c.loop-read-test.true (get_or_default reads i (record { item = 0; location = 0 }) read c.loop-read-test.true) inv.noted c.note.ensures;
    }

pub returns-clause-noted : goal.returns-clause-noted
returns-clause-noted c =
    let reads = c.as_slice-read-items.result.now in
    let i = c.loop-read.read-index in
    reads-noted c.args.point i c.args.item.now reads c.args.self.now.reads.items c.loop-read.self.reads.items (c.as_slice-read-items.ensures.value ∙ c.in_ok-reads.ensures) (take_all i reads (omega arith)) c.loop-read.invariant.noted
