-- The line of the status is told last.
use Rattle.bril_explain.specs.Executed.{IsCounted}
use Rattle.std.proofs.Common.{subst, sym}
use Rattle.bril_explain.proofs.counting.count.Goals as goal

pub returns : goal.returns
returns g c = record {
  how = c.from-status.result;
  answer = c.status_number.ensures;
  between = c.counted.new.err;
  counted = subst (λ how. IsCounted g.E.Sink.seen how (g.F.Files.seen c.args.files.now) (g.F.Files.seen c.counted.new.files) c.args.root.now c.args.words.now (g.O.Sink.seen c.args.out.now) (g.O.Sink.seen c.counted.new.out) c.args.err.now c.counted.new.err) (sym c.from-status.ensures) c.counted.ensures;
  line = c.say.ensures;
}
