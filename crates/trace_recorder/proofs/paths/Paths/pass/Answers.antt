use Rattle.std.proofs.Common.{◌<◌, length, sym, ◌∙◌, arith}
use Rattle.trace_recorder.proofs.Following.{always, parted_lays}
use Rattle.trace_recorder.proofs.paths.Paths.pass.Goals as goal

pub returns-in_err-reserve-clause-memory : goal.returns-in_err-reserve-clause-memory
returns-in_err-reserve-clause-memory c =
    let p = c.args.self.now in
    let turns = sym c.takes_choice.ensures ∙ c.if-takes_choice.true in
    let less : c.next_front-front.result < length c.args.self.now.held.items = (let a = c.if-front-len.true in let b = c.len.ensures in omega arith) in
    always c.from_residual.result (turns, parted_lays c.args.passing p.log.items p.items p.laid c.next_front-front.result p.held.items c.next_front-front.ensures less turns c.requires.kept)
