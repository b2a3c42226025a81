use Rattle.std.proofs.Common.{sym, subst}
use Rattle.std.proofs.lemmas.Result.{on_ok_weaker}
use Rattle.trace_recorder.specs.Standing.{StandsFor}
use Rattle.trace_recorder.proofs.recorder.Recorder.see.Goals as goal

pub returns-clause-ok : goal.returns-clause-ok
returns-clause-ok c = on_ok_weaker c.see.result
    (λ h hot most run stands. h hot most run (subst (λ v. StandsFor v c.args.now.now.checked.prog hot most run) (sym c.self.view_is) stands)) c.see.ensures.seen.ok
