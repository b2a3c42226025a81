use Rattle.std.proofs.Common.{sym, subst}
use Rattle.trace_recorder.specs.Standing.{StandsFor}
use Rattle.trace_recorder.proofs.recorder.Recorder.run_counting.Goals as goal

pub returns-clause-stands : goal.returns-clause-stands
returns-clause-stands c = λ hot most run stands.
    c.run_counting.ensures.stands hot most run (subst (λ v. StandsFor v c.args.now.now.checked.prog hot most run) (sym c.self.view_is) stands)
