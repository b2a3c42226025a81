use Rattle.std.proofs.Common.{length}
use Rattle.bril_interpreter.specs.Frames.{HasLocation}
use Rattle.bril_interpreter.proofs.Held.{HasLocation-more}
use Rattle.bril_interpreter.proofs.Steps.{gives-did}
use Rattle.bril_interpreter.proofs.interp.Interp.give.Goals as goal

pub returns : goal.returns
returns c =
    let place : HasLocation c.args.dest (length c.self.inside.newest.locations.vars) = HasLocation-more c.args.dest _ _ c.self.invariant.frame.locations.vars (rw (← c.self.view_is) at c.requires.dest) in
    rw (c.advance.ensures, c.assign.ensures, ← c.self.view_is) (gives-did _ c.args.dest c.args.value place)
