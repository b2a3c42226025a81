use Rattle.std.proofs.Common.{◌<◌, length, arith}
use Rattle.bril_interpreter.proofs.Steps.{shades-did}
use Rattle.bril_interpreter.proofs.interp.Interp.shade.Goals as goal

pub returns : goal.returns
returns c =
    let asked = rw (← c.self.view_is) at c.requires.shadow in
    let kept = c.self.invariant.frame.locations.shadows in
    let place : c.args.x < length c.self.inside.newest.locations.shadows = omega (arith, asked, kept) in
    rw (c.advance.ensures, c.shade.ensures, ← c.self.view_is) (shades-did _ c.args.x c.args.value place)
