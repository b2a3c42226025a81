-- The line was made, and put.
use Rattle.std.proofs.Common.{[], refl, inr}
use Rattle.bril_commands.proofs.commands.check.put_counts.Goals as goal

pub returns : goal.returns
returns g c =
    let put = rw (c.as_slice.ensures, c.in_ok-line.ensures, c.prog.ensures.value) at c.put_alone.ensures in
    inr ([], refl, put)
