-- The stack has the one size that the program's stack has.
use Rattle.std.proofs.Common.{◌≡◌, arith}
use Rattle.rv64_image_laws.proofs.Sizes.{IsStackSize-one}
use Rattle.monitor_command.proofs.image.image_of.Goals as goal

pub returns-in-Ok-clause-stack : goal.returns-in-Ok-clause-stack
returns-in-Ok-clause-stack c =
    let within = c.in-Ok.ensures.within in
    let same : c.in-Ok.made.0.stack ≡ within.stack = IsStackSize-one c.args.checked.now.prog c.args.limits c.in-Ok.made.0.stack within.stack c.in-Ok.ensures.stack within.size in
    let few = within.few in
    omega arith
