-- There was no memory for the machine, or it was run.
use Rattle.std.proofs.Common.{refl, inl}
use Rattle.bytes_commands.proofs.run.run_with.Goals as goal

pub returns-in_default : goal.returns-in_default
returns-in_default g c = (refl, inl refl)

pub run_image-requires : goal.run_image-requires
run_image-requires g c = record { state = c.in-Ok.ensures.state; holds = c.in-Ok.ensures.image; sizes = c.in-Ok.ensures.sizes; sound = c.in-Ok.ensures.sound }
