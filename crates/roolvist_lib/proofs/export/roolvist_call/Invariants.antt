-- What is read of the promises is what is said plainly.
use Rattle.roolvist_lib.proofs.Plain.{says_plainly}
use Rattle.roolvist_lib.specs.Plain.{SaysPlainly}
use Rattle.roolvist_lib.proofs.export.roolvist_call.Given as goal

abbrev pub ghosts-call_as : goal.ghosts-call_as
ghosts-call_as a = record { reading = record { Says = SaysPlainly; follows = says_plainly } }
