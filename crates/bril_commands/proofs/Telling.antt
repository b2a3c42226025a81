-- What is told, and the line of the status after it.
use Rattle.std.proofs.Common.{◌≡◌, ℕ, false, List, ◌++◌}
use Rattle.bril_report.proofs.Telling.{Told-append, Told-puts}
use Rattle.bril_report.specs.Puts.{Puts}
use Rattle.bril_report.specs.Told.{Heard, Told}

pub puts_told : {e f g : Heard} {told line : List (List ℕ)} → e.failed ≡ false → Told e told f → Told f line g → Puts e.seen (told ++ line) g.seen
puts_told sound before line = Told-puts (Told-append before line) sound
