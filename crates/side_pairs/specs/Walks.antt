-- The walk, as the program has it.
use Rattle.std.specs.Prelude.{ℕ, Option, Some, None}
use Rattle.side_laws.specs.Paired as paired
use Rattle.side_pairs.specs.declared.walk.Passing.{Passing}
use Rattle.side_pairs.specs.declared.walk.Passing.TheVariants.{Over, To, Stands}
use Rattle.side_pairs.specs.declared.walk.Walker.{Walker}

abbrev pub walker_of : Walker → paired.Walker
walker_of w = record { left = w.left; point = w.point }

abbrev pub passing_of : Passing → paired.Passing
passing_of Over = paired.Over
passing_of (To label) = paired.To label
passing_of Stands = paired.Stands

-- where the walk comes to stand by the point to which it goes on, where it does
abbrev pub moved : (ℕ → paired.Walker) → ℕ → ℕ → Option ℕ → paired.Walker
moved next left point None = record { left = left; point = point }
moved next left point (Some to) = next to
