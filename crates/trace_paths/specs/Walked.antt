-- What a walk along a path does at a point, as it is kept.
use Rattle.std.specs.Prelude.{ℕ, ◌<◌, ◌≤◌, ◌-◌, Bool, List, [], ◌∷◌, ◌++◌, length}
use Rattle.trace_paths.specs.declared.met.Meeting.{Meeting}
use Rattle.trace_paths.specs.declared.met.Meeting.TheVariants as met
use Rattle.trace_paths.specs.declared.walk.Leg.{Leg}
use Rattle.trace_paths.specs.declared.walk.Leg.TheVariants as kept
use Rattle.trace_paths.specs.declared.walk.Turn.{Turn}
use Rattle.trace_paths.specs.declared.walk.Turn.TheVariants as turn
use Rattle.trace_paths.specs.Path as path

abbrev pub leg_of : Leg → path.Leg
leg_of (kept.Straight i) = path.Straight i
leg_of (kept.Choice i c) = path.Turn i c

-- the labels are below this number
abbrev pub AreKnown : ℕ → Meeting → Type 0
AreKnown n met.Over = Unit {0}
AreKnown n (met.To l) = l < n
AreKnown n met.Lays = Unit {0}
AreKnown n (met.Turns l m) = (l < n) × (m < n)
AreKnown n met.Stops = Unit {0}

-- the choices behind the first
abbrev pub later : List Bool → List Bool
later [] = []
later (c ∷ choices) = choices

-- the path by what the walk does at a point
abbrev pub turned : (ℕ → List Bool → ℕ → path.Path) → Turn → ℕ → List Bool → ℕ → path.Path
turned next turn.Stop room choices i = path.stopped i
turned next (turn.Walk to) room choices i = next room choices to
turned next (turn.Lay to) room choices i = path.with_leg (path.Straight i) (next (room - 1) choices to)
turned next (turn.Choose to c) room choices i = path.with_leg (path.Turn i c) (next (room - 1) (later choices) to)

-- the walk stays inside
abbrev pub IsInside : ℕ → Turn → Type 0
IsInside n turn.Stop = Unit {0}
IsInside n (turn.Walk to) = to ≤ n
IsInside n (turn.Lay to) = to ≤ n
IsInside n (turn.Choose to c) = to ≤ n

-- where something is laid there is room, and where a choice is taken there is one
abbrev pub HasRoom : ℕ → List Bool → Turn → Type 0
HasRoom room choices turn.Stop = Unit {0}
HasRoom room choices (turn.Walk to) = Unit {0}
HasRoom room choices (turn.Lay to) = 0 < room
HasRoom room choices (turn.Choose to c) = (0 < room) × (0 < length choices)

-- the legs so far, before those of a path
abbrev pub behind_legs : List path.Leg → path.Path → path.Path
behind_legs legs rest = record { legs = legs ++ rest.legs; stop = rest.stop }
