-- The path of an entry: from its label through the program, at each `br` by the next choice.
use Rattle.std.specs.Prelude.{ℕ, suc, zero, Bool, true, false, ◌==◌, List, [], ◌∷◌, Option, Some, None, slice_get, slice_index, if◌then◌else◌}
use Rattle.bril_tree.specs.declared.numbered.Instr.{Instr}
use Rattle.bril_tree.specs.declared.numbered.Instr.TheVariants.{Label, Const, Act}
use Rattle.bril_tree.specs.declared.operation.Op.{Op}
use Rattle.bril_tree.specs.declared.operation.Op.TheVariants as op
use Rattle.bril_tree.specs.Step.{point_of}

-- a laid item: a `br` with its choice, or any other
pub data Leg : Type 0 where
  Straight : (point : ℕ) → Leg
  Turn : (point : ℕ) (choice : Bool) → Leg

-- The laid items in order, and the point before which the path stopped.
pub record Path : Type 0 where
  pub legs : List Leg
  pub stop : ℕ

abbrev pub stopped : ℕ → Path
stopped i = record { legs = []; stop = i }

abbrev pub with_leg : Leg → Path → Path
with_leg leg rest = record { legs = leg ∷ rest.legs; stop = rest.stop }

-- the choices that were taken
abbrev pub turns : List Leg → List Bool
turns [] = []
turns (Straight i ∷ legs) = turns legs
turns (Turn i choice ∷ legs) = choice ∷ turns legs

-- how a path meets an item: it walks over it, to the next point or to a label, lays it, or stops before it
pub data Meeting : Type 0 where
  Over : Meeting
  To : (label : ℕ) → Meeting
  Lays : Meeting
  Turns : (on off : ℕ) → Meeting
  Stops : Meeting

abbrev pub operation_met : Op → List ℕ → Meeting
operation_met op.Nop labels = Over
operation_met op.Jmp labels = To (slice_index labels 0)
operation_met op.Br labels = Turns (slice_index labels 0) (slice_index labels 1)
operation_met op.Print labels = Stops
operation_met op.Store labels = Stops
operation_met op.Alloc labels = Stops
operation_met op.Free labels = Stops
operation_met op.Call labels = Stops
operation_met op.Ret labels = Stops
operation_met op.Speculate labels = Stops
operation_met op.Commit labels = Stops
operation_met op.Guard labels = Stops
operation_met _ labels = Lays

-- it stops at the function's end
abbrev pub item_met : Option Instr → Meeting
item_met None = Stops
item_met (Some (Label l)) = Over
item_met (Some (Const dest ty value)) = Lays
item_met (Some (Act dest ty operation args funcs labels)) = operation_met operation labels

-- the label of a choice
abbrev pub chosen : Bool → ℕ → ℕ → ℕ
chosen true on off = on
chosen false on off = off

-- the path from a point on, where `next` is the path from a later one: `room` items may still be laid
abbrev pub path_by : List Instr → (ℕ → List Bool → ℕ → Path) → Meeting → ℕ → List Bool → ℕ → Path
path_by code next Over room choices i = next room choices (suc i)
path_by code next (To l) room choices i = next room choices (point_of l code)
path_by code next Lays zero choices i = stopped i
path_by code next Lays (suc room) choices i = with_leg (Straight i) (next room choices (suc i))
path_by code next (Turns on off) zero choices i = stopped i
path_by code next (Turns on off) (suc room) [] i = stopped i
path_by code next (Turns on off) (suc room) (c ∷ choices) i = with_leg (Turn i c) (next room choices (point_of (chosen c on off) code))
path_by code next Stops room choices i = stopped i

-- `fuel` items may still be met before the path stops, and it stops before the entry's own label
abbrev pub path_from : List Instr → ℕ → ℕ → ℕ → List Bool → ℕ → Path
path_from code own zero room choices i = stopped i
path_from code own (suc fuel) room choices i = if i == own then stopped i else path_by code (path_from code own fuel) (item_met (slice_get code i)) room choices i

-- the path of an entry at a label's point: the label is the first of 1,024 items, and 256 may be laid
abbrev pub path_of : List Instr → ℕ → List Bool → Path
path_of code own choices = path_from code own 1023 256 choices (suc own)
