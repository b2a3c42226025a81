-- What the next step prints, and by which puts.
use Rattle.std.specs.Prelude.{ℕ, max, List, [], ◌∷◌, ◌++◌, length, map, Option, Some, None}
use Rattle.bril_tree.specs.declared.limits.End.{End}
use Rattle.bril_tree.specs.declared.numbered.Instr.{Instr}
use Rattle.bril_tree.specs.declared.numbered.Instr.TheVariants.{Label, Const, Act}
use Rattle.bril_tree.specs.declared.operation.Op.{Op}
use Rattle.bril_tree.specs.declared.operation.Op.TheVariants as op
use Rattle.bril_tree.specs.declared.program.Prog.{Prog}
use Rattle.bril_tree.specs.declared.value.Value.{Value}
use Rattle.bril_tree.specs.State.{read, Frame, State}
use Rattle.bril_tree.specs.Step.{item_at}
use Rattle.bril_tree.specs.Value.{shown}

-- ---- the values of the next print, None where the next step is no print

abbrev pub operation_print : Op → List Value → Option (List Value)
operation_print op.Print values = Some values
operation_print _ values = None

abbrev pub item_print : Option Instr → Frame → Option (List Value)
item_print None f = None
item_print (Some (Label l)) f = None
item_print (Some (Const dest ty value)) f = None
item_print (Some (Act dest ty operation args funcs labels)) f = operation_print operation (map (read f.locations.vars) args)

abbrev pub frames_print : Prog → List Frame → Option (List Value)
frames_print p [] = None
frames_print p (f ∷ older) = item_print (item_at p f.function f.point) f

abbrev pub running_print : Option End → Prog → List Frame → Option (List Value)
running_print None p frames = frames_print p frames
running_print (Some how) p frames = None

abbrev pub next_print : Prog → State → Option (List Value)
next_print p s = running_print s.ended p s.frames

-- ---- its puts

-- the pieces of a line, each by one put: the bytes of a value and the one after them; LF alone where there is no value
abbrev pub line_pieces : List Value → List (List ℕ)
line_pieces [] = (10 ∷ []) ∷ []
line_pieces (v ∷ []) = (shown v ++ 10 ∷ []) ∷ []
line_pieces (v ∷ w ∷ vs) = (shown v ++ 32 ∷ []) ∷ line_pieces (w ∷ vs)

abbrev pub pieces_of : Option (List Value) → List (List ℕ)
pieces_of None = []
pieces_of (Some values) = line_pieces values

-- how many puts there are: as many as a print has arguments, and at least one; none where the step is no print
abbrev pub puts_of : Option (List Value) → ℕ
puts_of None = 0
puts_of (Some values) = max (length values) 1
