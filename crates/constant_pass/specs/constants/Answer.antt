-- What an item gives to the location that it assigns, by what is known of those that it reads: the answer of its row in the
-- table of operations.
use Rattle.std.specs.Prelude.{if◌then◌else◌, List, map}
use Rattle.std.specs.List.{list_any}
use Rattle.bril_tree.specs.declared.numbered.Instr.{Instr}
use Rattle.bril_tree.specs.declared.numbered.Instr.TheVariants.{Label, Const, Act}
use Rattle.bril_tree.specs.declared.operation.Op.TheVariants as op
use Rattle.bril_tree.specs.declared.value.Value.{Value}
use Rattle.bril_tree.specs.declared.value.Value.TheVariants as value
use Rattle.bril_tree.specs.Operand.{Location, Variable, Shadow, reads_of}
use Rattle.bril_tree.specs.Outcome.{Outcome, Yields, FaultsWith, HasEffect, outcome_of, argument}
use Rattle.bril_tree.specs.State.{Locals}
use Rattle.constant_pass.specs.declared.constants.known.Known.{Known}
use Rattle.constant_pass.specs.declared.constants.known.Known.TheVariants.{Nothing, One, Many}
use Rattle.constant_pass.specs.constants.Known.{is_nothing, is_many, single}

-- what is known of each location
abbrev pub Knowledge : Type 0
Knowledge = Location → Known

-- the locations with their values, where they have one alone
abbrev pub locals_of : Knowledge → Locals
locals_of known = record { vars = λ x. single (known (Variable x)); shadows = λ x. single (known (Shadow x)) }

-- an int, a bool or a char is told, a pointer never is
abbrev pub known_value : Value → Known
known_value (value.Int n) = One (value.Int n)
known_value (value.Bool b) = One (value.Bool b)
known_value (value.Char c) = One (value.Char c)
known_value (value.Ptr block offset) = Many

-- a fault, and what is more than a computation, such as a `load` or a `call`, may give anything
abbrev pub known_outcome : Outcome → Known
known_outcome (Yields v) = known_value v
known_outcome (FaultsWith kind) = Many
known_outcome HasEffect = Many

-- what an item gives to the location that it assigns: `set` its second argument, each other item its outcome
abbrev pub given : Instr → Locals → Outcome
given (Label l) locations = HasEffect
given (Const dest ty literal) locations = outcome_of (Const dest ty literal) locations
given (Act dest ty op.Set args funcs labels) locations = Yields (argument locations args 1)
given (Act dest ty operation args funcs labels) locations = outcome_of (Act dest ty operation args funcs labels) locations

-- nothing where an operand is nothing, else many where one is many, else what the item gives
abbrev pub by_operands : List Known → Known → Known
by_operands operands answer = if list_any is_nothing operands then Nothing else (if list_any is_many operands then Many else answer)

-- the answer of an item's row
abbrev pub answer : Knowledge → Instr → Known
answer known item = by_operands (map known (reads_of item)) (known_outcome (given item (locals_of known)))
