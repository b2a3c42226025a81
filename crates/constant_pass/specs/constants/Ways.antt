-- The points to which an item leads by what is known.
use Rattle.std.specs.Prelude.{ℕ, suc, if◌then◌else◌, List, [], ◌∷◌, map, slice_index}
use Rattle.bril_tree.specs.declared.numbered.Instr.{Instr}
use Rattle.bril_tree.specs.declared.numbered.Instr.TheVariants.{Label, Const, Act}
use Rattle.bril_tree.specs.declared.operation.Op.{Op}
use Rattle.bril_tree.specs.declared.operation.Op.TheVariants as op
use Rattle.bril_tree.specs.Edge.{Branch, action_branches}
use Rattle.bril_tree.specs.Operand.{Variable}
use Rattle.bril_tree.specs.Outcome.{bool_of}
use Rattle.bril_tree.specs.Step.{point_of}
use Rattle.constant_pass.specs.declared.constants.known.Known.{Known}
use Rattle.constant_pass.specs.declared.constants.known.Known.TheVariants.{Nothing, One, Many}
use Rattle.constant_pass.specs.constants.Answer.{Knowledge}

-- one of two points by a condition: none where it is nothing, both where it is many
abbrev pub chosen : Known → ℕ → ℕ → List ℕ
chosen Nothing first second = []
chosen (One v) first second = (if bool_of v then first else second) ∷ []
chosen Many first second = first ∷ second ∷ []

-- an operation: `br` and `guard` by their condition, each other one to all its branches
abbrev pub operation_ways : Known → List Instr → ℕ → Op → List ℕ → List ℕ
operation_ways condition code point op.Br labels = chosen condition (point_of (slice_index labels 0) code) (point_of (slice_index labels 1) code)
operation_ways condition code point op.Guard labels = chosen condition (suc point) (point_of (slice_index labels 0) code)
operation_ways condition code point operation labels = map (λ (branch : Branch). branch.to) (action_branches code point operation labels)

-- the condition is the first argument
abbrev pub item_condition : Knowledge → Instr → Known
item_condition known (Label l) = Many
item_condition known (Const dest ty literal) = Many
item_condition known (Act dest ty operation args funcs labels) = known (Variable (slice_index args 0))

-- an item; the abort of a guard is a branch of that guard
abbrev pub item_ways : Knowledge → List Instr → ℕ → Instr → List ℕ
item_ways known code point (Label l) = suc point ∷ []
item_ways known code point (Const dest ty literal) = suc point ∷ []
item_ways known code point (Act dest ty operation args funcs labels) = operation_ways (known (Variable (slice_index args 0))) code point operation labels
