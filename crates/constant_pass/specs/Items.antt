-- What becomes of an item, by what is known of the locations.
use Rattle.std.specs.Prelude.{ℕ, Bool, true, false, if◌then◌else◌, List, [], ◌∷◌, Option, Some, None, slice_index}
use Rattle.bril_tree.specs.declared.numbered.Instr.{Instr}
use Rattle.bril_tree.specs.declared.numbered.Instr.TheVariants.{Label, Const, Act}
use Rattle.bril_tree.specs.declared.operation.Op.TheVariants as op
use Rattle.bril_tree.specs.declared.types.Ty.{Ty}
use Rattle.bril_tree.specs.declared.value.Lit.{Lit}
use Rattle.bril_tree.specs.declared.value.Lit.TheVariants as literal
use Rattle.bril_tree.specs.declared.value.Value.TheVariants as value
use Rattle.bril_tree.specs.Numbered.{nop}
use Rattle.bril_tree.specs.Operand.{Variable}
use Rattle.bril_tree.specs.Outcome.{bool_of}
use Rattle.constant_pass.specs.declared.constants.known.Known.{Known}
use Rattle.constant_pass.specs.declared.constants.known.Known.TheVariants.{Nothing, One, Many}
use Rattle.constant_pass.specs.constants.Answer.{Knowledge, answer}

-- the literal of the one value that is known
abbrev pub literal_of : Known → Option Lit
literal_of (One (value.Int n)) = Some (literal.Int n)
literal_of (One (value.Bool b)) = Some (literal.Bool b)
literal_of (One (value.Char c)) = Some (literal.Char c)
literal_of (One (value.Ptr block offset)) = None
literal_of Nothing = None
literal_of Many = None

-- a `const` of the literal, where there are one and a destination; else the item
abbrev pub constant_or : Option Lit → Option ℕ → Option Ty → Instr → Instr
constant_or None dest ty item = item
constant_or (Some l) None ty item = item
constant_or (Some l) (Some x) None item = item
constant_or (Some l) (Some x) (Some ty) item = Const x ty l

-- the condition, where it is known
abbrev pub condition : Known → Option Bool
condition Nothing = None
condition (One v) = Some (bool_of v)
condition Many = None

abbrev pub jump_to : ℕ → Instr
jump_to label = Act None None op.Jmp [] [] (label ∷ [])

-- a `jmp` to the label that a known condition chooses
abbrev pub jump_or : Option Bool → List ℕ → Instr → Instr
jump_or None labels item = item
jump_or (Some b) labels item = jump_to (slice_index labels (if b then 0 else 1))

-- `nop` where the condition is known to hold
abbrev pub nop_or : Option Bool → Instr → Instr
nop_or None item = item
nop_or (Some true) item = nop
nop_or (Some false) item = item

-- what becomes of a reached item
abbrev pub folded_item : Knowledge → Instr → Instr
folded_item known (Label l) = Label l
folded_item known (Const dest ty l) = Const dest ty l
folded_item known (Act dest ty op.Br args funcs labels) = jump_or (condition (known (Variable (slice_index args 0)))) labels (Act dest ty op.Br args funcs labels)
folded_item known (Act dest ty op.Guard args funcs labels) = nop_or (condition (known (Variable (slice_index args 0)))) (Act dest ty op.Guard args funcs labels)
folded_item known (Act dest ty operation args funcs labels) =
    constant_or (literal_of (answer known (Act dest ty operation args funcs labels))) dest ty (Act dest ty operation args funcs labels)
