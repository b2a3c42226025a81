-- How many words of the machine are executed for one step of a program.
use Rattle.std.specs.Prelude.{◌≡◌, ℕ, ◌+◌, ◌*◌, List, length, map, max}
use Rattle.bril_tree.specs.declared.numbered.Instr.{Instr}
use Rattle.bril_tree.specs.declared.numbered.Instr.TheVariants.{Label, Const, Act}
use Rattle.bril_tree.specs.declared.numbered_function.Func.{Func}
use Rattle.bril_tree.specs.declared.operation.Op.{Op}
use Rattle.bril_tree.specs.declared.operation.Op.TheVariants as op
use Rattle.bril_tree.specs.declared.program.Prog.{Prog}
use Rattle.program_numbers.specs.ProgramNumbers.{greatest, IsLargestFrame}

-- the length of the list of arguments of a `call` or a `print`
abbrev pub operation_passes : Op → List ℕ → ℕ
operation_passes op.Call args = length args
operation_passes op.Print args = length args
operation_passes _ args = 0

abbrev pub item_passes : Instr → ℕ
item_passes (Label l) = 0
item_passes (Const dest ty value) = 0
item_passes (Act dest ty operation args funcs labels) = operation_passes operation args

-- the longest list of arguments: that of the function itself, or of a `call` or a `print` in it
abbrev pub longest_in : Func → ℕ
longest_in f = max f.args (greatest (map item_passes f.code))

-- the longest of the program's lists of arguments, 0 where it has none
abbrev pub longest_arguments : Prog → ℕ
longest_arguments p = greatest (map longest_in p.funcs)

-- at most so many words are executed for one step of the program
pub record IsCost (p : Prog) (cost : ℕ) : Type 0 where
  pub frame : ℕ
  pub largest : IsLargestFrame p frame
  pub is : cost ≡ 128 + 8 * (frame + longest_arguments p)
