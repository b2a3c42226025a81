-- The literals of a program.
use Rattle.std.specs.Prelude.{All}
use Rattle.bril_tree.specs.declared.numbered.Instr.{Instr}
use Rattle.bril_tree.specs.declared.numbered.Instr.TheVariants.{Label, Const, Act}
use Rattle.bril_tree.specs.declared.program.Prog.{Prog}
use Rattle.bril_tree.specs.Value.{IsInRange, literal_value}

-- an item whose literal, if it has one, is an int of 64 bits, a bool or a scalar value
abbrev pub IsLiteralInRange : Instr → Type 0
IsLiteralInRange (Label l) = Unit {0}
IsLiteralInRange (Const dest ty value) = IsInRange (literal_value value)
IsLiteralInRange (Act dest ty operation args funcs labels) = Unit {0}

-- Each literal of a program is in its range. Rust's types say so of each program that is held in memory; a number of
-- the logic has no bounds.
abbrev pub AreLiteralsInRange : Prog → Type 0
AreLiteralsInRange p = All (λ f. All IsLiteralInRange f.code) p.funcs
