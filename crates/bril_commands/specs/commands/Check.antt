-- `check`: how many functions and items the accepted program of its files has.
use Rattle.std.specs.Fmt.{decimal}
use Rattle.std.specs.Prelude.{ℕ, List, ◌++◌, length, codes}
use Rattle.bril_tree.specs.Size.{item_count}
use Rattle.bril_tree.specs.declared.program.Prog.{Prog}
use Rattle.bril_commands.specs.Command.{OfSource, NoArguments}
use Rattle.bril_commands.specs.Outcome.{writes_text}

-- the line of an accepted program: how many functions and items it has
abbrev pub accepted_line : Prog → List ℕ
accepted_line p = codes "ok " ++ decimal (length p.funcs) ++ codes " " ++ decimal (item_count p) ++ codes "\n"

-- The line of the accepted program is written.
abbrev pub checks : OfSource
checks = record { arguments = NoArguments; outcome = λ p values. writes_text (accepted_line p) }
