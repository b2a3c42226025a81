-- What is told of the counts of a run of the machine, in pieces, each for one put.
use Rattle.std.specs.Prelude.{ℕ, List, [], ◌∷◌, Option, Some, None, codes, slice_get}
use Rattle.std.specs.Fmt.{decimal}
use Rattle.bril_tree.specs.declared.numbered_function.Func.{Func}
use Rattle.bril_tree.specs.declared.program.Prog.{Prog}

-- how many words were executed
abbrev pub words_pieces : ℕ → List (List ℕ)
words_pieces count = codes "words " ∷ decimal count ∷ codes "\n" ∷ []

-- how often the guard at an item of the function of this name failed
abbrev pub guard_pieces : List ℕ → ℕ → ℕ → List (List ℕ)
guard_pieces name item fails =
    codes "guard @" ∷ name ∷ codes " " ∷ decimal item ∷ codes " fails " ∷ decimal fails ∷ codes "\n" ∷ []

abbrev pub name_of : Option Func → List ℕ
name_of None = []
name_of (Some f) = f.name

-- the name of a function of a program, none where there is no such function
abbrev pub function_name : Prog → ℕ → List ℕ
function_name p f = name_of (slice_get p.funcs f)
