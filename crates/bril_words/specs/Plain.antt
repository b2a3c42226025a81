-- Words of the plain form: a command, its options and the operands that it wants, and perhaps arguments.
use Rattle.std.specs.Prelude.{◌≡◌, ◌⊎◌, ◌==◌, ℕ, Bool, true, false, not, ◌&&◌, List, [], ◌∷◌, ◌++◌, Option, Some, None, codes, bytes_eq, length, if◌then◌else◌}
use Rattle.std.specs.List.{list_any}
use Rattle.bril_tree.specs.Membership.{In}
use Rattle.bril_words.specs.declared.options.Flag.{Flag}
use Rattle.bril_words.specs.declared.options.Operand.{Operand}
use Rattle.bril_words.specs.declared.options.Setting.{Setting}
use Rattle.bril_words.specs.declared.subcommands.Subcommand.{Subcommand}
use Rattle.bril_words.specs.Options.{option_name, flag_name, operand_id}
use Rattle.bril_words.specs.Subcommands.{name_of, options_of, flags_of, operands_of, has_args}

-- ---- pieces of a command line

-- What stands after a command: an option with its value as the next word, or in the same word; a flag; or an operand.
pub data Piece : Type 0 where
  apart : Setting → List ℕ → Piece
  joined : Setting → List ℕ → Piece
  flag : Flag → Piece
  operand : List ℕ → Piece

abbrev pub dashed : List ℕ → List ℕ
dashed name = 45 ∷ 45 ∷ name

-- the words of pieces: `--x v`, `--x=v`, `--x`, `v`
abbrev pub written : List Piece → List (List ℕ)
written [] = []
written (apart x v ∷ ps) = dashed (option_name x) ∷ v ∷ written ps
written (joined x v ∷ ps) = (dashed (option_name x) ++ 61 ∷ v) ∷ written ps
written (flag x ∷ ps) = dashed (flag_name x) ∷ written ps
written (operand v ∷ ps) = v ∷ written ps

-- ---- the plain form

-- one byte or more, of which the first is no `-`
abbrev pub is_plain : List ℕ → Bool
is_plain [] = false
is_plain (byte ∷ bytes) = not (byte == 45)

-- the option or the flag is one of the command, and the value or the word is plain
abbrev pub FitsPiece : Subcommand → Piece → Type 0
FitsPiece c (apart x v) = In x (options_of c) × (is_plain v ≡ true)
FitsPiece c (joined x v) = In x (options_of c) × (is_plain v ≡ true)
FitsPiece c (flag x) = In x (flags_of c)
FitsPiece c (operand v) = is_plain v ≡ true

abbrev pub FitPieces : Subcommand → List Piece → Type 0
FitPieces c [] = Unit {0}
FitPieces c (p ∷ ps) = FitsPiece c p × FitPieces c ps

-- the names of the options and flags that stand
abbrev pub names_in : List Piece → List (List ℕ)
names_in [] = []
names_in (apart x v ∷ ps) = option_name x ∷ names_in ps
names_in (joined x v ∷ ps) = option_name x ∷ names_in ps
names_in (flag x ∷ ps) = flag_name x ∷ names_in ps
names_in (operand v ∷ ps) = names_in ps

-- the words that stand by themselves
abbrev pub operands_in : List Piece → List (List ℕ)
operands_in [] = []
operands_in (apart x v ∷ ps) = operands_in ps
operands_in (joined x v ∷ ps) = operands_in ps
operands_in (flag x ∷ ps) = operands_in ps
operands_in (operand v ∷ ps) = v ∷ operands_in ps

-- no text stands twice
abbrev pub are_distinct : List (List ℕ) → Bool
are_distinct [] = true
are_distinct (x ∷ xs) = not (list_any (bytes_eq x) xs) && are_distinct xs

-- what stands after the pieces: nothing, or `--` and the arguments
abbrev pub IsTail : Subcommand → List (List ℕ) → List (List ℕ) → Type 0
IsTail c args tail = ((args ≡ []) × (tail ≡ [])) ⊎ ((has_args c ≡ true) × (tail ≡ codes "--" ∷ args))

-- The words are of the plain form: these pieces after this command, and these arguments.
pub record IsPlainLine (words : List (List ℕ)) (c : Subcommand) (pieces : List Piece) (args : List (List ℕ)) : Type 0 where
  pub program : List ℕ
  pub tail : List (List ℕ)
  pub words_are : words ≡ program ∷ name_of c ∷ (written pieces ++ tail)
  pub fit : FitPieces c pieces
  pub once : are_distinct (names_in pieces) ≡ true
  pub operands : length (operands_in pieces) ≡ length (operands_of c)
  pub ends : IsTail c args tail

-- ---- what stands in pieces

-- What stands under a name: the value of an option, the word of an operand, or `true` for a flag. Operands have these ids in turn.
abbrev pub found_in : List Operand → List Piece → List ℕ → Option (List ℕ)
found_in os [] id = None
found_in os (apart x v ∷ ps) id = if bytes_eq (option_name x) id then Some v else found_in os ps id
found_in os (joined x v ∷ ps) id = if bytes_eq (option_name x) id then Some v else found_in os ps id
found_in os (flag x ∷ ps) id = if bytes_eq (flag_name x) id then Some (codes "true") else found_in os ps id
found_in [] (operand v ∷ ps) id = found_in [] ps id
found_in (o ∷ os) (operand v ∷ ps) id = if bytes_eq (operand_id o) id then Some v else found_in os ps id
