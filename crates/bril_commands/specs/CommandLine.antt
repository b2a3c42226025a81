-- What a command line asks for.
use Rattle.std.specs.Prelude.{◌≡◌, ℕ, List, [], Option, None, Result, Ok, Err, codes}
use Rattle.bril_words.specs.CommandLine.{Refusal, bad_functions, not_taken, bad_value, asked, words_ask}
use Rattle.bril_report.specs.Lines.{misuse_line}
use Rattle.bril_words.specs.Request.{Asked}
use Rattle.bril_words.specs.declared.misuse.Misuse.TheVariants.{Functions, Value}
use Rattle.bril_words.specs.declared.subcommands.Action.{Action}
use Rattle.bril_words.specs.declared.subcommands.Action.TheVariants as action

-- the words ask for an action, the path of its file, and the arguments of the file's program
abbrev pub AsksFor : List (List ℕ) → Action → List ℕ → List (List ℕ) → Type 0
AsksFor words action path args = (list : List ℕ) × (second : Option (List ℕ)) × (words_ask words ≡ asked action path list second args)

-- What words ask for.
pub record Asks (words : List (List ℕ)) : Type 0 where
  pub action : Action
  pub path : List ℕ
  pub args : List (List ℕ)
  pub asked : AsksFor words action path args

-- the list of passes of the demo
abbrev pub demo_list : List ℕ
demo_list = codes "trace,const,dead,tidy"

-- the list of an action, where the words give this one: the demo has its own
abbrev pub list_for : Action → List ℕ → List ℕ
list_for (action.Demo functions) list = demo_list
list_for _ list = list

-- the list of passes that is asked for, or that of the demo
abbrev pub list_asked : Result Asked Refusal → List ℕ
list_asked (Ok request) = list_for request.action request.list
list_asked (Err refusal) = []

-- the path of the second file that is asked for, that of a profile or of a script
abbrev pub second_asked : Result Asked Refusal → Option (List ℕ)
second_asked (Ok request) = request.second
second_asked (Err refusal) = None

-- the words ask for nothing
abbrev pub AskNothing : List (List ℕ) → Type 0
AskNothing words = (refusal : Refusal) × (words_ask words ≡ Err refusal)

-- what is told of words that ask for nothing: the text of `clap`, which may be any, or the line of the option whose value fails
abbrev pub IsToldOf : Refusal → List ℕ → Type 0
IsToldOf not_taken line = Unit {0}
IsToldOf (bad_value setting) line = line ≡ misuse_line (Value setting)
IsToldOf bad_functions line = line ≡ misuse_line Functions
