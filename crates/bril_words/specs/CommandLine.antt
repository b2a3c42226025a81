-- The words of a command line: what they ask for.
use Rattle.std.specs.Prelude.{ℕ, ℤ, pos, negsuc, Bool, false, not, ◌&&◌, nat_le, List, [], ◌∷◌, Option, Some, None, Result, Ok, Err, if◌then◌else◌, codes, bytes_eq, unwrap_or}
use Rattle.std.specs.List.{before_first, after_first}
use Rattle.std.specs.Option.{option_map_or}
use Rattle.bril_nums.specs.Decimal.{int_of}
use Rattle.clap.specs.Faults.{fault_of}
use Rattle.clap.specs.Simple.{subcommand_of}
use Rattle.clap.specs.Walk.{Row, Text, first_of, is_empty}
use Rattle.bril_words.specs.App.{whole_app}
use Rattle.bril_words.specs.Defaults.{most_frames, most_cells, most_entries, most_functions, most_hot, most_steps, default_frames, default_cells, default_entries, default_hot, default_steps, limits_of}
use Rattle.bril_words.specs.Names.{has_few_names}
use Rattle.bril_words.specs.Options.{option_name, flag_name, operand_id}
use Rattle.bril_words.specs.Request.{Asked}
use Rattle.bril_words.specs.Subcommands.{action_of, has_args, subcommand_named}
use Rattle.bril_words.specs.declared.options.Flag.TheVariants.{Stats}
use Rattle.bril_words.specs.declared.options.Operand.TheVariants.{File, Script, Functions}
use Rattle.bril_words.specs.declared.options.Setting.{Setting}
use Rattle.bril_words.specs.declared.options.Setting.TheVariants.{Passes, Profile, Frames, Cells, Steps, Hot, Most}
use Rattle.bril_words.specs.declared.subcommands.Action.{Action}
use Rattle.bril_words.specs.declared.subcommands.Subcommand.{Subcommand}

-- ---- the cut at `--`

abbrev pub is_end : List ℕ → Bool
is_end word = bytes_eq word (codes "--")

-- the word is a command that takes arguments
abbrev pub takes_args : List ℕ → Bool
takes_args word = option_map_or has_args (subcommand_named word) false

-- the words that `clap` is given
abbrev pub given_words : List (List ℕ) → List (List ℕ)
given_words [] = []
given_words (program ∷ []) = program ∷ []
given_words (program ∷ word ∷ rest) = if takes_args word then program ∷ word ∷ before_first is_end rest else program ∷ word ∷ rest

-- the arguments of the program
abbrev pub arg_words : List (List ℕ) → List (List ℕ)
arg_words [] = []
arg_words (program ∷ []) = []
arg_words (program ∷ word ∷ rest) = if takes_args word then after_first is_end rest else []

-- ---- values

-- a number from 1 to the most
abbrev pub in_range : ℕ → Option ℤ → Option ℕ
in_range most None = None
in_range most (Some (pos n)) = if nat_le 1 n && nat_le n most then Some n else None
in_range most (Some (negsuc n)) = None

-- the value of an option, or what it is where it doesn't stand
abbrev pub value_of : ℕ → ℕ → Option (List ℕ) → Option ℕ
value_of most default None = Some default
value_of most default (Some text) = in_range most (int_of text)

-- the list of passes, empty where it doesn't stand; it has 64 names at most
abbrev pub list_of : Option (List ℕ) → Option (List ℕ)
list_of None = Some []
list_of (Some list) = if has_few_names list then Some list else None

-- the path of the second file: that of the script where there is one, else of the profile
abbrev pub second_of : (script profile : Option (List ℕ)) → Option (List ℕ)
second_of None profile = profile
second_of (Some path) profile = Some path

-- a flag stands
abbrev pub is_true : Option (List ℕ) → Bool
is_true None = false
is_true (Some text) = bytes_eq text (codes "true")

-- ---- what texts ask for

-- the texts of the options and operands, None where one doesn't stand, and whether the flag does
pub record Texts : Type 0 where
  pub file : Option (List ℕ)
  pub script : Option (List ℕ)
  pub passes : Option (List ℕ)
  pub profile : Option (List ℕ)
  pub frames : Option (List ℕ)
  pub cells : Option (List ℕ)
  pub steps : Option (List ℕ)
  pub hot : Option (List ℕ)
  pub most : Option (List ℕ)
  pub stats : Bool
  pub functions : Option (List ℕ)

-- the texts, by what is found under each name
abbrev pub texts_found : (List ℕ → Option (List ℕ)) → Texts
texts_found get = record {
  file = get (operand_id File);
  script = get (operand_id Script);
  passes = get (option_name Passes);
  profile = get (option_name Profile);
  frames = get (option_name Frames);
  cells = get (option_name Cells);
  steps = get (option_name Steps);
  hot = get (option_name Hot);
  most = get (option_name Most);
  stats = is_true (get (flag_name Stats));
  functions = get (operand_id Functions);
}

-- why words ask for nothing: they aren't taken, or the value of an option fails, or the number of functions
pub data Refusal : Type 0 where
  not_taken : Refusal
  bad_value : Setting → Refusal
  bad_functions : Refusal

-- an action on the file at a path, with this list of passes, this path of a second file and these arguments
abbrev pub asked : Action → List ℕ → List ℕ → Option (List ℕ) → List (List ℕ) → Result Asked Refusal
asked act path list second args = Ok (record { action = act; path = path; list = list; second = second; args = args })

-- what a value asks for, where there is one
abbrev pub or_bad : {X : Type 0} → Setting → Option X → (X → Result Asked Refusal) → Result Asked Refusal
or_bad setting None next = Err (bad_value setting)
or_bad setting (Some x) next = next x

abbrev pub or_bad_functions : {X : Type 0} → Option X → (X → Result Asked Refusal) → Result Asked Refusal
or_bad_functions None next = Err bad_functions
or_bad_functions (Some x) next = next x

-- What the texts ask for; the first value that fails, in this order, is the refusal.
abbrev pub texts_ask : Subcommand → List (List ℕ) → Texts → Result Asked Refusal
texts_ask c args t =
    or_bad Passes (list_of t.passes) (λ list.
    or_bad Frames (value_of most_frames default_frames t.frames) (λ frames.
    or_bad Cells (value_of most_cells default_cells t.cells) (λ cells.
    or_bad Steps (value_of most_steps default_steps t.steps) (λ steps.
    or_bad Hot (value_of most_hot default_hot t.hot) (λ hot.
    or_bad Most (value_of most_entries default_entries t.most) (λ most.
    or_bad_functions (value_of most_functions 1 t.functions) (λ functions.
    asked (action_of c (record { limits = limits_of frames cells; steps = steps; hot = hot; most = most; stats = t.stats; functions = functions }))
    (unwrap_or t.file []) list (second_of t.script t.profile) args)))))))

-- ---- what the matches of `clap` ask for

abbrev pub subcommand_asks : List (List ℕ) → List Row → Option Subcommand → Result Asked Refusal
subcommand_asks args rows None = Err not_taken
subcommand_asks args rows (Some c) = texts_ask c args (texts_found (λ id. first_of id rows))

abbrev pub matches_ask : List (List ℕ) → Option (Text × List Row) → Result Asked Refusal
matches_ask args None = Err not_taken
matches_ask args (Some m) = subcommand_asks args m.1 (subcommand_named m.0)

-- `clap` refuses the words
unfoldable pub is_refused : List (List ℕ) → Bool
is_refused given = not (is_empty (fault_of whole_app given))

-- the command and the rows of its values, by `clap`
unfoldable pub matched : List (List ℕ) → Option (Text × List Row)
matched given = subcommand_of whole_app given

-- What words ask for: `clap` refuses those that it is given, or its matches ask for it.
unfoldable pub words_ask : List (List ℕ) → Result Asked Refusal
words_ask words = if is_refused (given_words words) then Err not_taken else matches_ask (arg_words words) (matched (given_words words))
