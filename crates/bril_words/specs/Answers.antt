-- What answers say of words.
use Rattle.clap.specs.declared.error.kind.ErrorKind.{ErrorKind}
use Rattle.clap.specs.declared.error.kind.ErrorKind.TheVariants.{OutOfMemory}
use Rattle.std.specs.Prelude.{◌≡◌, ◌≢◌, ℕ, true, List, Result, Ok, Err}
use Rattle.bril_words.specs.CommandLine.{bad_functions, Refusal, not_taken, bad_value, given_words, is_refused, texts_ask, texts_found, words_ask}
use Rattle.bril_words.specs.Plain.{Piece, IsPlainLine, found_in}
use Rattle.bril_words.specs.Request.{Asked}
use Rattle.bril_words.specs.Seen.{request_seen}
use Rattle.bril_words.specs.Subcommands.{operands_of}
use Rattle.bril_words.specs.declared.misuse.Misuse.{Misuse}
use Rattle.bril_words.specs.declared.misuse.Misuse.TheVariants as misuse
use Rattle.bril_words.specs.declared.request.Request.{Request}
use Rattle.bril_words.specs.declared.subcommands.Subcommand.{Subcommand}

-- ---- what words ask for

-- The answer is what the words ask for; want of memory says nothing.
abbrev pub Answers : Result Asked Refusal → Result Request Misuse → Type 0
Answers asked (Ok request) = asked ≡ Ok (request_seen request)
Answers asked (Err (misuse.Words text)) = asked ≡ Err not_taken
Answers asked (Err (misuse.Value setting)) = asked ≡ Err (bad_value setting)
Answers asked (Err misuse.Functions) = asked ≡ Err bad_functions
Answers asked (Err misuse.Memory) = Unit {0}

-- Words that aren't taken are those that `clap` refuses.
abbrev pub RefusedAlone : List (List ℕ) → Type 0
RefusedAlone words = words_ask words ≡ Err not_taken → is_refused (given_words words) ≡ true

-- Words of the plain form ask for what their pieces say: `clap` takes them, with the values that stand in them.
abbrev pub PlainAsk : List (List ℕ) → Type 0
PlainAsk words = (c : Subcommand) (pieces : List Piece) (args : List (List ℕ)) → IsPlainLine words c pieces args
    → words_ask words ≡ texts_ask c args (texts_found (found_in (operands_of c) pieces))

-- ---- why `clap` gives no matches

-- it refuses these words, or memory was wanting
abbrev pub Refuses : List (List ℕ) → Misuse → Type 0
Refuses given (misuse.Words text) = is_refused given ≡ true
Refuses given (misuse.Value setting) = ⊥
Refuses given misuse.Functions = ⊥
Refuses given misuse.Memory = Unit {0}

-- the misuse of an error of this kind
abbrev pub IsMisuseOf : ErrorKind → Misuse → Type 0
IsMisuseOf kind (misuse.Words text) = kind ≢ OutOfMemory
IsMisuseOf kind (misuse.Value setting) = ⊥
IsMisuseOf kind misuse.Functions = ⊥
IsMisuseOf kind misuse.Memory = Unit {0}
