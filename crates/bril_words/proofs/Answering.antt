-- What `clap` answers, of the words.
use Rattle.std.proofs.Common.{◌≡◌, ◌∙◌, refl, sym, ap, ap₂, true, false, not, List, [], ◌∷◌, map, ⊎_elim}
use Rattle.clap.specs.Kinds.{HasKind, IsAmong, Kinds}
use Rattle.clap.specs.Values.{kind_of}
use Rattle.clap.specs.Walk.{Text, is_empty}
use Rattle.clap.specs.Simple.{is_simple, subcommand_of}
use Rattle.clap.specs.Faults.{fault_of}
use Rattle.clap.specs.declared.error.Error.{Error}
use Rattle.clap.specs.declared.error.kind.ErrorKind.{ErrorKind}
use Rattle.bril_words.specs.App.{whole_app}
use Rattle.std.specs.Prelude.{Box, Option, Some, None, Result, Ok, Err}
use Rattle.std.specs.Box.{box_value}
use Rattle.std.specs.Option.{option_map}
use Rattle.std.specs.Result.{result_map_both}
use Rattle.clap.specs.Walk.{Row, first_of}
use Rattle.clap.specs.Simple.{subcommand_rows, subcommand_rows_of}
use Rattle.clap.specs.Matches.{subcommand_name_of}
use Rattle.clap.specs.declared.parser.matches.ArgMatches.{ArgMatches}
use Rattle.clap.specs.declared.parser.matches.ArgMatches.TheViews.{out-ArgMatches, out-SubCommand}
use Rattle.clap.specs.declared.parser.matches.SubCommand.{SubCommand}
use Rattle.bril_words.specs.Subcommands.{subcommand_named}
use Rattle.bril_words.specs.declared.request.Request.{Request}
use Rattle.bril_words.specs.declared.subcommands.Subcommand.{Subcommand}
use Rattle.bril_words.specs.Answers.{Answers, IsMisuseOf, Refuses}
use Rattle.bril_words.specs.CommandLine.{Refusal, arg_words, given_words, is_refused, matched, matches_ask, texts_ask, texts_found, words_ask}
use Rattle.bril_words.specs.Request.{Asked}
use Rattle.bril_words.specs.Seen.{misuse_seen, request_seen}
use Rattle.bril_words.specs.declared.misuse.Misuse.{Misuse}
use Rattle.bril_words.specs.declared.misuse.Misuse.TheVariants as misuse
use Rattle.bril_words.proofs.Defaults.{filled_is}

pub map_same : (xs : List Text) → map (λ (t : Text). t) xs ≡ xs
map_same [] = refl
map_same (x ∷ xs) = ap (λ (r : List Text). x ∷ r) (map_same xs)

pub whole_is_plain : is_simple whole_app ≡ true
unfolding whole_app
whole_is_plain = refl

-- no fault: the words are taken
pub taken_by : (given : List Text) → fault_of whole_app given ≡ [] → is_refused given ≡ false
unfolding is_refused
taken_by given none = ap (λ (k : Kinds). not (is_empty k)) none

pub matched_by : (given : List Text) → subcommand_of whole_app given ≡ matched given
unfolding matched
matched_by given = refl

some_among : (k : ErrorKind) (ks : Kinds) → IsAmong k ks → is_empty ks ≡ false
some_among k [] i = absurd i
some_among k (x ∷ xs) i = filled_is x xs

-- a fault: they are refused
pub refused_by : (given : List Text) (e : Error) (m : Misuse) → HasKind (fault_of whole_app given) e → IsMisuseOf (kind_of e) m → Refuses given m
unfolding is_refused
refused_by given e (misuse.Words text) has is =
    ap not (⊎_elim (λ (h : kind_of e ≡ _). absurd (is h)) (λ (h : IsAmong (kind_of e) (fault_of whole_app given)). some_among (kind_of e) (fault_of whole_app given) h) has)
refused_by given e (misuse.Value setting) has is = is
refused_by given e misuse.Functions has is = is
refused_by given e misuse.Memory has is = tt

-- ---- requests

pub answers_from : (asked : Result Asked Refusal) (r : Result Request Misuse) → result_map_both request_seen misuse_seen r ≡ asked → Answers asked r
answers_from asked (Ok request) e = sym e
answers_from asked (Err (misuse.Words text)) e = sym e
answers_from asked (Err (misuse.Value setting)) e = sym e
answers_from asked (Err misuse.Functions) e = sym e
answers_from asked (Err misuse.Memory) e = tt

pub asks_when : (words given args : List Text) (rows : Option (Text × List Row)) → given ≡ given_words words → args ≡ arg_words words → is_refused given ≡ false
    → rows ≡ matched given → matches_ask args rows ≡ words_ask words
unfolding words_ask
asks_when words given args rows given_ args_ taken is =
    let here : is_refused (given_words words) ≡ false = ap is_refused (sym given_) ∙ taken in
    rw here (ap₂ matches_ask args_ (is ∙ ap matched given_))

pub refused_asks : (words given : List Text) (m : Misuse) → given ≡ given_words words → Refuses given m → Answers (words_ask words) (Err m)
unfolding words_ask
refused_asks words given (misuse.Words text) given_ refused =
    let here : is_refused (given_words words) ≡ true = ap is_refused (sym given_) ∙ refused in rw here refl
refused_asks words given (misuse.Value setting) given_ refused = absurd refused
refused_asks words given misuse.Functions given_ refused = absurd refused
refused_asks words given misuse.Memory given_ refused = tt

module _ {Z : Type 0} where
  names_of_rows : (o : Option (Box SubCommand Z)) → option_map (λ (p : Text × List Row). p.0) (subcommand_rows o) ≡ option_map (λ b. (out-SubCommand (box_value b)).name.now) o
  names_of_rows None = refl
  names_of_rows (Some b) = refl

pair_from : (o : Option (Text × List Row)) (name : Text) (rows : List Row) → Some name ≡ option_map (λ (p : Text × List Row). p.0) o → Some rows ≡ option_map (λ (p : Text × List Row). p.1) o
    → o ≡ Some (name, rows)
pair_from None name rows a b = cc
pair_from (Some p) name rows a b = let x : name ≡ p.0 = cc in let y : rows ≡ p.1 = cc in ap Some (λ i. (sym x i, sym y i))

-- the command that a parse met, by the two clauses of `subcommand`
pub met : (m : ArgMatches) (name : Text) (rows : List Row) → Some name ≡ subcommand_name_of m → Some rows ≡ option_map (λ (p : Text × List Row). p.1) (subcommand_rows_of m)
    → subcommand_rows_of m ≡ Some (name, rows)
met m name rows a b = pair_from (subcommand_rows_of m) name rows (a ∙ sym (names_of_rows (out-ArgMatches m).subcommand)) b

pub met_asks : (args : List Text) (o : Option (Text × List Row)) (name : Text) (rows : List Row) (c : Subcommand) → o ≡ Some (name, rows) → Some c ≡ subcommand_named name
    → texts_ask c args (texts_found (λ id. first_of id rows)) ≡ matches_ask args o
met_asks args o name rows c is named = rw (is, ← named) refl
