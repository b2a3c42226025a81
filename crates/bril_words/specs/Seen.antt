-- Requests and why there are none, as contracts see them.
use denote.Ref.{Bor}
use Rattle.std.specs.Prelude.{ℕ, List, Option}
use Rattle.std.specs.Option.{option_map}
use Rattle.bril_words.specs.CommandLine.{bad_functions, Refusal, not_taken, bad_value}
use Rattle.bril_words.specs.Request.{Asked}
use Rattle.bril_words.specs.declared.misuse.Misuse.{Misuse}
use Rattle.bril_words.specs.declared.misuse.Misuse.TheVariants as misuse
use Rattle.bril_words.specs.declared.request.Request.{Request}

abbrev pub misuse_seen : Misuse → Refusal
misuse_seen (misuse.Words text) = not_taken
misuse_seen (misuse.Value setting) = bad_value setting
misuse_seen misuse.Functions = bad_functions
misuse_seen misuse.Memory = not_taken

abbrev pub text_seen : Option (Bor (List ℕ)) → Option (List ℕ)
text_seen = option_map (λ t. t.now)

abbrev pub request_seen : Request → Asked
request_seen r = record { action = r.action; path = r.path.now; list = r.list.now; second = text_seen r.second; args = r.args.now }
