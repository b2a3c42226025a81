-- The first among all commands.
use Rattle.std.proofs.Common.{◌∙◌, ap, find}
use Rattle.std.specs.Str.{bytes_eq}
use Rattle.bril_words.specs.Subcommands.{name_of}
use Rattle.bril_words.proofs.subcommands.subcommand_named.Goals as goal

pub returns : goal.returns
returns c = c.first_named.ensures ∙ ap (find (λ s. bytes_eq c.args.word.now (name_of s))) c.as_slice.ensures
