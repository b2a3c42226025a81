-- The command.
use Rattle.std.proofs.Common.{◌∙◌}
use Rattle.clap.specs.Matches.{found_of}
use Rattle.clap.specs.Simple.{subcommand_rows_of}
use Rattle.clap.specs.Walk.{rows_of}
use Rattle.bril_words.proofs.Answering.{answers_from, met, met_asks}
use Rattle.bril_words.proofs.words.request_of.Goals as goal

pub returns-in-Some-subcommand_named-clause-asked : goal.returns-in-Some-subcommand_named-clause-asked
returns-in-Some-subcommand_named-clause-asked c =
    answers_from _ c.read_found.result
    (c.read_found.ensures.read ∙ met_asks c.args.args.now (subcommand_rows_of c.args.matches.now) c.in-Some.name.now (rows_of (found_of c.in-Some.found.now)) c.in-Some-subcommand_named.subcommand
    (met c.args.matches.now c.in-Some.name.now (rows_of (found_of c.in-Some.found.now)) c.in-Some.ensures.name c.in-Some.ensures.rows) c.in-Some-subcommand_named.ensures)
