-- The words.
use Rattle.std.proofs.Common.{subst}
use Rattle.std.specs.Prelude.{Result}
use Rattle.std.proofs.lemmas.Result.{err_from_is_err_and}
use Rattle.clap.specs.Simple.{subcommand_rows_of}
use Rattle.bril_words.specs.Answers.{Answers}
use Rattle.bril_words.specs.CommandLine.{Refusal}
use Rattle.bril_words.specs.Request.{Asked}
use Rattle.bril_words.proofs.Answering.{asks_when, refused_asks}
use Rattle.bril_words.proofs.Taken.{refused_alone}
use Rattle.bril_words.proofs.Whole.{plain_asks}
use Rattle.bril_words.proofs.words.read_words.Goals as goal

pub returns-in_err-matches-clause-asked : goal.returns-in_err-matches-clause-asked
returns-in_err-matches-clause-asked c =
    let e = err_from_is_err_and c.from_residual.result c.from_residual.ensures.1 in
    rw (e.1, e.2) (refused_asks c.args.words.now c.cut.result.0.now c.in_err-matches.field-0.0 c.cut.ensures.given c.in_err-matches.ensures.refused)

pub returns-in_err-matches-clause-plain : goal.returns-in_err-matches-clause-plain
returns-in_err-matches-clause-plain c = plain_asks c.args.words.now

pub returns-clause-asked : goal.returns-clause-asked
returns-clause-asked c =
    subst (λ (a : Result Asked Refusal). Answers a c.request_of.result)
    (asks_when c.args.words.now c.cut.result.0.now c.cut.result.1.now (subcommand_rows_of c.in_ok-matches.matches) c.cut.ensures.given c.cut.ensures.args
    c.in_ok-matches.ensures.taken c.in_ok-matches.ensures.matched) c.request_of.ensures.asked

pub returns-clause-plain : goal.returns-clause-plain
returns-clause-plain c = plain_asks c.args.words.now

pub returns-clause-refused : goal.returns-clause-refused
returns-clause-refused c = refused_alone c.args.words.now

pub returns-in_err-matches-clause-refused : goal.returns-in_err-matches-clause-refused
returns-in_err-matches-clause-refused c = refused_alone c.args.words.now
