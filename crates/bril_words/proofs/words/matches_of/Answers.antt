-- What clap answers.
use Rattle.std.proofs.Common.{◌∙◌, ap, ap₂, sym, subst}
use Rattle.clap.specs.Faults.{fault_of, is_simple_and_free}
use Rattle.clap.specs.Kinds.{HasKind, Kinds}
use Rattle.clap.specs.Simple.{is_simple, subcommand_of}
use Rattle.bril_words.proofs.Answering.{map_same, matched_by, refused_by, taken_by, whole_is_plain}
use Rattle.bril_words.proofs.Ready.{whole_is_simple}
use Rattle.bril_words.proofs.words.matches_of.Goals as goal

pub returns-in-Ok-clause-taken : goal.returns-in-Ok-clause-taken
returns-in-Ok-clause-taken c =
    let same = ap₂ fault_of c.in_ok-command.ensures.app (map_same c.args.given.now) in
    taken_by c.args.given.now (sym same ∙ c.in-Ok.ensures.kinds (ap is_simple_and_free c.in_ok-command.ensures.app ∙ whole_is_simple))

pub returns-in-Ok-clause-matched : goal.returns-in-Ok-clause-matched
returns-in-Ok-clause-matched c =
    let same = ap₂ subcommand_of c.in_ok-command.ensures.app (map_same c.args.given.now) in
    (c.in-Ok.ensures.matches (ap is_simple c.in_ok-command.ensures.app ∙ whole_is_plain)).1 ∙ same ∙ matched_by c.args.given.now

pub returns-in-Err-clause-refused : goal.returns-in-Err-clause-refused
returns-in-Err-clause-refused c =
    let same = ap₂ fault_of c.in_ok-command.ensures.app (map_same c.args.given.now) in
    refused_by c.args.given.now c.in-Err.error c.misuse_of.result
    (subst (λ (k : Kinds). HasKind k c.in-Err.error) same (c.in-Err.ensures.kinds (ap is_simple_and_free c.in_ok-command.ensures.app ∙ whole_is_simple))) c.misuse_of.ensures
