-- The cut.
use Rattle.std.proofs.Common.{◌∙◌, ap, sym}
use Rattle.bril_words.specs.CommandLine.{takes_args}
use Rattle.bril_words.proofs.Cutting.{none_args, none_given, some_args, some_given}
use Rattle.bril_words.proofs.words.cut.Goals as goal

pub returns-in-Some-clause-given : goal.returns-in-Some-clause-given
returns-in-Some-clause-given c =
    some_given c.args.words.now c.word-item.result c.in-Some.place c.in-len2-up.len_at_least c.word-item.is (ap takes_args (sym c.as_str.ensures) ∙ sym c.if-takes_args.ensures)
    (sym c.in-Some.ensures)

pub returns-in-Some-clause-args : goal.returns-in-Some-clause-args
returns-in-Some-clause-args c =
    some_args c.args.words.now c.word-item.result c.in-Some.place c.in-len2-up.len_at_least c.word-item.is (ap takes_args (sym c.as_str.ensures) ∙ sym c.if-takes_args.ensures)
    (sym c.in-Some.ensures)

pub returns-in-None-clause-given : goal.returns-in-None-clause-given
returns-in-None-clause-given c =
    none_given c.args.words.now c.word-item.result c.in-len2-up.len_at_least c.word-item.is (ap takes_args (sym c.as_str.ensures) ∙ sym c.if-takes_args.ensures) (sym c.in-None.ensures)

pub returns-in-None-clause-args : goal.returns-in-None-clause-args
returns-in-None-clause-args c =
    none_args c.args.words.now c.word-item.result c.in-len2-up.len_at_least c.word-item.is (ap takes_args (sym c.as_str.ensures) ∙ sym c.if-takes_args.ensures) (sym c.in-None.ensures)
