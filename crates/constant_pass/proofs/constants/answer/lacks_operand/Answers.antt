use Rattle.std.proofs.Common.{get_or, sym, ap, ◌∙◌}
use Rattle.std.proofs.lemmas.List.{get_or_default}
use Rattle.constant_pass.specs.constants.Known.{is_nothing}
use Rattle.constant_pass.specs.constants.Kept.{kept}
use Rattle.constant_pass.proofs.lemmas.constants.Rules.{any-at}
use Rattle.constant_pass.proofs.constants.answer.lacks_operand.Goals as goal

pub returns-then-is_nothing : goal.returns-then-is_nothing
returns-then-is_nothing c =
    let args = c.args.args.now in
    let i = c.loop-x.x-index in
    sym (any-at is_nothing (kept c.args.known.now) args i (get_or args i 0) c.loop-x-test.true (sym (get_or_default args i 0 (get_or args i 0) c.loop-x-test.true)) (ap is_nothing (sym c.variable.ensures) ∙ sym c.if-is_nothing.ensures))
