use Rattle.std.proofs.Common.{get_or, sym, ap, ◌∙◌}
use Rattle.std.proofs.lemmas.List.{get_or_default}
use Rattle.constant_pass.specs.constants.Known.{is_many}
use Rattle.constant_pass.specs.constants.Kept.{kept}
use Rattle.constant_pass.proofs.lemmas.constants.Rules.{any-at}
use Rattle.constant_pass.proofs.constants.answer.has_many.Goals as goal

pub returns-then-is_many : goal.returns-then-is_many
returns-then-is_many c =
    let args = c.args.args.now in
    let i = c.loop-x.x-index in
    sym (any-at is_many (kept c.args.known.now) args i (get_or args i 0) c.loop-x-test.true (sym (get_or_default args i 0 (get_or args i 0) c.loop-x-test.true)) (ap is_many (sym c.variable.ensures) ∙ sym c.if-is_many.ensures))
