use Rattle.std.proofs.Common.{true, false, bytes_eq, Some, None, refl, sym, ◌∙◌}
use Rattle.std.specs.List.{list_any}
use Rattle.bril_tree.specs.Spelling.{operation_of, float_operations}
use Rattle.bril_text.proofs.Table.{keyword_is}
use Rattle.bril_text.proofs.keyword.keyword.Goals as goal

pub returns-in-Some : goal.returns-in-Some
returns-in-Some c =
    let text = c.args.text.now in
    keyword_is text (Some c.in-Some.keyword) (operation_of text) (list_any (bytes_eq text) float_operations) (sym c.in-Some.is ∙ c.keyword_among.ensures) refl refl

pub returns-in-Some-spelled : goal.returns-in-Some-spelled
returns-in-Some-spelled c =
    let text = c.args.text.now in
    keyword_is text None (Some c.in-Some-spelled.op) (list_any (bytes_eq text) float_operations) (sym c.in-None.is ∙ c.keyword_among.ensures) (sym c.in-Some-spelled.is ∙ c.spelled.ensures) refl

pub returns-in-None-spelled : goal.returns-in-None-spelled
returns-in-None-spelled c =
    keyword_is c.args.text.now None None true (sym c.in-None.is ∙ c.keyword_among.ensures) (sym c.in-None-spelled.is ∙ c.spelled.ensures) (sym c.if-is_float_operation.true ∙ c.is_float_operation.ensures)

pub returns-in-None-2 : goal.returns-in-None-2
returns-in-None-2 c =
    keyword_is c.args.text.now None None false (sym c.in-None.is ∙ c.keyword_among.ensures) (sym c.in-None-2.is ∙ c.spelled.ensures) (sym c.if-is_float_operation.false ∙ c.is_float_operation.ensures)
