use Rattle.std.proofs.Common.{ap, length, ◌∙◌}
use Rattle.variable_renaming.proofs.Functions.{function-made, names_in_range}
use Rattle.variable_renaming.proofs.tree.function_by_classes.Goals as goal

pub made_items-requires-clause-range : goal.made_items-requires-clause-range
made_items-requires-clause-range c =
    names_in_range c.args._prog.now c.args._number c.args.func.now c.requires.of.there c.args.names.now c.as_slice.result.now c.requires.names (ap length c.as_slice.ensures ∙ c.in_ok-news.ensures.long)

pub returns : goal.returns
returns c =
    function-made c.args._prog.now c.args.func.now c.args.function c.requires.of.tree c.args.class.now c.in_ok-marks.marks.items c.as_slice-2.result.now c.as_slice-2.ensures.value c.in_ok-marks.ensures
    c.in_ok-news.news c.as_slice.result.now c.as_slice.ensures c.in_ok-news.ensures c.args.names.now c.requires.names c.in_ok-code.code c.in_ok-code.ensures
