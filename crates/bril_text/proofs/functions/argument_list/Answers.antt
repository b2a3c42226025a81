use Rattle.std.proofs.Common.{[], None, sym, ◌∙◌, subst}
use Rattle.bril_grammar.specs.Machine.{run, begin}
use Rattle.bril_grammar.specs.State.{AfterArgs}
use Rattle.bril_grammar.specs.Terminal.{terminals_of}
use Rattle.bril_text.specs.Parse.{Runs, begun_with}
use Rattle.bril_text.proofs.Moves.{first_arg}
use Rattle.bril_text.proofs.functions.argument_list.Goals as goal

pub returns-else-begins_with-clause-runs : goal.returns-else-begins_with-clause-runs
returns-else-begins_with-clause-runs c = λ imports funcs name.
    subst (λ t. Runs t c.arguments.result (λ x. run (AfterArgs (begun_with imports funcs name x.0 None [])) (terminals_of x.1)))
    (sym (first_arg (begin imports funcs name) (terminals_of c.args.terminals) (sym c.begins_with.ensures ∙ c.if-begins_with.false)))
    (c.arguments.ensures.runs imports funcs name)
