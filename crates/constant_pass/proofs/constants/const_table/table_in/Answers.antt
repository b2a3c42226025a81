use Rattle.std.proofs.Common.{◌≡◌, length, sym, ap, ◌∙◌, subst}
use Rattle.std.specs.Prelude.{is_some}
use Rattle.std.specs.List.{All}
use Rattle.flow_graph.specs.Branches.{HasLabels}
use Rattle.flow_graph.proofs.BranchRows.{code_labelled}
use Rattle.constant_pass.proofs.lemmas.constants.Working.{all-settled}
use Rattle.constant_pass.proofs.constants.const_table.table_in.Goals as goal

pub settled-requires-clause-labelled : goal.settled-requires-clause-labelled
settled-requires-clause-labelled c =
    let f = c.args.func.now in
    let many : length c.as_slice-2.result.now ≡ length f.labels = ap length c.as_slice-2.ensures.value ∙ c.in_ok-labels.ensures.all in
    subst (λ n. All (HasLabels n) f.code) (sym many) (code_labelled (is_some f.ret) (length f.labels) f.code c.requires.shaped f.formed.targets)

pub returns-clause-consistent : goal.returns-clause-consistent
returns-clause-consistent c = (all-settled c.args.func.now c.in_ok-done.done.known.items c.in_ok-done.done.reached.items c.in_ok-done.ensures).consistent

pub returns-clause-least : goal.returns-clause-least
returns-clause-least c = (all-settled c.args.func.now c.in_ok-done.done.known.items c.in_ok-done.done.reached.items c.in_ok-done.ensures).least
