use Rattle.std.proofs.Common.{sym}
use Rattle.std.proofs.lemmas.List.Elements.{All-same}
use Rattle.bril_tree.specs.TreeForm.{IsImport, IsFunction}
use Rattle.bril_json.proofs.writing.tree_value.Goals as goal

pub returns-clause-valid : goal.returns-clause-valid
returns-clause-valid c = (
  All-same IsImport c.args.tree.now.imports c.as_slice-2.result.now (sym c.as_slice-2.ensures) c.in_ok-imports.ensures.valid,
  All-same IsFunction c.args.tree.now.funcs c.as_slice.result.now (sym c.as_slice.ensures) c.in_ok-functions.ensures.valid,
)
