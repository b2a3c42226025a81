use Rattle.std.proofs.Common.{◌≡◌, sym}
use Rattle.std.proofs.lemmas.List.Elements.{All-same}
use Rattle.bril_tree.specs.declared.tree.Tree.{Tree}
use Rattle.bril_text.specs.Canonical.{canonical_text}
use Rattle.bril_tree.specs.TreeForm.{IsImport, IsFunction, IsTree}
use Rattle.bril_text.specs.Reading.{Spells}
use Rattle.bril_text.proofs.WritingLists.{on_ok}
use Rattle.bril_text.proofs.WritingTrees.{canonical_text_spells, canonical_text_spells_alone}
use Rattle.bril_text.proofs.writing.write_text.Goals as goal
use Rattle.bril_text.proofs.writing.write_text.Goals.{After-add}

-- what was written is a valid tree
is_tree : (c : After-add) → IsTree c.args.tree.now
is_tree c = (
  All-same IsImport c.args.tree.now.imports c.as_slice.result.now (sym c.as_slice.ensures) c.in_ok-put_each.ensures.valid,
  All-same IsFunction c.args.tree.now.funcs c.as_slice-2.result.now (sym c.as_slice-2.ensures) c.in_ok-put_each-2.ensures.valid,
)

pub returns-clause-valid : goal.returns-clause-valid
returns-clause-valid c = on_ok {P = IsTree c.args.tree.now} c.add.result (is_tree (goal.at.returns-clause-valid c).After-add)

pub returns-clause-reads : goal.returns-clause-reads
returns-clause-reads c = on_ok {P = Spells (canonical_text c.args.tree.now) c.args.tree.now} c.add.result (canonical_text_spells c.args.tree.now (is_tree (goal.at.returns-clause-reads c).After-add))

pub returns-clause-alone : goal.returns-clause-alone
returns-clause-alone c =
    on_ok {P = (other : Tree) → Spells (canonical_text c.args.tree.now) other → other ≡ c.args.tree.now} c.add.result
    (λ other. canonical_text_spells_alone c.args.tree.now other (is_tree (goal.at.returns-clause-alone c).After-add))
