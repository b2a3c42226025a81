use Rattle.std.proofs.Common.{◌≡◌}
use Rattle.bril_tree.specs.declared.tree.Tree.{Tree}
use Rattle.bril_json.specs.Canonical.{canonical_json}
use Rattle.bril_json.specs.Reading.{JsonOf}
use Rattle.bril_json.proofs.CanonicalJson.{canonical_json_is_tree, canonical_json_is_tree_alone}
use Rattle.bril_json.proofs.Lists.{on_ok}
use Rattle.bril_json.proofs.writing.write_json.Goals as goal

pub returns-clause-reads : goal.returns-clause-reads
returns-clause-reads c = on_ok {P = JsonOf (canonical_json c.args.tree.now) c.args.tree.now} c.add.result (canonical_json_is_tree c.args.tree.now c.in_ok-text.ensures.valid)

pub returns-clause-alone : goal.returns-clause-alone
returns-clause-alone c =
    on_ok {P = (other : Tree) → JsonOf (canonical_json c.args.tree.now) other → other ≡ c.args.tree.now} c.add.result
    (λ other. canonical_json_is_tree_alone c.args.tree.now other c.in_ok-text.ensures.valid)
