use Rattle.bril_tree.proofs.Canonical.{tells_trees}
use Rattle.bril_json.specs.Canonical.{canonical_json}
use Rattle.bril_json.specs.Reading.{JsonOf}
use Rattle.bril_json.proofs.CanonicalJson.{canonical_json_is_tree, canonical_json_is_tree_alone}
use Rattle.bril_json.proofs.Sources.{one_tree}
use Rattle.bril_json.proofs.writing.laws.canonical_json_is_read.Goals as goal

pub returns : goal.returns
returns c = record {
  is_tree = canonical_json_is_tree;
  alone = canonical_json_is_tree_alone;
  tells = tells_trees canonical_json JsonOf one_tree canonical_json_is_tree;
}
