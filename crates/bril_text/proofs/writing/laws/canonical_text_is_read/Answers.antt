use Rattle.bril_tree.proofs.Canonical.{tells_trees}
use Rattle.bril_text.specs.Canonical.{canonical_text}
use Rattle.bril_text.specs.Reading.{Spells}
use Rattle.bril_text.proofs.Whole.{one_tree}
use Rattle.bril_text.proofs.WritingTrees.{canonical_text_spells, canonical_text_spells_alone}
use Rattle.bril_text.proofs.writing.laws.canonical_text_is_read.Goals as goal

pub returns : goal.returns
returns c = record {
  spells = canonical_text_spells;
  alone = canonical_text_spells_alone;
  tells = tells_trees canonical_text Spells one_tree canonical_text_spells;
}
