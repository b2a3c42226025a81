-- The canonical JSON of a tree is read as that tree.
use Rattle.std.proofs.Common.{arith}
use Rattle.bril_json.specs.Canonical.{json_of, canonical_json}
use Rattle.bril_tree.specs.SourceLaws.{CanonicalSpells, CanonicalSpellsAlone}
use Rattle.bril_tree.proofs.Canonical.{spells_alone}
use Rattle.bril_json.proofs.Sources.{one_tree}
use Rattle.bril_json.specs.Reading.{JsonOf}
use Rattle.bril_json.proofs.Plain.{text_utf8, text_read}
use Rattle.bril_json.proofs.PlainTrees.{tree_flat}
use Rattle.bril_json.proofs.ReadBack.{tree_read}

-- the canonical JSON of a tree is that tree
pub canonical_json_is_tree : CanonicalSpells canonical_json JsonOf
unfolding canonical_json
canonical_json_is_tree tree is =
    let flat = tree_flat tree is in
    record {
      value = json_of tree;
      is = record { utf8 = text_utf8 (json_of tree) flat.0; reads = text_read (json_of tree) flat.0 (omega (arith, flat.1)) };
      makes = tree_read tree is;
    }

-- and no other tree
pub canonical_json_is_tree_alone : CanonicalSpellsAlone canonical_json JsonOf
canonical_json_is_tree_alone = spells_alone canonical_json JsonOf one_tree canonical_json_is_tree
