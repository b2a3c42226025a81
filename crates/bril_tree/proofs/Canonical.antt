-- What follows from a canonical text that spells its tree, where a source spells at most one tree.
use Rattle.std.proofs.Common.{ℕ, List, subst}
use Rattle.bril_tree.specs.declared.tree.Tree.{Tree}
use Rattle.bril_tree.specs.SourceLaws.{SourcesSpellOneTree, CanonicalSpells, CanonicalSpellsAlone, CanonicalTellsTrees}

-- it spells no other tree
pub spells_alone : (canonical : Tree → List ℕ) (Spells : List ℕ → Tree → Type 0) → SourcesSpellOneTree Spells → CanonicalSpells canonical Spells → CanonicalSpellsAlone canonical Spells
spells_alone canonical Spells one spells tree other is s = one (canonical tree) other tree s (spells tree is)

-- no two trees have the same text
pub tells_trees : (canonical : Tree → List ℕ) (Spells : List ℕ → Tree → Type 0) → SourcesSpellOneTree Spells → CanonicalSpells canonical Spells → CanonicalTellsTrees canonical
tells_trees canonical Spells one spells tree other is also e = one (canonical other) tree other (subst (λ (text : List ℕ). Spells text tree) e (spells tree is)) (spells other also)
