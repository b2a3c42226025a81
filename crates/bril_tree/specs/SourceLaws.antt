-- Laws of a form of programs. `Spells source tree` says that the source spells the tree, `HasFault source fault` that it
-- has the fault, and `canonical` writes a tree.
use Rattle.std.specs.Prelude.{◌≡◌, ℕ, ◌⊎◌, List}
use Rattle.bril_tree.specs.declared.tree.Tree.{Tree}
use Rattle.bril_tree.specs.TreeForm.{IsTree}

-- a source spells at most one tree
abbrev pub SourcesSpellOneTree : (List ℕ → Tree → Type 0) → Type 0
SourcesSpellOneTree Spells = (source : List ℕ) (t u : Tree) → Spells source t → Spells source u → t ≡ u

-- a source has at most one fault
abbrev pub SourcesHaveOneFault : {F : Type 0} → (List ℕ → F → Type 0) → Type 0
SourcesHaveOneFault {F = F} HasFault = (source : List ℕ) (f g : F) → HasFault source f → HasFault source g → f ≡ g

-- a source that spells a tree has no fault
abbrev pub SpelledHaveNoFault : {F : Type 0} → (List ℕ → Tree → Type 0) → (List ℕ → F → Type 0) → Type 0
SpelledHaveNoFault {F = F} Spells HasFault = (source : List ℕ) (tree : Tree) (f : F) → Spells source tree → HasFault source f → ⊥

-- a source spells a tree or has a fault
abbrev pub EachHasTreeOrFault : {F : Type 0} → (List ℕ → Tree → Type 0) → (List ℕ → F → Type 0) → Type 0
EachHasTreeOrFault {F = F} Spells HasFault = (source : List ℕ) → ((tree : Tree) × Spells source tree) ⊎ ((f : F) × HasFault source f)

-- what is written of a tree spells that tree
abbrev pub CanonicalSpells : (Tree → List ℕ) → (List ℕ → Tree → Type 0) → Type 0
CanonicalSpells canonical Spells = (tree : Tree) → IsTree tree → Spells (canonical tree) tree

-- what is written of a tree spells no other tree
abbrev pub CanonicalSpellsAlone : (Tree → List ℕ) → (List ℕ → Tree → Type 0) → Type 0
CanonicalSpellsAlone canonical Spells = (tree other : Tree) → IsTree tree → Spells (canonical tree) other → other ≡ tree

-- no two trees are written alike
abbrev pub CanonicalTellsTrees : (Tree → List ℕ) → Type 0
CanonicalTellsTrees canonical = (tree other : Tree) → IsTree tree → IsTree other → canonical tree ≡ canonical other → tree ≡ other
