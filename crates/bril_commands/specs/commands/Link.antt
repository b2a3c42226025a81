-- `link`: the file and all that it imports as one tree, in canonical text.
use Rattle.bril_text.specs.Canonical.{canonical_text}
use Rattle.bril_tree.specs.declared.tree.Tree.{Tree}
use Rattle.bril_commands.specs.Outcome.{Outcome, writes_text}

-- The canonical text of the linked tree is written.
abbrev pub writes_linked : Tree → Outcome
writes_linked tree = writes_text (canonical_text tree)
