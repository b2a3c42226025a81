-- `text`: the file in canonical text.
use Rattle.bril_text.specs.Canonical.{canonical_text}
use Rattle.bril_tree.specs.declared.tree.Tree.{Tree}
use Rattle.bril_commands.specs.Outcome.{Outcome, writes_text}

-- The canonical text of the file's tree is written.
abbrev pub writes_as_text : Tree → Outcome
writes_as_text tree = writes_text (canonical_text tree)
