-- `json`: the file in canonical JSON.
use Rattle.std.specs.Prelude.{ℕ, List, ◌++◌, codes}
use Rattle.bril_json.specs.Canonical.{canonical_json}
use Rattle.bril_tree.specs.declared.tree.Tree.{Tree}
use Rattle.bril_commands.specs.Outcome.{Outcome, writes_text}

-- the line of canonical JSON of a tree
abbrev pub json_line : Tree → List ℕ
json_line tree = canonical_json tree ++ codes "\n"

-- The canonical JSON of the file's tree is written, and LF.
abbrev pub writes_as_json : Tree → Outcome
writes_as_json tree = writes_text (json_line tree)
