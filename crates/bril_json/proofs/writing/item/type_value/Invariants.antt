use Rattle.std.proofs.Common.{◌≡◌}
use Rattle.serde_json.specs.Data.{string}
use Rattle.serde_json.specs.View.{view}
use Rattle.bril_json.specs.Canonical.{in_pointers}
use Rattle.bril_tree.specs.Spelling.{base_text}
use Rattle.bril_json.proofs.writing.item.type_value.Given as goal

abbrev pub invariant-loop-depth : goal.invariant-loop-depth
invariant-loop-depth l = view l.value ≡ in_pointers l._depth (string (base_text l.ty.base))
