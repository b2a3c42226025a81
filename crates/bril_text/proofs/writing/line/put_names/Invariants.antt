use Rattle.std.proofs.Common.{◌≡◌, ◌++◌, take}
use Rattle.bril_text.specs.Canonical.{names_text}
use Rattle.bril_tree.specs.TreeForm.{AreNames}
use Rattle.bril_text.proofs.writing.line.put_names.Given as goal

abbrev pub invariant-loop-name : goal.invariant-loop-name
invariant-loop-name l = record {
  text : l.into ≡ l.fn.into ++ names_text l.sign (take l.name-index l.name-items);
  valid : AreNames (take l.name-index l.name-items);
}
