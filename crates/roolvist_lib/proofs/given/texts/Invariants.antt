use Rattle.std.proofs.Common.{◌≡◌, ◌++◌, length}
use Rattle.std.specs.List.{list_all}
use Rattle.std.specs.Str.{is_utf8}
use Rattle.roolvist_lib.proofs.given.texts.Given as goal

abbrev pub invariant-texts : goal.invariant-texts
invariant-texts l = record {
  whole : l.texts ++ l.left ≡ l.pieces;
  utf8 : list_all is_utf8 l.left ≡ list_all is_utf8 l.pieces;
}

abbrev pub decreases-texts : goal.decreases-texts
decreases-texts l = length l.left
