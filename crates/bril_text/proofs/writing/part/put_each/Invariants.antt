use Rattle.std.proofs.Common.{◌≡◌, ◌++◌, take}
use Rattle.std.specs.List.{flat_map, All}
use Rattle.bril_text.proofs.writing.part.put_each.Given as goal

abbrev pub invariant-loop-part : goal.invariant-loop-part
invariant-loop-part g l = record {
  text : l.into ≡ l.fn.into ++ flat_map g.T.Part.canonical (take l.part-index l.parts);
  valid : All g.T.Part.is_part (take l.part-index l.parts);
}
