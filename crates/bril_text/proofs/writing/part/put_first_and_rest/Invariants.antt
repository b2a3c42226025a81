use Rattle.std.proofs.Common.{◌≡◌, ◌++◌, take, codes}
use Rattle.std.specs.List.{flat_map, All}
use Rattle.bril_text.proofs.writing.part.put_first_and_rest.Given as goal

abbrev pub invariant-loop-part : goal.invariant-loop-part
invariant-loop-part g l = record {
  text : l.into ≡ (l.fn.into ++ g.T.Part.canonical l.first) ++ flat_map (λ (x : g.row.T.Denot). codes ", " ++ g.T.Part.canonical x) (take l.part-index l.rest);
  first : g.T.Part.is_part l.first;
  valid : All g.T.Part.is_part (take l.part-index l.rest);
}
