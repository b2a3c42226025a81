use Rattle.std.proofs.Common.{◌≡◌, ◌≤◌, suc, length, map, drop}
use Rattle.trace_paths.specs.Path.{path_from}
use Rattle.trace_paths.specs.Walked.{leg_of, behind_legs}
use Rattle.trace_paths.proofs.walk.path_within.Given as goal

abbrev pub invariant-items : goal.invariant-items
invariant-items l = record {
  within : l.at ≤ length l.code;
  used : l.used ≤ length l.choices;
  same : behind_legs (map leg_of l.legs.items) (path_from l.code l.own l.fuel l.room (drop l.used l.choices) l.at) ≡ path_from l.code l.own l.most 256 l.choices (suc l.own);
}

abbrev pub decreases-items : goal.decreases-items
decreases-items l = l.fuel
