use Rattle.std.proofs.Common.{arith}
use Rattle.std.proofs.lemmas.List.FromFn.{map-range_with_len_more}
use Rattle.shadow_place.specs.Registers.{home_from}
use Rattle.shadow_place.proofs.homes.variable_homes.Goals as goal

pub loop-x-preserved : goal.loop-x-preserved
loop-x-preserved c =
    let more = map-range_with_len_more (home_from c.args.registers.now) 0 c.loop-x.x c.loop-x.x (omega arith) in
    let pushed = c.in_ok-push.ensures.items in
    let home = c.in_ok-home_from.ensures in
    cc
