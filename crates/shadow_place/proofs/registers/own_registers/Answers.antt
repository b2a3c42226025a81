use Rattle.std.proofs.Common.{arith}
use Rattle.std.proofs.lemmas.List.FromFn.{map-range_with_len_more}
use Rattle.shadow_place.specs.Registers.{own_register}
use Rattle.shadow_place.proofs.registers.own_registers.Goals as goal

pub loop-slot-preserved : goal.loop-slot-preserved
loop-slot-preserved c =
    let more = map-range_with_len_more own_register 0 c.loop-slot.slot c.loop-slot.slot (omega arith) in
    let pushed = c.in_ok-push.ensures.items in
    let own = c.own_register.ensures in
    cc
