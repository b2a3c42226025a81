use Rattle.std.proofs.Common.{◌∷◌, [], ◌++◌, ap, ◌∙◌}
use Rattle.slot_code.specs.declared.item.Slot.TheVariants.{Variable}
use Rattle.slot_code.proofs.Listing.{next_variable}
use Rattle.slot_code.proofs.numbering.push_variables.Goals as goal

pub loop-x-preserved : goal.loop-x-preserved
loop-x-preserved c =
    next_variable c.loop-x.x c.args.slots.now c.loop-x.slots c.push.new.self
    (c.in_ok-push.ensures.ok ∙ ap (λ n. c.loop-x.slots ++ Variable n ∷ []) c.in_ok-number_of.ensures) c.loop-x.invariant
