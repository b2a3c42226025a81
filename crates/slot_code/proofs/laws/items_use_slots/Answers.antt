use Rattle.slot_code.proofs.Uses as uses
use Rattle.slot_code.proofs.laws.items_use_slots.Goals as goal

pub returns : goal.returns
returns c = uses.items_use_slots
