use Rattle.slot_code.proofs.Places.{slot_place, slots_are_numbered}
use Rattle.slot_code.proofs.laws.slots_have_numbers.Goals as goal

pub returns : goal.returns
returns c = record {
  numbers = slot_place;
  slots = slots_are_numbered;
}
