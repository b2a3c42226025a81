-- The message is that at the byte's place.
use Rattle.bril_explain.proofs.message.byte_message.Goals as goal

pub returns : goal.returns
returns c = record { place = c.place_of-place.result; is = c.place_of-place.ensures; are = c.in_ok-message.ensures }
