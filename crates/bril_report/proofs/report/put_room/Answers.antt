-- Both numbers are decimals.
use Rattle.bril_report.proofs.report.put_room.Goals as goal

pub returns : goal.returns
returns g c = rw (← c.format.ensures.text, ← c.as_bytes.ensures.value, ← c.format-2.ensures.text, ← c.as_bytes-2.ensures.value) c.put_all.ensures
