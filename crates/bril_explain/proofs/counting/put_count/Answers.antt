-- The number is a decimal.
use Rattle.bril_explain.proofs.counting.put_count.Goals as goal

pub returns : goal.returns
returns g c = rw (← c.format.ensures.text, ← c.as_bytes.ensures.value) c.put_all.ensures
