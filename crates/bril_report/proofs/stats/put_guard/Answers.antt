-- Both numbers are decimals.
use Rattle.bril_report.proofs.stats.put_guard.Goals as goal

pub returns : goal.returns
returns g c =
    rw (← c.function_name.ensures, ← c.format.ensures.text, ← c.as_bytes.ensures.value, ← c.format-2.ensures.text, ← c.as_bytes-2.ensures.value)
    c.put_all.ensures
