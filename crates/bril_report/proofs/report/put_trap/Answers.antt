-- The kind and the pc are decimals.
use Rattle.bril_report.proofs.report.put_trap.Goals as goal

pub returns : goal.returns
returns g c =
    rw (← c.trap_kind.ensures, ← c.format.ensures.text, ← c.as_bytes.ensures.value, ← c.trap_pc.ensures, ← c.format-2.ensures.text, ← c.as_bytes-2.ensures.value)
    c.put_all.ensures
