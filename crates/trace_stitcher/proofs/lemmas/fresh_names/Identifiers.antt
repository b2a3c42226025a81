-- The names of traces are identifiers.
use Rattle.std.proofs.Common.{◌≡◌, refl, true, ℕ, ◌<◌, ◌^◌}
use Rattle.std.specs.Prelude.{codes}
use Rattle.std.specs.Fmt.{decimal}
use Rattle.bril_tree.specs.Identifier.{is_identifier}
use Rattle.bril_tree.proofs.Identifiers.{decimal_continues, longer_identifier}
use Rattle.trace_laws.specs.lines.Names.{trace_name}

pub named-trace : (n : ℕ) → n < 2 ^ 64 → is_identifier (trace_name n) ≡ true
named-trace n small = longer_identifier (codes "trace") (decimal n) refl (decimal_continues n small)
