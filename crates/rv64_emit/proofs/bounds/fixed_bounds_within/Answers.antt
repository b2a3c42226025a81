use Rattle.std.proofs.Common.{[], sym, ap, ◌∙◌}
use Rattle.rv64_image_laws.specs.WordBounds.{has_fixed_bounds}
use Rattle.rv64_emit.proofs.Within.{fixed_known}
use Rattle.rv64_emit.proofs.bounds.fixed_bounds_within.Goals as goal

pub stack_within-requires : goal.stack_within-requires
stack_within-requires c = fixed_known c.args.checked.now.prog (ap has_fixed_bounds (sym c.prog.ensures.value) ∙ sym c.has_fixed_bounds.ensures ∙ c.if-has_fixed_bounds.true) []
