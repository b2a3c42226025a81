use Rattle.std.proofs.Common.{◌≤◌, length, ap, arith}
use Rattle.rv64_groups.proofs.ResolvedWords.{resolved_len}
use Rattle.stage_cases.proofs.groups.add_groups.Goals as goal

pub groups_of-requires : goal.groups_of-requires
groups_of-requires c =
    let resolved : length c.in_ok-resolved.resolved.items ≤ length c.as_slice.result.now = resolved_len _ _ _ c.in_ok-resolved.ensures in
    omega (arith, resolved, ap length c.as_slice.ensures.value, c.in_ok-code.ensures, c.in_ok-image.ensures, ap length c.as_slice-3.ensures.value)
