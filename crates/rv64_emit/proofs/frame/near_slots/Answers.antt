use Rattle.std.proofs.Common.{◌≡◌, min, length, take, arith, ap, ◌∙◌}
use Rattle.std.proofs.lemmas.List.{take_min}
use Rattle.rv64_emit.proofs.frame.near_slots.Goals as goal

pub returns : goal.returns
returns c =
    let all = c.as_slice-slots.result.now in
    let many : c.min-many.result ≡ min 254 (length all) = omega (arith, c.min-many.ensures) in
    ap (λ n. take n all) many ∙ (take_min 254 all ∙ ap (take 254) c.as_slice-slots.ensures)
