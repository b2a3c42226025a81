use Rattle.std.proofs.Common.{◌≡◌, min, length, take, arith, ap, ◌∙◌}
use Rattle.std.proofs.lemmas.List.{take_min}
use Rattle.rv64_emit.proofs.sizes.first_items.Goals as goal

pub returns : goal.returns
returns c =
    let many : c.min-many.result ≡ min c.args.count (length c.args.items.now) = omega (arith, c.min-many.ensures) in
    ap (λ n. take n c.args.items.now) many ∙ take_min c.args.count c.args.items.now
