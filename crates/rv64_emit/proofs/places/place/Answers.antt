use Rattle.std.proofs.Common.{◌≡◌, ◌-◌, ◌≤◌, length, get_or, min, sym, subst, arith}
use Rattle.rv64_emit.proofs.places.place.Goals as goal

pub returns-clause-few : goal.returns-clause-few
returns-clause-few c =
    let at : c.min.result ≡ min c.args.index (length c.args.table.now - 1) = omega (arith, c.min.ensures) in
    subst (λ k. get_or c.args.table.now k 0 ≤ 250000) (sym at) (c.requires.few c.args.index)
