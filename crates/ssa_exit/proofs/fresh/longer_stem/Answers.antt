use Rattle.std.proofs.Common.{ap, ◌∙◌, arith}
use Rattle.ssa_exit.specs.Fresh.{count_beginning}
use Rattle.ssa_exit.proofs.Stems.{halves-of}
use Rattle.ssa_exit.proofs.fresh.longer_stem.Goals as goal

pub returns-then-begin_with-clause-half : goal.returns-then-begin_with-clause-half
returns-then-begin_with-clause-half c =
    let vars = c.args.vars.now in
    let h = halves-of c.args.stem.now vars c.in_ok-zero.zero.items c.in_ok-one.one.items c.in_ok-zero.ensures c.in_ok-one.ensures in
    let one = c.begin_with.ensures ∙ ap (λ l. count_beginning l vars) c.as_slice.ensures.value in
    let zero = c.begin_with-2.ensures ∙ ap (λ l. count_beginning l vars) c.as_slice-2.ensures.value in
    let less = c.if-begin_with.true in
    omega (arith, h, one, zero, less)

pub returns-clause-half : goal.returns-clause-half
returns-clause-half c =
    let vars = c.args.vars.now in
    let h = halves-of c.args.stem.now vars c.in_ok-zero.zero.items c.in_ok-one.one.items c.in_ok-zero.ensures c.in_ok-one.ensures in
    let one = c.begin_with.ensures ∙ ap (λ l. count_beginning l vars) c.as_slice.ensures.value in
    let zero = c.begin_with-2.ensures ∙ ap (λ l. count_beginning l vars) c.as_slice-2.ensures.value in
    let more = c.if-begin_with.false in
    omega (arith, h, one, zero, more)
