use Rattle.std.proofs.Common.{◌≡◌, refl, sym, subst, arith}
use Rattle.std.specs.Prelude.{IsTrue}
use Rattle.bril_tree.specs.Operand.{Variable}
use Rattle.live_sets.specs.Liveness.{is_live}
use Rattle.rv64_emit.proofs.live_variables.next_point.Goals as goal

pub returns-in-None-clause-none : goal.returns-in-None-clause-none
returns-in-None-clause-none c = λ point high low told. c.in-None.ensures (Variable c.args.variable) refl point (high, told)

pub returns-in-Some-clause-from : goal.returns-in-Some-clause-from
returns-in-Some-clause-from c =
    let least = c.in-Some.ensures (Variable c.args.variable) refl in
    omega (arith, c.min.ensures, least.0.0, c.requires.from)

pub returns-in-Some-clause-live : goal.returns-in-Some-clause-live
returns-in-Some-clause-live c = λ low. (
    let least = c.in-Some.ensures (Variable c.args.variable) refl in
    let same : c.min.result ≡ c.in-Some.point = omega (arith, c.min.ensures, low) in
    subst (λ n. IsTrue (is_live c.args.live.now (Variable c.args.variable) n)) (sym same) least.0.1)

pub returns-in-Some-clause-none : goal.returns-in-Some-clause-none
returns-in-Some-clause-none c = λ point high low told. (
    let least = c.in-Some.ensures (Variable c.args.variable) refl in
    absurd (omega (arith, c.min.ensures, low, least.1 point (high, told))))
