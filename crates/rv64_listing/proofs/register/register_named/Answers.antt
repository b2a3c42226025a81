use Rattle.std.proofs.Common.{◌≤◌, Some, bytes_eq, ap, sym, ◌∙◌, arith}
use Rattle.rv64_listing.specs.Reading.{register_told}
use Rattle.rv64_listing.proofs.Fields.{register_here, register_nowhere, register_step}
use Rattle.rv64_listing.proofs.register.register_named.Goals as goal

pub returns-then-eq : goal.returns-then-eq
unfolding register_told
returns-then-eq c =
    let same = ap (bytes_eq c.args.text.now) (sym c.register_name.ensures) ∙ (sym c.eq.ensures ∙ c.if-eq.true) in
    ap Some c.of.ensures ∙ (sym (register_here c.numbers.number c.args.text.now c.numbers-test.true same) ∙ c.numbers.invariant)

pub numbers-preserved : goal.numbers-preserved
numbers-preserved c =
    let other = ap (bytes_eq c.args.text.now) (sym c.register_name.ensures) ∙ (sym c.eq.ensures ∙ c.if-eq.false) in
    sym (register_step c.numbers.number c.args.text.now c.numbers-test.true other) ∙ c.numbers.invariant

pub returns : goal.returns
unfolding register_told
returns c =
    let low : 32 ≤ c.numbers.number = c.numbers-test.false in
    let high : c.numbers.number ≤ 32 = c.numbers.auto.number-end in
    sym (register_nowhere c.numbers.number c.args.text.now (omega arith)) ∙ c.numbers.invariant
