use Rattle.std.proofs.Common.{arith, refl}
use Rattle.pass_law.proofs.Growing.{known-more, unknown-found, known-all, none-answered, some-answered, name-at}
use Rattle.pass_law.proofs.list.unknown_place.Goals as goal

pub returns-then-not-is_answered : goal.returns-then-not-is_answered
returns-then-not-is_answered g c profile =
    unknown-found (λ p. (goal.Pass-dyn g (p.vtable, p.value)).meaning p.value) c.args.passes.now profile c.args.names.now c.loop-i.i c.as_bytes.result.now
    (name-at c.args.names.now c.args.names.now c.loop-i.i c.index-names-i.result c.as_bytes.result.now refl (omega arith) c.index-names-i.is c.as_bytes.ensures.value)
    (c.loop-i.invariant profile) (none-answered _ c.is_answered.result c.is_answered.ensures c.if-not-is_answered.true)

pub loop-i-preserved : goal.loop-i-preserved
loop-i-preserved g c profile =
    known-more (λ p. (goal.Pass-dyn g (p.vtable, p.value)).meaning p.value) c.args.passes.now profile c.args.names.now c.loop-i.i c.as_bytes.result.now
    (name-at c.args.names.now c.args.names.now c.loop-i.i c.index-names-i.result c.as_bytes.result.now refl (omega arith) c.index-names-i.is c.as_bytes.ensures.value)
    (c.loop-i.invariant profile) (some-answered _ c.is_answered.result c.is_answered.ensures c.if-not-is_answered.false)

pub returns : goal.returns
returns g c profile = known-all (λ p. (goal.Pass-dyn g (p.vtable, p.value)).meaning p.value) c.args.passes.now profile c.args.names.now c.loop-i.i (omega arith) (c.loop-i.invariant profile)
