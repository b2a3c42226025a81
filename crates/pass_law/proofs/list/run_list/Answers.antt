use Rattle.std.proofs.Common.{arith, refl, None, Some}
use Rattle.pass_law.proofs.Same.{AllSame-refl, AllSame-trans, still-answered}
use Rattle.pass_law.proofs.Growing.{Ran-start, Ran-more, Ran-tallies, stopped-at, known-at, known-slice, name-at}
use Rattle.pass_law.proofs.list.run_list.Goals as goal

pub returns-in-Some-clause-stopped : goal.returns-in-Some-clause-stopped
returns-in-Some-clause-stopped g c =
    (known-slice (λ p. (goal.Pass-dyn g (p.vtable, p.value)).meaning p.value) c.args.passes.now c.args.profile.now c.as_slice.result.now c.args.names.now (Some c.in-Some.place) c.as_slice.ensures (c.in-Some.ensures c.args.profile.now), refl, refl)

pub returns-in-Some-clause-same : goal.returns-in-Some-clause-same
returns-in-Some-clause-same g c = AllSame-refl (λ p. (goal.Pass-dyn g (p.vtable, p.value)).meaning p.value) c.args.passes.now

pub loop-i-init : goal.loop-i-init
loop-i-init g c = record {
  ran = Ran-start (λ p. (goal.Pass-dyn g (p.vtable, p.value)).meaning p.value) c.args.passes.now c.args.profile.now (λ p. (goal.Pass-dyn g (p.vtable, p.value)).counts p.value) c.args.names.now c.args.prog.prog;
  same = AllSame-refl (λ p. (goal.Pass-dyn g (p.vtable, p.value)).meaning p.value) c.args.passes.now;
}

pub run_named-requires : goal.run_named-requires
run_named-requires g c =
    still-answered (λ p. (goal.Pass-dyn g (p.vtable, p.value)).meaning p.value) c.args.passes.now c.loop-i.passes c.as_bytes.result.now c.loop-i.invariant.same
    (known-at (λ p. (goal.Pass-dyn g (p.vtable, p.value)).meaning p.value) c.args.passes.now c.args.profile.now c.args.names.now c.loop-i.i c.as_bytes.result.now (name-at c.as_slice-name-items.result.now c.args.names.now c.loop-i.i c.name-item.result c.as_bytes.result.now c.as_slice-name-items.ensures (omega arith) c.name-item.is c.as_bytes.ensures.value) (known-slice (λ p. (goal.Pass-dyn g (p.vtable, p.value)).meaning p.value) c.args.passes.now c.args.profile.now c.as_slice.result.now c.args.names.now None c.as_slice.ensures (c.in_default.ensures c.args.profile.now)))

pub returns-in-Err-TooLarge-clause-stopped : goal.returns-in-Err-TooLarge-clause-stopped
returns-in-Err-TooLarge-clause-stopped g c = (
  (known-slice (λ p. (goal.Pass-dyn g (p.vtable, p.value)).meaning p.value) c.args.passes.now c.args.profile.now c.as_slice.result.now c.args.names.now None c.as_slice.ensures (c.in_default.ensures c.args.profile.now)),
  stopped-at (λ p. (goal.Pass-dyn g (p.vtable, p.value)).meaning p.value) c.args.passes.now c.args.profile.now (λ p. (goal.Pass-dyn g (p.vtable, p.value)).counts p.value) c.args.names.now c.loop-i.i c.as_bytes.result.now c.args.prog.prog c.loop-i.prog.prog c.loop-i.passes c.run_named.new.passes c.in-Err-TooLarge.field-0 _ _ _ c.in-Err-TooLarge.field-0-is (cc (c.in-Err-TooLarge.bound-is)) (omega arith) (name-at c.as_slice-name-items.result.now c.args.names.now c.loop-i.i c.name-item.result c.as_bytes.result.now c.as_slice-name-items.ensures (omega arith) c.name-item.is c.as_bytes.ensures.value)
      c.loop-i.invariant.same c.loop-i.invariant.ran c.in-Err-TooLarge.ensures.refused c.in-Err-TooLarge.ensures.uncounted,
)

pub returns-in-Err-TooLarge-clause-same : goal.returns-in-Err-TooLarge-clause-same
returns-in-Err-TooLarge-clause-same g c = AllSame-trans (λ p. (goal.Pass-dyn g (p.vtable, p.value)).meaning p.value) c.args.passes.now c.loop-i.passes c.run_named.new.passes c.loop-i.invariant.same c.run_named.ensures.same

pub returns-in-Err-Memory-clause-stopped : goal.returns-in-Err-Memory-clause-stopped
returns-in-Err-Memory-clause-stopped g c = (
  (known-slice (λ p. (goal.Pass-dyn g (p.vtable, p.value)).meaning p.value) c.args.passes.now c.args.profile.now c.as_slice.result.now c.args.names.now None c.as_slice.ensures (c.in_default.ensures c.args.profile.now)),
  record {
    before = c.loop-i.i;
    program = c.loop-i.prog.prog;
    ran = Ran-tallies (λ p. (goal.Pass-dyn g (p.vtable, p.value)).meaning p.value) c.args.passes.now c.args.profile.now (λ p. (goal.Pass-dyn g (p.vtable, p.value)).counts p.value) _ c.args.prog.prog c.loop-i.prog.prog c.loop-i.passes c.run_named.new.passes c.loop-i.invariant.ran c.in-Err-Memory.ensures.uncounted;
  },
)

pub returns-in-Err-Memory-clause-same : goal.returns-in-Err-Memory-clause-same
returns-in-Err-Memory-clause-same g c = AllSame-trans (λ p. (goal.Pass-dyn g (p.vtable, p.value)).meaning p.value) c.args.passes.now c.loop-i.passes c.run_named.new.passes c.loop-i.invariant.same c.run_named.ensures.same

pub loop-i-preserved : goal.loop-i-preserved
loop-i-preserved g c = record {
  ran = Ran-more (λ p. (goal.Pass-dyn g (p.vtable, p.value)).meaning p.value) c.args.passes.now c.args.profile.now (λ p. (goal.Pass-dyn g (p.vtable, p.value)).counts p.value) c.args.names.now c.loop-i.i c.as_bytes.result.now c.args.prog.prog c.loop-i.prog.prog c.in-Ok.made.prog c.loop-i.passes c.run_named.new.passes (name-at c.as_slice-name-items.result.now c.args.names.now c.loop-i.i c.name-item.result c.as_bytes.result.now c.as_slice-name-items.ensures (omega arith) c.name-item.is c.as_bytes.ensures.value)
      c.loop-i.invariant.same c.loop-i.invariant.ran c.in-Ok.ensures.linked c.in-Ok.ensures.counted;
  same = AllSame-trans (λ p. (goal.Pass-dyn g (p.vtable, p.value)).meaning p.value) c.args.passes.now c.loop-i.passes c.run_named.new.passes c.loop-i.invariant.same c.run_named.ensures.same;
}

pub returns-clause-known : goal.returns-clause-known
returns-clause-known g c = (known-slice (λ p. (goal.Pass-dyn g (p.vtable, p.value)).meaning p.value) c.args.passes.now c.args.profile.now c.as_slice.result.now c.args.names.now None c.as_slice.ensures (c.in_default.ensures c.args.profile.now))
