use Rattle.std.proofs.Common.{take}
use Rattle.pass_law.specs.Chains.{Ran, AllSame}
use Rattle.pass_law.proofs.list.run_list.Given as goal

-- the names so far ran
abbrev pub invariant-loop-i : goal.invariant-loop-i
invariant-loop-i g l = record {
  ran : Ran (λ p. (goal.Pass-dyn g (p.vtable, p.value)).meaning p.value) l.initial.passes l.profile (λ p. (goal.Pass-dyn g (p.vtable, p.value)).counts p.value) (take l.i l.names) l.initial.prog.prog l.prog.prog l.passes;
  same : AllSame (λ p. (goal.Pass-dyn g (p.vtable, p.value)).meaning p.value) l.initial.passes l.passes;
}
