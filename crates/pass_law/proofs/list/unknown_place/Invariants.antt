use Rattle.std.proofs.Common.{◌≡◌, None, take}
use Rattle.bril_profile.specs.declared.profile.Profile.{Profile}
use Rattle.pass_law.specs.Chains.{first_unknown}
use Rattle.pass_law.proofs.list.unknown_place.Given as goal

-- the names so far are answered
abbrev pub invariant-loop-i : goal.invariant-loop-i
invariant-loop-i g l = (profile : Profile) → first_unknown (λ p. (goal.Pass-dyn g (p.vtable, p.value)).meaning p.value) l.passes profile (take l.i l.names) ≡ None
