-- The profile is refused, or the list makes a program with it, or none.
use Rattle.std.proofs.Common.{refl, inl, inr}
use Rattle.std.proofs.lemmas.Result.{err_from_is_err_and, IfErr-weaker, IfOk-weaker}
use Rattle.pass_law.proofs.Same.{AllSame-refl}
use Rattle.bril_commands.proofs.making.made_program.Goals as goal

pub returns-in_err-profile-clause-err : goal.returns-in_err-profile-clause-err
returns-in_err-profile-clause-err g c =
    let e = err_from_is_err_and c.from_residual.result c.from_residual.ensures.1 in
    rw (e.1, e.2) (inl (c.in_err-profile.ensures.err, refl))

pub returns-in_err-profile-clause-same : goal.returns-in_err-profile-clause-same
returns-in_err-profile-clause-same g c = AllSame-refl (λ p. (goal.Pass-dyn g (p.vtable, p.value)).meaning p.value) c.args.passes.now

pub returns-clause-ok : goal.returns-clause-ok
returns-clause-ok g c =
    IfOk-weaker c.transformed.result _ _ (λ made is. record { entries = c.in_ok-profile.profile.entries; profiled = c.in_ok-profile.ensures.ok; made = is }) c.transformed.ensures.ok

pub returns-clause-err : goal.returns-clause-err
returns-clause-err g c =
    IfErr-weaker c.transformed.result _ _ (λ status refuses. inr (c.in_ok-profile.profile.entries, c.in_ok-profile.ensures.ok, refuses)) c.transformed.ensures.err
