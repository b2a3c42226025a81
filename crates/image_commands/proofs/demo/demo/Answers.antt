-- Memory runs out before the run was recorded, or the list makes no program, or what it makes was run.
use Rattle.std.proofs.Common.{◌<◌, ◌^◌, [], refl, inl, inr, arith, ⊎_elim}
use Rattle.std.proofs.lemmas.Result.{err_from_is_err_and}
use Rattle.bril_commands.proofs.Sources.{fits_made}
use Rattle.bril_commands.specs.PassList.{pass_list, IsMade}
use Rattle.bril_demo.proofs.Acceptance.{demo_is_accepted}
use Rattle.bril_report.proofs.Telling.{Tells-none}
use Rattle.bril_report.specs.StageFaults.{status_of}
use Rattle.pass_law.proofs.Same.{AllSame-refl}
use Rattle.image_commands.proofs.Demos.{demo_fits, demo_works}
use Rattle.image_commands.proofs.demo.demo.Goals as goal

pub own_profile-requires : goal.own_profile-requires
own_profile-requires g c =
    let fits = c.ranges.functions.fits in
    let small : c.args.functions < 2 ^ 64 = omega arith in
    demo_fits c.args.functions c.args.checked.prog small c.requires.own

pub returns-in_err-profile-clause-does : goal.returns-in_err-profile-clause-does
returns-in_err-profile-clause-does g c =
    let e = err_from_is_err_and c.from_residual.result c.from_residual.ensures.1 in
    rw (e.1, e.2) (record { same_output = refl; told = []; does = λ named holds. inl (refl, ((refl, refl), refl)); tells = Tells-none g.E.Sink.seen c.args.outputs.now.err })

pub returns-in_err-profile-clause-same : goal.returns-in_err-profile-clause-same
returns-in_err-profile-clause-same g c = AllSame-refl (λ p. (goal.Pass-dyn g (p.vtable, p.value)).meaning p.value) c.args.passes.now

pub returns-in_err-made-clause-does : goal.returns-in_err-made-clause-does
returns-in_err-made-clause-does g c =
    let e = err_from_is_err_and c.from_residual-in_err-made.result c.from_residual-in_err-made.ensures.1 in
    let profile = c.in_ok-profile.profile in
    rw (e.1, e.2) (record {
      same_output = refl;
      told = [];
      does = λ named holds. inr (profile.entries, c.in_ok-profile.ensures, inl (c.in_err-made.ensures.err, (refl, refl)));
      tells = Tells-none g.E.Sink.seen c.args.outputs.now.err;
    })

pub run_made-requires : goal.run_made-requires
run_made-requires g c =
    let fits = c.ranges.functions.fits in
    let small : c.args.functions < 2 ^ 64 = omega arith in
    let l = (pass_list (λ p. (goal.Pass-dyn g (p.vtable, p.value)).meaning p.value) (λ p. (goal.Pass-dyn g (p.vtable, p.value)).counts p.value) c.args.passes.now c.transformed.new.passes c.args.names.now) in
    fits_made l c.in_ok-profile.profile.entries c.args.checked.prog c.in_ok-made.made.prog c.in_ok-made.ensures.ok (demo_is_accepted c.args.functions c.args.checked.prog small c.requires.own) [] (demo_fits c.args.functions c.args.checked.prog small c.requires.own)

pub returns-clause-does : goal.returns-clause-does
returns-clause-does g c =
    let fits = c.ranges.functions.fits in
    let small : c.args.functions < 2 ^ 64 = omega arith in
    let source = c.args.checked.prog in
    let made = c.in_ok-made.made.prog in
    let did = c.run_made.ensures in
    let size = rw c.prog.ensures.value at c.counts_of-counts.ensures in
    let l = (pass_list (λ p. (goal.Pass-dyn g (p.vtable, p.value)).meaning p.value) (λ p. (goal.Pass-dyn g (p.vtable, p.value)).counts p.value) c.args.passes.now c.transformed.new.passes c.args.names.now) in
    let entries = c.in_ok-profile.profile.entries in
    let makes : IsMade l entries source made = c.in_ok-made.ensures.ok in
    let accepted = demo_is_accepted c.args.functions source small c.requires.own in
    let alone = demo_fits c.args.functions source small c.requires.own in
    record {
      same_output = did.same_output;
      told = did.told;
      does = λ named holds. inr (
        entries,
        c.in_ok-profile.ensures,
        inr (
          made,
          makes,
          ⊎_elim inl (λ went. inr (
            (went.0, went.1, went.2),
            demo_works l entries source made makes accepted went.0 went.1 alone c.args.functions named holds _ size (status_of c.run_made.result) did.told (g.O.Sink.seen c.args.outputs.now.out.now) (g.O.Sink.seen c.run_made.new.outputs.out.now) went.3,
          )) did.does,
        ),
      );
      tells = did.tells;
    }
