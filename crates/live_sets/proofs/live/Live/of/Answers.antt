use Rattle.std.proofs.Common.{IfOk, subst}
use Rattle.live_sets.specs.Liveness.{TellsLive}
use Rattle.live_sets.proofs.Functions.{code_there, few_there, shaped_there, sound_there}
use Rattle.live_sets.proofs.live.Live.of.Goals as goal

pub live_in-requires-clause-shaped : goal.live_in-requires-clause-shaped
live_in-requires-clause-shaped c =
    shaped_there c.prog-prog.result.now c.args.prog.now.prog c.prog-prog.ensures.value c.as_slice.result.now c.as_slice.ensures c.args.func c.index-as_slice-func.result c.requires c.index-as_slice-func.is c.prog-prog.ensures.accepted

pub live_in-requires-clause-sound : goal.live_in-requires-clause-sound
live_in-requires-clause-sound c =
    sound_there c.prog-prog.result.now c.args.prog.now.prog c.prog-prog.ensures.value c.as_slice.result.now c.as_slice.ensures c.args.func c.index-as_slice-func.result c.requires c.index-as_slice-func.is c.prog-prog.ensures.accepted

pub live_in-requires-clause-few : goal.live_in-requires-clause-few
live_in-requires-clause-few c =
    few_there c.prog-prog.result.now c.args.prog.now.prog c.prog-prog.ensures.value c.as_slice.result.now c.as_slice.ensures c.args.func c.index-as_slice-func.result c.requires c.index-as_slice-func.is c.prog-prog.ensures.counted

pub returns : goal.returns
returns c =
    subst (λ code. IfOk c.live_in.result (λ live. TellsLive code live))
    (code_there c.prog-prog.result.now c.args.prog.now.prog c.prog-prog.ensures.value c.as_slice.result.now c.as_slice.ensures c.args.func c.index-as_slice-func.result c.requires c.index-as_slice-func.is) c.live_in.ensures
