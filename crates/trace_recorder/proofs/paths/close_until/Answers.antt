use Rattle.std.proofs.Common.{◌<◌, length, refl, sym, ◌∙◌, arith}
use Rattle.std.proofs.lemmas.List.{length-set}
use Rattle.trace_recorder.proofs.AllEntries.{ending_ended, ending_next, ending_until}
use Rattle.trace_recorder.proofs.paths.close_until.Goals as goal

pub loop-k-init : goal.loop-k-init
loop-k-init c = record { held = sym (ending_ended c.args.end c.args.from c.args.held.now.items c.requires.ended); below = λ h. h; stays = λ h. refl; long = refl; capacity = refl }

pub loop-k-preserved : goal.loop-k-preserved
loop-k-preserved c =
    let less : c.loop-k.k < length c.loop-k.held.items = (let a = c.loop-k-test.true in let b = c.requires.within in let l = c.loop-k.invariant.long in omega arith) in
    record {
      held = ending_next c.args.end c.loop-k.k c.loop-k.held.items c.args.held.now.items c.index_mut.result.now c.close.new.self c.loop-k.invariant.held less c.index_mut.ensures.value c.close.ensures;
      below = λ h. let t = c.loop-k-test.true in omega arith;
      stays = λ h. let t = c.loop-k-test.true in let s = c.loop-k.invariant.stays h in absurd (omega arith);
      long = length-set c.loop-k.held.items c.loop-k.k c.close.new.self ∙ c.loop-k.invariant.long;
      capacity = c.loop-k.invariant.capacity;
    }

pub returns-clause-held : goal.returns-clause-held
returns-clause-held c =
    c.loop-k.invariant.held
    ∙ ending_until c.args.end c.args.from c.args.front c.loop-k.k c.args.held.now.items c.requires.ended
    (let a = c.loop-k-test.false in omega arith) (let a = c.loop-k.auto.k in omega arith)
    (λ h. let a = c.loop-k-test.false in let b = c.loop-k.invariant.below h in omega arith) (λ h. c.loop-k.invariant.stays h)
