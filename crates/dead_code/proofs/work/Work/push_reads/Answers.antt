use Rattle.std.proofs.Common.{[], ◌∙◌, refl, get_or, arith}
use Rattle.std.proofs.lemmas.List.{get_or_default, take_all}
use Rattle.dead_code.proofs.Queueing.{IsAmong, all-queued, among-none, queues-none, read-queued}
use Rattle.dead_code.proofs.work.Work.push_reads.Goals as goal

pub loop-read-init : goal.loop-read-init
loop-read-init c = record {
  dead = refl;
  queued = queues-none (IsAmong []) c.args.self.now.queue.items c.args.self.now.queued.items c.requires among-none;
}

pub push-requires : goal.push-requires
push-requires c = c.loop-read.invariant.queued.are

pub returns-in_err-push-clause-dead : goal.returns-in_err-push-clause-dead
returns-in_err-push-clause-dead c = c.push.ensures.dead ∙ c.loop-read.invariant.dead

pub loop-read-preserved : goal.loop-read-preserved
loop-read-preserved c =
    let inv = c.loop-read.invariant in
    let reads = c.as_slice-read-items.result.now in
    let i = c.loop-read.read-index in
    record {
      dead = c.push.ensures.dead ∙ inv.dead;
      queued = read-queued reads i (get_or reads i (record { item = 0; location = 0 })) c.args.self.now.queue.items c.loop-read.self.queue.items c.push.new.self.queue.items c.args.self.now.queued.items c.loop-read.self.queued.items c.push.new.self.queued.items c.loop-read-test.true (get_or_default reads i (record { item = 0; location = 0 }) (get_or reads i (record { item = 0; location = 0 })) c.loop-read-test.true) inv.queued c.in_ok-push.ensures.queued;
    }

pub returns-clause-dead : goal.returns-clause-dead
returns-clause-dead c = c.loop-read.invariant.dead

pub returns-clause-queued : goal.returns-clause-queued
returns-clause-queued c =
    let reads = c.as_slice-read-items.result.now in
    let i = c.loop-read.read-index in
    all-queued c.args.item c.args.instr.now reads i c.args.self.now.queue.items c.loop-read.self.queue.items c.args.self.now.queued.items c.loop-read.self.queued.items (c.as_slice-read-items.ensures.value ∙ c.in_ok-reads.ensures) (take_all i reads (omega arith)) (omega arith) c.loop-read.invariant.queued
