use Rattle.std.proofs.Common.{◌≡◌, ◌↔◌, ◌<◌, ℕ, subst, arith}
use Rattle.std.specs.List.{Contains}
use Rattle.dead_code.proofs.Queueing.{one-number}
use Rattle.dead_code.proofs.work.numbers_below.Goals as goal

pub loop-n-preserved : goal.loop-n-preserved
loop-n-preserved c = one-number c.loop-n.numbers.items c.push.new.self.items c.loop-n.n c.loop-n.invariant c.in_ok-push.ensures.items

pub returns : goal.returns
returns c =
    let all : c.loop-n.n ≡ c.args.count = omega arith in
    subst (λ k. (m : ℕ) → Contains c.loop-n.numbers.items m ↔ (m < k)) all c.loop-n.invariant
