use Rattle.std.proofs.Common.{◌≡◌, ◌-◌, arith}
use Rattle.coalesce.proofs.Finding.{adds-two, adds-none}
use Rattle.coalesce.proofs.clashes.push_clash.Goals as goal

pub returns-in_ok-push-in-Some-2 : goal.returns-in_ok-push-in-Some-2
returns-in_ok-push-in-Some-2 c =
    adds-two c.args.related.func.now.code c.args.related.marks.now c.args.x c.args.list.now.items c.push.new.self.items c.push-in-Some.new.self.items c.args.point (c.args.point - 1) c.in-Some.dest
    (let h = c.in-Some.ensures.after in omega (arith, h)) c.in-Some.ensures.some c.in-Some.ensures.alone c.in_ok-push-in-Some.ensures.items c.in_ok-push-in-Some-2.ensures.items

pub returns-in-None : goal.returns-in-None
returns-in-None c = adds-none c.args.related.func.now.code c.args.related.marks.now c.args.x c.args.list.now.items (λ p. p ≡ c.args.point) (λ item y e m clash. c.in-None.ensures.none item y e m clash)
