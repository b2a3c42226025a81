use Rattle.std.proofs.Common.{inr}
use Rattle.coalesce.proofs.Looking.{put-next, put-within}
use Rattle.coalesce.proofs.classes.Classes.join.Goals as goal

pub returns-then-branch-clause-next : goal.returns-then-branch-clause-next
returns-then-branch-clause-next c =
    put-next c.args.related.func.now c.args.related.marks.now c.args.clashes.now.list.items c.args.self.now.class.items c.args.self.now.alone.items c.args.self.now.shadow.items c.args.self.now.joined
    c.args.x c.args.y c.requires.may c.requires.alone c.requires.past c.class_of-class.result c.class_of-class.ensures (c.in_ok-fits.ensures.fits c.if-branch.true)
    c.put.new.self.class.items c.put.new.self.alone.items c.put.new.self.shadow.items c.put.new.self.joined c.put.ensures.class c.put.ensures.alone c.put.ensures.shadow c.put.ensures.joined

pub returns-then-branch-clause-within : goal.returns-then-branch-clause-within
returns-then-branch-clause-within c = λ _.
    inr (put-within c.args.related.func.now c.args.related.marks.now c.args.clashes.now.list.items c.args.self.now.class.items c.args.self.now.alone.items c.args.self.now.shadow.items c.args.self.now.joined
    c.args.x c.args.y c.requires.may c.requires.alone c.requires.past c.class_of-class.result c.class_of-class.ensures (c.in_ok-fits.ensures.fits c.if-branch.true)
    c.put.new.self.class.items c.put.ensures.class)
