use Rattle.coalesce.proofs.Joining.{misfits-apart, misfits-other}
use Rattle.coalesce.proofs.Looking.{turned-look}
use Rattle.coalesce.proofs.classes.Classes.look_at_copy.Goals as goal

pub join-requires-then-may_move-2-clause-may : goal.join-requires-then-may_move-2-clause-may
join-requires-then-may_move-2-clause-may c = turned-look c.args.related.func.now c.args.related.marks.now c.args.clashes.now.list.items c.args.self.now.class.items c.args.self.now.alone.items c.args.self.now.shadow.items c.args.self.now.joined c.args.x c.args.y c.requires.may

pub returns-then-may_move-clause-apart : goal.returns-then-may_move-clause-apart
returns-then-may_move-clause-apart c = λ e a.
    misfits-apart c.args.related.func.now c.args.related.marks.now c.args.clashes.now.list.items c.requires.may.clashes c.args.self.now.class.items c.args.self.now.alone.items c.args.self.now.shadow.items c.args.self.now.joined c.requires.may.state
    (c.in_ok-join.ensures.next.kept e) c.args.x c.args.y (c.in_ok-join.ensures.misfits e) a

pub returns-in_ok-join-2-clause-apart : goal.returns-in_ok-join-2-clause-apart
returns-in_ok-join-2-clause-apart c = λ e a.
    misfits-other c.args.related.func.now c.args.related.marks.now c.args.clashes.now.list.items c.requires.may.clashes c.args.self.now.class.items c.args.self.now.alone.items c.args.self.now.shadow.items c.args.self.now.joined c.requires.may.state
    (c.in_ok-join-2.ensures.next.kept e) c.args.x c.args.y (c.in_ok-join-2.ensures.misfits e) a
