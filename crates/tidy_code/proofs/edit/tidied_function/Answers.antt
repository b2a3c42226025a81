use Rattle.tidy_code.proofs.Turns.{loop-more}
use Rattle.tidy_code.proofs.edit.tidied_function.Goals as goal

pub loop-item-preserved : goal.loop-item-preserved
loop-item-preserved c =
    loop-more c.args.func.now.code c.loop-item.yielded c.loop-item.code c.push_if.new.code c.in-Some.item c.loop-item.point c.stays-staying.result
    c.loop-item.invariant c.stays-staying.ensures c.in_ok-push_if.ensures
