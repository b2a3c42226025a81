use Rattle.coalesce.proofs.Starting.{round-classes}
use Rattle.coalesce.proofs.round.RoundClassesRenaming.classes.Goals as goal

pub returns-clause-known : goal.returns-clause-known
returns-clause-known c = round-classes c.args.func.now c.in_ok-classes.classes.class.items c.in_ok-classes.classes.joined c.in_ok-classes.ensures.linked c.in_ok-classes.ensures.copied c.in_ok-classes.ensures.none
