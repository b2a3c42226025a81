use Rattle.variable_renaming.proofs.Made.{can-be_made}
use Rattle.coalesce.specs.Rounds.{AreRoundClasses}
use Rattle.coalesce.proofs.Made.{next-round}
use Rattle.coalesce.proofs.merge.first_round.Goals as goal

pub finish-requires-clause-made : goal.finish-requires-clause-made
finish-requires-clause-made c = can-be_made c.args.prog.now AreRoundClasses c.requires.accepted c.in_ok-round.round.tree c.in_ok-round.ensures.tree c.requires.counted

pub returns : goal.returns
returns c = next-round c.args.prog.now c.requires.accepted c.in_ok-round.round.tree c.in_ok-round.ensures.tree c.in_ok-made.made.prog c.in_ok-made.ensures.numbered c.in_ok-made.ensures.size
