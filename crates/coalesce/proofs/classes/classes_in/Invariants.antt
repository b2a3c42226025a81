use Rattle.coalesce.specs.Classes.{IsRoundState}
use Rattle.coalesce.specs.Rounds.{HasCopyWithin}
use Rattle.coalesce.proofs.Starting.{AreLookedAt}
use Rattle.coalesce.proofs.classes.classes_in.Given as goal

abbrev pub invariant-loop-point : goal.invariant-loop-point
invariant-loop-point l = record {
  state : IsRoundState l.func l.related.marks.now l.classes.class.items l.classes.alone.items l.classes.shadow.items l.classes.joined;
  copied : HasCopyWithin l.func l.classes.class.items l.classes.joined;
  looked : AreLookedAt l.func l.point l.classes.joined;
}
