use Rattle.variable_coloring.proofs.Fitting.{IsBest}
use Rattle.variable_coloring.proofs.classes.Classes.find.Given as goal

abbrev pub invariant-loop-place : goal.invariant-loop-place
invariant-loop-place l = IsBest l.func l.self.placed.items l.self.class.items l.self.shadow.items l.self.stamps.items l.x l.turn l.heads l.any l.place l.best l.found
