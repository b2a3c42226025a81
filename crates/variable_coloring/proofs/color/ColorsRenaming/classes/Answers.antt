use Rattle.std.proofs.lemmas.Result.{IfOk-weaker}
use Rattle.variable_renaming.specs.Classes.{AreSoundClasses}
use Rattle.variable_coloring.proofs.Made.{colors-sound}
use Rattle.variable_coloring.proofs.color.ColorsRenaming.classes.Goals as goal

pub returns-clause-are : goal.returns-clause-are
returns-clause-are c = IfOk-weaker c.colors_in.result _ (λ class. AreSoundClasses c.args.func.now class.items) (λ class are. colors-sound c.args.func.now class.items are) c.colors_in.ensures
