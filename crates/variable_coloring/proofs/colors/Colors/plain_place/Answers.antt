use Rattle.std.proofs.Common.{◌∙◌, ap, refl, subst}
use Rattle.std.specs.Prelude.{IfNone}
use Rattle.variable_coloring.specs.Growing.{NoneFitsIn, row_at}
use Rattle.variable_coloring.proofs.colors.Colors.plain_place.Goals as goal

pub returns-in-None-clause-none : goal.returns-in-None-clause-none
returns-in-None-clause-none c = subst (λ l. IfNone c.find-in-None.result (NoneFitsIn c.args.func.now c.args.self.now.classes c.args.x c.args.turn l)) (c.row-plain.ensures ∙ ap (row_at c.args.self.now.plain) c.row_of.ensures.row) (c.find-in-None.ensures.none refl)
