use Rattle.std.proofs.Common.{◌∙◌, ap, subst}
use Rattle.variable_coloring.specs.Growing.{NoneFitsIn, row_at}
use Rattle.variable_coloring.proofs.Heads.{none-plain}
use Rattle.variable_coloring.proofs.colors.Colors.fitting.Goals as goal

pub returns-in-None-find-clause-none : goal.returns-in-None-find-clause-none
returns-in-None-find-clause-none c = λ any.
    let now = c.args.self.now in
    none-plain c.args.func.now c.args.x now.classes.placed.items now.classes.class.items now.classes.shadow.items now.shadowed now.plain c.requires.looking.heads c.args.turn now.classes.stamps.items
    (subst (NoneFitsIn c.args.func.now now.classes c.args.x c.args.turn) (c.row-shadowed.ensures ∙ ap (row_at now.shadowed) c.row_of-row.ensures.row) (c.in-None.ensures.none any))
    (subst (NoneFitsIn c.args.func.now now.classes c.args.x c.args.turn) (c.row-plain.ensures ∙ ap (row_at now.plain) c.row_of-row.ensures.row) (c.in-None-find.ensures.none any))
