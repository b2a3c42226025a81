use Rattle.variable_renaming.proofs.Functions.{live-at_start}
use Rattle.variable_renaming.proofs.tree.renamed_function.Goals as goal

pub classes-requires-clause-started : goal.classes-requires-clause-started
classes-requires-clause-started g c = live-at_start c.args.prog.now c.args.number c.args.func.now c.requires.accepted c.requires.of.there
