use Rattle.std.proofs.Common.{◌<◌, length, sym, ap, ◌∙◌, subst}
use Rattle.std.specs.List.{All}
use Rattle.ssa_build.specs.declared.trivial_phis.operands.Operand.{Operand}
use Rattle.ssa_build.proofs.lemmas.sources.Swept.{are-operands, froms-below, gets-below}
use Rattle.ssa_build.proofs.sources.sweep.operands_of.Goals as goal

pub operand_rows-requires : goal.operand_rows-requires
operand_rows-requires c =
    subst (λ l. All (λ (o : Operand). o.get < length l) c.in_ok-list.list.items) (sym c.list.ensures) (gets-below c.args.func.now c.args.wants.now c.requires.sweepable.wants c.requires.sweepable.sound c.requires.sweepable.tabled c.in_ok-list.list.items c.in_ok-list.ensures)

pub returns-clause-operands : goal.returns-clause-operands
returns-clause-operands c = are-operands c.args.func.now c.args.wants.now c.requires.sweepable.wants c.requires.sweepable.sound c.requires.sweepable.tabled c.in_ok-list.list.items c.in_ok-list.ensures c.in_ok-operands.operands c.in_ok-operands.ensures.list (c.in_ok-operands.ensures.gets ∙ ap length c.list.ensures)

pub returns-clause-within : goal.returns-clause-within
returns-clause-within c = froms-below c.args.func.now c.args.wants.now c.requires.sweepable.wants c.requires.sweepable.sound c.requires.sweepable.tabled c.in_ok-list.list.items c.in_ok-list.ensures c.in_ok-operands.operands c.in_ok-operands.ensures.list (c.in_ok-operands.ensures.gets ∙ ap length c.list.ensures)
