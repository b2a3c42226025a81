use Rattle.std.proofs.Common.{Some, sym, subst}
use Rattle.bril_tree.specs.declared.numbered.Instr.TheVariants.{Act}
use Rattle.ssa_laws.specs.reaching_definitions.Told.{passed_by}
use Rattle.ssa_search.specs.renaming.Tells.{TellsNow}
use Rattle.ssa_search.proofs.lemmas.renaming.Passing.{plain-op, within-op, plain-tells}
use Rattle.ssa_search.proofs.renaming.now.act.Goals as goal

pub returns-in_default : goal.returns-in_default
returns-in_default c = λ ty funcs labels known tells.
    subst (TellsNow (passed_by (Some (Act c.args.dest ty c.args.op c.args.args.now funcs labels)) c.args.written known)) (sym c.assign.ensures)
    (plain-tells known c.args.definitions.now tells c.args.op c.args.dest ty c.args.args.now funcs labels c.args.written (plain-op c.args.op c.args.dest ty c.args.args.now funcs labels c.in_default.not-Set c.in_default.not-Get) (within-op _ c.args.op c.args.dest c.args.args.now c.in_default.not-Set c.requires.within))
