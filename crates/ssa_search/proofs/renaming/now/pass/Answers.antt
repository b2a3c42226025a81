use Rattle.std.proofs.Common.{Some, sym, ap, ◌∙◌}
use Rattle.bril_tree.specs.declared.numbered.Instr.TheVariants.{Act}
use Rattle.ssa_laws.specs.reaching_definitions.Told.{passed_by}
use Rattle.ssa_search.proofs.renaming.now.pass.Goals as goal

pub returns-in-Act : goal.returns-in-Act
returns-in-Act c = λ known tells a y e.
    let i = c.in-Act in
    let same = c.in-Act.is ∙ ap (λ z. Act c.in-Act.dest c.in-Act.ty c.in-Act.op z c.in-Act.funcs c.in-Act.labels) (sym c.as_slice.ensures) in
    c.act.ensures c.in-Act.ty c.in-Act.funcs c.in-Act.labels known tells a y (ap (λ z. passed_by (Some z) c.args.written known a) (sym same) ∙ e)
