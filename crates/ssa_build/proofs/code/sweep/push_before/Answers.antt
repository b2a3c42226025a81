use Rattle.std.proofs.Common.{◌++◌, List, ap, ◌∙◌}
use Rattle.bril_tree.specs.declared.numbered.Instr.{Instr}
use Rattle.ssa_build.specs.code.Layout.{view_of}
use Rattle.ssa_build.specs.code.Sweep.{falls_at, sets_falling, sets_leaving}
use Rattle.ssa_build.proofs.lemmas.code.Pushing.{three}
use Rattle.ssa_build.proofs.code.sweep.push_before.Goals as goal

pub returns : goal.returns
returns c =
    let l = view_of c.args.layout.now in
    let now = c.args.now.now in
    let sites = c.args.layout.now.graph.now.sites in
    let second =
    c.in_ok-push_falling.ensures
    ∙ ap (λ b. c.push_gets_before.new.code ++ sets_falling l now b c.args.point) (c.falls_at-falls.ensures ∙ ap (λ (code : List Instr). falls_at code sites c.args.point) c.as_slice-code.ensures) in
    let third = c.in_ok-push_leaving.ensures ∙ ap (λ row. c.push_falling.new.code ++ sets_leaving l now row) c.labels_at-labels.ensures in
    three c.args.made.now _ _ _ c.push_gets_before.new.code c.push_falling.new.code c.push_leaving.new.code c.in_ok-push_gets_before.ensures second third
