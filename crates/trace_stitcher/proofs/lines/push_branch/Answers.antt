use Rattle.std.proofs.Common.{◌+◌, ◌++◌, ◌∙◌, refl, sym, ap}
use Rattle.std.specs.Prelude.{slice_get}
use Rattle.trace_paths.specs.Path.{Turn}
use Rattle.trace_stitcher.specs.Legs.{one_leg}
use Rattle.trace_stitcher.proofs.Legs.{passed-leg}
use Rattle.trace_stitcher.proofs.lines.push_branch.Goals as goal

pub returns-clause-lines : goal.returns-clause-lines
returns-clause-lines c = λ names are.
    let s = c.args.source.now in
    let tree = slice_get s.code.now in
    let p = c.args.point in
    let base = c.in_ok-base.base in
    c.in_ok-push_passed.ensures
    ∙ ap (λ l. c.args.lines.now ++ l) (passed-leg tree s.variables.now s.number c.args.nots p (c.args.nots + 1) s.bail.now c.in_ok-name.name base.items names are refl c.in_ok-base.ensures.is c.in_ok-name.ensures)
    ∙ ap (λ choice. c.args.lines.now ++ one_leg tree names c.args.nots (Turn p choice)) (sym c.if-choice.false)
