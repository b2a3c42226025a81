use Rattle.std.proofs.Common.{◌∙◌, ◌++◌, append-nil, sym, ap}
use Rattle.std.proofs.lemmas.Bool.{ltb-false}
use Rattle.std.proofs.lemmas.Option.{slice_get_past}
use Rattle.pass_edit_laws.specs.plan.Lines.{listed_item}
use Rattle.side_traces.proofs.lines.push_item.Goals as goal

pub returns-in_default : goal.returns-in_default
returns-in_default c =
    let l = c.in_default.ensures.lookup in
    sym (append-nil c.args.lines.now) ∙ ap (λ o. c.args.lines.now ++ listed_item o) (sym (slice_get_past c.args.code.now c.args.point (ltb-false c.args.point _ (sym l.0))))
