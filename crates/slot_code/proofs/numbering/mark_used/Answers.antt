use Rattle.std.proofs.Common.{◌||◌, false, length, ap, ◌∙◌}
use Rattle.std.proofs.lemmas.List.FromFn.{fill_by_all}
use Rattle.slot_code.specs.Numbering.{is_used}
use Rattle.slot_code.proofs.numbering.mark_used.Goals as goal

pub returns : goal.returns
returns c =
    let used = is_used c.args.items.now in
    fill_by_all used c.mark_items.new.marks (length c.args.marks.now) false c.mark_items.auto.marks
    (λ k less. c.mark_items.ensures k less ∙ ap (λ b. b || used k) (c.requires k less))
