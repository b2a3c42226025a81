use Rattle.std.proofs.Common.{ℕ, ◌||◌, length, ap, ◌∙◌}
use Rattle.std.specs.List.{list_any}
use Rattle.bril_tree.specs.FrameWords.{names_shadow}
use Rattle.bril_checker.proofs.Marked.{marks_counted}
use Rattle.bril_checker.proofs.frames.count_named.Goals as goal

pub returns-clause-count : goal.returns-clause-count
returns-clause-count c =
    let named = λ (x : ℕ). list_any (names_shadow x) c.args.items.now in
    c.count_marks.ensures
    ∙ marks_counted named c.mark_all.new.marks (length c.args.marks.now) c.mark_all.auto.marks
    (λ k h. c.mark_all.ensures k h ∙ ap (λ b. b || named k) (c.requires k h))
