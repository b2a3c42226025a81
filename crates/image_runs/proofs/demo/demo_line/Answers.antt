-- The pieces were added one after another.
use Rattle.std.proofs.Common.{◌∙◌, ◌++◌, ap}
use Rattle.std.specs.Prelude.{codes}
use Rattle.image_runs.proofs.Demos.{line_added}
use Rattle.image_runs.specs.Demo.{size_seen}
use Rattle.image_runs.proofs.demo.demo_line.Goals as goal

pub returns : goal.returns
returns c =
    line_added (size_seen c.args.counts) c.args.bytes c.args.end _ _ _ _ _ _ _
    (c.in_ok-add.ensures.ok ∙ ap (λ l. l ++ codes "demo ") c.new-line.ensures)
    c.in_ok-add_count.ensures
    c.in_ok-add_count-2.ensures
    c.in_ok-add_count-3.ensures
    c.in_ok-add_count-4.ensures
    (c.in_ok-add-2.ensures.ok ∙ ap (λ d. c.add_count-4.new.line ++ d) c.shown_status.ensures)
    c.in_ok-add-3.ensures.ok
