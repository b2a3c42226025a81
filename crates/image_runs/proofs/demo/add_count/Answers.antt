-- The number was added, and then the text.
use Rattle.std.proofs.Common.{◌∙◌, ◌++◌, ap}
use Rattle.image_runs.proofs.demo.add_count.Goals as goal

pub returns : goal.returns
returns c =
    let number = c.as_bytes.ensures.value ∙ c.format.ensures.text in
    c.in_ok-add-2.ensures.ok ∙ ap (λ l. l ++ c.args.text.now) (c.in_ok-add.ensures.ok ∙ ap (λ d. c.args.line.now ++ d) number)
