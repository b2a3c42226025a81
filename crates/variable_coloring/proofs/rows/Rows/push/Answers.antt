use Rattle.std.proofs.Common.{◌∙◌, ap, ◌<◌, length, subst, sym}
use Rattle.std.proofs.lemmas.List.{length-map}
use Rattle.variable_coloring.specs.Growing.{with_number}
use Rattle.variable_coloring.proofs.Heads.{pushed-row}
use Rattle.variable_coloring.proofs.rows.Rows.push.Goals as goal

pub returns : goal.returns
returns c =
    let lists = c.self.inside.lists.items in
    let low : c.args.row < length lists = subst (λ n. c.args.row < n) (ap length (sym c.self.view_is) ∙ length-map lists (λ list. list.items)) c.requires in
    pushed-row (λ list. list.items) lists c.args.row c.index_mut.result.now c.push.new.self low c.index_mut.ensures.value c.args.number c.in_ok-push.ensures.items ∙ ap (λ rows. with_number rows c.args.row c.args.number) c.self.view_is
