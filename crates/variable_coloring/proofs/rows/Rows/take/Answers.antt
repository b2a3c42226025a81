use Rattle.std.proofs.Common.{◌∙◌, ap, ◌<◌, length, set, subst, sym}
use Rattle.std.specs.List.{swap_remove}
use Rattle.std.proofs.lemmas.List.{length-map}
use Rattle.variable_coloring.specs.Growing.{row_at}
use Rattle.variable_coloring.proofs.Heads.{taken-row}
use Rattle.variable_coloring.proofs.rows.Rows.take.Goals as goal

pub returns-clause-rows : goal.returns-clause-rows
returns-clause-rows c =
    let lists = c.self.inside.lists.items in
    let low : c.args.row < length lists = subst (λ n. c.args.row < n) (ap length (sym c.self.view_is) ∙ length-map lists (λ list. list.items)) c.requires.row in
    taken-row (λ list. list.items) lists c.args.row c.index_mut.result.now c.swap_remove.new.self low c.index_mut.ensures.value c.args.place c.swap_remove.result c.swap_remove.ensures.items
    ∙ ap (λ rows. set rows c.args.row (swap_remove (row_at rows c.args.row) c.args.place c.swap_remove.result)) c.self.view_is
