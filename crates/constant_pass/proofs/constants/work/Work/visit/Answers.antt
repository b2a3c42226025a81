use Rattle.std.proofs.Common.{◌≡◌, true, length, refl, Some, sym, ap, ◌∙◌}
use Rattle.std.specs.Prelude.{slice_get}
use Rattle.std.proofs.lemmas.Option.{slice_get_read}
use Rattle.bril_tree.proofs.Elements.{All-at}
use Rattle.flow_graph.specs.Branches.{HasLabels}
use Rattle.graph_search.specs.Marks.{is_marked}
use Rattle.constant_pass.proofs.lemmas.constants.Working.{visited-by}
use Rattle.constant_pass.proofs.constants.work.Work.visit.Goals as goal

pub follow-requires-clause-here : goal.follow-requires-clause-here
follow-requires-clause-here c =
    let code = c.args.func.now.code in
    let look = rw c.as_slice-2.ensures at c.in-Some.ensures.lookup in
    slice_get_read code (length code) c.args.point c.in-Some.item.now refl look.3.0 look.1

pub follow-requires-clause-labelled : goal.follow-requires-clause-labelled
follow-requires-clause-labelled c =
    let code = c.args.func.now.code in
    let look = rw c.as_slice-2.ensures at c.in-Some.ensures.lookup in
    All-at (HasLabels (length c.args.labels.now)) code c.args.point c.in-Some.item.now c.requires.labelled (slice_get_read code (length code) c.args.point c.in-Some.item.now refl look.3.0 look.1)

pub returns-in_ok-follow-in-Some-clause-work : goal.returns-in_ok-follow-in-Some-clause-work
returns-in_ok-follow-in-Some-clause-work c = λ left w.
    let f = c.args.func.now in
    let old = c.args.self.now in
    let mid = c.assign.new.self in
    let new = c.follow.new.self in
    let one = c.in_ok-assign-in-Some.ensures in
    let two = c.in_ok-follow-in-Some.ensures in
    let look = rw c.as_slice-2.ensures at c.in-Some.ensures.lookup in
    let at : slice_get f.code c.args.point ≡ Some c.in-Some.item.now = slice_get_read f.code (length f.code) c.args.point c.in-Some.item.now refl look.3.0 look.1 in
    let reached : is_marked old.reached.items c.args.point ≡ true = ap (λ m. is_marked m c.args.point) (sym c.as_slice.ensures.value) ∙ sym c.is_marked.ensures ∙ c.if-not-is_marked.false in
    visited-by f c.requires.shaped old.known.items mid.known.items new.known.items old.reached.items mid.reached.items new.reached.items old.points.items mid.points.items new.points.items old.risen.items mid.risen.items new.risen.items
    left c.args.point c.in-Some.item.now at reached two.known two.risen one.reached one.points one.assigned two.reaches w
