use Rattle.std.proofs.Common.{◌≡◌, ◌+◌, ◌<◌, ℕ, List, map, length, Some, sym, ap, subst, ◌∙◌}
use Rattle.std.specs.Prelude.{slice_get}
use Rattle.bril_tree.proofs.Elements.{get_at}
use Rattle.ssa_build.specs.code.Items.{laid_item, name_in, read_name}
use Rattle.ssa_build.specs.code.Sweep.{item_args, reached_at}
use Rattle.ssa_build.proofs.code.sweep.item_at.Goals as goal

pub returns : goal.returns
returns c =
    let l = c.args.layout.now in
    let F = l.func.now in
    let at : slice_get F.code c.args.point ≡ Some c.index-as_slice-point.result =
    get_at c.as_slice.result.now F.code c.as_slice.ensures c.args.point c.index-as_slice-point.result (subst (λ l. c.args.point < length l) (sym c.as_slice.ensures) c.requires.point) c.index-as_slice-point.is in
    let args : c.args_of.result.now ≡ item_args (slice_get F.code c.args.point) = c.args_of.ensures ∙ ap item_args (sym at) in
    let names = map (read_name l.names.now l.find.now c.args.now.now) in
    let written = name_in l.names.now (F.args + c.args.point) in
    c.in_ok-made.ensures ∙ ap (λ b. laid_item b (names c.args_of.result.now) written c.args.item) c.reached_at-reached.ensures
    ∙ ap (λ (xs : List ℕ). laid_item (reached_at (slice_get l.graph.now.sites c.args.point)) (names xs) written c.args.item) args
