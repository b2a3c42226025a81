use Rattle.std.proofs.Common.{sym, ◌∙◌, ap, ◌≡◌, true}
use Rattle.std.specs.Prelude.{slice_get}
use Rattle.bril_tree.specs.Accepted.{leaves_frame}
use Rattle.bril_checker.proofs.Reached.{leaves_if, open_if}
use Rattle.bril_checker.proofs.walks.leaves_open.Goals as goal

pub returns-then-leaves_frame : goal.returns-then-leaves_frame
returns-then-leaves_frame c =
    let f = c.args.func.now in
    let leaves : leaves_frame (slice_get f.code c.args.point) ≡ true =
    ap (λ items. leaves_frame (slice_get items c.args.point)) (sym c.as_slice.ensures) ∙ sym c.leaves_frame.ensures ∙ c.if-leaves_frame.true in (
      leaves_if f c.args.graph.now c.requires.graph c.args.point c.open_sites.result c.open_sites.ensures.reached c.open_sites.ensures.unreached leaves c.requires.point,
      open_if f c.args.graph.now c.requires.graph c.args.point c.open_sites.result c.open_sites.ensures.reached c.open_sites.ensures.unreached c.requires.sound,
    )
