use Rattle.std.proofs.Common.{◌≡◌, ◌∙◌, ◌++◌, [], List, ℕ, sym, ap, arith}
use Rattle.std.specs.Prelude.{◌==◌, if◌then◌else◌, slice_get}
use Rattle.std.proofs.lemmas.Option.{get_or_from_slice_get, slice_get_within}
use Rattle.bril_tree.specs.Step.{point_of}
use Rattle.bril_tree.proofs.Elements.{All-at}
use Rattle.side_laws.specs.Sided.{exit_lines}
use Rattle.side_traces.specs.Exits.{exit_of}
use Rattle.side_traces.specs.Made.{IsExitInside}
use Rattle.side_traces.specs.Rows.{row}
use Rattle.side_traces.proofs.AllExits.{before-more}
use Rattle.side_traces.proofs.rows.exit_rows.Goals as goal

pub loop-place-preserved : goal.loop-place-preserved
loop-place-preserved c =
    let F = c.args.func.now in
    let code = c.args.code.now in
    let exits = c.args.exits.now in
    let k = c.loop-place.place in
    let w = exit_of c.exit-exit.result in
    let bail = c.exit-exit.result.pair.bail in
    let at = sym c.exit-exit.ensures in
    let inv = c.loop-place.invariant in
    let below = (All-at (IsExitInside F) exits k w c.requires.inside at).bail in
    let points = c.in_ok-points.points.items in
    let all = c.in_ok-points.ensures.all in
    let here = c.in_ok-points.ensures.table.at bail (omega (arith, all, below)) in
    let found = c.index-point.result.now in
    let point : found ≡ point_of bail F.code = c.index-point.ensures ∙ get_or_from_slice_get points bail (point_of bail F.code) found here in
    record {
      long = c.in_ok-put_exit.ensures.long ∙ inv.long;
      rows = λ i.
          before-more (slice_get code) F.labels F.code exits k w i found (row c.loop-place.rows.items i) (row c.put_exit.new.rows.items i) (slice_get_within exits k w at) (get_or_from_slice_get exits k w w at) point (inv.rows i)
          (c.in_ok-put_exit.ensures.rows i ∙ ap (λ (ls : List (List ℕ)). row c.loop-place.rows.items i ++ (if found == i then exit_lines (slice_get code) ls w else [])) c.as_slice-labels.ensures);
    }
