use Rattle.std.proofs.Common.{◌≡◌, ◌+◌, ◌<◌, ◌++◌, ◌∷◌, [], ◌∙◌, length, set, refl, ap, arith, length-set}
use Rattle.rv64_emit.specs.LiveVariables.{row}
use Rattle.rv64_emit.proofs.LiveVariables.{rows_begin, rows_passed, rows_pushed}
use Rattle.rv64_emit.proofs.live_variables.add_variable.Goals as goal

pub loop-point-init : goal.loop-point-init
loop-point-init c =
    let live = c.args.live.now in
    let rows = c.args.rows.now.items in
    let next = c.next_point-point in
    record {
      long = refl;
      within = omega (arith, next.ensures.within, c.len.ensures);
      live = λ low. next.ensures.live (omega (arith, low, c.len.ensures));
      rows = rows_passed live c.args.variable 0 next.result rows (omega arith) (λ k high low told. next.ensures.none k high low told) (rows_begin live c.args.variable rows c.requires.rows);
    }

pub loop-point-preserved : goal.loop-point-preserved
loop-point-preserved c =
    let live = c.args.live.now in
    let rows = c.loop-point.rows.items in
    let more = c.push_variable.new.rows.items in
    let at = c.loop-point.point in
    let next = c.next_point-point-in-loop-point in
    let inv = c.loop-point.invariant in
    let inside : at < length rows = omega (arith, c.loop-point-test.true, c.len-in-loop-point.ensures) in
    let pushed : more ≡ set rows at (row rows at ++ c.args.variable ∷ []) = c.in_ok-push_variable.ensures in
    record {
      long = ap length pushed ∙ (length-set rows at (row rows at ++ c.args.variable ∷ []) ∙ inv.long);
      within = omega (arith, next.ensures.within, c.len-in-loop-point-2.ensures);
      live = λ low. next.ensures.live (omega (arith, low, c.len-in-loop-point-2.ensures));
      rows = rows_passed live c.args.variable (at + 1) next.result more next.ensures.from (λ k high low told. next.ensures.none k high low told) (rows_pushed live c.args.variable at rows more inside (inv.live inside) pushed inv.rows);
    }
