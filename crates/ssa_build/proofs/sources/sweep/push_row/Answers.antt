use Rattle.std.proofs.Common.{◌≡◌, ◌<◌, ◌+◌, ◌-◌, None, length, get_or, subst, arith}
use Rattle.std.specs.Prelude.{slice_index}
use Rattle.std.proofs.lemmas.List.{length-map}
use Rattle.std.proofs.lemmas.Option.{slice_get-get_or}
use Rattle.graph_search.specs.Adjacency.{EndsRow}
use Rattle.ssa_search.specs.declared.accesses.entries.Entry.{Entry}
use Rattle.ssa_build.specs.sources.Sweeping.{entry_key}
use Rattle.ssa_build.proofs.lemmas.sources.Adding.{row-all, row-next, row-start}
use Rattle.ssa_build.proofs.sources.sweep.push_row.Goals as goal

pub loop-end-init : goal.loop-end-init
loop-end-init c =
    let entries = c.args.entries.now in
    row-start entries c.args.wants.now c.args.now.now c.args.base c.args.key c.end-end.result c.args.operands.now.items
    (subst (λ l. EndsRow l c.args.key (length l) c.end-end.result) c.requires.rows c.end-end.ensures) (length-map entries entry_key)

pub loop-end-preserved : goal.loop-end-preserved
loop-end-preserved c =
    let entries = c.args.entries.now in
    let inv = c.loop-end.invariant in
    let positive = c.loop-end-test.true in
    let place = c.loop-end.end - 1 in
    let here : place + 1 ≡ c.loop-end.end = omega arith in
    let within = inv.within in
    let below = inv.row.within in
    let low : place < length entries = omega arith in
    let d : Entry = record { leave = None; label = 0 } in
    row-next entries c.args.wants.now c.args.now.now c.args.base c.args.key c.loop-end.end place c.before-end.result (get_or entries place d) c.args.operands.now.items c.loop-end.operands.items c.push_entry.new.operands.items here
    (slice_get-get_or entries place d low) inv (subst (λ l. EndsRow l (slice_index l place) place c.before-end.result) c.requires.rows c.before-end.ensures) c.in_ok-push_entry.ensures

pub returns : goal.returns
returns c = row-all c.args.entries.now c.args.wants.now c.args.now.now c.args.base c.args.key c.loop-end.end c.args.operands.now.items c.loop-end.operands.items (omega arith) c.loop-end.invariant
