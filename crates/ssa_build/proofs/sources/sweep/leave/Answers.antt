use Rattle.std.proofs.Common.{◌<◌, ◌+◌, length, sym, subst}
use Rattle.std.specs.List.{All}
use Rattle.ssa_search.specs.declared.accesses.entries.Entry.{Entry}
use Rattle.ssa_build.specs.sources.Sweeping.{AddsRow}
use Rattle.ssa_build.proofs.lemmas.sources.Adding.{entries-labels, operands-more, wants-above}
use Rattle.ssa_build.proofs.sources.sweep.leave.Goals as goal

pub push_row-requires-clause-labels : goal.push_row-requires-clause-labels
push_row-requires-clause-labels c =
    subst (All (λ (entry : Entry). entry.label + 1 < length c.args.wants.now.starts)) (sym c.as_slice.ensures.value)
    (entries-labels c.args.func.now.code c.args.edges.now.entries.items c.requires.edges.entries (length c.args.wants.now.starts) c.requires.wants.points)

pub push_row-requires-clause-base : goal.push_row-requires-clause-base
push_row-requires-clause-base c = wants-above c.args.func.now c.args.wants.now c.requires.wants c.args.edges.now.base c.requires.edges.base

pub returns : goal.returns
returns c =
    let edges = c.args.edges.now in
    operands-more c.args.func.now c.args.wants.now c.requires.wants c.requires.sound c.requires.tabled edges.entries.items edges.rows.count edges.base c.requires.edges c.args.now.now c.args.key c.requires.tells c.args.operands.now.items c.push_row.new.operands.items c.requires.before
    (subst (λ l. AddsRow l c.args.wants.now c.args.now.now edges.base c.args.key c.args.operands.now.items c.push_row.new.operands.items) c.as_slice.ensures.value c.in_ok-push_row.ensures)
