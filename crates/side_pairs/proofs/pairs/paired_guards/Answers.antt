use Rattle.std.proofs.Common.{List, length, sym, subst}
use Rattle.bril_tree.specs.declared.numbered.Instr.{Instr}
use Rattle.side_pairs.specs.Tables.{IsPointTable}
use Rattle.side_pairs.proofs.Tables.{point-table}
use Rattle.side_pairs.proofs.pairs.paired_guards.Goals as goal

pub all_pairs-requires-clause-points : goal.all_pairs-requires-clause-points
all_pairs-requires-clause-points c =
    let F = c.args.func.now in
    let p = c.in_ok-points in
    subst (λ ps. IsPointTable c.as_slice-code.result.now ps) (sym c.as_slice.ensures.value)
    (subst (λ (code : List Instr). IsPointTable code p.points.items) (sym c.as_slice-code.ensures) (point-table F.code p.points.items (length F.labels) F.formed.placed p.ensures.all p.ensures.table))
