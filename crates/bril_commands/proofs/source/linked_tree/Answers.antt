-- The tree is that of the files, or their fault has its status.
use Rattle.std.proofs.Common.{refl, subst, ℕ, List}
use Rattle.std.proofs.lemmas.Result.{err_from_is_err_and}
use Rattle.bril_report.specs.StageFaults.{link_status}
use Rattle.import_linker.specs.declared.fault.LinkFault.TheVariants as link
use Rattle.import_linker.specs.Linked.{Linked}
use Rattle.bril_commands.specs.Source.{WithImports}
use Rattle.bril_commands.proofs.Reading.{RefusesTree-of}
use Rattle.bril_commands.proofs.source.linked_tree.Goals as goal

pub returns-in_err-path-clause-err : goal.returns-in_err-path-clause-err
returns-in_err-path-clause-err g c =
    let e = err_from_is_err_and c.from_residual.result c.from_residual.ensures.1 in
    rw (e.1, e.2) (link.Memory, refl, tt)

pub returns-in_err-tree-clause-err : goal.returns-in_err-tree-clause-err
returns-in_err-tree-clause-err g c =
    let e = err_from_is_err_and c.from_residual-in_err-tree.result c.from_residual-in_err-tree.ensures.1 in
    let why = c.in_err-tree.field-0.0 in
    rw (e.1, e.2) (RefusesTree-of WithImports why (link_status why) _ _ _ c.in_ok-path.path c.in_ok-path.ensures refl c.in_err-tree.ensures.err)

pub returns-clause-ok : goal.returns-clause-ok
returns-clause-ok g c = subst (λ (p : List ℕ). Linked (g.F.Files.seen c.args.files.now).holds p c.in_ok-tree.tree) c.in_ok-path.ensures c.in_ok-tree.ensures.ok
