-- The files are read, and then linked.
use Rattle.std.proofs.Common.{subst, List}
use Rattle.std.proofs.lemmas.Result.{err_from_is_err_and}
use Rattle.import_linker.specs.Linked.{IsTreeOf}
use Rattle.import_linker.specs.Names.{fault_from}
use Rattle.import_linker.specs.Refusing.{RefusesNames}
use Rattle.import_linker.specs.declared.sources.Source.{Source}
use Rattle.import_linker.proofs.Refusals.{by_names, by_reading}
use Rattle.import_linker.proofs.linking.link.Goals as goal

pub returns-in_err-read-clause-err : goal.returns-in_err-read-clause-err
returns-in_err-read-clause-err g c =
    let e = err_from_is_err_and c.from_residual.result c.from_residual.ensures.1 in
    rw (e.1, e.2) (by_reading (g.F.Files.seen c.args.files.now) (g.F.Files.seen c.read_sources.new.files) c.args.root.now c.in_err-read.field-0.0 c.in_err-read.ensures.err)

pub returns-in_err-tree-clause-err : goal.returns-in_err-tree-clause-err
returns-in_err-tree-clause-err g c =
    let fault = c.in_err-tree.field-0.0 in
    let e = err_from_is_err_and c.from_residual-in_err-tree.result c.from_residual-in_err-tree.ensures.1 in
    rw (e.1, e.2)
    (by_names (g.F.Files.seen c.args.files.now) (g.F.Files.seen c.read_sources.new.files) c.args.root.now fault c.in_ok-read.read.sources c.in_ok-read.ensures.ok
    (subst (λ (l : List Source). RefusesNames fault (fault_from l 0 l)) c.as_slice.ensures c.in_err-tree.ensures.named))

pub returns-clause-ok : goal.returns-clause-ok
returns-clause-ok g c = record {
  sources = c.in_ok-read.read.sources;
  files = c.in_ok-read.ensures.ok;
  links = subst (λ (l : List Source). IsTreeOf l c.in_ok-tree.tree) c.as_slice.ensures c.in_ok-tree.ensures.ok;
}

pub returns-clause-times : goal.returns-clause-times
unfolding returns-clause-ok
returns-clause-times g c = record { linked = returns-clause-ok g c; times = c.in_ok-read.ensures.times }
