-- The file was kept, and is a source, or reads as no tree.
use Rattle.std.proofs.Common.{◌≡◌, List, ℕ, Result, ap, length, refl, subst, sym}
use Rattle.std.specs.Prelude.{IfErr, IfOk}
use Rattle.bril_tree.specs.declared.tree.Tree.{Tree}
use Rattle.import_linker.specs.formats.Format.{format_of}
use Rattle.import_linker.specs.formats.Reading.{IsOnlyTree, RefusesTree}
use Rattle.import_linker.specs.declared.formats.fault.TreeFault.{TreeFault}
use Rattle.import_linker.specs.Reading.{RefusesSource}
use Rattle.import_linker.specs.declared.fault.LinkFault.{LinkFault}
use Rattle.bril_explain.specs.Kept.{KeepsRefused}
use Rattle.bril_explain.proofs.Keeping.{keeps_refused, keeps_source, source_refused}
use Rattle.bril_explain.proofs.files.read_next.Goals as goal

pub returns-in-Ok-clause-source : goal.returns-in-Ok-clause-source
returns-in-Ok-clause-source g c =
    let path = c.args.path in
    let tree = c.in-Ok.tree in
    let many : c.functions_in.result ≡ length tree.funcs = subst (λ (r : Result Tree TreeFault). IfOk r (λ t. c.functions_in.result ≡ length t.funcs)) c.in-Ok.is c.functions_in.ensures in
    let read : IsOnlyTree (format_of c.as_bytes.result.now) c.as_slice-2.result.now tree =
    subst (λ (r : Result Tree TreeFault). IfOk r (IsOnlyTree (format_of c.as_bytes.result.now) c.as_slice-2.result.now)) c.in-Ok.is c.read_tree-read.ensures.ok in
    let only : IsOnlyTree (format_of path) c.in_ok-bytes.bytes tree =
    subst (λ (p : List ℕ). IsOnlyTree (format_of p) c.in_ok-bytes.bytes tree) c.as_bytes.ensures.value (subst (λ (b : List ℕ). IsOnlyTree (format_of c.as_bytes.result.now) b tree) c.as_slice-2.ensures read) in
    keeps_source c.args.kept.now c.keep.new.kept path c.in_ok-bytes.bytes c.functions_in.result c.requires.first c.in_ok-keep.ensures.ok _ refl many only (ap length (sym c.as_slice.ensures))

pub returns-in-Err-clause-err : goal.returns-in-Err-clause-err
returns-in-Err-clause-err g c =
    let path = c.args.path in
    let refuses : RefusesTree c.in-Err.fault (format_of c.as_bytes.result.now) c.as_slice-2.result.now =
    subst (λ (r : Result Tree TreeFault). IfErr r (λ f. RefusesTree f (format_of c.as_bytes.result.now) c.as_slice-2.result.now)) c.in-Err.is c.read_tree-read.ensures.err in
    let here : RefusesTree c.in-Err.fault (format_of path) c.in_ok-bytes.bytes = subst (λ (p : List ℕ). RefusesTree c.in-Err.fault (format_of p) c.in_ok-bytes.bytes) c.as_bytes.ensures.value
    (subst (λ (b : List ℕ). RefusesTree c.in-Err.fault (format_of c.as_bytes.result.now) b) c.as_slice-2.ensures refuses) in
    subst (λ (e : LinkFault). RefusesSource e (g.F.Files.seen c.args.files.now) (g.F.Files.seen c.read_bytes.new.files) path c.args.most) (sym c.unread_as.ensures)
    (source_refused (g.F.Files.seen c.args.files.now) (g.F.Files.seen c.read_bytes.new.files) path c.in_ok-bytes.bytes c.args.most c.in_ok-bytes.ensures.held c.in_ok-bytes.ensures.short c.in-Err.fault here)

pub returns-in-Err-clause-refused : goal.returns-in-Err-clause-refused
returns-in-Err-clause-refused g c =
    let path = c.args.path in
    let refuses : RefusesTree c.in-Err.fault (format_of c.as_bytes.result.now) c.as_slice-2.result.now =
    subst (λ (r : Result Tree TreeFault). IfErr r (λ f. RefusesTree f (format_of c.as_bytes.result.now) c.as_slice-2.result.now)) c.in-Err.is c.read_tree-read.ensures.err in
    let here : RefusesTree c.in-Err.fault (format_of path) c.in_ok-bytes.bytes = subst (λ (p : List ℕ). RefusesTree c.in-Err.fault (format_of p) c.in_ok-bytes.bytes) c.as_bytes.ensures.value
    (subst (λ (b : List ℕ). RefusesTree c.in-Err.fault (format_of c.as_bytes.result.now) b) c.as_slice-2.ensures refuses) in
    subst (λ (e : LinkFault). KeepsRefused e path c.args.most c.keep.new.kept) (sym c.unread_as.ensures)
    (keeps_refused c.args.kept.now c.keep.new.kept path c.in_ok-bytes.bytes c.functions_in.result c.requires.first c.in_ok-keep.ensures.ok c.args.most c.in_ok-bytes.ensures.short c.in-Err.fault here)
