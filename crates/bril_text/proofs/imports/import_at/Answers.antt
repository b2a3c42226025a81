use Rattle.std.proofs.lemmas.Result.{err_from_is_err_and}
use Rattle.std.proofs.Common.{refl, ◌∙◌}
use Rattle.bril_tree.specs.Path.{ImportPath}
use Rattle.bril_text.proofs.Moves.{along}
use Rattle.bril_text.proofs.imports.import_at.Goals as goal

pub returns-in_err-path-clause-runs : goal.returns-in_err-path-clause-runs
returns-in_err-path-clause-runs c =
    let p = err_from_is_err_and c.from_residual.result c.from_residual.ensures.1 in
    λ imports. rw (p.1, p.2) (c.in_err-path.ensures.runs imports)

pub returns-in_err-terminals-clause-runs : goal.returns-in_err-terminals-clause-runs
returns-in_err-terminals-clause-runs c =
    let p = err_from_is_err_and c.from_residual-in_err-terminals.result c.from_residual-in_err-terminals.ensures.1 in
    λ imports. rw (p.1, p.2) (let path : ImportPath = record { bytes = c.in_ok-path.path.now; is_path = c.in_ok-path.ensures.path } in along c.in_err-terminals.field-0.0 (c.in_ok-path.ensures.runs imports path refl) (c.in_err-terminals.ensures.runs imports path))

pub returns-in_err-names-clause-runs : goal.returns-in_err-names-clause-runs
returns-in_err-names-clause-runs c =
    let p = err_from_is_err_and c.from_residual-in_err-names.result c.from_residual-in_err-names.ensures.1 in
    λ imports. rw (p.1, p.2) (let path : ImportPath = record { bytes = c.in_ok-path.path.now; is_path = c.in_ok-path.ensures.path } in along c.in_err-names.field-0.0 (c.in_ok-path.ensures.runs imports path refl ∙ c.in_ok-terminals.ensures.runs imports path) (c.in_err-names.ensures.runs imports path))

pub returns-clause-runs : goal.returns-clause-runs
returns-clause-runs c = λ imports.
    let path : ImportPath = record { bytes = c.in_ok-path.path.now; is_path = c.in_ok-path.ensures.path } in
    c.in_ok-path.ensures.runs imports path refl ∙ c.in_ok-terminals.ensures.runs imports path ∙ c.in_ok-names.ensures.runs imports path _ c.in_ok-text.ensures refl
