-- The file's first fault, or its functions.
use Rattle.std.proofs.Common.{◌∙◌, ◌++◌, ap, ap₂, sym, subst, length, map, List, ℕ}
use Rattle.std.proofs.lemmas.Result.{err_from_is_err_and}
use Rattle.bril_tree.specs.declared.function_tree.FuncTree.{FuncTree}
use Rattle.import_linker.specs.Linked.{beside, renamed_function}
use Rattle.import_linker.specs.Names.{callees, first_unknown}
use Rattle.import_linker.specs.Refusing.{IsLack}
use Rattle.import_linker.proofs.FileNames.{as_many, clashes, is_faultless, lacks_callee, lacks_taken}
use Rattle.import_linker.proofs.linking.link_file.Goals as goal

pub rename_functions-requires-clause-beside : goal.rename_functions-requires-clause-beside
rename_functions-requires-clause-beside c =
    ap length (c.as_slice.ensures ∙ c.in_ok-spelled.ensures.ok) ∙ as_many c.args.run c.args.paths.now c.args.number c.args.source.now ∙ sym (ap length c.in_ok-names.ensures.ok)

pub returns-in_err-names-clause-named : goal.returns-in_err-names-clause-named
returns-in_err-names-clause-named c =
    let e = err_from_is_err_and c.from_residual.result c.from_residual.ensures.1 in
    rw (e.1, e.2) (clashes c.args.tables.now c.args.paths.now c.args.source.now c.in_err-names.field-0.0 c.in_err-names.ensures.adds)

pub returns-in_err-spelled-clause-named : goal.returns-in_err-spelled-clause-named
returns-in_err-spelled-clause-named c =
    let e = err_from_is_err_and c.from_residual-in_err-spelled.result c.from_residual-in_err-spelled.ensures.1 in
    rw (e.1, e.2) (lacks_taken c.args.tables.now c.args.paths.now c.args.source.now c.in_ok-names.ensures.adds c.in_err-spelled.field-0.0 c.in_err-spelled.ensures.all)

pub returns-in_err-rename_functions-clause-named : goal.returns-in_err-rename_functions-clause-named
returns-in_err-rename_functions-clause-named c =
    let fault = c.in_err-rename_functions.field-0.0 in
    let e = err_from_is_err_and c.from_residual-in_err-rename_functions.result c.from_residual-in_err-rename_functions.ensures.1 in
    let lack = subst (IsLack fault c.args.source.now.path) (ap₂ (λ (n : List (List ℕ)) (f : List FuncTree). first_unknown n (callees f)) c.in_ok-names.ensures.ok c.as_slice-2.ensures) c.in_err-rename_functions.ensures.all in
    rw (e.1, e.2) (lacks_callee c.args.tables.now c.args.paths.now c.args.source.now c.in_ok-names.ensures.adds c.in_ok-spelled.ensures.all fault lack)

pub returns-clause-ok : goal.returns-clause-ok
returns-clause-ok c =
    let spelled = c.as_slice.ensures ∙ c.in_ok-spelled.ensures.ok in
    c.in_ok-rename_functions.ensures.ok
    ∙ (λ k. c.args.funcs.now ++ map (renamed_function c.args.run c.args.number (beside (c.in_ok-names.ensures.ok k) (spelled k))) (c.as_slice-2.ensures k))

pub returns-clause-named : goal.returns-clause-named
returns-clause-named c =
    is_faultless c.args.tables.now c.args.paths.now c.args.source.now c.in_ok-names.ensures.adds c.in_ok-spelled.ensures.all
    (sym (ap₂ (λ (n : List (List ℕ)) (f : List FuncTree). first_unknown n (callees f)) c.in_ok-names.ensures.ok c.as_slice-2.ensures) ∙ c.in_ok-rename_functions.ensures.all)
