-- One function more.
use Rattle.std.proofs.Common.{◌≡◌, ◌∙◌, ◌++◌, ◌∷◌, [], ap, ap₂, sym, subst, List, ℕ, append_assoc, map, take}
use Rattle.std.proofs.lemmas.Result.{err_from_is_err_and}
use Rattle.bril_tree.specs.declared.function_tree.FuncTree.{FuncTree}
use Rattle.import_linker.specs.Linked.{beside, renamed_function, renamed_item}
use Rattle.import_linker.specs.Names.{first_unknown, item_callees}
use Rattle.import_linker.specs.Refusing.{IsLack}
use Rattle.import_linker.proofs.Firsts.{found_here_in, lack_first, none_more_in, unknown-append}
use Rattle.import_linker.proofs.Repeating.{map_more}
use Rattle.import_linker.proofs.renaming.rename_functions.Goals as goal

abbrev callees_in : FuncTree → List (List ℕ)
callees_in f = item_callees f.code

pub loop-function-preserved : goal.loop-function-preserved
loop-function-preserved c =
    let names = c.args.names.now in
    let rename = beside names c.args.spelled.now in
    let f = renamed_function c.args.run c.args.number rename in
    let functions = c.args.functions.now in
    let i = c.loop-function.function-index in
    let x = c.function-item.result in
    let code = c.in_ok-code.ensures.ok ∙ ap (map (renamed_item rename)) c.as_slice-in-loop-function.ensures in
    let args = c.in_ok-args.ensures ∙ c.as_slice.ensures in
    let same : record { name = c.in_ok-name.name; args = c.in_ok-args.args; ret = x.ret; code = c.in_ok-code.code } ≡ f x =
    λ k. record { name = c.in_ok-name.ensures k; args = args k; ret = x.ret; code = code k } in
    let here = ap (first_unknown names) (ap item_callees (sym c.as_slice-in-loop-function.ensures)) ∙ c.in_ok-code.ensures.all in
    record {
      into = c.in_ok-push.ensures.ok ∙ ap₂ (λ (l : List FuncTree) (y : FuncTree). l ++ y ∷ []) c.loop-function.invariant.into same
          ∙ append_assoc c.args.into.now (map f (take i functions)) (f x ∷ [])
          ∙ ap (λ (l : List FuncTree). c.args.into.now ++ l) (sym (map_more f functions i x c.loop-function-test.true c.function-item.is));
      none = none_more_in (first_unknown names) (unknown-append names) callees_in functions i x c.loop-function-test.true c.function-item.is c.loop-function.invariant.none here;
    }

pub returns-in_err-code-clause-all : goal.returns-in_err-code-clause-all
returns-in_err-code-clause-all c =
    let names = c.args.names.now in
    let path = c.args.path.now in
    let e = err_from_is_err_and c.from_residual-in_err-code.result c.from_residual-in_err-code.ensures.1 in
    rw (e.1, e.2)
    (subst (IsLack c.in_err-code.field-0.0 path)
    (sym (found_here_in (first_unknown names) (unknown-append names) callees_in c.args.functions.now c.loop-function.function-index c.function-item.result c.loop-function-test.true c.function-item.is
    c.loop-function.invariant.none))
    (lack_first c.in_err-code.field-0.0 path _ _
    (subst (λ l. IsLack c.in_err-code.field-0.0 path (first_unknown names (item_callees l))) c.as_slice-in-loop-function.ensures c.in_err-code.ensures.all)))
