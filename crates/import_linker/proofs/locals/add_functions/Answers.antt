-- One more name.
use Rattle.std.proofs.Common.{◌≡◌, ◌∙◌, ◌<◌, ◌++◌, ◌∷◌, ap, sym, arith, length, take, drop, [], List, ℕ, ◌+◌, None}
use Rattle.std.proofs.lemmas.Result.{err_from_is_err_and}
use Rattle.bril_tree.specs.declared.function_tree.FuncTree.{FuncTree}
use Rattle.import_linker.specs.Names.{function_names, repeated_after}
use Rattle.import_linker.proofs.Repeating.{Clashes, map_more, map_split, step_err, step_names, step_none}
use Rattle.import_linker.proofs.locals.add_functions.Goals as goal

pub loop-function-preserved : goal.loop-function-preserved
loop-function-preserved c =
    let lt : c.loop-function.function-index < length c.args.functions.now = omega arith in
    let x : List ℕ = (λ (f : FuncTree). f.name) c.function-item.result in
    let before = function_names (take c.loop-function.function-index c.args.functions.now) in
    let more = map_more (λ (f : FuncTree). f.name) c.args.functions.now c.loop-function.function-index c.function-item.result lt c.function-item.is in
    let ok : c.add_local.new.names ≡ c.loop-function.names ++ x ∷ [] = c.in_ok-add_local.ensures.ok in
    let none : repeated_after c.loop-function.names (x ∷ []) ≡ None = c.in_ok-add_local.ensures.adds in
    record {
      names = step_names c.args.names.now before c.loop-function.names c.add_local.new.names (x ∷ []) c.loop-function.invariant.names ok ∙ ap (λ (l : List (List ℕ)). c.args.names.now ++ l) (sym more);
      none = ap (repeated_after c.args.names.now) more ∙ step_none c.args.names.now before c.loop-function.names (x ∷ []) c.loop-function.invariant.names c.loop-function.invariant.none none;
    }

pub returns-in_err-add_local-clause-adds : goal.returns-in_err-add_local-clause-adds
returns-in_err-add_local-clause-adds c =
    let lt : c.loop-function.function-index < length c.args.functions.now = omega arith in
    let x : List ℕ = (λ (f : FuncTree). f.name) c.function-item.result in
    let before = function_names (take c.loop-function.function-index c.args.functions.now) in
    let e = err_from_is_err_and c.from_residual.result c.from_residual.ensures.1 in
    let h : Clashes c.in_err-add_local.field-0.0 c.args.path.now c.loop-function.names (x ∷ []) = c.in_err-add_local.ensures.adds in
    rw (e.1, e.2)
    (step_err c.in_err-add_local.field-0.0 c.args.path.now c.args.names.now before c.loop-function.names (x ∷ []) (function_names (drop (c.loop-function.function-index + 1) c.args.functions.now)) _
    c.loop-function.invariant.names c.loop-function.invariant.none h (map_split (λ (f : FuncTree). f.name) c.args.functions.now c.loop-function.function-index c.function-item.result lt c.function-item.is))
