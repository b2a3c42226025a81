-- One more name.
use Rattle.std.proofs.Common.{◌≡◌, ◌∙◌, ◌<◌, ◌++◌, ◌∷◌, ap, sym, subst, arith, length, take, drop, [], List, ℕ, ◌+◌, None}
use Rattle.std.proofs.lemmas.Result.{err_from_is_err_and}
use Rattle.import_linker.specs.Names.{names_taken, local_name, repeated_after}
use Rattle.import_linker.proofs.Repeating.{Clashes, map_more, map_split, step_err, step_names, step_none}
use Rattle.import_linker.proofs.locals.add_taken.Goals as goal

pub loop-function-preserved : goal.loop-function-preserved
loop-function-preserved c =
    let lt : c.loop-function.function-index < length c.args.taken.now = omega arith in
    let x : List ℕ = local_name c.function-item.result in
    let before = names_taken (take c.loop-function.function-index c.args.taken.now) in
    let more = map_more local_name c.args.taken.now c.loop-function.function-index c.function-item.result lt c.function-item.is in
    let ok : c.add_local.new.names ≡ c.loop-function.names ++ x ∷ [] = c.in_ok-add_local.ensures.ok ∙ ap (λ (n : List ℕ). c.loop-function.names ++ n ∷ []) c.local_name.ensures in
    let none : repeated_after c.loop-function.names (x ∷ []) ≡ None = ap (λ (n : List ℕ). repeated_after c.loop-function.names (n ∷ [])) (sym c.local_name.ensures) ∙ c.in_ok-add_local.ensures.adds in
    record {
      names = step_names c.args.names.now before c.loop-function.names c.add_local.new.names (x ∷ []) c.loop-function.invariant.names ok ∙ ap (λ (l : List (List ℕ)). c.args.names.now ++ l) (sym more);
      none = ap (repeated_after c.args.names.now) more ∙ step_none c.args.names.now before c.loop-function.names (x ∷ []) c.loop-function.invariant.names c.loop-function.invariant.none none;
    }

pub returns-in_err-add_local-clause-adds : goal.returns-in_err-add_local-clause-adds
returns-in_err-add_local-clause-adds c =
    let lt : c.loop-function.function-index < length c.args.taken.now = omega arith in
    let x : List ℕ = local_name c.function-item.result in
    let before = names_taken (take c.loop-function.function-index c.args.taken.now) in
    let e = err_from_is_err_and c.from_residual.result c.from_residual.ensures.1 in
    let h : Clashes c.in_err-add_local.field-0.0 c.args.path.now c.loop-function.names (x ∷ []) = subst (λ (n : List ℕ). Clashes c.in_err-add_local.field-0.0 c.args.path.now c.loop-function.names (n ∷ [])) c.local_name.ensures c.in_err-add_local.ensures.adds in
    rw (e.1, e.2)
    (step_err c.in_err-add_local.field-0.0 c.args.path.now c.args.names.now before c.loop-function.names (x ∷ []) (names_taken (drop (c.loop-function.function-index + 1) c.args.taken.now)) _
    c.loop-function.invariant.names c.loop-function.invariant.none h (map_split local_name c.args.taken.now c.loop-function.function-index c.function-item.result lt c.function-item.is))
