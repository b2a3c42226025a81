use Rattle.std.proofs.lemmas.Result.{err_from_is_err_and}
use Rattle.std.proofs.Common.{◌≡◌, ◌∷◌, sym, ap, ◌∙◌, arith, rules}
use Rattle.bril_grammar.specs.Machine.{run}
use Rattle.bril_grammar.specs.State.{AtItem}
use Rattle.bril_grammar.specs.Terminal.{Name, Label, terminals_of}
use Rattle.bril_text.specs.Parse.{begun_with}
use Rattle.bril_text.proofs.Moves.{along}
use Rattle.bril_text.proofs.items.items_at.Goals as goal

pub returns-in_err-item-in-Some-Label-default-clause-runs : goal.returns-in_err-item-in-Some-Label-default-clause-runs
returns-in_err-item-in-Some-Label-default-clause-runs c =
    let p = err_from_is_err_and c.from_residual.result c.from_residual.ensures.1 in
    let first : terminals_of c.items.terminals ≡ Label c.in-Some-Label-default.text.now ∷ terminals_of c.in-Some-Label-default.rest = search rules in
    λ imports funcs name args ret. rw (p.1, p.2) (along c.in_err-item-in-Some-Label-default.field-0.0
    (c.items.invariant.same imports funcs name args ret ∙ ap (run (AtItem (begun_with imports funcs name args ret c.items.code))) first)
    (c.in_err-item-in-Some-Label-default.ensures.runs (begun_with imports funcs name args ret c.items.code)))

pub items-preserved-in-Label-1 : goal.items-preserved-in-Label-1
items-preserved-in-Label-1 c =
    let first : terminals_of c.items.terminals ≡ Label c.in-Some-Label-default.text.now ∷ terminals_of c.in-Some-Label-default.rest = search rules in
    record {
      same = λ imports funcs name args ret.
          c.items.invariant.same imports funcs name args ret ∙ ap (run (AtItem (begun_with imports funcs name args ret c.items.code))) first
          ∙ c.in_ok-item-in-Some-Label-default.ensures.runs (begun_with imports funcs name args ret c.items.code)
          ∙ ap (λ code. run (AtItem (begun_with imports funcs name args ret code)) (terminals_of c.in_ok-item-in-Some-Label-default.after)) (sym c.in_ok-push-in-Some-Label-default.ensures.ok);
      shorter = omega (arith, c.in_ok-item-in-Some-Label-default.ensures.shorter, c.in-Some-Label-default.ensures.longer);
    }

pub returns-in_err-item-in-Some-Name-default-clause-runs : goal.returns-in_err-item-in-Some-Name-default-clause-runs
returns-in_err-item-in-Some-Name-default-clause-runs c =
    let p = err_from_is_err_and c.from_residual-in_err-item-in-Some-Name-default.result c.from_residual-in_err-item-in-Some-Name-default.ensures.1 in
    let first : terminals_of c.items.terminals ≡ Name c.in-Some-Name-default.text.now ∷ terminals_of c.in-Some-Name-default.rest = search rules in
    λ imports funcs name args ret. rw (p.1, p.2) (along c.in_err-item-in-Some-Name-default.field-0.0
    (c.items.invariant.same imports funcs name args ret ∙ ap (run (AtItem (begun_with imports funcs name args ret c.items.code))) first)
    (c.in_err-item-in-Some-Name-default.ensures.runs (begun_with imports funcs name args ret c.items.code)))
