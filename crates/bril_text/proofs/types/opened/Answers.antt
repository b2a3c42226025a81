use Rattle.std.proofs.Common.{◌≡◌, suc, ◌∷◌, ap, sym, ◌∙◌, arith, rules, add-one}
use Rattle.std.proofs.lemmas.Result.{err_from_is_err_and}
use Rattle.bril_grammar.specs.Machine.{run}
use Rattle.bril_grammar.specs.State.{AtType}
use Rattle.bril_grammar.specs.Terminal.{Name, terminals_of}
use Rattle.bril_text.proofs.Moves.{along, base_run, pointer_run}
use Rattle.bril_text.proofs.types.opened.Goals as goal

pub returns-in-BaseType-clause-runs : goal.returns-in-BaseType-clause-runs
returns-in-BaseType-clause-runs c =
    let first : terminals_of c.pointers.terminals ≡ Name c.in-Some-Name-default.text.now ∷ terminals_of c.in-Some-Name-default.rest = search rules in
    λ position. c.pointers.invariant.same position ∙ ap (run (AtType position c.pointers.depth)) first
    ∙ base_run position (record { depth = c.pointers.depth; base = c.in-BaseType.base; nests = c.result-in-BaseType-1.given.0 }) c.in-Some-Name-default.text.now (terminals_of c.in-Some-Name-default.rest) (sym c.in-BaseType.ensures)

pub returns-in_err-terminals-in-Ptr-clause-runs : goal.returns-in_err-terminals-in-Ptr-clause-runs
returns-in_err-terminals-in-Ptr-clause-runs c =
    let p = err_from_is_err_and c.from_residual.result c.from_residual.ensures.1 in
    let first : terminals_of c.pointers.terminals ≡ Name c.in-Some-Name-default.text.now ∷ terminals_of c.in-Some-Name-default.rest = search rules in
    λ position. rw (p.1, p.2) (along c.in_err-terminals-in-Ptr.field-0.0
    (c.pointers.invariant.same position ∙ ap (run (AtType position c.pointers.depth)) first ∙ pointer_run position c.pointers.depth c.in-Some-Name-default.text.now (terminals_of c.in-Some-Name-default.rest) (sym c.in-Ptr.ensures) c.if-depth-lt32.true)
    (c.in_err-terminals-in-Ptr.ensures.runs (AtType position (suc c.pointers.depth))))

pub pointers-preserved : goal.pointers-preserved
pointers-preserved c =
    let first : terminals_of c.pointers.terminals ≡ Name c.in-Some-Name-default.text.now ∷ terminals_of c.in-Some-Name-default.rest = search rules in
    let longer = c.in-Some-Name-default.ensures.longer in
    record {
      same = λ position. rw add-one (c.pointers.invariant.same position ∙ ap (run (AtType position c.pointers.depth)) first ∙ pointer_run position c.pointers.depth c.in-Some-Name-default.text.now (terminals_of c.in-Some-Name-default.rest) (sym c.in-Ptr.ensures) c.if-depth-lt32.true ∙ c.in_ok-terminals-in-Ptr.ensures.runs (AtType position (suc c.pointers.depth)));
      nests = omega (arith, c.if-depth-lt32.true);
      shorter = omega (arith, c.in_ok-terminals-in-Ptr.ensures.shorter, longer);
    }
