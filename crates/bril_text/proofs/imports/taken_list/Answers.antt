use Rattle.std.proofs.lemmas.Result.{err_from_is_err_and}
use Rattle.std.proofs.Common.{◌++◌, ◌∷◌, [], sym, ap, ◌∙◌, arith, if◌then◌else◌}
use Rattle.bril_tree.proofs.Equal.{Import-equal}
use Rattle.bril_grammar.specs.Machine.{run, taking, import_of}
use Rattle.bril_grammar.specs.State.{AtTaken, AtImport}
use Rattle.bril_grammar.specs.Terminal.{terminals_of}
use Rattle.bril_text.specs.Parse.{begin_import}
use Rattle.bril_text.proofs.Moves.{along, after_alias}
use Rattle.bril_text.proofs.imports.taken_list.Goals as goal

pub returns-in_err-taken-clause-runs : goal.returns-in_err-taken-clause-runs
returns-in_err-taken-clause-runs c =
    let p = err_from_is_err_and c.from_residual.result c.from_residual.ensures.1 in
    λ imports path. rw (p.1, p.2) (along c.in_err-taken.field-0.0 (c.taken.invariant.same imports path) (c.in_err-taken.ensures.runs (begin_import imports path c.taken.names)))

pub returns-in_err-more-clause-runs : goal.returns-in_err-more-clause-runs
returns-in_err-more-clause-runs c =
    let p = err_from_is_err_and c.from_residual-in_err-more.result c.from_residual-in_err-more.ensures.1 in
    λ imports path. rw (p.1, p.2) (let i = begin_import imports path c.taken.names in along c.in_err-more.field-0.0 (c.taken.invariant.same imports path ∙ c.in_ok-taken.ensures.runs i ∙ after_alias i c.in_ok-taken.taken (terminals_of c.in_ok-taken.rest)) (c.in_err-more.ensures.runs (AtTaken (taking i c.in_ok-taken.taken)) (AtImport (imports ++ (import_of i c.in_ok-taken.taken ∷ [])))))

pub returns-then-not-more-clause-runs : goal.returns-then-not-more-clause-runs
returns-then-not-more-clause-runs c =
    λ imports path import p n.
    let i = begin_import imports path c.taken.names in
    let again = AtTaken (taking i c.in_ok-taken.taken) in
    let end = AtImport (imports ++ (import_of i c.in_ok-taken.taken ∷ [])) in
    c.taken.invariant.same imports path ∙ c.in_ok-taken.ensures.runs i ∙ after_alias i c.in_ok-taken.taken (terminals_of c.in_ok-taken.rest)
    ∙ c.in_ok-more.ensures.runs again end
    ∙ ap (λ b. run (if b then again else end) (terminals_of c.in_ok-more.rest)) c.if-not-more.true
    ∙ ap (λ m. run (AtImport (imports ++ (m ∷ []))) (terminals_of c.in_ok-more.rest)) (Import-equal (import_of i c.in_ok-taken.taken) import (sym p) (sym (n ∙ c.in_ok-push.ensures.ok)))

pub taken-preserved : goal.taken-preserved
taken-preserved c = record {
  same = λ imports path.
      let i = begin_import imports path c.taken.names in
      let again = AtTaken (taking i c.in_ok-taken.taken) in
      let end = AtImport (imports ++ (import_of i c.in_ok-taken.taken ∷ [])) in
      c.taken.invariant.same imports path ∙ c.in_ok-taken.ensures.runs i ∙ after_alias i c.in_ok-taken.taken (terminals_of c.in_ok-taken.rest)
      ∙ c.in_ok-more.ensures.runs again end
      ∙ ap (λ b. run (if b then again else end) (terminals_of c.in_ok-more.rest)) c.if-not-more.false
      ∙ ap (λ names. run (AtTaken (begin_import imports path names)) (terminals_of c.in_ok-more.rest)) (sym c.in_ok-push.ensures.ok);
  shorter = omega (arith, c.in_ok-taken.ensures.shorter, c.in_ok-more.ensures.shorter);
}
