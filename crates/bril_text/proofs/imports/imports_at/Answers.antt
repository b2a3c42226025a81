use Rattle.std.proofs.lemmas.Result.{err_from_is_err_and}
use Rattle.std.proofs.Common.{◌≡◌, sym, ap, ◌∙◌, arith}
use Rattle.std.proofs.lemmas.Grind.{common_steps}
use Rattle.bril_grammar.specs.declared.keyword.Keyword.TheVariants as keyword
use Rattle.bril_grammar.specs.Machine.{run}
use Rattle.bril_grammar.specs.State.{AtPath}
use Rattle.bril_grammar.specs.Terminal.{terminals_of}
use Rattle.bril_text.specs.Parse.{keyword_at}
use Rattle.bril_text.proofs.Moves.{along, from_run}
use Rattle.bril_text.proofs.imports.imports_at.Goals as goal

pub returns-in_err-import : goal.returns-in_err-import
returns-in_err-import c =
    let p = err_from_is_err_and c.from_residual.result c.from_residual.ensures.1 in
    let e : keyword_at (terminals_of c.imports.terminals) ≡ keyword.From = grind (arith, common_steps) in
    rw (p.1, p.2) (along c.in_err-import.field-0.0 (c.imports.invariant ∙ from_run c.imports.imports c.imports.terminals e ∙ ap (λ l. run (AtPath c.imports.imports) (terminals_of l)) (sym c.skip.ensures)) (c.in_err-import.ensures.runs c.imports.imports))
