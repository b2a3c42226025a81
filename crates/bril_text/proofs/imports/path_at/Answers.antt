use Rattle.std.proofs.Common.{◌≡◌, ◌∷◌, ap, ◌∙◌, rules}
use Rattle.bril_grammar.specs.Machine.{run}
use Rattle.bril_grammar.specs.State.{AtPath}
use Rattle.bril_grammar.specs.Terminal.{path_terminal, terminals_of}
use Rattle.bril_text.proofs.Moves.{path_run}
use Rattle.bril_text.proofs.imports.path_at.Goals as goal

pub returns-in-Some-Path-default-clause-runs : goal.returns-in-Some-Path-default-clause-runs
returns-in-Some-Path-default-clause-runs c =
    let first : terminals_of c.args.terminals ≡ path_terminal c.in-Some-Path-default.path.now ∷ terminals_of c.in-Some-Path-default.rest = search rules in
    λ imports path e. ap (run (AtPath imports)) first ∙ path_run imports path c.in-Some-Path-default.path.now (terminals_of c.in-Some-Path-default.rest) e
