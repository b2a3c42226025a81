use Rattle.std.proofs.Common.{ap, sym, ◌∙◌}
use Rattle.bril_grammar.specs.Terminal.{path_terminal, terminal_as}
use Rattle.bril_text.proofs.terminal.terminal_of.Goals as goal

pub returns-in-Path-clause-seen : goal.returns-in-Path-clause-seen
returns-in-Path-clause-seen c = ap path_terminal c.path_of.ensures ∙ ap (λ k. terminal_as k c.args.text.now) (sym c.in-Path.is)
