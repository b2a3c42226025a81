use Rattle.std.proofs.Common.{sym, ◌∙◌}
use Rattle.std.proofs.lemmas.Bool.{eqb-true, eqb-false}
use Rattle.rv64_listing.specs.Tokens.{cut}
use Rattle.rv64_listing.proofs.Front.{empty_ends, first_ends, ends, tests_end}
use Rattle.rv64_listing.proofs.tokens.is_end.Goals as goal

pub returns-then-is_empty : goal.returns-then-is_empty
returns-then-is_empty c = ends (cut c.args.rest.now) (empty_ends c.args.rest.now c.behind_blanks-after.result.now c.behind_blanks-after.ensures (eqb-true _ 0 (sym c.is_empty.ensures ∙ c.if-is_empty.true)))

pub returns : goal.returns
returns c = tests_end _ (cut c.args.rest.now) (first_ends c.args.rest.now c.behind_blanks-after.result.now c.behind_blanks-after.ensures (eqb-false _ 0 (sym c.is_empty.ensures ∙ c.if-is_empty.false)))
