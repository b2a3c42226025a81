use Rattle.std.proofs.Common.{sym, ◌∙◌, ap, length}
use Rattle.std.proofs.lemmas.Bool.{eqb-true, eqb-false}
use Rattle.rv64_listing.specs.Tokens.{Space, cut}
use Rattle.rv64_listing.specs.Reading.{behind_space}
use Rattle.rv64_listing.proofs.Front.{gap_by, first_blank, first_not_blank, no_gap_here, nothing_is, empty_tokens, none_space, end_test, no_end_test}
use Rattle.rv64_listing.proofs.tokens.space.Goals as goal

pub returns-then-is_empty : goal.returns-then-is_empty
returns-then-is_empty c = none_space (cut c.args.rest.now) (λ us e. nothing_is c.args.rest.now Space us (empty_tokens c.args.rest.now (eqb-true _ 0 (sym c.is_empty.ensures ∙ c.if-is_empty.true))) e)

pub returns-then-not-is_blank : goal.returns-then-not-is_blank
returns-then-not-is_blank c = none_space (cut c.args.rest.now) (λ us e. no_gap_here c.args.rest.now us (first_not_blank c.args.rest.now (sym c.is_blank.ensures ∙ c.if-not-is_blank.true)) e)

pub returns-then-is_end : goal.returns-then-is_end
returns-then-is_end c = none_space (cut c.args.rest.now) (λ us e. nothing_is c.args.rest.now Space us (end_test (cut c.args.rest.now) (sym c.if-is_end.true ∙ c.is_end.ensures)) e)

pub returns : goal.returns
returns c =
    sym (ap behind_space (gap_by c.args.rest.now c.behind_blanks.result.now c.behind_blanks.ensures (no_end_test (cut c.args.rest.now) (sym c.if-is_end.false ∙ c.is_end.ensures)) (first_blank c.args.rest.now (sym c.is_blank.ensures ∙ c.if-not-is_blank.false))
    (λ e. eqb-false (length c.args.rest.now) 0 (sym c.is_empty.ensures ∙ c.if-is_empty.false) (ap length e))))
