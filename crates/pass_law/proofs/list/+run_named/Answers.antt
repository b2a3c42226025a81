use Rattle.std.proofs.Common.{sym, ◌∙◌, rules}
use Rattle.pass_law.proofs.Running.{linked-first, refused-first, linked-rest, refused-rest, same-first, answers-at}
use Rattle.pass_law.proofs.list.+run_named.Goals as goal

pub returns-then-is_named-clause-linked : goal.returns-then-is_named-clause-linked
returns-then-is_named-clause-linked g t c =
    linked-first _ c.args.passes.now c.in-Some.first.now c.in-Some.rest.now c.in-Some.ensures.cases.0 c.args.profile.now c.args.name.now c.args.prog.now.prog
    (answers-at (λ i x. (g.dyn-1.0.entry i).1.meaning x) _ _ _ _ _ _ (search rules) (sym c.is_named.ensures ∙ c.if-is_named.true)) c.run_one.ensures.numbers c.run_one.result c.run_one.ensures.link

pub returns-then-is_named-clause-refused : goal.returns-then-is_named-clause-refused
returns-then-is_named-clause-refused g t c =
    refused-first _ c.args.passes.now c.in-Some.first.now c.in-Some.rest.now c.in-Some.ensures.cases.0 c.args.profile.now c.args.name.now c.args.prog.now.prog
    (answers-at (λ i x. (g.dyn-1.0.entry i).1.meaning x) _ _ _ _ _ _ (search rules) (sym c.is_named.ensures ∙ c.if-is_named.true)) c.run_one.ensures.numbers c.run_one.result c.run_one.ensures.refused

pub returns-then-is_named-clause-same : goal.returns-then-is_named-clause-same
returns-then-is_named-clause-same g t c = same-first _ c.args.passes.now c.in-Some.first.now c.in-Some.rest.now c.in-Some.ensures.cases.0 c.run_one.new.pass c.run_one.ensures.same

pub returns-else-is_named-clause-linked : goal.returns-else-is_named-clause-linked
returns-else-is_named-clause-linked g t c =
    linked-rest _ c.args.passes.now c.in-Some.first.now c.in-Some.rest.now c.in-Some.ensures.cases.0 c.args.profile.now c.args.name.now c.args.prog.now.prog
    (answers-at (λ i x. (g.dyn-1.0.entry i).1.meaning x) _ _ _ _ _ _ (search rules) (sym c.is_named.ensures ∙ c.if-is_named.false)) c.run_named.result c.run_named.ensures.linked

pub returns-else-is_named-clause-refused : goal.returns-else-is_named-clause-refused
returns-else-is_named-clause-refused g t c =
    refused-rest _ c.args.passes.now c.in-Some.first.now c.in-Some.rest.now c.in-Some.ensures.cases.0 c.args.profile.now c.args.name.now c.args.prog.now.prog
    (answers-at (λ i x. (g.dyn-1.0.entry i).1.meaning x) _ _ _ _ _ _ (search rules) (sym c.is_named.ensures ∙ c.if-is_named.false)) c.run_named.result c.run_named.ensures.refused
