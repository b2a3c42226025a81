use Rattle.std.proofs.Common.{◌≡◌, ℕ, length, take, sym, subst, ◌∙◌, false, arith}
use Rattle.std.specs.Prelude.{IsTrue}
use Rattle.std.proofs.lemmas.List.{take_rest}
use Rattle.std.proofs.lemmas.List.Elements.{All-more}
use Rattle.rv64_listing.specs.Tokens.{Skips}
use Rattle.rv64_listing.specs.Line.{is_blank, AreBlank}
use Rattle.rv64_listing.proofs.Front.{first_at, first_none, skips_at}
use Rattle.rv64_listing.proofs.tokens.behind_blanks.Goals as goal

pub returns-then-not-is_blank : goal.returns-then-not-is_blank
returns-then-not-is_blank c =
    let i : ℕ = c.loop-i.i in
    subst (λ x. Skips c.args.rest.now x) (sym (take_rest c.args.rest.now i))
    (skips_at c.args.rest.now i c.loop-i.invariant (first_at is_blank false c.args.rest.now i c.loop-i-test.true (sym c.is_blank.ensures ∙ c.if-not-is_blank.true)))

pub loop-i-preserved : goal.loop-i-preserved
loop-i-preserved c = All-more (λ b. IsTrue (is_blank b)) c.args.rest.now c.loop-i.i 0 c.loop-i-test.true c.loop-i.invariant (sym c.is_blank.ensures ∙ c.if-not-is_blank.false)

pub returns : goal.returns
returns c =
    let n : ℕ = length c.args.rest.now in
    let e : c.loop-i.i ≡ n = omega arith in
    subst (λ x. Skips c.args.rest.now x) (sym (take_rest c.args.rest.now n))
    (skips_at c.args.rest.now n (subst (λ k. AreBlank (take k c.args.rest.now)) e c.loop-i.invariant) (first_none is_blank false c.args.rest.now n (omega arith)))
