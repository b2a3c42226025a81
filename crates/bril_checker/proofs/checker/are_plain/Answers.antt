use Rattle.std.proofs.Common.{refl, sym, ◌∙◌}
use Rattle.std.proofs.lemmas.Bool.{false≢true}
use Rattle.bril_checker.proofs.Positions.{All-next, All-whole}
use Rattle.bril_tree.specs.Accepted.{IsPlainType}
use Rattle.bril_checker.proofs.Program.{not_plain}
use Rattle.bril_checker.proofs.checker.are_plain.Goals as goal

pub returns-then-not-is_plain : goal.returns-then-not-is_plain
returns-then-not-is_plain c = (
  λ e. absurd (false≢true e),
  λ plain. absurd (not_plain c.args.vars.now c.loop-v.v-index c.v-item.result c.loop-v-test.true c.v-item.is (λ is. false≢true (sym c.if-not-is_plain.true ∙ c.is_plain.ensures.1 is)) plain),
)

pub loop-v-preserved : goal.loop-v-preserved
loop-v-preserved c =
    All-next (λ v. IsPlainType v.ty) c.args.vars.now c.args.vars.now refl c.loop-v.v-index c.v-item.result c.loop-v-test.true c.v-item.is c.loop-v.invariant
    (c.is_plain.ensures.0 c.if-not-is_plain.false)

pub returns : goal.returns
returns c = (
  λ e. All-whole (λ v. IsPlainType v.ty) c.args.vars.now c.args.vars.now refl c.loop-v.v-index c.loop-v-test.false c.loop-v.invariant,
  λ plain. refl,
)
