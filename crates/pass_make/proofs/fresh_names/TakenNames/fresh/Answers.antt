use Rattle.std.proofs.Common.{◌≡◌, ◌∷◌, ◌∙◌, ap, sym, subst, true, List, ℕ}
use Rattle.std.specs.List.{Contains}
use Rattle.std.proofs.lemmas.Bool.{true≢false}
use Rattle.std.proofs.lemmas.Result.{IfOk-weaker}
use Rattle.bril_tree.specs.Identifier.{is_identifier}
use Rattle.pass_make.proofs.Marks.{one-more, marked-fresh, marked-identifier}
use Rattle.pass_make.proofs.fresh_names.TakenNames.fresh.Goals as goal

pub marks-preserved : goal.marks-preserved
marks-preserved c =
    let among : Contains c.args.self.now c.marks.bytes.items = subst (Contains c.args.self.now) c.as_slice.ensures.value (c.has.ensures.0 c.marks-test.true) in
    one-more c.args.self.now c.args.base.items c.marks.bytes.items c.in_ok-bytes.bytes.items c.marks.invariant among (c.in_ok-bytes.ensures ∙ ap (λ (b : List ℕ). 95 ∷ b) c.as_slice-in-marks.ensures.value)

pub of_identifier-requires : goal.of_identifier-requires
of_identifier-requires c =
    subst (λ b. is_identifier b ≡ true) (sym c.as_slice-2.ensures.value) (marked-identifier c.args.self.now c.args.base.items c.marks.bytes.items c.marks.invariant c.requires)

pub returns : goal.returns
returns c =
    let none : ¬ Contains c.args.self.now c.marks.bytes.items = λ among. true≢false (sym (c.has.ensures.1 (subst (Contains c.args.self.now) (sym c.as_slice.ensures.value) among)) ∙ c.marks-test.false) in
    IfOk-weaker c.of_identifier.result _ _ (λ name e. marked-fresh c.args.self.now c.args.base.items c.marks.bytes.items name c.marks.invariant none (e ∙ c.as_slice-2.ensures.value)) c.of_identifier.ensures
