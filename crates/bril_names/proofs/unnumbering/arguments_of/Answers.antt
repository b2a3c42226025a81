use Rattle.std.proofs.Common.{◌≡◌, ◌<◌, ◌∷◌, ◌++◌, [], length, take, get_or, ap, ◌∙◌, subst}
use Rattle.bril_tree.specs.Numbered.{typed_name}
use Rattle.bril_names.proofs.Variables.{argument_taken, argument_left_out}
use Rattle.bril_names.proofs.unnumbering.arguments_of.Goals as goal
use Rattle.bril_names.proofs.unnumbering.arguments_of.Goals.{in-Some+in_ok-name+in_ok-push, in_default}

pub loop-var-preserved : goal.loop-var-preserved
loop-var-preserved c =
    let vars = take c.args.f.now.args c.args.f.now.vars in
    let v = c.var-item.result in
    let at = c.loop-var.var-index in
    let same = ap (take c.args.f.now.args) c.as_slice.ensures in
    let within = subst (λ vs. at < length vs) same c.loop-var-test.true in
    let is = subst (λ vs. v ≡ get_or vs at v) same c.var-item.is in
    elim c.match-var.branch [
      | in-Some+in_ok-name+in_ok-push w ↦
          w.args-is ∙ w.in_ok-push.ensures.ok ∙ ap (λ name. c.loop-var.args ++ typed_name name w.in-Some.ty ∷ []) w.in_ok-name.ensures
          ∙ argument_taken vars at v within is c.loop-var.args c.loop-var.invariant w.in-Some.ty w.in-Some.is
      | in_default w ↦ w.args-is ∙ argument_left_out vars at v within is c.loop-var.args c.loop-var.invariant w.in_default.is
    ]
