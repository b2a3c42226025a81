use Rattle.std.proofs.Common.{◌≡◌, ◌+◌, take, ap, ◌∙◌, ◌++◌, ◌∷◌, []}
use Rattle.bril_names.specs.Faults.{labels_of}
use Rattle.bril_names.proofs.Steps.{label_more, label_same}
use Rattle.bril_names.proofs.numbering.function.label_names.Goals as goal
use Rattle.bril_names.proofs.numbering.function.label_names.Goals.{in-Label+in_ok-copied+in_ok-push, in_default}

pub loop-item-preserved : goal.loop-item-preserved
loop-item-preserved c =
    let code = c.args.code.now in
    let k = c.loop-item.item-index in
    let item = c.item-item.result in
    let before = c.loop-item.labels in
    let goal : c.match-item.labels ≡ labels_of (take (k + 1) code) =
    elim c.match-item.branch [
      | in-Label+in_ok-copied+in_ok-push w ↦
          w.labels-is ∙ w.in_ok-push.ensures.ok ∙ ap (λ name. before ++ name ∷ []) w.in_ok-copied.ensures
          ∙ label_more code k item w.in-Label.name before c.loop-item-test.true c.item-item.is w.in-Label.is c.loop-item.invariant
      | in_default w ↦ w.labels-is ∙ label_same code k item before c.loop-item-test.true c.item-item.is w.in_default.not-Label c.loop-item.invariant
    ] in
    goal
