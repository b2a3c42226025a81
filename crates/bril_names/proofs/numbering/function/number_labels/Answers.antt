use Rattle.std.proofs.Common.{◌≡◌, ◌<◌, length, get_or, sym, ◌∙◌, subst}
use Rattle.bril_names.specs.Faults.{Differ}
use Rattle.bril_names.specs.Numbering.{Adds}
use Rattle.bril_names.proofs.Decisions.{Differ-push}
use Rattle.bril_names.proofs.Tables.{added_new}
use Rattle.bril_names.proofs.Steps.{label_more, label_same}
use Rattle.bril_names.proofs.numbering.function.number_labels.Goals as goal
use Rattle.bril_names.proofs.numbering.function.number_labels.Goals.{in-Label+in_ok-add+else-not-branch, in_default-item}

pub loop-k-preserved : goal.loop-k-preserved
loop-k-preserved c =
    let code = c.args.function.now.code in
    let k = c.loop-k.k in
    let item = c.item-item.result in
    let before = c.loop-k.labels in
    let within : k < length code = subst (λ list. k < length list) c.as_slice-item-items.ensures c.loop-k-test.true in
    let is : item ≡ get_or code k item = subst (λ list. item ≡ get_or list k item) c.as_slice-item-items.ensures c.item-item.is in
    elim c.match-item.branch [
      | in-Label+in_ok-add+else-not-branch w ↦
          let adds : Adds before w.in-Label.name w.add.new.self w.in_ok-add.field-0 = rw w.as_bytes.ensures.value at w.in_ok-add.ensures.ok in
          let new = added_new before w.in-Label.name w.add.new.self w.in_ok-add.field-0 adds w.if-not-branch.false in
          record {
            labels = w.labels-is ∙ new.0 ∙ label_more code k item w.in-Label.name before within is w.in-Label.is c.loop-k.invariant.labels;
            differ = subst Differ (sym (w.labels-is ∙ new.0)) (Differ-push before w.in-Label.name c.loop-k.invariant.differ new.1);
          }
      | in_default-item w ↦
          record {
            labels = w.labels-is ∙ label_same code k item before within is w.in_default-item.not-Label c.loop-k.invariant.labels;
            differ = subst Differ (sym w.labels-is) c.loop-k.invariant.differ;
          }
    ]
