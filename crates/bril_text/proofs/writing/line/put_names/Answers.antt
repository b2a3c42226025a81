use Rattle.std.proofs.Common.{ℕ, List, ◌++◌}
use Rattle.bril_tree.specs.TreeForm.{IsName}
use Rattle.bril_tree.proofs.Elements.{All-one_more}
use Rattle.bril_text.proofs.WritingLists.{items_written, two_written}
use Rattle.bril_text.proofs.writing.line.put_names.Goals as goal

pub loop-name-preserved : goal.loop-name-preserved
loop-name-preserved c =
    let names = c.as_slice-name-items.result.now in
    let at = c.loop-name.name-index in
    let name = c.name-item.result in
    let added = two_written c.loop-name.into c.add.new.self c.add-in-loop-name.new.self c.args.sign.now c.as_bytes.result.now c.in_ok-add.ensures.ok c.in_ok-add-2.ensures.ok in
    record {
      text = items_written (λ (n : List ℕ). c.args.sign.now ++ n) names at name c.args.into.now c.loop-name.into c.add-in-loop-name.new.self c.loop-name-test.true c.name-item.is c.loop-name.invariant.text (rw c.as_bytes.ensures.value at added);
      valid = All-one_more IsName names at name c.loop-name-test.true c.name-item.is c.loop-name.invariant.valid (rw c.as_bytes.ensures.value at c.as_bytes.ensures.ident);
    }
