use Rattle.std.proofs.Common.{◌≡◌, true, length, map, sym, ap, ◌∙◌, subst}
use Rattle.std.specs.List.{list_all}
use Rattle.std.proofs.lemmas.List.{take_all}
use Rattle.std.proofs.lemmas.Result.{err_from_is_err_and}
use Rattle.bril_tree.specs.Numbered.{function_tree}
use Rattle.bril_names.specs.Numbering.{are_called_below, IsFaultWithin}
use Rattle.bril_names.proofs.Outcomes.{trees_more, called_more, sound_more, fault_here}
use Rattle.bril_names.proofs.numbering.number_functions.Goals as goal

pub returns-in_err-number_function-clause-fault : goal.returns-in_err-number_function-clause-fault
returns-in_err-number_function-clause-fault c =
    let functions = c.args.functions.now in
    let trees = c.args.trees.now in
    let k = c.loop-k.k in
    let tree = c.index-trees-k.result in
    let fault = c.in_err-number_function.field-0.0 in
    let within : IsFaultWithin functions k tree fault = rw c.in-Ok.ensures.1 at c.in_err-number_function.ensures.fault in
    let p = err_from_is_err_and c.from_residual.result c.from_residual.ensures.1 in
    rw (p.1, p.2) (fault_here functions trees k tree c.loop-k-test.true c.index-trees-k.is fault c.loop-k.invariant.sound within)

pub loop-k-preserved : goal.loop-k-preserved
loop-k-preserved c =
    let functions = c.args.functions.now in
    let trees = c.args.trees.now in
    let k = c.loop-k.k in
    let tree = c.index-trees-k.result in
    let funcs = c.loop-k.funcs in
    let f = c.in_ok-number_function.field-0 in
    record {
      trees = trees_more functions trees k tree c.loop-k-test.true c.index-trees-k.is funcs f c.loop-k.invariant.trees c.in_ok-number_function.ensures.tree
          ∙ ap (map (function_tree functions)) (sym c.in_ok-push.ensures.ok);
      called = subst (λ list. list_all (are_called_below (length functions)) list ≡ true) (sym c.in_ok-push.ensures.ok)
          (called_more functions trees k tree c.loop-k-test.true c.index-trees-k.is (length functions) funcs f c.loop-k.invariant.called c.in_ok-number_function.ensures.called);
      sound = sound_more functions trees k tree c.loop-k-test.true c.index-trees-k.is c.loop-k.invariant.sound c.in_ok-number_function.ensures.sound;
    }

pub returns-clause-trees : goal.returns-clause-trees
returns-clause-trees c = sym (take_all c.loop-k.k c.args.trees.now c.loop-k-test.false) ∙ c.loop-k.invariant.trees
