use Rattle.std.proofs.Common.{refl}
use Rattle.pass_make.specs.Each.{IsGivenFor}
use Rattle.pass_make.proofs.Each.{made-more}
use Rattle.pass_make.proofs.Functions.{number_within, there, function_there}
use Rattle.pass_make.proofs.by_function.each_function.Goals as goal

pub function_of-requires : goal.function_of-requires
function_of-requires g c = number_within c.args.prog.now c.as_slice-func-items.result.now c.as_slice-func-items.ensures c.loop-number.number c.func-item.result c.loop-number-test.true c.func-item.is

pub edit-requires : goal.edit-requires
edit-requires g c =
    c.requires.takes c.loop-number.number _ c.in_ok-function.function
    (function_there c.args.prog.now c.as_slice-func-items.result.now c.as_slice-func-items.ensures c.loop-number.number c.func-item.result c.loop-number-test.true c.func-item.is c.requires.accepted c.requires.counted c.in_ok-function.function c.in_ok-function.ensures)

pub loop-number-preserved : goal.loop-number-preserved
loop-number-preserved g c =
    let P = c.args.prog.now in
    let F = c.func-item.result in
    let one : IsGivenFor _ P c.loop-number.number F c.in_ok-edit.field-0 = record {
      function = c.in_ok-function.function;
      of = function_there P c.as_slice-func-items.result.now c.as_slice-func-items.ensures c.loop-number.number F c.loop-number-test.true c.func-item.is c.requires.accepted c.requires.counted c.in_ok-function.function c.in_ok-function.ensures;
      lent = _;
      same = refl;
      gave = c.in_ok-edit.ensures;
    } in
    made-more (IsGivenFor _ P) P c.loop-number.number F c.in_ok-edit.field-0 c.loop-number.funcs c.push.new.self (there P c.as_slice-func-items.result.now c.as_slice-func-items.ensures c.loop-number.number F c.loop-number-test.true c.func-item.is) c.loop-number.invariant one c.in_ok-push.ensures.ok
