use Rattle.std.proofs.Common.{◌<◌, length, All, refl, subst}
use Rattle.std.specs.Prelude.{◌^◌, ◌-◌}
use Rattle.std.proofs.lemmas.List.{take_all}
use Rattle.std.proofs.lemmas.List.Elements.{All-more}
use Rattle.bril_tree.specs.declared.numbered_function.Func.{Func}
use Rattle.bril_tree.proofs.size.are_counted.Goals as goal

abbrev HasFew : Func → Type 0
HasFew f = length f.code < 2 ^ 32 - 1

pub loop-func-preserved : goal.loop-func-preserved
loop-func-preserved c =
    All-more HasFew c.args.funcs.now c.loop-func.func-index c.func-item.result c.loop-func-test.true c.loop-func.invariant
    (subst HasFew c.func-item.is (c.has_few_items.ensures.0 c.if-not-has_few_items.false))

pub returns : goal.returns
returns c = (λ e. subst (All HasFew) (take_all c.loop-func.func-index c.args.funcs.now c.loop-func-test.false) c.loop-func.invariant, λ all. refl)
