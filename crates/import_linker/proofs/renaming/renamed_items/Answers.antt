-- One item more.
use Rattle.std.proofs.Common.{◌∙◌, ◌++◌, ◌∷◌, [], ap₂, sym, subst, List}
use Rattle.std.proofs.lemmas.Result.{err_from_is_err_and}
use Rattle.bril_tree.specs.declared.function_tree.Item.{Item}
use Rattle.import_linker.specs.Linked.{beside, renamed_item}
use Rattle.import_linker.specs.Names.{callees_of, first_unknown}
use Rattle.import_linker.specs.Refusing.{IsLack}
use Rattle.import_linker.proofs.Firsts.{found_here_in, lack_first, none_more_in, unknown-append}
use Rattle.import_linker.proofs.Repeating.{map_more}
use Rattle.import_linker.proofs.renaming.renamed_items.Goals as goal

pub loop-item-preserved : goal.loop-item-preserved
loop-item-preserved c =
    let names = c.args.names.now in
    let f = renamed_item (beside names c.args.spelled.now) in
    let i = c.loop-item.item-index in
    let x = c.item-item.result in
    record {
      made = c.in_ok-push.ensures.ok ∙ ap₂ (λ (l : List Item) (y : Item). l ++ y ∷ []) c.loop-item.invariant.made c.in_ok-renamed.ensures.ok
          ∙ sym (map_more f c.args.items.now i x c.loop-item-test.true c.item-item.is);
      none = none_more_in (first_unknown names) (unknown-append names) callees_of c.args.items.now i x c.loop-item-test.true c.item-item.is c.loop-item.invariant.none c.in_ok-renamed.ensures.all;
    }

pub returns-in_err-renamed-clause-all : goal.returns-in_err-renamed-clause-all
returns-in_err-renamed-clause-all c =
    let names = c.args.names.now in
    let e = err_from_is_err_and c.from_residual.result c.from_residual.ensures.1 in
    rw (e.1, e.2)
    (subst (IsLack c.in_err-renamed.field-0.0 c.args.path.now)
    (sym (found_here_in (first_unknown names) (unknown-append names) callees_of c.args.items.now c.loop-item.item-index c.item-item.result c.loop-item-test.true c.item-item.is c.loop-item.invariant.none))
    (lack_first c.in_err-renamed.field-0.0 c.args.path.now _ _ c.in_err-renamed.ensures.all))
