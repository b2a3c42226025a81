-- One name more.
use Rattle.std.proofs.Common.{◌++◌, ◌∷◌, [], sym, subst, take}
use Rattle.bril_tree.specs.declared.function_tree.FuncTree.{FuncTree}
use Rattle.import_linker.specs.Names.{function_names}
use Rattle.import_linker.specs.Tables.{HaveSame}
use Rattle.import_linker.proofs.Repeating.{map_more}
use Rattle.import_linker.proofs.TableLists.{same-push}
use Rattle.import_linker.proofs.taken.own_table.Goals as goal

pub loop-function-preserved : goal.loop-function-preserved
loop-function-preserved c =
    let functions = c.args.functions.now in
    let i = c.loop-function.function-index in
    let x = c.function-item.result in
    let before = function_names (take i functions) in
    let grew = rw c.as_bytes.ensures.value at c.in_ok-add.ensures.ok in
    subst (HaveSame c.add.new.self) (sym (map_more (λ (f : FuncTree). f.name) functions i x c.loop-function-test.true c.function-item.is))
    (subst (λ t. HaveSame t (before ++ x.name ∷ [])) (sym grew.1)
    (same-push c.loop-function.table before x.name c.loop-function.invariant))
