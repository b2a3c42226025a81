-- One table more.
use Rattle.std.proofs.Common.{◌∙◌, ◌++◌, ◌∷◌, [], ap, sym, subst, take, List, ℕ}
use Rattle.std.proofs.lemmas.List.{take_more}
use Rattle.bril_tree.specs.declared.function_tree.FuncTree.{FuncTree}
use Rattle.import_linker.specs.Names.{function_names}
use Rattle.import_linker.specs.Tables.{AreTables, HaveSame}
use Rattle.import_linker.specs.declared.sources.Source.{Source}
use Rattle.import_linker.proofs.TableLists.{tables-push}
use Rattle.import_linker.proofs.taken.own_tables.Goals as goal

pub loop-source-preserved : goal.loop-source-preserved
loop-source-preserved c =
    let sources = c.args.sources.now in
    let i = c.loop-source.source-index in
    let x = c.source-item.result in
    let same = subst (λ (l : List FuncTree). HaveSame c.in_ok-table.table (function_names l)) c.as_slice.ensures c.in_ok-table.ensures in
    subst (λ (l : List Source). AreTables c.push.new.self l) (sym (take_more sources i x c.loop-source-test.true ∙ ap (λ (y : Source). take i sources ++ y ∷ []) (sym c.source-item.is)))
    (subst (λ (l : List (List (List ℕ))). AreTables l (take i sources ++ x ∷ [])) (sym c.in_ok-push.ensures.ok)
    (tables-push c.loop-source.tables (take i sources) c.in_ok-table.table x c.loop-source.invariant same))
