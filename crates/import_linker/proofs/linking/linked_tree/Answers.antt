-- One file more.
use Rattle.std.proofs.Common.{◌∙◌, ◌++◌, ap, ap₂, sym, subst, List, ℕ}
use Rattle.std.proofs.lemmas.Result.{err_from_is_err_and}
use Rattle.bril_tree.specs.declared.function_tree.FuncTree.{FuncTree}
use Rattle.import_linker.specs.Linked.{linked_file, linked_from}
use Rattle.import_linker.specs.Names.{fault_from}
use Rattle.import_linker.specs.declared.sources.Source.{Source}
use Rattle.import_linker.specs.Refusing.{RefusesNames}
use Rattle.import_linker.specs.Tables.{AreTables}
use Rattle.import_linker.proofs.TableLists.{fault_is}
use Rattle.import_linker.proofs.FileLists.{faultless_more, is_first, linked_more}
use Rattle.import_linker.proofs.Repeating.{taken_all}
use Rattle.import_linker.proofs.linking.linked_tree.Goals as goal

pub loop-number-preserved : goal.loop-number-preserved
loop-number-preserved c =
    let sources = c.args.sources.now in
    let paths = c.args.paths.now in
    let i = c.loop-number.number in
    let s = c.index-sources-number.result in
    record {
      funcs = c.in_ok-link_file.ensures.ok ∙ ap (λ (l : List FuncTree). l ++ linked_file c.in_ok-run.run' paths i s) c.loop-number.invariant.funcs
          ∙ sym (linked_more sources i s c.loop-number-test.true c.index-sources-number.is c.in_ok-run.run' paths);
      none = faultless_more sources i s c.loop-number-test.true c.index-sources-number.is c.loop-number.invariant.none
          (sym (fault_is c.as_slice.result.now paths sources i s (subst (λ t. AreTables t sources) (sym c.as_slice.ensures) c.in_ok-tables.ensures) c.requires) ∙ c.in_ok-link_file.ensures.named);
    }

pub returns-in_err-link_file-clause-named : goal.returns-in_err-link_file-clause-named
returns-in_err-link_file-clause-named c =
    let fault = c.in_err-link_file.field-0.0 in
    let e = err_from_is_err_and c.from_residual-in_err-link_file.result c.from_residual-in_err-link_file.ensures.1 in
    rw (e.1, e.2)
    (is_first c.args.sources.now c.loop-number.number c.index-sources-number.result c.loop-number-test.true c.index-sources-number.is fault c.loop-number.invariant.none
    (subst (RefusesNames fault)
    (fault_is c.as_slice.result.now c.args.paths.now c.args.sources.now c.loop-number.number c.index-sources-number.result (subst (λ t. AreTables t c.args.sources.now) (sym c.as_slice.ensures) c.in_ok-tables.ensures) c.requires)
    c.in_err-link_file.ensures.named))

pub returns-clause-named : goal.returns-clause-named
returns-clause-named c =
    let sources = c.args.sources.now in
    ap (λ (l : List Source). fault_from sources 0 l) (sym (taken_all sources c.loop-number.number c.loop-number-test.false)) ∙ c.loop-number.invariant.none

pub returns-clause-ok : goal.returns-clause-ok
returns-clause-ok c =
    let sources = c.args.sources.now in
    let all = taken_all sources c.loop-number.number c.loop-number-test.false in
    record {
      faultless = ap (λ (l : List Source). fault_from sources 0 l) (sym all) ∙ c.loop-number.invariant.none;
      run = c.in_ok-run.run';
      fresh = c.in_ok-run.ensures;
      imports = c.new.ensures;
      funcs = c.loop-number.invariant.funcs ∙ ap₂ (λ (p : List (List ℕ)) (l : List Source). linked_from c.in_ok-run.run' p 0 l) c.requires all;
    }
