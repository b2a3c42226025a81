-- One import more.
use Rattle.std.proofs.Common.{◌≡◌, ◌∙◌, ◌<◌, ◌≤◌, ◌++◌, ap, ap₂, sym, subst, get_or, length, map, take, List, ℕ}
use Rattle.std.specs.Prelude.{flat_map}
use Rattle.std.proofs.lemmas.List.{map-append}
use Rattle.std.proofs.lemmas.Result.{err_from_is_err_and}
use Rattle.bril_tree.specs.declared.function_tree.FuncTree.{FuncTree}
use Rattle.bril_tree.specs.declared.import.Import.{Import}
use Rattle.import_linker.specs.Linked.{spelled}
use Rattle.import_linker.specs.Names.{Function, functions_of, own_functions, taken_functions, taken_of}
use Rattle.import_linker.specs.Tables.{first_absent}
use Rattle.import_linker.specs.Refusing.{IsLack}
use Rattle.import_linker.proofs.Firsts.{found_here_in, lack_first, absent-append, none_more_in}
use Rattle.import_linker.proofs.Repeating.{flat_more, taken_all}
use Rattle.import_linker.proofs.TableLists.{outside_is}
use Rattle.import_linker.proofs.taken.spelled_meanings.Goals as goal

pub loop-import-preserved : goal.loop-import-preserved
loop-import-preserved c =
    let paths = c.args.paths.now in
    let tables = c.args.tables.now in
    let s = c.args.source.now in
    let imports = s.tree.imports in
    let g = functions_of paths s.path in
    let i = c.loop-import.import-index in
    let x = c.import-item.result in
    let lt : i < length imports = subst (λ (l : List Import). i < length l) c.as_slice-import-items.ensures c.loop-import-test.true in
    let is : x ≡ get_or imports i x = subst (λ (l : List Import). x ≡ get_or l i x) c.as_slice-import-items.ensures c.import-item.is in
    let file = c.in_ok-file.ensures.number in
    let here : taken_functions c.in_ok-file.file c.as_slice.result.now ≡ g x = ap₂ taken_functions file c.as_slice.ensures in
    let before = flat_map g (take i imports) in
    let none = ap (first_absent tables) (sym here) ∙ sym (outside_is tables c.in_ok-file.file c.as_slice.result.now) ∙ c.in_ok-spell_taken.ensures.all in
    record {
      names = c.in_ok-spell_taken.ensures.ok ∙ ap₂ (λ (a : List (List ℕ)) (b : List Function). a ++ map (spelled c.args.run) b) c.loop-import.invariant.names here
          ∙ sym (ap (map (spelled c.args.run)) (flat_more g imports i x lt is) ∙ map-append (spelled c.args.run) before (g x));
      none = none_more_in (first_absent tables) (absent-append tables) g imports i x lt is c.loop-import.invariant.none none;
      files = c.in_ok-file.ensures.numbers;
    }

pub returns-in_err-spell_taken-clause-all : goal.returns-in_err-spell_taken-clause-all
returns-in_err-spell_taken-clause-all c =
    let paths = c.args.paths.now in
    let tables = c.args.tables.now in
    let s = c.args.source.now in
    let imports = s.tree.imports in
    let g = functions_of paths s.path in
    let i = c.loop-import.import-index in
    let x = c.import-item.result in
    let lt : i < length imports = subst (λ (l : List Import). i < length l) c.as_slice-import-items.ensures c.loop-import-test.true in
    let is : x ≡ get_or imports i x = subst (λ (l : List Import). x ≡ get_or l i x) c.as_slice-import-items.ensures c.import-item.is in
    let file = c.in_ok-file.ensures.number in
    let here : taken_functions c.in_ok-file.file c.as_slice.result.now ≡ g x = ap₂ taken_functions file c.as_slice.ensures in
    let fault = c.in_err-spell_taken.field-0.0 in
    let lack = subst (IsLack fault s.path) (outside_is tables c.in_ok-file.file c.as_slice.result.now ∙ ap (first_absent tables) here) c.in_err-spell_taken.ensures.all in
    let e = err_from_is_err_and c.from_residual-in_err-spell_taken.result c.from_residual-in_err-spell_taken.ensures.1 in
    rw (e.1, e.2)
    (subst (IsLack fault s.path) (sym (found_here_in (first_absent tables) (absent-append tables) g imports i x lt is c.loop-import.invariant.none)) (lack_first fault s.path _ _ lack))

pub returns-clause-ok : goal.returns-clause-ok
returns-clause-ok c =
    let s = c.args.source.now in
    let g = functions_of c.args.paths.now s.path in
    let past = subst (λ (l : List Import). length l ≤ c.loop-import.import-index) c.as_slice-import-items.ensures c.loop-import-test.false in
    let taken = ap (λ (l : List Import). map (spelled c.args.run) (flat_map g l)) (taken_all s.tree.imports c.loop-import.import-index past) in
    c.in_ok-spell_own.ensures ∙ ap₂ (λ (a : List (List ℕ)) (l : List FuncTree). a ++ map (spelled c.args.run) (own_functions c.args.number l)) (c.loop-import.invariant.names ∙ taken) c.as_slice-2.ensures
    ∙ sym (map-append (spelled c.args.run) (taken_of c.args.paths.now s) (own_functions c.args.number s.tree.funcs))

pub returns-clause-all : goal.returns-clause-all
returns-clause-all c =
    let tables = c.args.tables.now in
    let s = c.args.source.now in
    let g = functions_of c.args.paths.now s.path in
    let past = subst (λ (l : List Import). length l ≤ c.loop-import.import-index) c.as_slice-import-items.ensures c.loop-import-test.false in
    ap (λ (l : List Import). first_absent tables (flat_map g l)) (sym (taken_all s.tree.imports c.loop-import.import-index past)) ∙ c.loop-import.invariant.none
