-- One more import, and then the functions.
use Rattle.std.proofs.Common.{◌≡◌, ◌∙◌, ◌<◌, ◌≤◌, ◌++◌, ap, sym, subst, length, take, drop, get_or, [], List, ℕ, ◌+◌, None, append_assoc, append-nil}
use Rattle.std.specs.Prelude.{flat_map}
use Rattle.std.proofs.lemmas.Result.{err_from_is_err_and}
use Rattle.bril_tree.specs.declared.import.Import.{Import}
use Rattle.import_linker.specs.Names.{names_taken, function_names, repeated_after}
use Rattle.import_linker.proofs.Repeating.{Clashes, flat_more, flat_split, step_err, step_names, step_none, taken_all}
use Rattle.import_linker.proofs.locals.local_names.Goals as goal

abbrev taken_by : Import → List (List ℕ)
taken_by i = names_taken i.names

pub loop-import-preserved : goal.loop-import-preserved
loop-import-preserved c =
    let imports = c.args.source.now.tree.imports in
    let item = c.import-item.result in
    let at = c.loop-import.import-index in
    let lt : at < length imports = subst (λ (l : List Import). at < length l) c.as_slice-import-items.ensures c.loop-import-test.true in
    let is : item ≡ get_or imports at item = subst (λ (l : List Import). item ≡ get_or l at item) c.as_slice-import-items.ensures c.import-item.is in
    let before = flat_map taken_by (take at imports) in
    let taken = ap names_taken c.as_slice.ensures in
    let ok : c.add_taken.new.names ≡ c.loop-import.names ++ taken_by item = c.in_ok-add_taken.ensures.ok ∙ ap (λ (l : List (List ℕ)). c.loop-import.names ++ l) taken in
    let none : repeated_after c.loop-import.names (taken_by item) ≡ None = ap (repeated_after c.loop-import.names) (sym taken) ∙ c.in_ok-add_taken.ensures.adds in
    let more = flat_more taken_by imports at item lt is in
    record {
      names = step_names [] before c.loop-import.names c.add_taken.new.names (taken_by item) c.loop-import.invariant.names ok ∙ sym more;
      none = ap (repeated_after []) more ∙ step_none [] before c.loop-import.names (taken_by item) c.loop-import.invariant.names c.loop-import.invariant.none none;
    }

pub returns-in_err-add_taken-clause-adds : goal.returns-in_err-add_taken-clause-adds
returns-in_err-add_taken-clause-adds c =
    let imports = c.args.source.now.tree.imports in
    let own = function_names c.args.source.now.tree.funcs in
    let item = c.import-item.result in
    let at = c.loop-import.import-index in
    let lt : at < length imports = subst (λ (l : List Import). at < length l) c.as_slice-import-items.ensures c.loop-import-test.true in
    let is : item ≡ get_or imports at item = subst (λ (l : List Import). item ≡ get_or l at item) c.as_slice-import-items.ensures c.import-item.is in
    let before = flat_map taken_by (take at imports) in
    let later = flat_map taken_by (drop (at + 1) imports) in
    let e = err_from_is_err_and c.from_residual.result c.from_residual.ensures.1 in
    let h : Clashes c.in_err-add_taken.field-0.0 c.args.source.now.path c.loop-import.names (taken_by item) =
    subst (Clashes c.in_err-add_taken.field-0.0 c.args.source.now.path c.loop-import.names) (ap names_taken c.as_slice.ensures) c.in_err-add_taken.ensures.adds in
    rw (e.1, e.2)
    (step_err c.in_err-add_taken.field-0.0 c.args.source.now.path [] before c.loop-import.names (taken_by item) (later ++ own) _ c.loop-import.invariant.names c.loop-import.invariant.none h
    (ap (λ (l : List (List ℕ)). l ++ own) (flat_split taken_by imports at item lt is) ∙ append_assoc before (taken_by item ++ later) own
    ∙ ap (λ (l : List (List ℕ)). before ++ l) (append_assoc (taken_by item) later own)))

-- all imports are done
all_taken : (imports items : List Import) (at : ℕ) (names : List (List ℕ)) → items ≡ imports → length items ≤ at → names ≡ flat_map taken_by (take at imports) → names ≡ flat_map taken_by imports
all_taken imports items at names same past is =
    is ∙ ap (flat_map taken_by) (taken_all imports at (subst (λ (l : List Import). length l ≤ at) same past))

none_taken : (imports items : List Import) (at : ℕ) → items ≡ imports → length items ≤ at → repeated_after [] (flat_map taken_by (take at imports)) ≡ None
    → repeated_after [] (flat_map taken_by imports) ≡ None
none_taken imports items at same past none =
    ap (λ (l : List Import). repeated_after [] (flat_map taken_by l)) (sym (taken_all imports at (subst (λ (l : List Import). length l ≤ at) same past))) ∙ none

pub returns-in_err-add_functions-clause-adds : goal.returns-in_err-add_functions-clause-adds
returns-in_err-add_functions-clause-adds c =
    let imports = c.args.source.now.tree.imports in
    let own = function_names c.args.source.now.tree.funcs in
    let taken = flat_map taken_by imports in
    let items = c.as_slice-import-items.result.now in
    let e = err_from_is_err_and c.from_residual-in_err-add_functions.result c.from_residual-in_err-add_functions.ensures.1 in
    let h : Clashes c.in_err-add_functions.field-0.0 c.args.source.now.path c.loop-import.names own =
    subst (Clashes c.in_err-add_functions.field-0.0 c.args.source.now.path c.loop-import.names) (ap function_names c.as_slice-2.ensures) c.in_err-add_functions.ensures.adds in
    rw (e.1, e.2)
    (step_err c.in_err-add_functions.field-0.0 c.args.source.now.path [] taken c.loop-import.names own [] _
    (all_taken imports items c.loop-import.import-index c.loop-import.names c.as_slice-import-items.ensures c.loop-import-test.false c.loop-import.invariant.names)
    (none_taken imports items c.loop-import.import-index c.as_slice-import-items.ensures c.loop-import-test.false c.loop-import.invariant.none) h
    (ap (λ (l : List (List ℕ)). taken ++ l) (sym (append-nil own))))

pub returns-clause-adds : goal.returns-clause-adds
returns-clause-adds c =
    let imports = c.args.source.now.tree.imports in
    let own = function_names c.args.source.now.tree.funcs in
    let items = c.as_slice-import-items.result.now in
    let here : repeated_after c.loop-import.names own ≡ None = ap (λ (l : List (List ℕ)). repeated_after c.loop-import.names l) (sym (ap function_names c.as_slice-2.ensures)) ∙ c.in_ok-add_functions.ensures.adds in
    step_none [] (flat_map taken_by imports) c.loop-import.names own
    (all_taken imports items c.loop-import.import-index c.loop-import.names c.as_slice-import-items.ensures c.loop-import-test.false c.loop-import.invariant.names)
    (none_taken imports items c.loop-import.import-index c.as_slice-import-items.ensures c.loop-import-test.false c.loop-import.invariant.none) here
