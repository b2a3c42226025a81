use Rattle.std.proofs.Common.{◌≡◌, [], map, inr, sym, ◌∙◌, subst}
use Rattle.std.specs.List.{Contains}
use Rattle.std.proofs.lemmas.Result.{err_from_is_err_and}
use Rattle.std.proofs.lemmas.List.{get_or_default}
use Rattle.bril_tree.specs.Numbered.{function_tree}
use Rattle.bril_tree.specs.ProgramForm.{main_name}
use Rattle.bril_names.specs.Faults.{Differ, IsFaultOf}
use Rattle.bril_names.specs.Numbering.{IsFaultAmong}
use Rattle.bril_names.specs.declared.fault.NameFault.TheVariants.{NoMain}
use Rattle.bril_names.proofs.Outcomes.{fault_of_tree, program_formed, functions_are, fault_numbers, fault_is}
use Rattle.bril_names.proofs.Uniqueness.{one_program, one_tree, never_both}
use Rattle.bril_names.proofs.numbering.number.Goals as goal
use Rattle.bril_names.proofs.numbering.number.Goals.{In_default, In_err-funcs, In_ok-funcs}

-- no function is `main`
no_main : (c : In_default) → IsFaultOf c.args.tree.now NoMain
no_main c =
    let names = c.in_ok-functions.ensures.names in
    inr (subst Differ names c.in_ok-functions.ensures.differ, subst (λ ns. ¬ Contains ns main_name) names c.in_default.ensures)

-- the functions as they stand in the tree
trees : (c : In_ok-funcs) → c.args.tree.now.funcs ≡ map (function_tree c.in_ok-functions.functions) c.in_ok-funcs.funcs
trees c = sym c.as_slice.ensures ∙ c.in_ok-funcs.ensures.trees

-- the fault of a function is the tree's
fault_within : (c : In_err-funcs) → IsFaultOf c.args.tree.now c.in_err-funcs.field-0.0
fault_within c =
    let functions = c.in_ok-functions.functions in
    let main : Contains functions main_name = (c.in-Some.main, c.in-Some.ensures.0, get_or_default functions c.in-Some.main main_name [] c.in-Some.ensures.0 ∙ c.in-Some.ensures.1) in
    fault_of_tree c.args.tree.now functions c.in_ok-functions.ensures.names c.in_ok-functions.ensures.differ main c.in_err-funcs.field-0.0
    (subst (λ list. IsFaultAmong functions list c.in_err-funcs.field-0.0) c.as_slice.ensures c.in_err-funcs.ensures.fault)

pub returns-in_err-functions-clause-numbers : goal.returns-in_err-functions-clause-numbers
returns-in_err-functions-clause-numbers c =
    let e = err_from_is_err_and c.from_residual.result c.from_residual.ensures.1 in
    λ p numbered. rw (e.1, e.2) (fault_numbers c.args.tree.now c.in_err-functions.field-0.0 c.in_err-functions.ensures.fault p numbered)

pub returns-in_err-functions-clause-faults : goal.returns-in_err-functions-clause-faults
returns-in_err-functions-clause-faults c =
    let e = err_from_is_err_and c.from_residual.result c.from_residual.ensures.1 in
    λ why has. rw (e.1, e.2) (fault_is c.args.tree.now c.in_err-functions.field-0.0 c.in_err-functions.ensures.fault why has)

pub returns-in_default-clause-numbers : goal.returns-in_default-clause-numbers
returns-in_default-clause-numbers c = fault_numbers c.args.tree.now NoMain (no_main (goal.at.returns-in_default-clause-numbers c).In_default)

pub returns-in_default-clause-faults : goal.returns-in_default-clause-faults
returns-in_default-clause-faults c = fault_is c.args.tree.now NoMain (no_main (goal.at.returns-in_default-clause-faults c).In_default)

pub returns-in_err-funcs-clause-numbers : goal.returns-in_err-funcs-clause-numbers
returns-in_err-funcs-clause-numbers c =
    let at = (goal.at.returns-in_err-funcs-clause-numbers c).In_err-funcs in
    let e = err_from_is_err_and c.from_residual-in_err-funcs.result c.from_residual-in_err-funcs.ensures.1 in
    λ p numbered. rw (e.1, e.2) (fault_numbers c.args.tree.now c.in_err-funcs.field-0.0 (fault_within at) p numbered)

pub returns-in_err-funcs-clause-fault : goal.returns-in_err-funcs-clause-fault
returns-in_err-funcs-clause-fault c =
    let at = (goal.at.returns-in_err-funcs-clause-fault c).In_err-funcs in
    let e = err_from_is_err_and c.from_residual-in_err-funcs.result c.from_residual-in_err-funcs.ensures.1 in
    rw (e.1, e.2) (fault_within at)

pub returns-in_err-funcs-clause-faults : goal.returns-in_err-funcs-clause-faults
returns-in_err-funcs-clause-faults c =
    let at = (goal.at.returns-in_err-funcs-clause-faults c).In_err-funcs in
    let e = err_from_is_err_and c.from_residual-in_err-funcs.result c.from_residual-in_err-funcs.ensures.1 in
    λ why has. rw (e.1, e.2) (fault_is c.args.tree.now c.in_err-funcs.field-0.0 (fault_within at) why has)

pub invariant_of-result : goal.invariant_of-result
invariant_of-result c =
    record {
      formed = program_formed c.args.tree.now c.in_ok-functions.functions c.in_ok-funcs.funcs c.in-Some.main c.in_ok-functions.ensures.names (trees c)
          c.in_ok-functions.ensures.differ c.in_ok-funcs.ensures.called c.in-Some.ensures.0 c.in-Some.ensures.1;
    }

pub returns-clause-found : goal.returns-clause-found
returns-clause-found c =
    let at = (goal.at.returns-clause-found c).In_ok-funcs in
    record {
      alone = c.requires;
      functions = functions_are c.args.tree.now c.in_ok-functions.functions c.in_ok-funcs.funcs c.in-Some.main c.in_ok-functions.ensures.names (trees at);
    }

pub returns-clause-numbers : goal.returns-clause-numbers
returns-clause-numbers c = λ p numbered. one_program c.args.tree.now _ p (returns-clause-found c) numbered

pub returns-clause-alone : goal.returns-clause-alone
returns-clause-alone c = λ other numbered. one_tree other c.args.tree.now _ numbered (returns-clause-found c)

pub returns-clause-faults : goal.returns-clause-faults
returns-clause-faults c = λ why has. never_both c.args.tree.now _ why (returns-clause-found c) has
