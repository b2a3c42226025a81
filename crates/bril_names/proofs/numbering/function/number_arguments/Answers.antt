use Rattle.std.proofs.Common.{◌≡◌, ◌<◌, ◌≤◌, length, get_or, inr, refl, sym, ◌∙◌, subst}
use Rattle.std.specs.List.{Contains}
use Rattle.std.proofs.lemmas.List.{length-map, take_all}
use Rattle.bril_tree.specs.declared.function_tree.Dest.{Dest}
use Rattle.bril_tree.specs.Numbered.{variable_names}
use Rattle.bril_names.specs.Faults.{Differ, argument_names}
use Rattle.bril_names.proofs.FaultPlaces.{argument_twice}
use Rattle.bril_names.proofs.Steps.{argument_within, argument_is, names_so_far, argument_more, argument_differs}
use Rattle.bril_names.proofs.Tables.{found_there, not_there}
use Rattle.bril_names.proofs.numbering.function.number_arguments.Goals as goal

pub returns-then-is_some-clause-fault : goal.returns-then-is_some-clause-fault
returns-then-is_some-clause-fault c =
    let f = c.args.function.now in
    let k = c.loop-arg.arg-index in
    let arg = c.arg-item.result in
    let vars = c.loop-arg.vars.infos.items in
    let within : k < length f.args = subst (λ list. k < length list) c.as_slice-arg-items.ensures c.loop-arg-test.true in
    let is : arg ≡ get_or f.args k arg = subst (λ list. arg ≡ get_or list k arg) c.as_slice-arg-items.ensures c.arg-item.is in
    let there = found_there (variable_names vars) arg.name c.find.result c.find.ensures (sym c.is_some.ensures ∙ c.if-is_some.true) in
    let before = subst (λ names. Contains names arg.name) (names_so_far f k arg within is vars c.loop-arg.invariant.vars) there in
    λ functions. inr (refl, argument_twice (argument_names f) k arg.name (argument_within f k arg within is) (argument_is f k arg within is) before)

pub loop-arg-preserved : goal.loop-arg-preserved
loop-arg-preserved c =
    let f = c.args.function.now in
    let k = c.loop-arg.arg-index in
    let arg = c.arg-item.result in
    let vars = c.loop-arg.vars.infos.items in
    let within : k < length f.args = subst (λ list. k < length list) c.as_slice-arg-items.ensures c.loop-arg-test.true in
    let is : arg ≡ get_or f.args k arg = subst (λ list. arg ≡ get_or list k arg) c.as_slice-arg-items.ensures c.arg-item.is in
    let new = not_there (variable_names vars) arg.name c.find.result c.find.ensures (sym c.is_some.ensures ∙ c.if-is_some.false) in
    record {
      vars = c.in_ok-append.ensures.infos ∙ argument_more f k arg within is vars c.loop-arg.invariant.vars;
      differ = argument_differs f k arg within is vars c.loop-arg.invariant.vars c.loop-arg.invariant.differ new;
    }

pub returns-clause-differ : goal.returns-clause-differ
returns-clause-differ c =
    let f = c.args.function.now in
    let k = c.loop-arg.arg-index in
    let past : length f.args ≤ k = subst (λ list. length list ≤ k) c.as_slice-arg-items.ensures c.loop-arg-test.false in
    subst Differ (take_all k (argument_names f) (subst (λ n. n ≤ k) (sym (length-map f.args (λ (a : Dest). a.name))) past)) c.loop-arg.invariant.differ
