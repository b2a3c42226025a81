use Rattle.std.proofs.Common.{◌≡◌, ◌<◌, ◌≤◌, ◌∷◌, ◌++◌, [], length, map, take, get_or, sym, ap, ◌∙◌, subst}
use Rattle.std.proofs.lemmas.List.{map_more, take_all}
use Rattle.bril_tree.specs.Numbered.{Numbered, function_tree, names_of_functions}
use Rattle.bril_names.specs.Range.{AreInRange}
use Rattle.bril_names.proofs.Functions.{program_in_range}
use Rattle.bril_names.proofs.Uniqueness.{one_program}
use Rattle.bril_names.proofs.unnumbering.unnumber.Goals as goal

pub named_function-requires : goal.named_function-requires
named_function-requires c =
    let f = c.f-item.result in
    let at = c.loop-f.f-index in
    let within = subst (λ fs. at < length fs) c.as_slice-f-items.ensures c.loop-f-test.true in
    let is = subst (λ fs. f ≡ get_or fs at f) c.as_slice-f-items.ensures c.f-item.is in
    subst (λ fs. AreInRange (length fs) (length f.vars) (length f.labels) f.code) (sym c.as_slice.ensures) (program_in_range c.args.prog.now at f within is)

pub loop-f-preserved : goal.loop-f-preserved
loop-f-preserved c =
    let funcs = c.args.prog.now.funcs in
    let f = c.f-item.result in
    let at = c.loop-f.f-index in
    let within = subst (λ fs. at < length fs) c.as_slice-f-items.ensures c.loop-f-test.true in
    let is = subst (λ fs. f ≡ get_or fs at f) c.as_slice-f-items.ensures c.f-item.is in
    let tree_from = function_tree (names_of_functions funcs) in
    let tree : c.in_ok-named_function.field-0 ≡ tree_from f = c.in_ok-named_function.ensures ∙ ap (λ fs. function_tree (names_of_functions fs) f) c.as_slice.ensures in
    c.in_ok-push.ensures.ok ∙ (λ i. c.loop-f.invariant i ++ tree i ∷ []) ∙ ap (λ g. map tree_from (take at funcs) ++ tree_from g ∷ []) is
    ∙ sym (map_more tree_from funcs at f within)

pub returns-clause-back : goal.returns-clause-back
returns-clause-back c =
    let p = c.args.prog.now in
    let done : length p.funcs ≤ c.loop-f.f-index = subst (λ fs. length fs ≤ c.loop-f.f-index) c.as_slice-f-items.ensures c.loop-f-test.false in
    let ok : Numbered (record { imports = c.new.result; funcs = c.loop-f.funcs }) p = record {
      alone = c.new.ensures;
      functions = c.loop-f.invariant ∙ ap (map (function_tree (names_of_functions p.funcs))) (take_all c.loop-f.f-index p.funcs done);
    } in
    λ q of_q. one_program (record { imports = c.new.result; funcs = c.loop-f.funcs }) q p of_q ok
