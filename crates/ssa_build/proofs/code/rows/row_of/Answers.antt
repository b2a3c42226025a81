use Rattle.std.proofs.Common.{◌≡◌, ◌<◌, ◌∙◌, get_or, sym, subst}
use Rattle.std.specs.List.{AllPairs, Contains}
use Rattle.std.specs.Prelude.{◌≢◌}
use Rattle.bril_tree.proofs.Members.{in_contains}
use Rattle.pass_edit_laws.proofs.lemmas.plan.Elements.{all_in}
use Rattle.std.proofs.lemmas.List.Elements.{Contains-get_or}
use Rattle.flow_graph.specs.declared.reads.Access.{Access}
use Rattle.ssa_build.proofs.code.rows.row_of.Goals as goal

pub distinct-requires-clause-within : goal.distinct-requires-clause-within
distinct-requires-clause-within c = λ k d low.
    let labels = c.as_slice.result.now in
    let there : Contains labels (get_or labels k d) = Contains-get_or labels k d low in
    let there' = subst (λ l. Contains l (get_or labels k d)) c.as_slice.ensures.value there in
    let listed = (c.in_ok-labels.ensures (get_or labels k d)).0 there' in
    all_in (λ (a : Access). a.item < c.args.none.now.nodes) c.args.lists.now.list c.requires.within _ (in_contains _ c.args.lists.now.list listed)

pub returns-clause-row : goal.returns-clause-row
returns-clause-row c =
    let labels = c.as_slice.result.now in
    let row : c.of_items.result ≡ c.distinct.new.reached.found = c.of_items.ensures ∙ c.in_ok-from_slice.ensures.items ∙ c.found.ensures.value in
    record {
      differ = subst (AllPairs (λ m n. m ≢ n)) (sym (c.of_items.ensures ∙ c.in_ok-from_slice.ensures.items)) c.found.ensures.once;
      exact = λ k.
          let f = c.in_ok-distinct.ensures.found k in
          let i = c.in_ok-labels.ensures k in (
            (λ h. i.0 (subst (λ l. Contains l k) c.as_slice.ensures.value (f.0 (subst (λ l. Contains l k) row h)))),
            (λ h. subst (λ l. Contains l k) (sym row) (f.1 (subst (λ l. Contains l k) (sym c.as_slice.ensures.value) (i.1 h)))),
          );
    }
