use Rattle.std.proofs.Common.{◌≡◌, ◌<◌, length, map, sym, ◌∙◌, subst}
use Rattle.std.specs.List.{All, Contains}
use Rattle.ssa_search.proofs.lemmas.accesses.Labels.{entries-more, entries-past, preds-enter, preds-within}
use Rattle.ssa_search.proofs.accesses.entries.push_label.Goals as goal

pub returns-then-not-is_label_at-clause-behind : goal.returns-then-not-is_label_at-clause-behind
returns-then-not-is_label_at-clause-behind c = entries-past c.args.code.now c.args.point c.args.entries.now.items (sym c.is_label_at.ensures ∙ c.if-not-is_label_at.true) c.requires.before

pub distinct-requires-clause-within : goal.distinct-requires-clause-within
distinct-requires-clause-within c =
    subst (λ n. All (λ node. node < n) c.as_slice.result.now) (sym c.requires.points)
    (subst (λ l. All (λ node. node < length c.args.code.now) l) (sym (c.as_slice.ensures.value ∙ c.in_ok-leaves.ensures))
    (preds-within c.args.code.now c.args.graph.now c.requires.graph c.requires.sound c.args.point c.preds.result.now c.preds.ensures))

pub returns-clause-behind : goal.returns-clause-behind
returns-clause-behind c =
    let leaves : c.as_slice.result.now ≡ map (λ e. e.leave) c.preds.result.now = c.as_slice.ensures.value ∙ c.in_ok-leaves.ensures in
    let label = sym c.is_label_at.ensures ∙ c.if-not-is_label_at.false in
    entries-more c.args.code.now c.args.point c.args.entries.now.items c.push_entries.new.entries.items c.requires.before (record {
      leaves = c.found.result.now;
      grew = c.in_ok-push_entries.ensures;
      differ = c.found.ensures.once;
      exact = λ p.
          let n = preds-enter c.args.code.now c.args.graph.now c.requires.graph c.requires.sound c.args.point c.preds.result.now c.preds.ensures label p in
          let d = c.in_ok-distinct.ensures.found p in (
            (λ h. n.0 (subst (λ l. Contains l p) leaves (d.0 (subst (λ l. Contains l p) c.found.ensures.value h)))),
            (λ h. subst (λ l. Contains l p) (sym c.found.ensures.value) (d.1 (subst (λ l. Contains l p) (sym leaves) (n.1 h)))),
          );
    })
