use Rattle.std.proofs.Common.{◌≡◌, ◌++◌, suc, true, length, sym, ap, subst, ◌∙◌}
use Rattle.std.specs.Prelude.{slice_get}
use Rattle.bril_tree.specs.Walk.{IsReached}
use Rattle.ssa_search.specs.placing.Wanted.{head_of, is_label}
use Rattle.flow_graph.specs.Reads.{item_reads}
use Rattle.ssa_search.specs.accesses.Accesses.{AreAccessesBefore, exposed_if, first_write, last_behind}
use Rattle.ssa_search.proofs.lemmas.accesses.Passing.{item-at, number-low, read-low, reads-low, write-low}
use Rattle.ssa_search.proofs.lemmas.accesses.Tracking.{accesses-more, last-behind_length}
use Rattle.ssa_search.proofs.accesses.accesses.pass_item.Goals as goal

pub push_exposed-requires : goal.push_exposed-requires
push_exposed-requires c =
    let F = c.args.func.now in
    let at = item-at c.as_slice-code.result.now F.code c.as_slice-code.ensures c.args.point c.index-code-point.result c.requires.point c.index-code-point.is in
    reads-low F c.requires.shaped c.args.point c.index-code-point.result at (length c.as_slice-2.result.now) (ap length c.as_slice-2.ensures.value ∙ c.requires.long) c.args.point c.as_slice.result.now (c.as_slice.ensures.value ∙ c.in_ok-reads.ensures)

pub note_assigned-requires-clause-within : goal.note_assigned-requires-clause-within
note_assigned-requires-clause-within c =
    let F = c.args.func.now in
    let at = item-at c.as_slice-code.result.now F.code c.as_slice-code.ensures c.args.point c.index-code-point.result c.requires.point c.index-code-point.is in
    number-low F c.requires.shaped c.args.point c.index-code-point.result at _ c.requires.long c.in_ok-location.location c.in_ok-location.ensures.number

pub returns-clause-long : goal.returns-clause-long
returns-clause-long c =
    let F = c.args.func.now in
    let at = item-at c.as_slice-code.result.now F.code c.as_slice-code.ensures c.args.point c.index-code-point.result c.requires.point c.index-code-point.is in
    ap length c.in_ok-note_assigned.ensures.last ∙ last-behind_length F.code c.args.point c.index-code-point.result at c.args.last.now.items c.in_ok-location.location ∙ c.requires.long

pub returns-clause-behind : goal.returns-clause-behind
returns-clause-behind c =
    let F = c.args.func.now in
    let code = F.code in
    let p = c.args.point in
    let item = c.index-code-point.result in
    let at = item-at c.as_slice-code.result.now code c.as_slice-code.ensures p item c.requires.point c.index-code-point.is in
    let last = c.args.last.now.items in
    let counts = c.counts_at-counts.result in
    let x = c.in_ok-location.location in
    let all = accesses-more code p item at last c.args.exposed.now.items c.args.firsts.now.items c.requires.before
    (λ a i. read-low F c.requires.shaped p item at (length last) c.requires.long a i) counts
    (subst (λ l. counts ≡ true → IsReached l p) c.as_slice-code.ensures c.counts_at-counts.ensures.reached)
    (subst (λ l. counts ≡ true → is_label (slice_get l (head_of code p)) ≡ true) c.as_slice-code.ensures (subst (λ h. counts ≡ true → is_label (slice_get c.as_slice-code.result.now h) ≡ true) c.requires.head c.counts_at-counts.ensures.label))
    (subst (λ l. IsReached l p → is_label (slice_get l (head_of code p)) ≡ true → counts ≡ true) c.as_slice-code.ensures (subst (λ h. IsReached c.as_slice-code.result.now p → is_label (slice_get c.as_slice-code.result.now h) ≡ true → counts ≡ true) c.requires.head c.counts_at-counts.ensures.both))
    x c.in_ok-location.ensures.number (λ a i. write-low F c.requires.shaped p item at (length last) c.requires.long a i) in
    let exposed : c.push_exposed.new.exposed.items ≡ c.args.exposed.now.items ++ exposed_if counts (head_of code p) last (item_reads p item) =
    c.in_ok-push_exposed.ensures ∙ (λ i. c.args.exposed.now.items ++ exposed_if counts (c.requires.head i) (c.as_slice-2.ensures.value i) ((c.as_slice.ensures.value ∙ c.in_ok-reads.ensures) i)) in
    let firsts : c.note_assigned.new.firsts.items ≡ c.args.firsts.now.items ++ first_write p (head_of code p) last x =
    c.in_ok-note_assigned.ensures.firsts ∙ ap (λ h. c.args.firsts.now.items ++ first_write p h last x) c.requires.head in
    subst (λ l. AreAccessesBefore code (suc p) l c.push_exposed.new.exposed.items c.note_assigned.new.firsts.items) (sym c.in_ok-note_assigned.ensures.last)
    (subst (λ e. AreAccessesBefore code (suc p) (last_behind p last x) e c.note_assigned.new.firsts.items) (sym exposed)
    (subst (λ f. AreAccessesBefore code (suc p) (last_behind p last x) (c.args.exposed.now.items ++ exposed_if counts (head_of code p) last (item_reads p item)) f) (sym firsts) all))
