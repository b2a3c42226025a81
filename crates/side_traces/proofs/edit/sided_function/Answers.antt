use Rattle.std.proofs.Common.{◌∙◌, List, length, sym, ap, refl}
use Rattle.std.specs.Prelude.{slice_get}
use Rattle.bril_tree.specs.declared.function_tree.Item.{Item}
use Rattle.side_laws.specs.Sided.{exits_before}
use Rattle.side_traces.proofs.Inside.{exits-inside, guards-below}
use Rattle.side_traces.proofs.Made.{all-made, nothing-made}
use Rattle.side_traces.proofs.Retargeting.{sided-long}
use Rattle.side_traces.proofs.edit.sided_function.Goals as goal

pub returns-then-len-eq0 : goal.returns-then-len-eq0
returns-then-len-eq0 c = nothing-made c.args.func.now c.args.tree c.in_ok-pairs.pairs c.in_ok-pairs.ensures (sym c.len.ensures ∙ c.if-len-eq0.true)

pub exit_rows-requires-clause-inside : goal.exit_rows-requires-clause-inside
exit_rows-requires-clause-inside c = exits-inside c.args.func.now c.args.func.now.labels c.in_ok-pairs.pairs c.in_ok-exits.exits c.in_ok-exits.ensures (c.requires.inside c.in_ok-pairs.pairs c.in_ok-pairs.ensures)

pub retargeted-requires : goal.retargeted-requires
retargeted-requires c =
    guards-below c.args.func.now (length c.args.tree.code) c.in_ok-exits.exits c.requires.tree
    (exits-inside c.args.func.now c.args.func.now.labels c.in_ok-pairs.pairs c.in_ok-exits.exits c.in_ok-exits.ensures (c.requires.inside c.in_ok-pairs.pairs c.in_ok-pairs.ensures))

pub with_rows-requires : goal.with_rows-requires
with_rows-requires c =
    c.in_ok-rows.ensures.long ∙ ap (λ (l : List Item). length l) c.as_slice.ensures ∙ sym (sided-long c.in_ok-exits.exits 0 c.args.tree.code) ∙ sym (ap (λ (l : List Item). length l) c.in_ok-items.ensures)

pub returns : goal.returns
returns c =
    let F = c.args.func.now in
    let exits = c.in_ok-exits.exits in
    all-made F c.args.tree _ c.in_ok-pairs.pairs exits c.in_ok-rows.rows.items c.in_ok-items.items c.in_ok-code.code
    (c.in_ok-rows.ensures.long ∙ ap (λ (l : List Item). length l) c.as_slice.ensures ∙ sym (sided-long exits 0 c.args.tree.code) ∙ sym (ap (λ (l : List Item). length l) c.in_ok-items.ensures))
    c.in_ok-pairs.ensures c.in_ok-exits.ensures
    (λ i. c.in_ok-rows.ensures.rows i ∙ ap (λ (l : List Item). exits_before (slice_get l) F.labels F.code exits i) c.as_slice.ensures)
    c.in_ok-items.ensures c.in_ok-code.ensures refl
