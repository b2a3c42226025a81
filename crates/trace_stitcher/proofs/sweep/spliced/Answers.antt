use Rattle.std.proofs.Common.{◌≡◌, ◌<◌, ◌++◌, ◌∙◌, [], List, ℕ, length, map, ap, arith}
use Rattle.std.proofs.lemmas.List.{get_or_default}
use Rattle.bril_tree.specs.declared.function_tree.Item.{Item}
use Rattle.bril_tree.specs.declared.function_tree.Item.TheVariants as item
use Rattle.trace_stitcher.specs.Inserted.{around, row}
use Rattle.trace_stitcher.proofs.Splicing.{around-all}
use Rattle.trace_stitcher.proofs.sweep.spliced.Goals as goal

pub returns : goal.returns
returns c =
    let before = c.args.inserted.now.before.items in
    let behind = c.args.inserted.now.behind.items in
    let end = length c.as_slice-end.result.now in
    let count : end ≡ length c.args.items = ap (λ (l : List Item). length l) c.as_slice-end.ensures in
    let within : end < length before = let h = c.requires.before in omega (arith, h, count) in
    let here : c.as_slice.result.now ≡ row before end = c.as_slice.ensures ∙ c.index.ensures ∙ get_or_default before end c.index.result.now [] within in
    around-all (λ i. map item.Label (row before i)) (row behind) c.args.items end c.push_all.new.made c.push_labels.new.made count
    (c.in_ok-push_all.ensures ∙ ap (λ (l : List Item). l ++ around (λ i. map item.Label (row before i)) (row behind) 0 c.args.items) c.new-made.ensures)
    (c.in_ok-push_labels.ensures ∙ ap (λ (l : List (List ℕ)). c.push_all.new.made ++ map item.Label l) here)
