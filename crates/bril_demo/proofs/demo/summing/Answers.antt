use Rattle.std.proofs.Common.{◌≡◌, ◌∙◌, refl, ap₂, List, ◌∷◌}
use Rattle.bril_tree.specs.declared.function_tree.Item.{Item}
use Rattle.bril_demo.proofs.demo.summing.Goals as goal

-- lists of items that are the same one by one
next : {x y : Item} {xs ys : List Item} → x ≡ y → xs ≡ ys → x ∷ xs ≡ y ∷ ys
next = ap₂ (λ (a : Item) (l : List Item). a ∷ l)

pub returns : goal.returns
returns c =
    c.of_items.ensures ∙ c.in_ok-items.ensures.items ∙
    next c.in_ok-constant.ensures (
    next c.in_ok-constant-2.ensures (
    next c.in_ok-constant-3.ensures (
    next c.in_ok-constant-4.ensures (
    next c.in_ok-constant-5.ensures (
    next c.in_ok-label.ensures (
    next c.in_ok-binary.ensures (
    next c.in_ok-branch.ensures (
    next c.in_ok-label-2.ensures (
    next c.in_ok-binary-2.ensures (
    next c.in_ok-binary-3.ensures (
    next c.in_ok-binary-4.ensures (
    next c.in_ok-binary-5.ensures (
    next c.in_ok-branch-2.ensures (
    next c.in_ok-label-3.ensures (
    next c.in_ok-binary-6.ensures (
    next c.in_ok-label-4.ensures (
    next c.in_ok-binary-7.ensures (
    next c.in_ok-jump.ensures (
    next c.in_ok-label-5.ensures (
    next c.in_ok-give_back.ensures (
    refl)))))))))))))))))))))
