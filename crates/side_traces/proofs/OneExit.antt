-- The lines of a side exit.
use Rattle.std.proofs.Common.{◌≡◌, ℕ, ◌+◌, ◌<◌, List, [], ◌∷◌, ◌++◌, length, take, get_or, Option, append_assoc, append-nil, sym, ap, ◌∙◌}
use Rattle.std.proofs.lemmas.List.{take_more}
use Rattle.bril_tree.specs.declared.function_tree.Item.{Item}
use Rattle.pass_edit_laws.specs.plan.Lines.{listed_item}
use Rattle.side_laws.specs.Sided.{kept_lines}

module _ (tree : ℕ → Option Item) where
  kept-push : (kept : List ℕ) (i : ℕ) → kept_lines tree (kept ++ i ∷ []) ≡ kept_lines tree kept ++ listed_item (tree i)
  kept-push [] i = append-nil (listed_item (tree i))
  kept-push (j ∷ kept) i = ap (λ l. listed_item (tree j) ++ l) (kept-push kept i) ∙ sym (append_assoc (listed_item (tree j)) (kept_lines tree kept) (listed_item (tree i)))

  -- one item more
  pub kept-more : (kept : List ℕ) (k i : ℕ) (front old new : List Item) → k < length kept → get_or kept k i ≡ i → old ≡ front ++ kept_lines tree (take k kept) → new ≡ old ++ listed_item (tree i) → new ≡ front ++ kept_lines tree (take (k + 1) kept)
  kept-more kept k i front old new within is so_far more =
      more ∙ ap (λ l. l ++ listed_item (tree i)) so_far ∙ append_assoc front (kept_lines tree (take k kept)) (listed_item (tree i)) ∙ ap (λ l. front ++ l) (sym (kept-push (take k kept) i))
      ∙ ap (λ n. front ++ kept_lines tree (take k kept ++ n ∷ [])) (sym is) ∙ ap (λ l. front ++ kept_lines tree l) (sym (take_more kept k i within))
