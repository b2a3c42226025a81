-- The lines that stand before an item.
use Rattle.std.proofs.Common.{◌≡◌, ℕ, ◌+◌, ◌<◌, Bool, true, false, List, [], ◌∷◌, ◌++◌, length, take, get_or, Option, append_assoc, append-nil, refl, sym, ap, ◌∙◌}
use Rattle.std.specs.Prelude.{◌==◌, if◌then◌else◌}
use Rattle.std.proofs.lemmas.List.{take_more}
use Rattle.bril_tree.specs.declared.function_tree.Item.{Item}
use Rattle.bril_tree.specs.declared.numbered.Instr.{Instr}
use Rattle.bril_tree.specs.Step.{point_of}
use Rattle.side_laws.specs.Sided.{SideExit, exit_lines, exits_before}

module _ (tree : ℕ → Option Item) (labels : List (List ℕ)) (code : List Instr) where
  -- what one exit adds
  abbrev pub added : SideExit → ℕ → List Item
  added w i = if point_of w.pair.bail code == i then exit_lines tree labels w else []

  before-first : (w : SideExit) (xs : List SideExit) (i : ℕ) → exits_before tree labels code (w ∷ xs) i ≡ added w i ++ exits_before tree labels code xs i
  before-first w xs i = by (point_of w.pair.bail code == i)
    where
      by : (b : Bool) → (if b then exit_lines tree labels w ++ exits_before tree labels code xs i else exits_before tree labels code xs i) ≡ (if b then exit_lines tree labels w else []) ++ exits_before tree labels code xs i
      by true = refl
      by false = refl

  -- one exit more
  before-push : (xs : List SideExit) (w : SideExit) (i : ℕ) → exits_before tree labels code (xs ++ w ∷ []) i ≡ exits_before tree labels code xs i ++ added w i
  before-push [] w i = before-first w [] i ∙ append-nil (added w i)
  before-push (x ∷ xs) w i =
      before-first x (xs ++ w ∷ []) i ∙ ap (λ l. added x i ++ l) (before-push xs w i) ∙ sym (append_assoc (added x i) (exits_before tree labels code xs i) (added w i))
      ∙ ap (λ l. l ++ added w i) (sym (before-first x xs i))

  pub before-more : (exits : List SideExit) (k : ℕ) (w : SideExit) (i point : ℕ) (old new : List Item) → k < length exits → get_or exits k w ≡ w → point ≡ point_of w.pair.bail code → old ≡ exits_before tree labels code (take k exits) i
      → new ≡ old ++ (if point == i then exit_lines tree labels w else []) → new ≡ exits_before tree labels code (take (k + 1) exits) i
  before-more exits k w i point old new within is at so_far more =
      more ∙ (λ z. so_far z ++ (if at z == i then exit_lines tree labels w else [])) ∙ sym (before-push (take k exits) w i)
      ∙ ap (λ x. exits_before tree labels code (take k exits ++ x ∷ []) i) (sym is) ∙ ap (λ l. exits_before tree labels code l i) (sym (take_more exits k w within))
