-- Marks of variables.
use Rattle.std.proofs.Common.{◌≡◌, ℕ, ◌<◌, Bool, true, false, List, length, set, sym, ap, ◌∙◌, ⊎_elim}
use Rattle.std.proofs.lemmas.Bool.{cases_eq, cases_lt}
use Rattle.std.proofs.lemmas.List.{get_or_past, get_or-set_same, get_or-set_other}
use Rattle.graph_search.specs.Marks.{is_marked}

pub false-true : (b : Bool) → b ≡ false → b ≡ true → ⊥
false-true b e h = let f : false ≡ true = sym e ∙ h in cc

pub marked-below : (marks : List Bool) (x : ℕ) → is_marked marks x ≡ true → x < length marks
marked-below marks x e = ⊎_elim (λ l. l) (λ high. absurd (false-true (is_marked marks x) (get_or_past marks x false high) e)) (cases_lt x (length marks))

pub marked-differ : (marks : List Bool) (x y : ℕ) → is_marked marks x ≡ true → is_marked marks y ≡ false → x ≡ y → ⊥
marked-differ marks x y e f same = false-true (is_marked marks y) f (ap (is_marked marks) (sym same) ∙ e)

module _ (marks : List Bool) (x : ℕ) where
  pub marked-here : x < length marks → is_marked (set marks x true) x ≡ true
  marked-here low = get_or-set_same marks x true false low

  pub marked-other : (z : ℕ) → (z ≡ x → ⊥) → is_marked (set marks x true) z ≡ is_marked marks z
  marked-other z d = get_or-set_other marks x z true false d

  pub marked-kept : (z : ℕ) → is_marked marks z ≡ true → is_marked (set marks x true) z ≡ true
  marked-kept z e = ⊎_elim
      (λ same. ap (is_marked (set marks x true)) same ∙ marked-here (marked-below marks x (ap (is_marked marks) (sym same) ∙ e)))
      (λ d. marked-other z d ∙ e) (cases_eq z x)

  pub marked-before : (z : ℕ) → is_marked (set marks x true) z ≡ true → (z ≡ x → ⊥) → is_marked marks z ≡ true
  marked-before z e d = sym (marked-other z d) ∙ e

  -- what isn't marked wasn't, and is another one
  pub unmarked-other : x < length marks → (z : ℕ) → is_marked (set marks x true) z ≡ false → z ≡ x → ⊥
  unmarked-other low z e same = false-true (is_marked (set marks x true) z) e (ap (is_marked (set marks x true)) same ∙ marked-here low)

  pub unmarked-before : x < length marks → (z : ℕ) → is_marked (set marks x true) z ≡ false → is_marked marks z ≡ false
  unmarked-before low z e = sym (marked-other z (unmarked-other low z e)) ∙ e
