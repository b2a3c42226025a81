-- Pieces that are added to code one after another, and what is known of a point.
use Rattle.std.proofs.Common.{◌≡◌, ℕ, zero, suc, ◌+◌, ◌-◌, ◌<◌, Bool, true, false, cond, List, [], ◌∷◌, ◌++◌, length, take, get_or, Option, Some, refl, sym, ap, subst, ◌∙◌, arith, append_assoc}
use Rattle.std.specs.Prelude.{slice_get}
use Rattle.std.specs.List.{flat_map}
use Rattle.std.proofs.lemmas.Grind.{flat_map-append}
use Rattle.std.proofs.lemmas.List.{append-nil, take_more}
use Rattle.bril_tree.specs.declared.function_tree.Item.{Item}
use Rattle.bril_tree.specs.declared.numbered.Instr.{Instr}
use Rattle.ssa_build.specs.code.Sweep.{LayoutView, falls_at, goes_on, reached_at, sets_leaving, sets_to}

-- ---- pieces

pub three : (old a b c m1 m2 m3 : List Item) → m1 ≡ old ++ a → m2 ≡ m1 ++ b → m3 ≡ m2 ++ c → m3 ≡ old ++ (a ++ b ++ c)
three old a b c m1 m2 m3 e f g = g ∙ ap (λ l. l ++ c) (f ∙ ap (λ l. l ++ b) e ∙ append_assoc old a b) ∙ append_assoc old (a ++ b) c

pub leaving-more : (l : LayoutView) (now labels : List ℕ) (i label : ℕ) (old mid new : List Item) → i < length labels → label ≡ get_or labels i 0 → mid ≡ old ++ sets_leaving l now (take i labels) → new ≡ mid ++ sets_to l now label
    → new ≡ old ++ sets_leaving l now (take (i + 1) labels)
leaving-more l now labels i label old mid new low is e f =
    let more : sets_leaving l now (take (i + 1) labels) ≡ sets_leaving l now (take i labels) ++ sets_to l now label =
    ap (flat_map (sets_to l now)) (take_more labels i 0 low ∙ ap (λ x. take i labels ++ x ∷ []) (sym is)) ∙ flat_map-append (sets_to l now) (take i labels) (label ∷ [])
    ∙ ap (λ x. sets_leaving l now (take i labels) ++ x) (append-nil (sets_to l now label)) in
    f ∙ ap (λ x. x ++ sets_to l now label) e ∙ append_assoc old (sets_leaving l now (take i labels)) (sets_to l now label) ∙ ap (λ x. old ++ x) (sym more)

-- ---- points

pub falls-on : (code : List Instr) (sites : List (Option (List ℕ))) (point : ℕ) (item : Instr) (b : Bool) → (point ≡ 0 → ⊥) → reached_at (slice_get sites (point - 1)) ≡ true → slice_get code (point - 1) ≡ Some item → b ≡ goes_on (Some item) → b ≡ falls_at code sites point
falls-on code sites zero item b ne reached at is = absurd (ne refl)
falls-on code sites (suc p) item b ne reached at is =
    let same : suc p - 1 ≡ p = omega arith in
    let r : reached_at (slice_get sites p) ≡ true = subst (λ n. reached_at (slice_get sites n) ≡ true) same reached in
    let a : slice_get code p ≡ Some item = subst (λ n. slice_get code n ≡ Some item) same at in
    is ∙ ap goes_on (sym a) ∙ ap (λ c. cond c (goes_on (slice_get code p)) false) (sym r)
