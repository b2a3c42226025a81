-- Guards that name side exits, from the last exit to the first.
use Rattle.std.proofs.Common.{◌≡◌, ◌≢◌, ℕ, zero, suc, ◌+◌, ◌<◌, Bool, true, false, List, [], ◌∷◌, length, drop, drop-cons, get_or, set, Option, Some, None, refl, sym, ap, ◌∙◌, arith}
use Rattle.std.specs.Prelude.{◌==◌, if◌then◌else◌, slice_get}
use Rattle.std.proofs.lemmas.Bool.{eq-eqb, eqb-true}
use Rattle.std.proofs.lemmas.List.{drop_all}
use Rattle.std.proofs.lemmas.Option.{get_or_from_slice_get, slice_get_within}
use Rattle.bril_tree.specs.declared.function_tree.Item.{Item}
use Rattle.bril_tree.specs.declared.function_tree.Item.TheVariants as item
use Rattle.side_laws.specs.Sided.{SideExit, exit_at, retargeted, retargeted_by, sided_items}

-- no exits
pub sided-none : (k : ℕ) (items : List Item) → sided_items [] k items ≡ items
sided-none k [] = refl
sided-none k (a ∷ items) = ap (λ l. a ∷ l) (sided-none (suc k) items)

pub sided-long : (exits : List SideExit) (k : ℕ) (items : List Item) → length (sided_items exits k items) ≡ length items
sided-long exits k [] = refl
sided-long exits k (a ∷ items) = ap suc (sided-long exits (suc k) items)

-- the label that is given last counts
retargeted-twice : (one two : List ℕ) (a : Item) → retargeted one (retargeted two a) ≡ retargeted one a
retargeted-twice one two (item.Label n) = refl
retargeted-twice one two (item.Const d ty v) = refl
retargeted-twice one two (item.Act d o args fns ls) = refl

retargeted-again : (name : List ℕ) (o : Option SideExit) (a : Item) → retargeted name (retargeted_by o a) ≡ retargeted name a
retargeted-again name None a = refl
retargeted-again name (Some w) a = retargeted-twice name w.name a

module _ (w : SideExit) (exits : List SideExit) where
  here : (k : ℕ) → w.pair.guard ≡ k → exit_at (w ∷ exits) k ≡ Some w
  here k e = ap (λ b. if b then Some w else exit_at exits k) (eq-eqb w.pair.guard k e)

  elsewhere : (k : ℕ) → w.pair.guard ≢ k → exit_at (w ∷ exits) k ≡ exit_at exits k
  elsewhere k n = by (w.pair.guard == k) refl
    where
      by : (b : Bool) → (w.pair.guard == k) ≡ b → (if w.pair.guard == k then Some w else exit_at exits k) ≡ exit_at exits k
      by true e = absurd (n (eqb-true w.pair.guard k e))
      by false e = ap (λ b. if b then Some w else exit_at exits k) e

  -- an exit whose guard isn't there
  sided-past : (k : ℕ) (items : List Item) → w.pair.guard < k → sided_items exits k items ≡ sided_items (w ∷ exits) k items
  sided-past k [] low = refl
  sided-past k (a ∷ items) low = let one = elsewhere k (λ e. omega (arith, e, low)) in λ i. retargeted_by (sym one i) a ∷ sided-past (suc k) items (omega (arith, low)) i

  -- one exit more
  sided-set : (k i : ℕ) (items : List Item) (d : Item) → w.pair.guard ≡ k + i → i < length items → set (sided_items exits k items) i (retargeted w.name (get_or (sided_items exits k items) i d)) ≡ sided_items (w ∷ exits) k items
  sided-set k i [] d e less = absurd (omega (arith, less))
  sided-set k zero (a ∷ items) d e less =
      let at = here k (omega (arith, e)) in
      λ z. (retargeted-again w.name (exit_at exits k) a ∙ ap (λ o. retargeted_by o a) (sym at)) z ∷ sided-past (suc k) items (omega (arith, e)) z
  sided-set k (suc i) (a ∷ items) d e less =
      let at = elsewhere k (λ s. omega (arith, s, e)) in
      λ z. retargeted_by (sym at z) a ∷ sided-set (suc k) i items d (omega (arith, e)) (omega (arith, less)) z

-- ---- the loop

pub sided-start : (exits : List SideExit) (n : ℕ) (items : List Item) → n ≡ length exits → items ≡ sided_items (drop n exits) 0 items
sided-start exits n items e = sym (ap (λ l. sided_items l 0 items) (drop_all n exits (omega (arith, e))) ∙ sided-none 0 items)

pub sided-step : (exits : List SideExit) (place k : ℕ) (w : SideExit) (items old : List Item) (a new : Item) → place ≡ suc k → slice_get exits k ≡ Some w → w.pair.guard < length items → old ≡ sided_items (drop place exits) 0 items
    → a ≡ get_or old w.pair.guard a → new ≡ retargeted w.name a → set old w.pair.guard new ≡ sided_items (drop k exits) 0 items
sided-step exits place k w items old a new next at below so_far is made =
    let first : drop k exits ≡ w ∷ drop (suc k) exits = drop-cons exits k w (slice_get_within exits k w at) ∙ ap (λ z. z ∷ drop (suc k) exits) (get_or_from_slice_get exits k w w at) in
    let rest : old ≡ sided_items (drop (suc k) exits) 0 items = so_far ∙ ap (λ n. sided_items (drop n exits) 0 items) next in
    (λ z. set (rest z) w.pair.guard ((made ∙ ap (retargeted w.name) (is ∙ ap (λ l. get_or l w.pair.guard a) rest)) z))
    ∙ sided-set w (drop (suc k) exits) 0 w.pair.guard items a (omega arith) below
    ∙ ap (λ l. sided_items l 0 items) (sym first)
