-- A bound in code tells that of the pass: it is the same, or as great as a number of 64 bits can be.
use Rattle.std.proofs.Common.{◌≡◌, ◌⊎◌, ℕ, ◌<◌, ◌≤◌, refl, sym, subst, ◌∙◌, inl, inr, ⊎_elim, arith}
use Rattle.bril_tree.proofs.Sizes.{sum-counted, counted-size}
use Rattle.bril_tree.specs.Size.{IsCounted, item_count}
use Rattle.bril_tree.specs.declared.program.Prog.{Prog}
use Rattle.pass_law.specs.Bounds.{capped}
use Rattle.pass_make.specs.Edited.{TellsBound, HasRoom}

capped-below : (n m : ℕ) → capped n ≤ m → m < 18446744073709551615 → n ≤ m
capped-below n m h less = omega arith

capped-fits : (n : ℕ) → n < 18446744073709551616 → capped n ≡ n
capped-fits n less = omega arith

-- a number of 64 bits that is the bound tells it
pub tells-equal : (bound told : ℕ) → told ≡ bound → bound < 18446744073709551616 → TellsBound (λ k. k ≡ bound) told
tells-equal bound told e less = record { bound = bound; is = refl; tells = e ∙ sym (capped-fits bound less) }

-- so does the number of items
pub tells-size : (P Q : Prog) → P ≡ Q → IsCounted P → (told : ℕ) → told ≡ item_count P → TellsBound (λ k. k ≡ item_count Q) told
tells-size P Q e c told is = subst (λ (R : Prog). TellsBound (λ k. k ≡ item_count R) told) e (tells-equal (item_count P) told is (counted-size P c))

module _ (Is : ℕ → Type 0) (told : ℕ) (t : TellsBound Is told) where
  -- what isn't too large by the number isn't by the bound
  pub room-told : (P : Prog) → IsCounted P → ((j k : ℕ) → Is j → Is k → j ≡ k) → (told ≤ 1000000) ⊎ (told ≤ item_count P) → HasRoom Is (item_count P)
  room-told P c one room k is =
      let e = one k t.bound is t.is in
      subst (λ n. (n ≤ 1000000) ⊎ (n ≤ item_count P)) (sym e)
      (⊎_elim (λ l. inl (capped-below t.bound 1000000 (subst (λ n. n ≤ 1000000) t.tells l) (omega arith)))
      (λ l. inr (capped-below t.bound (item_count P) (subst (λ n. n ≤ item_count P) t.tells l) (let h = sum-counted P.funcs c.items in let n = c.functions in omega arith))) room)
