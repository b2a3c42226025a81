-- Jumps between words.
use Rattle.std.proofs.Common.{◌≡◌, ℕ, ◌+◌, ◌-◌, ◌*◌, ◌^◌, ◌<◌, ◌≤◌, Bool, true, false, cond, leb, refl, ap, ◌∙◌, arith, List, [], ◌∷◌, pos, negsuc}
use Rattle.std.proofs.lemmas.Bool.Decides.{nat_tests}
use Rattle.rv64_words.specs.declared.image.Image.{Image}
use Rattle.rv64_words.specs.declared.word.Word.{Word}
use Rattle.rv64_words.specs.declared.word.Word.TheVariants.{Jal}
use Rattle.rv64_words.specs.Arithmetic.{moved_by}
use Rattle.rv64_words.specs.Region.{Sizes}
use Rattle.rv64_words_laws.specs.stretches.Core.{Core, written, arrived}
use Rattle.rv64_words_laws.specs.stretches.Runs.{WordAt, Leaves}
use Rattle.rv64_words_laws.proofs.lemmas.stretches.Going.{Going, jump, jump_and_link, guard_jump}
use Rattle.rv64_words_laws.specs.sequences.Sequences.{jump_offset}

-- the bytes from word a to word b lead there
pub moved_to : (a b : ℕ) → a < 2 ^ 20 → b < 2 ^ 20 → moved_by (4 * a) (jump_offset a b) ≡ 4 * b
moved_to a b la lb = by_test (leb a b) refl
  where
    by_test : (t : Bool) → leb a b ≡ t → moved_by (4 * a) (cond t (pos (4 * (b - a))) (negsuc (4 * (a - b) - 1))) ≡ 4 * b
    by_test true e = let h : a ≤ b = grind (arith, nat_tests) in omega arith
    by_test false e = let h : b < a = grind (arith, nat_tests) in omega arith

moved_from : (j a b : ℕ) → j ≡ a → a < 2 ^ 20 → b < 2 ^ 20 → moved_by (4 * j) (jump_offset a b) ≡ 4 * b
moved_from j a b same la lb = ap (λ i. moved_by (4 * i) (jump_offset a b)) same ∙ moved_to a b la lb

module _ (image : Image) (z : Sizes) where
  -- from word j, which is a, to word b
  pub jump_to : {k : ℕ} {c : Core} {n j : ℕ} {e : Core} {ws : List Word} → (a b : ℕ) → j ≡ a → a < 2 ^ 20 → b < 2 ^ 20 → Going image z k c n j e (Jal 0 (jump_offset a b) ∷ ws) → Leaves image z k c (n + 1) (j + 1) b e
  jump_to {j = j} a b same la lb g = jump image z b (moved_from j a b same la lb) g

  -- a call of the function at word b
  pub call_to : {k : ℕ} {c : Core} {n j : ℕ} {e : Core} {ws : List Word} → (a b : ℕ) → j ≡ a → a < 2 ^ 20 → b < 2 ^ 20 → Going image z k c n j e (Jal 1 (jump_offset a b) ∷ ws) → Leaves image z k c (n + 1) (j + 1) b (written e 1 (4 * (j + 1)))
  call_to {j = j} a b same la lb g = jump_and_link image z b (moved_from j a b same la lb) g

  -- by a guard's word, which counts
  pub guard_jump_to : {k : ℕ} {c : Core} {n j : ℕ} {e : Core} → (a b : ℕ) → j ≡ a → a < 2 ^ 20 → b < 2 ^ 20 → WordAt image true j (Jal 0 (jump_offset a b)) → Going image z k c n j e [] → Leaves image z k c (n + 1) (j + 1) b (arrived j e)
  guard_jump_to {j = j} a b same la lb has g = guard_jump image z b (moved_from j a b same la lb) has g
