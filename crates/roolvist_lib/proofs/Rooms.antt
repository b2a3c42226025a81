-- When a write to an output failed, by what its sink keeps.
use Rattle.std.proofs.Common.{◌≡◌, ◌≢◌, refl, Bool, true, false, ℕ, ◌<◌, ◌≤◌, List, length, arith, ap}
use Rattle.std.specs.Prelude.{nat_lt}
use Rattle.std.proofs.lemmas.Bool.{ltb-true, ltb-false}
use Rattle.bril_outside.specs.Sink.{Rose}

-- the buffer of an output, and what its sink keeps
module _ (held shown before : List ℕ) (faults room : ℕ) (same : shown ≡ held) (is : length before ≡ room) where
  pub fits_whole : (length shown ≤ room → faults ≡ 0) → length held ≤ length before → faults ≡ 0
  fits_whole whole le = whole (let long = ap length same in omega (arith, le, is, long))

  -- a write failed only where there is no room for all
  pub is_full : (length shown ≤ room → faults ≡ 0) → Rose 0 faults → length before < length held
  is_full whole rose = go (nat_lt (length before) (length held)) refl
    where
      go : (b : Bool) → nat_lt (length before) (length held) ≡ b → length before < length held
      go true lt = ltb-true (length before) (length held) lt
      go false fits = let sound = fits_whole whole (ltb-false (length before) (length held) fits) in absurd (omega (arith, rose, sound))

  -- and one failed where there isn't
  pub is_cut : (room < length shown → 0 < faults) → length before < length held → faults ≢ 0
  is_cut cut lt none = let long = ap length same in let some = cut (omega (arith, lt, is, long)) in omega (arith, some, none)
