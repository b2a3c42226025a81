-- The bounds of passes, and numbers that stay at the end of 64 bits.
use Rattle.std.specs.Prelude.{◌≡◌, ℕ, ◌<◌, min}

-- the number, or 2^64 - 1 where it is greater
abbrev pub capped : ℕ → ℕ
capped n = min n 18446744073709551615

-- a bound on items passes 1,000,000, and the items that the program has
pub record IsTooLarge (bound size : ℕ) : Type 0 where
  pub many : 1000000 < bound
  pub more : size < bound

-- there is a bound that is too large for the size, and it is told, or 2^64 - 1 where it is greater
pub record HasLongBound (IsBound : ℕ → Type 0) (size told : ℕ) : Type 0 where
  pub bound : ℕ
  pub is : IsBound bound
  pub long : IsTooLarge bound size
  pub tells : told ≡ capped bound
