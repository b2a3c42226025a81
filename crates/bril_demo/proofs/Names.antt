-- The names of the demo program are identifiers.
use Rattle.std.proofs.Common.{◌≡◌, ap₂, Bool, true, ◌&&◌, ℕ, ◌<◌, ◌^◌, ◌∷◌}
use Rattle.std.specs.Fmt.{decimal}
use Rattle.bril_tree.specs.Identifier.{begins_identifier, is_identifier}
use Rattle.bril_tree.proofs.Identifiers.{decimal_continues}

-- a letter and a number
pub is_name : (letter number : ℕ) → begins_identifier letter ≡ true → number < 2 ^ 64 → is_identifier (letter ∷ decimal number) ≡ true
is_name letter number begins small = ap₂ (λ (a b : Bool). a && b) begins (decimal_continues number small)
