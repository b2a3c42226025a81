-- The names of functions in the tree are identifiers.
use Rattle.std.proofs.Common.{◌≡◌, true, ℕ, zero, suc, ◌<◌, ◌^◌, List, ◌∷◌, ◌++◌, arith}
use Rattle.std.specs.Prelude.{replicate}
use Rattle.std.specs.Fmt.{decimal}
use Rattle.bril_tree.specs.Identifier.{is_identifier}
use Rattle.bril_tree.proofs.Identifiers.{both_continue, decimal_continues, identifier_continues, underscores_continue}

pub is_name : (run file : ℕ) (name : List ℕ) → 0 < run → file < 2 ^ 64 → is_identifier name ≡ true → is_identifier (replicate run 95 ++ decimal file ++ 46 ∷ name) ≡ true
is_name zero file name some small ident = absurd (omega arith)
is_name (suc n) file name some small ident =
    both_continue (replicate n 95 ++ decimal file) (46 ∷ name)
    (both_continue (replicate n 95) (decimal file) (underscores_continue n) (decimal_continues file small))
    (identifier_continues name ident)
