-- Where tokens begin in their source.
use Rattle.std.proofs.Common.{◌≡◌, Bool, true, false, cond, ℕ, ◌≤◌, List, [], ◌∷◌, Some, arith}
use Rattle.std.specs.Prelude.{find}
use Rattle.bril_lex.specs.Cut.{AreInOrder}
use Rattle.bril_lex.specs.declared.token.Token.{Token}

pub order_inside : (at : ℕ) (ts : List Token) (end : ℕ) → AreInOrder at ts end → at ≤ end
order_inside at [] end order = order
order_inside at (t ∷ ts) end order = let rest = order_inside t.to ts end order.2 in omega (arith, rest, order.0, order.1)

-- one that is found begins inside
pub found_inside : (test : Token → Bool) (ts : List Token) (at end : ℕ) (token : Token) → AreInOrder at ts end → find test ts ≡ Some token → token.from ≤ end
found_inside test [] at end token order is = cc
found_inside test (t ∷ ts) at end token order is = go (test t) is (found_inside test ts t.to end token order.2)
  where
    go : (b : Bool) → cond b (Some t) (find test ts) ≡ Some token → (find test ts ≡ Some token → token.from ≤ end) → token.from ≤ end
    go true is rest = let same : t ≡ token = cc in let from : t.from ≡ token.from = cc in let inside = order_inside t.to ts end order.2 in omega (arith, from, inside, order.1)
    go false is rest = rest is
