-- The search for a function and for an item among signs.
use Rattle.std.specs.Prelude.{ℕ, zero, suc, List, [], ◌∷◌}
use Rattle.source_places.specs.declared.sign.Sign.{Sign}
use Rattle.source_places.specs.declared.sign.Sign.TheVariants as sign

-- what follows the brace after which so many others were passed
abbrev pub body : List Sign → ℕ → List Sign
body [] left = []
body (sign.Opening ∷ rest) zero = rest
body (sign.Opening ∷ rest) (suc left) = body rest left
body (sign.Function ∷ rest) left = body rest left
body (sign.Label ∷ rest) left = body rest left
body (sign.Semicolon ∷ rest) left = body rest left
body (sign.Other ∷ rest) left = body rest left

-- the signs from the last function before that brace on, where those found are from the last one so far on
abbrev pub head : List Sign → ℕ → (found : List Sign) → List Sign
head [] left found = []
head (sign.Opening ∷ rest) zero found = found
head (sign.Opening ∷ rest) (suc left) found = head rest left found
head (sign.Function ∷ rest) left found = head rest left (sign.Function ∷ rest)
head (sign.Label ∷ rest) left found = head rest left found
head (sign.Semicolon ∷ rest) left found = head rest left found
head (sign.Other ∷ rest) left found = head rest left found

-- what follows the first semicolon
abbrev pub past_semicolon : List Sign → List Sign
past_semicolon [] = []
past_semicolon (sign.Semicolon ∷ rest) = rest
past_semicolon (sign.Function ∷ rest) = past_semicolon rest
past_semicolon (sign.Label ∷ rest) = past_semicolon rest
past_semicolon (sign.Opening ∷ rest) = past_semicolon rest
past_semicolon (sign.Other ∷ rest) = past_semicolon rest

-- what follows an item: a label and its colon, or what ends with a semicolon
abbrev pub past_item : List Sign → List Sign
past_item (sign.Label ∷ colon ∷ rest) = rest
past_item signs = past_semicolon signs

-- what follows so many items
abbrev pub past_items : ℕ → List Sign → List Sign
past_items zero signs = signs
past_items (suc items) signs = past_items items (past_item signs)
