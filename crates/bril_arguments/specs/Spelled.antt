-- How values are spelled by words, and the arguments of `main` by as many.
use Rattle.std.specs.Prelude.{◌≡◌, ℕ, zero, suc, ℤ, Bool, List, [], ◌∷◌, Option, None, Some, FitsSigned, encode_utf8}
use Rattle.std.specs.Char.{IsScalar}
use Rattle.std.specs.Int.{w64}
use Rattle.bril_nums.specs.Decimal.{IsInt}
use Rattle.bril_tree.specs.Value.{bool_text}
use Rattle.bril_tree.specs.declared.types.Base.{Base}
use Rattle.bril_tree.specs.declared.types.Base.TheVariants as base
use Rattle.bril_tree.specs.declared.types.Ty.{Ty}
use Rattle.bril_tree.specs.declared.value.Value.{Value}
use Rattle.bril_tree.specs.declared.value.Value.TheVariants.{Int, Bool as Boolean, Char}

-- The word spells a value of the base: an int of 64 bits by an optional sign and digits, a bool by `true` or
-- `false`, a char by itself in UTF-8.
abbrev pub IsSpelledOfBase : Base → List ℕ → Value → Type 0
IsSpelledOfBase base.Int word value = (n : ℤ) × (value ≡ Int n) × IsInt word n × FitsSigned w64 n
IsSpelledOfBase base.Bool word value = (b : Bool) × (value ≡ Boolean b) × (word ≡ bool_text b)
IsSpelledOfBase base.Char word value = (c : ℕ) × (value ≡ Char c) × (word ≡ encode_utf8 c) × IsScalar c

-- no word spells a pointer
abbrev pub IsSpelledAt : ℕ → Base → List ℕ → Value → Type 0
IsSpelledAt zero b word value = IsSpelledOfBase b word value
IsSpelledAt (suc depth) b word value = ⊥

-- the word spells the value of the type; none where there is no type
abbrev pub IsSpelled : Option Ty → List ℕ → Value → Type 0
IsSpelled None word value = ⊥
IsSpelled (Some ty) word value = IsSpelledAt ty.depth ty.base word value

-- the words spell the values of the types, each the one at its place, and there are as many of each
abbrev pub AreSpelled : List (Option Ty) → List (List ℕ) → List Value → Type 0
AreSpelled [] [] [] = Unit {0}
AreSpelled (ty ∷ types) (word ∷ words) (value ∷ values) = IsSpelled ty word value × AreSpelled types words values
AreSpelled types words values = ⊥
