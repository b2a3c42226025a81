-- How many names a list has.
use Rattle.std.proofs.Common.{◌≡◌, ℕ, suc, ◌+◌, ◌<◌, Bool, true, false, List, [], ◌∷◌, ◌++◌, append_assoc, length, ap, sym, ◌∙◌, refl, arith}
use Rattle.std.specs.Prelude.{nat_lt, nat_le, ◌==◌, not, cond, All}
use Rattle.std.specs.List.{slice_split, count_by, position_or_len, before_first, after_first}
use Rattle.std.proofs.lemmas.List.Splits.{length-slice_split, slice_split_first, slice_split_none}
use Rattle.std.proofs.lemmas.List.Elements.{All-nil, All-cons}
use Rattle.bril_words.specs.Names.{names_of, has_few_names}

-- fewer than 64 are 63 at most
one_more : (n : ℕ) → nat_lt n 64 ≡ nat_le (n + 1) 64
one_more n = let next : suc n ≡ n + 1 = omega arith in ap (λ m. nat_le m 64) next

-- fewer than 64 commas
pub few_commas : (list : List ℕ) → nat_lt (count_by (λ b. b == 44) list) 64 ≡ has_few_names list
few_commas [] = refl
few_commas (byte ∷ bytes) =
    one_more (count_by (λ b. b == 44) (byte ∷ bytes)) ∙ ap (λ n. nat_le n 64) (sym (length-slice_split (λ b. b == 44) (byte ∷ bytes)))

pub parts : (names : List (List ℕ)) (list first rest : List ℕ) (all : List (List ℕ)) → position_or_len (λ b. b == 44) list < length list
    → first ≡ before_first (λ b. b == 44) list → rest ≡ after_first (λ b. b == 44) list
    → names ++ slice_split (λ b. b == 44) list ≡ all → (names ++ first ∷ []) ++ slice_split (λ b. b == 44) rest ≡ all
parts names list first rest all inside is_first is_rest e =
    append_assoc names (first ∷ []) _
    ∙ (ap (λ l. names ++ l) (rw (is_first, is_rest) (sym (slice_split_first (λ b. b == 44) list 0 inside))) ∙ e)

none_here : (is : Bool) (n m : ℕ) → cond (not is) (1 + n) 0 ≡ suc m → (is ≡ false) × (n ≡ m)
none_here true n m e = absurd (omega arith)
none_here false n m e = (refl, omega arith)

no_comma : (list : List ℕ) → position_or_len (λ b. b == 44) list ≡ length list → All (λ b. (b == 44) ≡ false) list
no_comma [] e = All-nil (λ b. (b == 44) ≡ false)
no_comma (byte ∷ bytes) e =
    let here = none_here (byte == 44) (position_or_len (λ b. b == 44) bytes) (length bytes) e in
    All-cons (λ b. (b == 44) ≡ false) byte bytes here.0 (no_comma bytes here.1)

last_part : (list : List ℕ) → position_or_len (λ b. b == 44) list ≡ length list → slice_split (λ b. b == 44) list ≡ list ∷ []
last_part list e = slice_split_none (λ b. b == 44) list (no_comma list e)

pub parts_end : (names : List (List ℕ)) (list : List ℕ) (all : List (List ℕ)) → position_or_len (λ b. b == 44) list ≡ length list
    → names ++ slice_split (λ b. b == 44) list ≡ all → names ++ list ∷ [] ≡ all
parts_end names list all outside e = ap (λ l. names ++ l) (sym (last_part list outside)) ∙ e

-- a list that isn't empty has the names of its parts
pub some_names : (list : List ℕ) → (list ≡ [] → ⊥) → names_of list ≡ slice_split (λ b. b == 44) list
some_names [] some = absurd (some refl)
some_names (byte ∷ bytes) some = refl
