-- Bytes that are cut into pieces, and what the pieces are.
use Rattle.std.proofs.Common.{◌≡◌, ℕ, ◌<◌, ◌≤◌, Bool, true, false, nat_le, List, [], ◌∷◌, ◌++◌, length, take, drop, Option, Some, None, refl, ap, append_assoc, append-nil, IsUtf8, arith}
use Rattle.std.proofs.lemmas.Bool.Decides.{nat_tests}
use Rattle.std.proofs.lemmas.Str.{IsUtf8-from_is_utf8, is_utf8-from_IsUtf8}
use Rattle.std.specs.List.{list_all}
use Rattle.std.specs.Option.{option_map}
use Rattle.std.specs.Str.{is_utf8}
use Rattle.roolvist_lib.specs.Given.{are_files, given_of, pieces_of}

at_most : (a b : ℕ) → a ≤ b → nat_le a b ≡ true
at_most a b h = grind (arith, nat_tests)

more_than : (a b : ℕ) → b < a → nat_le a b ≡ false
more_than a b h = grind (arith, nat_tests)

pub no_items : {X : Type 0} (xs : List X) → length xs ≡ 0 → xs ≡ []
no_items [] e = refl
no_items (x ∷ xs) e = absurd (omega arith)

-- ---- the pieces

-- pieces that are there, and behind them those that may be
abbrev pub behind : List (List ℕ) → Option (List (List ℕ)) → Option (List (List ℕ))
behind done more = option_map (λ pieces. done ++ pieces) more

pub behind_none : (more : Option (List (List ℕ))) → behind [] more ≡ more
behind_none None = refl
behind_none (Some pieces) = refl

behind_piece : (done : List (List ℕ)) (piece : List ℕ) (more : Option (List (List ℕ))) → behind (done ++ piece ∷ []) more ≡ behind done (option_map (λ pieces. piece ∷ pieces) more)
behind_piece done piece None = refl
behind_piece done piece (Some pieces) = ap Some (append_assoc done (piece ∷ []) pieces)

-- a piece is cut
pub cut_more : (done : List (List ℕ)) (n : ℕ) (rest others : List ℕ) → n ≤ length rest → behind (done ++ take n rest ∷ []) (pieces_of (drop n rest) others) ≡ behind done (pieces_of rest (n ∷ others))
cut_more done n rest others h = rw (at_most n (length rest) h) (behind_piece done (take n rest) (pieces_of (drop n rest) others))

-- the bytes are too few for the next piece
pub cut_short : (done : List (List ℕ)) (n : ℕ) (rest others : List ℕ) → length rest < n → behind done (pieces_of rest (n ∷ others)) ≡ None
cut_short done n rest others h = rw (more_than n (length rest) h) refl

-- all are cut
pub cut_all : (done : List (List ℕ)) (rest : List ℕ) → behind done (pieces_of rest []) ≡ Some done
cut_all done rest = ap Some (append-nil done)

-- ---- the texts

pub text_is : (bytes : List ℕ) → IsUtf8 bytes → is_utf8 bytes ≡ true
text_is bytes h = is_utf8-from_IsUtf8 bytes h

pub no_text : (bytes : List ℕ) → (IsUtf8 bytes → ⊥) → is_utf8 bytes ≡ false
no_text bytes none =
    let by : (b : Bool) → is_utf8 bytes ≡ b → is_utf8 bytes ≡ false = elim [ true ↦ λ e. absurd (none (IsUtf8-from_is_utf8 bytes e)) | false ↦ λ e. e ] in
    by (is_utf8 bytes) refl

pub all_more : (piece : List ℕ) (others : List (List ℕ)) → is_utf8 piece ≡ true → list_all is_utf8 (piece ∷ others) ≡ list_all is_utf8 others
all_more piece others e = rw e refl

pub all_but : (piece : List ℕ) (others : List (List ℕ)) → is_utf8 piece ≡ false → list_all is_utf8 (piece ∷ others) ≡ false
all_but piece others e = rw e refl

-- ---- what is given

pub given_all : (words : ℕ) (pieces : List (List ℕ)) → words ≤ length pieces → list_all is_utf8 (take words pieces) ≡ true → are_files (drop words pieces) ≡ true
    → given_of words (Some pieces) ≡ Some (record { words = take words pieces; files = drop words pieces })
given_all words pieces h texts files = rw (at_most words (length pieces) h, texts, files) refl

pub few_pieces : (words : ℕ) (pieces : List (List ℕ)) → length pieces < words → given_of words (Some pieces) ≡ None
few_pieces words pieces h = rw (more_than words (length pieces) h) refl

pub bad_word : (words : ℕ) (pieces : List (List ℕ)) → words ≤ length pieces → list_all is_utf8 (take words pieces) ≡ false → given_of words (Some pieces) ≡ None
bad_word words pieces h e = rw (at_most words (length pieces) h, e) refl

pub bad_file : (words : ℕ) (pieces : List (List ℕ)) → words ≤ length pieces → list_all is_utf8 (take words pieces) ≡ true → are_files (drop words pieces) ≡ false → given_of words (Some pieces) ≡ None
bad_file words pieces h texts e = rw (at_most words (length pieces) h, texts, e) refl
