-- Short sequences of words: constants, the words of a frame, faults and jumps. Register 2 has the base of the
-- frame, and register 6 takes the address of a word that is far from it. The size of a sequence depends on the number and
-- on the frame's word alone, never on a place in the image.
use Rattle.std.specs.Prelude.{ℕ, ◌+◌, ◌-◌, ◌*◌, ◌/◌, ◌%◌, ◌^◌, Bool, ◌||◌, nat_lt, nat_le, if◌then◌else◌, ℤ, pos, negsuc, List, [], ◌∷◌, ◌++◌}
use Rattle.rv64_words.specs.declared.word.Word.{Word}
use Rattle.rv64_words.specs.declared.word.Word.TheVariants.{Lui, Ld, Sd, Ecall}
use Rattle.rv64_words.specs.Fields.{signed_12}
use Rattle.rv64_words.specs.Mnemonics.{addi, slli, srli, add}

-- ---- constants

-- A number is 4096 times its high part plus its low part, a signed number of 12 bits: (n + 2048) / 4096, and the rest.
abbrev pub high_part : ℕ → ℕ
high_part n = n / 4096 + n / 2048 % 2

abbrev pub low_part : ℕ → ℤ
low_part n = signed_12 (n % 4096)

-- the numbers below 2^64 that one ADDI gives, and those that LUI and ADDI give
abbrev pub fits_12 : ℕ → Bool
fits_12 n = nat_lt n 2048 || nat_le (2 ^ 64 - 2048) n

abbrev pub fits_32 : ℕ → Bool
fits_32 n = nat_lt n (2 ^ 31 - 2048) || nat_le (2 ^ 64 - 2 ^ 31) n

-- any number below 2^64, by its digits of 12 bits
abbrev pub long_constant_words : ℕ → ℕ → List Word
long_constant_words r n =
    let second = high_part n in
    let third = high_part second in
    let fourth = high_part third in
    Lui r (high_part fourth) ∷ addi r r (low_part fourth) ∷
    slli r r 12 ∷ addi r r (low_part third) ∷
    slli r r 12 ∷ addi r r (low_part second) ∷
    slli r r 12 ∷ addi r r (low_part n) ∷ []

-- register r becomes n, below 2^64
abbrev pub constant_words : ℕ → ℕ → List Word
constant_words r n =
    if fits_12 n then addi r 0 (low_part n) ∷ []
    else (if fits_32 n then Lui r (high_part n % 2 ^ 20) ∷ addi r r (low_part n) ∷ []
    else long_constant_words r n)

abbrev pub constant_size : ℕ → ℕ
constant_size n = if fits_12 n then 1 else (if fits_32 n then 2 else 8)

-- ---- copies of registers

-- register d becomes what register s has, whatever that is: a shift by no bits. A sum with 0 would be so only of a number below
-- 2^64, which a register always has in a run, but a core of these laws needn't.
abbrev pub copied_word : (d s : ℕ) → Word
copied_word d s = srli d s 0

-- ---- the words of a frame

-- word o from a base is within the reach of one load or store
abbrev pub is_near : ℕ → Bool
is_near o = nat_lt o 256

-- register 6 becomes the address of word o from a base, but for its low part
abbrev pub address_words : ℕ → ℕ → List Word
address_words base o = Lui 6 (high_part (8 * o)) ∷ add 6 6 base ∷ []

-- register r becomes word o from the base that a register has
abbrev pub load_from : ℕ → ℕ → ℕ → List Word
load_from base r o =
    if is_near o then Ld r base (pos (8 * o)) ∷ []
    else address_words base o ++ Ld r 6 (low_part (8 * o)) ∷ []

-- that word becomes register r, which isn't 6
abbrev pub store_over : ℕ → ℕ → ℕ → List Word
store_over base r o =
    if is_near o then Sd base r (pos (8 * o)) ∷ []
    else address_words base o ++ Sd 6 r (low_part (8 * o)) ∷ []

abbrev pub load_size : ℕ → ℕ
load_size o = if is_near o then 1 else 3

abbrev pub store_size : ℕ → ℕ
store_size o = if is_near o then 1 else 3

-- of the frame
abbrev pub load_words : ℕ → ℕ → List Word
load_words r o = load_from 2 r o

abbrev pub store_words : ℕ → ℕ → List Word
store_words r o = store_over 2 r o

-- ---- ends and jumps

-- the run ends with fault k, from 1 to 11; with 0 it is the end of the program
abbrev pub fault_words : ℕ → List Word
fault_words k = addi 10 0 (pos k) ∷ addi 17 0 (pos 8) ∷ Ecall ∷ []

-- the bytes from word a to word b
abbrev pub jump_offset : ℕ → ℕ → ℤ
jump_offset a b = if nat_le a b then pos (4 * (b - a)) else negsuc (4 * (a - b) - 1)

-- ---- frames

-- Register 2 grows by a number of bytes, modulo 2^64: by ADDI, or with a number of 32 bits in register 7.
abbrev pub frame_by_words : ℕ → List Word
frame_by_words n =
    if fits_12 n then addi 2 2 (low_part n) ∷ []
    else Lui 7 (high_part n % 2 ^ 20) ∷ addi 7 7 (low_part n) ∷ add 2 2 7 ∷ []

abbrev pub frame_by_size : ℕ → ℕ
frame_by_size n = if fits_12 n then 1 else 3

-- the frame so many words above becomes the frame, and from there the one below again
abbrev pub bytes_up : ℕ → ℕ
bytes_up wide = 8 * wide

abbrev pub bytes_down : ℕ → ℕ
bytes_down wide = (2 ^ 64 - 8 * wide) % 2 ^ 64
