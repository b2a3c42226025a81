-- The fields of words: their ranges, and the bits of signed numbers in two's complement.
use Rattle.std.specs.Prelude.{◌≡◌, ℕ, ◌-◌, ◌%◌, ◌^◌, ◌<◌, if◌then◌else◌, nat_lt, ℤ, pos, negsuc, ◌≤ℤ◌, ◌<ℤ◌, neg_ℤ}

abbrev pub IsRegister : ℕ → Type 0
IsRegister r = r < 32

-- the upper 20 bits of a word of 32 bits
abbrev pub IsUpper : ℕ → Type 0
IsUpper u = u < 2 ^ 20

abbrev pub IsShift : ℕ → Type 0
IsShift s = s < 64

-- a signed number of 12 bits
abbrev pub IsImmediate : ℤ → Type 0
IsImmediate i = (neg_ℤ (pos 2048) ≤ℤ i) × (i <ℤ pos 2048)

-- the 12 bits of a signed number, and back
abbrev pub bits_12 : ℤ → ℕ
bits_12 (pos n) = n
bits_12 (negsuc n) = 4095 - n

abbrev pub signed_12 : ℕ → ℤ
signed_12 n = if nat_lt n 2048 then pos n else negsuc (4095 - n)

-- the 13 bits of a signed number, and back
abbrev pub bits_13 : ℤ → ℕ
bits_13 (pos n) = n
bits_13 (negsuc n) = 8191 - n

abbrev pub signed_13 : ℕ → ℤ
signed_13 n = if nat_lt n 4096 then pos n else negsuc (8191 - n)

-- the 21 bits of a signed number, and back
abbrev pub bits_21 : ℤ → ℕ
bits_21 (pos n) = n
bits_21 (negsuc n) = 2097151 - n

abbrev pub signed_21 : ℕ → ℤ
signed_21 n = if nat_lt n 1048576 then pos n else negsuc (2097151 - n)

-- the bytes of a branch: an even signed number of 13 bits
abbrev pub IsBranchOffset : ℤ → Type 0
IsBranchOffset d = (neg_ℤ (pos 4096) ≤ℤ d) × (d <ℤ pos 4096) × (bits_13 d % 2 ≡ 0)

-- the bytes of a jump: an even signed number of 21 bits
abbrev pub IsJumpOffset : ℤ → Type 0
IsJumpOffset d = (neg_ℤ (pos 1048576) ≤ℤ d) × (d <ℤ pos 1048576) × (bits_21 d % 2 ≡ 0)
