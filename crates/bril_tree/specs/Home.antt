-- Which registers of the machine locations may be in.
use Rattle.std.specs.Prelude.{ℕ, ◌==◌, ◌&&◌, ◌||◌, Bool, nat_le}

-- The registers in which locations may be: 3, 4, 9, 11 to 16 and 18 to 31. The others have uses of their own: 0, 1 for the way
-- back, 2 for the frame, 5 to 7, 10 and 17 for operands, addresses and environment calls, 8 for the frames that are left.
abbrev pub is_home_register : ℕ → Bool
is_home_register r = (r == 3) || ((r == 4) || ((r == 9) || ((nat_le 11 r && nat_le r 16) || (nat_le 18 r && nat_le r 31))))
