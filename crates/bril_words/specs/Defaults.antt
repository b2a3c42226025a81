-- The ranges of the options, and what they are where they don't stand.
use Rattle.std.specs.Prelude.{ℕ, max, min}
use Rattle.std.proofs.Common.{arith}
use Rattle.std.proofs.Math.Nat.{le-max_left}
use Rattle.bril_tree.specs.declared.limits.Limits.{Limits}

abbrev pub most_frames : ℕ
most_frames = 65536

abbrev pub most_cells : ℕ
most_cells = 4194304

abbrev pub most_steps : ℕ
most_steps = 1000000000000

abbrev pub most_hot : ℕ
most_hot = 65536

abbrev pub most_entries : ℕ
most_entries = 64

-- the most functions of the demo program
abbrev pub most_functions : ℕ
most_functions = 150

abbrev pub default_frames : ℕ
default_frames = 8192

abbrev pub default_cells : ℕ
default_cells = 1048576

abbrev pub default_steps : ℕ
default_steps = 1000000000

abbrev pub default_hot : ℕ
default_hot = 16

abbrev pub default_entries : ℕ
default_entries = 16

-- ---- limits

-- a number brought into the range from 1 to the most
abbrev pub brought : (most : ℕ) → ℕ → ℕ
brought most n = max 1 (min n most)

-- the limits of so many frames and cells, each in its range
unfoldable pub limits_of : (frames cells : ℕ) → Limits
limits_of frames cells = record {
  frames = brought most_frames frames;
  cells = brought most_cells cells;
  some_frames = le-max_left 1 (min frames most_frames);
  few_frames = omega arith;
  some_cells = le-max_left 1 (min cells most_cells);
  few_cells = omega arith;
}
