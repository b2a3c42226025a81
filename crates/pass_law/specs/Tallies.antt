-- The tally of a pass: how often it ran, and the items that it was given and that it made.
use Rattle.std.specs.Prelude.{ℕ, ◌+◌}
use Rattle.pass_law.specs.Bounds.{capped}
use Rattle.pass_law.specs.declared.tally.Tally.{Tally}

-- one more run, on a program of `seen` items, that made one of `made` items
abbrev pub grown : Tally → (seen made : ℕ) → Tally
grown t seen made = record { runs = capped (t.runs + 1); seen = capped (t.seen + seen); made = capped (t.made + made) }

abbrev pub zero_tally : Tally
zero_tally = record { runs = 0; seen = 0; made = 0 }
