-- How many items a program has.
use Rattle.std.specs.Prelude.{ℕ, ◌<◌, ◌-◌, ◌^◌, All, length}
use Rattle.std.specs.List.{sum_by}
use Rattle.bril_tree.specs.declared.program.Prog.{Prog}

-- the number of items of all functions
abbrev pub item_count : Prog → ℕ
item_count p = sum_by (λ f. length f.code) p.funcs

-- Its functions, and the points of each, have numbers of 32 bits.
pub record IsCounted (p : Prog) : Type 0 where
  pub functions : length p.funcs < 2 ^ 32
  pub items : All (λ f. length f.code < 2 ^ 32 - 1) p.funcs
