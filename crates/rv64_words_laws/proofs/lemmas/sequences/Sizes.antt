-- How many words the moves between homes and registers have at the most.
use Rattle.std.proofs.Common.{ℕ, ◌≤◌, Bool, true, false, cond, arith}
use Rattle.bril_tree.specs.declared.home.Home.{Home}
use Rattle.bril_tree.specs.declared.home.Home.TheVariants.{Reg, Frame}
use Rattle.rv64_words_laws.specs.sequences.Moves.{fetch_size, fill_size, source_size, target_size, copy_size, operand_size, result_size}
use Rattle.rv64_words_laws.specs.sequences.Sequences.{is_near, load_size, store_size}

pub load_most : (o : ℕ) → load_size o ≤ 3
load_most o = by_test (is_near o)
  where
    by_test : (t : Bool) → cond t 1 3 ≤ 3
    by_test true = omega arith
    by_test false = omega arith

pub store_most : (o : ℕ) → store_size o ≤ 3
store_most o = load_most o

pub source_most : (home : Home) → source_size home ≤ 3
source_most (Reg s) = omega arith
source_most (Frame o) = load_most o

pub fetch_most : (home : Home) → fetch_size home ≤ 3
fetch_most (Reg s) = omega arith
fetch_most (Frame o) = load_most o

pub target_most : (home : Home) → target_size home ≤ 3
target_most (Reg s) = omega arith
target_most (Frame o) = store_most o

pub fill_most : (home : Home) → fill_size home ≤ 3
fill_most (Reg s) = omega arith
fill_most (Frame o) = store_most o

pub operand_most : (any : Bool) (home : Home) → operand_size any home ≤ 3
operand_most true home = source_most home
operand_most false home = fetch_most home

pub result_most : (any : Bool) (home : Home) → result_size any home ≤ 3
result_most true home = target_most home
result_most false home = fill_most home

pub copy_most : (dest from : Home) → copy_size dest from ≤ 6
copy_most dest (Reg s) = let h = fill_most dest in omega arith
copy_most dest (Frame o) = let h = load_most o in let k = target_most dest in omega arith
