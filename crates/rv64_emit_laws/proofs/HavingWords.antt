-- Where items are marked each has words, unless it is a label or a `nop`.
use Rattle.std.proofs.Common.{◌≡◌, ℕ, ◌≤◌, ◌⊎◌, inl, inr, Bool, true, false, cond, List, [], ◌∷◌, refl, sym, subst, arith}
use Rattle.bril_tree.specs.declared.home.Home.{Home}
use Rattle.bril_tree.specs.declared.operators.UnaryOp.{UnaryOp}
use Rattle.bril_tree.specs.declared.operators.UnaryOp.TheVariants as unary
use Rattle.bril_tree.specs.Value.{word_of}
use Rattle.rv64_emit_laws.specs.layout.Homes.{FunctionHomes, variable_home}
use Rattle.rv64_emit_laws.specs.layout.Items.{copied_size, is_next, item_size, mark_size, print_size, same_home}
use Rattle.rv64_emit_laws.proofs.lemmas.layout.Bounding.{branch_some}
use Rattle.rv64_words_laws.specs.sequences.Moves.{copy_size}
use Rattle.slot_code.specs.declared.item.Printed.{Printed}
use Rattle.slot_code.specs.declared.item.SlotItem.{SlotItem}
use Rattle.slot_code.specs.declared.item.SlotItem.TheVariants.{Pass, Constant, Copy, Unary, Binary, Jump, Branch, Call, Return, Print, Alloc, Free, Store, Load, Speculate, Commit, Guard}
use Rattle.slot_code.specs.declared.slots.SlotFunction.{SlotFunction}
use Rattle.rv64_emit_laws.proofs.Outcomes.{binary_some}
use Rattle.rv64_emit_laws.proofs.Stretches.{constant_some, copy_some}

-- of two numbers that a test chooses between, each is at least one
one_at_least : (t : Bool) (m n : ℕ) → 1 ≤ m → 1 ≤ n → 1 ≤ cond t m n
one_at_least true m n first second = first
one_at_least false m n first second = second

pub print_some : (homes : FunctionHomes) (args : List Printed) → 1 ≤ print_size homes args
print_some homes [] = omega arith
print_some homes (a ∷ args) = omega arith

module _ (homes : FunctionHomes) (marked : homes.marked ≡ true) (g : SlotFunction) (point : ℕ) where
  mark_some : 1 ≤ mark_size homes
  mark_some = subst (λ t. 1 ≤ cond t 1 0) (sym marked) (omega arith)

  copied_some : (dest from : Home) → 1 ≤ copied_size homes dest from
  copied_some dest from = one_at_least (same_home dest from) (mark_size homes) (copy_size dest from) mark_some (copy_some dest from)

  unary_some : (operation : UnaryOp) (dest operand : ℕ) → 1 ≤ item_size homes g point (Unary operation dest operand)
  unary_some unary.Not dest operand = omega arith
  unary_some unary.CharToInt dest operand = copied_some (variable_home homes dest) (variable_home homes operand)
  unary_some unary.IntToChar dest operand = omega arith

  pub words_or_pass : (item : SlotItem) → (item ≡ Pass) ⊎ (1 ≤ item_size homes g point item)
  words_or_pass Pass = inl refl
  words_or_pass (Constant dest value) = inr (let some = constant_some (word_of value) in omega arith)
  words_or_pass (Copy dest from) = inr (copied_some (homes.home dest) (homes.home from))
  words_or_pass (Unary operation dest operand) = inr (unary_some operation dest operand)
  words_or_pass (Binary operation dest first second) = inr (let some = binary_some operation in omega arith)
  words_or_pass (Jump to) = inr (one_at_least (is_next point to) (mark_size homes) 1 mark_some (omega arith))
  words_or_pass (Branch condition then_to else_to) = inr (let some = branch_some g point then_to else_to in omega arith)
  words_or_pass (Call dest function args) = inr (omega arith)
  words_or_pass (Return value) = inr (omega arith)
  words_or_pass (Print args) = inr (print_some homes args)
  words_or_pass (Alloc dest count) = inr (omega arith)
  words_or_pass (Free pointer) = inr (omega arith)
  words_or_pass (Store pointer value) = inr (omega arith)
  words_or_pass (Load dest pointer) = inr (omega arith)
  words_or_pass Speculate = inr (let some = mark_some in omega arith)
  words_or_pass Commit = inr mark_some
  words_or_pass (Guard condition abort_to) = inr (omega arith)
