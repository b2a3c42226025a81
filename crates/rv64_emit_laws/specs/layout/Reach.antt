-- Which items one branch of the machine reaches, as the items between tell: no place in the image does, since that depends on it.
use Rattle.std.specs.Prelude.{ℕ, ◌+◌, ◌-◌, ◌*◌, ◌&&◌, min, Bool, nat_lt, nat_le, if◌then◌else◌, List, [], ◌∷◌, length, take, drop}
use Rattle.rv64_words_laws.specs.sequences.Operations.{unary_size, binary_size}
use Rattle.slot_code.specs.declared.item.SlotItem.{SlotItem}
use Rattle.slot_code.specs.declared.item.SlotItem.TheVariants.{Pass, Constant, Copy, Unary, Binary, Jump, Branch, Call, Return, Print, Alloc, Free, Store, Load, Speculate, Commit, Guard}
use Rattle.slot_code.specs.declared.slots.SlotFunction.{SlotFunction}

-- the most words of an item, in a function of so many slots
abbrev pub most_size : ℕ → SlotItem → ℕ
most_size slots Pass = 0
most_size slots (Constant dest value) = 11
most_size slots (Copy dest from) = 6
most_size slots (Unary operation dest operand) = 6 + unary_size operation
most_size slots (Binary operation dest first second) = 9 + binary_size operation
most_size slots (Jump to) = 1
most_size slots (Branch condition then_to else_to) = 6
most_size slots (Call dest function args) = 61 + 6 * length args
most_size slots (Return value) = 6
most_size slots (Print args) = 2 + 7 * length args
most_size slots (Alloc dest count) = 8
most_size slots (Free pointer) = 5
most_size slots (Store pointer value) = 23
most_size slots (Load dest pointer) = 26
most_size slots Speculate = 6 * slots + 1
most_size slots Commit = 1
most_size slots (Guard condition abort_to) = 6 * slots + 6

-- an item counts by these, and a large one by more words than a branch reaches
abbrev pub item_counts : ℕ → SlotItem → ℕ
item_counts slots item = min 1000 (most_size slots item)

abbrev pub items_count : ℕ → List SlotItem → ℕ
items_count slots [] = 0
items_count slots (item ∷ items) = item_counts slots item + items_count slots items

-- at most 256 items are between, the first of the two among them, which count at most 988 words
abbrev pub is_close : SlotFunction → (from to : ℕ) → Bool
is_close g from to = nat_le (to - from) 256 && nat_le (items_count (length g.slots) (take (to - from) (drop from g.code))) 988

-- a branch at a point reaches an item
abbrev pub is_in_reach : SlotFunction → (point to : ℕ) → Bool
is_in_reach g point to = if nat_lt point to then is_close g point to else is_close g to point
