-- Where the value of a location is while the machine runs.
use Rattle.std.specs.Prelude.{◌≡◌, ℕ, ◌+◌, ◌*◌, ◌<◌, IsTrue, length, Some}
use Rattle.std.specs.List.{list_any}
use Rattle.bril_tree.specs.declared.home.Home.{Home}
use Rattle.bril_tree.specs.declared.home.Home.TheVariants.{Reg, Frame}
use Rattle.bril_tree.specs.declared.numbered_function.Func.{Func}
use Rattle.bril_tree.specs.FrameWords.{names_shadow}
use Rattle.bril_tree.specs.Operand.{Location, Variable, Shadow}
use Rattle.rv64_words.specs.Region.{Sizes, InStack, address_at}
use Rattle.rv64_words.specs.State.{State}

-- the home has this word
abbrev pub IsAt : Sizes → State → Home → ℕ → Type 0
IsAt z t (Reg r) w = t.registers r ≡ w
IsAt z t (Frame o) w = (k : ℕ) × (address_at z (t.registers 2 + 8 * o) ≡ Some (InStack k)) × (t.stack k ≡ w)

-- the home is a register of the machine, or one of so many words of a frame
abbrev pub IsHomeWithin : ℕ → Home → Type 0
IsHomeWithin words (Reg number) = number < 32
IsHomeWithin words (Frame word) = word < words

-- The location is one of the function's: a variable, or a shadow that some `get` or `set` names.
abbrev pub IsLocationOf : Func → Location → Type 0
IsLocationOf f (Variable x) = x < length f.vars
IsLocationOf f (Shadow x) = (x < length f.vars) × IsTrue (list_any (names_shadow x) f.code)
