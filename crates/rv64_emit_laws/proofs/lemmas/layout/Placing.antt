-- Where functions and items begin.
use Rattle.std.proofs.Common.{◌≡◌, ℕ, suc, ◌+◌, ◌<◌, ◌≤◌, length, Option, Some, None, refl, ap, arith}
use Rattle.std.specs.Prelude.{slice_get}
use Rattle.std.proofs.lemmas.Option.{slice_get_past, slice_get_within}
use Rattle.slot_code.specs.declared.item.SlotItem.{SlotItem}
use Rattle.slot_code.specs.declared.slots.SlotFunction.{SlotFunction}
use Rattle.slot_code.specs.declared.slots.Slots.{Slots}
use Rattle.bril_tree.proofs.Elements.{past_end}
use Rattle.rv64_emit_laws.specs.layout.Homes.{FunctionHomes}
use Rattle.rv64_emit_laws.specs.layout.Image.{size_or_none, size_at, words_before, function_size, function_size_or_none, start_at, words_before_in, entry_at}
use Rattle.rv64_emit_laws.specs.layout.Items.{item_size}
use Rattle.rv64_emit_laws.proofs.lemmas.layout.Joining.{sum_rises, sum_passes, sum_is_most}

-- ---- inside a function

pub size_is : (homes : FunctionHomes) (g : SlotFunction) (point : ℕ) (item : SlotItem) → slice_get g.code point ≡ Some item → size_at homes g point ≡ item_size homes g point item
size_is homes g point item is = ap (size_or_none homes g point) is

pub words_next : (homes : FunctionHomes) (g : SlotFunction) (point : ℕ) (item : SlotItem) → slice_get g.code point ≡ Some item → words_before homes g (suc point) ≡ words_before homes g point + item_size homes g point item
words_next homes g point item is = omega (arith, size_is homes g point item is)

-- the items before the function's end have at most its words
pub words_most : (homes : FunctionHomes) (g : SlotFunction) (point : ℕ) → words_before homes g point ≤ words_before homes g (length g.code)
words_most homes g point = omega (arith, sum_is_most (size_at homes g) (length g.code) (λ k le. ap (size_or_none homes g k) (slice_get_past g.code k le)) point)

-- a later item begins after the words of an earlier one
pub words_pass : (homes : FunctionHomes) (g : SlotFunction) (point later : ℕ) (item : SlotItem) → slice_get g.code point ≡ Some item → point < later → words_before homes g point + item_size homes g point item ≤ words_before homes g later
words_pass homes g point later item is less = omega (arith, size_is homes g point item is, sum_passes (size_at homes g) point later less)

-- the end of a function begins after all of its words
pub words_at_end : (homes : FunctionHomes) (g : SlotFunction) (point : ℕ) → slice_get g.code point ≡ None → words_before homes g point ≡ words_before homes g (length g.code)
words_at_end homes g point none = omega (arith, words_most homes g point, sum_rises (size_at homes g) (length g.code) point past)
  where
    past : length g.code ≤ point
    past = past_end g.code point none

-- ---- in the program

module _ (homes : ℕ → FunctionHomes) (slots : Slots) where
  abbrev size_of : ℕ → ℕ
  size_of f = function_size_or_none (homes f) (slice_get slots.funcs f)

  pub entry_is : (f : ℕ) (g : SlotFunction) (point : ℕ) → slice_get slots.funcs f ≡ Some g → entry_at homes slots f point ≡ start_at homes slots f + words_before (homes f) g point
  entry_is f g point is = ap (λ o. start_at homes slots f + words_before_in (homes f) o point) is

  pub starts_rise : (f later : ℕ) → f ≤ later → start_at homes slots f ≤ start_at homes slots later
  starts_rise f later le = omega (arith, sum_rises size_of f later le)

  -- a later function begins after the words of an earlier one
  pub starts_pass : (f later : ℕ) (g : SlotFunction) → slice_get slots.funcs f ≡ Some g → f < later → start_at homes slots f + function_size (homes f) g ≤ start_at homes slots later
  starts_pass f later g is less = let e : size_of f ≡ function_size (homes f) g = ap (function_size_or_none (homes f)) is in omega (arith, e, sum_passes size_of f later less)

  pub starts_most : (f : ℕ) → start_at homes slots f ≤ start_at homes slots (length slots.funcs)
  starts_most f = omega (arith, sum_is_most size_of (length slots.funcs) (λ k le. ap (function_size_or_none (homes k)) (slice_get_past slots.funcs k le)) f)

  -- the words of a function are before the end of the image
  pub function_inside : (f : ℕ) (g : SlotFunction) → slice_get slots.funcs f ≡ Some g → start_at homes slots f + function_size (homes f) g ≤ start_at homes slots (length slots.funcs)
  function_inside f g is = starts_pass f (length slots.funcs) g is (slice_get_within slots.funcs f g is)

  pub entries_most : (f point : ℕ) → entry_at homes slots f point ≤ start_at homes slots (length slots.funcs)
  entries_most f point = by (slice_get slots.funcs f) refl
    where
      by : (o : Option SlotFunction) → slice_get slots.funcs f ≡ o → start_at homes slots f + words_before_in (homes f) o point ≤ start_at homes slots (length slots.funcs)
      by None is = omega (arith, starts_most f)
      by (Some g) is = omega (arith, function_inside f g is, words_most (homes f) g point)
