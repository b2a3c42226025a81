-- How far apart items are that one branch reaches.
use Rattle.std.proofs.Common.{◌≡◌, ℕ, zero, suc, ◌+◌, ◌-◌, ◌*◌, ◌<◌, ◌≤◌, Bool, true, false, cond, ltb, leb, min, List, [], ◌∷◌, length, Option, Some, None, refl, ap, ◌∙◌, arith}
use Rattle.std.specs.Prelude.{drop, slice_get, take}
use Rattle.std.proofs.lemmas.Bool.{and_parts}
use Rattle.std.proofs.lemmas.Bool.Decides.{nat_tests}
use Rattle.slot_code.specs.declared.item.SlotItem.{SlotItem}
use Rattle.slot_code.specs.declared.slots.SlotFunction.{SlotFunction}
use Rattle.slot_code.specs.declared.slots.Slots.{Slots}
use Rattle.rv64_emit_laws.specs.layout.Fits.{ItemFits}
use Rattle.rv64_emit_laws.specs.layout.Homes.{FunctionHomes}
use Rattle.rv64_emit_laws.specs.layout.Image.{entry_at, size_at, size_or_none, words_before}
use Rattle.rv64_emit_laws.specs.layout.Items.{item_size}
use Rattle.rv64_emit_laws.specs.layout.Reach.{is_close, is_in_reach, item_counts, items_count, most_size}
use Rattle.rv64_emit_laws.proofs.lemmas.layout.Joining.{sum_rises}
use Rattle.rv64_emit_laws.proofs.lemmas.layout.Placing.{entry_is}

-- ---- parts of a list of items

abbrev counts_or_none : ℕ → Option SlotItem → ℕ
counts_or_none slots None = 0
counts_or_none slots (Some item) = item_counts slots item

module _ (slots : ℕ) where
  none_counts : (from count : ℕ) → items_count slots (take count (drop from [])) ≡ 0
  none_counts zero zero = refl
  none_counts zero (suc count) = refl
  none_counts (suc from) zero = refl
  none_counts (suc from) (suc count) = refl

  -- the first of so many items, and the others
  first_counts : (xs : List SlotItem) (from count : ℕ) → items_count slots (take (suc count) (drop from xs)) ≡ counts_or_none slots (slice_get xs from) + items_count slots (take count (drop (suc from) xs))
  first_counts [] from count =
      let first : items_count slots (take (suc count) (drop from [])) ≡ 0 = none_counts from (suc count) in
      let others : items_count slots (take count []) ≡ 0 = none_counts (suc from) count in
      omega (arith, first, others)
  first_counts (x ∷ xs) zero count = refl
  first_counts (x ∷ xs) (suc from) count = first_counts xs from count

-- ---- how far apart items are

module _ (homes : FunctionHomes) (g : SlotFunction) (fits : (point : ℕ) (item : SlotItem) → slice_get g.code point ≡ Some item → ItemFits homes g point item) where
  abbrev slots : ℕ
  slots = length g.slots

  -- an item has no more words than it counts
  one_most : (point : ℕ) → counts_or_none slots (slice_get g.code point) ≤ 988 → size_at homes g point ≤ counts_or_none slots (slice_get g.code point)
  one_most point few = by (slice_get g.code point) refl few
    where
      by : (o : Option SlotItem) → slice_get g.code point ≡ o → counts_or_none slots o ≤ 988 → size_or_none homes g point o ≤ counts_or_none slots o
      by None e few = omega arith
      by (Some item) e few =
          let fit = fits point item e in
          let most : item_size homes g point item ≤ most_size slots item = fit.few in
          let size : size_or_none homes g point (Some item) ≡ item_size homes g point item = refl in
          let counts : counts_or_none slots (Some item) ≡ min 1000 (most_size slots item) = refl in
          omega (arith, most, size, counts)

  span_most : (count from : ℕ) → items_count slots (take count (drop from g.code)) ≤ 988 → words_before homes g (from + count) ≤ words_before homes g from + items_count slots (take count (drop from g.code))
  span_most zero from few = let none : from + zero ≡ from = omega arith in omega (arith, ap (words_before homes g) none)
  span_most (suc count) from few =
      let parts = first_counts slots g.code from count in
      let next : from + suc count ≡ suc from + count = omega arith in
      omega (arith, parts, ap (words_before homes g) next, one_most from (omega (arith, parts)), span_most count (suc from) (omega (arith, parts)))

  close_most : (from to : ℕ) → from ≤ to → is_close g from to ≡ true → (words_before homes g from ≤ words_before homes g to) × (words_before homes g to ≤ words_before homes g from + 988)
  close_most from to le close =
      let counted = items_count slots (take (to - from) (drop from g.code)) in
      let test = (and_parts (leb (to - from) 256) (leb counted 988) close).1 in
      let few : counted ≤ 988 = grind (arith, nat_tests) in
      let there : from + (to - from) ≡ to = omega arith in
      (omega (arith, sum_rises (size_at homes g) from to le), omega (arith, ap (words_before homes g) there, span_most (to - from) from few))

  near_most : (point to : ℕ) → is_in_reach g point to ≡ true → (words_before homes g to ≤ words_before homes g point + 988) × (words_before homes g point ≤ words_before homes g to + 988)
  near_most point to near = by (ltb point to) refl near
    where
      by : (later : Bool) → ltb point to ≡ later → cond later (is_close g point to) (is_close g to point) ≡ true → (words_before homes g to ≤ words_before homes g point + 988) × (words_before homes g point ≤ words_before homes g to + 988)
      by true h close =
          let le : point ≤ to = grind (arith, nat_tests) in
          let most = close_most point to le close in
          (most.1, omega (arith, most.0))
      by false h close =
          let le : to ≤ point = grind (arith, nat_tests) in
          let most = close_most to point le close in
          (omega (arith, most.0), most.1)

module _ (homes : ℕ → FunctionHomes) (slots : Slots) where
  pub entries_near : (f : ℕ) (g : SlotFunction) → slice_get slots.funcs f ≡ Some g → ((point : ℕ) (item : SlotItem) → slice_get g.code point ≡ Some item → ItemFits (homes f) g point item) → (point to : ℕ) → is_in_reach g point to ≡ true →
      (entry_at homes slots f to ≤ entry_at homes slots f point + 988) × (entry_at homes slots f point ≤ entry_at homes slots f to + 988)
  entries_near f g is fits point to near =
      let most = near_most (homes f) g fits point to near in
      let here = entry_is homes slots f g point is in
      let there = entry_is homes slots f g to is in
      (omega (arith, most.0), omega (arith, most.1))
