-- The image of an accepted program within the bounds has each part at its place.
use Rattle.std.proofs.Common.{◌≡◌, ℕ, suc, ◌+◌, ◌-◌, ◌^◌, ◌<◌, ◌≤◌, false, List, [], ◌∷◌, ◌++◌, length, Option, Some, None, refl, sym, ap, ◌∙◌, subst, arith, length-append}
use Rattle.std.specs.Prelude.{slice_get, option_map}
use Rattle.std.proofs.lemmas.Option.{slice_get-map, slice_get_within, same_Some}
use Rattle.bril_tree.specs.declared.limits.Limits.{Limits}
use Rattle.bril_tree.specs.declared.program.Prog.{Prog}
use Rattle.bril_tree.specs.Accepted.{IsAccepted}
use Rattle.bril_tree.specs.Literals.{AreLiteralsInRange}
use Rattle.rv64_image_laws.specs.WordBounds.{IsWithin}
use Rattle.rv64_words.specs.declared.image.GuardAt.{GuardAt}
use Rattle.rv64_words.specs.declared.image.Image.{Image}
use Rattle.rv64_words.specs.declared.word.Word.{Word}
use Rattle.rv64_words.specs.declared.word.Word.TheVariants.{Jal}
use Rattle.rv64_words_laws.proofs.lemmas.stretches.Going.{HasAt-rest}
use Rattle.rv64_words.specs.Encoding.{encoded}
use Rattle.rv64_words.specs.Machine.{is_guard_word}
use Rattle.rv64_words_laws.specs.stretches.Runs.{HasAt}
use Rattle.rv64_words_laws.specs.sequences.Moves.{Move, restore_size, restore_words}
use Rattle.rv64_words_laws.specs.sequences.Sequences.{fault_words, high_part, jump_offset}
use Rattle.slot_code.specs.declared.item.SlotItem.{SlotItem}
use Rattle.slot_code.specs.declared.item.SlotItem.TheVariants.{Pass, Constant, Copy, Unary, Binary, Jump, Branch, Call, Return, Print, Alloc, Free, Store, Load, Speculate, Commit, Guard}
use Rattle.slot_code.specs.declared.slots.SlotFunction.{SlotFunction}
use Rattle.slot_code.specs.declared.slots.Slots.{Slots}
use Rattle.slot_code.specs.Lowered.{IsLowered}
use Rattle.rv64_emit_laws.specs.layout.Fits.{ItemFits}
use Rattle.rv64_emit_laws.specs.layout.Homes.{FunctionHomes}
use Rattle.rv64_emit_laws.specs.layout.Image.{sum_below, joined, size_or_none, size_at, words_before, function_size, function_size_or_none, start_at, entry_at, end_start, head_words, main_moves, main_size, opening_or_none, item_words_or_none, item_words_at, function_words, function_words_or_none, function_words_at, image_words, image_guards, IsImageOf}
use Rattle.rv64_emit_laws.specs.layout.Items.{item_size, item_words, guard_front, guard_front_size, abort_word, keep_way_size, keep_way_words, leave_size, leave_words}
use Rattle.rv64_emit_laws.specs.layout.Laid.{ItemAt, IsGuardAt, HaveHomes, IsLaid}
use Rattle.rv64_emit_laws.proofs.lemmas.layout.Bounding.{image_bounded, main_most}
use Rattle.rv64_emit_laws.proofs.lemmas.layout.Encodable.{AreWords, both, words, low, jump_fits, restores_fit}
use Rattle.rv64_emit_laws.proofs.lemmas.layout.Fitting.{all_reached, slots_few, item_fits, largest_has, largest_few}
use Rattle.rv64_emit_laws.proofs.lemmas.layout.Guarding.{each_at, guards_are, InItem, same_function, in_function, one_item, guard_in_item, guards_apart, plain, guard_marked}
use Rattle.rv64_emit_laws.proofs.lemmas.layout.ItemWords.{item_encodable, keep_way_fits, leave_fits}
use Rattle.rv64_emit_laws.proofs.lemmas.layout.Joining.{ListedAt, take_words, drop_words, listed_after, piece_listed, joined-length}
use Rattle.rv64_emit_laws.proofs.lemmas.layout.Lengths.{item_length, guard_front_length, keep_way_length, leave_length, restore_length}
use Rattle.rv64_emit_laws.proofs.lemmas.layout.Reaching.{entries_near}
use Rattle.rv64_emit_laws.proofs.lemmas.layout.Placing.{entry_is, words_next, words_pass, words_at_end, starts_most, function_inside, entries_most}

-- ---- lengths

pub head_length : (limits : Limits) (moves : List Move) (main : ℕ) → length (head_words limits moves main) ≡ 6 + restore_size moves
head_length limits moves main = omega (arith, length-append (restore_words moves) (Jal 1 (jump_offset (2 + restore_size moves) main) ∷ fault_words 0), restore_length moves)

module _ (homes : ℕ → FunctionHomes) (slots : Slots) where
  pub item_words_length : (f : ℕ) (g : SlotFunction) (point : ℕ) → length (item_words_at homes slots f g point) ≡ size_at (homes f) g point
  item_words_length f g point = by (slice_get g.code point) refl
    where
      by : (o : Option SlotItem) → slice_get g.code point ≡ o → length (item_words_or_none homes slots f g point (slice_get g.code point)) ≡ size_at (homes f) g point
      by None e = ap (λ o. length (item_words_or_none homes slots f g point o)) e ∙ sym (ap (λ o. size_or_none (homes f) g point o) e)
      by (Some item) e =
          ap (λ o. length (item_words_or_none homes slots f g point o)) e ∙ item_length (homes f) (start_at homes slots) (entry_at homes slots f) g point (entry_at homes slots f point) item
          ∙ sym (ap (λ o. size_or_none (homes f) g point o) e)

  -- the words of the first so many items
  pub items_length : (f : ℕ) (g : SlotFunction) (n : ℕ) → length (joined (item_words_at homes slots f g) n) ≡ sum_below (size_at (homes f) g) n
  items_length f g n = joined-length (item_words_at homes slots f g) (size_at (homes f) g) (item_words_length f g) n

  pub function_length : (f : ℕ) → length (function_words_at homes slots f) ≡ function_size_or_none (homes f) (slice_get slots.funcs f)
  function_length f = by (slice_get slots.funcs f)
    where
      by : (o : Option SlotFunction) → length (function_words_or_none homes slots f o) ≡ function_size_or_none (homes f) o
      by None = refl
      by (Some g) =
          omega (
            arith,
            keep_way_length (homes f),
            length-append (keep_way_words (homes f)) (joined (item_words_at homes slots f g) (length g.code) ++ leave_words (homes f)),
            length-append (joined (item_words_at homes slots f g) (length g.code)) (leave_words (homes f)),
            leave_length (homes f),
            items_length f g (length g.code),
          )

  pub functions_length : (n : ℕ) → length (joined (function_words_at homes slots) n) ≡ sum_below (λ k. function_size_or_none (homes k) (slice_get slots.funcs k)) n
  functions_length n = joined-length (function_words_at homes slots) (λ k. function_size_or_none (homes k) (slice_get slots.funcs k)) function_length n

-- ---- places in the list of words

module _ (homes : ℕ → FunctionHomes) (slots : Slots) (limits : Limits) where
  abbrev all : List Word
  all = image_words homes slots limits

  abbrev head : List Word
  head = head_words limits (main_moves homes slots) (start_at homes slots slots.main)

  head_listed : ListedAt all 0 head
  head_listed = take_words all 0 head (joined (function_words_at homes slots) (length slots.funcs)) (listed_after [] all)

  function_listed : (f : ℕ) (g : SlotFunction) → slice_get slots.funcs f ≡ Some g → ListedAt all (start_at homes slots f) (function_words homes slots f g)
  function_listed f g is =
      let after = listed_after head (joined (function_words_at homes slots) (length slots.funcs)) in
      let there = piece_listed all (length head) (function_words_at homes slots) (length slots.funcs) f (slice_get_within slots.funcs f g is) after in
      let at : length head + length (joined (function_words_at homes slots) f) ≡ start_at homes slots f = omega (arith, functions_length homes slots f, head_length limits (main_moves homes slots) (start_at homes slots slots.main)) in
      subst (λ o. ListedAt all (start_at homes slots f) (function_words_or_none homes slots f o)) is (subst (λ k. ListedAt all k (function_words_at homes slots f)) at there)

  begin_listed : (f : ℕ) (g : SlotFunction) → slice_get slots.funcs f ≡ Some g → ListedAt all (start_at homes slots f) (keep_way_words (homes f))
  begin_listed f g is = take_words all (start_at homes slots f) (keep_way_words (homes f)) (joined (item_words_at homes slots f g) (length g.code) ++ leave_words (homes f)) (function_listed f g is)

  -- the words after those that begin a function
  items_listed : (f : ℕ) (g : SlotFunction) → slice_get slots.funcs f ≡ Some g → ListedAt all (start_at homes slots f + keep_way_size (homes f)) (joined (item_words_at homes slots f g) (length g.code) ++ leave_words (homes f))
  items_listed f g is =
      subst (λ n. ListedAt all (start_at homes slots f + n) (joined (item_words_at homes slots f g) (length g.code) ++ leave_words (homes f))) (keep_way_length (homes f))
      (drop_words all (start_at homes slots f) (keep_way_words (homes f)) (joined (item_words_at homes slots f g) (length g.code) ++ leave_words (homes f)) (function_listed f g is))

  item_listed : (f : ℕ) (g : SlotFunction) (point : ℕ) (item : SlotItem) → slice_get slots.funcs f ≡ Some g → slice_get g.code point ≡ Some item →
      ListedAt all (entry_at homes slots f point) (item_words (homes f) (start_at homes slots) (entry_at homes slots f) g point (entry_at homes slots f point) item)
  item_listed f g point item is there =
      let after = items_listed f g is in
      let items = take_words all (start_at homes slots f + keep_way_size (homes f)) (joined (item_words_at homes slots f g) (length g.code)) (leave_words (homes f)) after in
      let piece = piece_listed all (start_at homes slots f + keep_way_size (homes f)) (item_words_at homes slots f g) (length g.code) point (slice_get_within g.code point item there) items in
      let at : start_at homes slots f + keep_way_size (homes f) + length (joined (item_words_at homes slots f g) point) ≡ entry_at homes slots f point = omega (arith, items_length homes slots f g point, entry_is homes slots f g point is) in
      subst (λ o. ListedAt all (entry_at homes slots f point) (item_words_or_none homes slots f g point o)) there (subst (λ k. ListedAt all k (item_words_at homes slots f g point)) at piece)

  leave_listed : (f : ℕ) (g : SlotFunction) (point : ℕ) → slice_get slots.funcs f ≡ Some g → slice_get g.code point ≡ None → ListedAt all (entry_at homes slots f point) (leave_words (homes f))
  leave_listed f g point is none =
      let after = items_listed f g is in
      let rest = drop_words all (start_at homes slots f + keep_way_size (homes f)) (joined (item_words_at homes slots f g) (length g.code)) (leave_words (homes f)) after in
      let at : start_at homes slots f + keep_way_size (homes f) + length (joined (item_words_at homes slots f g) (length g.code)) ≡ entry_at homes slots f point =
      omega (arith, items_length homes slots f g (length g.code), entry_is homes slots f g point is, words_at_end (homes f) g point none) in
      subst (λ k. ListedAt all k (leave_words (homes f))) at rest

-- ---- from the list to the image

-- no guard's word is among so many words
abbrev pub IsPlain : (ℕ → FunctionHomes) → Slots → ℕ → ℕ → Type 0
IsPlain homes slots from count = (k : ℕ) → from ≤ k → k < from + count → (guard : GuardAt) → IsGuardAt homes slots guard → guard.word ≡ k → ⊥

module _ (homes : ℕ → FunctionHomes) (slots : Slots) (limits : Limits) (image : Image) (is : IsImageOf homes slots limits image) where
  encoded_at : (k : ℕ) (w : Word) → slice_get (image_words homes slots limits) k ≡ Some w → slice_get image.words k ≡ Some (encoded w)
  encoded_at k w e = ap (λ ws. slice_get ws k) is.words ∙ slice_get-map encoded (image_words homes slots limits) k ∙ ap (option_map encoded) e

  unmarked : (k : ℕ) → ((guard : GuardAt) → IsGuardAt homes slots guard → guard.word ≡ k → ⊥) → is_guard_word image.guards k ≡ false
  unmarked k none = ap (λ gs. is_guard_word gs k) is.guards ∙ plain homes slots k none

  has : (k : ℕ) (ws : List Word) → ListedAt (image_words homes slots limits) k ws → AreWords ws → IsPlain homes slots k (length ws) → HasAt image k ws
  has k [] listed encodable none = tt
  has k (w ∷ ws) listed encodable none = (
    record { bits = encoded_at k w listed.0; is_word = encodable.0; is_guard = unmarked k (none k (omega arith) (omega arith)) },
    has (k + 1) ws listed.1 encodable.1 (λ j from to. none j (omega arith) (omega arith)),
  )

  -- ---- where no guard's word is

  outside : (f : ℕ) (g : SlotFunction) (from count : ℕ) → slice_get slots.funcs f ≡ Some g → start_at homes slots f ≤ from → from + count ≤ start_at homes slots f + function_size (homes f) g →
      ((point k : ℕ) → from ≤ k → k < from + count → InItem homes slots f point k → ⊥) → IsPlain homes slots from count
  outside f g from count is_g low high none k lo hi guard is_guard same =
      let in_it = subst (λ j. InItem homes slots guard.func guard.item j) same (guard_in_item homes slots guard is_guard) in
      let inside = in_function homes slots guard.func guard.item k in_it in
      let one = same_function homes slots guard.func f k in_it.function g in_it.is_function is_g (omega (arith, inside.0)) inside.2 (omega arith) (omega arith) in
      none guard.item k lo hi (subst (λ e. InItem homes slots e guard.item k) one in_it)

  head_plain : IsPlain homes slots 0 (6 + main_size homes slots)
  head_plain k lo hi guard is_guard same =
      let in_it = subst (λ j. InItem homes slots guard.func guard.item j) same (guard_in_item homes slots guard is_guard) in
      let inside = in_function homes slots guard.func guard.item k in_it in
      absurd (omega (arith, inside.0))

  begin_plain : (f : ℕ) (g : SlotFunction) → slice_get slots.funcs f ≡ Some g → IsPlain homes slots (start_at homes slots f) (keep_way_size (homes f))
  begin_plain f g is_g =
      outside f g (start_at homes slots f) (keep_way_size (homes f)) is_g (omega arith) (omega arith)
      (λ point k lo hi w. (let inside = in_function homes slots f point k w in absurd (omega (arith, inside.0))))

  leave_plain : (f : ℕ) (g : SlotFunction) (point : ℕ) → slice_get slots.funcs f ≡ Some g → slice_get g.code point ≡ None → IsPlain homes slots (entry_at homes slots f point) (leave_size (homes f))
  leave_plain f g point is_g none =
      let at = entry_is homes slots f g point is_g in
      let end = words_at_end (homes f) g point none in
      outside f g (entry_at homes slots f point) (leave_size (homes f)) is_g (omega arith) (omega arith)
      (λ q k lo hi w. (let inside = in_function homes slots f q k w in let same : words_before (homes f) w.function (length w.function.code) ≡ words_before (homes f) g (length g.code) = ap (λ h. words_before (homes f) h (length h.code)) (same_Some w.function g (sym w.is_function ∙ is_g)) in absurd (omega (arith, inside.1))))

  -- a guard that is at an item's place is that item
  guard_here : (f : ℕ) (g : SlotFunction) (point : ℕ) (item : SlotItem) → slice_get slots.funcs f ≡ Some g → slice_get g.code point ≡ Some item →
      (guard : GuardAt) → IsGuardAt homes slots guard → guard.func ≡ f → guard.item ≡ point →
      (condition : ℕ) × (abort_to : ℕ) × (item ≡ Guard condition abort_to) × (guard.word ≡ entry_at homes slots f point + guard_front_size (homes f) g point condition abort_to)
  guard_here f g point item is_g is_item guard is_guard func number =
      let c = is_guard.condition in
      let label = is_guard.abort_to in
      let function : is_guard.function ≡ g = same_Some is_guard.function g (sym (ap (λ n. slice_get slots.funcs n) (sym func) ∙ is_guard.is_function) ∙ is_g) in
      let there : slice_get g.code point ≡ Some (Guard c label) = ap (λ h. slice_get h.code point) (sym function) ∙ ap (λ n. slice_get is_guard.function.code n) (sym number) ∙ is_guard.is_item in
      let entry : entry_at homes slots guard.func guard.item ≡ entry_at homes slots f point = ap (λ n. entry_at homes slots n guard.item) func ∙ ap (entry_at homes slots f) number in
      let front : guard_front_size (homes guard.func) is_guard.function guard.item c label ≡ guard_front_size (homes f) g point c label =
      ap (λ n. guard_front_size (homes n) is_guard.function guard.item c label) func ∙ ap (λ h. guard_front_size (homes f) h guard.item c label) function ∙ ap (λ n. guard_front_size (homes f) g n c label) number in
      (c, label, same_Some item (Guard c label) (sym is_item ∙ there), omega (arith, is_guard.is_word, entry, front))

  -- there is no guard's word in a part of an item where the item's own isn't
  part_plain : (f : ℕ) (g : SlotFunction) (point : ℕ) (item : SlotItem) → slice_get slots.funcs f ≡ Some g → slice_get g.code point ≡ Some item →
      (count : ℕ) → count ≤ item_size (homes f) g point item →
      ((condition abort_to : ℕ) → item ≡ Guard condition abort_to → count ≤ guard_front_size (homes f) g point condition abort_to) → IsPlain homes slots (entry_at homes slots f point) count
  part_plain f g point item is_g is_item count few none k lo hi guard is_guard same =
      let there = subst (λ j. InItem homes slots guard.func guard.item j) same (guard_in_item homes slots guard is_guard) in
      let here : InItem homes slots f point k = record { function = g; item = item; is_function = is_g; is_item = is_item; from = lo; to = omega arith } in
      let places = one_item homes slots guard.func guard.item f point k there here in
      let w = guard_here f g point item is_g is_item guard is_guard places.0 places.1 in
      let most = none w.0 w.1 w.2 in
      absurd (omega (arith, w.3, same))

  module _ (few : start_at homes slots (length slots.funcs) ≤ 250000)
      (fits : (f : ℕ) (g : SlotFunction) (point : ℕ) (item : SlotItem) → slice_get slots.funcs f ≡ Some g → slice_get g.code point ≡ Some item → ItemFits (homes f) g point item) where
    few_starts : (f : ℕ) → start_at homes slots f ≤ 250000
    few_starts f = omega (arith, starts_most homes slots f, few)

    few_entries : (f point : ℕ) → entry_at homes slots f point ≤ 250000
    few_entries f point = omega (arith, entries_most homes slots f point, few)

    module _ (f : ℕ) (g : SlotFunction) (point : ℕ) (item : SlotItem) (is_g : slice_get slots.funcs f ≡ Some g) (is_item : slice_get g.code point ≡ Some item) where
      abbrev here : ℕ
      here = entry_at homes slots f point

      abbrev its_words : List Word
      its_words = item_words (homes f) (start_at homes slots) (entry_at homes slots f) g point here item

      size : length its_words ≡ item_size (homes f) g point item
      size = item_length (homes f) (start_at homes slots) (entry_at homes slots f) g point here item

      inside : here + item_size (homes f) g point item ≤ 250000
      inside =
          let at = entry_is homes slots f g point is_g in
          let passes = words_pass (homes f) g point (length g.code) item is_item (slice_get_within g.code point item is_item) in
          let last = function_inside homes slots f g is_g in
          omega (arith, few)

      encodable : AreWords its_words
      encodable = item_encodable (homes f) (start_at homes slots) (entry_at homes slots f) g point here few_starts (few_entries f) (entries_near homes slots f g is_g (λ k i. fits f g k i is_g) point) item (fits f g point item is_g is_item) inside

      listed : ListedAt (image_words homes slots limits) here its_words
      listed = item_listed homes slots limits f g point item is_g is_item

      -- the words of an item that is no guard
      no_guard : ((condition abort_to : ℕ) → item ≡ Guard condition abort_to → ⊥) → HasAt image here its_words
      no_guard none = has here its_words listed encodable
          (subst (λ n. IsPlain homes slots here n) (sym size) (part_plain f g point item is_g is_item (item_size (homes f) g point item) (omega arith) (λ condition abort_to e. absurd (none condition abort_to e))))

    front_of : (xs ys : List Word) → AreWords (xs ++ ys) → AreWords xs
    front_of [] ys h = tt
    front_of (x ∷ xs) ys h = (h.0, front_of xs ys h.1)

    rest_of : (xs ys : List Word) → AreWords (xs ++ ys) → AreWords ys
    rest_of [] ys h = h
    rest_of (x ∷ xs) ys h = rest_of xs ys h.1

    item_at : (f : ℕ) (g : SlotFunction) (point : ℕ) (item : SlotItem) → slice_get slots.funcs f ≡ Some g → slice_get g.code point ≡ Some item →
        ItemAt image (homes f) (start_at homes slots) (entry_at homes slots f) g point (entry_at homes slots f point) item
    item_at f g point Pass is_g is_item = no_guard f g point Pass is_g is_item (λ c a e. cc)
    item_at f g point (Constant dest value) is_g is_item = no_guard f g point (Constant dest value) is_g is_item (λ c a e. cc)
    item_at f g point (Copy dest from) is_g is_item = no_guard f g point (Copy dest from) is_g is_item (λ c a e. cc)
    item_at f g point (Unary operation dest operand) is_g is_item = no_guard f g point (Unary operation dest operand) is_g is_item (λ c a e. cc)
    item_at f g point (Binary operation dest first second) is_g is_item = no_guard f g point (Binary operation dest first second) is_g is_item (λ c a e. cc)
    item_at f g point (Jump to) is_g is_item = no_guard f g point (Jump to) is_g is_item (λ c a e. cc)
    item_at f g point (Branch condition then_to else_to) is_g is_item = no_guard f g point (Branch condition then_to else_to) is_g is_item (λ c a e. cc)
    item_at f g point (Call dest function args) is_g is_item = no_guard f g point (Call dest function args) is_g is_item (λ c a e. cc)
    item_at f g point (Return value) is_g is_item = no_guard f g point (Return value) is_g is_item (λ c a e. cc)
    item_at f g point (Print args) is_g is_item = no_guard f g point (Print args) is_g is_item (λ c a e. cc)
    item_at f g point (Alloc dest count) is_g is_item = no_guard f g point (Alloc dest count) is_g is_item (λ c a e. cc)
    item_at f g point (Free pointer) is_g is_item = no_guard f g point (Free pointer) is_g is_item (λ c a e. cc)
    item_at f g point (Store pointer value) is_g is_item = no_guard f g point (Store pointer value) is_g is_item (λ c a e. cc)
    item_at f g point (Load dest pointer) is_g is_item = no_guard f g point (Load dest pointer) is_g is_item (λ c a e. cc)
    item_at f g point Speculate is_g is_item = no_guard f g point Speculate is_g is_item (λ c a e. cc)
    item_at f g point Commit is_g is_item = no_guard f g point Commit is_g is_item (λ c a e. cc)
    item_at f g point (Guard condition abort_to) is_g is_item =
        let it = Guard condition abort_to in
        let at = entry_at homes slots f point in
        let front = guard_front (homes f) g point condition abort_to in
        let last = abort_word (homes f) (start_at homes slots) (entry_at homes slots f) g point at condition abort_to in
        let size = guard_front_length (homes f) g point condition abort_to in
        let all_listed = listed f g point it is_g is_item in
        let all_encodable = encodable f g point it is_g is_item in
        let plain_front = part_plain f g point it is_g is_item (guard_front_size (homes f) g point condition abort_to) (omega arith) (λ c a e. (let same : condition ≡ c = cc in let same_label : abort_to ≡ a = cc in
        let sizes : guard_front_size (homes f) g point condition abort_to ≡ guard_front_size (homes f) g point c a = ap (λ n. guard_front_size (homes f) g point n abort_to) same ∙ ap (guard_front_size (homes f) g point c) same_label in omega (arith, sizes))) in
        let end_listed = subst (λ n. ListedAt (image_words homes slots limits) (at + n) (last ∷ [])) size (drop_words (image_words homes slots limits) at front (last ∷ []) all_listed) in (
          has at front (take_words (image_words homes slots limits) at front (last ∷ []) all_listed) (front_of front (last ∷ []) all_encodable) (subst (λ n. IsPlain homes slots at n) (sym size) plain_front),
          record {
            bits = encoded_at (at + guard_front_size (homes f) g point condition abort_to) last end_listed.0;
            is_word = (rest_of front (last ∷ []) all_encodable).0;
            is_guard = ap (λ gs. is_guard_word gs (at + guard_front_size (homes f) g point condition abort_to)) is.guards ∙ guard_marked homes slots f g point condition abort_to is_g is_item;
          },
        )

-- ---- the law

pub laid : (p : Prog) (homes : ℕ → FunctionHomes) (slots : Slots) (limits : Limits) (image : Image) → IsAccepted p → AreLiteralsInRange p → IsLowered p slots → IsWithin p limits →
    HaveHomes homes slots → IsImageOf homes slots limits image → IsLaid homes slots limits image
laid p homes slots limits image accepted literals lowered within have is =
    let bounded = image_bounded homes p slots lowered have in
    let code = within.code in
    let few : start_at homes slots (length slots.funcs) ≤ 250000 = omega arith in
    let fits = item_fits p slots limits accepted literals lowered within homes have in
    let moves = main_moves homes slots in
    let loads_fit = main_fits (slice_get slots.funcs slots.main) refl in
    let main_small = few_starts homes slots limits image is few fits slots.main in
    let main = start_at homes slots slots.main in
    let head = head_words limits moves main in
    let moves_most = main_most homes p slots lowered have in
    let room = limits.few_frames in
    let eight : 8 < 32 = omega arith in
    let upper : high_part (limits.frames - 1) < 2 ^ 20 = omega arith in
    let end_fits = words (fault_words 0) refl in
    let jump = Jal 1 (jump_offset (2 + restore_size moves) main) in
    let head_fits : AreWords head = ((eight, upper), ((eight, eight, low (limits.frames - 1)), both (restore_words moves) (jump ∷ fault_words 0) loads_fit ((omega arith, jump_fits (2 + restore_size moves) main (omega arith) main_small), end_fits))) in
    let has_head = has homes slots limits image is 0 head (head_listed homes slots limits) head_fits (subst (λ n. IsPlain homes slots 0 n) (sym (head_length limits moves main)) (head_plain homes slots limits image is)) in
    let loads_length = restore_length moves in
    let end_at : 0 + 1 + 1 + length (restore_words moves) + 1 ≡ end_start homes slots = omega arith in
    record {
      is = is;
      head = has_head;
      ends = subst (λ k. HasAt image k (fault_words 0)) end_at (HasAt-rest image (0 + 1 + 1) (restore_words moves) (jump ∷ fault_words 0) has_head.1.1).1;
      begins = λ f g is_g. has homes slots limits image is (start_at homes slots f) (keep_way_words (homes f)) (begin_listed homes slots limits f g is_g) (keep_way_fits (homes f))
          (subst (λ n. IsPlain homes slots (start_at homes slots f) n) (sym (keep_way_length (homes f))) (begin_plain homes slots limits image is f g is_g));
      first = λ f g is_g. (let at = entry_is homes slots f g 0 is_g in omega arith);
      items = item_at homes slots limits image is few fits;
      next = λ f g point item is_g is_item. (let here = entry_is homes slots f g point is_g in let next = entry_is homes slots f g (suc point) is_g in let words = words_next (homes f) g point item is_item in omega arith);
      leaves = λ f g point is_g none. has homes slots limits image is (entry_at homes slots f point) (leave_words (homes f)) (leave_listed homes slots limits f g point is_g none) (leave_fits (homes f))
          (subst (λ n. IsPlain homes slots (entry_at homes slots f point) n) (sym (leave_length (homes f))) (leave_plain homes slots limits image is f g point is_g none));
      guards = λ k guard at. each_at (IsGuardAt homes slots) (image_guards homes slots) k guard (guards_are homes slots) (ap (λ gs. slice_get gs k) (sym is.guards) ∙ at);
      apart = guards_apart homes slots;
      few_starts = few_starts homes slots limits image is few fits;
      few_entries = few_entries homes slots limits image is few fits;
      frames = largest_has p slots limits accepted literals lowered within slots.funcs;
      few_frames = largest_few p slots limits accepted literals lowered within;
    }
  where
    -- what brings the arguments of `main` into registers
    main_fits : (o : Option SlotFunction) → slice_get slots.funcs slots.main ≡ o → AreWords (restore_words (opening_or_none (homes slots.main) o))
    main_fits None e = tt
    main_fits (Some g) e =
        let few = slots_few p slots limits accepted literals lowered within slots.main g e in
        restores_fit (homes slots.main) 2 _ 0 g.slots (all_reached p slots limits accepted literals lowered within homes have slots.main g e) (omega arith)
