-- Where the words of functions and items are while an image is made.
use Rattle.std.proofs.Common.{◌≡◌, ℕ, ◌+◌, ◌-◌, ◌<◌, ◌≤◌, ⊎_elim, min, List, [], ◌∷◌, ◌++◌, length, map, get_or, Some, refl, sym, ap, ◌∙◌, subst, arith, add-one, zero-add, length-append, append_assoc}
use Rattle.std.specs.Prelude.{slice_get}
use Rattle.std.specs.List.{range_with_len}
use Rattle.std.proofs.lemmas.List.{length-map}
use Rattle.std.proofs.lemmas.List.FromFn.{get_or-map-range_with_len, length-map-range_with_len, map-range_with_len_more}
use Rattle.std.proofs.lemmas.Option.{slice_get_read, slice_get_past}
use Rattle.bril_tree.proofs.Elements.{get_inside}
use Rattle.rv64_words.specs.declared.image.GuardAt.{GuardAt}
use Rattle.rv64_words.specs.Encoding.{encoded}
use Rattle.rv64_words.specs.Region.{most_words}
use Rattle.slot_code.specs.declared.item.SlotItem.{SlotItem}
use Rattle.slot_code.specs.declared.item.SlotItem.TheVariants.{Pass, Constant, Copy, Unary, Binary, Jump, Branch, Call, Return, Print, Alloc, Free, Store, Load, Speculate, Commit, Guard}
use Rattle.slot_code.specs.declared.slots.SlotFunction.{SlotFunction}
use Rattle.slot_code.specs.declared.slots.Slots.{Slots}
use Rattle.rv64_emit_laws.specs.layout.Fits.{ItemFits}
use Rattle.rv64_emit_laws.specs.layout.Homes.{FunctionHomes}
use Rattle.rv64_emit_laws.specs.layout.Image.{joined, first_start, words_before, function_size, function_size_or_none, start_at, entry_at, item_words_or_none, item_words_at, function_words_or_none, function_words_at, guard_or_none, guard_at}
use Rattle.rv64_emit_laws.specs.layout.Items.{item_size, item_words, keep_way_words, leave_size, leave_words}
use Rattle.rv64_emit_laws.proofs.lemmas.layout.Joining.{below_or, joined-more}
use Rattle.rv64_emit_laws.proofs.lemmas.layout.Laid.{items_length, functions_length}
use Rattle.rv64_emit_laws.proofs.lemmas.layout.Lengths.{keep_way_length}
use Rattle.rv64_emit_laws.proofs.lemmas.layout.Placing.{words_next, words_at_end, entry_is, starts_rise, starts_most, function_inside, entries_most}
use Rattle.rv64_emit.specs.Moved.{AreMovableAt}
use Rattle.rv64_emit.specs.Tables.{table_at, start_table, entry_table, entry_tables, item_count, guard_with, SlotsFit}
use Rattle.rv64_emit.proofs.Appending.{put_then}

-- ---- tables

-- a table of a function's values, which stay the same from its end on
table_of : (values : ℕ → ℕ) (n : ℕ) → ((k : ℕ) → n ≤ k → values k ≡ values n) → (k : ℕ) → table_at (map values (range_with_len 0 (n + 1))) k ≡ values k
table_of values n stays k = ⊎_elim (λ (less : k < n + 1). at k less) (λ (past : n + 1 ≤ k). (let at_end : table_at table k ≡ values n = last (omega arith) in at_end ∙ sym (stays k (omega arith)))) (below_or k (n + 1))
  where
    table : List ℕ
    table = map values (range_with_len 0 (n + 1))

    entries : length table ≡ n + 1
    entries = length-map-range_with_len values 0 (n + 1)

    value : (j : ℕ) → j < n + 1 → get_or table j 0 ≡ values j
    value j less = get_or-map-range_with_len values 0 (n + 1) j j 0 less (zero-add j)

    at : (j : ℕ) → j < n + 1 → table_at table j ≡ values j
    at j less = let place : min j (length table - 1) ≡ j = omega (arith, entries) in ap (λ i. get_or table i 0) place ∙ value j less

    last : n < k → table_at table k ≡ values n
    last past = let place : min k (length table - 1) ≡ n = omega (arith, entries) in ap (λ i. get_or table i 0) place ∙ value n (omega arith)

-- a table of one value more
pub table_next : {X : Type 0} (values : ℕ → X) (table more : List X) (k : ℕ) (x : X) → more ≡ table ++ x ∷ [] → x ≡ values k → table ≡ map values (range_with_len 0 k) → more ≡ map values (range_with_len 0 (k + 1))
table_next values table more k x pushed is so_far =
    pushed ∙ ap (λ l. l ++ x ∷ []) so_far ∙ ap (λ y. map values (range_with_len 0 k) ++ y ∷ []) is ∙ sym (map-range_with_len_more values 0 k k (zero-add k))

both_ways : (m n : ℕ) → m ≤ n → n ≤ m → m ≡ n
both_ways m n h k = omega arith

-- ---- entries

module _ (homes : ℕ → FunctionHomes) (slots : Slots) where
  starts_stay : (k : ℕ) → length slots.funcs ≤ k → start_at homes slots k ≡ start_at homes slots (length slots.funcs)
  starts_stay k past = both_ways _ _ (starts_most homes slots k) (starts_rise homes slots (length slots.funcs) k past)

  pub starts_are : (starts : List ℕ) → starts ≡ start_table homes slots → (k : ℕ) → table_at starts k ≡ start_at homes slots k
  starts_are starts is k = ap (λ t. table_at t k) is ∙ table_of (start_at homes slots) (length slots.funcs) starts_stay k

  entries_stay : (f : ℕ) (g : SlotFunction) → slice_get slots.funcs f ≡ Some g → (k : ℕ) → length g.code ≤ k → entry_at homes slots f k ≡ entry_at homes slots f (length g.code)
  entries_stay f g is k past =
      let here = entry_is homes slots f g k is in
      let there = entry_is homes slots f g (length g.code) is in
      let end = words_at_end (homes f) g k (slice_get_past g.code k past) in
      omega arith

  table_is : (f : ℕ) (g : SlotFunction) → slice_get slots.funcs f ≡ Some g → (entries : List ℕ) → entries ≡ entry_table homes slots f → entries ≡ map (entry_at homes slots f) (range_with_len 0 (length g.code + 1))
  table_is f g is entries are = are ∙ ap (λ o. map (entry_at homes slots f) (range_with_len 0 (item_count o + 1))) is

  pub entries_are : (f : ℕ) (g : SlotFunction) → slice_get slots.funcs f ≡ Some g → (entries : List ℕ) → entries ≡ entry_table homes slots f → (k : ℕ) → table_at entries k ≡ entry_at homes slots f k
  entries_are f g is entries are k = ap (λ t. table_at t k) (table_is f g is entries are) ∙ table_of (entry_at homes slots f) (length g.code) (entries_stay f g is) k

  -- what tables have is no more than the words of an image
  pub starts_few : SlotsFit homes slots → (starts : List ℕ) → starts ≡ start_table homes slots → (k : ℕ) → table_at starts k ≤ most_words
  starts_few fit starts is k = let few = fit.few in omega (arith, starts_are starts is k, starts_most homes slots k, few)

  pub entries_few : SlotsFit homes slots → (f : ℕ) (g : SlotFunction) → slice_get slots.funcs f ≡ Some g → (entries : List ℕ) → entries ≡ entry_table homes slots f → (k : ℕ) → table_at entries k ≤ most_words
  entries_few fit f g is entries are k = let few = fit.few in omega (arith, entries_are f g is entries are k, entries_most homes slots f k, few)

  -- behind the words that leave a function begins the next one
  pub next_start : (f : ℕ) → f < length slots.funcs → (entries : List ℕ) → entries ≡ entry_table homes slots f → (0 < length entries) × (table_at entries (length entries - 1) + leave_size (homes f) ≡ start_at homes slots (f + 1))
  next_start f inside entries are =
      let g = get_inside slots.funcs f inside in
      let long : length entries ≡ length g.0.code + 1 = ap length (table_is f g.0 g.1 entries are) ∙ length-map-range_with_len (entry_at homes slots f) 0 (length g.0.code + 1) in
      let last : table_at entries (length g.0.code) ≡ entry_at homes slots f (length g.0.code) = entries_are f g.0 g.1 entries are (length g.0.code) in
      let size : function_size_or_none (homes f) (slice_get slots.funcs f) ≡ function_size (homes f) g.0 = ap (function_size_or_none (homes f)) g.1 in
      let at : length entries - 1 ≡ length g.0.code = omega (arith, long) in (
        omega (arith, long),
        omega (arith, ap (table_at entries) at, last, size, entry_is homes slots f g.0 (length g.0.code) g.1, ap (start_at homes slots) (add-one f)),
      )

  pub tables_long : (tables : List (List ℕ)) → tables ≡ entry_tables homes slots → length tables ≡ length slots.funcs
  tables_long tables are = ap length are ∙ length-map-range_with_len (entry_table homes slots) 0 (length slots.funcs)

  -- the table of a function among those of all
  pub entries_at : (tables : List (List ℕ)) → tables ≡ entry_tables homes slots → (f : ℕ) (entries : List ℕ) → f < length tables → entries ≡ get_or tables f entries → (f < length slots.funcs) × (entries ≡ entry_table homes slots f)
  entries_at tables are f entries less here =
      let long : length tables ≡ length slots.funcs = tables_long tables are in
      let inside : f < length slots.funcs = omega (arith, long) in
      (inside, here ∙ (ap (λ t. get_or t f entries) are ∙ get_or-map-range_with_len (entry_table homes slots) 0 (length slots.funcs) f f entries inside (zero-add f)))

  -- ---- one item

  -- What is known of the item at a point of function f, by the homes of its slots.
  pub record Turn (f : ℕ) (g : SlotFunction) (own : FunctionHomes) (point : ℕ) (item : SlotItem) : Type 0 where
    pub there : slice_get g.code point ≡ Some item
    pub fits : ItemFits own g point item
    pub movable : AreMovableAt own g point
    pub next : words_before own g (point + 1) ≡ words_before own g point + item_size own g point item
    pub entry : entry_at homes slots f point ≡ start_at homes slots f + words_before own g point
    pub next_entry : entry_at homes slots f (point + 1) ≡ start_at homes slots f + words_before own g (point + 1)
    pub inside : start_at homes slots f + words_before own g (point + 1) ≤ 250000

  pub function_few : SlotsFit homes slots → (f : ℕ) (g : SlotFunction) (own : FunctionHomes) → slice_get slots.funcs f ≡ Some g → own ≡ homes f → start_at homes slots f + function_size own g ≤ 250000
  function_few fit f g own is own_is =
      subst (λ h. start_at homes slots f + function_size h g ≤ 250000) (sym own_is) (let few = fit.few in omega (arith, function_inside homes slots f g is))

  pub turn : SlotsFit homes slots → (f : ℕ) (g : SlotFunction) (own : FunctionHomes) → slice_get slots.funcs f ≡ Some g → own ≡ homes f → (items : List SlotItem) → items ≡ g.code → (point : ℕ) (item : SlotItem) → point < length items →
      item ≡ get_or items point item → Turn f g own point item
  turn fit f g own is own_is items same point item less here = subst (λ h. Turn f g h point item) (sym own_is) (record {
    there = there;
    fits = fit.items f g point item is there;
    movable = record {
      slots = fit.movable f g is;
      levels = (fit.items f g point item is there).levels;
      small = let few = fit.points f g is in let long = ap length same in omega arith;
    };
    next = ap (words_before (homes f) g) (add-one point) ∙ words_next (homes f) g point item there;
    entry = entry_is homes slots f g point is;
    next_entry = entry_is homes slots f g (point + 1) is;
    inside = let at = entry_is homes slots f g (point + 1) is in let most = entries_most homes slots f (point + 1) in let few = fit.few in omega arith;
  })
    where
      there : slice_get g.code point ≡ Some item
      there = ap (λ code. slice_get code point) (sym same) ∙ slice_get_read items (length items) point item refl less here

  -- ---- the words of items

  -- where the words of the next item begin
  pub here_is : (f : ℕ) (g : SlotFunction) → slice_get slots.funcs f ≡ Some g → (first code : List ℕ) (point : ℕ) → length first ≡ entry_at homes slots f 0 →
      code ≡ first ++ map encoded (joined (item_words_at homes slots f g) point) → length code ≡ entry_at homes slots f point
  here_is f g is first code point before so_far =
      let words = joined (item_words_at homes slots f g) point in
      omega (arith, ap length so_far, length-append first (map encoded words), length-map words encoded, items_length homes slots f g point, entry_is homes slots f g point is, entry_is homes slots f g 0 is)

  pub items_next : (f : ℕ) (g : SlotFunction) (own : FunctionHomes) → slice_get slots.funcs f ≡ Some g → own ≡ homes f → (starts entries : List ℕ) → starts ≡ start_table homes slots → entries ≡ entry_table homes slots f →
      (first code next : List ℕ) (point : ℕ) (item : SlotItem) → length first ≡ entry_at homes slots f 0 → slice_get g.code point ≡ Some item → code ≡ first ++ map encoded (joined (item_words_at homes slots f g) point) →
      next ≡ code ++ map encoded (item_words own (table_at starts) (table_at entries) g point (length code) item) → next ≡ first ++ map encoded (joined (item_words_at homes slots f g) (point + 1))
  items_next f g own is own_is starts entries starts_is entries_is first code next point item before there so_far put =
      put_then first code next (joined (item_words_at homes slots f g) point) (item_words_at homes slots f g point) so_far (put ∙ ap (λ ws. code ++ map encoded ws) same)
      ∙ ap (λ ws. first ++ map encoded ws) (sym (joined-more (item_words_at homes slots f g) point))
    where
      start_path : table_at starts ≡ start_at homes slots
      start_path = λ i k. starts_are starts starts_is k i

      entry_path : table_at entries ≡ entry_at homes slots f
      entry_path = λ i k. entries_are f g is entries entries_is k i

      same : item_words own (table_at starts) (table_at entries) g point (length code) item ≡ item_words_at homes slots f g point
      same =
          ap (λ s. item_words own s (table_at entries) g point (length code) item) start_path
          ∙ ap (λ e. item_words own (start_at homes slots) e g point (length code) item) entry_path
          ∙ ap (λ h. item_words own (start_at homes slots) (entry_at homes slots f) g point h item) (here_is f g is first code point before so_far)
          ∙ ap (λ o. item_words o (start_at homes slots) (entry_at homes slots f) g point (entry_at homes slots f point) item) own_is
          ∙ sym (ap (item_words_or_none homes slots f g point) there)

  -- ---- the words of functions

  -- where the words of its items begin
  pub opening_put : (f : ℕ) (g : SlotFunction) (own : FunctionHomes) → slice_get slots.funcs f ≡ Some g → own ≡ homes f → (first begun : List ℕ) → length first ≡ start_at homes slots f → begun ≡ first ++ map encoded (keep_way_words own) → length begun ≡ entry_at homes slots f 0
  opening_put f g own is own_is first begun before put =
      let words = keep_way_words (homes f) in
      let same : begun ≡ first ++ map encoded words = put ∙ ap (λ h. first ++ map encoded (keep_way_words h)) own_is in
      omega (arith, ap length same, length-append first (map encoded words), length-map words encoded, keep_way_length (homes f), entry_is homes slots f g 0 is)

  pub function_put : (f : ℕ) (g : SlotFunction) (own : FunctionHomes) → slice_get slots.funcs f ≡ Some g → own ≡ homes f → (first begun items left : List ℕ) → begun ≡ first ++ map encoded (keep_way_words own) → items ≡ begun ++ map encoded (joined (item_words_at homes slots f g) (length g.code)) →
      left ≡ items ++ map encoded (leave_words own) → left ≡ first ++ map encoded (function_words_at homes slots f)
  function_put f g own is own_is first begun items left one two three =
      let words = joined (item_words_at homes slots f g) (length g.code) in
      put_then first begun left (keep_way_words own) (words ++ leave_words own) one (put_then begun items left words (leave_words own) two three)
      ∙ ap (λ h. first ++ map encoded (keep_way_words h ++ (words ++ leave_words h))) own_is ∙ ap (λ o. first ++ map encoded (function_words_or_none homes slots f o)) (sym is)

  -- where the words of the next function begin
  pub function_here : (first code : List ℕ) (f : ℕ) → length first ≡ first_start homes slots → code ≡ first ++ map encoded (joined (function_words_at homes slots) f) → length code ≡ start_at homes slots f
  function_here first code f before so_far =
      let words = joined (function_words_at homes slots) f in
      omega (arith, ap length so_far, length-append first (map encoded words), length-map words encoded, functions_length homes slots f)

  -- ---- guards

  guard_same : (f : ℕ) (g : SlotFunction) (point : ℕ) (item : SlotItem) → guard_with (homes f) (entry_at homes slots f point) f g point item ≡ guard_or_none homes slots f g point (Some item)
  guard_same f g point (Guard condition abort_to) = refl
  guard_same f g point Pass = refl
  guard_same f g point (Constant dest value) = refl
  guard_same f g point (Copy dest from) = refl
  guard_same f g point (Unary operation dest operand) = refl
  guard_same f g point (Binary operation dest first second) = refl
  guard_same f g point (Jump to) = refl
  guard_same f g point (Branch condition then_to else_to) = refl
  guard_same f g point (Call dest function args) = refl
  guard_same f g point (Return value) = refl
  guard_same f g point (Print args) = refl
  guard_same f g point (Alloc dest count) = refl
  guard_same f g point (Free pointer) = refl
  guard_same f g point (Store pointer value) = refl
  guard_same f g point (Load dest pointer) = refl
  guard_same f g point Speculate = refl
  guard_same f g point Commit = refl

  pub guards_next : (f : ℕ) (g : SlotFunction) (own : FunctionHomes) → own ≡ homes f → (first guards more : List GuardAt) (point : ℕ) (item : SlotItem) (entry : ℕ) → slice_get g.code point ≡ Some item → entry ≡ entry_at homes slots f point →
      more ≡ guards ++ guard_with own entry f g point item → guards ≡ first ++ joined (guard_at homes slots f g) point → more ≡ first ++ joined (guard_at homes slots f g) (point + 1)
  guards_next f g own own_is first guards more point item entry there entry_is pushed so_far =
      pushed ∙ ap (λ e. guards ++ guard_with own e f g point item) entry_is ∙ ap (λ h. guards ++ guard_with h (entry_at homes slots f point) f g point item) own_is
      ∙ ap (λ gs. guards ++ gs) (guard_same f g point item ∙ sym (ap (guard_or_none homes slots f g point) there))
      ∙ ap (λ gs. gs ++ guard_at homes slots f g point) so_far ∙ append_assoc first (joined (guard_at homes slots f g) point) (guard_at homes slots f g point)
      ∙ ap (λ gs. first ++ gs) (sym (joined-more (guard_at homes slots f g) point))
