-- Words at which no item begins: those in the middle of an item, and those before and behind a function's items.
use Rattle.std.proofs.Common.{◌≡◌, ◌≢◌, ℕ, suc, ◌+◌, ◌*◌, ◌<◌, ◌≤◌, ◌⊎◌, inl, inr, sym, subst, arith, length, Option, Some, None}
use Rattle.std.specs.Prelude.{slice_get}
use Rattle.std.proofs.lemmas.Option.{slice_get_within}
use Rattle.rv64_emit_laws.specs.layout.Homes.{FunctionHomes}
use Rattle.rv64_emit_laws.specs.layout.Image.{first_start, function_size, size_at, words_before}
use Rattle.rv64_emit_laws.specs.layout.Items.{item_size, leave_size}
use Rattle.rv64_emit_laws.proofs.lemmas.layout.Guarding.{InItem, in_function, one_item, same_function}
use Rattle.rv64_emit_laws.proofs.lemmas.layout.Joining.{below_or, sum_rises}
use Rattle.rv64_emit_laws.proofs.lemmas.layout.Placing.{entry_is, words_at_end, words_most, words_pass}
use Rattle.rv64_words.specs.State.{State}
use Rattle.slot_code.specs.declared.item.SlotItem.{SlotItem}
use Rattle.slot_code.specs.declared.slots.SlotFunction.{SlotFunction}
use Rattle.rv64_emit_laws.proofs.Setting.{Setting, entry_of, start_of}

words_rise : (homes : FunctionHomes) (g : SlotFunction) (a b : ℕ) → a ≤ b → words_before homes g a ≤ words_before homes g b
words_rise homes g a b le = omega (arith, sum_rises (size_at homes g) a b le)

some_one : {X : Type 0} {o : Option X} {x y : X} → o ≡ Some x → o ≡ Some y → x ≡ y
some_one a b = cc

module _ (S : Setting) where
  -- there are words of this item
  pub record HasWords (f point : ℕ) (g : SlotFunction) (item : SlotItem) : Type 0 where
    pub there : slice_get S.slots.funcs f ≡ Some g
    pub here : slice_get g.code point ≡ Some item
    pub some : 1 ≤ item_size (S.homes f) g point item

  -- no item begins at this word
  abbrev pub IsInner : ℕ → Type 0
  IsInner w = (f point : ℕ) (g : SlotFunction) (item : SlotItem) → HasWords f point g item → w ≢ entry_of S f point

  -- no item begins at the word that the machine is before
  abbrev pub IsBetween : State → Type 0
  IsBetween t = (f point : ℕ) (g : SlotFunction) (item : SlotItem) → HasWords f point g item → t.pc ≢ 4 * entry_of S f point

  pub inner_between : (w : ℕ) (t : State) → t.pc ≡ 4 * w → IsInner w → IsBetween t
  inner_between w t at inner f point g item has same = inner f point g item has (omega arith)

  abbrev at_entry : (f point : ℕ) (g : SlotFunction) (item : SlotItem) → HasWords f point g item → InItem S.homes S.slots f point (entry_of S f point)
  at_entry f point g item has = let some = has.some in record { function = g; item = item; is_function = has.there; is_item = has.here; from = omega arith; to = omega arith }

  -- no two items with words begin at one word
  pub one_entry : (e p f q : ℕ) (h g : SlotFunction) (x y : SlotItem) → HasWords e p h x → HasWords f q g y → entry_of S e p ≡ entry_of S f q → (e ≡ f) × (p ≡ q)
  one_entry e p f q h g x y a b same = one_item S.homes S.slots e p f q (entry_of S e p) (at_entry e p h x a) (subst (InItem S.homes S.slots f q) (sym same) (at_entry f q g y b))

  -- words before those of all functions
  pub head_inner : (w : ℕ) → w < first_start S.homes S.slots → IsInner w
  head_inner w low f point g item has same = let in_f = in_function S.homes S.slots f point (entry_of S f point) (at_entry f point g item has) in let from = in_f.0 in absurd (omega arith)

  module _ (f : ℕ) (g : SlotFunction) (there : slice_get S.slots.funcs f ≡ Some g) where
    -- no item of the function begins at this one of its words
    abbrev IsInnerHere : ℕ → Type 0
    IsInnerHere w = (q : ℕ) (item : SlotItem) → HasWords f q g item → w ≢ entry_of S f q

    of_function : (w : ℕ) → start_of S f ≤ w → w < start_of S f + function_size (S.homes f) g → IsInnerHere w → IsInner w
    of_function w from to inner e q h item has same =
        let in_e = in_function S.homes S.slots e q (entry_of S e q) (at_entry e q h item has) in
        let from_e = in_e.0 in
        let to_e = in_e.2 in
        let one = same_function S.homes S.slots e f w h g has.there there (omega arith) (omega arith) from to in
        let here : HasWords f q h item = subst (λ k. HasWords k q h item) one has in
        inner q item (subst (λ k. HasWords f q k item) (some_one here.there there) here) (subst (λ k. w ≡ entry_of S k q) one same)

    -- behind an item's first word
    pub item_inner : (point w : ℕ) → entry_of S f point < w → w < entry_of S f (suc point) → IsInner w
    item_inner point w low high =
        let at = entry_is S.homes S.slots f g point there in
        let next = entry_is S.homes S.slots f g (suc point) there in
        let most = words_most (S.homes f) g (suc point) in
        of_function w (omega arith) (omega arith) (λ q item has same. apart q (entry_is S.homes S.slots f g q there) same (below_or point q))
      where
        apart : (q : ℕ) → entry_of S f q ≡ start_of S f + words_before (S.homes f) g q → w ≡ entry_of S f q → (point < q) ⊎ (q ≤ point) → ⊥
        apart q is same (inr le) = let rise = words_rise (S.homes f) g q point le in let at = entry_is S.homes S.slots f g point there in absurd (omega arith)
        apart q is same (inl more) = let rise = words_rise (S.homes f) g (suc point) q (omega arith) in let next = entry_is S.homes S.slots f g (suc point) there in absurd (omega arith)

    -- before its first item
    pub opening_inner : (w : ℕ) → start_of S f ≤ w → w < entry_of S f 0 → IsInner w
    opening_inner w low high =
        let first = entry_is S.homes S.slots f g 0 there in
        let most = words_most (S.homes f) g 0 in
        of_function w low (omega arith) (λ q item has same. (let is = entry_is S.homes S.slots f g q there in let rise = words_rise (S.homes f) g 0 q (omega arith) in absurd (omega arith)))

    -- behind its last item
    pub leaving_inner : (point w : ℕ) → slice_get g.code point ≡ None → entry_of S f point ≤ w → w < entry_of S f point + leave_size (S.homes f) → IsInner w
    leaving_inner point w none low high =
        let at = entry_is S.homes S.slots f g point there in
        let end = words_at_end (S.homes f) g point none in
        of_function w (omega arith) (omega arith) (λ q item has same.
        (let is = entry_is S.homes S.slots f g q there in
        let some = has.some in
        let passes = words_pass (S.homes f) g q (length g.code) item has.here (slice_get_within g.code q item has.here) in
        absurd (omega arith)))
