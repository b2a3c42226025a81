-- The guards that an image lists are those of the program.
use Rattle.std.proofs.Common.{◌≡◌, ℕ, zero, suc, ◌+◌, ◌-◌, ◌<◌, ◌≤◌, ◌⊎◌, inl, inr, Bool, true, false, ◌||◌, eqb, List, [], ◌∷◌, ◌++◌, length, Option, Some, None, refl, sym, ap, ◌∙◌, arith}
use Rattle.std.specs.Prelude.{IsTrue, option_map, slice_get}
use Rattle.std.proofs.lemmas.Bool.{eqb-true, false≢true}
use Rattle.std.proofs.lemmas.Option.{same_Some, slice_get-map}
use Rattle.bril_tree.specs.declared.numbered.Instr.{Instr}
use Rattle.bril_tree.specs.declared.numbered.Instr.TheVariants.{Label, Const, Act}
use Rattle.bril_tree.specs.declared.numbered_function.Func.{Func}
use Rattle.bril_tree.specs.declared.operation.Op.{Op}
use Rattle.bril_tree.specs.declared.operation.Op.TheVariants as op
use Rattle.bril_tree.specs.declared.program.Prog.{Prog}
use Rattle.bril_tree.specs.declared.types.Ty.{Ty}
use Rattle.bril_tree.specs.Step.{item_at, items_of}
use Rattle.rv64_image_laws.specs.Implements.{IsBefore, ListsGuards, is_guard}
use Rattle.rv64_emit_laws.specs.layout.Image.{entry_at, function_guards_at, function_guards_or_none, guard_at, guard_or_none, image_guards, joined}
use Rattle.rv64_emit_laws.specs.layout.Homes.{FunctionHomes}
use Rattle.rv64_emit_laws.specs.layout.Items.{guard_front_size}
use Rattle.rv64_emit_laws.specs.layout.Laid.{IsGuardAt, IsLaid}
use Rattle.rv64_emit_laws.proofs.lemmas.layout.Bounding.{instruction_at}
use Rattle.rv64_words.specs.declared.image.GuardAt.{GuardAt}
use Rattle.rv64_words.specs.declared.image.Image.{Image}
use Rattle.rv64_words.specs.Machine.{is_guard_word}
use Rattle.bril_tree.specs.declared.limits.Limits.{Limits}
use Rattle.slot_code.specs.declared.item.SlotItem.{SlotItem}
use Rattle.slot_code.specs.declared.item.SlotItem.TheVariants.{Guard}
use Rattle.slot_code.specs.declared.slots.SlotFunction.{SlotFunction}
use Rattle.slot_code.specs.declared.slots.Slots.{Slots}
use Rattle.slot_code.specs.Lowered.{IsLowered, lowered_action, lowered_item}
use Rattle.rv64_emit_laws.proofs.Sources.{lowered_at, source_at}

-- ---- joined lists are in order

module _ {X : Type 0} where
  -- an element of two lists is in the first or in the second
  pub data IsParted (xs ys : List X) (k : ℕ) (x : X) : Type 0 where
    InFirst : k < length xs → slice_get xs k ≡ Some x → IsParted xs ys k x
    InSecond : length xs ≤ k → slice_get ys (k - length xs) ≡ Some x → IsParted xs ys k x

  parted : (xs ys : List X) (k : ℕ) (x : X) → slice_get (xs ++ ys) k ≡ Some x → IsParted xs ys k x
  parted [] ys k x e = let none : k ≡ k - 0 = omega arith in InSecond (omega arith) (ap (slice_get ys) (sym none) ∙ e)
  parted (z ∷ xs) ys zero x e = InFirst (omega arith) e
  parted (z ∷ xs) ys (suc k) x e = by (parted xs ys k x e)
    where
      by : IsParted xs ys k x → IsParted (z ∷ xs) ys (suc k) x
      by (InFirst less here) = InFirst (omega arith) here
      by (InSecond more here) = let same : suc k - suc (length xs) ≡ k - length xs = omega arith in InSecond (omega arith) (ap (slice_get ys) same ∙ here)

  -- the elements of list k have the key k, and those of one list are in an order
  module _ (key : X → ℕ) (Before : X → X → Type 0) (lists : ℕ → List X) (keyed : (k i : ℕ) (x : X) → slice_get (lists k) i ≡ Some x → key x ≡ k)
      (ordered : (k i j : ℕ) (a b : X) → i < j → slice_get (lists k) i ≡ Some a → slice_get (lists k) j ≡ Some b → Before a b) where
    key_below : (n i : ℕ) (x : X) → slice_get (joined lists n) i ≡ Some x → key x < n
    key_below zero i x e = cc
    key_below (suc n) i x e = by (key_below n i x) (parted (joined lists n) (lists n) i x e)
      where
        by : (slice_get (joined lists n) i ≡ Some x → key x < n) → IsParted (joined lists n) (lists n) i x → key x < suc n
        by earlier (InFirst less here) = let before = earlier here in omega arith
        by earlier (InSecond more here) = let at = keyed n (i - length (joined lists n)) x here in omega arith

    pub joined_in_order : (n i j : ℕ) (a b : X) → i < j → slice_get (joined lists n) i ≡ Some a → slice_get (joined lists n) j ≡ Some b → (key a < key b) ⊎ ((key a ≡ key b) × Before a b)
    joined_in_order zero i j a b less at_a at_b = cc
    joined_in_order (suc n) i j a b less at_a at_b =
        by (joined_in_order n i j a b less) (parted (joined lists n) (lists n) i a at_a) (parted (joined lists n) (lists n) j b at_b)
      where
        by : (slice_get (joined lists n) i ≡ Some a → slice_get (joined lists n) j ≡ Some b → (key a < key b) ⊎ ((key a ≡ key b) × Before a b)) →
            IsParted (joined lists n) (lists n) i a → IsParted (joined lists n) (lists n) j b → (key a < key b) ⊎ ((key a ≡ key b) × Before a b)
        by earlier (InFirst low first) (InFirst high second) = earlier first second
        by earlier (InFirst low first) (InSecond high second) =
            let below = key_below n i a first in
            let at = keyed n (j - length (joined lists n)) b second in
            inl (omega arith)
        by earlier (InSecond low first) (InFirst high second) = absurd (omega arith)
        by earlier (InSecond low first) (InSecond high second) =
            let at_first = keyed n (i - length (joined lists n)) a first in
            let at_second = keyed n (j - length (joined lists n)) b second in
            inr (omega arith, ordered n (i - length (joined lists n)) (j - length (joined lists n)) a b (omega arith) first second)

-- ---- the guards of an image

-- an empty list has no guard
nowhere : (i : ℕ) (a : GuardAt) → slice_get [] i ≡ Some a → ⊥
nowhere i a e = let none : None ≡ Some a = e in cc

-- a list of one has one place
one_place : (x : GuardAt) (i : ℕ) (a : GuardAt) → slice_get (x ∷ []) i ≡ Some a → (i ≡ 0) × (x ≡ a)
one_place x zero a e = (refl, same_Some x a e)
one_place x (suc i) a e = absurd (nowhere i a e)

module _ (homes : ℕ → FunctionHomes) (slots : Slots) where
  module _ (f : ℕ) (g : SlotFunction) where
    -- at a point there is one guard at most, with its function and item
    point_guard : (point : ℕ) (o : Option SlotItem) (i : ℕ) (a : GuardAt) → slice_get (guard_or_none homes slots f g point o) i ≡ Some a → (i ≡ 0) × (a.func ≡ f) × (a.item ≡ point)
    point_guard point (Some (Guard condition abort_to)) i a e =
        let h = one_place (record { word = entry_at homes slots f point + guard_front_size (homes f) g point condition abort_to; func = f; item = point }) i a e in
        (h.0, ap (λ x. x.func) (sym h.1), ap (λ x. x.item) (sym h.1))
    point_guard point None i a e = absurd (nowhere i a e)
    point_guard point (Some _) i a e = absurd (nowhere i a e)

    at_point : (point i : ℕ) (a : GuardAt) → slice_get (guard_at homes slots f g point) i ≡ Some a → (i ≡ 0) × (a.func ≡ f) × (a.item ≡ point)
    at_point point i a e = point_guard point (slice_get g.code point) i a e

    functions_are : (n i : ℕ) (a : GuardAt) → slice_get (joined (guard_at homes slots f g) n) i ≡ Some a → a.func ≡ f
    functions_are zero i a e = cc
    functions_are (suc n) i a e = by (functions_are n i a) (parted (joined (guard_at homes slots f g) n) (guard_at homes slots f g n) i a e)
      where
        by : (slice_get (joined (guard_at homes slots f g) n) i ≡ Some a → a.func ≡ f) → IsParted (joined (guard_at homes slots f g) n) (guard_at homes slots f g n) i a → a.func ≡ f
        by earlier (InFirst less here) = earlier here
        by earlier (InSecond more here) = (at_point n (i - length (joined (guard_at homes slots f g) n)) a here).1

    -- two guards of a function are at different items
    items_in_order : (n i j : ℕ) (a b : GuardAt) → i < j → slice_get (joined (guard_at homes slots f g) n) i ≡ Some a → slice_get (joined (guard_at homes slots f g) n) j ≡ Some b → a.item < b.item
    items_in_order n i j a b less at_a at_b =
        by (joined_in_order (λ x. x.item) (λ x y. ⊥) (guard_at homes slots f g) (λ k i x e. (at_point k i x e).2) alone n i j a b less at_a at_b)
      where
        alone : (k i j : ℕ) (a b : GuardAt) → i < j → slice_get (guard_at homes slots f g k) i ≡ Some a → slice_get (guard_at homes slots f g k) j ≡ Some b → ⊥
        alone k i j a b less at_a at_b =
            let first = (at_point k i a at_a).0 in
            let second = (at_point k j b at_b).0 in
            absurd (omega arith)

        by : (a.item < b.item) ⊎ ((a.item ≡ b.item) × ⊥) → a.item < b.item
        by (inl h) = h
        by (inr h) = absurd h.1

  in_function : (f : ℕ) (o : Option SlotFunction) (i : ℕ) (a : GuardAt) → slice_get (function_guards_or_none homes slots f o) i ≡ Some a → a.func ≡ f
  in_function f None i a e = absurd (nowhere i a e)
  in_function f (Some g) i a e = functions_are f g (length g.code) i a e

  order_in_function : (f : ℕ) (o : Option SlotFunction) (i j : ℕ) (a b : GuardAt) → i < j → slice_get (function_guards_or_none homes slots f o) i ≡ Some a → slice_get (function_guards_or_none homes slots f o) j ≡ Some b → a.item < b.item
  order_in_function f None i j a b less at_a at_b = absurd (nowhere i a at_a)
  order_in_function f (Some g) i j a b less at_a at_b = items_in_order f g (length g.code) i j a b less at_a at_b

  guards_in_order : (i j : ℕ) (a b : GuardAt) → i < j → slice_get (image_guards homes slots) i ≡ Some a → slice_get (image_guards homes slots) j ≡ Some b → IsBefore a b
  guards_in_order =
      joined_in_order (λ x. x.func) (λ x y. x.item < y.item) (function_guards_at homes slots) (λ k i x e. in_function k (slice_get slots.funcs k) i x e)
      (λ k i j a b less at_a at_b. order_in_function k (slice_get slots.funcs k) i j a b less at_a at_b) (length slots.funcs)

-- ---- the guards of a program

abbrev is_slot_guard : SlotItem → Bool
is_slot_guard (Guard condition abort_to) = true
is_slot_guard _ = false

module _ (f : Func) where
  action_guard : (o : Op) (dest : Option ℕ) (ty : Option Ty) (args funcs labels : List ℕ) → is_slot_guard (lowered_action f o dest ty args funcs labels) ≡ is_guard (Some (Act dest ty o args funcs labels))
  action_guard op.Guard dest ty args funcs labels = refl
  action_guard op.Undef (Some x) None args funcs labels = refl
  action_guard op.Undef (Some x) (Some type) args funcs labels = refl
  action_guard _ None ty args funcs labels = refl
  action_guard _ (Some x) ty args funcs labels = refl

  item_guard : (item : Instr) → is_slot_guard (lowered_item f item) ≡ is_guard (Some item)
  item_guard (Label l) = refl
  item_guard (Const dest ty value) = refl
  item_guard (Act dest ty o args funcs labels) = action_guard o dest ty args funcs labels

-- an item over slots that is a guard
slot_guard : (item : SlotItem) → is_slot_guard item ≡ true → (condition : ℕ) × (abort_to : ℕ) × (item ≡ Guard condition abort_to)
slot_guard (Guard condition abort_to) e = (condition, abort_to, refl)
slot_guard _ e = absurd (false≢true e)

-- a word that is a guard's is that of an entry
marked_entry : (guards : List GuardAt) (word : ℕ) → is_guard_word guards word ≡ true → (k : ℕ) × (guard : GuardAt) × (slice_get guards k ≡ Some guard) × (guard.word ≡ word)
marked_entry [] word e = absurd (false≢true e)
marked_entry (g ∷ guards) word e = by (marked_entry guards word) (eqb g.word word) refl
  where
    by : (is_guard_word guards word ≡ true → (k : ℕ) × (guard : GuardAt) × (slice_get guards k ≡ Some guard) × (guard.word ≡ word)) → (b : Bool) → eqb g.word word ≡ b → (k : ℕ) × (guard : GuardAt) × (slice_get (g ∷ guards) k ≡ Some guard) × (guard.word ≡ word)
    by earlier true same = (0, g, refl, eqb-true g.word word same)
    by earlier false other =
        let rest = earlier (sym (ap (λ b. b || is_guard_word guards word) other) ∙ e) in
        (suc rest.0, rest.1, rest.2, rest.3)

module _ (p : Prog) (homes : ℕ → FunctionHomes) (slots : Slots) (limits : Limits) (image : Image) (lowered : IsLowered p slots) (laid : IsLaid homes slots limits image) where
  are_guards : (k : ℕ) (guard : GuardAt) → slice_get image.guards k ≡ Some guard → IsTrue (is_guard (item_at p guard.func guard.item))
  are_guards k guard there =
      let g = laid.guards k guard there in
      let source = source_at p slots lowered guard.func g.function g.is_function in
      let instr = instruction_at source.function g.function source.is guard.item (Guard g.condition g.abort_to) g.is_item in
      ap (λ o. is_guard (slice_get (items_of o) guard.item)) source.there
      ∙ (ap is_guard instr.1 ∙ (sym (item_guard source.function instr.0) ∙ ap is_slot_guard (sym instr.2)))

  each_guard : (f i : ℕ) → IsTrue (is_guard (item_at p f i)) → (k : ℕ) × (guard : GuardAt) × (slice_get image.guards k ≡ Some guard) × (guard.func ≡ f) × (guard.item ≡ i)
  each_guard f i e = by_function (slice_get p.funcs f) refl
    where
      by_item : (func : Func) → slice_get p.funcs f ≡ Some func → (o : Option Instr) → slice_get func.code i ≡ o → (k : ℕ) × (guard : GuardAt) × (slice_get image.guards k ≡ Some guard) × (guard.func ≡ f) × (guard.item ≡ i)
      by_item func there None here = absurd (false≢true (sym (ap (λ x. is_guard (slice_get (items_of x) i)) there ∙ ap is_guard here) ∙ e))
      by_item func there (Some item) here =
          let g = lowered_at p slots lowered f func there in
          let at : slice_get g.function.code i ≡ Some (lowered_item func item) = ap (λ code. slice_get code i) g.is.code ∙ (slice_get-map (lowered_item func) func.code i ∙ ap (option_map (lowered_item func)) here) in
          let guarding = slot_guard (lowered_item func item) (item_guard func item ∙ (sym (ap (λ x. is_guard (slice_get (items_of x) i)) there ∙ ap is_guard here) ∙ e)) in
          let is_item : slice_get g.function.code i ≡ Some (Guard guarding.0 guarding.1) = at ∙ ap Some guarding.2 in
          let word = entry_at homes slots f i + guard_front_size (homes f) g.function i guarding.0 guarding.1 in
          let own : GuardAt = record { word = word; func = f; item = i } in
          let own_is : IsGuardAt homes slots own = record { function = g.function; condition = guarding.0; abort_to = guarding.1; is_function = g.there; is_item = is_item; is_word = refl } in
          let found = marked_entry image.guards word (laid.items f g.function i (Guard guarding.0 guarding.1) g.there is_item).1.is_guard in
          let same : found.1 ≡ own = laid.apart found.1 own (laid.guards found.0 found.1 found.2) own_is found.3 in
          (found.0, found.1, found.2, ap (λ x. x.func) same, ap (λ x. x.item) same)

      by_function : (o : Option Func) → slice_get p.funcs f ≡ o → (k : ℕ) × (guard : GuardAt) × (slice_get image.guards k ≡ Some guard) × (guard.func ≡ f) × (guard.item ≡ i)
      by_function None there = absurd (false≢true (sym (ap (λ x. is_guard (slice_get (items_of x) i)) there) ∙ e))
      by_function (Some func) there = by_item func there (slice_get func.code i) refl

  pub lists_guards : ListsGuards image.guards p
  lists_guards = record {
    are = are_guards;
    each = each_guard;
    in_order = λ g h a b less at_a at_b. guards_in_order homes slots g h a b less (ap (λ xs. slice_get xs g) (sym laid.is.guards) ∙ at_a) (ap (λ xs. slice_get xs h) (sym laid.is.guards) ∙ at_b);
  }
