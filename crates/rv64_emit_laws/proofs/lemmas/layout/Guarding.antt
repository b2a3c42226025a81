-- The words of guards: each is the last word of its item, and no other word is one.
use Rattle.std.proofs.Common.{◌≡◌, ℕ, zero, suc, ◌+◌, ◌<◌, ◌≤◌, ◌⊎◌, inl, inr, ⊎_elim, Bool, true, false, ◌||◌, eqb, List, [], ◌∷◌, ◌++◌, length, Option, Some, None, refl, sym, ap, subst, arith, ◌∙◌}
use Rattle.std.specs.Prelude.{slice_get}
use Rattle.std.proofs.lemmas.Bool.{eqb-true, false≢true}
use Rattle.std.proofs.lemmas.Bool.Decides.{nat_tests}
use Rattle.std.proofs.lemmas.Option.{slice_get_within, same_Some}
use Rattle.rv64_words.specs.declared.image.GuardAt.{GuardAt}
use Rattle.rv64_words.specs.Machine.{is_guard_word}
use Rattle.slot_code.specs.declared.item.SlotItem.{SlotItem}
use Rattle.slot_code.specs.declared.item.SlotItem.TheVariants.{Pass, Constant, Copy, Unary, Binary, Jump, Branch, Call, Return, Print, Alloc, Free, Store, Load, Speculate, Commit, Guard}
use Rattle.slot_code.specs.declared.slots.SlotFunction.{SlotFunction}
use Rattle.slot_code.specs.declared.slots.Slots.{Slots}
use Rattle.rv64_emit_laws.specs.layout.Homes.{FunctionHomes}
use Rattle.rv64_emit_laws.specs.layout.Image.{joined, size_or_none, size_at, words_before, function_size, function_size_or_none, start_at, entry_at, guard_or_none, guard_at, function_guards_or_none, function_guards_at, image_guards}
use Rattle.rv64_emit_laws.specs.layout.Items.{keep_way_size, item_size, guard_front_size}
use Rattle.rv64_emit_laws.specs.layout.Laid.{IsGuardAt}
use Rattle.rv64_emit_laws.proofs.lemmas.layout.Joining.{below_or, joined-most}
use Rattle.rv64_emit_laws.proofs.lemmas.layout.Placing.{entry_is, words_pass, starts_pass}

-- ---- what is in a list of joined lists

module _ {X : Type 0} (P : X → Type 0) where
  -- each element of a list has P
  abbrev pub Each : List X → Type 0
  Each [] = Unit {0}
  Each (x ∷ xs) = P x × Each xs

  pub each_of_both : (xs ys : List X) → Each xs → Each ys → Each (xs ++ ys)
  each_of_both [] ys front rest = rest
  each_of_both (x ∷ xs) ys front rest = (front.0, each_of_both xs ys front.1 rest)

  pub each_joined : (lists : ℕ → List X) → ((k : ℕ) → Each (lists k)) → (n : ℕ) → Each (joined lists n)
  each_joined lists all zero = tt
  each_joined lists all (suc n) = each_of_both (joined lists n) (lists n) (each_joined lists all n) (all n)

  pub each_at : (xs : List X) (k : ℕ) (x : X) → Each xs → slice_get xs k ≡ Some x → P x
  each_at [] k x all is = cc
  each_at (y ∷ xs) zero x all is = let same : y ≡ x = cc in subst P same all.0
  each_at (y ∷ xs) (suc k) x all is = each_at xs k x all.1 is

-- ---- the guards of the code

module _ (homes : ℕ → FunctionHomes) (slots : Slots) where
  guard_is : (f : ℕ) (g : SlotFunction) → slice_get slots.funcs f ≡ Some g → (point : ℕ) (o : Option SlotItem) → slice_get g.code point ≡ o → Each (IsGuardAt homes slots) (guard_or_none homes slots f g point o)
  guard_is f g is point None there = tt
  guard_is f g is point (Some Pass) there = tt
  guard_is f g is point (Some (Constant dest value)) there = tt
  guard_is f g is point (Some (Copy dest from)) there = tt
  guard_is f g is point (Some (Unary operation dest operand)) there = tt
  guard_is f g is point (Some (Binary operation dest first second)) there = tt
  guard_is f g is point (Some (Jump to)) there = tt
  guard_is f g is point (Some (Branch condition then_to else_to)) there = tt
  guard_is f g is point (Some (Call dest function args)) there = tt
  guard_is f g is point (Some (Return value)) there = tt
  guard_is f g is point (Some (Print args)) there = tt
  guard_is f g is point (Some (Alloc dest count)) there = tt
  guard_is f g is point (Some (Free pointer)) there = tt
  guard_is f g is point (Some (Store pointer value)) there = tt
  guard_is f g is point (Some (Load dest pointer)) there = tt
  guard_is f g is point (Some Speculate) there = tt
  guard_is f g is point (Some Commit) there = tt
  guard_is f g is point (Some (Guard condition abort_to)) there =
      (record { function = g; condition = condition; abort_to = abort_to; is_function = is; is_item = there; is_word = refl }, tt)

  function_guards : (f : ℕ) (o : Option SlotFunction) → slice_get slots.funcs f ≡ o → Each (IsGuardAt homes slots) (function_guards_or_none homes slots f o)
  function_guards f None is = tt
  function_guards f (Some g) is = each_joined (IsGuardAt homes slots) (guard_at homes slots f g) (λ point. guard_is f g is point (slice_get g.code point) refl) (length g.code)

  pub guards_are : Each (IsGuardAt homes slots) (image_guards homes slots)
  guards_are = each_joined (IsGuardAt homes slots) (function_guards_at homes slots) (λ f. function_guards f (slice_get slots.funcs f) refl) (length slots.funcs)

  -- ---- which item a word is in

  -- word k is one of those of the item at a point of function f
  pub record InItem (f point k : ℕ) : Type 0 where
    pub function : SlotFunction
    pub item : SlotItem
    pub is_function : slice_get slots.funcs f ≡ Some function
    pub is_item : slice_get function.code point ≡ Some item
    pub from : entry_at homes slots f point ≤ k
    pub to : k < entry_at homes slots f point + item_size (homes f) function point item

  -- a word of a function is in no other function
  pub same_function : (e f k : ℕ) (h g : SlotFunction) → slice_get slots.funcs e ≡ Some h → slice_get slots.funcs f ≡ Some g →
      start_at homes slots e ≤ k → k < start_at homes slots e + function_size (homes e) h → start_at homes slots f ≤ k → k < start_at homes slots f + function_size (homes f) g → e ≡ f
  same_function e f k h g is_e is_f from_e to_e from_f to_f = ⊎_elim (λ (same : e ≡ f). same) (λ w. ⊎_elim (λ (less : e < f). absurd (before e f h is_e less to_e from_f)) (λ (more : f < e). absurd (before f e g is_f more to_f from_e)) w) (order e f)
    where
      before : (a b : ℕ) (c : SlotFunction) → slice_get slots.funcs a ≡ Some c → a < b → k < start_at homes slots a + function_size (homes a) c → start_at homes slots b ≤ k → ⊥
      before a b c is less to from = let passes = starts_pass homes slots a b c is less in absurd (omega arith)

      order : (a b : ℕ) → (a ≡ b) ⊎ ((a < b) ⊎ (b < a))
      order zero zero = inl refl
      order zero (suc b) = inr (inl (omega arith))
      order (suc a) zero = inr (inr (omega arith))
      order (suc a) (suc b) = ⊎_elim (λ (same : a ≡ b). inl (ap suc same)) (λ w. inr (⊎_elim (λ (less : a < b). inl (omega arith)) (λ (more : b < a). inr (omega arith)) w)) (order a b)

  -- an item's words are words of its function
  pub in_function : (f point k : ℕ) (w : InItem f point k) →
      (start_at homes slots f + keep_way_size (homes f) ≤ k) × (k < start_at homes slots f + words_before (homes f) w.function (length w.function.code)) × (k < start_at homes slots f + function_size (homes f) w.function)
  in_function f point k w =
      let at = entry_is homes slots f w.function point w.is_function in
      let passes = words_pass (homes f) w.function point (length w.function.code) w.item w.is_item (slice_get_within w.function.code point w.item w.is_item) in
      let from = w.from in
      let to = w.to in
      (omega arith, omega arith, omega arith)

  -- a word is in one item at most
  pub one_item : (e p f q k : ℕ) → InItem e p k → InItem f q k → (e ≡ f) × (p ≡ q)
  one_item e p f q k v w =
      let inside_e = in_function e p k v in
      let inside_f = in_function f q k w in
      let same = same_function e f k v.function w.function v.is_function w.is_function (omega (arith, inside_e.0)) inside_e.2 (omega (arith, inside_f.0)) inside_f.2 in
      let here : slice_get slots.funcs f ≡ Some v.function = subst (λ n. slice_get slots.funcs n ≡ Some v.function) same v.is_function in
      let function = same_Some v.function w.function (sym here ∙ w.is_function) in
      (same, by e f same v.function w.function function q v.item w.item v.is_function w.is_function v.is_item w.is_item v.from v.to w.from w.to)
    where
      apart : (f p q : ℕ) (g : SlotFunction) (item : SlotItem) → slice_get slots.funcs f ≡ Some g → slice_get g.code p ≡ Some item →
          k < entry_at homes slots f p + item_size (homes f) g p item → entry_at homes slots f q ≤ k → q ≤ p
      apart f p q g item is_g is to from = ⊎_elim (λ (less : p < q). absurd (after less)) (λ (le : q ≤ p). le) (below_or p q)
        where
          after : p < q → ⊥
          after less =
              let passes = words_pass (homes f) g p q item is less in
              let here = entry_is homes slots f g p is_g in
              let there = entry_is homes slots f g q is_g in
              absurd (omega arith)

      by : (e f : ℕ) → e ≡ f → (h g : SlotFunction) → h ≡ g → (q : ℕ) (u x : SlotItem) → slice_get slots.funcs e ≡ Some h → slice_get slots.funcs f ≡ Some g → slice_get h.code p ≡ Some u → slice_get g.code q ≡ Some x →
          entry_at homes slots e p ≤ k → k < entry_at homes slots e p + item_size (homes e) h p u → entry_at homes slots f q ≤ k → k < entry_at homes slots f q + item_size (homes f) g q x → p ≡ q
      by e f same h g one q u x is_h is_g is_u is_x from_p to_p from_q to_q =
          let from_q_e : entry_at homes slots e q ≤ k = subst (λ n. entry_at homes slots n q ≤ k) (sym same) from_q in
          let from_p_f : entry_at homes slots f p ≤ k = subst (λ n. entry_at homes slots n p ≤ k) same from_p in
          let first = apart e p q h u is_h is_u to_p from_q_e in
          let second = apart f q p g x is_g is_x to_q from_p_f in
          omega arith

  -- a guard's word is the last of its item
  pub guard_in_item : (guard : GuardAt) → IsGuardAt homes slots guard → InItem guard.func guard.item guard.word
  guard_in_item guard is =
      let word = is.is_word in
      record { function = is.function; item = Guard is.condition is.abort_to; is_function = is.is_function; is_item = is.is_item; from = omega arith; to = omega arith }

  -- no two guards have one word
  pub guards_apart : (a b : GuardAt) → IsGuardAt homes slots a → IsGuardAt homes slots b → a.word ≡ b.word → a ≡ b
  guards_apart a b is_a is_b same =
      let there : InItem b.func b.item a.word = subst (λ k. InItem b.func b.item k) (sym same) (guard_in_item b is_b) in
      let places = one_item a.func a.item b.func b.item a.word (guard_in_item a is_a) there in
      equal a b same places.0 places.1
    where
      equal : (a b : GuardAt) → a.word ≡ b.word → a.func ≡ b.func → a.item ≡ b.item → a ≡ b
      equal a b word func item = λ i. record { word = word i; func = func i; item = item i }

  -- ---- which words are guards' words

  -- what has the word of a list
  found : (guards : List GuardAt) (k : ℕ) → Each (IsGuardAt homes slots) guards → is_guard_word guards k ≡ true → (guard : GuardAt) × IsGuardAt homes slots guard × (guard.word ≡ k)
  found [] k all h = absurd (false≢true h)
  found (guard ∷ guards) k all h = by (eqb guard.word k) refl h (found guards k all.1)
    where
      by : (t : Bool) → eqb guard.word k ≡ t → (t || is_guard_word guards k) ≡ true → (is_guard_word guards k ≡ true → (guard : GuardAt) × IsGuardAt homes slots guard × (guard.word ≡ k)) →
          (guard : GuardAt) × IsGuardAt homes slots guard × (guard.word ≡ k)
      by true e h later = (guard, all.0, eqb-true guard.word k e)
      by false e h later = later h

  -- where there is no guard's word
  pub plain : (k : ℕ) → ((guard : GuardAt) → IsGuardAt homes slots guard → guard.word ≡ k → ⊥) → is_guard_word (image_guards homes slots) k ≡ false
  plain k none = by (is_guard_word (image_guards homes slots) k) refl
    where
      by : (t : Bool) → is_guard_word (image_guards homes slots) k ≡ t → t ≡ false
      by true h = let w = found (image_guards homes slots) k guards_are h in absurd (none w.0 w.1 w.2)
      by false h = refl

  -- ---- a guard of the code is in the list

  in_first : (xs ys : List GuardAt) (k : ℕ) → is_guard_word xs k ≡ true → is_guard_word (xs ++ ys) k ≡ true
  in_first [] ys k h = absurd (false≢true h)
  in_first (x ∷ xs) ys k h = by (eqb x.word k) h (in_first xs ys k)
    where
      by : (t : Bool) → (t || is_guard_word xs k) ≡ true → (is_guard_word xs k ≡ true → is_guard_word (xs ++ ys) k ≡ true) → (t || is_guard_word (xs ++ ys) k) ≡ true
      by true h later = refl
      by false h later = later h

  in_second : (xs ys : List GuardAt) (k : ℕ) → is_guard_word ys k ≡ true → is_guard_word (xs ++ ys) k ≡ true
  in_second [] ys k h = h
  in_second (x ∷ xs) ys k h = by (eqb x.word k) (in_second xs ys k h)
    where
      by : (t : Bool) → is_guard_word (xs ++ ys) k ≡ true → (t || is_guard_word (xs ++ ys) k) ≡ true
      by true later = refl
      by false later = later

  in_joined : (lists : ℕ → List GuardAt) (n i k : ℕ) → i < n → is_guard_word (lists i) k ≡ true → is_guard_word (joined lists n) k ≡ true
  in_joined lists zero i k less h = absurd (omega arith)
  in_joined lists (suc n) i k less h = ⊎_elim (λ (before : i < n). in_first (joined lists n) (lists n) k (in_joined lists n i k before h))
      (λ (last : n ≤ i). in_second (joined lists n) (lists n) k (let same : i ≡ n = omega arith in subst (λ j. is_guard_word (lists j) k ≡ true) same h)) (below_or i n)

  pub guard_marked : (f : ℕ) (g : SlotFunction) (point condition abort_to : ℕ) → slice_get slots.funcs f ≡ Some g → slice_get g.code point ≡ Some (Guard condition abort_to) →
      is_guard_word (image_guards homes slots) (entry_at homes slots f point + guard_front_size (homes f) g point condition abort_to) ≡ true
  guard_marked f g point condition abort_to is there =
      in_joined (function_guards_at homes slots) (length slots.funcs) f word (slice_get_within slots.funcs f g is)
      (subst (λ o. is_guard_word (function_guards_or_none homes slots f o) word ≡ true) (sym is)
      (in_joined (guard_at homes slots f g) (length g.code) point word (slice_get_within g.code point (Guard condition abort_to) there)
      (subst (λ o. is_guard_word (guard_or_none homes slots f g point o) word ≡ true) (sym there) (ap (λ t. t || false) (itself word)))))
    where
      word : ℕ
      word = entry_at homes slots f point + guard_front_size (homes f) g point condition abort_to

      itself : (n : ℕ) → eqb n n ≡ true
      itself n = grind (arith, nat_tests)

  -- ---- how many guards there are

  -- an item has no more guards than words
  item_guards : (f : ℕ) (g : SlotFunction) (point : ℕ) (o : Option SlotItem) → length (guard_or_none homes slots f g point o) ≤ size_or_none (homes f) g point o
  item_guards f g point None = omega arith
  item_guards f g point (Some (Guard condition abort_to)) = omega arith
  item_guards f g point (Some _) = omega arith

  function_guards_few : (f : ℕ) (o : Option SlotFunction) → length (function_guards_or_none homes slots f o) ≤ function_size_or_none (homes f) o
  function_guards_few f None = omega arith
  function_guards_few f (Some g) = omega (arith, joined-most (guard_at homes slots f g) (size_at (homes f) g) (λ point. item_guards f g point (slice_get g.code point)) (length g.code))

  -- nor has the image
  pub guards_counted : length (image_guards homes slots) ≤ start_at homes slots (length slots.funcs)
  guards_counted =
      omega (arith, joined-most (function_guards_at homes slots) (λ k. function_size_or_none (homes k) (slice_get slots.funcs k)) (λ f. function_guards_few f (slice_get slots.funcs f)) (length slots.funcs))
