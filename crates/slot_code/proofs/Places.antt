-- The slots of a function at their numbers, and at each place of their list a slot of that number.
use Rattle.std.proofs.Common.{◌≡◌, ℕ, zero, suc, ◌+◌, ◌-◌, ◌<◌, ◌≤◌, ◌⊎◌, inl, inr, Bool, true, false, cond, List, [], ◌∷◌, ◌++◌, length, map, get_or, slice_get, Some, add-zero, zero-add, refl, sym, ap, ◌∙◌, subst, arith}
use Rattle.std.specs.List.{filter, range_with_len}
use Rattle.std.proofs.lemmas.List.FromFn.{get_or-map-range_with_len, length-map-range_with_len}
use Rattle.std.proofs.lemmas.Option.{same_Some, slice_get-get_or}
use Rattle.bril_tree.specs.declared.numbered_function.Func.{Func}
use Rattle.slot_code.specs.declared.item.Slot.{Slot}
use Rattle.slot_code.specs.declared.item.Slot.TheVariants.{Variable, Shadow}
use Rattle.slot_code.specs.declared.slots.SlotFunction.{SlotFunction}
use Rattle.slot_code.specs.Laws.{IsSlotOf}
use Rattle.slot_code.specs.Lowered.{IsLoweredFunction}
use Rattle.slot_code.specs.Numbering.{is_used, passes, shadow_number, slot_number, slots_in}

in_front : (xs ys : List Slot) (k : ℕ) → k < length xs → slice_get (xs ++ ys) k ≡ slice_get xs k
in_front [] ys k less = absurd (omega arith)
in_front (x ∷ xs) ys zero less = refl
in_front (x ∷ xs) ys (suc k) less = in_front xs ys k (omega arith)

after_front : (xs ys : List Slot) (k : ℕ) → slice_get (xs ++ ys) (length xs + k) ≡ slice_get ys k
after_front [] ys k = ap (slice_get ys) (zero-add k)
after_front (x ∷ xs) ys k = let e : suc (length xs) + k ≡ suc (length xs + k) = omega arith in ap (slice_get (x ∷ (xs ++ ys))) e ∙ after_front xs ys k

variable_at : (n x : ℕ) (rest : List Slot) → x < n → slice_get (map Variable (range_with_len 0 n) ++ rest) x ≡ Some (Variable x)
variable_at n x rest less =
    let variables = map Variable (range_with_len 0 n) in
    let inside : x < length variables = subst (λ k. x < k) (sym (length-map-range_with_len Variable 0 n)) less in
    in_front variables rest x inside ∙ slice_get-get_or variables x (Variable 0) inside
    ∙ ap Some (get_or-map-range_with_len Variable 0 n x x (Variable 0) less (zero-add x))

module _ (test : ℕ → Bool) where
  shadow_at : (a n k : ℕ) → k < n → test (a + k) ≡ true →
      slice_get (filter (passes test) (map Shadow (range_with_len a n))) (length (filter (passes test) (map Shadow (range_with_len a k)))) ≡ Some (Shadow (a + k))
  shadow_at a zero k less so = absurd (omega arith)
  shadow_at a (suc n) zero less so =
      ap (λ b. slice_get (cond b (Shadow a ∷ filter (passes test) (map Shadow (range_with_len (a + 1) n))) (filter (passes test) (map Shadow (range_with_len (a + 1) n)))) 0) (ap test (sym (add-zero a)) ∙ so)
      ∙ ap (λ m. Some (Shadow m)) (sym (add-zero a))
  shadow_at a (suc n) (suc k) less so =
      let e : a + 1 + k ≡ a + suc k = omega arith in
      by (test a) (shadow_at (a + 1) n k (omega arith) (ap test e ∙ so)) ∙ ap (λ m. Some (Shadow m)) e
    where
      by : (b : Bool) → slice_get (filter (passes test) (map Shadow (range_with_len (a + 1) n))) (length (filter (passes test) (map Shadow (range_with_len (a + 1) k)))) ≡ Some (Shadow (a + 1 + k)) →
          slice_get (cond b (Shadow a ∷ filter (passes test) (map Shadow (range_with_len (a + 1) n))) (filter (passes test) (map Shadow (range_with_len (a + 1) n))))
          (length (cond b (Shadow a ∷ filter (passes test) (map Shadow (range_with_len (a + 1) k))) (filter (passes test) (map Shadow (range_with_len (a + 1) k))))) ≡ Some (Shadow (a + 1 + k))
      by true h = h
      by false h = h

  shadow_place : (n x : ℕ) → x < n → test x ≡ true → slice_get (slots_in n test) (shadow_number n test x) ≡ Some (Shadow x)
  shadow_place n x less so =
      let variables = map Variable (range_with_len 0 n) in
      let shadows = filter (passes test) (map Shadow (range_with_len 0 n)) in
      ap (λ k. slice_get (variables ++ shadows) (k + length (filter (passes test) (map Shadow (range_with_len 0 x))))) (sym (length-map-range_with_len Variable 0 n))
      ∙ after_front variables shadows (length (filter (passes test) (map Shadow (range_with_len 0 x))))
      ∙ shadow_at 0 n x less (ap test (zero-add x) ∙ so)
      ∙ ap (λ m. Some (Shadow m)) (zero-add x)

pub slot_place : (f : Func) (g : SlotFunction) → IsLoweredFunction f g → (slot : Slot) → IsSlotOf g slot → slice_get g.slots (slot_number g.shadow_numbers slot) ≡ Some slot
slot_place f g is (Variable x) less =
    ap (λ l. slice_get l x) is.slots ∙ variable_at g.variables x (filter (passes (is_used g.code)) (map Shadow (range_with_len 0 g.variables))) less
slot_place f g is (Shadow x) (less, so) =
    ap (λ l. slice_get l (get_or g.shadow_numbers x 0)) is.slots
    ∙ ap (λ k. slice_get (slots_in g.variables (is_used g.code)) k)
    (ap (λ l. get_or l x 0) is.shadow_numbers ∙ get_or-map-range_with_len (shadow_number g.variables (is_used g.code)) 0 g.variables x x 0 less (zero-add x))
    ∙ shadow_place (is_used g.code) g.variables x less so

-- ---- the slot at a place

-- the slot is the shadow of a variable among n from a on that passes the test, with m such before it
record ShadowAt (test : ℕ → Bool) (a n m : ℕ) (s : Slot) : Type 0 where
  k : ℕ
  less : k < n
  is : s ≡ Shadow (a + k)
  so : test (a + k) ≡ true
  count : length (filter (passes test) (map Shadow (range_with_len a k))) ≡ m

none_at : (k : ℕ) (s : Slot) → slice_get [] k ≡ Some s → ⊥
none_at zero s e = cc
none_at (suc k) s e = cc

module _ (test : ℕ → Bool) where
  -- one variable more in front
  one_more : (b : Bool) (a n m : ℕ) (s : Slot) → test a ≡ b → ShadowAt test (a + 1) n m s → ShadowAt test a (suc n) (cond b (suc m) m) s
  one_more b a n m s e w =
      let at : a + 1 + w.k ≡ a + suc w.k = omega arith in
      record {
        k = suc w.k;
        less = (let l = w.less in omega arith);
        is = w.is ∙ ap Shadow at;
        so = ap test (sym at) ∙ w.so;
        count = ap (λ t. length (cond t (Shadow a ∷ later) later)) e ∙ by b;
      }
    where
      later : List Slot
      later = filter (passes test) (map Shadow (range_with_len (a + 1) w.k))

      by : (t : Bool) → length (cond t (Shadow a ∷ later) later) ≡ cond t (suc m) m
      by true = ap suc w.count
      by false = w.count

  shadow_found : (a n m : ℕ) (s : Slot) → slice_get (filter (passes test) (map Shadow (range_with_len a n))) m ≡ Some s → ShadowAt test a n m s
  shadow_found a zero m s there = absurd (none_at m s there)
  shadow_found a (suc n) m s there = by (λ k h. shadow_found (a + 1) n k s h) (test a) m refl there
    where
      later : List Slot
      later = filter (passes test) (map Shadow (range_with_len (a + 1) n))

      by : ((k : ℕ) → slice_get later k ≡ Some s → ShadowAt test (a + 1) n k s) → (b : Bool) (m : ℕ) → test a ≡ b → slice_get (cond b (Shadow a ∷ later) later) m ≡ Some s → ShadowAt test a (suc n) m s
      by rest true zero e there =
          record { k = 0; less = omega arith; is = sym (same_Some (Shadow a) s there) ∙ ap Shadow (sym (add-zero a)); so = ap test (add-zero a) ∙ e; count = refl }
      by rest true (suc m) e there = one_more true a n m s e (rest m there)
      by rest false m e there = one_more false a n m s e (rest m there)

below_or_not : (k n : ℕ) → (k < n) ⊎ (n ≤ k)
below_or_not k n = grind arith

pub slots_are_numbered : (f : Func) (g : SlotFunction) → IsLoweredFunction f g → (k : ℕ) (slot : Slot) → slice_get g.slots k ≡ Some slot → IsSlotOf g slot × (slot_number g.shadow_numbers slot ≡ k)
slots_are_numbered f g is k slot there = by (below_or_not k g.variables)
  where
    variables : List Slot
    variables = map Variable (range_with_len 0 g.variables)

    shadows : List Slot
    shadows = filter (passes (is_used g.code)) (map Shadow (range_with_len 0 g.variables))

    here : slice_get (variables ++ shadows) k ≡ Some slot
    here = ap (λ l. slice_get l k) (sym is.slots) ∙ there

    numbered : Slot → Type 0
    numbered s = IsSlotOf g s × (slot_number g.shadow_numbers s ≡ k)

    by : (k < g.variables) ⊎ (g.variables ≤ k) → IsSlotOf g slot × (slot_number g.shadow_numbers slot ≡ k)
    by (inl less) = subst numbered (same_Some (Variable k) slot (sym (variable_at g.variables k shadows less) ∙ here)) (less, refl)
    by (inr le) =
        let long : length variables ≡ g.variables = length-map-range_with_len Variable 0 g.variables in
        let at : length variables + (k - g.variables) ≡ k = omega arith in
        let w = shadow_found (is_used g.code) 0 g.variables (k - g.variables) slot (sym (after_front variables shadows (k - g.variables)) ∙ (ap (slice_get (variables ++ shadows)) at ∙ here)) in
        let x : 0 + w.k ≡ w.k = zero-add w.k in
        let number : slot_number g.shadow_numbers (Shadow w.k) ≡ k =
        ap (λ l. get_or l w.k 0) is.shadow_numbers ∙ (get_or-map-range_with_len (shadow_number g.variables (is_used g.code)) 0 g.variables w.k w.k 0 w.less x ∙ (let c = w.count in omega arith)) in
        subst numbered (sym (w.is ∙ ap Shadow x)) ((w.less, ap (is_used g.code) (sym x) ∙ w.so), number)
