-- The slots of a function and their numbers, one by one.
use Rattle.std.proofs.Common.{◌≡◌, ℕ, ◌+◌, ◌<◌, ◌≤◌, Bool, true, false, cond, List, [], ◌∷◌, ◌++◌, length, map, get_or, append_assoc, zero-add, length-append, sym, ap, ◌∙◌, arith}
use Rattle.std.specs.List.{filter, range_with_len}
use Rattle.std.proofs.lemmas.List.FromFn.{get_or-map-range_with_len, map-range_with_len_more, filter_of_map_range_with_len_more}
use Rattle.slot_code.specs.declared.item.Slot.{Slot}
use Rattle.slot_code.specs.declared.item.Slot.TheVariants.{Variable, Shadow}
use Rattle.slot_code.specs.Numbering.{passes, shadow_number}

-- ---- the loops that list them

pub next_variable : (x : ℕ) (first slots more : List Slot) → more ≡ slots ++ Variable x ∷ [] → slots ≡ first ++ map Variable (range_with_len 0 x) → more ≡ first ++ map Variable (range_with_len 0 (x + 1))
next_variable x first slots more pushed so_far =
    pushed ∙ ap (λ s. s ++ Variable x ∷ []) so_far
    ∙ append_assoc first (map Variable (range_with_len 0 x)) (Variable x ∷ [])
    ∙ ap (λ s. first ++ s) (sym (map-range_with_len_more Variable 0 x x (zero-add x)))

module _ (test : ℕ → Bool) where
  abbrev Marks : List Bool → Type 0
  Marks marks = marks ≡ map test (range_with_len 0 (length marks))

  marks_at : (marks : List Bool) → Marks marks → (x : ℕ) → x < length marks → get_or marks x false ≡ test x
  marks_at marks are x less = ap (λ l. get_or l x false) are ∙ get_or-map-range_with_len test 0 (length marks) x x false less (zero-add x)

  pub next_shadow : (marks : List Bool) → Marks marks → (x : ℕ) (first slots more : List Slot) → x < length marks → more ≡ slots ++ cond (get_or marks x false) (Shadow x ∷ []) [] →
      slots ≡ first ++ filter (passes test) (map Shadow (range_with_len 0 x)) → more ≡ first ++ filter (passes test) (map Shadow (range_with_len 0 (x + 1)))
  next_shadow marks are x first slots more less pushed so_far =
      pushed ∙ ap (λ s. s ++ cond (get_or marks x false) (Shadow x ∷ []) []) so_far
      ∙ append_assoc first (filter (passes test) (map Shadow (range_with_len 0 x))) (cond (get_or marks x false) (Shadow x ∷ []) [])
      ∙ ap (λ b. first ++ (filter (passes test) (map Shadow (range_with_len 0 x)) ++ cond b (Shadow x ∷ []) [])) (marks_at marks are x less)
      ∙ ap (λ s. first ++ s) (sym (filter_of_map_range_with_len_more (passes test) Shadow 0 x x (zero-add x)))

  -- the number of the next shadow
  number_next : (variables x : ℕ) → shadow_number variables test (x + 1) ≡ shadow_number variables test x + cond (test x) 1 0
  number_next variables x =
      ap (λ s. variables + length s) (filter_of_map_range_with_len_more (passes test) Shadow 0 x x (zero-add x))
      ∙ by (filter (passes test) (map Shadow (range_with_len 0 x))) (test x)
    where
      by : (s : List Slot) (b : Bool) → variables + length (s ++ cond b (Shadow x ∷ []) []) ≡ variables + length s + cond b 1 0
      by s true = let e = length-append s (Shadow x ∷ []) in omega arith
      by s false = let e = length-append s [] in omega arith

  pub next_number : (marks : List Bool) → Marks marks → (x next after : ℕ) → x < length marks → after ≡ next + cond (get_or marks x false) 1 0 →
      next ≡ shadow_number (length marks) test x → after ≡ shadow_number (length marks) test (x + 1)
  next_number marks are x next after less counted so_far =
      counted ∙ ap (λ n. n + cond (get_or marks x false) 1 0) so_far ∙ ap (λ b. shadow_number (length marks) test x + cond b 1 0) (marks_at marks are x less) ∙ sym (number_next (length marks) x)

  pub next_numbers : (variables x next : ℕ) (numbers more : List ℕ) → more ≡ numbers ++ next ∷ [] → next ≡ shadow_number variables test x → numbers ≡ map (shadow_number variables test) (range_with_len 0 x) → more ≡ map (shadow_number variables test) (range_with_len 0 (x + 1))
  next_numbers variables x next numbers more pushed is so_far =
      pushed ∙ ap (λ l. l ++ next ∷ []) so_far ∙ ap (λ n. map (shadow_number variables test) (range_with_len 0 x) ++ n ∷ []) is
      ∙ sym (map-range_with_len_more (shadow_number variables test) 0 x x (zero-add x))

pub next_few : (bound next x after : ℕ) (mark : Bool) → after ≡ next + cond mark 1 0 → next ≤ bound + x → after ≤ bound + (x + 1)
next_few bound next x after true e h = omega arith
next_few bound next x after false e h = omega arith
