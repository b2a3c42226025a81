-- The homes of a function's slots.
use Rattle.std.proofs.Common.{◌≡◌, ◌≢◌, ◌⊎◌, inl, inr, ⊎_elim, ℕ, ◌+◌, ◌<◌, ◌≤◌, true, false, List, length, map, get_or, Some, refl, sym, ap, ◌∙◌, subst, arith}
use Rattle.std.specs.Prelude.{◌==◌, IsTrue, if◌then◌else◌, nat_lt, option_map, slice_get, slice_index}
use Rattle.std.specs.List.{range_with_len}
use Rattle.std.proofs.lemmas.Bool.{cases_eq, cases_lt, ne_eqb}
use Rattle.std.proofs.lemmas.Bool.Decides.{nat_tests}
use Rattle.std.proofs.lemmas.List.{get_or_past}
use Rattle.std.proofs.lemmas.List.FromFn.{get_or-map-range_with_len, length-map-range_with_len}
use Rattle.std.proofs.lemmas.Option.{slice_get-get_or, slice_get-map, slice_get_within}
use Rattle.bril_tree.specs.declared.home.Home.TheVariants.{Reg, Frame}
use Rattle.bril_tree.specs.declared.numbered_function.Func.{Func}
use Rattle.bril_tree.specs.FrameWords.{frame_head}
use Rattle.bril_tree.specs.Home.{is_home_register}
use Rattle.bril_tree.specs.Operand.{Location, Variable, Shadow}
use Rattle.slot_code.specs.declared.slots.SlotFunction.{SlotFunction}
use Rattle.slot_code.specs.Lowered.{IsLoweredFunction}
use Rattle.slot_code.proofs.Places.{slot_place}
use Rattle.placement_laws.specs.Homes.{IsHomeOf, IsInRegister, IsSlotIn, number_in, slot_of}
use Rattle.shadow_place.specs.declared.placed.FunctionHomes.{FunctionHomes}
use Rattle.shadow_place.specs.Registers.{AreHomeRegisters, AreOwnRegisters, home_from, home_register, own_register}
use Rattle.shadow_place.specs.Tables.{home_if, home_of}

-- ---- registers

pub home_registers_one : (m n : ℕ) → m < 23 → n < 23 → home_register m ≡ home_register n → m ≡ n
home_registers_one m n a b e = grind (arith, nat_tests)

pub home_register_is : (n : ℕ) → n < 23 → IsTrue (is_home_register (home_register n))
home_register_is n less = grind (arith, nat_tests)

pub home_register_some : (n : ℕ) → n < 23 → home_register n ≢ 0
home_register_some n less e = grind (arith, nat_tests)

own_first : (slot : ℕ) → slot < 23 → own_register slot ≡ home_register slot
own_first slot less = let t : nat_lt slot 23 ≡ true = grind (arith, nat_tests) in ap (λ b. if b then home_register slot else 0) t

own_past : (slot : ℕ) → 23 ≤ slot → own_register slot ≡ 0
own_past slot more = let t : nat_lt slot 23 ≡ false = grind (arith, nat_tests) in ap (λ b. if b then home_register slot else 0) t

module _ (slots : ℕ) (registers : List ℕ) (are : registers ≡ map own_register (range_with_len 0 slots)) where
  inside : (slot : ℕ) → slot < slots → slice_index registers slot ≡ own_register slot
  inside slot less = ap (λ l. get_or l slot 0) are ∙ get_or-map-range_with_len own_register 0 slots slot slot 0 less (omega arith)

  outside : (slot : ℕ) → slots ≤ slot → slice_index registers slot ≡ 0
  outside slot more = ap (λ l. get_or l slot 0) are ∙ get_or_past (map own_register (range_with_len 0 slots)) slot 0 (let long = length-map-range_with_len own_register 0 slots in omega arith)

  -- a slot with a register is one of the first
  has_register : (slot : ℕ) → slice_index registers slot ≢ 0 → (slot < 23) × (slice_index registers slot ≡ home_register slot)
  has_register slot some = ⊎_elim here (λ more. absurd (some (outside slot more))) (cases_lt slot slots)
    where
      here : slot < slots → (slot < 23) × (slice_index registers slot ≡ home_register slot)
      here less = ⊎_elim (λ few. (few, inside slot less ∙ own_first slot few)) (λ more. absurd (some (inside slot less ∙ own_past slot more))) (cases_lt slot 23)

  pub own_are_homes : AreHomeRegisters registers
  own_are_homes slot some = let h = has_register slot some in (subst (λ r. IsTrue (is_home_register r)) (sym h.1) (home_register_is slot h.0), (let less = h.0 in omega arith))

  pub own_are_own : AreOwnRegisters registers
  own_are_own j k some same =
      let a = has_register j some in
      let b = has_register k (λ e. some (same ∙ e)) in
      home_registers_one j k a.0 b.0 (sym a.1 ∙ (same ∙ b.1))

  pub few_have_registers : slots ≤ 23 → (slot : ℕ) → slot < slots → slice_index registers slot ≢ 0
  few_have_registers few slot less e = let low : slot < 23 = omega arith in home_register_some slot low (sym (inside slot less ∙ own_first slot low) ∙ e)

-- ---- homes

module _ (registers : List ℕ) where
  in_frame : (slot : ℕ) → slice_index registers slot ≡ 0 → home_from registers slot ≡ Frame (frame_head + slot)
  in_frame slot none = let t : (slice_index registers slot == 0) ≡ true = grind (arith, nat_tests) in ap (λ b. if b then Frame (frame_head + slot) else Reg (slice_index registers slot)) t

  in_register : (slot : ℕ) → slice_index registers slot ≢ 0 → home_from registers slot ≡ Reg (slice_index registers slot)
  in_register slot some = ap (λ b. if b then Frame (frame_head + slot) else Reg (slice_index registers slot)) (ne_eqb (slice_index registers slot) 0 some)

  -- two slots of one home have one register, or are one
  pub home_shared : (j k : ℕ) → home_from registers j ≡ home_from registers k → (j ≡ k) ⊎ ((slice_index registers j ≢ 0) × (slice_index registers j ≡ slice_index registers k))
  home_shared j k same = by (cases_eq (slice_index registers j) 0) (cases_eq (slice_index registers k) 0)
    where
      frames : (m n : ℕ) → Frame (frame_head + m) ≡ Frame (frame_head + n) → m ≡ n
      frames m n e = let same : frame_head + m ≡ frame_head + n = cc in omega arith

      mixed : (m n : ℕ) → Frame m ≡ Reg n → ⊥
      mixed m n e = cc

      registers_same : (m n : ℕ) → Reg m ≡ Reg n → m ≡ n
      registers_same m n e = cc

      by : (slice_index registers j ≡ 0) ⊎ (slice_index registers j ≢ 0) → (slice_index registers k ≡ 0) ⊎ (slice_index registers k ≢ 0) → (j ≡ k) ⊎ ((slice_index registers j ≢ 0) × (slice_index registers j ≡ slice_index registers k))
      by (inl a) (inl b) = inl (frames j k (sym (in_frame j a) ∙ (same ∙ in_frame k b)))
      by (inl a) (inr b) = absurd (mixed (frame_head + j) (slice_index registers k) (sym (in_frame j a) ∙ (same ∙ in_register k b)))
      by (inr a) (inl b) = absurd (mixed (frame_head + k) (slice_index registers j) (sym (in_frame k b) ∙ (sym same ∙ in_register j a)))
      by (inr a) (inr b) = inr (a, registers_same (slice_index registers j) (slice_index registers k) (sym (in_register j a) ∙ (same ∙ in_register k b)))

module _ (f : Func) (g : SlotFunction) (is : IsLoweredFunction f g) (registers : List ℕ) (homes : FunctionHomes) (variables : homes.variables.items ≡ map (home_from registers) (range_with_len 0 g.variables)) (shadows : homes.shadows.items ≡ map (home_from registers) g.shadow_numbers) where
  -- the home of a slot is that of its number
  pub home_is : (x : Location) → IsSlotIn g x → home_of homes x ≡ home_from registers (number_in g x)
  home_is (Variable x) less = ap home_if (ap (λ l. slice_get l x) variables ∙ found)
    where
      found : slice_get (map (home_from registers) (range_with_len 0 g.variables)) x ≡ Some (home_from registers x)
      found =
          slice_get-get_or (map (home_from registers) (range_with_len 0 g.variables)) x (Frame 0) (let long = length-map-range_with_len (home_from registers) 0 g.variables in let l : x < g.variables = less in omega arith)
          ∙ ap Some (get_or-map-range_with_len (home_from registers) 0 g.variables x x (Frame 0) less (omega arith))
  home_is (Shadow x) h = ap home_if (ap (λ l. slice_get l x) shadows ∙ (slice_get-map (home_from registers) g.shadow_numbers x ∙ ap (option_map (home_from registers)) (slice_get-get_or g.shadow_numbers x 0 inside_numbers)))
    where
      inside_numbers : x < length g.shadow_numbers
      inside_numbers = let l : x < g.variables = h.0 in let long : length g.shadow_numbers ≡ g.variables = ap length is.shadow_numbers ∙ length-map-range_with_len _ 0 g.variables in omega arith

  pub homes_are_own : AreHomeRegisters registers → (x : Location) → IsSlotIn g x → IsHomeOf g x (home_of homes x)
  homes_are_own are x in_g = subst (IsHomeOf g x) (sym (home_is x in_g)) (by (cases_eq (slice_index registers (number_in g x)) 0))
    where
      by : (slice_index registers (number_in g x) ≡ 0) ⊎ (slice_index registers (number_in g x) ≢ 0) → IsHomeOf g x (home_from registers (number_in g x))
      by (inl none) = subst (IsHomeOf g x) (sym (in_frame registers (number_in g x) none)) refl
      by (inr some) = subst (IsHomeOf g x) (sym (in_register registers (number_in g x) some)) (are (number_in g x) some)

  pub homes_in_registers : AreHomeRegisters registers → ((slot : ℕ) → slot < length g.slots → slice_index registers slot ≢ 0) → (x : Location) → IsSlotIn g x → IsInRegister (home_of homes x)
  homes_in_registers are some x in_g =
      let below = slice_get_within g.slots (number_in g x) (slot_of x) (slot_place f g is (slot_of x) in_g) in
      let here = some (number_in g x) below in
      subst IsInRegister (sym (home_is x in_g ∙ in_register registers (number_in g x) here)) (are (number_in g x) here).0
