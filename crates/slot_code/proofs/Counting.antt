-- A function has as many slots as locations.
use Rattle.std.proofs.Common.{◌≡◌, ℕ, ◌+◌, ◌||◌, Bool, true, false, cond, List, [], ◌∷◌, length, map, Option, Some, None, length-append, refl, sym, ap, ◌∙◌, arith}
use Rattle.std.specs.List.{count_by, filter, list_any, range_with_len}
use Rattle.std.proofs.Math.Bool.{or-false}
use Rattle.std.proofs.lemmas.List.FromFn.{length-map-range_with_len}
use Rattle.std.proofs.lemmas.List.Sums.{sum_by-cons}
use Rattle.bril_tree.specs.declared.numbered.Instr.{Instr}
use Rattle.bril_tree.specs.declared.numbered.Instr.TheVariants.{Label, Const, Act}
use Rattle.bril_tree.specs.declared.numbered_function.Func.{Func}
use Rattle.bril_tree.specs.declared.operation.Op.{Op}
use Rattle.bril_tree.specs.declared.operation.Op.TheVariants as op
use Rattle.bril_tree.specs.declared.types.Ty.{Ty}
use Rattle.bril_tree.specs.FrameWords.{location_count, names_shadow, operation_names_shadow}
use Rattle.slot_code.specs.declared.item.Slot.{Slot}
use Rattle.slot_code.specs.declared.item.Slot.TheVariants.{Variable, Shadow}
use Rattle.slot_code.specs.Lowered.{lowered_action, lowered_item}
use Rattle.slot_code.specs.Numbering.{is_used, passes, shadow_number, slots_in, uses_shadow}

-- ---- lists that are made from marks

module _ (variables : ℕ) (test : ℕ → Bool) (marks : List Bool) (are : marks ≡ map test (range_with_len 0 variables)) where
  long : length marks ≡ variables
  long = ap length are ∙ length-map-range_with_len test 0 variables

  marked : marks ≡ map test (range_with_len 0 (length marks))
  marked = are ∙ ap (λ n. map test (range_with_len 0 n)) (sym long)

  pub slots_are : (slots : List Slot) → ((t : ℕ → Bool) → marks ≡ map t (range_with_len 0 (length marks)) → slots ≡ slots_in (length marks) t) → slots ≡ slots_in variables test
  slots_are slots h = h test marked ∙ ap (λ n. slots_in n test) long

  pub numbers_are : (numbers : List ℕ) → ((t : ℕ → Bool) → marks ≡ map t (range_with_len 0 (length marks)) → numbers ≡ map (shadow_number (length marks) t) (range_with_len 0 (length marks))) → numbers ≡ map (shadow_number variables test) (range_with_len 0 variables)
  numbers_are numbers h = h test marked ∙ ap (λ n. map (shadow_number n test) (range_with_len 0 n)) long

-- ---- an item uses the shadows that it used

module _ (f : Func) (x : ℕ) where
  action_uses : (operation : Op) (dest : Option ℕ) (ty : Option Ty) (args funcs labels : List ℕ) → uses_shadow x (lowered_action f operation dest ty args funcs labels) ≡ operation_names_shadow x operation dest args
  action_uses op.Get None ty args funcs labels = refl
  action_uses op.Get (Some y) ty args funcs labels = refl
  action_uses op.Set dest ty args funcs labels = or-false _
  action_uses op.Undef (Some y) None args funcs labels = refl
  action_uses op.Undef (Some y) (Some type) args funcs labels = refl
  action_uses _ None ty args funcs labels = refl
  action_uses _ (Some y) ty args funcs labels = refl

  item_uses : (item : Instr) → uses_shadow x (lowered_item f item) ≡ names_shadow x item
  item_uses (Label l) = refl
  item_uses (Const dest ty value) = refl
  item_uses (Act dest ty operation args funcs labels) = action_uses operation dest ty args funcs labels

  pub code_uses : (items : List Instr) → is_used (map (lowered_item f) items) x ≡ list_any (names_shadow x) items
  code_uses [] = refl
  code_uses (item ∷ items) = ap (λ b. b || is_used (map (lowered_item f) items) x) (item_uses item) ∙ ap (λ b. names_shadow x item || b) (code_uses items)

-- ---- counts

kept : (test names : ℕ → Bool) → ((x : ℕ) → test x ≡ names x) → (xs : List ℕ) → length (filter (passes test) (map Shadow xs)) ≡ count_by names xs
kept test names same [] = refl
kept test names same (x ∷ xs) =
    by (filter (passes test) (map Shadow xs)) (test x)
    ∙ ap (λ b. cond b 1 0 + length (filter (passes test) (map Shadow xs))) (same x)
    ∙ ap (λ n. cond (names x) 1 0 + n) (kept test names same xs)
    ∙ sym (sum_by-cons (λ y. cond (names y) 1 0) x xs)
  where
    by : (slots : List Slot) (b : Bool) → length (cond b (Shadow x ∷ slots) slots) ≡ cond b 1 0 + length slots
    by slots true = omega arith
    by slots false = omega arith

pub as_many_slots : (f : Func) → length (slots_in (length f.vars) (is_used (map (lowered_item f) f.code))) ≡ location_count f
as_many_slots f =
    let n = length f.vars in
    let test = is_used (map (lowered_item f) f.code) in
    length-append (map Variable (range_with_len 0 n)) (filter (passes test) (map Shadow (range_with_len 0 n)))
    ∙ ap (λ k. k + length (filter (passes test) (map Shadow (range_with_len 0 n)))) (length-map-range_with_len Variable 0 n)
    ∙ ap (λ k. n + k) (kept test (λ x. list_any (names_shadow x) f.code) (λ x. code_uses f x f.code) (range_with_len 0 n))
