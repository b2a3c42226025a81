-- The moves of slots, one by one, and those of slots in registers.
use Rattle.std.proofs.Common.{◌≡◌, ℕ, zero, suc, ◌+◌, ◌^◌, ◌<◌, ◌≤◌, Bool, true, false, cond, List, [], ◌∷◌, ◌++◌, length, take, drop, map, get_or, Some, refl, sym, ap, ◌∙◌, arith, add-one, drop-cons, subst, Option}
use Rattle.std.specs.Prelude.{slice_get}
use Rattle.std.specs.List.{AllByRecursion}
use Rattle.std.proofs.lemmas.Bool.{and_parts}
use Rattle.std.proofs.lemmas.List.{append-nil, length-take}
use Rattle.bril_tree.specs.FrameWords.{frame_head}
use Rattle.slot_code.specs.declared.item.Slot.{Slot}
use Rattle.slot_code.specs.declared.slots.SlotFunction.{SlotFunction}
use Rattle.rv64_words_laws.specs.sequences.Moves.{Move, save_one, save_words, restore_one, restore_words}
use Rattle.rv64_emit_laws.specs.layout.Homes.{FunctionHomes, call_moves, in_register, is_loaded, moves_from, opening_moves, outlives}
use Rattle.rv64_words.specs.declared.word.Word.{Word}
use Rattle.rv64_words.specs.Encoding.{encoded}
use Rattle.rv64_emit.specs.declared.moves.Transfer.{Transfer}
use Rattle.rv64_emit.specs.declared.moves.Transfer.TheVariants.{Save, Restore}
use Rattle.rv64_emit.specs.Moved.{AreRegistersNear}
use Rattle.rv64_emit.specs.SlotMoves.{size_by, words_by}
use Rattle.rv64_emit.proofs.Appending.{put_then}

-- ---- one slot after another

words_cons : (t : Transfer) (m : Move) (moves : List Move) → words_by t (m ∷ moves) ≡ words_by t (m ∷ []) ++ words_by t moves
words_cons Save m moves = ap (λ ws. ws ++ save_words moves) (sym (append-nil (save_one m.home m.word)))
words_cons Restore m moves = ap (λ ws. ws ++ restore_words moves) (sym (append-nil (restore_one m.home m.word)))

words_none : (t : Transfer) → words_by t [] ≡ []
words_none Save = refl
words_none Restore = refl

size_cons : (t : Transfer) (m : Move) (moves : List Move) → size_by t (m ∷ moves) ≡ size_by t (m ∷ []) + size_by t moves
size_cons Save m moves = omega arith
size_cons Restore m moves = omega arith

size_none : (t : Transfer) → size_by t [] ≡ 0
size_none Save = refl
size_none Restore = refl

module _ (t : Transfer) (homes : FunctionHomes) (first : ℕ) (test : Slot → Bool) where
  pub words_more : (i : ℕ) (slot : Slot) (slots : List Slot) → words_by t (moves_from homes first test i (slot ∷ slots)) ≡ words_by t (moves_from homes first test i (slot ∷ [])) ++ words_by t (moves_from homes first test (suc i) slots)
  words_more i slot slots = by (test slot) (record { home = homes.home slot; word = first + i }) (moves_from homes first test (suc i) slots)
    where
      by : (meant : Bool) (m : Move) (rest : List Move) → words_by t (cond meant (m ∷ rest) rest) ≡ words_by t (cond meant (m ∷ []) []) ++ words_by t rest
      by true m rest = words_cons t m rest
      by false m rest = ap (λ ws. ws ++ words_by t rest) (sym (words_none t))

  pub size_more : (i : ℕ) (slot : Slot) (slots : List Slot) → size_by t (moves_from homes first test i (slot ∷ slots)) ≡ size_by t (moves_from homes first test i (slot ∷ [])) + size_by t (moves_from homes first test (suc i) slots)
  size_more i slot slots = by (test slot) (record { home = homes.home slot; word = first + i }) (moves_from homes first test (suc i) slots)
    where
      by : (meant : Bool) (m : Move) (rest : List Move) → size_by t (cond meant (m ∷ rest) rest) ≡ size_by t (cond meant (m ∷ []) []) + size_by t rest
      by true m rest = size_cons t m rest
      by false m rest = omega (arith, size_none t)

-- words that are appended slot by slot
pub words_next : (words : ℕ → List Slot → List Word) → ((i : ℕ) (slot : Slot) (slots : List Slot) → words i (slot ∷ slots) ≡ words i (slot ∷ []) ++ words (suc i) slots) → (slots : List Slot) (k : ℕ) (d : Slot) (code next whole : List ℕ) →
    k < length slots → next ≡ code ++ map encoded (words k (get_or slots k d ∷ [])) → code ++ map encoded (words k (drop k slots)) ≡ whole → next ++ map encoded (words (k + 1) (drop (k + 1) slots)) ≡ whole
words_next words more slots k d code next whole less put so_far =
    let slot = get_or slots k d in
    put_then code next (next ++ map encoded (words (k + 1) (drop (k + 1) slots))) (words k (slot ∷ [])) (words (k + 1) (drop (k + 1) slots)) put refl
    ∙ (ap (λ ws. code ++ map encoded ws) (ap (λ j. words k (slot ∷ []) ++ words j (drop j slots)) (add-one k) ∙ (sym (more k slot (drop (suc k) slots)) ∙ ap (words k) (sym (drop-cons slots k d less)))) ∙ so_far)

-- sizes that are summed slot by slot
pub sizes_next : (sizes : ℕ → List Slot → ℕ) → ((i : ℕ) (slot : Slot) (slots : List Slot) → sizes i (slot ∷ slots) ≡ sizes i (slot ∷ []) + sizes (suc i) slots) → (slots : List Slot) (k : ℕ) (d : Slot) (one so_far whole : ℕ) →
    k < length slots → one ≡ sizes k (get_or slots k d ∷ []) → so_far + sizes k (drop k slots) ≡ whole → so_far + one + sizes (k + 1) (drop (k + 1) slots) ≡ whole
sizes_next sizes more slots k d one so_far whole less its before =
    let slot = get_or slots k d in
    let now : sizes k (drop k slots) ≡ sizes k (slot ∷ []) + sizes (suc k) (drop (suc k) slots) = ap (sizes k) (drop-cons slots k d less) ∙ more k slot (drop (suc k) slots) in
    let same : sizes (k + 1) (drop (k + 1) slots) ≡ sizes (suc k) (drop (suc k) slots) = ap (λ j. sizes j (drop j slots)) (add-one k) in
    omega arith

-- ---- slots in registers

module _ (homes : FunctionHomes) (first : ℕ) (test : Slot → Bool) where
  no_moves : (slots : List Slot) (i : ℕ) → ((k : ℕ) (slot : Slot) → slice_get slots k ≡ Some slot → test slot ≡ true → ⊥) → moves_from homes first test i slots ≡ []
  no_moves [] i none = refl
  no_moves (slot ∷ slots) i none = by (test slot) refl (no_moves slots (suc i) (λ k s at. none (suc k) s at))
    where
      by : (t : Bool) → test slot ≡ t → moves_from homes first test (suc i) slots ≡ [] → cond t (record { home = homes.home slot; word = first + i } ∷ moves_from homes first test (suc i) slots) (moves_from homes first test (suc i) slots) ≡ []
      by true e rest = absurd (none 0 slot refl e)
      by false e rest = rest

  -- those that pass are among the first ones
  near_moves : (n : ℕ) (slots : List Slot) (i : ℕ) → ((k : ℕ) (slot : Slot) → slice_get slots k ≡ Some slot → test slot ≡ true → k < n) → moves_from homes first test i (take n slots) ≡ moves_from homes first test i slots
  near_moves zero slots i near = sym (no_moves slots i (λ k slot at passes. (let less = near k slot at passes in absurd (omega arith))))
  near_moves (suc n) [] i near = refl
  near_moves (suc n) (slot ∷ slots) i near =
      ap (λ rest. cond (test slot) (record { home = homes.home slot; word = first + i } ∷ rest) rest) (near_moves n slots (suc i) (λ k s at passes. (let less = near (suc k) s at passes in omega arith)))

-- the first slots of a function
module _ (homes : FunctionHomes) (g : SlotFunction) (near : AreRegistersNear homes g) (first : List Slot) (is : first ≡ take 254 g.slots) where
  pub call_near : (point : ℕ) (dest : Option ℕ) → moves_from homes frame_head (outlives homes point dest) 0 first ≡ call_moves homes g point dest
  call_near point dest =
      ap (moves_from homes frame_head (outlives homes point dest) 0) is
      ∙ near_moves homes frame_head (outlives homes point dest) 254 g.slots 0 (λ k slot at passes. near k slot at (and_parts (in_register (homes.home slot)) _ passes).0)

  pub opening_near : moves_from homes frame_head (is_loaded homes g) 0 first ≡ opening_moves homes g
  opening_near = ap (moves_from homes frame_head (is_loaded homes g) 0) is ∙ near_moves homes frame_head (is_loaded homes g) 254 g.slots 0 (λ k slot at passes. near k slot at (and_parts (in_register (homes.home slot)) _ passes).0)

-- what holds of all slots holds of them, and they are few
module _ (slots first : List Slot) (is : first ≡ take 254 slots) where
  pub first_hold : (P : Slot → Type 0) → AllByRecursion P slots → AllByRecursion P first
  first_hold P all = subst (AllByRecursion P) (sym is) (taken 254 slots all)
    where
      taken : (n : ℕ) (list : List Slot) → AllByRecursion P list → AllByRecursion P (take n list)
      taken zero list holds = tt
      taken (suc n) [] holds = tt
      taken (suc n) (slot ∷ list) holds = (holds.0, taken n list holds.1)

  pub first_few : 2 + length first ≤ 2 ^ 28
  first_few = omega (arith, ap length is, length-take 254 slots)
