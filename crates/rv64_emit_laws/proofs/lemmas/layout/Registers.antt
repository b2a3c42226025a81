-- The moves of slots that are in registers: no two are in one, so that they are few, and each is one word.
use Rattle.std.proofs.Common.{◌≡◌, ◌≢◌, ℕ, suc, ◌<◌, ◌≤◌, inl, inr, Bool, true, false, ◌||◌, cond, eqb, IsTrue, List, [], ◌∷◌, length, Option, refl, sym, ap, ◌∙◌, subst, arith}
use Rattle.std.specs.List.{list_any}
use Rattle.std.proofs.lemmas.Bool.{and_parts, eqb-true, ne_eqb, false≢true}
use Rattle.std.proofs.lemmas.Bool.Decides.{nat_tests}
use Rattle.bril_tree.specs.declared.home.Home.{Home}
use Rattle.bril_tree.specs.declared.home.Home.TheVariants.{Reg, Frame}
use Rattle.bril_tree.specs.declared.numbered_function.Func.{Func}
use Rattle.bril_tree.specs.FrameWords.{frame_head}
use Rattle.bril_tree.specs.Home.{is_home_register}
use Rattle.bril_tree.specs.Membership.{In}
use Rattle.rv64_words_laws.specs.sequences.Moves.{Move, AreHomesApart, IsUsable, save_one_size, save_size, restore_one_size, restore_size}
use Rattle.slot_code.specs.declared.item.Slot.{Slot}
use Rattle.slot_code.specs.declared.slots.SlotFunction.{SlotFunction}
use Rattle.slot_code.specs.Lowered.{IsLoweredFunction}
use Rattle.rv64_words_laws.specs.sequences.Sequences.{is_near}
use Rattle.rv64_emit_laws.specs.layout.Homes.{FunctionHomes, call_moves, in_register, is_loaded, moves_of, opening_moves, outlives}
use Rattle.rv64_emit_laws.specs.layout.Laid.{AreHomes}
use Rattle.rv64_emit_laws.proofs.lemmas.layout.Moving.{homes_are_apart, slot_move}

-- ---- numbers that are different and among some

abbrev is_among : List ℕ → ℕ → Bool
is_among ys x = list_any (eqb x) ys

-- the list without the first that is x
abbrev without : ℕ → List ℕ → List ℕ
without x [] = []
without x (y ∷ ys) = cond (eqb x y) ys (y ∷ without x ys)

shorter : (x : ℕ) (ys : List ℕ) → is_among ys x ≡ true → length ys ≡ suc (length (without x ys))
shorter x [] h = absurd (false≢true h)
shorter x (y ∷ ys) h = by (eqb x y) h (shorter x ys)
  where
    by : (t : Bool) → (t || is_among ys x) ≡ true → (is_among ys x ≡ true → length ys ≡ suc (length (without x ys))) → suc (length ys) ≡ suc (length (cond t ys (y ∷ without x ys)))
    by true e more = refl
    by false e more = ap suc (more e)

still_among : (x z : ℕ) (ys : List ℕ) → z ≢ x → is_among ys z ≡ true → is_among (without x ys) z ≡ true
still_among x z [] ne h = h
still_among x z (y ∷ ys) ne h = by (eqb x y) refl (still_among x z ys ne)
  where
    by : (t : Bool) → eqb x y ≡ t → (is_among ys z ≡ true → is_among (without x ys) z ≡ true) → is_among (cond t ys (y ∷ without x ys)) z ≡ true
    by true e more = subst (λ b. (b || is_among ys z) ≡ true) (ne_eqb z y (λ same. ne (same ∙ sym (eqb-true x y e)))) h
    by false e more = rest (eqb z y) h
      where
        rest : (b : Bool) → (b || is_among ys z) ≡ true → (b || is_among (without x ys) z) ≡ true
        rest true k = refl
        rest false k = more k

-- ---- homes that are registers

abbrev home_registers : List ℕ
home_registers = 3 ∷ 4 ∷ 9 ∷ 11 ∷ 12 ∷ 13 ∷ 14 ∷ 15 ∷ 16 ∷ 18 ∷ 19 ∷ 20 ∷ 21 ∷ 22 ∷ 23 ∷ 24 ∷ 25 ∷ 26 ∷ 27 ∷ 28 ∷ 29 ∷ 30 ∷ 31 ∷ []

listed : (r : ℕ) → IsTrue (is_home_register r) → is_among home_registers r ≡ true
listed r h = grind (arith, nat_tests)

-- the home is one of these registers, and the word is near
record IsRegisterMove (registers : List ℕ) (m : Move) : Type 0 where
  number : ℕ
  home : m.home ≡ Reg number
  among : is_among registers number ≡ true
  near : m.word < 256

-- where no two homes are the same there are no more moves than registers
moves_few : (moves : List Move) (registers : List ℕ) → AreHomesApart moves → ((m : Move) → In m moves → IsRegisterMove registers m) → length moves ≤ length registers
moves_few [] registers apart all = omega arith
moves_few (m ∷ moves) registers apart all =
    let one = all m (inl refl) in
    let rest : (n : Move) → In n moves → IsRegisterMove (without one.number registers) n = λ n i. (let other = all n (inr i) in record {
      number = other.number;
      home = other.home;
      among = still_among one.number other.number registers (λ same. apart.0 n i (other.home ∙ (ap Reg same ∙ sym one.home))) other.among;
      near = other.near;
    }) in
    omega (arith, shorter one.number registers one.among, moves_few moves (without one.number registers) apart.1 rest)

near_word : (o : ℕ) → o < 256 → is_near o ≡ true
near_word o less = grind (arith, nat_tests)

one_saved : (registers : List ℕ) (m : Move) → IsRegisterMove registers m → save_one_size m.home m.word ≡ 1
one_saved registers m w = ap (λ h. save_one_size h m.word) w.home ∙ ap (λ t. cond t 1 3) (near_word m.word w.near)

one_restored : (registers : List ℕ) (m : Move) → IsRegisterMove registers m → restore_one_size m.home m.word ≡ 1
one_restored registers m w = ap (λ h. restore_one_size h m.word) w.home ∙ ap (λ t. cond t 1 3) (near_word m.word w.near)

-- and each is one word
saves_one : (registers : List ℕ) (moves : List Move) → ((m : Move) → In m moves → IsRegisterMove registers m) → save_size moves ≡ length moves
saves_one registers [] all = refl
saves_one registers (m ∷ moves) all = omega (arith, one_saved registers m (all m (inl refl)), saves_one registers moves (λ n i. all n (inr i)))

restores_one : (registers : List ℕ) (moves : List Move) → ((m : Move) → In m moves → IsRegisterMove registers m) → restore_size moves ≡ length moves
restores_one registers [] all = refl
restores_one registers (m ∷ moves) all = omega (arith, one_restored registers m (all m (inl refl)), restores_one registers moves (λ n i. all n (inr i)))

-- ---- slots that are in registers

module _ (homes : FunctionHomes) (f : Func) (g : SlotFunction) (is : IsLoweredFunction f g) (are : AreHomes g homes) where
  -- what passes the test is in a register, and live at the point
  module _ (test : Slot → Bool) (point : ℕ) (registers : (slot : Slot) → test slot ≡ true → in_register (homes.home slot) ≡ true) (live : (slot : Slot) → test slot ≡ true → homes.live point slot ≡ true) where
    pub registers_apart : AreHomesApart (moves_of homes g frame_head test)
    registers_apart = homes_are_apart homes f g is frame_head test (λ x y of_x of_y told_x told_y same. are.apart point x y of_x of_y (live x told_x) (live y told_y) (registers x told_x) same)

    register_move : (m : Move) → In m (moves_of homes g frame_head test) → IsRegisterMove home_registers m
    register_move m i =
        let w = slot_move homes f g is frame_head test m i in
        let inside = registers w.slot w.passes in
        let near = are.near w.slot w.in_g inside in
        by (homes.home w.slot) refl inside w.home (subst (λ n. n < 256) (sym w.word) near)
      where
        by : (home : Home) → homes.home (slot_move homes f g is frame_head test m i).slot ≡ home → in_register home ≡ true → m.home ≡ homes.home (slot_move homes f g is frame_head test m i).slot → m.word < 256 → IsRegisterMove home_registers m
        by (Reg r) e inside home near =
            let w = slot_move homes f g is frame_head test m i in
            record { number = r; home = home ∙ e; among = listed r (subst (λ h. IsUsable h) e (are.usable w.slot w.in_g)); near = near }
        by (Frame o) e inside home near = absurd (false≢true inside)

    few_moves : length (moves_of homes g frame_head test) ≤ 23
    few_moves = moves_few (moves_of homes g frame_head test) home_registers registers_apart register_move

    saves_most : save_size (moves_of homes g frame_head test) ≤ 23
    saves_most = omega (arith, saves_one home_registers (moves_of homes g frame_head test) register_move, few_moves)

    restores_most : restore_size (moves_of homes g frame_head test) ≤ 23
    restores_most = omega (arith, restores_one home_registers (moves_of homes g frame_head test) register_move, few_moves)

  -- ---- what a call keeps

  outliving_register : (point : ℕ) (dest : Option ℕ) (slot : Slot) → outlives homes point dest slot ≡ true → in_register (homes.home slot) ≡ true
  outliving_register point dest slot told = (and_parts _ _ told).0

  outliving_live : (point : ℕ) (dest : Option ℕ) (slot : Slot) → outlives homes point dest slot ≡ true → homes.live (suc point) slot ≡ true
  outliving_live point dest slot told = (and_parts _ _ (and_parts _ _ told).1).0

  pub call_apart : (point : ℕ) (dest : Option ℕ) → AreHomesApart (call_moves homes g point dest)
  call_apart point dest = registers_apart (outlives homes point dest) (suc point) (outliving_register point dest) (outliving_live point dest)

  pub call_moves_most : (point : ℕ) (dest : Option ℕ) → save_size (call_moves homes g point dest) ≤ 23
  call_moves_most point dest = saves_most (outlives homes point dest) (suc point) (outliving_register point dest) (outliving_live point dest)

  pub call_moves_back_most : (point : ℕ) (dest : Option ℕ) → restore_size (call_moves homes g point dest) ≤ 23
  call_moves_back_most point dest = restores_most (outlives homes point dest) (suc point) (outliving_register point dest) (outliving_live point dest)

  -- ---- what a function loads as it begins

  loaded_register : (slot : Slot) → is_loaded homes g slot ≡ true → in_register (homes.home slot) ≡ true
  loaded_register slot told = (and_parts _ _ told).0

  loaded_live : (slot : Slot) → is_loaded homes g slot ≡ true → homes.live 0 slot ≡ true
  loaded_live slot told = (and_parts _ _ (and_parts _ _ told).1).1

  pub opening_apart : AreHomesApart (opening_moves homes g)
  opening_apart = registers_apart (is_loaded homes g) 0 loaded_register loaded_live

  pub opening_most : restore_size (opening_moves homes g) ≤ 23
  opening_most = restores_most (is_loaded homes g) 0 loaded_register loaded_live
