-- A call passes its arguments to where the called function has them.
use Rattle.std.proofs.Common.{◌≡◌, ◌≢◌, ℕ, zero, suc, ◌+◌, ◌*◌, ◌<◌, ◌≤◌, ◌⊎◌, inl, inr, ⊎_elim, Bool, true, false, true≢false, cond, eqb, refl, sym, ap, ◌∙◌, subst, arith, List, [], ◌∷◌, ◌++◌, append_assoc, length, Option, Some, None}
use Rattle.std.specs.Prelude.{slice_get}
use Rattle.std.specs.List.{AllByRecursion}
use Rattle.std.proofs.lemmas.Bool.{or_parts}
use Rattle.std.proofs.lemmas.Option.{slice_get_within}
use Rattle.std.proofs.lemmas.Bool.Decides.{nat_tests}
use Rattle.bril_tree.specs.declared.home.Home.{Home}
use Rattle.bril_tree.specs.declared.home.Home.TheVariants.{Reg, Frame}
use Rattle.bril_tree.specs.FrameWords.{frame_head}
use Rattle.bril_tree.specs.Home.{is_home_register}
use Rattle.bril_tree.specs.Membership.{In}
use Rattle.rv64_emit_laws.specs.layout.Homes.{FunctionHomes, argument_word, variable_home}
use Rattle.rv64_emit_laws.specs.layout.Passing.{Way, nowhere, stored, swapped, copied, loaded, comes_from, is_register, pass_copies, pass_copies_size, pass_loads, pass_size, pass_stores, pass_words, way, way_at, with_copy, with_copy_size, with_load, with_store}
use Rattle.rv64_words_laws.specs.stretches.Core.{Core, written}
use Rattle.rv64_words_laws.proofs.lemmas.stretches.Cores.{apart_from, written_here, written_other}
use Rattle.rv64_words_laws.proofs.lemmas.stretches.Going.{Going, is_place}
use Rattle.rv64_words_laws.specs.sequences.Moves.{AreHomesApart, AreInside, AreUsable, AreWordsApart, IsUsable, KeepsRest, Move, NoWordIsHome, Restored, Saved, home_word, restore_words, save_size, save_words}
use Rattle.rv64_words_laws.specs.sequences.Sequences.{copied_word}
use Rattle.rv64_words_laws.proofs.lemmas.sequences.Homes.{register_copied}
use Rattle.rv64_words_laws.proofs.lemmas.sequences.Moves.{homes_restored, homes_saved}
use Rattle.rv64_words.specs.declared.image.Image.{Image}
use Rattle.rv64_words.specs.declared.word.Word.{Word}
use Rattle.rv64_words.specs.Region.{Sizes, stack_base}
use Rattle.slot_code.specs.declared.slots.SlotFunction.{SlotFunction}

-- ---- what is kept

pub rest_on : (c d e : Core) → KeepsRest c d → KeepsRest d e → KeepsRest c e
rest_on c d e first second = record {
  zero_register = second.zero_register ∙ first.zero_register;
  link_register = second.link_register ∙ first.link_register;
  frame_register = second.frame_register ∙ first.frame_register;
  frames_left = second.frames_left ∙ first.frames_left;
  table = second.table ∙ first.table;
  cells = second.cells ∙ first.cells;
  blocks = second.blocks ∙ first.blocks;
  next_free = second.next_free ∙ first.next_free;
  printed = second.printed ∙ first.printed;
  arrivals = second.arrivals ∙ first.arrivals;
}

-- ---- arguments before a call, and after it

-- the home of an argument may have what it has, and is a word of the caller's frame if it is in one
abbrev pub IsFound : FunctionHomes → SlotFunction → ℕ → Type 0
IsFound homes g a = IsUsable (variable_home homes a) × ((o : ℕ) → variable_home homes a ≡ Frame o → o < g.words)

-- by where the called function has it: in a register, or in its word of the new frame
abbrev pub ArrivesAt : ℕ → Option Home → ℕ → ℕ → Core → Type 0
ArrivesAt b None word v e = Unit {0}
ArrivesAt b (Some (Reg r)) word v e = e.registers r ≡ v
ArrivesAt b (Some (Frame o)) word v e = e.stack (b + word) ≡ v

abbrev pub AreArrived : FunctionHomes → SlotFunction → (to b k : ℕ) → List ℕ → Core → Core → Type 0
AreArrived homes g to b k [] c e = Unit {0}
AreArrived homes g to b k (a ∷ args) c e = ArrivesAt b (homes.given to k) (argument_word g k) (home_word c b (variable_home homes a)) e × AreArrived homes g to b (suc k) args c e

-- The arguments of a call of function `to` are where it has them, and no word of the caller's frame, at word b, changed.
pub record Passed (homes : FunctionHomes) (g : SlotFunction) (to b : ℕ) (args : List ℕ) (c e : Core) : Type 0 where
  pub rest : KeepsRest c e
  pub below : (x : ℕ) → x < b + g.words → e.stack x ≡ c.stack x
  pub arrived : AreArrived homes g to b 0 args c e

-- ---- registers that are copied

-- a copy was made
abbrev pub IsCopied : Way → Core → Core → Type 0
IsCopied (copied r s) d f = f.registers r ≡ d.registers s
IsCopied _ d f = Unit {0}

-- Of a call of function `to`: no two arguments go to one register, and these are registers for locations.
module _ (homes : FunctionHomes) (g : SlotFunction) (to : ℕ) (apart : (i j r : ℕ) → homes.given to i ≡ Some (Reg r) → homes.given to j ≡ Some (Reg r) → i ≡ j) (usable : (k : ℕ) (home : Home) → homes.given to k ≡ Some home → IsUsable home) where
  -- a later argument doesn't go to the register of an earlier one
  later_apart : (k j r q : ℕ) → homes.given to k ≡ Some (Reg r) → homes.given to (suc k + j) ≡ Some (Reg q) → q ≡ r → ⊥
  later_apart k j r q here there same =
      let one = apart k (suc k + j) r here (there ∙ ap (λ x. Some (Reg x)) same) in
      absurd (omega arith)

  abbrev pub AreCopied : ℕ → List ℕ → Core → Core → Type 0
  AreCopied k [] d f = Unit {0}
  AreCopied k (a ∷ args) d f = IsCopied (way_at homes g to k a args) d f × AreCopied (suc k) args d f

  -- nothing but registers of arguments changed
  pub record Copied (k : ℕ) (args : List ℕ) (d f : Core) : Type 0 where
    pub are : AreCopied k args d f
    pub others : (q : ℕ) → ((j : ℕ) → homes.given to (k + j) ≡ Some (Reg q) → ⊥) → f.registers q ≡ d.registers q
    pub stack : f.stack ≡ d.stack
    pub table : f.table ≡ d.table
    pub cells : f.cells ≡ d.cells
    pub blocks : f.blocks ≡ d.blocks
    pub next_free : f.next_free ≡ d.next_free
    pub printed : f.printed ≡ d.printed
    pub arrivals : f.arrivals ≡ d.arrivals

  -- arguments that don't come from a register are what they were before it got a value
  uncopied_one : (given : Option Home) (from : Home) (later : List ℕ) (r v : ℕ) (d f : Core) → is_register r from ≡ false → IsCopied (way homes given from later) (written d r v) f → IsCopied (way homes given from later) d f
  uncopied_one None from later r v d f none h = tt
  uncopied_one (Some (Frame p)) from later r v d f none h = tt
  uncopied_one (Some (Reg q)) (Frame o) later r v d f none h = tt
  uncopied_one (Some (Reg q)) (Reg s) later r v d f none h = by (comes_from homes q later) h
    where
      by : (t : Bool) → IsCopied (cond t (swapped q) (copied q s)) (written d r v) f → IsCopied (cond t (swapped q) (copied q s)) d f
      by true h = tt
      by false h = let ne : s ≢ r = grind (arith, nat_tests) in h ∙ written_other d r v s ne

  uncopied : (k : ℕ) (args : List ℕ) (r v : ℕ) (d f : Core) → comes_from homes r args ≡ false → AreCopied k args (written d r v) f → AreCopied k args d f
  uncopied k [] r v d f none h = tt
  uncopied k (a ∷ args) r v d f none h =
      let parts = or_parts (is_register r (variable_home homes a)) (comes_from homes r args) none in
      (uncopied_one (homes.given to k) (variable_home homes a) args r v d f parts.0 h.0, uncopied (suc k) args r v d f parts.1 h.1)

  -- one argument more, by its way
  record OneCopied (w : Way) (k : ℕ) (args : List ℕ) (d f : Core) : Type 0 where
    one : IsCopied w d f
    rest : AreCopied (suc k) args d f
    others : (q : ℕ) → ((j : ℕ) → homes.given to (k + j) ≡ Some (Reg q) → ⊥) → f.registers q ≡ d.registers q
    stack : f.stack ≡ d.stack
    table : f.table ≡ d.table
    cells : f.cells ≡ d.cells
    blocks : f.blocks ≡ d.blocks
    next_free : f.next_free ≡ d.next_free
    printed : f.printed ≡ d.printed
    arrivals : f.arrivals ≡ d.arrivals

  -- no later argument goes to a register to which none does from here on
  none_later : (k q : ℕ) → ((j : ℕ) → homes.given to (k + j) ≡ Some (Reg q) → ⊥) → (j : ℕ) → homes.given to (suc k + j) ≡ Some (Reg q) → ⊥
  none_later k q none j there = let same : suc k + j ≡ k + suc j = omega arith in none (suc j) (ap (homes.given to) (sym same) ∙ there)

  passed_by : (w : Way) (k : ℕ) (args : List ℕ) (d f : Core) → IsCopied w d f → Copied (suc k) args d f → OneCopied w k args d f
  passed_by w k args d f one c = record {
    one = one;
    rest = c.are;
    others = λ q none. c.others q (none_later k q none);
    stack = c.stack;
    table = c.table;
    cells = c.cells;
    blocks = c.blocks;
    next_free = c.next_free;
    printed = c.printed;
    arrivals = c.arrivals;
  }

  copied_by : (r s k : ℕ) (args : List ℕ) (d f : Core) → homes.given to k ≡ Some (Reg r) → comes_from homes r args ≡ false → Copied (suc k) args (written d r (d.registers s)) f → OneCopied (copied r s) k args d f
  copied_by zero s k args d f here none c = absurd (true≢false (sym (usable k (Reg 0) here)))
  copied_by (suc r) s k args d f here none c = record {
    one = c.others (suc r) (λ j there. later_apart k j (suc r) (suc r) here there refl) ∙ written_here d (suc r) (d.registers s) (λ x. absurd (omega arith));
    rest = uncopied (suc k) args (suc r) (d.registers s) d f none c.are;
    others = λ q not. c.others q (none_later k q not) ∙ written_other d (suc r) (d.registers s) q (λ same. not 0 (ap (homes.given to) (plus_none k) ∙ (here ∙ ap (λ x. Some (Reg x)) (sym same))));
    stack = c.stack;
    table = c.table;
    cells = c.cells;
    blocks = c.blocks;
    next_free = c.next_free;
    printed = c.printed;
    arrivals = c.arrivals;
  }
    where
      plus_none : (k : ℕ) → k + 0 ≡ k
      plus_none k = omega arith

  module _ (image : Image) (z : Sizes) (at : ℕ) (c : Core) (ws : List Word) where
    -- the copies of arguments from argument k on are made
    abbrev Goes : ℕ → List ℕ → ℕ → ℕ → Core → Type 0
    Goes k args n i d =
        Going image z at c n i d (pass_copies homes g to k args ++ ws) → (f : Core) × Copied k args d f × Going image z at c (n + pass_copies_size homes g to k args) (i + pass_copies_size homes g to k args) f ws

    abbrev GoesBy : Way → ℕ → List ℕ → ℕ → ℕ → Core → Type 0
    GoesBy w k args n i d =
        Going image z at c n i d (with_copy w (pass_copies homes g to (suc k) args) ++ ws) →
        (f : Core) × OneCopied w k args d f × Going image z at c (n + with_copy_size w (pass_copies_size homes g to (suc k) args)) (i + with_copy_size w (pass_copies_size homes g to (suc k) args)) f ws

    module _ (k : ℕ) (args : List ℕ) (on : (n i : ℕ) (d : Core) → Goes (suc k) args n i d) where
      -- the register is the one from which it comes, or another
      moved_goes : (r s n i : ℕ) (d : Core) → homes.given to k ≡ Some (Reg r) → comes_from homes r args ≡ false → GoesBy (copied r s) k args n i d
      moved_goes r s n i d is none h = by (eqb r s) refl h
        where
          by : (t : Bool) → eqb r s ≡ t → Going image z at c n i d (cond t (pass_copies homes g to (suc k) args) (copied_word r s ∷ pass_copies homes g to (suc k) args) ++ ws) →
              (f : Core) × OneCopied (copied r s) k args d f
              × Going image z at c (n + cond t (pass_copies_size homes g to (suc k) args) (suc (pass_copies_size homes g to (suc k) args))) (i + cond t (pass_copies_size homes g to (suc k) args) (suc (pass_copies_size homes g to (suc k) args))) f ws
          by true same h =
              let x = on n i d h in
              let one : r ≡ s = grind (arith, nat_tests) in
              (x.0, passed_by (copied r s) k args d x.0 (x.1.others r (λ j there. later_apart k j r r is there refl) ∙ ap d.registers one) x.1, x.2)
          by false other h =
              let x = on (n + 1) (i + 1) (written d r (d.registers s)) (register_copied image z r s h) in
              let size = pass_copies_size homes g to (suc k) args in
              (x.0, copied_by r s k args d x.0 is none x.1, is_place image z (n + suc size) (i + suc size) (omega arith) (omega arith) x.2)

      one_goes : (n i : ℕ) (d : Core) (given : Option Home) → homes.given to k ≡ given → (from : Home) → GoesBy (way homes given from args) k args n i d
      one_goes n i d None is from h = let x = on n i d h in (x.0, passed_by nowhere k args d x.0 tt x.1, x.2)
      one_goes n i d (Some (Frame p)) is from h = let x = on n i d h in (x.0, passed_by stored k args d x.0 tt x.1, x.2)
      one_goes n i d (Some (Reg r)) is (Frame o) h = let x = on n i d h in (x.0, passed_by (loaded r o) k args d x.0 tt x.1, x.2)
      one_goes n i d (Some (Reg r)) is (Reg s) h = by (comes_from homes r args) refl h
        where
          by : (t : Bool) → comes_from homes r args ≡ t → GoesBy (cond t (swapped r) (copied r s)) k args n i d
          by true some h = let x = on n i d h in (x.0, passed_by (swapped r) k args d x.0 tt x.1, x.2)
          by false none h = moved_goes r s n i d is none h

    pub copies_go : (k : ℕ) (args : List ℕ) (n i : ℕ) (d : Core) → Goes k args n i d
    copies_go k [] n i d h = (
      d,
      record { are = tt; others = λ q none. refl; stack = refl; table = refl; cells = refl; blocks = refl; next_free = refl; printed = refl; arrivals = refl },
      is_place image z (n + 0) (i + 0) (omega arith) (omega arith) h,
    )
    copies_go k (a ∷ args) n i d h =
        let step = one_goes k args (λ m j e. copies_go (suc k) args m j e) n i d (homes.given to k) refl (variable_home homes a) h in
        let x = step.1 in (
          step.0,
          record { are = (x.one, x.rest); others = x.others; stack = x.stack; table = x.table; cells = x.cells; blocks = x.blocks; next_free = x.next_free; printed = x.printed; arrivals = x.arrivals },
          step.2,
        )

  -- a register in which no location may be stays
  pub copied_rest : (args : List ℕ) (d f : Core) → Copied 0 args d f → KeepsRest d f
  copied_rest args d f c = record {
    zero_register = stays 0 refl;
    link_register = stays 1 refl;
    frame_register = stays 2 refl;
    frames_left = stays 8 refl;
    table = c.table;
    cells = c.cells;
    blocks = c.blocks;
    next_free = c.next_free;
    printed = c.printed;
    arrivals = c.arrivals;
  }
    where
      stays : (q : ℕ) → is_home_register q ≡ false → f.registers q ≡ d.registers q
      stays q none = c.others q (λ j at. apart_from q q none (usable (0 + j) (Reg q) at) refl)

  -- ---- words of the frame

  found_at : (args : List ℕ) → AllByRecursion (IsFound homes g) args → (place a : ℕ) → slice_get args place ≡ Some a → IsFound homes g a
  found_at [] found place a at = absurd (let none : None ≡ Some a = at in cc)
  found_at (x ∷ args) found zero a at = let same : x ≡ a = cc in subst (IsFound homes g) same found.0
  found_at (x ∷ args) found (suc place) a at = found_at args found.1 place a at

  -- an argument is stored
  record IsStore (k : ℕ) (args : List ℕ) (m : Move) : Type 0 where
    place : ℕ
    variable : ℕ
    at : slice_get args place ≡ Some variable
    word : m.word ≡ argument_word g (k + place)
    home : m.home ≡ variable_home homes variable

  store_or_rest : (w : Way) (first m : Move) (moves : List Move) → In m (with_store w first moves) → (m ≡ first) ⊎ In m moves
  store_or_rest nowhere first m moves i = inr i
  store_or_rest stored first m moves i = i
  store_or_rest (swapped r) first m moves i = i
  store_or_rest (copied r s) first m moves i = inr i
  store_or_rest (loaded r o) first m moves i = inr i

  rest_store : (w : Way) (first m : Move) (moves : List Move) → In m moves → In m (with_store w first moves)
  rest_store nowhere first m moves i = i
  rest_store stored first m moves i = inr i
  rest_store (swapped r) first m moves i = inr i
  rest_store (copied r s) first m moves i = i
  rest_store (loaded r o) first m moves i = i

  in_stores : (k : ℕ) (args : List ℕ) (m : Move) → In m (pass_stores homes g to k args) → IsStore k args m
  in_stores k [] m i = absurd i
  in_stores k (a ∷ args) m i = by (λ j. in_stores (suc k) args m j) (store_or_rest (way_at homes g to k a args) (record { home = variable_home homes a; word = argument_word g k }) m (pass_stores homes g to (suc k) args) i)
    where
      by : (In m (pass_stores homes g to (suc k) args) → IsStore (suc k) args m) → (m ≡ record { home = variable_home homes a; word = argument_word g k }) ⊎ In m (pass_stores homes g to (suc k) args) → IsStore k (a ∷ args) m
      by on (inl is) = record { place = 0; variable = a; at = refl; word = (let same : m.word ≡ argument_word g k = ap (λ (x : Move). x.word) is in omega arith); home = ap (λ (x : Move). x.home) is }
      by on (inr i) =
          let s = on i in
          record { place = suc s.place; variable = s.variable; at = s.at; word = (let word = s.word in omega arith); home = s.home }

  stores_apart : (k : ℕ) (args : List ℕ) → AreWordsApart (pass_stores homes g to k args)
  stores_apart k [] = tt
  stores_apart k (a ∷ args) = by (way_at homes g to k a args) (stores_apart (suc k) args)
    where
      new : (n : Move) → In n (pass_stores homes g to (suc k) args) → n.word ≢ argument_word g k
      new n i same = let s = in_stores (suc k) args n i in let word = s.word in absurd (omega arith)

      by : (w : Way) → AreWordsApart (pass_stores homes g to (suc k) args) → AreWordsApart (with_store w (record { home = variable_home homes a; word = argument_word g k }) (pass_stores homes g to (suc k) args))
      by nowhere rest = rest
      by stored rest = (new, rest)
      by (swapped r) rest = (new, rest)
      by (copied r s) rest = rest
      by (loaded r o) rest = rest

  -- an argument is loaded
  record IsLoad (k : ℕ) (args : List ℕ) (m : Move) : Type 0 where
    index : ℕ
    from : k ≤ index
    register : ℕ
    given : homes.given to index ≡ Some (Reg register)
    home : m.home ≡ Reg register
    inside : m.word < g.words + (frame_head + (k + length args))

  -- the first one, if it is
  record IsFirst (k : ℕ) (m : Move) : Type 0 where
    register : ℕ
    given : homes.given to k ≡ Some (Reg register)
    home : m.home ≡ Reg register
    inside : m.word < g.words + (frame_head + suc k)

  load_or_rest : (k a : ℕ) (args : List ℕ) (m : Move) (moves : List Move) → IsFound homes g a → In m (with_load (way_at homes g to k a args) (argument_word g k) moves) → IsFirst k m ⊎ In m moves
  load_or_rest k a args m moves found i = one (homes.given to k) refl (variable_home homes a) refl i
    where
      one : (given : Option Home) → homes.given to k ≡ given → (from : Home) → variable_home homes a ≡ from → In m (with_load (way homes given from args) (argument_word g k) moves) → IsFirst k m ⊎ In m moves
      one None is from at i = inr i
      one (Some (Frame p)) is from at i = inr i
      one (Some (Reg r)) is (Frame o) at (inl e) =
          let low = found.1 o at in
          inl (record { register = r; given = is; home = ap (λ (x : Move). x.home) e; inside = (let word : m.word ≡ o = ap (λ (x : Move). x.word) e in omega arith) })
      one (Some (Reg r)) is (Frame o) at (inr i) = inr i
      one (Some (Reg r)) is (Reg s) at i = by (comes_from homes r args) i
        where
          by : (t : Bool) → In m (with_load (cond t (swapped r) (copied r s)) (argument_word g k) moves) → IsFirst k m ⊎ In m moves
          by true (inl e) = inl (record { register = r; given = is; home = ap (λ (x : Move). x.home) e; inside = (let word : m.word ≡ argument_word g k = ap (λ (x : Move). x.word) e in omega arith) })
          by true (inr i) = inr i
          by false i = inr i

  rest_load : (w : Way) (word : ℕ) (m : Move) (moves : List Move) → In m moves → In m (with_load w word moves)
  rest_load nowhere word m moves i = i
  rest_load stored word m moves i = i
  rest_load (swapped r) word m moves i = inr i
  rest_load (copied r s) word m moves i = i
  rest_load (loaded r o) word m moves i = inr i

  in_loads : (k : ℕ) (args : List ℕ) (m : Move) → AllByRecursion (IsFound homes g) args → In m (pass_loads homes g to k args) → IsLoad k args m
  in_loads k [] m found i = absurd i
  in_loads k (a ∷ args) m found i = by (λ j. in_loads (suc k) args m found.1 j) (load_or_rest k a args m (pass_loads homes g to (suc k) args) found.0 i)
    where
      by : (In m (pass_loads homes g to (suc k) args) → IsLoad (suc k) args m) → IsFirst k m ⊎ In m (pass_loads homes g to (suc k) args) → IsLoad k (a ∷ args) m
      by on (inl h) = record { index = k; from = omega arith; register = h.register; given = h.given; home = h.home; inside = (let inside = h.inside in omega arith) }
      by on (inr i) =
          let l = on i in
          record { index = l.index; from = (let from = l.from in omega arith); register = l.register; given = l.given; home = l.home; inside = (let inside = l.inside in omega arith) }

  one_register : (r q : ℕ) → Reg r ≡ Reg q → r ≡ q
  one_register r q same = cc

  -- no later argument is loaded into the register of an earlier one
  loads_later : (k : ℕ) (args : List ℕ) (r : ℕ) (n : Move) → AllByRecursion (IsFound homes g) args → homes.given to k ≡ Some (Reg r) → In n (pass_loads homes g to (suc k) args) → n.home ≢ Reg r
  loads_later k args r n found here i same =
      let l = in_loads (suc k) args n found i in
      let one = one_register l.register r (sym l.home ∙ same) in
      let index = apart k l.index r here (l.given ∙ ap (λ x. Some (Reg x)) one) in
      let from = l.from in
      absurd (omega arith)

  loads_apart : (k : ℕ) (args : List ℕ) → AllByRecursion (IsFound homes g) args → AreHomesApart (pass_loads homes g to k args)
  loads_apart k [] found = tt
  loads_apart k (a ∷ args) found = one (loads_apart (suc k) args found.1) (homes.given to k) refl (variable_home homes a)
    where
      one : AreHomesApart (pass_loads homes g to (suc k) args) → (given : Option Home) → homes.given to k ≡ given → (from : Home) → AreHomesApart (with_load (way homes given from args) (argument_word g k) (pass_loads homes g to (suc k) args))
      one rest None is from = rest
      one rest (Some (Frame p)) is from = rest
      one rest (Some (Reg r)) is (Frame o) = (λ n i. loads_later k args r n found.1 is i, rest)
      one rest (Some (Reg r)) is (Reg s) = by (comes_from homes r args)
        where
          by : (t : Bool) → AreHomesApart (with_load (cond t (swapped r) (copied r s)) (argument_word g k) (pass_loads homes g to (suc k) args))
          by true = (λ n i. loads_later k args r n found.1 is i, rest)
          by false = rest

  -- ---- where they arrive

  module _ (b : ℕ) where
    module _ (all : List ℕ) (found : AllByRecursion (IsFound homes g) all) (c d f e : Core) (saved : Saved b (pass_stores homes g to 0 all) c d) (done : Copied 0 all d f) (restored : Restored b (pass_loads homes g to 0 all) f e) where
      -- words of the frame
      stack_left : (x : ℕ) → e.stack x ≡ d.stack x
      stack_left x = restored.stack x (λ m o i is. (let l = in_loads 0 all m found i in clash l.register o (sym l.home ∙ is))) ∙ ap (λ s. s x) done.stack
        where
          clash : (r o : ℕ) → Reg r ≡ Frame o → x ≢ b + o
          clash r o same = cc

      low_left : (x : ℕ) → x < b + g.words → d.stack x ≡ c.stack x
      low_left x lt = saved.others x (λ m i same. (let s = in_stores 0 all m i in let word = s.word in absurd (omega arith)))

      -- loads of the arguments before one, or of it and those behind it
      abbrev Earlier : ℕ → Move → Type 0
      Earlier k m = (i : ℕ) × (i < k) × (r : ℕ) × (homes.given to i ≡ Some (Reg r)) × (m.home ≡ Reg r)

      module _ (k a : ℕ) (args : List ℕ) (later : AllByRecursion (IsFound homes g) args) where
        one_arrives : (given : Option Home) → homes.given to k ≡ given → (from : Home) → IsUsable from → ((o : ℕ) → from ≡ Frame o → o < g.words) →
            ((m : Move) → In m (with_store (way homes given from args) (record { home = from; word = argument_word g k }) (pass_stores homes g to (suc k) args)) → d.stack (b + m.word) ≡ home_word c b m.home) →
            ((m : Move) → In m (with_load (way homes given from args) (argument_word g k) (pass_loads homes g to (suc k) args)) → home_word e b m.home ≡ f.stack (b + m.word)) →
            ((m : Move) → In m (pass_loads homes g to 0 all) → Earlier k m ⊎ In m (with_load (way homes given from args) (argument_word g k) (pass_loads homes g to (suc k) args))) →
            IsCopied (way homes given from args) d f → ArrivesAt b given (argument_word g k) (home_word c b from) e
        one_arrives None is from usable_from framed stores loads split one = tt
        one_arrives (Some (Frame p)) is from usable_from framed stores loads split one = stack_left (b + argument_word g k) ∙ stores (record { home = from; word = argument_word g k }) (inl refl)
        one_arrives (Some (Reg r)) is (Frame o) usable_from framed stores loads split one =
            let low = framed o refl in
            loads (record { home = Reg r; word = o }) (inl refl) ∙ (ap (λ s. s (b + o)) done.stack ∙ low_left (b + o) (omega arith))
        one_arrives (Some (Reg r)) is (Reg s) usable_from framed stores loads split one = by (comes_from homes r args) stores loads split one
          where
            by : (t : Bool) → ((m : Move) → In m (with_store (cond t (swapped r) (copied r s)) (record { home = Reg s; word = argument_word g k }) (pass_stores homes g to (suc k) args)) → d.stack (b + m.word) ≡ home_word c b m.home) →
                ((m : Move) → In m (with_load (cond t (swapped r) (copied r s)) (argument_word g k) (pass_loads homes g to (suc k) args)) → home_word e b m.home ≡ f.stack (b + m.word)) →
                ((m : Move) → In m (pass_loads homes g to 0 all) → Earlier k m ⊎ In m (with_load (cond t (swapped r) (copied r s)) (argument_word g k) (pass_loads homes g to (suc k) args))) →
                IsCopied (cond t (swapped r) (copied r s)) d f → e.registers r ≡ c.registers s
            by true stores loads split one =
                loads (record { home = Reg r; word = argument_word g k }) (inl refl) ∙ (ap (λ m. m (b + argument_word g k)) done.stack ∙ stores (record { home = Reg s; word = argument_word g k }) (inl refl))
            by false stores loads split one =
                restored.registers r (apart_from 5 r refl (usable k (Reg r) is)) (apart_from 6 r refl (usable k (Reg r) is)) (λ m i same. unloaded m same (split m i))
                ∙ (one ∙ saved.registers s (apart_from 5 s refl usable_from) (apart_from 6 s refl usable_from))
              where
                unloaded : (m : Move) → m.home ≡ Reg r → Earlier k m ⊎ In m (pass_loads homes g to (suc k) args) → ⊥
                unloaded m same (inl h) =
                    let one = one_register h.2 r (sym h.4 ∙ same) in
                    let index = apart h.0 k r (h.3 ∙ ap (λ x. Some (Reg x)) one) is in
                    let less = h.1 in
                    absurd (omega arith)
                unloaded m same (inr i) = loads_later k args r m later is i same

      arrive : (k : ℕ) (args : List ℕ) → AllByRecursion (IsFound homes g) args → ((m : Move) → In m (pass_stores homes g to k args) → d.stack (b + m.word) ≡ home_word c b m.home) →
          ((m : Move) → In m (pass_loads homes g to k args) → home_word e b m.home ≡ f.stack (b + m.word)) → ((m : Move) → In m (pass_loads homes g to 0 all) → Earlier k m ⊎ In m (pass_loads homes g to k args)) →
          AreCopied k args d f → AreArrived homes g to b k args c e
      arrive k [] here stores loads split one = tt
      arrive k (a ∷ args) here stores loads split one = (
        one_arrives k a args here.1 (homes.given to k) refl (variable_home homes a) here.0.0 here.0.1 stores loads split one.0,
        arrive (suc k) args here.1 (λ m i. stores m (rest_store (way_at homes g to k a args) (record { home = variable_home homes a; word = argument_word g k }) m (pass_stores homes g to (suc k) args) i))
            (λ m i. loads m (rest_load (way_at homes g to k a args) (argument_word g k) m (pass_loads homes g to (suc k) args) i)) (λ m i. on m (split m i)) one.1,
      )
        where
          on : (m : Move) → Earlier k m ⊎ In m (pass_loads homes g to k (a ∷ args)) → Earlier (suc k) m ⊎ In m (pass_loads homes g to (suc k) args)
          on m (inl h) = let less = h.1 in inl (h.0, omega arith, h.2, h.3, h.4)
          on m (inr i) = ⊎_elim (λ (h : IsFirst k m). inl (k, omega arith, h.register, h.given, h.home)) (λ (j : In m (pass_loads homes g to (suc k) args)). inr j) (load_or_rest k a args m (pass_loads homes g to (suc k) args) here.0 i)

      all_passed : Passed homes g to b all c e
      all_passed = record {
        rest = rest_on c f e (rest_on c d f saved.rest (copied_rest all d f done)) restored.rest;
        below = λ x lt. stack_left x ∙ low_left x lt;
        arrived = arrive 0 all found saved.got restored.got (λ m i. inr i) done.are;
      }

    -- the words of the call
    module _ (image : Image) (z : Sizes) (few : z.stack ≤ 8388608) (args : List ℕ) (found : AllByRecursion (IsFound homes g) args) (room : b + (g.words + (frame_head + length args)) ≤ z.stack) where
      no_store_home : NoWordIsHome (pass_stores homes g to 0 args)
      no_store_home m n i j same =
          let s = in_stores 0 args m i in
          let t = in_stores 0 args n j in
          let low = (found_at args found t.place t.variable t.at).1 m.word (sym t.home ∙ same) in
          let word = s.word in
          absurd (omega arith)

      stores_usable : AreUsable (pass_stores homes g to 0 args)
      stores_usable m i = let s = in_stores 0 args m i in subst IsUsable (sym s.home) (found_at args found s.place s.variable s.at).0

      stores_inside : AreInside z b (pass_stores homes g to 0 args)
      stores_inside m i =
          let s = in_stores 0 args m i in
          let place = slice_get_within args s.place s.variable s.at in
          let word = s.word in
          (omega arith, λ o e. (let low = (found_at args found s.place s.variable s.at).1 o (sym s.home ∙ e) in omega arith))

      loads_usable : AreUsable (pass_loads homes g to 0 args)
      loads_usable m i = let l = in_loads 0 args m found i in subst IsUsable (sym l.home) (usable l.index (Reg l.register) l.given)

      no_frame : (r o : ℕ) → Reg r ≡ Frame o → ⊥
      no_frame r o same = cc

      no_load_home : NoWordIsHome (pass_loads homes g to 0 args)
      no_load_home m n i j same = let l = in_loads 0 args n found j in no_frame l.register m.word (sym l.home ∙ same)

      loads_inside : AreInside z b (pass_loads homes g to 0 args)
      loads_inside m i =
          let l = in_loads 0 args m found i in
          let inside = l.inside in
          (omega arith, λ o e. absurd (no_frame l.register o (sym l.home ∙ e)))

      pub passes_go : {at : ℕ} {s : Core} {n i : ℕ} (c : Core) (ws : List Word) → c.registers 2 ≡ stack_base + 8 * b → Going image z at s n i c (pass_words homes g to args ++ ws) →
          (e : Core) × Passed homes g to b args c e × Going image z at s (n + pass_size homes g to args) (i + pass_size homes g to args) e ws
      passes_go {at} {s} {n} {i} c ws two h =
          let stores = pass_stores homes g to 0 args in
          let loads = pass_loads homes g to 0 args in
          let copies = pass_copies homes g to 0 args in
          let words : (save_words stores ++ (copies ++ restore_words loads)) ++ ws ≡ save_words stores ++ (copies ++ (restore_words loads ++ ws)) =
          append_assoc (save_words stores) (copies ++ restore_words loads) ws ∙ ap (λ xs. save_words stores ++ xs) (append_assoc copies (restore_words loads) ws) in
          let h0 = subst (λ xs. Going image z at s n i c xs) words h in
          let saved = homes_saved image z few b stores c (copies ++ (restore_words loads ++ ws)) (stores_apart 0 args) no_store_home stores_usable stores_inside two h0 in
          let done = copies_go image z at s (restore_words loads ++ ws) 0 args (n + save_size stores) (i + save_size stores) saved.core saved.going in
          let kept = rest_on c saved.core done.0 saved.is.rest (copied_rest args saved.core done.0 done.1) in
          let restored = homes_restored image z few b loads done.0 ws (loads_apart 0 args found) no_load_home loads_usable loads_inside (kept.frame_register ∙ two) done.2 in (
            restored.core,
            all_passed args found c saved.core done.0 restored.core saved.is done.1 restored.is,
            is_place image z (n + pass_size homes g to args) (i + pass_size homes g to args) (omega arith) (omega arith) restored.going,
          )
