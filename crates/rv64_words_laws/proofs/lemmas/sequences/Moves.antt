-- Homes are brought into words of the frame, and back.
use Rattle.std.proofs.Common.{◌≡◌, ◌≢◌, ℕ, ◌+◌, ◌*◌, ◌<◌, ◌≤◌, inl, inr, refl, sym, ap, ◌∙◌, subst, arith, List, [], ◌∷◌, ◌++◌, append_assoc}
use Rattle.bril_tree.specs.Membership.{In}
use Rattle.bril_tree.specs.declared.home.Home.{Home}
use Rattle.bril_tree.specs.declared.home.Home.TheVariants.{Reg, Frame}
use Rattle.rv64_words.specs.declared.image.Image.{Image}
use Rattle.rv64_words.specs.declared.word.Word.{Word}
use Rattle.rv64_words.specs.Region.{Sizes, stack_base}
use Rattle.rv64_words.specs.State.{assigned}
use Rattle.rv64_words_laws.specs.stretches.Core.{Core, written, put}
use Rattle.rv64_words.proofs.Assigned.{assigned_here, assigned_other}
use Rattle.rv64_words_laws.proofs.lemmas.stretches.Cores.{apart_from, written_other}
use Rattle.rv64_words_laws.proofs.lemmas.stretches.Going.{Going, is_place}
use Rattle.rv64_words_laws.specs.sequences.Frames.{address_left, addressed}
use Rattle.rv64_words_laws.specs.sequences.Sequences.{load_words, store_words, load_size, store_size}
use Rattle.rv64_words_laws.proofs.lemmas.sequences.Frames.{frame_load, frame_store}
use Rattle.rv64_words_laws.proofs.lemmas.sequences.Homes.{two_not_six, five_not_six, addressed_keeps, fetched_loaded, filled_from_kept, filled_register, filled_stored}
use Rattle.rv64_words_laws.specs.sequences.Moves.{Move, save_one, restore_one, save_one_size, restore_one_size, save_words, restore_words, save_size, restore_size, home_word, Filled, IsUsable, Saved, Restored, AreWordsApart, AreHomesApart, NoWordIsHome, AreUsable, AreInside}

module _ (image : Image) (z : Sizes) (few : z.stack ≤ 8388608) (b : ℕ) where
  -- ---- one home into a word

  -- what is left of one move, whose word is w
  pub record OneSaved (o w : ℕ) (c e : Core) : Type 0 where
    pub registers : (r : ℕ) → r ≢ 5 → r ≢ 6 → e.registers r ≡ c.registers r
    pub stack : e.stack ≡ assigned c.stack (b + o) w
    pub table : e.table ≡ c.table
    pub cells : e.cells ≡ c.cells
    pub blocks : e.blocks ≡ c.blocks
    pub next_free : e.next_free ≡ c.next_free
    pub printed : e.printed ≡ c.printed
    pub arrivals : e.arrivals ≡ c.arrivals

  pub record AfterOne (P : Core → Type 0) (k : ℕ) (c : Core) (n j size : ℕ) (ws : List Word) : Type 0 where
    pub core : Core
    pub is : P core
    pub going : Going image z k c (n + size) (j + size) core ws

  pub one_saved : (h : Home) (o : ℕ) {k : ℕ} {c : Core} {n j : ℕ} (d : Core) (ws : List Word) → IsUsable h → d.registers 2 ≡ stack_base + 8 * b → b + o < z.stack → ((p : ℕ) → h ≡ Frame p → b + p < z.stack) →
      Going image z k c n j d (save_one h o ++ ws) → AfterOne (OneSaved o (home_word d b h) d) k c n j (save_one_size h o) ws
  one_saved (Reg r) o d ws usable two inside inside_home g = record {
    core = put (addressed d 2 o) (b + o) (d.registers r);
    is = record { registers = λ s five six. assigned_other d.registers 6 (address_left d 2 o) s six; stack = refl; table = refl; cells = refl; blocks = refl; next_free = refl; printed = refl; arrivals = refl };
    going = frame_store image z 2 r b o two_not_six (apart_from 6 r refl usable) (record { base = two; inside = inside; few = few }) g;
  }
  one_saved (Frame p) o {k} {c} {n} {j} d ws usable two inside inside_home g =
      let g0 = subst (λ x. Going image z k c n j d x) (append_assoc (load_words 5 p) (store_words 5 o) ws) g in
      let g1 = frame_load image z 2 5 b p two_not_six (record { base = two; inside = inside_home p refl; few = few }) g0 in
      let e = written (addressed d 2 p) 5 (d.stack (b + p)) in
      let g2 = frame_store image z 2 5 b o two_not_six five_not_six (record { base = two; inside = inside; few = few }) g1 in
      record {
        core = put (addressed e 2 o) (b + o) (d.stack (b + p));
        is = record {
          registers = λ s five six. assigned_other (assigned (assigned d.registers 6 (address_left d 2 p)) 5 (d.stack (b + p))) 6 _ s six ∙ (assigned_other (assigned d.registers 6 (address_left d 2 p)) 5 (d.stack (b + p)) s five ∙ assigned_other d.registers 6 _ s six);
          stack = refl;
          table = refl;
          cells = refl;
          blocks = refl;
          next_free = refl;
          printed = refl;
          arrivals = refl;
        };
        going = is_place image z (n + (load_size p + store_size o)) (j + (load_size p + store_size o)) (omega arith) (omega arith) g2;
      }

  -- ---- one home from a word

  -- what is left of one move, whose word is w
  pub record OneRestored (h : Home) (w : ℕ) (c e : Core) : Type 0 where
    pub filled : Filled b h w c e
    pub registers : (r : ℕ) → r ≢ 5 → r ≢ 6 → h ≢ Reg r → e.registers r ≡ c.registers r

  pub one_restored : (h : Home) (o : ℕ) {k : ℕ} {c : Core} {n j : ℕ} (d : Core) (ws : List Word) → IsUsable h → d.registers 2 ≡ stack_base + 8 * b → b + o < z.stack → ((p : ℕ) → h ≡ Frame p → b + p < z.stack) →
      Going image z k c n j d (restore_one h o ++ ws) → AfterOne (OneRestored h (d.stack (b + o)) d) k c n j (restore_one_size h o) ws
  one_restored (Reg r) o d ws usable two inside inside_home g = record {
    core = written (addressed d 2 o) r (d.stack (b + o));
    is = record {
      filled = filled_from_kept b (Reg r) d (addressed d 2 o) _ (d.stack (b + o)) (addressed_keeps d o) (filled_register b r (addressed d 2 o) (d.stack (b + o)) usable);
      registers = λ s five six ne. written_other (addressed d 2 o) r (d.stack (b + o)) s (λ same. ne (ap Reg (sym same))) ∙ assigned_other d.registers 6 (address_left d 2 o) s six;
    };
    going = frame_load image z 2 r b o two_not_six (record { base = two; inside = inside; few = few }) g;
  }
  one_restored (Frame p) o {k} {c} {n} {j} d ws usable two inside inside_home g =
      let g0 = subst (λ x. Going image z k c n j d x) (append_assoc (load_words 5 o) (store_words 5 p) ws) g in
      let g1 = frame_load image z 2 5 b o two_not_six (record { base = two; inside = inside; few = few }) g0 in
      let e = written (addressed d 2 o) 5 (d.stack (b + o)) in
      let g2 = frame_store image z 2 5 b p two_not_six five_not_six (record { base = two; inside = inside_home p refl; few = few }) g1 in
      record {
        core = put (addressed e 2 p) (b + p) (d.stack (b + o));
        is = record {
          filled = filled_from_kept b (Frame p) d e _ (d.stack (b + o)) (fetched_loaded b 5 o d refl).keeps (filled_stored b 5 p e);
          registers = λ s five six ne. assigned_other (assigned (assigned d.registers 6 (address_left d 2 o)) 5 (d.stack (b + o))) 6 _ s six ∙ (assigned_other (assigned d.registers 6 (address_left d 2 o)) 5 (d.stack (b + o)) s five ∙ assigned_other d.registers 6 _ s six);
        };
        going = is_place image z (n + (load_size o + store_size p)) (j + (load_size o + store_size p)) (omega arith) (omega arith) g2;
      }

  -- ---- all of them

  -- one more home was brought into its word
  more_saved : (m : Move) (moves : List Move) (d e last : Core) → IsUsable m.home → AreWordsApart (m ∷ moves) → NoWordIsHome (m ∷ moves) → AreUsable (m ∷ moves) →
      OneSaved m.word (home_word d b m.home) d e → Saved b moves e last → Saved b (m ∷ moves) d last
  more_saved m moves d e last usable apart none all one s = record {
    rest = record {
      zero_register = s.rest.zero_register ∙ one.registers 0 (λ x. absurd (omega arith)) (λ x. absurd (omega arith));
      link_register = s.rest.link_register ∙ one.registers 1 (λ x. absurd (omega arith)) (λ x. absurd (omega arith));
      frame_register = s.rest.frame_register ∙ one.registers 2 (λ x. absurd (omega arith)) (λ x. absurd (omega arith));
      frames_left = s.rest.frames_left ∙ one.registers 8 (λ x. absurd (omega arith)) (λ x. absurd (omega arith));
      table = s.rest.table ∙ one.table;
      cells = s.rest.cells ∙ one.cells;
      blocks = s.rest.blocks ∙ one.blocks;
      next_free = s.rest.next_free ∙ one.next_free;
      printed = s.rest.printed ∙ one.printed;
      arrivals = s.rest.arrivals ∙ one.arrivals;
    };
    registers = λ r five six. s.registers r five six ∙ one.registers r five six;
    got = got;
    others = λ k not. s.others k (λ n i. not n (inr i)) ∙ (ap (λ f. f k) one.stack ∙ assigned_other d.stack (b + m.word) (home_word d b m.home) k (not m (inl refl)));
  }
    where
      word_apart : (p q : ℕ) → p ≢ q → b + p ≢ b + q
      word_apart p q ne e = ne (omega arith)

      -- a home of a later move is as it was
      same_home : (h : Home) → IsUsable h → h ≢ Frame m.word → home_word e b h ≡ home_word d b h
      same_home (Reg r) u ne = one.registers r (apart_from 5 r refl u) (apart_from 6 r refl u)
      same_home (Frame o) u ne = ap (λ f. f (b + o)) one.stack ∙ assigned_other d.stack (b + m.word) (home_word d b m.home) (b + o) (word_apart o m.word (λ x. ne (ap Frame x)))

      got : (n : Move) → In n (m ∷ moves) → last.stack (b + n.word) ≡ home_word d b n.home
      got n (inl is) =
          let kept : last.stack (b + m.word) ≡ e.stack (b + m.word) = s.others (b + m.word) (λ x i. word_apart m.word x.word (λ y. apart.0 x i (sym y))) in
          let own : last.stack (b + m.word) ≡ home_word d b m.home = kept ∙ (ap (λ f. f (b + m.word)) one.stack ∙ assigned_here d.stack (b + m.word) (home_word d b m.home)) in
          subst (λ (x : Move). last.stack (b + x.word) ≡ home_word d b x.home) (sym is) own
      got n (inr i) = s.got n i ∙ same_home n.home (all n (inr i)) (none m n (inl refl) (inr i))

  pub homes_saved : (moves : List Move) {k : ℕ} {c : Core} {n j : ℕ} (d : Core) (ws : List Word) → AreWordsApart moves → NoWordIsHome moves → AreUsable moves → AreInside z b moves → d.registers 2 ≡ stack_base + 8 * b →
      Going image z k c n j d (save_words moves ++ ws) → AfterOne (Saved b moves d) k c n j (save_size moves) ws
  homes_saved [] {k} {c} {n} {j} d ws apart none usable inside two g = record {
    core = d;
    is = record {
      rest = record { zero_register = refl; link_register = refl; frame_register = refl; frames_left = refl; table = refl; cells = refl; blocks = refl; next_free = refl; printed = refl; arrivals = refl };
      registers = λ r five six. refl;
      got = λ m i. absurd i;
      others = λ x not. refl;
    };
    going = is_place image z (n + 0) (j + 0) (omega arith) (omega arith) g;
  }
  homes_saved (m ∷ moves) {k} {c} {n} {j} d ws apart none usable inside two g =
      let g0 = subst (λ x. Going image z k c n j d x) (append_assoc (save_one m.home m.word) (save_words moves) ws) g in
      let here = inside m (inl refl) in
      let one = one_saved m.home m.word d (save_words moves ++ ws) (usable m (inl refl)) two here.0 here.1 g0 in
      let more = homes_saved moves one.core ws apart.1 (λ x y i l. none x y (inr i) (inr l)) (λ x i. usable x (inr i)) (λ x i. inside x (inr i)) (one.is.registers 2 (λ x. absurd (omega arith)) (λ x. absurd (omega arith)) ∙ two) one.going in
      record {
        core = more.core;
        is = more_saved m moves d one.core more.core (usable m (inl refl)) apart none usable one.is more.is;
        going = is_place image z (n + (save_one_size m.home m.word + save_size moves)) (j + (save_one_size m.home m.word + save_size moves)) (omega arith) (omega arith) more.going;
      }

  -- one more home got its word
  more_restored : (m : Move) (moves : List Move) (d e last : Core) → AreHomesApart (m ∷ moves) → NoWordIsHome (m ∷ moves) → AreUsable (m ∷ moves) →
      OneRestored m.home (d.stack (b + m.word)) d e → Restored b moves e last → Restored b (m ∷ moves) d last
  more_restored m moves d e last apart none all one s = record {
    rest = record {
      zero_register = s.rest.zero_register ∙ one.filled.rest.zero_register;
      link_register = s.rest.link_register ∙ one.filled.rest.link_register;
      frame_register = s.rest.frame_register ∙ one.filled.rest.frame_register;
      frames_left = s.rest.frames_left ∙ one.filled.rest.frames_left;
      table = s.rest.table ∙ one.filled.rest.table;
      cells = s.rest.cells ∙ one.filled.rest.cells;
      blocks = s.rest.blocks ∙ one.filled.rest.blocks;
      next_free = s.rest.next_free ∙ one.filled.rest.next_free;
      printed = s.rest.printed ∙ one.filled.rest.printed;
      arrivals = s.rest.arrivals ∙ one.filled.rest.arrivals;
    };
    got = got;
    others = λ h u not. s.others h u (λ n i. not n (inr i)) ∙ one.filled.others h u (λ same. not m (inl refl) (sym same));
    registers = λ r five six not. s.registers r five six (λ n i. not n (inr i)) ∙ one.registers r five six (not m (inl refl));
    stack = λ k not. s.stack k (λ n o i. not n o (inr i)) ∙ one.filled.stack k (λ o is. not m o (inl refl) is);
  }
    where
      -- the word of a later move is as it was
      same_word : (n : Move) → In n moves → e.stack (b + n.word) ≡ d.stack (b + n.word)
      same_word n i = one.filled.stack (b + n.word) (λ o is same. none n m (inr i) (inl refl) (is ∙ ap Frame (let e : o ≡ n.word = omega arith in e)))

      got : (n : Move) → In n (m ∷ moves) → home_word last b n.home ≡ d.stack (b + n.word)
      got n (inl is) =
          let own : home_word last b m.home ≡ d.stack (b + m.word) = s.others m.home (all m (inl refl)) (λ x i. apart.0 x i) ∙ one.filled.got in
          subst (λ (x : Move). home_word last b x.home ≡ d.stack (b + x.word)) (sym is) own
      got n (inr i) = s.got n i ∙ same_word n i

  pub homes_restored : (moves : List Move) {k : ℕ} {c : Core} {n j : ℕ} (d : Core) (ws : List Word) → AreHomesApart moves → NoWordIsHome moves → AreUsable moves → AreInside z b moves → d.registers 2 ≡ stack_base + 8 * b →
      Going image z k c n j d (restore_words moves ++ ws) → AfterOne (Restored b moves d) k c n j (restore_size moves) ws
  homes_restored [] {k} {c} {n} {j} d ws apart none usable inside two g = record {
    core = d;
    is = record {
      rest = record { zero_register = refl; link_register = refl; frame_register = refl; frames_left = refl; table = refl; cells = refl; blocks = refl; next_free = refl; printed = refl; arrivals = refl };
      got = λ m i. absurd i;
      others = λ h u not. refl;
      registers = λ r five six not. refl;
      stack = λ x not. refl;
    };
    going = is_place image z (n + 0) (j + 0) (omega arith) (omega arith) g;
  }
  homes_restored (m ∷ moves) {k} {c} {n} {j} d ws apart none usable inside two g =
      let g0 = subst (λ x. Going image z k c n j d x) (append_assoc (restore_one m.home m.word) (restore_words moves) ws) g in
      let here = inside m (inl refl) in
      let one = one_restored m.home m.word d (restore_words moves ++ ws) (usable m (inl refl)) two here.0 here.1 g0 in
      let more = homes_restored moves one.core ws apart.1 (λ x y i l. none x y (inr i) (inr l)) (λ x i. usable x (inr i)) (λ x i. inside x (inr i)) (one.is.filled.rest.frame_register ∙ two) one.going in
      record {
        core = more.core;
        is = more_restored m moves d one.core more.core apart none usable one.is more.is;
        going = is_place image z (n + (restore_one_size m.home m.word + restore_size moves)) (j + (restore_one_size m.home m.word + restore_size moves)) (omega arith) (omega arith) more.going;
      }
