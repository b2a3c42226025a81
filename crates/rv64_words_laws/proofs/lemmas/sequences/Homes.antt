-- What a home has comes into a register, and what a register has into a home.
use Rattle.std.proofs.Common.{◌≡◌, ◌≢◌, ℕ, zero, suc, ◌+◌, ◌*◌, ◌/◌, ◌^◌, ◌≤◌, Bool, true, false, true≢false, IsTrue, refl, sym, ap, ◌∙◌, subst, arith, List, [], ◌∷◌, ◌++◌, append_assoc}
use Rattle.bril_tree.specs.declared.home.Home.{Home}
use Rattle.bril_tree.specs.declared.home.Home.TheVariants.{Reg, Frame}
use Rattle.bril_tree.specs.Home.{is_home_register}
use Rattle.rv64_words.specs.declared.image.Image.{Image}
use Rattle.rv64_words.specs.declared.word.Word.{Word}
use Rattle.rv64_words.specs.Region.{Sizes, stack_base, most_stack}
use Rattle.rv64_words_laws.specs.stretches.Core.{Core, Keeps, KeepsBut, written, put}
use Rattle.rv64_words.proofs.Assigned.{assigned_here, assigned_other}
use Rattle.rv64_words_laws.proofs.lemmas.stretches.Cores.{apart_from, written_here, written_other}
use Rattle.rv64_words_laws.proofs.lemmas.stretches.Going.{Going, plain, is_core, is_place}
use Rattle.rv64_words_laws.specs.sequences.Frames.{address_left, addressed}
use Rattle.rv64_words_laws.specs.sequences.Moves.{operand_words, operand_size, operand_register, result_words, result_size, result_register, fill_words, fill_size, copy_words, copy_size, home_word, is_temporary, KeepsRest, Fetched, Filled, IsUsable, IsHomeInside}
use Rattle.rv64_words_laws.specs.sequences.Sequences.{copied_word, load_words, store_words, load_size, store_size}
use Rattle.rv64_words_laws.proofs.lemmas.sequences.Frames.{frame_load, frame_store}
use Rattle.rv64_words_laws.proofs.lemmas.sequences.Kept.{keeps_itself, keeps_written, keeps_temporary, temporary_apart}

pub two_not_six : ◌≢◌ {A = ℕ} 2 6
two_not_six = λ e. absurd (omega arith)

pub five_not_six : ◌≢◌ {A = ℕ} 5 6
five_not_six = λ e. absurd (omega arith)

-- ---- registers that got what homes have

-- register 6 may have got an address
pub addressed_keeps : (e : Core) (o : ℕ) → Keeps e (addressed e 2 o)
addressed_keeps e o = keeps_written e e 5 (address_left e 2 o) refl refl refl refl refl (keeps_itself e)

pub fetched_itself : (b s : ℕ) (e : Core) → Fetched b s (Reg s) e e
fetched_itself b s e = record { keeps = keeps_itself e; got = refl; others = λ r ne six. refl }

pub fetched_loaded : (b r o : ℕ) (e : Core) → IsTrue (is_temporary r) → Fetched b r (Frame o) e (written (addressed e 2 o) r (e.stack (b + o)))
fetched_loaded b r o e t = record {
  keeps = keeps_temporary e (addressed e 2 o) r (e.stack (b + o)) t (addressed_keeps e o);
  got = written_here (addressed e 2 o) r (e.stack (b + o)) (λ same. temporary_apart r 0 refl t (sym same));
  others = λ s ne six. written_other (addressed e 2 o) r (e.stack (b + o)) s ne ∙ assigned_other e.registers 6 (address_left e 2 o) s six;
}

pub fetched_copied : (b r s : ℕ) (e : Core) → IsTrue (is_temporary r) → Fetched b r (Reg s) e (written e r (e.registers s))
fetched_copied b r s e t = record {
  keeps = keeps_temporary e e r (e.registers s) t (keeps_itself e);
  got = written_here e r (e.registers s) (λ same. temporary_apart r 0 refl t (sym same));
  others = λ q ne six. written_other e r (e.registers s) q ne;
}

-- ---- homes that were filled

module _ (b : ℕ) where
  -- another home of what is kept
  pub home_kept : (c d : Core) (h : Home) → Keeps c d → IsUsable h → home_word d b h ≡ home_word c b h
  home_kept c d (Reg r) k u = k.homes r u
  home_kept c d (Frame o) k u = ap (λ f. f (b + o)) k.stack

  rest_on : (c d e : Core) → (r : ℕ) → KeepsBut r c d → KeepsRest d e → KeepsRest c e
  rest_on c d e r k f = record {
    zero_register = f.zero_register ∙ k.zero_register;
    link_register = f.link_register ∙ k.link_register;
    frame_register = f.frame_register ∙ k.frame_register;
    frames_left = f.frames_left ∙ k.frames_left;
    table = f.table ∙ k.table;
    cells = f.cells ∙ k.cells;
    blocks = f.blocks ∙ k.blocks;
    next_free = f.next_free ∙ k.next_free;
    printed = f.printed ∙ k.printed;
    arrivals = f.arrivals ∙ k.arrivals;
  }

  -- what an operation left in a register came into a home, which is that register or not
  pub filled_after : (any : Bool) (home : Home) (c d e : Core) (w : ℕ) → KeepsBut (result_register any home) c d → d.registers (result_register any home) ≡ w → IsUsable home →
      Filled b home (d.registers (result_register any home)) d e → Filled b home w c e
  filled_after any home c d e w k is usable f = record {
    rest = rest_on c d e (result_register any home) k f.rest;
    got = f.got ∙ is;
    others = others;
    stack = λ x none. f.stack x none ∙ ap (λ g. g x) k.stack;
  }
    where
      apart : (any : Bool) (home : Home) (r : ℕ) → IsTrue (is_home_register r) → Reg r ≢ home → r ≢ result_register any home
      apart true (Reg s) r u ne same = ne (ap Reg same)
      apart true (Frame o) r u ne same = apart_from 5 r refl u same
      apart false home r u ne same = apart_from 5 r refl u same

      others : (h : Home) → IsUsable h → h ≢ home → home_word e b h ≡ home_word c b h
      others (Reg r) u ne = f.others (Reg r) u ne ∙ k.homes r u (apart any home r u ne)
      others (Frame o) u ne = f.others (Frame o) u ne ∙ ap (λ g. g (b + o)) k.stack

  pub filled_from_kept : (home : Home) (c d e : Core) (w : ℕ) → Keeps c d → Filled b home w d e → Filled b home w c e
  filled_from_kept home c d e w k f = record {
    rest = record {
      zero_register = f.rest.zero_register ∙ k.zero_register;
      link_register = f.rest.link_register ∙ k.link_register;
      frame_register = f.rest.frame_register ∙ k.frame_register;
      frames_left = f.rest.frames_left ∙ k.frames_left;
      table = f.rest.table ∙ k.table;
      cells = f.rest.cells ∙ k.cells;
      blocks = f.rest.blocks ∙ k.blocks;
      next_free = f.rest.next_free ∙ k.next_free;
      printed = f.rest.printed ∙ k.printed;
      arrivals = f.rest.arrivals ∙ k.arrivals;
    };
    got = f.got;
    others = λ h u ne. f.others h u ne ∙ home_kept c d h k u;
    stack = λ x none. f.stack x none ∙ ap (λ g. g x) k.stack;
  }

  pub filled_itself : (s : ℕ) (e : Core) → Filled b (Reg s) (e.registers s) e e
  filled_itself s e = record {
    rest = record { zero_register = refl; link_register = refl; frame_register = refl; frames_left = refl; table = refl; cells = refl; blocks = refl; next_free = refl; printed = refl; arrivals = refl };
    got = refl;
    others = λ h u ne. refl;
    stack = λ k none. refl;
  }

  -- a register that is a home gets a value
  pub filled_register : (s : ℕ) (e : Core) (v : ℕ) → IsUsable (Reg s) → Filled b (Reg s) v e (written e s v)
  filled_register zero e v u = absurd (true≢false (sym u))
  filled_register (suc s) e v u = record {
    rest = record { zero_register = other 0 refl; link_register = other 1 refl; frame_register = other 2 refl; frames_left = other 8 refl; table = refl; cells = refl; blocks = refl; next_free = refl; printed = refl; arrivals = refl };
    got = assigned_here e.registers (suc s) v;
    others = others;
    stack = λ k none. refl;
  }
    where
      other : (r : ℕ) → is_home_register r ≡ false → (written e (suc s) v).registers r ≡ e.registers r
      other r none = assigned_other e.registers (suc s) v r (λ same. apart_from r (suc s) none u (sym same))

      others : (h : Home) → IsUsable h → h ≢ Reg (suc s) → home_word (written e (suc s) v) b h ≡ home_word e b h
      others (Reg r) usable ne = assigned_other e.registers (suc s) v r (λ same. ne (ap Reg same))
      others (Frame o) usable ne = refl

  -- a word of the frame does
  pub filled_stored : (r o : ℕ) (e : Core) → Filled b (Frame o) (e.registers r) e (put (addressed e 2 o) (b + o) (e.registers r))
  filled_stored r o e = record {
    rest = record { zero_register = refl; link_register = refl; frame_register = refl; frames_left = refl; table = refl; cells = refl; blocks = refl; next_free = refl; printed = refl; arrivals = refl };
    got = assigned_here e.stack (b + o) (e.registers r);
    others = others;
    stack = λ k none. assigned_other e.stack (b + o) (e.registers r) k (none o refl);
  }
    where
      not_word : (q : ℕ) → Frame q ≢ Frame o → b + q ≢ b + o
      not_word q ne e = ne (ap Frame (let same : q ≡ o = omega arith in same))

      others : (h : Home) → IsUsable h → h ≢ Frame o → home_word (put (addressed e 2 o) (b + o) (e.registers r)) b h ≡ home_word e b h
      others (Reg s) u ne = assigned_other e.registers 6 (address_left e 2 o) s (apart_from 6 s refl u)
      others (Frame q) u ne = assigned_other e.stack (b + o) (e.registers r) (b + q) (not_word q ne)

-- ---- the words

whole : (x : ℕ) → x / 2 ^ 0 ≡ x
whole x = omega arith

module _ (image : Image) (z : Sizes) where
  -- a register gets what another has
  pub register_copied : {k : ℕ} {c : Core} {n j : ℕ} {e : Core} {ws : List Word} → (r s : ℕ) → Going image z k c n j e (copied_word r s ∷ ws) → Going image z k c (n + 1) (j + 1) (written e r (e.registers s)) ws
  register_copied {e = e} r s g = is_core image z (written e r (e.registers s)) (ap (written e r) (whole (e.registers s))) (plain image z tt g)

  -- a register of an operation gets what a home has
  pub operand_goes : {k : ℕ} {c : Core} {n j : ℕ} {e : Core} {ws : List Word} (b : ℕ) (any : Bool) (r : ℕ) (home : Home) → z.stack ≤ most_stack → e.registers 2 ≡ stack_base + 8 * b →
      IsTrue (is_temporary r) → IsUsable home → IsHomeInside z b home → Going image z k c n j e (operand_words any r home ++ ws) →
      (d : Core) × Fetched b (operand_register any r home) home e d × Going image z k c (n + operand_size any home) (j + operand_size any home) d ws
  operand_goes {k} {c} {n} {j} {e} {ws} b true r (Reg s) few two t usable inside g = (e, fetched_itself b s e, is_place image z (n + 0) (j + 0) (omega arith) (omega arith) g)
  operand_goes {k} {c} {n} {j} {e} {ws} b true r (Frame o) few two t usable inside g =
      (written (addressed e 2 o) r (e.stack (b + o)), fetched_loaded b r o e t, frame_load image z 2 r b o two_not_six (record { base = two; inside = inside o refl; few = few }) g)
  operand_goes {k} {c} {n} {j} {e} {ws} b false r (Reg s) few two t usable inside g = (written e r (e.registers s), fetched_copied b r s e t, register_copied r s g)
  operand_goes {k} {c} {n} {j} {e} {ws} b false r (Frame o) few two t usable inside g =
      (written (addressed e 2 o) r (e.stack (b + o)), fetched_loaded b r o e t, frame_load image z 2 r b o two_not_six (record { base = two; inside = inside o refl; few = few }) g)

  -- a home gets what a register has
  pub fill_goes : {k : ℕ} {c : Core} {n j : ℕ} {e : Core} {ws : List Word} (b r : ℕ) (home : Home) → z.stack ≤ most_stack → e.registers 2 ≡ stack_base + 8 * b →
      r ≢ 6 → IsUsable home → IsHomeInside z b home → Going image z k c n j e (fill_words r home ++ ws) →
      (d : Core) × Filled b home (e.registers r) e d × Going image z k c (n + fill_size home) (j + fill_size home) d ws
  fill_goes {k} {c} {n} {j} {e} {ws} b r (Reg s) few two ne usable inside g = (written e s (e.registers r), filled_register b s e (e.registers r) usable, register_copied s r g)
  fill_goes {k} {c} {n} {j} {e} {ws} b r (Frame o) few two ne usable inside g =
      (put (addressed e 2 o) (b + o) (e.registers r), filled_stored b r o e, frame_store image z 2 r b o two_not_six ne (record { base = two; inside = inside o refl; few = few }) g)

  -- the result of an operation
  pub result_goes : {k : ℕ} {c : Core} {n j : ℕ} {e : Core} {ws : List Word} (b : ℕ) (any : Bool) (home : Home) → z.stack ≤ most_stack → e.registers 2 ≡ stack_base + 8 * b →
      IsUsable home → IsHomeInside z b home → Going image z k c n j e (result_words any home ++ ws) →
      (d : Core) × Filled b home (e.registers (result_register any home)) e d × Going image z k c (n + result_size any home) (j + result_size any home) d ws
  result_goes {k} {c} {n} {j} {e} {ws} b true (Reg s) few two usable inside g = (e, filled_itself b s e, is_place image z (n + 0) (j + 0) (omega arith) (omega arith) g)
  result_goes {k} {c} {n} {j} {e} {ws} b true (Frame o) few two usable inside g = fill_goes b 5 (Frame o) few two five_not_six usable inside g
  result_goes {k} {c} {n} {j} {e} {ws} b false home few two usable inside g = fill_goes b 5 home few two five_not_six usable inside g

  -- what another home has
  pub copy_goes : {k : ℕ} {c : Core} {n j : ℕ} {e : Core} {ws : List Word} (b : ℕ) (dest from : Home) → z.stack ≤ most_stack → e.registers 2 ≡ stack_base + 8 * b →
      IsUsable dest → IsHomeInside z b dest → IsUsable from → IsHomeInside z b from → Going image z k c n j e (copy_words dest from ++ ws) →
      (d : Core) × Filled b dest (home_word e b from) e d × Going image z k c (n + copy_size dest from) (j + copy_size dest from) d ws
  copy_goes {k} {c} {n} {j} {e} {ws} b dest (Reg s) few two usable inside usable_from inside_from g = fill_goes b s dest few two (apart_from 6 s refl usable_from) usable inside g
  copy_goes {k} {c} {n} {j} {e} {ws} b (Reg r) (Frame o) few two usable inside usable_from inside_from g =
      let g0 = subst (λ x. Going image z k c n j e x) (append_assoc (load_words r o) [] ws) g in
      let g1 = frame_load image z 2 r b o two_not_six (record { base = two; inside = inside_from o refl; few = few }) g0 in (
        written (addressed e 2 o) r (e.stack (b + o)),
        filled_from_kept b (Reg r) e (addressed e 2 o) _ (e.stack (b + o)) (addressed_keeps e o) (filled_register b r (addressed e 2 o) (e.stack (b + o)) usable),
        is_place image z (n + (load_size o + 0)) (j + (load_size o + 0)) (omega arith) (omega arith) g1,
      )
  copy_goes {k} {c} {n} {j} {e} {ws} b (Frame p) (Frame o) few two usable inside usable_from inside_from g =
      let g0 = subst (λ x. Going image z k c n j e x) (append_assoc (load_words 5 o) (store_words 5 p) ws) g in
      let g1 = frame_load image z 2 5 b o two_not_six (record { base = two; inside = inside_from o refl; few = few }) g0 in
      let d = written (addressed e 2 o) 5 (e.stack (b + o)) in
      let g2 = frame_store image z 2 5 b p two_not_six five_not_six (record { base = two; inside = inside p refl; few = few }) g1 in (
        put (addressed d 2 p) (b + p) (e.stack (b + o)),
        filled_from_kept b (Frame p) e d _ (e.stack (b + o)) (fetched_loaded b 5 o e refl).keeps (filled_stored b 5 p d),
        is_place image z (n + (load_size o + store_size p)) (j + (load_size o + store_size p)) (omega arith) (omega arith) g2,
      )
