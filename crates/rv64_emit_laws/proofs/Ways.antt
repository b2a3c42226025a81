-- The way back of a frame: the words that bring it from register 1 into its word of the frame, and back. A leaf has none of them.
use Rattle.std.proofs.Common.{◌≡◌, ℕ, ◌+◌, ◌*◌, ◌%◌, ◌^◌, ◌<◌, ◌≤◌, Bool, true, false, cond, refl, sym, ap, ◌∙◌, arith, List, [], ◌∷◌, ◌++◌, pos}
use Rattle.rv64_emit_laws.specs.layout.Homes.{FunctionHomes}
use Rattle.rv64_emit_laws.specs.layout.Items.{keep_way_size, keep_way_words, take_way_words}
use Rattle.rv64_emit_laws.proofs.Relation.{way_of}
use Rattle.rv64_words.specs.declared.image.Image.{Image}
use Rattle.rv64_words.specs.declared.word.Word.{Word}
use Rattle.rv64_words.specs.declared.word.Word.TheVariants.{Ld, Sd}
use Rattle.rv64_words.specs.Region.{Sizes, stack_base}
use Rattle.rv64_words.proofs.Assigned.{assigned_here, assigned_same}
use Rattle.rv64_words_laws.specs.stretches.Core.{Core, put, written}
use Rattle.rv64_words_laws.proofs.lemmas.stretches.Cores.{written_same}
use Rattle.rv64_words_laws.proofs.lemmas.stretches.Going.{Going, is_core, is_place, load, store}

-- a frame whose way back is where it was has the same one
pub way_stays : (leaf : Bool) (c e : Core) (b : ℕ) → e.registers 1 ≡ c.registers 1 → e.stack b ≡ c.stack b → way_of leaf e b ≡ way_of leaf c b
way_stays true c e b link word = link
way_stays false c e b link word = word

-- the core when the way back is kept in word n of the stack, if it has to be
abbrev pub kept_way : Bool → Core → ℕ → Core
kept_way leaf e n = put e n (cond leaf (e.stack n) (e.registers 1))

pub kept_way_is : (leaf : Bool) (e : Core) (n : ℕ) → way_of leaf (kept_way leaf e n) n ≡ e.registers 1
kept_way_is true e n = refl
kept_way_is false e n = assigned_here e.stack n (e.registers 1)

-- and when it is in register 1
abbrev pub taken_way : Bool → Core → ℕ → Core
taken_way leaf e n = written e 1 (way_of leaf e n)

at_base : (x n : ℕ) → n < 8388608 → x ≡ stack_base + 8 * n → (x + 0) % 2 ^ 64 ≡ stack_base + 8 * n
at_base x n few is = ap (λ y. (y + 0) % 2 ^ 64) is ∙ omega arith

module _ (image : Image) (z : Sizes) (few : z.stack ≤ 8388608) (homes : FunctionHomes) where
  pub keep_goes : {k : ℕ} {c : Core} {n j : ℕ} {e : Core} {ws : List Word} (b : ℕ) → e.registers 2 ≡ stack_base + 8 * b → b < z.stack → Going image z k c n j e (keep_way_words homes ++ ws) →
      Going image z k c (n + keep_way_size homes) (j + keep_way_size homes) (kept_way homes.leaf e b) ws
  keep_goes {k} {c} {n} {j} {e} {ws} b two inside g = by homes.leaf g
    where
      by : (leaf : Bool) → Going image z k c n j e (cond leaf [] (Sd 2 1 (pos 0) ∷ []) ++ ws) → Going image z k c (n + cond leaf 0 1) (j + cond leaf 0 1) (put e b (cond leaf (e.stack b) (e.registers 1))) ws
      by true h = is_core image z (put e b (e.stack b)) (ap (λ f. record e { stack = f }) (sym (assigned_same e.stack b))) (is_place image z (n + 0) (j + 0) (omega arith) (omega arith) h)
      by false h = store image z b (at_base (e.registers 2) b (omega arith) two) inside h

  pub take_goes : {k : ℕ} {c : Core} {n j : ℕ} {e : Core} {ws : List Word} (b : ℕ) → e.registers 2 ≡ stack_base + 8 * b → b < z.stack → Going image z k c n j e (take_way_words homes ++ ws) →
      Going image z k c (n + keep_way_size homes) (j + keep_way_size homes) (taken_way homes.leaf e b) ws
  take_goes {k} {c} {n} {j} {e} {ws} b two inside g = by homes.leaf g
    where
      by : (leaf : Bool) → Going image z k c n j e (cond leaf [] (Ld 1 2 (pos 0) ∷ []) ++ ws) → Going image z k c (n + cond leaf 0 1) (j + cond leaf 0 1) (written e 1 (cond leaf (e.registers 1) (e.stack b))) ws
      by true h = is_core image z (written e 1 (e.registers 1)) (sym (written_same e 1)) (is_place image z (n + 0) (j + 0) (omega arith) (omega arith) h)
      by false h = load image z b (at_base (e.registers 2) b (omega arith) two) inside h
