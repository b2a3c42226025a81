-- A block that is freed.
use Rattle.std.proofs.Common.{◌≡◌, ◌≢◌, ℕ, suc, ◌+◌, ◌-◌, ◌*◌, ◌%◌, ◌^◌, ◌<◌, ◌≤◌, ◌⊎◌, inl, inr, Bool, true, false, not, ◌&&◌, eqb, ltb, refl, sym, ap, ◌∙◌, subst, arith, List, length, Option, Some, None, ℤ, pos, negsuc}
use Rattle.std.specs.Prelude.{FitsSigned}
use Rattle.std.specs.Int.{w32, cast_unsigned}
use Rattle.std.proofs.lemmas.Bool.Decides.{nat_tests}
use Rattle.std.proofs.lemmas.Option.{slice_get_within}
use Rattle.bril_tree.specs.Memory.{live_block, changed, changed_block, ended_block, is_freeable}
use Rattle.bril_tree.specs.State.{Block}
use Rattle.rv64_words.specs.Region.{Sizes}
use Rattle.rv64_words.specs.State.{assigned}
use Rattle.rv64_words_laws.specs.stretches.Core.{Core, without_block}
use Rattle.rv64_words_laws.proofs.lemmas.stretches.Calls.{frees_block}
use Rattle.rv64_words.proofs.Assigned.{assigned_here, assigned_other}
use Rattle.rv64_words_laws.proofs.lemmas.values.Pointers.{block_part}
use Rattle.rv64_words_laws.specs.blocks.Memory.{BlockHolds, LiesIn, MemoryHolds}
use Rattle.rv64_words_laws.specs.blocks.Laws.{CoreHolds}
use Rattle.rv64_words_laws.proofs.lemmas.blocks.Finding.{live_is, live_size, size_found}
use Rattle.rv64_words_laws.proofs.lemmas.blocks.Lists.{IsChanged, IsOther, changed_length, changed_at}

-- ---- the test

offset_low : (block : ℕ) (offset : ℤ) → FitsSigned w32 offset → (block * 2 ^ 32 + cast_unsigned w32 offset) % 2 ^ 32 ≡ cast_unsigned w32 offset
offset_low block (pos n) fits = let f = fits.sfits in omega arith
offset_low block (negsuc n) fits = let f = fits.sfits in omega arith

abbrev free_test : ℕ → ℕ → ℕ → Bool
free_test low block size = eqb low 0 && (ltb block 262145 && not (eqb size 0))

-- the machine frees a block exactly where the program does
pub frees_alike : (z : Sizes) (blocks : List Block) (c : Core) → CoreHolds z blocks c → (block : ℕ) (offset : ℤ) → block ≤ length blocks → FitsSigned w32 offset → frees_block c (block * 2 ^ 32 + cast_unsigned w32 offset) ≡ is_freeable (live_block blocks block) offset
frees_alike z blocks c h block offset le fits =
    ap (λ x. free_test ((block * 2 ^ 32 + cast_unsigned w32 offset) % 2 ^ 32) x (c.table (2 * x + 1))) (block_part block offset fits)
    ∙ (ap (λ x. free_test x block (c.table (2 * block + 1))) (offset_low block offset fits)
    ∙ (ap (free_test (cast_unsigned w32 offset) block) (size_found z blocks c.table c.cells c.blocks c.next_free h block le)
    ∙ by (live_block blocks block) offset refl fits))
  where
    low : ltb block 262145 ≡ true
    low = let few = h.few in grind (arith, nat_tests)

    none_free : (x : ℕ) → free_test x block 0 ≡ false
    none_free x = by_test (eqb x 0) (ltb block 262145)
      where
        by_test : (a b : Bool) → (a && (b && not (eqb 0 0))) ≡ false
        by_test true true = refl
        by_test true false = refl
        by_test false b = refl

    some_size : (size : ℕ) → 1 ≤ size → not (eqb size 0) ≡ true
    some_size size some = grind (arith, nat_tests)

    and_true : (a : Bool) → (a && (true && true)) ≡ a
    and_true true = refl
    and_true false = refl

    by : (o : Option Block) (i : ℤ) → live_block blocks block ≡ o → FitsSigned w32 i → free_test (cast_unsigned w32 i) block (live_size o) ≡ is_freeable o i
    by None i e f = none_free (cast_unsigned w32 i)
    by (Some b) (pos n) e f =
        let l = live_is blocks block b e in
        ap (λ t. eqb n 0 && (t && not (eqb b.size 0))) low ∙ (ap (λ t. eqb n 0 && (true && t)) (some_size b.size (h.lies l.place b l.here l.live).some) ∙ and_true (eqb n 0))
    by (Some b) (negsuc n) e f =
        let small = f.sfits in
        let other : eqb (2 ^ 32 - suc n) 0 ≡ false = grind (arith, nat_tests) in
        ap (λ t. t && (ltb block 262145 && not (eqb b.size 0))) other

-- ---- the blocks with one freed

abbrev pub dead : Block → Block
dead b = ended_block

module _ (z : Sizes) (blocks : List Block) (table cells : ℕ → ℕ) (made next_free k : ℕ) (here : k < length blocks) (h : MemoryHolds z blocks table cells made next_free) where
  table_other : (i : ℕ) → i ≢ 2 * suc k + 1 → assigned table (2 * suc k + 1) 0 i ≡ table i
  table_other i ne = assigned_other table (2 * suc k + 1) 0 i ne

  not_live : (b : Block) (P : Type 0) → (dead b).is_live ≡ true → P
  not_live b P e = absurd (let x : false ≡ true = e in cc)

  each_now : (j : ℕ) (b : Block) → IsChanged dead blocks k j b ⊎ IsOther dead blocks k j b → BlockHolds (length blocks) (suc j) (h.first (suc j)) b (assigned table (2 * suc k + 1) 0) cells
  each_now j b (inl e) =
      let old = h.each k e.old e.here in
      let differ : 2 * suc k ≢ 2 * suc k + 1 = (λ x. absurd (omega arith)) in
      let now : BlockHolds (length blocks) (suc k) (h.first (suc k)) (dead e.old) (assigned table (2 * suc k + 1) 0) cells = record {
        address = table_other (2 * suc k) differ ∙ old.address;
        size = assigned_here table (2 * suc k + 1) 0;
        stored = λ live. not_live e.old _ live;
        fresh = λ live. not_live e.old _ live;
      } in
      subst (λ x. BlockHolds (length blocks) (suc j) (h.first (suc j)) x (assigned table (2 * suc k + 1) 0) cells) e.is
      (subst (λ x. BlockHolds (length blocks) (suc x) (h.first (suc x)) (dead e.old) (assigned table (2 * suc k + 1) 0) cells) (sym e.place) now)
  each_now j b (inr e) =
      let old = h.each j b e.here in
      let ne = e.place in
      record {
        address = table_other (2 * suc j) (λ x. absurd (omega arith)) ∙ old.address;
        size = table_other (2 * suc j + 1) (λ x. ne (omega arith)) ∙ old.size;
        stored = old.stored;
        fresh = old.fresh;
      }

  lies_now : (j : ℕ) (b : Block) → IsChanged dead blocks k j b ⊎ IsOther dead blocks k j b → b.is_live ≡ true → LiesIn next_free (h.first (suc j)) b
  lies_now j b (inl e) live = not_live e.old _ (ap (λ x. x.is_live) e.is ∙ live)
  lies_now j b (inr e) live = h.lies j b e.here live

  apart_now : (i j : ℕ) (a b : Block) → IsChanged dead blocks k i a ⊎ IsOther dead blocks k i a → IsChanged dead blocks k j b ⊎ IsOther dead blocks k j b → a.is_live ≡ true → b.is_live ≡ true → i ≢ j
      → (h.first (suc i) + a.size ≤ h.first (suc j)) ⊎ (h.first (suc j) + b.size ≤ h.first (suc i))
  apart_now i j a b (inl e) f live alive ne = not_live e.old _ (ap (λ x. x.is_live) e.is ∙ live)
  apart_now i j a b (inr e) (inl f) live alive ne = not_live f.old _ (ap (λ x. x.is_live) f.is ∙ alive)
  apart_now i j a b (inr e) (inr f) live alive ne = h.apart i j a b e.here f.here live alive ne

  pub one_less : MemoryHolds z (changed blocks k dead) (assigned table (2 * suc k + 1) 0) cells made next_free
  one_less =
      let long : length (changed blocks k dead) ≡ length blocks = changed_length dead blocks k in
      record {
        first = h.first;
        count = h.count ∙ sym long;
        few = subst (λ n. n ≤ 262144) (sym long) h.few;
        room = h.room;
        each = λ j b e. subst (λ n. BlockHolds n (suc j) (h.first (suc j)) b (assigned table (2 * suc k + 1) 0) cells) (sym long) (each_now j b (changed_at dead blocks k j b e));
        lies = λ j b e live. lies_now j b (changed_at dead blocks k j b e) live;
        apart = λ i j a b e f live alive ne. apart_now i j a b (changed_at dead blocks k i a e) (changed_at dead blocks k j b f) live alive ne;
        free = h.free;
        none = λ j lt. (let lower : length blocks < j = omega arith in table_other (2 * j + 1) (λ x. absurd (omega arith)) ∙ h.none j lower);
        zero_block = table_other 1 (λ x. absurd (omega arith)) ∙ h.zero_block;
      }

freeable_live : (o : Option Block) (offset : ℤ) → is_freeable o offset ≡ true → (b : Block) × (o ≡ Some b)
freeable_live None offset e = absurd (let x : false ≡ true = e in cc)
freeable_live (Some b) offset e = (b, refl)

-- the machine holds the blocks with that one freed
pub free_keeps : (z : Sizes) (blocks : List Block) (c : Core) → CoreHolds z blocks c → (block : ℕ) (offset : ℤ) → is_freeable (live_block blocks block) offset ≡ true → CoreHolds z (changed_block blocks block dead) (without_block block c)
free_keeps z blocks c h block offset e =
    let live = freeable_live (live_block blocks block) offset e in
    let l = live_is blocks block live.0 live.1 in
    subst (λ x. CoreHolds z (changed_block blocks x dead) (without_block x c)) (sym l.number)
    (one_less z blocks c.table c.cells c.blocks c.next_free l.place (slice_get_within blocks l.place live.0 l.here) h)
