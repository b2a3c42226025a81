-- Stretches of words: what they keep, and how they are joined.
use Rattle.std.proofs.Common.{◌≡◌, ℕ, zero, suc, ◌*◌, ◌<◌, ◌≤◌, ◌⊎◌, inl, inr, Bool, true, false, cond, refl, sym, ap, subst, arith, List, [], ◌∷◌, ◌++◌, append-nil, Some, None}
use Rattle.bril_tree.specs.declared.home.Home.{Home}
use Rattle.bril_tree.specs.declared.home.Home.TheVariants.{Reg, Frame}
use Rattle.bril_tree.specs.declared.limits.End.{End}
use Rattle.rv64_words_laws.specs.stretches.Core.{Core}
use Rattle.rv64_words_laws.specs.stretches.Runs.{Runs, Leaves, Ends}
use Rattle.rv64_words_laws.proofs.lemmas.stretches.Going.{Going}
use Rattle.rv64_words_laws.specs.sequences.Moves.{Move, copy_size, save_one_size, save_size}
use Rattle.rv64_words_laws.specs.sequences.Sequences.{constant_size, fits_12, fits_32, is_near, load_size, store_size}
pub use Rattle.rv64_words_laws.proofs.lemmas.sequences.Homes.{two_not_six}
pub use Rattle.rv64_words_laws.proofs.lemmas.values.Kept.{keeps_written}
use Rattle.rv64_words.specs.declared.image.Image.{Image}
use Rattle.rv64_words.specs.declared.word.Word.{Word}
use Rattle.rv64_words.specs.Region.{Sizes}
use Rattle.rv64_words.specs.State.{Finished}

-- words that stand alone are followed by none
pub with_end : {image : Image} {z : Sizes} {k : ℕ} {c : Core} {n j : ℕ} {e : Core} → (ws : List Word) → Going image z k c n j e ws → Going image z k c n j e (ws ++ [])
with_end {image} {z} {k} {c} {n} {j} {e} ws g = subst (λ xs. Going image z k c n j e xs) (sym (append-nil ws)) g

-- a stretch that ends at a word, after so many steps
pub landed : {image : Image} {z : Sizes} {k : ℕ} {c : Core} {n j : ℕ} {e : Core} {ws : List Word} → (m i : ℕ) → n ≡ m → j ≡ i → Going image z k c n j e ws → Runs image z k c m i e
landed {image} {z} {k} {c} {n} {j} {e} m i steps same g = subst (λ x. Runs image z k c x i e) steps (subst (λ x. Runs image z k c n x e) same g.runs)

pub store_some : (o : ℕ) → 1 ≤ store_size o
store_some o = by_test (is_near o)
  where
    by_test : (t : Bool) → 1 ≤ cond t 1 3
    by_test true = omega arith
    by_test false = omega arith

pub load_some : (o : ℕ) → 1 ≤ load_size o
load_some o = by_test (is_near o)
  where
    by_test : (t : Bool) → 1 ≤ cond t 1 3
    by_test true = omega arith
    by_test false = omega arith

pub in_steps : {image : Image} {z : Sizes} {k : ℕ} {c : Core} {n j : ℕ} {e : Core} → (m : ℕ) → n ≡ m → Runs image z k c n j e → Runs image z k c m j e
in_steps {image} {z} {k} {c} {n} {j} {e} m same r = subst (λ x. Runs image z k c x j e) same r

pub at_place : {image : Image} {z : Sizes} {k : ℕ} {c : Core} {n j : ℕ} {e : Core} → (i : ℕ) → j ≡ i → Runs image z k c n j e → Runs image z k c n i e
at_place {image} {z} {k} {c} {n} {j} {e} i same r = subst (λ x. Runs image z k c n x e) same r

pub leaves_in : {image : Image} {z : Sizes} {k : ℕ} {c : Core} {n bound j : ℕ} {e : Core} → (m : ℕ) → n ≡ m → Leaves image z k c n bound j e → Leaves image z k c m bound j e
leaves_in {image} {z} {k} {c} {n} {bound} {j} {e} m same r = subst (λ x. Leaves image z k c x bound j e) same r

pub ends_in : {image : Image} {z : Sizes} {k : ℕ} {c : Core} {n bound : ℕ} {how : End} {e : Core} → (m : ℕ) → n ≡ m → Ends image z k c n bound how e → Ends image z k c m bound how e
ends_in {image} {z} {k} {c} {n} {bound} {how} {e} m same r = subst (λ x. Ends image z k c x bound how e) same r

-- a stretch that comes to another word has steps
pub runs_some : {image : Image} {z : Sizes} {k : ℕ} {c : Core} {n j : ℕ} {e : Core} → k < j → Runs image z k c n j e → 1 ≤ n
runs_some {k = k} {n = zero} {j = j} lt r = let same : 4 * k ≡ 4 * j = ap (λ s. s.pc) (r.steps 0) in absurd (omega arith)
runs_some {n = suc n} lt r = omega arith

-- and so has one that comes to an end
pub ends_some : {image : Image} {z : Sizes} {k : ℕ} {c : Core} {n bound : ℕ} {how : End} {e : Core} → Ends image z k c n bound how e → 1 ≤ n
ends_some {n = zero} {how = how} r = absurd (runs_still how (ap (λ s. s.stopped) (r.steps 0)))
  where
    runs_still : (how : End) → None ≡ Some (Finished how) → ⊥
    runs_still how e = cc
ends_some {n = suc n} r = omega arith

pub constant_some : (n : ℕ) → 1 ≤ constant_size n
constant_some n = by_test (fits_12 n) (fits_32 n)
  where
    by_test : (t u : Bool) → 1 ≤ cond t 1 (cond u 2 8)
    by_test true u = omega arith
    by_test false true = omega arith
    by_test false false = omega arith

pub copy_some : (dest from : Home) → 1 ≤ copy_size dest from
copy_some (Reg r) (Reg s) = omega arith
copy_some (Frame o) (Reg s) = store_some o
copy_some dest (Frame p) = let some = load_some p in omega arith

pub save_one_some : (home : Home) (o : ℕ) → 1 ≤ save_one_size home o
save_one_some (Reg r) o = store_some o
save_one_some (Frame p) o = let some = load_some p in omega arith

-- moves without words are none
pub no_moves : (moves : List Move) → save_size moves ≡ 0 → moves ≡ []
no_moves [] none = refl
no_moves (m ∷ moves) none = let some = save_one_some m.home m.word in absurd (omega arith)

-- a number of words is none, or there are some
pub none_or_some : (n : ℕ) → (n ≡ 0) ⊎ (1 ≤ n)
none_or_some zero = inl refl
none_or_some (suc n) = inr (omega arith)
