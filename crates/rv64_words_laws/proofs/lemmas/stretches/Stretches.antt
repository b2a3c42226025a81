-- Whole stretches: those that the crate's laws speak of.
use Rattle.std.proofs.Common.{◌≡◌, ℕ, ◌+◌, ◌++◌, sym, subst, arith, [], ◌∷◌, append-nil}
use Rattle.rv64_words.specs.declared.image.Image.{Image}
use Rattle.rv64_words.specs.declared.word.Word.TheVariants.{Ld, Sd}
use Rattle.rv64_words.specs.Region.{Sizes}
use Rattle.rv64_words_laws.specs.stretches.Core.{Core, arrived}
use Rattle.rv64_words_laws.specs.stretches.Laws.{ComputingWordsRun, StackLoadsRun, StackStoresRun, GuardJumpsRun}
use Rattle.rv64_words_laws.specs.stretches.Runs.{HasAt, Runs, Leaves}
use Rattle.rv64_words_laws.proofs.lemmas.stretches.Going.{begin, plains, load, store, guard_jump}

-- a stretch that began with no steps
from_zero : (image : Image) (z : Sizes) (k : ℕ) (c : Core) (m j : ℕ) (e : Core) → Runs image z k c (0 + m) j e → Runs image z k c m j e
from_zero image z k c m j e r = let same : 0 + m ≡ m = omega arith in subst (λ n. Runs image z k c n j e) same r

pub computing_words : ComputingWordsRun
computing_words image z k c ws computing has =
    let there : HasAt image k (ws ++ []) = subst (HasAt image k) (sym (append-nil ws)) has in
    from_zero image z k c _ _ _ (plains image z ws [] computing (begin image z k c (ws ++ []) there)).runs

pub stack_load : StackLoadsRun
stack_load image z k c rd rs1 i at has is lt = from_zero image z k c 1 (k + 1) _ (load image z at is lt (begin image z k c (Ld rd rs1 i ∷ []) (has, tt))).runs

pub stack_store : StackStoresRun
stack_store image z k c rs1 rs2 i at has is lt = from_zero image z k c 1 (k + 1) _ (store image z at is lt (begin image z k c (Sd rs1 rs2 i ∷ []) (has, tt))).runs

pub guard_word_jumps : GuardJumpsRun
guard_word_jumps image z k c i b has is = let same : 0 + 1 ≡ 1 = omega arith in subst (λ n. Leaves image z k c n (k + 1) b (arrived k c)) same (guard_jump image z b is has (begin image z k c [] tt))
