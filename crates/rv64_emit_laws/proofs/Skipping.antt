-- Branches: to another word, and over words where a register isn't 0.
use Rattle.std.proofs.Common.{◌≡◌, ℕ, suc, ◌+◌, ◌-◌, ◌*◌, ◌^◌, ◌<◌, ◌≤◌, Bool, true, false, cond, not, eqb, leb, refl, ap, ◌∙◌, arith, List, [], ◌∷◌, ◌++◌, pos, negsuc}
use Rattle.std.proofs.lemmas.Bool.Decides.{nat_tests}
use Rattle.bril_tree.specs.State.{counted}
use Rattle.rv64_emit_laws.specs.layout.Items.{reaches_over, skip_size, skip_words}
use Rattle.rv64_words.specs.declared.image.Image.{Image}
use Rattle.rv64_words.specs.declared.word.Condition.{Condition}
use Rattle.rv64_words.specs.declared.word.Word.{Word}
use Rattle.rv64_words.specs.declared.word.Word.TheVariants.{Branch, Jal}
use Rattle.rv64_words.specs.Arithmetic.{holds, moved_by}
use Rattle.rv64_words.specs.Machine.{branched}
use Rattle.rv64_words.specs.Mnemonics.{beq, bne}
use Rattle.rv64_words.specs.Region.{Sizes}
use Rattle.rv64_words_laws.specs.sequences.Sequences.{jump_offset}
use Rattle.rv64_words_laws.specs.stretches.Core.{Core, at_pc, machine}
use Rattle.rv64_words_laws.specs.stretches.Runs.{Leaves}
use Rattle.rv64_words_laws.proofs.lemmas.stretches.Going.{Going, is_place, jump, not_taken, taken}
use Rattle.rv64_words_laws.proofs.lemmas.stretches.Steps.{left_by, step_is, step_leaves}

-- over so many words, and the one of the branch
over : (j count : ℕ) → j < 2 ^ 20 → count < 2 ^ 20 → moved_by (4 * j) (pos (4 * suc count)) ≡ 4 * (j + 1 + count)
over j count low few = omega arith

-- a jump over so many words
jumped : (j n : ℕ) → j + n < 2 ^ 20 → moved_by (4 * j) (jump_offset 0 n) ≡ 4 * (j + n)
jumped j n small = by_test (leb 0 n) refl
  where
    by_test : (t : Bool) → leb 0 n ≡ t → moved_by (4 * j) (cond t (pos (4 * (n - 0))) (negsuc (4 * (0 - n) - 1))) ≡ 4 * (j + n)
    by_test true e = omega arith
    by_test false e = let h : n < 0 = grind (arith, nat_tests) in absurd (omega arith)

-- the bytes from word a to word b lead there
moved_there : (a b : ℕ) → a < 2 ^ 20 → b < 2 ^ 20 → moved_by (4 * a) (jump_offset a b) ≡ 4 * b
moved_there a b from to = by_test (leb a b) refl
  where
    by_test : (t : Bool) → leb a b ≡ t → moved_by (4 * a) (cond t (pos (4 * (b - a))) (negsuc (4 * (a - b) - 1))) ≡ 4 * b
    by_test true e = let h : a ≤ b = grind (arith, nat_tests) in omega arith
    by_test false e = let h : b < a = grind (arith, nat_tests) in omega arith

module _ (image : Image) (z : Sizes) where
  -- a branch that is taken, to word b
  pub branch_to : {k : ℕ} {c : Core} {n j : ℕ} {e : Core} {o : Condition} {r s : ℕ} {ws : List Word} → (b : ℕ) → j < 2 ^ 20 → b < 2 ^ 20 → holds o (e.registers r) (e.registers s) ≡ true
      → Going image z k c n j e (Branch o r s (jump_offset j b) ∷ ws) → Leaves image z k c (n + 1) (j + 1) b e
  branch_to {j = j} {e = e} {o = o} {r = r} {s = s} b low few is g =
      left_by image z g.runs (omega arith) (step_leaves image z counted
      (λ d. step_is image z j (Branch o r s (jump_offset j b)) e d g.has.0 ∙ (ap (λ t. branched t (jump_offset j b) (machine j e d)) is ∙ ap (λ pc. at_pc pc e (counted d)) (moved_there j b low few))))

  -- a branch that is taken, whatever stands behind it
  branch_over : {k : ℕ} {c : Core} {n j : ℕ} {e : Core} {o : Condition} {r s : ℕ} {ws : List Word} → (count : ℕ) → j < 2 ^ 20 → count < 2 ^ 20 → holds o (e.registers r) (e.registers s) ≡ true
      → Going image z k c n j e (Branch o r s (pos (4 * suc count)) ∷ ws) → Leaves image z k c (n + 1) (j + 1) (j + 1 + count) e
  branch_over {j = j} {e = e} {o = o} {r = r} {s = s} count low few is g =
      left_by image z g.runs (omega arith) (step_leaves image z counted
      (λ d. step_is image z j (Branch o r s (pos (4 * suc count))) e d g.has.0 ∙ (ap (λ b. branched b (pos (4 * suc count)) (machine j e d)) is ∙ ap (λ pc. at_pc pc e (counted d)) (over j count low few))))

  -- where the register is 0 they lead to the words behind them
  pub skip_falls : {k : ℕ} {c : Core} {n j : ℕ} {e : Core} → (r count : ℕ) (ws : List Word) → j < 2 ^ 20 → eqb (e.registers r) (e.registers 0) ≡ true
      → Going image z k c n j e (skip_words r count ++ ws) → Going image z k c (n + 1) (j + skip_size count) e ws
  skip_falls {k} {c} {n} {j} {e} r count ws low same g = by (reaches_over count) g
    where
      by : (near : Bool) → Going image z k c n j e (cond near (bne r 0 (pos (4 * suc count)) ∷ []) (beq r 0 (pos 8) ∷ Jal 0 (jump_offset 0 (suc count)) ∷ []) ++ ws)
          → Going image z k c (n + 1) (j + cond near 1 2) e ws
      by true h = not_taken image z (ap not same) h
      by false h = is_place image z (n + 1) (j + 2) refl (omega arith) (taken image z (Jal 0 (jump_offset 0 (suc count)) ∷ []) ws low (omega arith) same h)

  -- Where it isn't 0 they lead over the words behind them, in one step or in two.
  pub record Skipped (k : ℕ) (c : Core) (n j : ℕ) (e : Core) (size count : ℕ) : Type 0 where
    pub steps : ℕ
    pub some : n < steps
    pub few : steps ≤ n + 2
    pub bound : ℕ
    pub within : bound ≤ j + size
    pub leads : Leaves image z k c steps bound (j + size + count) e

  pub skip_leads : {k : ℕ} {c : Core} {n j : ℕ} {e : Core} → (r count : ℕ) (ws : List Word) → j + 2 + count < 2 ^ 20 → eqb (e.registers r) (e.registers 0) ≡ false
      → Going image z k c n j e (skip_words r count ++ ws) → Skipped k c n j e (skip_size count) count
  skip_leads {k} {c} {n} {j} {e} r count ws low differ g = by (reaches_over count) g
    where
      by : (near : Bool) → Going image z k c n j e (cond near (bne r 0 (pos (4 * suc count)) ∷ []) (beq r 0 (pos 8) ∷ Jal 0 (jump_offset 0 (suc count)) ∷ []) ++ ws)
          → Skipped k c n j e (cond near 1 2) count
      by true h = record {
        steps = n + 1;
        some = omega arith;
        few = omega arith;
        bound = j + 1;
        within = omega arith;
        leads = branch_over count (omega arith) (omega arith) (ap not differ) h;
      }
      by false h =
          let there : 4 * (j + 1 + suc count) ≡ 4 * (j + 2 + count) = omega arith in
          record {
            steps = n + 1 + 1;
            some = omega arith;
            few = omega arith;
            bound = j + 1 + 1;
            within = omega arith;
            leads = jump image z (j + 2 + count) (jumped (j + 1) (suc count) (omega arith) ∙ there) (not_taken image z differ h);
          }
