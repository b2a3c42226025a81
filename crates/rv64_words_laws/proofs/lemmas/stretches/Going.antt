-- A stretch so far, and what comes of it by each kind of word.
use Rattle.std.proofs.Common.{◌≡◌, ℕ, suc, ◌+◌, ◌*◌, ◌/◌, ◌%◌, ◌^◌, ◌<◌, ◌≤◌, true, false, refl, ap, ◌∙◌, subst, arith, List, [], ◌∷◌, ◌++◌, length, Some, ℤ, pos}
use Rattle.bril_tree.specs.State.{counted}
use Rattle.rv64_words.specs.declared.image.Image.{Image}
use Rattle.rv64_words.specs.declared.word.Condition.{Condition}
use Rattle.rv64_words.specs.declared.word.Word.{Word}
use Rattle.rv64_words.specs.declared.word.Word.TheVariants.{Jal, Jalr, Branch, Ld, Sd}
use Rattle.rv64_words.specs.Arithmetic.{moved_by, holds}
use Rattle.rv64_words.specs.Machine.{branched, read_address, loaded, stored, executed}
use Rattle.rv64_words.specs.Region.{Sizes, Address, InStack, InTable, InCells, stack_base, table_base, cells_base, table_words, address_at}
use Rattle.rv64_words.specs.State.{State, with_register, next}
use Rattle.rv64_words_laws.specs.stretches.Core.{Core, at_pc, machine, written, put, put_cell, arrived}
use Rattle.rv64_words_laws.specs.stretches.Runs.{WordAt, HasAt, IsComputing, AreComputing, effect, effects, Runs, Leaves}
use Rattle.rv64_words_laws.proofs.lemmas.stretches.Steps.{step_is, guard_step_is, goes_next, register_written, computing_is, stays, followed_by, left_by, leads_on, step_leaves, stack_address, table_address, cells_address}

-- the words of two stretches, one after the other
pub HasAt-append : (image : Image) (k : ℕ) (xs ys : List Word) → HasAt image k xs → HasAt image (k + length xs) ys → HasAt image k (xs ++ ys)
HasAt-append image k [] ys a b = let e : k + 0 ≡ k = omega arith in subst (λ i. HasAt image i ys) e b
HasAt-append image k (w ∷ xs) ys a b =
    let e : k + suc (length xs) ≡ k + 1 + length xs = omega arith in
    (a.0, HasAt-append image (k + 1) xs ys a.1 (subst (λ i. HasAt image i ys) e b))

pub HasAt-front : (image : Image) (k : ℕ) (xs ys : List Word) → HasAt image k (xs ++ ys) → HasAt image k xs
HasAt-front image k [] ys h = tt
HasAt-front image k (w ∷ xs) ys h = (h.0, HasAt-front image (k + 1) xs ys h.1)

pub HasAt-rest : (image : Image) (k : ℕ) (xs ys : List Word) → HasAt image k (xs ++ ys) → HasAt image (k + length xs) ys
HasAt-rest image k [] ys h = let e : k ≡ k + 0 = omega arith in subst (λ i. HasAt image i ys) e h
HasAt-rest image k (w ∷ xs) ys h =
    let e : k + 1 + length xs ≡ k + suc (length xs) = omega arith in
    subst (λ i. HasAt image i ys) e (HasAt-rest image (k + 1) xs ys h.1)

-- over so many words, and the one of the branch
over_words : (j m : ℕ) → j < 2 ^ 20 → m < 2 ^ 20 → moved_by (4 * j) (pos (4 * suc m)) ≡ 4 * (j + 1 + m)
over_words j m a b = omega arith

module _ (image : Image) (z : Sizes) where
  -- From the running machine at word k with core c, n steps led to word j with core e, and these words stand there.
  pub record Going (k : ℕ) (c : Core) (n j : ℕ) (e : Core) (ws : List Word) : Type 0 where
    pub runs : Runs image z k c n j e
    pub has : HasAt image j ws

  pub begin : (k : ℕ) (c : Core) (ws : List Word) → HasAt image k ws → Going k c 0 k c ws
  begin k c ws has = record { runs = stays image z k c; has = has }

  -- words that stand where steps led away
  pub begin_there : {k : ℕ} {c : Core} {n bound j : ℕ} {e : Core} → (ws : List Word) → Leaves image z k c n bound j e → HasAt image j ws → Going j e 0 j e ws
  begin_there {j = j} {e = e} ws r has = begin j e ws has

  -- other words stand there too
  pub onward : {k : ℕ} {c : Core} {n j : ℕ} {e : Core} {ws : List Word} → Runs image z k c n j e → HasAt image j ws → Going k c n j e ws
  onward r has = record { runs = r; has = has }

  -- one step more by the word that stands there, to any word or to a later one
  one_leap : {k : ℕ} {c : Core} {n j : ℕ} {e : Core} {ws : List Word} → (w : Word) (i : ℕ) (f : Core) → Going k c n j e (w ∷ ws) → ((d : ℕ) → executed z w (machine j e d) ≡ machine i f (counted d)) → Leaves image z k c (n + 1) (j + 1) i f
  one_leap {j = j} {e = e} w i f g is = left_by image z g.runs (omega arith) (step_leaves image z counted (λ d. step_is image z j w e d g.has.0 ∙ is d))

  one_step : {k : ℕ} {c : Core} {n j : ℕ} {e : Core} {ws : List Word} → (w : Word) (i : ℕ) (f : Core) → j + 1 ≤ i → Going k c n j e (w ∷ ws) → ((d : ℕ) → executed z w (machine j e d) ≡ machine i f (counted d)) → Runs image z k c (n + 1) i f
  one_step w i f later g is = let over = g.runs.forward in leads_on image z (omega arith) later (one_leap w i f g is)

  -- ---- words that compute

  pub plain : {k : ℕ} {c : Core} {n j : ℕ} {e : Core} {w : Word} {ws : List Word} → IsComputing w → Going k c n j e (w ∷ ws) → Going k c (n + 1) (j + 1) (effect w e) ws
  plain {j = j} {e = e} {w = w} p g = record { runs = one_step w (j + 1) (effect w e) (omega arith) g (computing_is image z w p j e); has = g.has.1 }

  pub plains : (ws rest : List Word) → {k : ℕ} {c : Core} {n j : ℕ} {e : Core} → AreComputing ws → Going k c n j e (ws ++ rest) → Going k c (n + length ws) (j + length ws) (effects ws e) rest
  plains [] rest {k} {c} {n} {j} {e} h g =
      let a : n ≡ n + 0 = omega arith in
      let b : j ≡ j + 0 = omega arith in
      subst (λ x. Going k c x (j + 0) e rest) a (subst (λ x. Going k c n x e rest) b g)
  plains (w ∷ ws) rest {k} {c} {n} {j} {e} h g =
      let a : n + 1 + length ws ≡ n + suc (length ws) = omega arith in
      let b : j + 1 + length ws ≡ j + suc (length ws) = omega arith in
      subst (λ x. Going k c x (j + suc (length ws)) (effects ws (effect w e)) rest) a (subst (λ x. Going k c (n + 1 + length ws) x (effects ws (effect w e)) rest) b (plains ws rest h.1 (plain h.0 g)))

  -- ---- loads and stores

  load_of : {k : ℕ} {c : Core} {n j : ℕ} {e : Core} {rd rs1 : ℕ} {i : ℤ} {ws : List Word} → (at : ℕ) (address : Address) (v : ℕ) → moved_by (e.registers rs1) i ≡ at → address_at z at ≡ Some address → ((d : ℕ) → read_address (machine j e d) address ≡ v)
      → Going k c n j e (Ld rd rs1 i ∷ ws) → Going k c (n + 1) (j + 1) (written e rd v) ws
  load_of {j = j} {e = e} {rd = rd} {rs1 = rs1} {i = i} at address v is here value g = record {
    runs = one_step (Ld rd rs1 i) (j + 1) (written e rd v) (omega arith) g (λ d. ap (λ a. loaded (machine j e d) rd a (address_at z a)) is ∙ (ap (loaded (machine j e d) rd at) here ∙ (ap (λ x. loaded_as d x) (value d) ∙ register_written j e d rd v)));
    has = g.has.1;
  }
    where
      loaded_as : ℕ → ℕ → State
      loaded_as d x = next (with_register (machine j e d) rd x)

  -- a word of the stack, of the table and of the cells
  pub load : {k : ℕ} {c : Core} {n j : ℕ} {e : Core} {rd rs1 : ℕ} {i : ℤ} {ws : List Word} → (at : ℕ) → moved_by (e.registers rs1) i ≡ stack_base + 8 * at → at < z.stack → Going k c n j e (Ld rd rs1 i ∷ ws) → Going k c (n + 1) (j + 1) (written e rd (e.stack at)) ws
  load {e = e} at is lt g = load_of (stack_base + 8 * at) (InStack at) (e.stack at) is (stack_address z at lt) (λ d. refl) g

  pub load_table : {k : ℕ} {c : Core} {n j : ℕ} {e : Core} {rd rs1 : ℕ} {i : ℤ} {ws : List Word} → (at : ℕ) → moved_by (e.registers rs1) i ≡ table_base + 8 * at → z.stack ≤ 8388608 → at < table_words → Going k c n j e (Ld rd rs1 i ∷ ws) → Going k c (n + 1) (j + 1) (written e rd (e.table at)) ws
  load_table {e = e} at is few lt g = load_of (table_base + 8 * at) (InTable at) (e.table at) is (table_address z at few lt) (λ d. refl) g

  pub load_cell : {k : ℕ} {c : Core} {n j : ℕ} {e : Core} {rd rs1 : ℕ} {i : ℤ} {ws : List Word} → (at : ℕ) → moved_by (e.registers rs1) i ≡ cells_base + 8 * at → z.stack ≤ 8388608 → at < z.cells → Going k c n j e (Ld rd rs1 i ∷ ws) → Going k c (n + 1) (j + 1) (written e rd (e.cells at)) ws
  load_cell {e = e} at is few lt g = load_of (cells_base + 8 * at) (InCells at) (e.cells at) is (cells_address z at few lt) (λ d. refl) g

  pub store : {k : ℕ} {c : Core} {n j : ℕ} {e : Core} {rs1 rs2 : ℕ} {i : ℤ} {ws : List Word} → (at : ℕ) → moved_by (e.registers rs1) i ≡ stack_base + 8 * at → at < z.stack → Going k c n j e (Sd rs1 rs2 i ∷ ws) → Going k c (n + 1) (j + 1) (put e at (e.registers rs2)) ws
  store {j = j} {e = e} {rs1 = rs1} {rs2 = rs2} {i = i} at is lt g = record {
    runs = one_step (Sd rs1 rs2 i) (j + 1) (put e at (e.registers rs2)) (omega arith) g
        (λ d. ap (λ a. stored (machine j e d) (e.registers rs2) a (address_at z a)) is ∙ (ap (stored (machine j e d) (e.registers rs2) (stack_base + 8 * at)) (stack_address z at lt) ∙ goes_next j (put e at (e.registers rs2)) d));
    has = g.has.1;
  }

  pub store_cell : {k : ℕ} {c : Core} {n j : ℕ} {e : Core} {rs1 rs2 : ℕ} {i : ℤ} {ws : List Word} → (at : ℕ) → moved_by (e.registers rs1) i ≡ cells_base + 8 * at → z.stack ≤ 8388608 → at < z.cells → Going k c n j e (Sd rs1 rs2 i ∷ ws) → Going k c (n + 1) (j + 1) (put_cell e at (e.registers rs2)) ws
  store_cell {j = j} {e = e} {rs1 = rs1} {rs2 = rs2} {i = i} at is few lt g = record {
    runs = one_step (Sd rs1 rs2 i) (j + 1) (put_cell e at (e.registers rs2)) (omega arith) g
        (λ d. ap (λ a. stored (machine j e d) (e.registers rs2) a (address_at z a)) is ∙ (ap (stored (machine j e d) (e.registers rs2) (cells_base + 8 * at)) (cells_address z at few lt) ∙ goes_next j (put_cell e at (e.registers rs2)) d));
    has = g.has.1;
  }

  -- ---- jumps

  -- to word b; the last word of a stretch
  pub jump : {k : ℕ} {c : Core} {n j : ℕ} {e : Core} {i : ℤ} {ws : List Word} → (b : ℕ) → moved_by (4 * j) i ≡ 4 * b → Going k c n j e (Jal 0 i ∷ ws) → Leaves image z k c (n + 1) (j + 1) b e
  jump {e = e} {i = i} b is g = one_leap (Jal 0 i) b e g (λ d. ap (λ pc. at_pc pc e (counted d)) is)

  -- the same by a guard's word
  pub guard_jump : {k : ℕ} {c : Core} {n j : ℕ} {e : Core} {i : ℤ} → (b : ℕ) → moved_by (4 * j) i ≡ 4 * b → WordAt image true j (Jal 0 i) → Going k c n j e [] → Leaves image z k c (n + 1) (j + 1) b (arrived j e)
  guard_jump {j = j} {e = e} {i = i} b is has g =
      left_by image z g.runs (omega arith) (step_leaves image z counted (λ d. guard_step_is image z j (Jal 0 i) e d b e (counted d) has (ap (λ pc. at_pc pc e (counted d)) is)))

  -- a call of a function at word b: register 1 gets the way back
  pub jump_and_link : {k : ℕ} {c : Core} {n j : ℕ} {e : Core} {i : ℤ} {ws : List Word} → (b : ℕ) → moved_by (4 * j) i ≡ 4 * b → Going k c n j e (Jal 1 i ∷ ws) → Leaves image z k c (n + 1) (j + 1) b (written e 1 (4 * (j + 1)))
  jump_and_link {j = j} {e = e} {i = i} b is g =
      one_leap (Jal 1 i) b (written e 1 (4 * (j + 1))) g
      (λ d. ap (λ pc. at_pc pc (written e 1 (4 * j + 4)) (counted d)) is ∙ (let next_is : 4 * j + 4 ≡ 4 * (j + 1) = omega arith in ap (λ v. at_pc (4 * b) (written e 1 v) (counted d)) next_is))

  -- back by register 1
  pub jump_back : {k : ℕ} {c : Core} {n j : ℕ} {e : Core} {ws : List Word} → (b : ℕ) → b < 2 ^ 20 → e.registers 1 ≡ 4 * b → Going k c n j e (Jalr 0 1 (pos 0) ∷ ws) → Leaves image z k c (n + 1) (j + 1) b e
  jump_back {e = e} b lt is g = one_leap (Jalr 0 1 (pos 0)) b e g (λ d. ap (λ v. at_pc (2 * (moved_by v (pos 0) / 2)) e (counted d)) is ∙ ap (λ pc. at_pc pc e (counted d)) even)
    where
      even : 2 * ((4 * b + 0) % 2 ^ 64 / 2) ≡ 4 * b
      even = omega arith

  -- ---- branches

  -- a branch that is taken, over some words
  pub taken : {k : ℕ} {c : Core} {n j : ℕ} {e : Core} {o : Condition} {r s : ℕ} → (skipped ws : List Word) → j < 2 ^ 20 → length skipped < 2 ^ 20 → holds o (e.registers r) (e.registers s) ≡ true
      → Going k c n j e (Branch o r s (pos (4 * suc (length skipped))) ∷ (skipped ++ ws)) → Going k c (n + 1) (j + 1 + length skipped) e ws
  taken {j = j} {e = e} {o = o} {r = r} {s = s} skipped ws lj few is g = record {
    runs = one_step (Branch o r s (pos (4 * suc (length skipped)))) (j + 1 + length skipped) e (omega arith) g
        (λ d. ap (λ b. branched b (pos (4 * suc (length skipped))) (machine j e d)) is ∙ ap (λ pc. at_pc pc e (counted d)) (over_words j (length skipped) lj few));
    has = HasAt-rest image (j + 1) skipped ws g.has.1;
  }

  -- and one that isn't
  pub not_taken : {k : ℕ} {c : Core} {n j : ℕ} {e : Core} {o : Condition} {r s : ℕ} {i : ℤ} {ws : List Word} → holds o (e.registers r) (e.registers s) ≡ false → Going k c n j e (Branch o r s i ∷ ws) → Going k c (n + 1) (j + 1) e ws
  not_taken {j = j} {e = e} {o = o} {r = r} {s = s} {i = i} is g = record {
    runs = one_step (Branch o r s i) (j + 1) e (omega arith) g (λ d. ap (λ b. branched b i (machine j e d)) is ∙ goes_next j e d);
    has = g.has.1;
  }

  -- ---- stretches that are known

  -- the first words of those that stand there
  pub has_front : {k : ℕ} {c : Core} {n j : ℕ} {e : Core} → (xs ws : List Word) → Going k c n j e (xs ++ ws) → HasAt image j xs
  has_front {j = j} xs ws g = HasAt-front image j xs ws g.has

  -- a run across them
  pub across : {k : ℕ} {c : Core} {n j : ℕ} {e : Core} {m : ℕ} {f : Core} → (xs ws : List Word) → Going k c n j e (xs ++ ws) → Runs image z j e m (j + length xs) f → Going k c (n + m) (j + length xs) f ws
  across {j = j} xs ws g r = record { runs = followed_by image z g.runs r; has = HasAt-rest image j xs ws g.has }

  -- ---- equations

  -- the core, the number of steps and the word are others by an equation
  pub is_core : {k : ℕ} {c : Core} {n j : ℕ} {e : Core} {ws : List Word} → (f : Core) → e ≡ f → Going k c n j e ws → Going k c n j f ws
  is_core {k} {c} {n} {j} {e} {ws} f same g = subst (λ x. Going k c n j x ws) same g

  pub is_place : {k : ℕ} {c : Core} {n j : ℕ} {e : Core} {ws : List Word} → (m i : ℕ) → n ≡ m → j ≡ i → Going k c n j e ws → Going k c m i e ws
  is_place {k} {c} {n} {j} {e} {ws} m i a b g = subst (λ x. Going k c x i e ws) a (subst (λ x. Going k c n x e ws) b g)
