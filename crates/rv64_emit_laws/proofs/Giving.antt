-- The arguments of a call are where the called function has them.
use Rattle.std.proofs.Common.{◌≡◌, ◌≢◌, ℕ, zero, suc, ◌+◌, refl, sym, ap, ◌∙◌, subst, arith, List, [], ◌∷◌, length, map, true, cond, Some, None}
use Rattle.std.specs.Prelude.{slice_get}
use Rattle.std.specs.List.{AllByRecursion}
use Rattle.bril_tree.specs.declared.home.Home.{Home}
use Rattle.bril_tree.specs.declared.home.Home.TheVariants.{Reg, Frame}
use Rattle.bril_tree.specs.declared.value.Value.{Value}
use Rattle.bril_tree.specs.FrameWords.{frame_head}
use Rattle.bril_tree.specs.Live.{IsLive}
use Rattle.bril_tree.specs.Operand as location
use Rattle.bril_tree.specs.State as bril
use Rattle.bril_tree.specs.Step.{code_of}
use Rattle.rv64_emit_laws.specs.layout.Homes.{argument_word, in_register, variable_home}
use Rattle.rv64_words_laws.specs.stretches.Core.{Core}
use Rattle.rv64_words_laws.specs.sequences.Moves.{IsUsable, home_word}
use Rattle.rv64_words.specs.State.{State}
use Rattle.slot_code.specs.declared.item.Slot.TheVariants.{Variable}
use Rattle.slot_code.specs.declared.slots.SlotFunction.{SlotFunction}
use Rattle.slot_code.specs.Laws.{IsSlotOf}
use Rattle.rv64_emit_laws.proofs.Frames.{slot_fits}
use Rattle.rv64_emit_laws.proofs.Holding.{home_framed, home_held, home_usable, source}
use Rattle.rv64_emit_laws.proofs.Homes.{framed_in, given_usable, is_given, live_apart, origin, serving}
use Rattle.rv64_emit_laws.proofs.Operands.{read_is}
use Rattle.rv64_emit_laws.proofs.Passing.{AreArrived, ArrivesAt, IsFound, Passed}
use Rattle.rv64_emit_laws.proofs.Ready.{HoldsValue}
use Rattle.rv64_emit_laws.proofs.Relation.{HasWord, RunsAlike}
use Rattle.rv64_emit_laws.proofs.Setting.{Setting}

-- ---- where a function has its arguments

module _ (S : Setting) (f to : ℕ) (callee : SlotFunction) (there : slice_get S.slots.funcs to ≡ Some callee) where
  pub given_apart : (i j r : ℕ) → (S.homes f).given to i ≡ Some (Reg r) → (S.homes f).given to j ≡ Some (Reg r) → i ≡ j
  given_apart i j r at_i at_j =
      let first = is_given S.p S.slots S.homes S.accepted S.lowered S.serve f to i (Reg r) callee there at_i in
      let second = is_given S.p S.slots S.homes S.accepted S.lowered S.serve f to j (Reg r) callee there at_j in
      one (live_apart (code_of S.p to) (origin S to callee there).function.args callee (S.homes to) (serving S to callee there) 0 (Variable i) (Variable j) first.live second.live (ap in_register (sym first.is)) (sym first.is ∙ second.is))
    where
      one : Variable i ≡ Variable j → i ≡ j
      one same = cc

  pub given_fits : (k : ℕ) (home : Home) → (S.homes f).given to k ≡ Some home → IsUsable home
  given_fits k home at = given_usable S.p S.slots S.homes S.accepted S.lowered S.serve f to k home at

  -- what is live there is given
  pub given_live : (k : ℕ) → (S.homes to).live 0 (Variable k) ≡ true → (S.homes f).given to k ≡ Some ((S.homes to).home (Variable k))
  given_live k told = S.serve.given f to k ∙ ap (λ t. cond t (Some ((S.homes to).home (Variable k))) None) told

-- ---- the values that are passed

module _ (S : Setting) (s : bril.State) (t : State) (r : RunsAlike S s t) where
  -- the homes of arguments
  pub all_found : (args : List ℕ) → AllByRecursion (λ a. IsSlotOf r.holds.function (Variable a)) args → AllByRecursion (IsFound (S.homes r.frame.function) r.holds.function) args
  all_found [] used = tt
  all_found (a ∷ args) used = (
    (
      home_usable S (length s.blocks) r.frame r.older r.core r.holds (Variable a) used.0,
      λ o is. (let origin = source S (length s.blocks) r.frame r.older r.core r.holds in
          let own = home_framed S (length s.blocks) r.frame r.older r.core r.holds (Variable a) o used.0 is in
          let fits = slot_fits origin.function r.holds.function origin.is (Variable a) used.0 in
          omega arith),
    ),
    all_found args used.1,
  )

  -- each value is at the home of its argument
  pub record IsPassed (args : List ℕ) (i : ℕ) (v : Value) : Type 0 where
    pub variable : ℕ
    pub at : slice_get args i ≡ Some variable
    pub in_g : IsSlotOf r.holds.function (Variable variable)
    pub word : HasWord (length s.blocks) v (home_word r.core r.holds.base (variable_home (S.homes r.frame.function) variable))

  pub values_held : (args : List ℕ) → AllByRecursion (λ a. HoldsValue r.frame.locations (Variable a)) args → AllByRecursion (λ a. IsSlotOf r.holds.function (Variable a)) args →
      AllByRecursion (λ a. IsLive (code_of S.p r.frame.function) (location.Variable a) r.frame.point) args → (i : ℕ) (v : Value) → slice_get (map (bril.read r.frame.locations.vars) args) i ≡ Some v → IsPassed args i v
  values_held [] held used lives i v e = absurd (let none : None ≡ Some v = e in cc)
  values_held (a ∷ args) held used lives zero v e =
      let u = held.0.value in
      let read_u : bril.read r.frame.locations.vars a ≡ u = read_is r.frame.locations (Variable a) u held.0.is in
      let same : bril.read r.frame.locations.vars a ≡ v = cc in
      record {
        variable = a;
        at = refl;
        in_g = used.0;
        word = subst (λ x. HasWord (length s.blocks) x (home_word r.core r.holds.base (variable_home (S.homes r.frame.function) a))) (sym read_u ∙ same) (home_held S (length s.blocks) r.frame r.older r.core r.holds (Variable a) u lives.0 held.0.is);
      }
  values_held (a ∷ args) held used lives (suc i) v e =
      let rest = values_held args held.1 used.1 lives.1 i v e in
      record { variable = rest.variable; at = rest.at; in_g = rest.in_g; word = rest.word }

  -- ---- where they are

  -- of one argument
  arrived_at : (g : SlotFunction) (to b k : ℕ) (args : List ℕ) (c e : Core) → AreArrived (S.homes r.frame.function) g to b k args c e → (i a : ℕ) → slice_get args i ≡ Some a →
      ArrivesAt b ((S.homes r.frame.function).given to (k + i)) (argument_word g (k + i)) (home_word c b (variable_home (S.homes r.frame.function) a)) e
  arrived_at g to b k [] c e all i a at = absurd (let none : None ≡ Some a = at in cc)
  arrived_at g to b k (x ∷ args) c e all zero a at =
      let same : x ≡ a = cc in
      let here : k ≡ k + 0 = omega arith in
      subst (λ y. ArrivesAt b ((S.homes r.frame.function).given to (k + 0)) (argument_word g (k + 0)) (home_word c b (variable_home (S.homes r.frame.function) y)) e) same
      (subst (λ j. ArrivesAt b ((S.homes r.frame.function).given to j) (argument_word g j) (home_word c b (variable_home (S.homes r.frame.function) x)) e) here all.0)
  arrived_at g to b k (x ∷ args) c e all (suc i) a at =
      let here : suc k + i ≡ k + suc i = omega arith in
      subst (λ j. ArrivesAt b ((S.homes r.frame.function).given to j) (argument_word g j) (home_word c b (variable_home (S.homes r.frame.function) a)) e) here (arrived_at g to b (suc k) args c e all.1 i a at)

  -- In the new frame, at word n, the homes of the called function have them.
  pub given_word : (to : ℕ) (callee : SlotFunction) (there : slice_get S.slots.funcs to ≡ Some callee) (args : List ℕ) (d e last : Core) →
      Passed (S.homes r.frame.function) r.holds.function to r.holds.base args d e →
      ((q : ℕ) → IsUsable (Reg q) → last.registers q ≡ e.registers q) → ((x : ℕ) → x ≢ r.holds.base + r.holds.function.words → last.stack x ≡ e.stack x) →
      (i a : ℕ) → slice_get args i ≡ Some a → IsSlotOf callee (Variable i) → (S.homes to).live 0 (Variable i) ≡ true →
      home_word last (r.holds.base + r.holds.function.words) ((S.homes to).home (Variable i)) ≡ home_word d r.holds.base (variable_home (S.homes r.frame.function) a)
  given_word to callee there args d e last passed registers stack i a at in_i told =
      let g = r.holds.function in
      let homes = S.homes r.frame.function in
      let none : 0 + i ≡ i = omega arith in
      by ((S.homes to).home (Variable i)) refl
      (subst (λ o. ArrivesAt r.holds.base o (argument_word g i) (home_word d r.holds.base (variable_home homes a)) e) (given_live S r.frame.function to callee there i told) (subst (λ j. ArrivesAt r.holds.base (homes.given to j) (argument_word g j) (home_word d r.holds.base (variable_home homes a)) e) none (arrived_at g to r.holds.base 0 args d e passed.arrived i a at)))
    where
      by : (home : Home) → (S.homes to).home (Variable i) ≡ home →
          ArrivesAt r.holds.base (Some ((S.homes to).home (Variable i))) (argument_word r.holds.function i) (home_word d r.holds.base (variable_home (S.homes r.frame.function) a)) e →
          home_word last (r.holds.base + r.holds.function.words) ((S.homes to).home (Variable i)) ≡ home_word d r.holds.base (variable_home (S.homes r.frame.function) a)
      by (Reg q) is h =
          let usable : IsUsable (Reg q) = given_fits S r.frame.function to callee there i (Reg q) (given_live S r.frame.function to callee there i told ∙ ap (λ x. Some x) is) in
          let arrived : e.registers q ≡ home_word d r.holds.base (variable_home (S.homes r.frame.function) a) = subst (λ o. ArrivesAt r.holds.base (Some o) (argument_word r.holds.function i) (home_word d r.holds.base (variable_home (S.homes r.frame.function) a)) e) is h in
          ap (home_word last (r.holds.base + r.holds.function.words)) is ∙ (registers q usable ∙ arrived)
      by (Frame o) is h =
          let n = r.holds.base + r.holds.function.words in
          let own : o ≡ frame_head + i = framed_in S to callee there (Variable i) o in_i is in
          let arrived : e.stack (r.holds.base + argument_word r.holds.function i) ≡ home_word d r.holds.base (variable_home (S.homes r.frame.function) a) = subst (λ o. ArrivesAt r.holds.base (Some o) (argument_word r.holds.function i) (home_word d r.holds.base (variable_home (S.homes r.frame.function) a)) e) is h in
          let place : n + o ≡ r.holds.base + argument_word r.holds.function i = omega arith in
          ap (home_word last n) is ∙ (stack (n + o) (λ same. absurd (omega arith)) ∙ (ap e.stack place ∙ arrived))
