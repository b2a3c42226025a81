-- Inside an attempt that the program doesn't have, between a `speculate` of the result and its `commit`, the result's
-- frame has a save more. An item that looks at no saves does the same on both sides: it faults, or it changes locations alone.
use Rattle.std.proofs.Common.{◌+ℤ◌, ◌≡◌, ℕ, suc, Bool, true, false, List, ◌∷◌, length, map, Option, Some, None, refl, sym, subst, ◌∙◌, arith}
use Rattle.std.specs.Prelude.{slice_index, is_some}
use Rattle.bril_tree.specs.declared.limits.Fault.{Fault}
use Rattle.bril_tree.specs.declared.limits.Fault.TheVariants as fault
use Rattle.bril_tree.specs.declared.limits.Limits.{Limits}
use Rattle.bril_tree.specs.declared.numbered.Instr.{Instr}
use Rattle.bril_tree.specs.declared.numbered.Instr.TheVariants.{Label, Const, Act}
use Rattle.bril_tree.specs.declared.operation.Op.{Op}
use Rattle.bril_tree.specs.declared.operation.Op.TheVariants as op
use Rattle.bril_tree.specs.declared.program.Prog.{Prog}
use Rattle.bril_tree.specs.declared.types.Ty.{Ty}
use Rattle.bril_tree.specs.declared.value.Lit.{Lit}
use Rattle.bril_tree.specs.declared.value.Value.{Value}
use Rattle.bril_tree.specs.Assigned.{assigns_of}
use Rattle.bril_tree.specs.FunctionForm.{listed}
use Rattle.bril_tree.specs.Memory.{cell_at, held}
use Rattle.bril_tree.specs.Operand.{Location, Variable, dest_of}
use Rattle.bril_tree.specs.Outcome.{block_of, offset_of, Outcome, Yields, FaultsWith, HasEffect, action_outcome, argument, int_of}
use Rattle.bril_tree.specs.Shape.{shape_of}
use Rattle.bril_tree.specs.State.{Locals, Frame, Block, State}
use Rattle.bril_tree.specs.Step.{assigned, shadowed, faulted, acts, by_outcome, item_step, loads, loads_held}
use Rattle.bril_tree.specs.Value.{literal_value}
use Rattle.bril_tree.proofs.Outcomes.{div-never_acts, int2char-never_acts, ptradd-never_acts, GoesOn, giver-goes_on}
use Rattle.bril_tree.proofs.Shapes.{shape-parts}
use Rattle.pass_edit_laws.specs.plan.Plan.{ValuesMatch, StaysMatched, ActionsMatch, ItemsMatch}
use Rattle.pass_edit_laws.proofs.lemmas.plan.Outcomes.{action-same}
use Rattle.pass_edit_laws.proofs.lemmas.steps.Shapes.{Shaped, get-gives, undef-gives}
use Rattle.pass_edit_laws.proofs.lemmas.steps.Steps.{frame, state}
use Rattle.pass_edit_laws.proofs.lemmas.plan.Values.{agree-assigned, agree-shadowed, read_at-agree, read-agree}

-- the operations that look at no saves, print nothing, change no memory and go on to the next point
abbrev pub is_attempted_operation : Op → Bool
is_attempted_operation op.Nop = false
is_attempted_operation op.Print = false
is_attempted_operation op.Store = false
is_attempted_operation op.Alloc = false
is_attempted_operation op.Free = false
is_attempted_operation op.Call = false
is_attempted_operation op.Ret = false
is_attempted_operation op.Speculate = false
is_attempted_operation op.Commit = false
is_attempted_operation op.Guard = false
is_attempted_operation op.Jmp = false
is_attempted_operation op.Br = false
is_attempted_operation _ = true

abbrev pub is_attempted : Instr → Bool
is_attempted (Label l) = false
is_attempted (Const dest ty value) = true
is_attempted (Act dest ty operation args funcs labels) = is_attempted_operation operation

-- both fault, or both change locations alone
pub data AttemptedAlike (A : Location → Location → Type 0) (P Q : Prog) (limits : Limits) (s t : State) (onP onQ : Locals → State) (s' t' : State) : Type 0 where
  Faults : (kind : Fault) → s' ≡ faulted kind s → t' ≡ faulted kind t → AttemptedAlike A P Q limits s t onP onQ s' t'
  Moves : (p q : Locals) → s' ≡ onP p → t' ≡ onQ q → ValuesMatch A p q → AttemptedAlike A P Q limits s t onP onQ s' t'

module _ (A : Location → Location → Type 0) (P Q : Prog) (limits : Limits) (k i j : ℕ) (p q : Locals) (agree : ValuesMatch A p q) (ps qs : List Locals) (fs gs : List Frame) (blocks : List Block) (printed : List ℕ) (x y : ℕ → ℕ → ℕ) where
  abbrev F : Frame
  F = frame k i p ps

  abbrev G : Frame
  G = frame k j q qs

  abbrev S : State
  S = state (F ∷ fs) blocks printed None x

  abbrev T : State
  T = state (G ∷ gs) blocks printed None y

  abbrev pub onP : Locals → State
  onP p' = state (frame k (suc i) p' ps ∷ fs) blocks printed None x

  abbrev pub onQ : Locals → State
  onQ q' = state (frame k (suc j) q' qs ∷ gs) blocks printed None y

  abbrev pub Both : State → State → Type 0
  Both = AttemptedAlike A P Q limits S T onP onQ

  given : (a b : Instr) (v : Value) → GoesOn a → GoesOn b → is_some (dest_of a) ≡ is_some (dest_of b) → ((x y : Location) → A x y → StaysMatched (assigns_of a) (assigns_of b) A x y)
      → Both (by_outcome P limits (Yields v) a F fs S) (by_outcome Q limits (Yields v) b G gs T)
  given a b v ga gb dests kept = Moves (assigned (dest_of a) v p) (assigned (dest_of b) v q) refl refl
      (agree-assigned A A p q agree (dest_of a) (dest_of b) v dests
      (λ x y h. subst (λ l. StaysMatched (map Variable (listed (dest_of a))) l A x y) gb.assigns (subst (λ l. StaysMatched l (assigns_of b) A x y) ga.assigns (kept x y h))))

  module _ (d e : Option ℕ) (s t : Option Ty) (args result_args fns gns ls ms : List ℕ) where
    abbrev IA : Op → Instr
    IA o = Act d s o args fns ls

    abbrev IB : Op → Instr
    IB o = Act e t o result_args gns ms

    record Row (o : Op) : Type 0 where
      act : ActionsMatch A o o d e s t args result_args fns gns
      shaped : Shaped P k (IA o)
      kept : (x y : Location) → A x y → StaysMatched (assigns_of (IA o)) (assigns_of (IB o)) A x y
      attempted : is_attempted_operation o ≡ true
      acts : action_outcome o d s args p ≡ HasEffect

    loaded : (o : Option Value) → Row op.Load → Both (loads_held P limits o d F fs S) (loads_held Q limits o e G gs T)
    loaded None r = Faults fault.Uninit refl refl
    loaded (Some v) r = given (IA op.Load) (IB op.Load) v (record { branches = λ c n. refl; keeps = λ b. refl; assigns = refl }) (record { branches = λ c n. refl; keeps = λ b. refl; assigns = refl }) r.act.dest r.kept

    loading : (o : Option ℕ) (v : Value) → Row op.Load → Both (loads P limits o v d F fs S) (loads Q limits o v e G gs T)
    loading None v r = Faults fault.Access refl refl
    loading (Some n) v r = loaded (held blocks v n) r

    row : (o : Op) → Row o → Both (acts P limits o d args fns ls F fs S) (acts Q limits o e result_args gns ms G gs T)
    row op.Load r =
        let v = argument p args 0 in
        let one = (shape-parts (shape_of r.shaped.ret op.Load) (is_some d) (length args) (length fns) (length ls) r.shaped.shaped).args_are in
        let e0 : v ≡ argument q result_args 0 = read_at-agree A A p q agree args result_args 0 (omega (arith, one)) r.act.reads in
        subst (λ a. Both (loads P limits (cell_at blocks v) v d F fs S) (loads Q limits (cell_at blocks a) a e G gs T)) e0 (loading (cell_at blocks v) v r)
    row op.Set r =
        let v = argument p args 1 in
        let e1 : v ≡ argument q result_args 1 = read-agree A A p q agree (slice_index args 1) (slice_index result_args 1) r.act.reads.0 in
        Moves (shadowed (slice_index args 0) v p) (shadowed (slice_index result_args 0) (argument q result_args 1) q) refl refl
        (subst (λ w. ValuesMatch A (shadowed (slice_index args 0) v p) (shadowed (slice_index result_args 0) w q)) e1
        (agree-shadowed A A p q agree (slice_index args 0) (slice_index result_args 0) v r.kept))
    row op.Get r = absurd (get-gives p d (length args) (length fns) (length ls) r.shaped.shaped r.acts)
    row op.Undef r = absurd (undef-gives P r.shaped.f d s args fns ls r.shaped.shaped r.shaped.typed r.acts)
    row op.Div r = absurd (div-never_acts s (argument p args 0) (argument p args 1) r.acts)
    row op.IntToChar r = absurd (int2char-never_acts s (argument p args 0) (argument p args 1) r.acts)
    row op.PtrAdd r = absurd (ptradd-never_acts s (argument p args 0) (argument p args 1) r.acts)
    row op.Nop r = let h = r.attempted in absurd (cc)
    row op.Jmp r = let h = r.attempted in absurd (cc)
    row op.Br r = let h = r.attempted in absurd (cc)
    row op.Print r = let h = r.attempted in absurd (cc)
    row op.Store r = let h = r.attempted in absurd (cc)
    row op.Alloc r = let h = r.attempted in absurd (cc)
    row op.Free r = let h = r.attempted in absurd (cc)
    row op.Call r = let h = r.attempted in absurd (cc)
    row op.Ret r = let h = r.attempted in absurd (cc)
    row op.Speculate r = let h = r.attempted in absurd (cc)
    row op.Commit r = let h = r.attempted in absurd (cc)
    row op.Guard r = let h = r.attempted in absurd (cc)
    row _ r = let h = r.acts in absurd (cc)

    by : (o : Op) (a b : Outcome) → ActionsMatch A o o d e s t args result_args fns gns → Shaped P k (IA o) → ((x y : Location) → A x y → StaysMatched (assigns_of (IA o)) (assigns_of (IB o)) A x y) → is_attempted_operation o ≡ true
        → a ≡ b → action_outcome o d s args p ≡ a → action_outcome o e t result_args q ≡ b → Both (by_outcome P limits a (IA o) F fs S) (by_outcome Q limits b (IB o) G gs T)
    by o (Yields v) b act shaped kept attempted same ga gb =
        subst (λ c. Both (by_outcome P limits (Yields v) (IA o) F fs S) (by_outcome Q limits c (IB o) G gs T)) same
        (given (IA o) (IB o) v (giver-goes_on (IA o) p v ga) (giver-goes_on (IB o) q v (gb ∙ sym same)) act.dest kept)
    by o (FaultsWith kind) b act shaped kept attempted same ga gb =
        subst (λ c. Both (faulted kind S) (by_outcome Q limits c (IB o) G gs T)) same (Faults kind refl refl)
    by o HasEffect b act shaped kept attempted same ga gb =
        subst (λ c. Both (acts P limits o d args fns ls F fs S) (by_outcome Q limits c (IB o) G gs T)) same
        (row o (record { act = act; shaped = shaped; kept = kept; attempted = attempted; acts = ga }))

    act-attempted : (o : Op) → ActionsMatch A o o d e s t args result_args fns gns → Shaped P k (IA o) → ((x y : Location) → A x y → StaysMatched (assigns_of (IA o)) (assigns_of (IB o)) A x y) → is_attempted_operation o ≡ true
        → Both (item_step P limits (Some (IA o)) F fs S) (item_step Q limits (Some (IB o)) G gs T)
    act-attempted o act shaped kept attempted =
        by o _ _ act shaped kept attempted (action-same A p q agree shaped.ret o d e s t args result_args fns gns (length ls) shaped.shaped act) refl refl

    any-act-attempted : (o u : Op) → o ≡ u → ActionsMatch A o u d e s t args result_args fns gns → Shaped P k (IA o) → ((x y : Location) → A x y → StaysMatched (assigns_of (IA o)) (assigns_of (IB u)) A x y) → is_attempted_operation o ≡ true
        → Both (item_step P limits (Some (IA o)) F fs S) (item_step Q limits (Some (IB u)) G gs T)
    any-act-attempted o u e' =
        subst (λ z. ActionsMatch A o z d e s t args result_args fns gns → Shaped P k (IA o) → ((x y : Location) → A x y → StaysMatched (assigns_of (IA o)) (assigns_of (IB z)) A x y) → is_attempted_operation o ≡ true → Both (item_step P limits (Some (IA o)) F fs S) (item_step Q limits (Some (IB z)) G gs T)) e' (act-attempted o)

  pub attempted_alike : (a b : Instr) → ItemsMatch A a b → Shaped P k a → ((x y : Location) → A x y → StaysMatched (assigns_of a) (assigns_of b) A x y) → is_attempted a ≡ true → Both (item_step P limits (Some a) F fs S) (item_step Q limits (Some b) G gs T)
  attempted_alike (Label l) b same shaped kept attempted = absurd cc
  attempted_alike (Const z ty v) (Label l) same shaped kept attempted = absurd same
  attempted_alike (Const z ty v) (Const z' ty' w) same shaped kept attempted =
      subst (λ (l : Lit). Both (item_step P limits (Some (Const z ty v)) F fs S) (item_step Q limits (Some (Const z' ty' l)) G gs T)) same
      (given (Const z ty v) (Const z' ty' v) (literal_value v) (record { branches = λ c n. refl; keeps = λ b. refl; assigns = refl }) (record { branches = λ c n. refl; keeps = λ b. refl; assigns = refl }) refl kept)
  attempted_alike (Const z ty v) (Act e t u result_args gns ms) same shaped kept attempted = absurd same
  attempted_alike (Act d s o args fns ls) (Label l) same shaped kept attempted = absurd same
  attempted_alike (Act d s o args fns ls) (Const z ty v) same shaped kept attempted = absurd same
  attempted_alike (Act d s o args fns ls) (Act e t u result_args gns ms) same shaped kept attempted = any-act-attempted d e s t args result_args fns gns ls ms o u same.operation same shaped kept attempted
