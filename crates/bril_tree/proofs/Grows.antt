-- A program under limits is a system: a run that ended rests, and what was printed only grows.
use Rattle.std.proofs.Common.{◌≡◌, ℕ, Bool, true, false, cond, refl, sym, List, [], ◌∷◌, Option, Some, None, ℤ}
use Rattle.std.specs.Prelude.{IsSome}
use Rattle.simulation.specs.System.{IsSystem, IsPrefix}
use Rattle.simulation.proofs.Prefix.{IsPrefix-equal}
use Rattle.bril_tree.specs.declared.limits.End.{End}
use Rattle.bril_tree.specs.declared.limits.Fault.{Fault}
use Rattle.bril_tree.specs.declared.limits.Limits.{Limits}
use Rattle.bril_tree.specs.declared.numbered.Instr.{Instr}
use Rattle.bril_tree.specs.declared.numbered.Instr.TheVariants.{Label, Const, Act}
use Rattle.bril_tree.specs.declared.operation.Op.{Op}
use Rattle.bril_tree.specs.declared.operation.Op.TheVariants as op
use Rattle.bril_tree.specs.declared.program.Prog.{Prog}
use Rattle.bril_tree.specs.declared.value.Value.{Value}
use Rattle.bril_tree.specs.Outcome.{Outcome, Yields, FaultsWith, HasEffect}
use Rattle.bril_tree.specs.Run.{program}
use Rattle.bril_tree.specs.State.{State, Frame}
use Rattle.bril_tree.specs.Step.{returns, ends, allocates, stores, loads, loads_held, guards, acts, acts_at, by_outcome, item_step, frames_step, running_step, item_at}

same : {a b : List ℕ} → b ≡ a → IsPrefix a b
same {a} {b} e = IsPrefix-equal a b (sym e)

-- a choice between two states that grew
by_choice : (xs : List ℕ) (b : Bool) (s t : State) → IsPrefix xs s.printed → IsPrefix xs t.printed → IsPrefix xs (cond b s t).printed
by_choice xs true s t p q = p
by_choice xs false s t p q = q

module _ (p : Prog) (limits : Limits) where
  ends_grows : (b : Bool) (s : State) → IsPrefix s.printed (ends p limits b s).printed
  ends_grows true s = same refl
  ends_grows false s = same refl

  returns_grows : (v : Value) (older : List Frame) (s : State) → IsPrefix s.printed (returns p limits v older s).printed
  returns_grows v [] s = ends_grows _ s
  returns_grows v (caller ∷ older) s = same refl

  allocates_grows : (o : Option Fault) (count : ℤ) (dest : Option ℕ) (f : Frame) (older : List Frame) (s : State) → IsPrefix s.printed (allocates p limits o count dest f older s).printed
  allocates_grows None count dest f older s = same refl
  allocates_grows (Some kind) count dest f older s = same refl

  stores_grows : (o : Option ℕ) (pointer v : Value) (f : Frame) (older : List Frame) (s : State) → IsPrefix s.printed (stores p limits o pointer v f older s).printed
  stores_grows None pointer v f older s = same refl
  stores_grows (Some n) pointer v f older s = same refl

  loads_held_grows : (o : Option Value) (dest : Option ℕ) (f : Frame) (older : List Frame) (s : State) → IsPrefix s.printed (loads_held p limits o dest f older s).printed
  loads_held_grows None dest f older s = same refl
  loads_held_grows (Some v) dest f older s = same refl

  loads_grows : (o : Option ℕ) (pointer : Value) (dest : Option ℕ) (f : Frame) (older : List Frame) (s : State) → IsPrefix s.printed (loads p limits o pointer dest f older s).printed
  loads_grows None pointer dest f older s = same refl
  loads_grows (Some n) pointer dest f older s = loads_held_grows _ dest f older s

  guards_grows : (b : Bool) (l : ℕ) (f : Frame) (older : List Frame) (s : State) → IsPrefix s.printed (guards p limits b l f older s).printed
  guards_grows true l f older s = same refl
  guards_grows false l f older s = same refl

  acts_grows : (o : Op) (dest : Option ℕ) (args funcs labels : List ℕ) (f : Frame) (older : List Frame) (s : State) → IsPrefix s.printed (acts p limits o dest args funcs labels f older s).printed
  acts_grows op.Print dest args funcs labels f older s = (_, refl)
  acts_grows op.Call dest args funcs labels f older s = by_choice s.printed _ _ _ (same refl) (same refl)
  acts_grows op.Ret dest args funcs labels f older s = returns_grows _ older s
  acts_grows op.Alloc dest args funcs labels f older s = allocates_grows _ _ dest f older s
  acts_grows op.Free dest args funcs labels f older s = by_choice s.printed _ _ _ (same refl) (same refl)
  acts_grows op.Store dest args funcs labels f older s = stores_grows _ _ _ f older s
  acts_grows op.Load dest args funcs labels f older s = loads_grows _ _ dest f older s
  acts_grows op.Guard dest args funcs labels f older s = guards_grows _ _ f older s
  acts_grows _ dest args funcs labels f older s = same refl

  acts_at_grows : (item : Instr) (f : Frame) (older : List Frame) (s : State) → IsPrefix s.printed (acts_at p limits item f older s).printed
  acts_at_grows (Label l) f older s = same refl
  acts_at_grows (Const dest ty value) f older s = same refl
  acts_at_grows (Act dest ty o args funcs labels) f older s = acts_grows o dest args funcs labels f older s

  by_outcome_grows : (o : Outcome) (item : Instr) (f : Frame) (older : List Frame) (s : State) → IsPrefix s.printed (by_outcome p limits o item f older s).printed
  by_outcome_grows (Yields v) item f older s = same refl
  by_outcome_grows (FaultsWith kind) item f older s = same refl
  by_outcome_grows HasEffect item f older s = acts_at_grows item f older s

  item_step_grows : (o : Option Instr) (f : Frame) (older : List Frame) (s : State) → IsPrefix s.printed (item_step p limits o f older s).printed
  item_step_grows None f older s = returns_grows _ older s
  item_step_grows (Some item) f older s = by_outcome_grows _ item f older s

  frames_step_grows : (frames : List Frame) (s : State) → IsPrefix s.printed (frames_step p limits frames s).printed
  frames_step_grows [] s = ends_grows _ s
  frames_step_grows (f ∷ older) s = item_step_grows (item_at p f.function f.point) f older s

  step_grows : (o : Option End) (s : State) → IsPrefix s.printed (running_step p limits o s).printed
  step_grows None s = frames_step_grows s.frames s
  step_grows (Some how) s = same refl

  step_rests : (o : Option End) (s : State) → IsSome o → running_step p limits o s ≡ s
  step_rests None s final = cc
  step_rests (Some how) s final = refl

  pub program_is_system : IsSystem (program p limits)
  program_is_system = record {
    rests = λ s final. step_rests s.ended s final;
    grows = λ s. step_grows s.ended s;
  }
