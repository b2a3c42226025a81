-- What was printed before changes nothing that steps do.
use Rattle.std.proofs.Common.{◌≡◌, ℕ, zero, suc, ◌-◌, ◌≤◌, Bool, true, false, cond, List, [], ◌∷◌, ◌++◌, Option, Some, None, ℤ, refl, ap, ◌∙◌, append_assoc, append-nil, length}
use Rattle.std.specs.Prelude.{nat_lt}
use Rattle.simulation.specs.System.{after}
use Rattle.simulation.proofs.After.{after-sub}
use Rattle.bril_tree.specs.declared.limits.End.{End}
use Rattle.bril_tree.specs.declared.limits.Fault.{Fault}
use Rattle.bril_tree.specs.declared.limits.Fault.TheVariants as fault
use Rattle.bril_tree.specs.declared.limits.Limits.{Limits}
use Rattle.bril_tree.specs.declared.numbered.Instr.{Instr}
use Rattle.bril_tree.specs.declared.numbered.Instr.TheVariants.{Label, Const, Act}
use Rattle.bril_tree.specs.declared.operation.Op.{Op}
use Rattle.bril_tree.specs.declared.operation.Op.TheVariants as op
use Rattle.bril_tree.specs.declared.program.Prog.{Prog}
use Rattle.bril_tree.specs.declared.value.Value.{Value}
use Rattle.bril_tree.specs.Memory.{live_block, is_freeable}
use Rattle.bril_tree.specs.Outcome.{Outcome, Yields, FaultsWith, HasEffect, argument, block_of, offset_of}
use Rattle.bril_tree.specs.State.{State, Frame, Block}
use Rattle.bril_tree.specs.Step.{with_frames, faulted, returns, ends, prints, line_of, advances, allocates, stores, loads, loads_held, guards, acts, acts_at, by_outcome, item_step, frames_step, running_step, step, item_at}
use Rattle.bril_interpreter.specs.StepAnswers.{unprinted}

-- the state with these bytes printed before
abbrev pub in_front : List ℕ → State → State
in_front bytes s = record s { printed = bytes ++ s.printed }

pub in_front-unprinted : (s : State) → in_front s.printed (unprinted s) ≡ s
in_front-unprinted s = ap (λ w. record s { printed = w }) (append-nil s.printed)

module _ (p : Prog) (limits : Limits) (bytes : List ℕ) where
  front-ends : (b : Bool) (s : State) → ends p limits b (in_front bytes s) ≡ in_front bytes (ends p limits b s)
  front-ends true s = refl
  front-ends false s = refl

  front-returns : (v : Value) (older : List Frame) (s : State) → returns p limits v older (in_front bytes s) ≡ in_front bytes (returns p limits v older s)
  front-returns v [] s = front-ends _ s
  front-returns v (caller ∷ older) s = refl

  front-prints : (vs : List Value) (f : Frame) (older : List Frame) (s : State) → prints p limits vs f older (in_front bytes s) ≡ in_front bytes (prints p limits vs f older s)
  front-prints vs f older s = ap (λ w. record (advances p limits f older s) { printed = w }) (append_assoc bytes s.printed (line_of vs))

  front-allocates : (o : Option Fault) (count : ℤ) (dest : Option ℕ) (f : Frame) (older : List Frame) (s : State) → allocates p limits o count dest f older (in_front bytes s) ≡ in_front bytes (allocates p limits o count dest f older s)
  front-allocates None count dest f older s = refl
  front-allocates (Some kind) count dest f older s = refl

  front-stores : (o : Option ℕ) (pointer v : Value) (f : Frame) (older : List Frame) (s : State) → stores p limits o pointer v f older (in_front bytes s) ≡ in_front bytes (stores p limits o pointer v f older s)
  front-stores None pointer v f older s = refl
  front-stores (Some n) pointer v f older s = refl

  front-loads_held : (o : Option Value) (dest : Option ℕ) (f : Frame) (older : List Frame) (s : State) → loads_held p limits o dest f older (in_front bytes s) ≡ in_front bytes (loads_held p limits o dest f older s)
  front-loads_held None dest f older s = refl
  front-loads_held (Some v) dest f older s = refl

  front-loads : (o : Option ℕ) (pointer : Value) (dest : Option ℕ) (f : Frame) (older : List Frame) (s : State) → loads p limits o pointer dest f older (in_front bytes s) ≡ in_front bytes (loads p limits o pointer dest f older s)
  front-loads None pointer dest f older s = refl
  front-loads (Some n) pointer dest f older s = front-loads_held _ dest f older s

  front-guards : (b : Bool) (l : ℕ) (f : Frame) (older : List Frame) (s : State) → guards p limits b l f older (in_front bytes s) ≡ in_front bytes (guards p limits b l f older s)
  front-guards true l f older s = refl
  front-guards false l f older s = refl

  front-calls : (b : Bool) (g f : Frame) (older : List Frame) (s : State) → cond b (with_frames (g ∷ f ∷ older) (in_front bytes s)) (faulted fault.Frames (in_front bytes s)) ≡ in_front bytes (cond b (with_frames (g ∷ f ∷ older) s) (faulted fault.Frames s))
  front-calls true g f older s = refl
  front-calls false g f older s = refl

  front-frees : (b : Bool) (blocks : List Block) (f : Frame) (older : List Frame) (s : State) → cond b (advances p limits f older (record (in_front bytes s) { blocks = blocks })) (faulted fault.BadFree (in_front bytes s)) ≡ in_front bytes (cond b (advances p limits f older (record s { blocks = blocks })) (faulted fault.BadFree s))
  front-frees true blocks f older s = refl
  front-frees false blocks f older s = refl

  front-acts : (o : Op) (dest : Option ℕ) (args funcs labels : List ℕ) (f : Frame) (older : List Frame) (s : State) → acts p limits o dest args funcs labels f older (in_front bytes s) ≡ in_front bytes (acts p limits o dest args funcs labels f older s)
  front-acts op.Print dest args funcs labels f older s = front-prints _ f older s
  front-acts op.Call dest args funcs labels f older s = front-calls (nat_lt (suc (length older)) limits.frames) _ f older s
  front-acts op.Ret dest args funcs labels f older s = front-returns _ older s
  front-acts op.Alloc dest args funcs labels f older s = front-allocates _ _ dest f older s
  front-acts op.Free dest args funcs labels f older s =
      let pointer : Value = argument f.locations args 0 in
      front-frees (is_freeable (live_block s.blocks (block_of pointer)) (offset_of pointer)) _ f older s
  front-acts op.Store dest args funcs labels f older s = front-stores _ _ _ f older s
  front-acts op.Load dest args funcs labels f older s = front-loads _ _ dest f older s
  front-acts op.Guard dest args funcs labels f older s = front-guards _ _ f older s
  front-acts _ dest args funcs labels f older s = refl

  front-acts_at : (item : Instr) (f : Frame) (older : List Frame) (s : State) → acts_at p limits item f older (in_front bytes s) ≡ in_front bytes (acts_at p limits item f older s)
  front-acts_at (Label l) f older s = refl
  front-acts_at (Const dest ty value) f older s = refl
  front-acts_at (Act dest ty o args funcs labels) f older s = front-acts o dest args funcs labels f older s

  front-by_outcome : (o : Outcome) (item : Instr) (f : Frame) (older : List Frame) (s : State) → by_outcome p limits o item f older (in_front bytes s) ≡ in_front bytes (by_outcome p limits o item f older s)
  front-by_outcome (Yields v) item f older s = refl
  front-by_outcome (FaultsWith kind) item f older s = refl
  front-by_outcome HasEffect item f older s = front-acts_at item f older s

  front-item_step : (o : Option Instr) (f : Frame) (older : List Frame) (s : State) → item_step p limits o f older (in_front bytes s) ≡ in_front bytes (item_step p limits o f older s)
  front-item_step None f older s = front-returns _ older s
  front-item_step (Some item) f older s = front-by_outcome _ item f older s

  front-frames_step : (frames : List Frame) (s : State) → frames_step p limits frames (in_front bytes s) ≡ in_front bytes (frames_step p limits frames s)
  front-frames_step [] s = front-ends _ s
  front-frames_step (f ∷ older) s = front-item_step (item_at p f.function f.point) f older s

  front-running_step : (o : Option End) (s : State) → running_step p limits o (in_front bytes s) ≡ in_front bytes (running_step p limits o s)
  front-running_step None s = front-frames_step s.frames s
  front-running_step (Some how) s = refl

  -- a step with these bytes in front
  pub step-in_front : (s : State) → step p limits (in_front bytes s) ≡ in_front bytes (step p limits s)
  step-in_front s = front-running_step s.ended s

  -- so are many steps
  pub after-in_front : (n : ℕ) (s : State) → after (step p limits) n (in_front bytes s) ≡ in_front bytes (after (step p limits) n s)
  after-in_front zero s = refl
  after-in_front (suc n) s = ap (after (step p limits) n) (step-in_front s) ∙ after-in_front n (step p limits s)

module _ (p : Prog) (limits : Limits) where
  -- a run that ended stays as it is
  pub step-ended : (s : State) (how : End) → s.ended ≡ Some how → step p limits s ≡ s
  step-ended s how e = ap (λ o. running_step p limits o s) e

  pub after-ended : (n : ℕ) (s : State) (how : End) → s.ended ≡ Some how → after (step p limits) n s ≡ s
  after-ended zero s how e = refl
  after-ended (suc n) s how e = ap (after (step p limits) n) (step-ended s how e) ∙ after-ended n s how e

  -- a run that ended within some steps is the same after more
  pub after-final : (m n : ℕ) (s : State) (how : End) → m ≤ n → (after (step p limits) m s).ended ≡ Some how → after (step p limits) n s ≡ after (step p limits) m s
  after-final m n s how h e = after-sub (step p limits) m n s h ∙ after-ended (n - m) (after (step p limits) m s) how e
