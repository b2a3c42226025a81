-- A plan gives refinement.
use Rattle.std.proofs.Common.{◌≡◌, ℕ, zero, suc, ◌*◌, ◌<◌, ◌≤◌, None, refl, sym, subst, ◌∙◌, inl, inr, arith}
use Rattle.std.specs.Prelude.{slice_get}
use Rattle.std.proofs.Math.Nat.{mul-le-mul_left}
use Rattle.simulation.specs.System.{Agree, after}
use Rattle.simulation.specs.Simulation.{Chunk, Simulation}
use Rattle.simulation.proofs.After.{after-suc, running-not_final}
use Rattle.simulation.proofs.Simulation.{Follows-from_simulation}
use Rattle.bril_tree.specs.declared.limits.Limits.{Limits}
use Rattle.bril_tree.specs.declared.program.Prog.{Prog}
use Rattle.bril_tree.specs.Accepted.{IsAccepted}
use Rattle.bril_tree.specs.Run.{program, first_state, Suits, types_of}
use Rattle.bril_tree.specs.State.{State}
use Rattle.bril_tree.specs.Step.{step}
use Rattle.bril_tree.proofs.Grows.{program_is_system}
use Rattle.bril_tree.proofs.Elements.{zip-long}
use Rattle.pass_edit_laws.specs.plan.Plan.{Plan, Preserves, StatesMatch}
use Rattle.pass_edit_laws.specs.steps.Refinement.{CatchesUp, MatchOrEnd, Progress, CatchUp, SourceMoves, BothMove, Advances, PlanRefines}
use Rattle.pass_edit_laws.proofs.lemmas.steps.Steps.{regular_steps_match, first_states_match}

module _ (m : Plan) (P Q : Prog) (limits : Limits) (k : ℕ) (accepted : IsAccepted P) (preserves : Preserves m P Q) (advances : Advances m P Q limits k) where
  abbrev ChunkFrom : State → State → Type 0
  ChunkFrom s t = Chunk (program P limits) (program Q limits) k (MatchOrEnd m P Q limits) s t

  -- the result catches up, and both make the same step
  caught_up : (c : ℕ) (s t : State) → s.ended ≡ None → suc c ≤ k → CatchesUp m P Q limits c s t → ChunkFrom s t
  caught_up c s t runs within h =
      let few = h.few in
      record {
        early = 0;
        moves = h.count;
        within = omega arith;
        quiet = refl;
        running = runs;
        again = inl (subst (λ z. StatesMatch m P Q (step P limits s) z) (sym (after-suc (step Q limits) h.count t)) (regular_steps_match m P Q limits accepted preserves s (after (step Q limits) h.count t) h.matched runs h.regular));
      }

  -- one more step of the program alone in front
  longer : (s t : State) → StatesMatch m P Q s t → StatesMatch m P Q (step P limits s) t → ChunkFrom (step P limits s) t → ChunkFrom s t
  longer s t r r' chunk =
      let more : k * suc chunk.early ≤ k * suc (suc chunk.early) = mul-le-mul_left k (omega arith) in
      let h = chunk.within in
      record {
        early = suc chunk.early;
        moves = chunk.moves;
        within = omega (arith, more, h);
        quiet = chunk.quiet ∙ r'.printed ∙ sym r.printed;
        running = chunk.running;
        again = chunk.again;
      }

  -- the steps that the program makes alone end, since the distance falls
  chunk_from : (fuel : ℕ) (s t : State) → advances.distance s < fuel → StatesMatch m P Q s t → s.ended ≡ None → ChunkFrom s t
  chunk_from zero s t enough r runs = absurd (omega arith)
  chunk_from (suc fuel) s t enough r runs = by (λ s' r' runs' falls. chunk_from fuel s' t (omega arith) r' runs') (advances.progress s t r runs)
    where
      by : ((s' : State) → StatesMatch m P Q s' t → s'.ended ≡ None → advances.distance s' < advances.distance s → ChunkFrom s' t) → Progress m P Q limits k advances.distance s t → ChunkFrom s t
      by rest (CatchUp c within h) = caught_up c s t runs within h
      by rest (SourceMoves falls r') = longer s t r r' (rest (step P limits s) r' (r'.ended ∙ sym r.ended ∙ runs) falls)
      by rest (BothMove chunk) = chunk

  simulates : Simulation (program P limits) (program Q limits) k (MatchOrEnd m P Q limits)
  simulates = record { agrees = agrees; chunk = chunk }
    where
      agrees : (s t : State) → MatchOrEnd m P Q limits s t → Agree (program P limits) (program Q limits) s t
      agrees s t (inl r) = (r.ended, r.printed)
      agrees s t (inr e) = (e.ended, e.printed)

      chunk : (s t : State) → MatchOrEnd m P Q limits s t → s.ended ≡ None → ChunkFrom s t
      chunk s t (inl r) runs = chunk_from (suc (advances.distance s)) s t (omega arith) r runs
      chunk s t (inr e) runs = absurd (running-not_final s.ended runs e.final)

pub plan_refines : (plan : Prog → Prog → Plan) → PlanRefines plan
plan_refines plan P Q k accepted preserves positive advances = record {
  same_types = preserves.types;
  positive = positive;
  follows = λ limits args fit.
      Follows-from_simulation (program P limits) (program Q limits) (MatchOrEnd (plan P Q) P Q limits) (program_is_system P limits) (program_is_system Q limits) k (simulates (plan P Q) P Q limits k accepted preserves (advances limits))
      (first_state P limits args) (first_state Q limits args) (inl (first_states_match (plan P Q) P Q limits accepted preserves args (zip-long Suits args (types_of (slice_get P.funcs P.main)) fit)));
}
