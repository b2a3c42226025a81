-- Which statuses come where a write to the output failed, by what the top call promises.
use Rattle.std.proofs.Common.{◌≡◌, ◌≢◌, ◌∙◌, ◌⊎◌, ◌==◌, refl, ap, subst, Bool, true, false, ℕ, ◌≤◌, List, inl, inr, arith}
use Rattle.std.specs.Prelude.{MatchBool}
use Rattle.std.proofs.lemmas.Bool.{eqb-true}
use Rattle.bril_outside.specs.Sink.{Rose, SinkSeen}
use Rattle.bril_report.specs.Puts.{WritesAll, WritesSome}
use Rattle.bril_commands.specs.Answers.{Answers, Promises}
use Rattle.bril_commands.specs.Call.{Call}

-- no write failed where all was written
sound_all : (s t : SinkSeen) (pieces : List (List ℕ)) → WritesAll s pieces t → t.faults ≡ s.faults
sound_all s t pieces wrote = wrote.out.sound ∙ wrote.puts.put.took.sound

-- one failed where some was
rose_some : (s t : SinkSeen) (pieces : List (List ℕ)) → WritesSome s pieces t → Rose s.faults t.faults
rose_some s t pieces (inl put) = put.rose
rose_some s t pieces (inr held) = subst (λ (n : ℕ). Rose n t.faults) held.puts.put.took.sound held.rose

-- one status of several
pick : {R : Type 0} (status k : ℕ) (P Q : Type 0) → MatchBool (status == k) P Q → (status ≡ k → P → R) → (Q → R) → R
pick {R} status k P Q said here rest = go (status == k) refl said
  where
    go : (b : Bool) → (status == k) ≡ b → MatchBool b P Q → R
    go true is said = here (eqb-true status k is) said
    go false is said = rest said

module _ (status : ℕ) (c : Call) (promises : Promises status c) where
  pub write_failed : status ≡ 74 → Rose c.out_before.faults c.out_after.faults
  write_failed is = let w = subst (λ (n : ℕ). Answers n c) is promises.answers in rose_some c.out_before c.out_after w.output w.took

  module _ (differ : c.out_after.faults ≢ c.out_before.faults) where
    abbrev Comes : Type 0
    Comes = (status ≡ 74) ⊎ (status ≡ 71)

    silent : c.out_after ≡ c.out_before → Comes
    silent same = absurd (differ (ap (λ (t : SinkSeen). t.faults) same))

    refused : 64 ≤ status → status ≤ 70 → Comes
    refused least most = silent (promises.silent least most)

    pub told_failed : Comes
    told_failed =
        pick status 0 _ _ promises.answers (λ is f. absurd (differ (sound_all c.out_before c.out_after f.output f.took))) (λ a.
        pick status 2 _ _ a (λ is f. absurd (differ (sound_all c.out_before c.out_after f.output f.took))) (λ a.
        pick status 3 _ _ a (λ is f. absurd (differ (sound_all c.out_before c.out_after f.output f.took))) (λ a.
        pick status 4 _ _ a (λ is f. absurd (differ (sound_all c.out_before c.out_after f.output f.took))) (λ a.
        pick status 64 _ _ a (λ is f. refused (omega (arith, is)) (omega (arith, is))) (λ a.
        pick status 65 _ _ a (λ is f. refused (omega (arith, is)) (omega (arith, is))) (λ a.
        pick status 66 _ _ a (λ is f. refused (omega (arith, is)) (omega (arith, is))) (λ a.
        pick status 67 _ _ a (λ is f. refused (omega (arith, is)) (omega (arith, is))) (λ a.
        pick status 68 _ _ a (λ is f. refused (omega (arith, is)) (omega (arith, is))) (λ a.
        pick status 69 _ _ a (λ is f. refused (omega (arith, is)) (omega (arith, is))) (λ a.
        pick status 70 _ _ a (λ is f. refused (omega (arith, is)) (omega (arith, is))) (λ a.
        pick status 71 _ _ a (λ is f. inr is) (λ a.
        pick status 72 _ _ a (λ is f. silent (promises.silent_script is)) (λ a.
        pick status 74 _ _ a (λ is f. inl is) (λ a. absurd a))))))))))))))
