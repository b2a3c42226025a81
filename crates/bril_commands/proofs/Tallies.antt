-- The lines of the passes that a list used, pass by pass.
use Rattle.std.proofs.Common.{◌≡◌, ℕ, suc, ◌+◌, ◌<◌, List, ◌++◌, length, take, drop, sym, ap, ◌∙◌, subst, arith}
use Rattle.std.specs.Prelude.{get_or}
use Rattle.std.proofs.Math.Seq.{take-suc, drop-cons}
use Rattle.bril_outside.specs.Sink.{SinkSeen}
use Rattle.bril_report.proofs.Telling.{Tells-append}
use Rattle.bril_report.specs.Told.{Tells}
use Rattle.bril_report.specs.declared.error_output.ErrorOutput.{ErrorOutput}
use Rattle.pass_law.specs.Meaning.{Meaning}
use Rattle.pass_law.specs.declared.tally.Tally.{Tally}
use Rattle.bril_commands.specs.PassList.{used_pieces, pieces_from}

module _ {B : Type 0} (meaning : B → Meaning) (counts : B → Tally) (names : List (List ℕ)) (passes : List B) (i : ℕ) where
  -- the pass at a place, and those after it
  pieces_next : (d : B) → i < length passes
      → pieces_from meaning counts names (take i passes) (drop i passes)
      ≡ used_pieces meaning counts names (take i passes) (get_or passes i d) ++ pieces_from meaning counts names (take (i + 1) passes) (drop (i + 1) passes)
  pieces_next d inside =
      let next : suc i ≡ i + 1 = omega arith in
      ap (pieces_from meaning counts names (take i passes)) (drop-cons passes i d inside)
      ∙ ap (λ earlier. used_pieces meaning counts names (take i passes) (get_or passes i d) ++ pieces_from meaning counts names earlier (drop (suc i) passes)) (sym (take-suc passes i d inside))
      ∙ ap (λ n. used_pieces meaning counts names (take i passes) (get_or passes i d) ++ pieces_from meaning counts names (take n passes) (drop n passes)) next

  pub tells_next : {E : Type 0} (seen : E → SinkSeen) (a b c : ErrorOutput E) (pass : B) → i < length passes → pass ≡ get_or passes i pass
      → Tells seen a (used_pieces meaning counts names (take i passes) pass) b
      → Tells seen b (pieces_from meaning counts names (take (i + 1) passes) (drop (i + 1) passes)) c
      → Tells seen a (pieces_from meaning counts names (take i passes) (drop i passes)) c
  tells_next seen a b c pass inside is one rest =
      let here : used_pieces meaning counts names (take i passes) pass ≡ used_pieces meaning counts names (take i passes) (get_or passes i pass) = ap (used_pieces meaning counts names (take i passes)) is in
      subst (λ ps. Tells seen a ps c) (sym (pieces_next pass inside))
      (Tells-append seen (subst (λ ps. Tells seen a ps b) here one) rest)
