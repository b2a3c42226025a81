use Rattle.std.proofs.Common.{◌≡◌, ℕ, Some, MatchOption, length, refl, sym, subst}
use Rattle.std.specs.Prelude.{slice_get}
use Rattle.std.proofs.lemmas.Option.{slice_get_read}
use Rattle.side_pairs.specs.Meetings.{IsNegation}
use Rattle.side_pairs.proofs.meeting.negation_at.Goals as goal

pub returns-in-Some : goal.returns-in-Some
returns-in-Some c =
    let l = c.in-Some.ensures.lookup in
    let here : slice_get c.args.code.now c.args.point ≡ Some c.in-Some.item.now = slice_get_read c.args.code.now (length c.args.code.now) c.args.point c.in-Some.item.now refl l.3.0 l.1 in
    subst (λ o. MatchOption c.negation_of.result ((n : ℕ) → IsNegation o n c.args.condition → ⊥) (λ n. IsNegation o n c.args.condition)) (sym here) c.negation_of.ensures
