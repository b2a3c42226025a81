-- Link by link, the numbers of what a chain makes stay within those of the rows.
use Rattle.std.proofs.Common.{◌≡◌, ℕ, ◌+◌, ◌*◌, ◌≤◌, Bool, true, false, All, List, [], ◌∷◌, length, Some, None, refl, sym, ap, subst, ◌∙◌, inl, inr, arith}
use Rattle.std.proofs.lemmas.Nat.{mul-le}
use Rattle.std.proofs.lemmas.Option.{same_Some}
use Rattle.bril_profile.specs.declared.profile.Profile.{Profile}
use Rattle.bril_tree.specs.declared.program.Prog.{Prog}
use Rattle.bril_tree.specs.Accepted.{IsAccepted}
use Rattle.bril_tree.specs.Membership.{In}
use Rattle.pass_law.specs.Chains.{AreFactors, Chain, IsFactorOf, first_answering, or_else}
use Rattle.pass_law.specs.Meaning.{Meaning}
use Rattle.pass_edit_laws.proofs.lemmas.plan.Elements.{all_in}
use Rattle.pass_budget_laws.specs.Budget.{factors_of, numbers_after, step_words}
use Rattle.pass_budget_laws.specs.Laws.{ChainsAreWithinBudget, IsWithinRows}
use Rattle.pass_budget_laws.specs.Numbers.{Numbers, AreWithin}
use Rattle.pass_budget_laws.specs.Rows.{Row, row_of}
use Rattle.pass_budget_laws.proofs.Costing.{cost-within}

module _ {B : Type 0} (meaning : B → Meaning) where
  -- the first pass that answers is one of the passes, and answers
  first-answers : (passes : List B) (name : List ℕ) (pass : B) → first_answering meaning passes name ≡ Some pass → In pass passes × ((meaning pass).answers name ≡ true)
  first-answers [] name pass e = absurd (let n : None ≡ Some pass = e in cc)
  first-answers (q ∷ passes) name pass e = by ((meaning q).answers name) refl (first-answers passes name pass)
    where
      by : (b : Bool) → (meaning q).answers name ≡ b → (first_answering meaning passes name ≡ Some pass → In pass passes × ((meaning pass).answers name ≡ true)) → In pass (q ∷ passes) × ((meaning pass).answers name ≡ true)
      by true h rest = let is : q ≡ pass = same_Some q pass (sym (ap (λ c. or_else c q (first_answering meaning passes name)) h) ∙ e) in (inl (sym is), subst (λ r. (meaning r).answers name ≡ true) is h)
      by false h rest = let r = rest (sym (ap (λ c. or_else c q (first_answering meaning passes name)) h) ∙ e) in (inr r.0, r.1)

  module _ (rows : List Row) (passes : List B) (profile : Profile) (each : All (λ pass. IsWithinRows rows (meaning pass)) passes) where
    -- what is at the end of a chain, and the product of its factors
    record Ends (names : List (List ℕ)) (p : Prog) (programs : List Prog) (q : Prog) (n : Numbers) : Type 0 where
      accepted : IsAccepted q
      within : AreWithin q (numbers_after rows (length profile.entries) names n)
      factors : (k : ℕ) → AreFactors meaning passes profile names p programs k → k ≤ factors_of rows (length profile.entries) names n

    ends : (names : List (List ℕ)) (p : Prog) (programs : List Prog) (q : Prog) (n : Numbers) → IsAccepted p → AreWithin p n → Chain meaning passes profile names p programs q → Ends names p programs q n
    ends [] p [] q n accepted within c = record { accepted = subst IsAccepted c accepted; within = subst (λ r. AreWithin r n) c within; factors = λ k e. omega (arith, e) }
    ends [] p (r ∷ programs) q n accepted within c = absurd c
    ends (name ∷ names) p [] q n accepted within c = absurd c
    ends (name ∷ names) p (r ∷ programs) q n accepted within c =
        let l = c.0 in
        let first = first-answers passes name l.pass l.first in
        let row = all_in (λ pass. IsWithinRows rows (meaning pass)) passes each l.pass first.0 name first.1 in
        let rest = ends names r programs q ((row_of rows name).after (length profile.entries) n) l.link.accepted (row.after p r profile n accepted within l.link) c.1 in
        record {
          accepted = rest.accepted;
          within = rest.within;
          factors = λ k are.
              let here = row.factor p profile n are.first accepted within (subst (λ o. IsFactorOf meaning passes profile o p are.first) l.first are.is_first) in
              let there = rest.factors are.rest are.is_rest in
              let both = mul-le are.first are.rest ((row_of rows name).factor n) (factors_of rows (length profile.entries) names ((row_of rows name).after (length profile.entries) n)) here there in
              subst (λ z. z ≤ factors_of rows (length profile.entries) (name ∷ names) n) (sym are.is) both;
        }

pub chains-within_budget : {B : Type 0} (meaning : B → Meaning) → ChainsAreWithinBudget meaning
chains-within_budget meaning rows passes profile names p programs q n cost factor steps each accepted within chain is_cost are =
    let e = ends meaning rows passes profile each names p programs q n accepted within chain in
    let step = cost-within q (numbers_after rows (length profile.entries) names n) cost e.accepted e.within is_cost in
    let product = e.factors factor are in
    mul-le cost (factor * (steps + 1)) (step_words (numbers_after rows (length profile.entries) names n)) (factors_of rows (length profile.entries) names n * (steps + 1)) step
    (mul-le factor (steps + 1) (factors_of rows (length profile.entries) names n) (steps + 1) product (omega arith))
