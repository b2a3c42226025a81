-- A budget is enough.
use Rattle.std.specs.Prelude.{◌≡◌, ℕ, ◌+◌, ◌*◌, ◌≤◌, true, List, length}
use Rattle.std.specs.List.{All}
use Rattle.bril_profile.specs.declared.profile.Profile.{Profile}
use Rattle.bril_tree.specs.declared.program.Prog.{Prog}
use Rattle.bril_tree.specs.Accepted.{IsAccepted}
use Rattle.pass_law.specs.Chains.{Chain, AreFactors}
use Rattle.pass_law.specs.Meaning.{Meaning, Link}
use Rattle.program_numbers.specs.Cost.{IsCost}
use Rattle.pass_budget_laws.specs.Budget.{budget}
use Rattle.pass_budget_laws.specs.Numbers.{Numbers, AreNumbers, AreWithin}
use Rattle.pass_budget_laws.specs.Rows.{Row, row_of}

-- Of a program with at most some numbers the factor, and the numbers of what is made of it, are at most those of the row.
pub record IsWithinRow (m : Meaning) (row : Row) : Type 0 where
  pub factor : (p : Prog) (profile : Profile) (n : Numbers) (k : ℕ) → IsAccepted p → AreWithin p n → m.IsFactor p profile k → k ≤ row.factor n
  pub after : (p q : Prog) (profile : Profile) (n : Numbers) → IsAccepted p → AreWithin p n → Link m profile p q → AreWithin q (row.after (length profile.entries) n)

-- So it is with the row, of these rows, of each name to which a pass answers.
abbrev pub IsWithinRows : List Row → Meaning → Type 0
IsWithinRows rows m = (name : List ℕ) → m.answers name ≡ true → IsWithinRow m (row_of rows name)

-- For what a chain makes, with this cost of a step and this product of the factors, the budget of its names is enough.
abbrev pub ChainsAreWithinBudget : {B : Type 0} → (B → Meaning) → Type 0
ChainsAreWithinBudget {B} meaning =
    (rows : List Row) (passes : List B) (profile : Profile) (names : List (List ℕ)) (p : Prog) (programs : List Prog) (q : Prog) (n : Numbers) (cost factor steps : ℕ)
    → All (λ pass. IsWithinRows rows (meaning pass)) passes → IsAccepted p → AreWithin p n → Chain meaning passes profile names p programs q → IsCost q cost → AreFactors meaning passes profile names p programs factor
    → cost * (factor * (steps + 1)) ≤ budget rows (length profile.entries) names n steps

abbrev pub OwnNumbersAreWithin : Type 0
OwnNumbersAreWithin = (p : Prog) (n : Numbers) → AreNumbers p n → AreWithin p n
