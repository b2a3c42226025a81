-- Tables of constants: when one is consistent, and the least of them. This is sparse conditional constant propagation
-- (Wegman and Zadeck, 1991) as a condition on tables.
use Rattle.std.specs.Prelude.{◌≡◌, ℕ, ◌<◌, Bool, true, List, Some, slice_get}
use Rattle.bril_tree.specs.declared.numbered.Instr.{Instr}
use Rattle.bril_tree.specs.Assigned.{assigns_of}
use Rattle.bril_tree.specs.Membership.{In}
use Rattle.bril_tree.specs.Operand.{Location, Variable}
use Rattle.constant_pass.specs.declared.constants.known.Known.TheVariants.{Many}
use Rattle.constant_pass.specs.constants.Known.{IsBelow}
use Rattle.constant_pass.specs.constants.Answer.{Knowledge, answer}
use Rattle.constant_pass.specs.constants.Ways.{item_ways}

-- what is known of each location of a function, and which of its points are reached
pub record Table : Type 0 where
  pub known : Knowledge
  pub reached : ℕ → Bool

-- In a function with so many arguments the first item is reached, and arguments may be anything. What a reached item assigns
-- is at least its answer, and the points to which it leads by what is known are reached.
pub record IsConsistent (code : List Instr) (args : ℕ) (t : Table) : Type 0 where
  pub start : t.reached 0 ≡ true
  pub arguments : (x : ℕ) → x < args → t.known (Variable x) ≡ Many
  pub assigned : (point : ℕ) (item : Instr) → slice_get code point ≡ Some item → t.reached point ≡ true → (x : Location) → In x (assigns_of item) → IsBelow (answer t.known item) (t.known x)
  pub leads : (point : ℕ) (item : Instr) → slice_get code point ≡ Some item → t.reached point ≡ true → (to : ℕ) → In to (item_ways t.known code point item) → t.reached to ≡ true

-- the first table is at or below the second, at each location and each point
pub record IsAtMost (t u : Table) : Type 0 where
  pub known : (x : Location) → IsBelow (t.known x) (u.known x)
  pub reached : (point : ℕ) → t.reached point ≡ true → u.reached point ≡ true

-- A consistent table at or below every consistent table.
pub record IsLeast (code : List Instr) (args : ℕ) (t : Table) : Type 0 where
  pub consistent : IsConsistent code args t
  pub least : (u : Table) → IsConsistent code args u → IsAtMost t u
