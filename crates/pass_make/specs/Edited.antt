-- What an edit owes of what it makes.
use Rattle.std.specs.Prelude.{◌≡◌, ℕ, ◌⊎◌, ◌≤◌}
use Rattle.bril_profile.specs.declared.profile.Profile.{Profile}
use Rattle.bril_tree.specs.Accepted.{IsAccepted}
use Rattle.bril_tree.specs.Numbered.{Numbered, tree_size}
use Rattle.bril_tree.specs.Size.{item_count}
use Rattle.bril_tree.specs.declared.program.Prog.{Prog}
use Rattle.pass_law.specs.Bounds.{capped}
use Rattle.pass_law.specs.Meaning.{Meaning, Link}
use Rattle.pass_make.specs.CanBeMade.{CanBeMade}
use Rattle.pass_make.specs.declared.made.Made.{Made}
use Rattle.pass_make.specs.declared.made.Made.TheVariants.{Tree, Program}

-- the number is a bound, or 2^64 - 1 where that is greater
pub record TellsBound (IsBound : ℕ → Type 0) (told : ℕ) : Type 0 where
  pub bound : ℕ
  pub is : IsBound bound
  pub tells : told ≡ capped bound

-- no bound is too large for a program of this size
abbrev pub HasRoom : (IsBound : ℕ → Type 0) (size : ℕ) → Type 0
HasRoom IsBound size = (bound : ℕ) → IsBound bound → (bound ≤ 1000000) ⊎ (bound ≤ size)

-- What an edit made of P is a program that the pass may make of it, or becomes one.
abbrev pub IsLinkedTo : Meaning → Profile → Prog → Made → Type 0
IsLinkedTo m profile P (Tree tree) = CanBeMade P tree × ((Q : Prog) → Numbered tree Q → IsAccepted Q → item_count Q ≡ tree_size tree → Link m profile P Q)
IsLinkedTo m profile P (Program made) = Link m profile P made.prog
