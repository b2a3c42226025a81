-- What a pass means, and the link between a program and what a pass made of it.
use Rattle.std.specs.Prelude.{◌≡◌, ◌↔◌, ℕ, ◌≤◌, Bool, List, nat_eq}
use Rattle.std.specs.Cmp.Lexicographic.{pointwise}
use Rattle.bril_profile.specs.declared.profile.Profile.{Profile}
use Rattle.bril_tree.specs.Accepted.{IsAccepted}
use Rattle.bril_tree.specs.declared.program.Prog.{Prog}
use Rattle.bril_tree.specs.Run.{Refines}
use Rattle.bril_tree.specs.Size.{item_count}
use Rattle.pass_law.specs.Bounds.{IsTooLarge, HasLongBound}
use Rattle.pass_law.specs.declared.fault.PassFault.{PassFault}
use Rattle.pass_law.specs.declared.fault.PassFault.TheVariants.{TooLarge, Memory}

pub record Meaning : Type 1 where
  -- the names that it answers to
  pub answers : List ℕ → Bool
  -- so many steps of the result, at most, for each step of the program
  pub IsFactor : Prog → Profile → ℕ → Type 0
  -- so many items of the result, at most
  pub IsBound : Prog → Profile → ℕ → Type 0
  -- what it makes of a program by a profile
  pub Makes : Prog → Profile → Prog → Type 0

-- the text is the name
abbrev pub is_name : List ℕ → List ℕ → Bool
is_name name text = pointwise nat_eq text name

-- A program and a profile have one such number at most, and an accepted program has one.
pub record IsNumber (Is : Prog → Profile → ℕ → Type 0) : Type 0 where
  pub one : (P : Prog) (profile : Profile) (j k : ℕ) → Is P profile j → Is P profile k → j ≡ k
  pub some : (P : Prog) (profile : Profile) → IsAccepted P → (k : ℕ) × Is P profile k

-- the factor and the bound are such numbers
pub record HasNumbers (m : Meaning) : Type 0 where
  pub factor : IsNumber m.IsFactor
  pub bound : IsNumber m.IsBound

-- the pass made Q of P
pub record Link (m : Meaning) (profile : Profile) (P Q : Prog) : Type 0 where
  pub makes : m.Makes P profile Q
  pub accepted : IsAccepted Q
  pub factor : ℕ
  pub is_factor : m.IsFactor P profile factor
  pub refines : Refines P Q factor
  pub bound : ℕ
  pub is_bound : m.IsBound P profile bound
  pub within : item_count Q ≤ bound
  -- it wasn't to be refused
  pub fits : IsTooLarge bound (item_count P) → ⊥

-- why a pass with this bound made nothing of a program of this size; want of memory has no cause
abbrev pub IsRefused : (IsBound : ℕ → Type 0) (size : ℕ) → PassFault → Type 0
IsRefused IsBound size (TooLarge told) = HasLongBound IsBound size told
IsRefused IsBound size Memory = Unit {0}

-- names, factor, bound and what is made are the same
pub record SameMeaning (m n : Meaning) : Type 0 where
  pub answers : m.answers ≡ n.answers
  pub factor : (P : Prog) (profile : Profile) (k : ℕ) → m.IsFactor P profile k ↔ n.IsFactor P profile k
  pub bound : (P : Prog) (profile : Profile) (k : ℕ) → m.IsBound P profile k ↔ n.IsBound P profile k
  pub makes : (P : Prog) (profile : Profile) (Q : Prog) → m.Makes P profile Q ↔ n.Makes P profile Q
