-- What the pass makes: other names of variables, one for variables that copies link; `nop` for reached copies of a variable onto
-- itself; and no reached copy left between two different variables that are apart.
use Rattle.std.specs.Prelude.{◌≡◌, ◌≢◌, ℕ, ◌<◌, List, length, Some, slice_get}
use Rattle.bril_tree.specs.declared.numbered.Instr.{Instr}
use Rattle.bril_tree.specs.declared.numbered_function.Func.{Func}
use Rattle.bril_tree.specs.declared.program.Prog.{Prog}
use Rattle.bril_tree.specs.Walk.{IsReached}
use Rattle.pass_edit_laws.specs.names.NamedPlan.{SameHeads}
use Rattle.pass_edit_laws.specs.numbers.Numbers.{NumbersWithin}
use Rattle.variable_renaming.specs.Apart.{AreApart, Copies}
use Rattle.variable_renaming.specs.Renamed.{IsRenamedAt, IsRenaming, name_of}
use Rattle.coalesce.specs.meaning.Linked.{AreLinked}

-- The new names of a function's variables: arguments keep theirs, each is the name of one of the variables that get it, and copies
-- link any two that get one name.
pub record AreNewNames (F : Func) (rename : List ℕ → List ℕ) : Type 0 where
  pub arguments : (x : ℕ) → x < F.args → rename (name_of F x) ≡ name_of F x
  pub own : (x : ℕ) → x < length F.vars → (y : ℕ) × (y < length F.vars) × (rename (name_of F x) ≡ name_of F y) × (rename (name_of F y) ≡ name_of F y)
  pub linked : (x y : ℕ) → x < length F.vars → y < length F.vars → rename (name_of F x) ≡ rename (name_of F y) → AreLinked F x y

-- the function has other names of its variables
pub record IsRenamed (P Q : Prog) (f : ℕ) (F : Func) : Type 0 where
  pub rename : List ℕ → List ℕ
  pub names : AreNewNames F rename
  pub points : (point : ℕ) → IsRenamedAt P f rename Q point

-- no reached copy is left between two different variables that are apart
abbrev pub NoneApart : Func → Type 0
NoneApart F = (point : ℕ) (item : Instr) (x y : ℕ) → IsReached F.code point → slice_get F.code point ≡ Some item → Copies item x y → x ≢ y → ¬ AreApart F x y

-- What the pass makes. No number of it is greater than that of the program.
pub record IsMerged (P Q : Prog) : Type 0 where
  pub heads : SameHeads P Q
  pub renamed : (f : ℕ) (F : Func) → slice_get P.funcs f ≡ Some F → IsRenamed P Q f F
  pub none : (f : ℕ) (F : Func) → slice_get Q.funcs f ≡ Some F → NoneApart F
  pub numbers : NumbersWithin P Q 0

-- ---- a round

-- What a round makes, with the new names of each function: copies link any two variables that get one name.
pub record IsRound (P Q : Prog) (rename : ℕ → List ℕ → List ℕ) : Type 0 where
  pub renaming : IsRenaming P Q rename
  pub linked : (f : ℕ) (F : Func) → slice_get P.funcs f ≡ Some F → (x y : ℕ) → x < length F.vars → y < length F.vars → rename f (name_of F x) ≡ rename f (name_of F y) → AreLinked F x y
