-- What the pass makes, and what it means.
use Rattle.std.specs.Prelude.{◌≡◌, ◌≢◌, ℕ, ◌<◌, List, length, Some, slice_get, codes}
use Rattle.bril_tree.specs.Size.{item_count}
use Rattle.bril_tree.specs.declared.numbered_function.Func.{Func}
use Rattle.bril_tree.specs.declared.program.Prog.{Prog}
use Rattle.pass_edit_laws.specs.names.NamedPlan.{SameHeads}
use Rattle.pass_edit_laws.specs.numbers.Numbers.{NumbersWithin}
use Rattle.pass_law.specs.Meaning.{Meaning, is_name}
use Rattle.variable_renaming.specs.Apart.{AreApart}
use Rattle.variable_renaming.specs.Renamed.{IsRenamedAt, KeepsNames, name_of}

-- some variable that gets the new name of x and some that gets that of y aren't apart
pub record AreNamesKeptApart (F : Func) (rename : List ℕ → List ℕ) (x y : ℕ) : Type 0 where
  pub u : ℕ
  pub v : ℕ
  pub first_below : u < length F.vars
  pub second_below : v < length F.vars
  pub first : rename (name_of F u) ≡ rename (name_of F x)
  pub second : rename (name_of F v) ≡ rename (name_of F y)
  pub meet : ¬ AreApart F u v

-- The new names of a function's variables: arguments keep theirs, each is the name of one of the variables that get it, any two
-- that get one name are apart, and no two names could be one.
pub record AreColorNames (F : Func) (rename : List ℕ → List ℕ) : Type 0 where
  pub names : KeepsNames F rename
  pub apart : (x y : ℕ) → x < length F.vars → y < length F.vars → x ≢ y → rename (name_of F x) ≡ rename (name_of F y) → AreApart F x y
  pub settled : (x y : ℕ) → x < length F.vars → y < length F.vars → rename (name_of F x) ≢ rename (name_of F y) → AreNamesKeptApart F rename x y

-- the function has such names of its variables, and `nop` for reached copies of a variable onto itself
pub record IsColoredFunction (P Q : Prog) (f : ℕ) (F : Func) : Type 0 where
  pub rename : List ℕ → List ℕ
  pub names : AreColorNames F rename
  pub points : (point : ℕ) → IsRenamedAt P f rename Q point

-- What the pass makes: other names of variables, and nothing else. No number of it is greater than that of the program.
pub record IsColored (P Q : Prog) : Type 0 where
  pub heads : SameHeads P Q
  pub colored : (f : ℕ) (F : Func) → slice_get P.funcs f ≡ Some F → IsColoredFunction P Q f F
  pub numbers : NumbersWithin P Q 0

-- It is named `color`, makes no step more, and no program longer.
abbrev pub color_meaning : Meaning
color_meaning = record {
  answers = is_name (codes "color");
  IsFactor = λ P profile k. k ≡ 1;
  IsBound = λ P profile k. k ≡ item_count P;
  Makes = λ P profile Q. IsColored P Q;
}
