-- What the pass finds in a function: classes of variables, which are as large as can be.
use Rattle.std.specs.Prelude.{◌≡◌, ◌≢◌, ℕ, ◌<◌, List, length}
use Rattle.bril_tree.specs.declared.numbered_function.Func.{Func}
use Rattle.variable_renaming.specs.Apart.{AreApart}
use Rattle.variable_renaming.specs.Classes.{class_of}

-- some variable of the one class and some of the other aren't apart
pub record AreKeptApart (F : Func) (class : List ℕ) (k m : ℕ) : Type 0 where
  pub u : ℕ
  pub v : ℕ
  pub first_below : u < length F.vars
  pub second_below : v < length F.vars
  pub first : class_of class u ≡ k
  pub second : class_of class v ≡ m
  pub meet : ¬ AreApart F u v

-- Classes of variables, each named by one of them, that of an argument by the argument: any two of one class are apart, and no two
-- classes could be one.
pub record AreColors (F : Func) (class : List ℕ) : Type 0 where
  pub long : length class ≡ length F.vars
  pub inside : (x : ℕ) → x < length F.vars → class_of class x < length F.vars
  pub arguments : (x : ℕ) → x < F.args → class_of class x ≡ x
  pub named : (x : ℕ) → class_of class (class_of class x) ≡ class_of class x
  pub apart : (x y : ℕ) → x < length F.vars → y < length F.vars → x ≢ y → class_of class x ≡ class_of class y → AreApart F x y
  pub settled : (x y : ℕ) → x < length F.vars → y < length F.vars → class_of class x ≢ class_of class y → AreKeptApart F class (class_of class x) (class_of class y)
