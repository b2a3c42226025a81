-- Classes of a function's variables, each named by one of them: the variables of a class get one name.
use Rattle.std.specs.Prelude.{◌≡◌, ◌≢◌, ℕ, ◌<◌, List, length, Option, Some, None, slice_get, slice_index_or}
use Rattle.bril_tree.specs.declared.numbered.Instr.{Instr}
use Rattle.bril_tree.specs.declared.numbered_function.Func.{Func}
use Rattle.bril_tree.specs.Typing.{variable_type}
use Rattle.variable_renaming.specs.Apart.{HasShadow, source_of}
use Rattle.variable_renaming.specs.Clashes.{Clashes}

-- the class of a variable; its own where the list has none
abbrev pub class_of : List ℕ → ℕ → ℕ
class_of class x = slice_index_or class x x

abbrev pub source_at : Option Instr → Option ℕ
source_at None = None
source_at (Some item) = source_of item

-- two variables of one class may have one name
pub record MayJoin (F : Func) (class : List ℕ) (x y : ℕ) : Type 0 where
  pub types : variable_type F.vars x ≡ variable_type F.vars y
  pub shadows : HasShadow F.code x → HasShadow F.code y → ⊥
  pub spares : (item : ℕ) → Clashes F.code item x y → (z : ℕ) × (source_at (slice_get F.code item) ≡ Some z) × (class_of class z ≡ class_of class x)

-- Each class is named by one of its variables, that of an argument by the argument, and any two variables of one class may have one
-- name.
pub record AreSoundClasses (F : Func) (class : List ℕ) : Type 0 where
  pub long : length class ≡ length F.vars
  pub inside : (x : ℕ) → x < length F.vars → class_of class x < length F.vars
  pub arguments : (x : ℕ) → x < F.args → class_of class x ≡ x
  pub named : (x : ℕ) → class_of class (class_of class x) ≡ class_of class x
  pub joined : (x y : ℕ) → x ≢ y → class_of class x ≡ class_of class y → MayJoin F class x y
