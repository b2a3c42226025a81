-- Variables that copies link, one after another.
use Rattle.std.proofs.Common.{◌≡◌, ℕ, Some, inl}
use Rattle.std.specs.Prelude.{slice_get}
use Rattle.bril_tree.specs.declared.numbered.Instr.{Instr}
use Rattle.bril_tree.specs.declared.numbered_function.Func.{Func}
use Rattle.bril_tree.specs.Walk.{IsReached}
use Rattle.variable_renaming.specs.Apart.{Copies}
use Rattle.coalesce.specs.meaning.Linked.{AreLinked, Same, Copied, Both}

pub linked-turned : (F : Func) (x y : ℕ) → AreLinked F x y → AreLinked F y x
linked-turned F x y l = Both y x y (Same y) l

pub linked-onwards : (F : Func) (x y z : ℕ) → AreLinked F x y → AreLinked F y z → AreLinked F x z
linked-onwards F x y z a b = Both x z y a (linked-turned F y z b)

pub copy-links : (F : Func) (point : ℕ) (item : Instr) → IsReached F.code point → slice_get F.code point ≡ Some item → (x y : ℕ) → Copies item x y → AreLinked F x y
copy-links F point item reached at x y copies = Copied x y (record { point = point; reached = reached; item = item; at = at; copies = inl copies })
