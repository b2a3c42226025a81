-- Which programs are accepted: those whose runs meet nothing that has no meaning.
use Rattle.std.specs.Prelude.{◌≡◌, ℕ, Bool, true, false, List, [], All, Option, Some, None, IsTrue, IsSome, slice_get, length}
use Rattle.std.specs.List.{Contains}
use Rattle.bril_tree.specs.declared.numbered.Instr.{Instr}
use Rattle.bril_tree.specs.declared.numbered.Instr.TheVariants.{Label, Const, Act}
use Rattle.bril_tree.specs.declared.numbered_function.Func.{Func}
use Rattle.bril_tree.specs.declared.operation.Op.TheVariants as op
use Rattle.bril_tree.specs.declared.program.Prog.{Prog}
use Rattle.bril_tree.specs.declared.types.Ty.{Ty}
use Rattle.std.specs.Prelude.{is_some}
use Rattle.bril_tree.specs.Assigned.{IsMaybeUnassigned}
use Rattle.bril_tree.specs.Edge.{Branch}
use Rattle.bril_tree.specs.Operand.{Location, reads_of}
use Rattle.bril_tree.specs.Run.{main_types}
use Rattle.bril_tree.specs.Shape.{is_shaped}
use Rattle.bril_tree.specs.Sites.{AreSitesSound, sites_of}
use Rattle.bril_tree.specs.Typing.{return_type, is_call_shaped, type_fault}
use Rattle.bril_tree.specs.Walk.{IsWalk, IsReached, end_of}

-- the item ends the speculations of its frame, or begins a new frame: a `call`, a `ret`, or the function's end
abbrev pub leaves_frame : Option Instr → Bool
leaves_frame None = true
leaves_frame (Some (Label l)) = false
leaves_frame (Some (Const dest ty value)) = false
leaves_frame (Some (Act dest ty op.Call args funcs labels)) = true
leaves_frame (Some (Act dest ty op.Ret args funcs labels)) = true
leaves_frame (Some (Act dest ty _ args funcs labels)) = false

pub record IsAcceptedFunction (p : Prog) (f : Func) : Type 0 where
  -- each item, also one that no walk reaches, meets its row
  pub shaped : All (λ item. IsTrue (is_shaped (is_some f.ret) item)) f.code
  pub calls : All (λ item. IsTrue (is_call_shaped p f item)) f.code
  pub typed : All (λ item. type_fault p f item ≡ None) f.code
  -- all walks to one point have one list of open sites, of eight at most, with one where it is needed
  pub sites : AreSitesSound f.code
  -- no speculation is open where a frame begins or ends
  pub alone : (walk : List Branch) → IsWalk f.code walk → IsTrue (leaves_frame (slice_get f.code (end_of walk))) → sites_of f.code walk ≡ []
  -- a function that returns a value doesn't run off its end
  pub returns : IsSome f.ret → ¬ IsReached f.code (length f.code)
  -- each location that an item reads was assigned on each walk to it
  pub assigned : (point : ℕ) (item : Instr) (location : Location) → slice_get f.code point ≡ Some item → Contains (reads_of item) location →
      ¬ IsMaybeUnassigned f.code f.args location point

-- What acceptance says of a function's walks, where it has so many arguments and returns a value or doesn't.
pub record AreWalksAccepted (code : List Instr) (args : ℕ) (returns_value : Bool) : Type 0 where
  pub sites : AreSitesSound code
  pub alone : (walk : List Branch) → IsWalk code walk → IsTrue (leaves_frame (slice_get code (end_of walk))) → sites_of code walk ≡ []
  pub returns : IsTrue returns_value → ¬ IsReached code (length code)
  pub assigned : (point : ℕ) (item : Instr) (location : Location) → slice_get code point ≡ Some item → Contains (reads_of item) location →
      ¬ IsMaybeUnassigned code args location point

-- an int, a bool or a char
abbrev pub IsPlainType : Option Ty → Type 0
IsPlainType None = ⊥
IsPlainType (Some ty) = ty.depth ≡ 0

-- `main` returns nothing and takes ints, bools and chars
pub record IsMainPlain (p : Prog) : Type 0 where
  pub returns_nothing : return_type (slice_get p.funcs p.main) ≡ None
  pub takes_plain : All IsPlainType (main_types p)

pub record IsAccepted (p : Prog) : Type 0 where
  pub main : IsMainPlain p
  pub functions : All (IsAcceptedFunction p) p.funcs
