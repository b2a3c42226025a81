-- Live locations of an accepted function have types, and its stops have words.
use Rattle.std.proofs.Common.{◌≡◌, ℕ, true, List, length, Option, Some, None}
use Rattle.std.specs.Prelude.{is_some, slice_get}
use Rattle.std.proofs.lemmas.Bool.{false≢true}
use Rattle.bril_tree.specs.declared.numbered.Instr.{Instr}
use Rattle.bril_tree.specs.declared.numbered.Instr.TheVariants.{Label, Const, Act}
use Rattle.bril_tree.specs.declared.numbered_function.Func.{Func}
use Rattle.bril_tree.specs.declared.operation.Op.{Op}
use Rattle.bril_tree.specs.declared.operation.Op.TheVariants as op
use Rattle.bril_tree.specs.declared.program.Prog.{Prog}
use Rattle.bril_tree.specs.declared.types.Ty.{Ty}
use Rattle.bril_tree.specs.Accepted.{IsAcceptedFunction}
use Rattle.bril_tree.specs.Live.{IsLive, Here, Later}
use Rattle.bril_tree.specs.Locals.{location_type}
use Rattle.bril_tree.specs.Operand.{Location}
use Rattle.bril_tree.specs.Shape.{is_action_shaped}
use Rattle.bril_tree.specs.Typing.{is_dest_typed}
use Rattle.bril_tree.proofs.Acceptance.{shaped_at, typed_at}
use Rattle.slot_code.specs.declared.item.SlotItem.TheVariants.{Pass}
use Rattle.slot_code.specs.Lowered.{lowered_action, lowered_item}
use Rattle.type_soundness.proofs.Locals.{IsThere, act-typed, reads-there}
use Rattle.rv64_words.specs.Points.{is_stop, is_stop_operation}

module _ (p : Prog) (f : Func) (accepted : IsAcceptedFunction p f) where
  -- a location that is live at some point has a type
  pub live-there : (location : Location) (point : ℕ) → IsLive f.code location point → IsThere (location_type f location)
  live-there location point (Here _ item at reads) = reads-there p f item location (shaped_at p f accepted point item at) (typed_at p f accepted point item at) reads
  live-there location point (Later _ branch leaves none live) = live-there location branch.to live

  action-has : (o : Op) (dest : Option ℕ) (ty : Option Ty) (args funcs labels : List ℕ) → is_stop_operation o ≡ true →
      is_action_shaped (is_some f.ret) o (is_some dest) (length args) (length funcs) (length labels) ≡ true → is_dest_typed p f dest ty ≡ true → lowered_action f o dest ty args funcs labels ≡ Pass → ⊥
  action-has op.Nop dest ty args funcs labels stops h t pass = absurd (false≢true stops)
  action-has op.Undef (Some x) None args funcs labels stops h t pass = absurd (false≢true t)
  action-has op.Undef (Some x) (Some type) args funcs labels stops h t pass = cc
  action-has op.Undef None ty args funcs labels stops h t pass = absurd (false≢true h)
  action-has o (Some x) ty args funcs labels stops h t pass = cc
  action-has o None ty args funcs labels stops h t pass = cc

  -- an item at which a monitor stops isn't one of those without words
  pub stop-has : (point : ℕ) (item : Instr) → slice_get f.code point ≡ Some item → is_stop item ≡ true → lowered_item f item ≡ Pass → ⊥
  stop-has point (Label l) at stops pass = absurd (false≢true stops)
  stop-has point (Const dest ty value) at stops pass = cc
  stop-has point (Act dest ty o args funcs labels) at stops pass =
      let item = Act dest ty o args funcs labels in
      let h = shaped_at p f accepted point item at in
      let t = act-typed p f o dest ty args funcs labels h (typed_at p f accepted point item at) in
      action-has o dest ty args funcs labels stops h t.dest_typed pass
