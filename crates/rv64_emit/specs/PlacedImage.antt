-- Images whose locations are at the homes of a placement.
use Rattle.std.specs.Prelude.{◌≡◌, ℕ, ◌≤◌, Some, slice_get}
use Rattle.bril_tree.specs.declared.home.Home.{Home}
use Rattle.bril_tree.specs.declared.limits.Limits.{Limits}
use Rattle.bril_tree.specs.declared.numbered_function.Func.{Func}
use Rattle.bril_tree.specs.declared.program.Prog.{Prog}
use Rattle.bril_tree.specs.FrameWords.{location_count}
use Rattle.bril_tree.specs.Operand.{Location}
use Rattle.placement_laws.specs.Homes.{IsInRegister}
use Rattle.rv64_image_laws.specs.Home.{IsLocationOf}
use Rattle.rv64_image_laws.specs.Implements.{ImplementsAt}
use Rattle.rv64_words.specs.declared.image.Image.{Image}
use Rattle.shadow_place.specs.declared.placed.Placed.{Placed}
use Rattle.shadow_place.specs.Placement.{FewAreInRegisters, HomesAreApart, HomesAreOwn, LiveAreApart, TellsAllSaved}
use Rattle.shadow_place.specs.Registers.{home_registers}
use Rattle.shadow_place.specs.Tables.{home_in}
use Rattle.slot_code.specs.declared.slots.Slots.{Slots}
use Rattle.slot_code.specs.Lowered.{IsLowered}

-- All that `place` promises of the homes of a program, whose code over slots is `slots`.
pub record ArePlaced (p : Prog) (slots : Slots) (placed : Placed) : Type 0 where
  pub apart : HomesAreApart p placed
  pub live : LiveAreApart p placed
  pub saved : TellsAllSaved p placed
  pub own : HomesAreOwn slots placed
  pub registers : FewAreInRegisters p slots placed

-- Each location of a function that has no more of them than there are registers for values, 23, has a register as its home.
abbrev pub AreFewInRegisters : (ℕ → Location → Home) → Prog → Type 0
AreFewInRegisters homes p = (k : ℕ) (f : Func) (location : Location) → slice_get p.funcs k ≡ Some f → location_count f ≤ home_registers → IsLocationOf f location → IsInRegister (homes k location)

-- The image does what the program does, with each location at its home in such a placement.
pub record ImplementsPlaced (image : Image) (p : Prog) (limits : Limits) : Type 0 where
  pub slots : Slots
  pub lowered : IsLowered p slots
  pub placed : Placed
  pub are : ArePlaced p slots placed
  pub implements : ImplementsAt (home_in placed) image p limits
  pub registers : AreFewInRegisters (home_in placed) p
