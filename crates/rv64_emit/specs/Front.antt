-- What an image is laid out from.
use Rattle.std.specs.List.{AllZip}
use Rattle.bril_tree.specs.declared.limits.Limits.{Limits}
use Rattle.bril_tree.specs.declared.program.Prog.{Prog}
use Rattle.rv64_image_laws.specs.WordBounds.{IsStackSize, IsWithin}
use Rattle.shadow_place.specs.Placement.{TellsLiveIn}
use Rattle.slot_code.specs.Lowered.{IsLowered}
use Rattle.rv64_emit.specs.declared.front.Front.{Front}
use Rattle.rv64_emit.specs.PlacedImage.{ArePlaced}

-- It is that of the program, which is within its bounds.
pub record IsFrontOf (p : Prog) (limits : Limits) (front : Front) : Type 0 where
  pub lowered : IsLowered p front.slots
  pub placed : ArePlaced p front.slots front.placed
  pub tells : AllZip TellsLiveIn p.funcs front.lives
  pub within : IsWithin p limits
  pub stack : IsStackSize p limits front.stack
