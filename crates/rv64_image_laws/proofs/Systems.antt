-- The machine with an image is a system, and so is a program whose ends are the machine's.
use Rattle.std.proofs.Common.{◌≡◌, ℕ, zero, suc, Option, Some, None, refl}
use Rattle.std.specs.Prelude.{IsSome}
use Rattle.std.specs.Option.{option_map}
use Rattle.simulation.specs.System.{IsSystem, after}
use Rattle.bril_tree.specs.declared.limits.End.{End}
use Rattle.bril_tree.specs.declared.limits.Limits.{Limits}
use Rattle.bril_tree.specs.declared.program.Prog.{Prog}
use Rattle.bril_tree.proofs.Grows.{program_is_system}
use Rattle.rv64_words.specs.declared.image.Image.{Image}
use Rattle.rv64_words.specs.Machine.{machine_step, machine_after, running_step}
use Rattle.rv64_words.specs.Region.{Sizes, sizes_of}
use Rattle.rv64_words.specs.State.{State, Stop, Finished}
use Rattle.rv64_words.proofs.Runs.{printed-grows}
use Rattle.rv64_image_laws.specs.Implements.{program_system, image_system}

step_rests : (image : Image) (z : Sizes) (s : State) (o : Option Stop) → IsSome o → running_step image z s o ≡ s
step_rests image z s None final = cc
step_rests image z s (Some how) final = refl

pub image_is_system : (image : Image) (limits : Limits) → IsSystem (image_system image limits)
image_is_system image limits = record {
  rests = λ s final. step_rests image (sizes_of image limits.cells) s s.stopped final;
  grows = λ s. (_, printed-grows image (sizes_of image limits.cells) 1 s);
}

final_of_map : (o : Option End) → IsSome (option_map Finished o) → IsSome o
final_of_map None final = cc
final_of_map (Some e) final = refl

pub mapped_is_system : (p : Prog) (limits : Limits) → IsSystem (program_system p limits)
mapped_is_system p limits = record {
  rests = λ s final. (program_is_system p limits).rests s (final_of_map s.ended final);
  grows = λ s. (program_is_system p limits).grows s;
}

-- the machine's steps are those of a system
pub machine_after-after : (image : Image) (z : Sizes) (m : ℕ) (t : State) → machine_after image z m t ≡ after (machine_step image z) m t
machine_after-after image z zero t = refl
machine_after-after image z (suc m) t = machine_after-after image z m (machine_step image z t)
