-- The theorem: the image of a program as it is laid out, by homes that serve, implements the program.
use Rattle.std.proofs.Common.{ℕ, ◌+◌, ◌*◌, List, refl}
use Rattle.bril_tree.specs.declared.limits.Limits.{Limits}
use Rattle.bril_tree.specs.declared.program.Prog.{Prog}
use Rattle.bril_tree.specs.declared.value.Value.{Value}
use Rattle.bril_tree.specs.Accepted.{IsAccepted}
use Rattle.program_numbers.specs.Cost.{longest_arguments}
use Rattle.bril_tree.specs.Literals.{AreLiteralsInRange}
use Rattle.bril_tree.specs.Run.{FitMain}
use Rattle.rv64_image_laws.specs.Implements.{Implements, ImplementsAt}
use Rattle.rv64_image_laws.specs.WordBounds.{IsWithin}
use Rattle.rv64_emit_laws.specs.layout.Homes.{FunctionHomes}
use Rattle.rv64_emit_laws.specs.layout.Image.{IsImageOf}
use Rattle.rv64_emit_laws.specs.layout.Laid.{IsLaid}
use Rattle.rv64_emit_laws.proofs.lemmas.layout.Laid.{laid}
use Rattle.rv64_words.specs.declared.image.Image.{Image}
use Rattle.slot_code.specs.declared.slots.Slots.{Slots}
use Rattle.slot_code.specs.Lowered.{IsLowered}
use Rattle.rv64_emit_laws.specs.Homes.{AllHomesServe, homes_of}
use Rattle.rv64_emit_laws.specs.Laws.{ImagesImplementPrograms, ImagesMeetItems}
use Rattle.rv64_emit_laws.proofs.GuardList.{lists_guards}
use Rattle.rv64_emit_laws.proofs.Meeting.{implements_run, meets}
use Rattle.rv64_emit_laws.proofs.Setting.{Setting}
use Rattle.rv64_emit_laws.proofs.Homes.{have_homes, homes_within}

module _ (p : Prog) (homes : ℕ → FunctionHomes) (slots : Slots) (limits : Limits) (image : Image) (accepted : IsAccepted p) (literals : AreLiteralsInRange p) (lowered : IsLowered p slots) (within : IsWithin p limits)
    (serve : AllHomesServe homes p slots) (is : IsImageOf homes slots limits image) where
  pub is_laid : IsLaid homes slots limits image
  is_laid = laid p homes slots limits image accepted literals lowered within (have_homes p slots homes accepted lowered serve) is

  abbrev pub setting : (args : List Value) → FitMain p args → Setting
  setting args fit = record {
    p = p;
    homes = homes;
    slots = slots;
    image = image;
    limits = limits;
    args = args;
    cost = 128 + 8 * (within.size.frame + longest_arguments p);
    accepted = accepted;
    literals = literals;
    lowered = lowered;
    serve = serve;
    laid = is_laid;
    fit = fit;
    is_cost = record { frame = within.size.frame; largest = within.size.largest; is = refl };
  }

  pub implements_at : ImplementsAt (homes_of homes) image p limits
  implements_at = record { guards = lists_guards p homes slots limits image lowered is_laid; within = homes_within p slots homes lowered serve; runs = λ args fit. implements_run (setting args fit) }

  -- what the code generator promises
  pub implements : Implements image p limits
  implements = record { homes = homes_of homes; implements = implements_at }

pub images_implement_programs : ImagesImplementPrograms
images_implement_programs p homes slots limits image accepted literals lowered within serve is = implements_at p homes slots limits image accepted literals lowered within serve is

pub images_meet_items : ImagesMeetItems
images_meet_items p homes slots limits image accepted literals lowered within serve is args fit = meets (setting p homes slots limits image accepted literals lowered within serve is args fit)
