-- A text that shows the image of a program was put by one put, or memory ran out before that, or its put failed.
use Rattle.std.proofs.Common.{ℕ, List, [], ◌∷◌, refl}
use Rattle.bril_outside.specs.Sink.{SinkSeen}
use Rattle.bril_report.specs.declared.status.Status.{Status}
use Rattle.bril_tree.specs.declared.limits.Limits.{Limits}
use Rattle.bril_tree.specs.declared.program.Prog.{Prog}
use Rattle.rv64_image_laws.specs.Implements.{Implements}
use Rattle.rv64_words.specs.declared.image.Image.{Image}
use Rattle.bril_commands.proofs.Works.{Works-as}
use Rattle.bril_commands.specs.Outcome.{Works, writes, writes_text}
use Rattle.bril_commands.specs.commands.Emit.{ShowsImage}

pub shows_image : (text_of : Image → List ℕ) (q : Prog) (limits : Limits) (image : Image) → Implements image q limits → (how : Status) (s t : SinkSeen)
    → Works (writes_text (text_of image)) how [] s t → Works (writes [] (ShowsImage (λ x. text_of x ∷ []) q limits.frames limits.cells)) how [] s t
shows_image text_of q limits image implements how s t works =
    Works-as (writes_text (text_of image)) (writes [] (ShowsImage (λ x. text_of x ∷ []) q limits.frames limits.cells)) refl refl
    (λ ended told output shows. (shows.0, shows.1, record { limits = limits; are = (refl, refl); image = image; implements = implements; text = shows.2 }))
    (λ trap told output none. none) (λ output none. none) [] s t how works
