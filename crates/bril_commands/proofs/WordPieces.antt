-- What the words of an image print, and by which pieces.
use Rattle.std.proofs.Common.{◌≡◌, ◌≢◌, ℕ, zero, suc, List, [], ◌∷◌, ◌++◌, refl, sym, ap, ◌∙◌}
use Rattle.bril_outside.proofs.SinkWrites.{joined-append}
use Rattle.bril_outside.specs.Sink.{joined}
use Rattle.bril_tree.specs.declared.limits.Limits.{Limits}
use Rattle.bril_tree.specs.declared.value.Value.{Value}
use Rattle.rv64_image_laws.specs.Implements.{image_after}
use Rattle.rv64_words.proofs.Runs.{printed-grows}
use Rattle.rv64_words.specs.Machine.{machine_step}
use Rattle.rv64_words.specs.Region.{sizes_of}
use Rattle.rv64_words.specs.State.{State, start}
use Rattle.rv64_words.specs.declared.image.Image.{Image}
use Rattle.simulation.proofs.After.{after-suc}
use Rattle.bril_commands.specs.commands.Run.{piece_of, pieces_within, printed_next}

-- the piece of what is printed is this
joined-piece : (bytes : List ℕ) → joined (piece_of bytes) ≡ bytes
joined-piece [] = refl
joined-piece (byte ∷ bytes) = refl

-- something is one piece
pub piece-some : (bytes : List ℕ) → bytes ≢ [] → piece_of bytes ≡ bytes ∷ []
piece-some [] some = absurd (some refl)
piece-some (byte ∷ bytes) some = refl

module _ (image : Image) (limits : Limits) (values : List Value) where
  after_more : (n : ℕ) → image_after image limits values (suc n) ≡ machine_step image (sizes_of image limits.cells) (image_after image limits values n)
  after_more n = after-suc (machine_step image (sizes_of image limits.cells)) n (start values)

  -- one word more prints its bytes
  pub printed-more : (n : ℕ) → (image_after image limits values (suc n)).printed ≡ (image_after image limits values n).printed ++ printed_next image limits (image_after image limits values n)
  printed-more n = ap (λ (t : State). t.printed) (after_more n) ∙ printed-grows image (sizes_of image limits.cells) 1 (image_after image limits values n)

  -- the pieces are what was printed
  pub joined-words : (n : ℕ) → joined (pieces_within image limits values n) ≡ (image_after image limits values n).printed
  joined-words zero = refl
  joined-words (suc n) =
      let next = printed_next image limits (image_after image limits values n) in
      joined-append (pieces_within image limits values n) (piece_of next)
      ∙ ap (λ bytes. bytes ++ joined (piece_of next)) (joined-words n)
      ∙ ap (λ bytes. (image_after image limits values n).printed ++ bytes) (joined-piece next)
      ∙ sym (printed-more n)
