-- Executing the file of an image that implements a program is a run of the image.
use Rattle.std.proofs.Common.{◌≡◌, ℕ, zero, suc, List, [], ◌∷◌, ◌++◌, map, refl, sym, ap, ◌∙◌, subst}
use Rattle.bril_outside.specs.Sink.{joined}
use Rattle.bril_tree.specs.Value.{word_of}
use Rattle.bril_tree.specs.declared.limits.Limits.{Limits}
use Rattle.bril_tree.specs.declared.value.Value.{Value}
use Rattle.rv64_image_laws.proofs.Endings.{shown}
use Rattle.rv64_image_laws.proofs.Systems.{machine_after-after}
use Rattle.rv64_image_laws.specs.Implements.{image_after}
use Rattle.rv64_image_laws.specs.Shown.{ProgramShows}
use Rattle.rv64_words.specs.Machine.{machine_step, machine_after}
use Rattle.rv64_words.specs.Region.{sizes_of}
use Rattle.rv64_words.specs.State.{State, start, words_of}
use Rattle.rv64_words.specs.declared.image.Image.{Image}
use Rattle.simulation.specs.System.{after}
use Rattle.bril_commands.proofs.WordPieces.{joined-words}
use Rattle.bril_commands.specs.commands.Run.{piece_of, pieces_within, printed_next}
use Rattle.bytes_commands.proofs.Bare.{bare_of, uncounted, bare_step, bare_after}
use Rattle.bytes_commands.specs.Laws.{ExecutionIsARun, IsBare}

-- arguments of the same words start the machine alike
same_start : (args ints : List Value) → map word_of ints ≡ map word_of args → start ints ≡ start args
same_start args ints e = ap (λ ws. record (start args) { stack = words_of (0 ∷ 0 ∷ ws) }) e

-- an image with these words, this stack and no guards is the other one without its guards
is_bare_of : (bare image : Image) → IsBare bare image → bare ≡ bare_of image
is_bare_of bare image is = λ i. record { words = is.words i; guards = is.guards i; stack = is.stack i }

module _ (image : Image) (limits : Limits) (args ints : List Value) (same : map word_of ints ≡ map word_of args) where
  -- the machine does the same but for its counts
  bare_image_after : (n : ℕ) → image_after (bare_of image) limits ints n ≡ uncounted (image_after image limits args n)
  bare_image_after n =
      let z = sizes_of image limits.cells in
      sym (machine_after-after (bare_of image) z n (start ints))
      ∙ ap (machine_after (bare_of image) z n) (same_start args ints same)
      ∙ sym (bare_after image z n (start args))
      ∙ ap uncounted (machine_after-after image z n (start args))

  bare_next : (n : ℕ) → printed_next (bare_of image) limits (image_after (bare_of image) limits ints n) ≡ printed_next image limits (image_after image limits args n)
  bare_next n =
      ap (printed_next (bare_of image) limits) (bare_image_after n)
      ∙ ap (λ (t : State). t.printed) (sym (bare_step image (sizes_of image limits.cells) (record (image_after image limits args n) { printed = [] })))

  bare_pieces : (n : ℕ) → pieces_within (bare_of image) limits ints n ≡ pieces_within image limits args n
  bare_pieces zero = refl
  bare_pieces (suc n) =
      ap (λ ps. ps ++ piece_of (printed_next (bare_of image) limits (image_after (bare_of image) limits ints n))) (bare_pieces n)
      ∙ ap (λ bytes. pieces_within image limits args n ++ piece_of bytes) (bare_next n)

-- ---- the limits of cells alone count

module _ (image : Image) (one two : Limits) (values : List Value) (same : one.cells ≡ two.cells) where
  after_by : (n : ℕ) → image_after image one values n ≡ image_after image two values n
  after_by n = λ i. after (machine_step image (sizes_of image (same i))) n (start values)

  next_by : (t : State) → printed_next image one t ≡ printed_next image two t
  next_by t = λ i. (machine_step image (sizes_of image (same i)) (record t { printed = [] })).printed

  pieces_by : (n : ℕ) → pieces_within image one values n ≡ pieces_within image two values n
  pieces_by zero = refl
  pieces_by (suc n) =
      ap (λ ps. ps ++ piece_of (printed_next image one (image_after image one values n))) (pieces_by n)
      ∙ ap (λ t. pieces_within image two values n ++ piece_of (printed_next image one t)) (after_by n)
      ∙ ap (λ bytes. pieces_within image two values n ++ piece_of bytes) (next_by (image_after image two values n))

pub execution_is_a_run : ExecutionIsARun
execution_is_a_run image bare q limits args ints words stopped output implements fits is same shows =
    let run = implements.implements.runs args fits in
    let there = shown implements.homes image q limits args run words in
    let alike = is_bare_of bare image is in
    let after_same : image_after bare shows.limits ints words ≡ uncounted (image_after image limits args words) =
    after_by bare shows.limits limits ints shows.cells_are words
    ∙ ap (λ (x : Image). image_after x limits ints words) alike
    ∙ bare_image_after image limits args ints same words in
    let pieces_same : output ≡ pieces_within image limits args words =
    shows.pieces
    ∙ pieces_by bare shows.limits limits ints shows.cells_are words
    ∙ ap (λ (x : Image). pieces_within x limits ints words) alike
    ∙ bare_pieces image limits args ints same words in
    let stops : (image_after image limits args words).stopped ≡ stopped = ap (λ (t : State). t.stopped) (sym after_same) ∙ shows.stops in
    let prints : (image_after image limits args words).printed ≡ joined output = sym (joined-words image limits args words) ∙ ap joined (sym pieces_same) in
    record {
      stops = stops;
      prints = prints;
      pieces = pieces_same;
      ended = there.0;
      ends = sym stops ∙ there.1;
      program = subst (λ bytes. ProgramShows q limits args words there.0 bytes) prints there.2;
    }
