-- An accepted program within the bounds has an image, by the homes of a placement.
use Rattle.std.proofs.Common.{◌≡◌, ℕ, ◌-◌, ◌*◌, ◌^◌, ◌<◌, ◌≤◌, Bool, List, length, sym, ap, ◌∙◌, subst, arith, length-append}
use Rattle.std.proofs.lemmas.List.{length-map}
use Rattle.bril_tree.specs.declared.limits.Limits.{Limits}
use Rattle.bril_tree.specs.declared.program.Prog.{Prog}
use Rattle.bril_tree.specs.Accepted.{IsAccepted}
use Rattle.bril_tree.specs.Literals.{AreLiteralsInRange}
use Rattle.bril_tree.specs.Size.{IsCounted}
use Rattle.bril_tree.proofs.Elements.{All-at, zip-long}
use Rattle.live_sets.specs.declared.live.Live.{Live}
use Rattle.rv64_image_laws.specs.Implements.{Implements, ImplementsAt}
use Rattle.rv64_image_laws.specs.WordBounds.{IsStackSize, IsWithin}
use Rattle.rv64_words.specs.declared.image.Image.{Image}
use Rattle.rv64_words.specs.Encoding.{encoded}
use Rattle.shadow_place.specs.declared.placed.Placed.{Placed}
use Rattle.slot_code.specs.declared.slots.Slots.{Slots}
use Rattle.slot_code.specs.Lowered.{IsLowered, IsLoweredFunction, lowered_item}
use Rattle.rv64_emit_laws.specs.layout.Homes.{FunctionHomes}
use Rattle.rv64_emit_laws.specs.layout.Image.{joined, start_at, head_words, main_moves, function_words_at, image_words, largest_frame, IsImageOf}
use Rattle.rv64_emit_laws.specs.layout.Laid.{HaveHomes}
use Rattle.rv64_emit_laws.proofs.lemmas.layout.Bounding.{image_bounded, function_made}
use Rattle.rv64_emit_laws.proofs.lemmas.layout.Fitting.{all_reached, item_fits, largest_is}
use Rattle.rv64_emit_laws.proofs.lemmas.layout.Guarding.{guards_counted}
use Rattle.rv64_emit_laws.proofs.lemmas.layout.Laid.{functions_length, head_length}
use Rattle.rv64_emit_laws.specs.Homes.{AllHomesServe}
use Rattle.rv64_emit_laws.proofs.Homes.{have_homes}
use Rattle.rv64_emit_laws.proofs.Sources.{main_inside}
use Rattle.rv64_emit_laws.proofs.Theorem.{implements, implements_at}
use Rattle.rv64_emit.specs.Placed.{placed_homes}
use Rattle.rv64_emit.specs.PlacedImage.{ImplementsPlaced}
use Rattle.rv64_emit.specs.Tables.{SlotsFit}
use Rattle.rv64_emit.proofs.Serving.{IsPlacedBy, all_serve, few_in_registers, homes_placed, registers_near}

-- what is said of an image
pub record IsEmitted (p : Prog) (limits : Limits) (image : Image) : Type 0 where
  pub implements : Implements image p limits
  pub placed : ImplementsPlaced image p limits
  pub words : length image.words ≤ 250000
  pub guards : length image.guards ≤ length image.words
  pub stack : IsStackSize p limits image.stack

module _ (marked : Bool) (p : Prog) (slots : Slots) (limits : Limits) (accepted : IsAccepted p) (literals : AreLiteralsInRange p) (is : IsLowered p slots) (within : IsWithin p limits) (lives : List Live) (placed : Placed) (by : IsPlacedBy p slots lives placed) where
  abbrev homes : ℕ → FunctionHomes
  homes = placed_homes marked slots placed lives

  serve : AllHomesServe homes p slots
  serve = all_serve marked p slots lives placed by is

  have : HaveHomes homes slots
  have = have_homes p slots homes accepted is serve

  few : start_at homes slots (length slots.funcs) ≤ 250000
  few = let code = within.code in let bounded = image_bounded homes p slots is have in omega arith

  pub slots_fit : IsCounted p → SlotsFit homes slots
  slots_fit counted = record {
    functions = let few_functions = counted.functions in let lengths = zip-long IsLoweredFunction p.funcs slots.funcs is.funcs in omega arith;
    main = main_inside p slots is;
    points = λ f g at. (
        let made = function_made p slots is f g at in
        let same : length g.code ≡ length made.0.code = ap length made.2.code ∙ length-map made.0.code (lowered_item made.0) in
        let few_items = All-at (λ h. length h.code < 2 ^ 32 - 1) p.funcs f made.0 counted.items made.1 in
        omega arith);
    movable = λ f g at. (
        let made = function_made p slots is f g at in
        record {
          reached = all_reached p slots limits accepted literals is within homes have f g at;
          near = registers_near made.0 g made.2 (homes f) (have f g at);
        });
    items = item_fits p slots limits accepted literals is within homes have;
    few = few;
  }

  -- the image has few words, and no more guards
  words_are : (image : Image) → IsImageOf homes slots limits image → length image.words ≡ start_at homes slots (length slots.funcs)
  words_are image laid =
      let main = start_at homes slots slots.main in
      let head = head_words limits (main_moves homes slots) main in
      let functions = joined (function_words_at homes slots) (length slots.funcs) in
      omega (arith, ap length laid.words, length-map (image_words homes slots limits) encoded, length-append head functions, head_length limits (main_moves homes slots) main, functions_length homes slots (length slots.funcs))

  words_few : (image : Image) → IsImageOf homes slots limits image → length image.words ≤ 250000
  words_few image laid = omega (arith, few, words_are image laid)

  guards_few : (image : Image) → IsImageOf homes slots limits image → length image.guards ≤ length image.words
  guards_few image laid = omega (arith, words_are image laid, ap length laid.guards, guards_counted homes slots)

  -- the stack has the words of the largest frame, once for each frame
  pub stack_is : (stack : ℕ) → IsStackSize p limits stack → stack ≡ limits.frames * largest_frame slots
  stack_is stack size = size.is ∙ ap (λ n. limits.frames * n) (sym (largest_is p slots limits accepted literals is within size.frame size.largest))

  pub emitted : (stack : ℕ) → IsStackSize p limits stack → (image : Image) → IsImageOf homes slots limits image → IsEmitted p limits image
  emitted stack size image laid = record {
    implements = implements p homes slots limits image accepted literals is within serve laid;
    placed = record {
      slots = slots;
      lowered = is;
      placed = placed;
      are = by.are;
      implements = subst (λ h. ImplementsAt h image p limits) (homes_placed marked slots placed lives) (implements_at p homes slots limits image accepted literals is within serve laid);
      registers = few_in_registers marked p slots lives placed by is;
    };
    words = words_few image laid;
    guards = guards_few image laid;
    stack = subst (IsStackSize p limits) (sym (laid.stack ∙ sym (stack_is stack size))) size;
  }
