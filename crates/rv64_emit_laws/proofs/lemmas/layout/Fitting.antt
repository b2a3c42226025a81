-- The items of an accepted program within the bounds fit: no number in their words is too large.
use Rattle.std.proofs.Common.{◌≡◌, ℕ, zero, suc, ◌+◌, ◌*◌, ◌^◌, ◌<◌, ◌≤◌, List, [], ◌∷◌, length, map, Option, Some, None, refl, sym, ap, ◌∙◌, subst, arith, rules, mul-le-mul_right, mul-le-mul_left}
use Rattle.std.specs.Prelude.{slice_get, slice_index, option_map, All}
use Rattle.std.specs.List.{AllByRecursion}
use Rattle.std.proofs.lemmas.List.Elements.{All-head, All-tail}
use Rattle.std.proofs.lemmas.Option.{get_or_from_slice_get, slice_get-map, slice_get_within}
use Rattle.bril_tree.specs.declared.home.Home.{Home}
use Rattle.bril_tree.specs.declared.home.Home.TheVariants.{Reg, Frame}
use Rattle.bril_tree.specs.declared.limits.Limits.{Limits}
use Rattle.bril_tree.specs.declared.numbered.Instr.{Instr}
use Rattle.bril_tree.specs.declared.numbered.Instr.TheVariants.{Label, Const, Act}
use Rattle.bril_tree.specs.declared.numbered_function.Func.{Func}
use Rattle.bril_tree.specs.declared.operation.Op.{Op}
use Rattle.bril_tree.specs.declared.operation.Op.TheVariants as op
use Rattle.bril_tree.specs.declared.program.Prog.{Prog}
use Rattle.bril_tree.specs.declared.types.Base.{Base}
use Rattle.bril_tree.specs.declared.types.Base.TheVariants as base
use Rattle.bril_tree.specs.declared.types.Ty.{Ty}
use Rattle.bril_tree.specs.Accepted.{IsAccepted}
use Rattle.bril_tree.specs.FrameWords.{AreFrameWords, location_count, frame_head}
use Rattle.bril_tree.specs.Literals.{AreLiteralsInRange, IsLiteralInRange}
use Rattle.program_numbers.specs.ProgramNumbers.{greatest, IsLargestFrame}
use Rattle.bril_tree.specs.Sites.{sites_of}
use Rattle.bril_tree.specs.Value.{IsInRange, zero_at, zero_of_base}
use Rattle.bril_tree.proofs.Elements.{All-at, get_in, get_inside, in_get, zip-get, zip-long}
use Rattle.bril_tree.proofs.Measures.{AreFrameWords-one}
use Rattle.program_numbers.proofs.Measures.{IsGreatest-one}
use Rattle.bril_tree.proofs.Members.{contains_in, in_contains}
use Rattle.flow_graph.specs.Graph.{GraphView}
use Rattle.rv64_image_laws.specs.Home.{IsHomeWithin}
use Rattle.rv64_image_laws.specs.WordBounds.{operation_bound, word_bound, function_bound, IsWithin}
use Rattle.slot_code.specs.declared.item.Slot.{Slot}
use Rattle.slot_code.specs.declared.item.SlotItem.{SlotItem}
use Rattle.slot_code.specs.declared.slots.SlotFunction.{SlotFunction}
use Rattle.slot_code.specs.declared.slots.Slots.{Slots}
use Rattle.slot_code.specs.Laws.{IsSlotOf, slots_used}
use Rattle.slot_code.specs.Lowered.{IsLowered, IsLoweredFunction, lowered_action, lowered_item, open_count}
use Rattle.slot_code.proofs.Places.{slots_are_numbered}
use Rattle.slot_code.proofs.Uses.{items_use_slots}
use Rattle.std.proofs.lemmas.Bool.Decides.{nat_tests}
use Rattle.rv64_words_laws.specs.sequences.Moves.{IsUsable}
use Rattle.rv64_emit_laws.specs.layout.Fits.{IsReached, ItemFits, HasConstantInRange, passed_by}
use Rattle.rv64_emit_laws.specs.layout.Image.{largest_frame}
use Rattle.rv64_emit_laws.specs.layout.Homes.{FunctionHomes, depth_at}
use Rattle.rv64_emit_laws.specs.layout.Laid.{HaveHomes}
use Rattle.rv64_emit_laws.proofs.lemmas.layout.Bounding.{one_of_sum, instruction_at, function_made, item_most}

-- ---- constants

base_in_range : (b : Base) → IsInRange (zero_of_base b)
base_in_range base.Int = search rules
base_in_range base.Bool = tt
base_in_range base.Char = search rules

zero_in_range : (depth : ℕ) (b : Base) → IsInRange (zero_at depth b)
zero_in_range zero b = base_in_range b
zero_in_range (suc depth) b = search rules

module _ (f : Func) where
  action_in_range : (operation : Op) (dest : Option ℕ) (ty : Option Ty) (args funcs labels : List ℕ) → HasConstantInRange (lowered_action f operation dest ty args funcs labels)
  action_in_range op.Undef (Some x) (Some ty) args funcs labels = zero_in_range ty.depth ty.base
  action_in_range op.Undef (Some x) None args funcs labels = tt
  action_in_range op.Undef None ty args funcs labels = tt
  action_in_range _ None ty args funcs labels = tt
  action_in_range _ (Some x) ty args funcs labels = tt

  item_in_range : (item : Instr) → IsLiteralInRange item → HasConstantInRange (lowered_item f item)
  item_in_range (Label l) h = tt
  item_in_range (Const dest ty value) h = h
  item_in_range (Act dest ty operation args funcs labels) h = action_in_range operation dest ty args funcs labels

  -- ---- arguments

  action_passes : (operation : Op) (dest : Option ℕ) (ty : Option Ty) (locations : ℕ) (args funcs labels : List ℕ) →
      passed_by (lowered_action f operation dest ty args funcs labels) ≤ operation_bound operation locations (length args)
  action_passes op.Call dest ty locations args funcs labels = omega arith
  action_passes op.Undef (Some x) None locations args funcs labels = omega arith
  action_passes op.Undef (Some x) (Some t) locations args funcs labels = omega arith
  action_passes op.Undef None ty locations args funcs labels = omega arith
  action_passes _ None ty locations args funcs labels = omega arith
  action_passes _ (Some x) ty locations args funcs labels = omega arith

  item_passes : (item : Instr) (locations : ℕ) → passed_by (lowered_item f item) ≤ word_bound locations item
  item_passes (Label l) locations = omega arith
  item_passes (Const dest ty value) locations = omega arith
  item_passes (Act dest ty operation args funcs labels) locations = action_passes operation dest ty locations args funcs labels

-- ---- slots

-- what holds of each slot, by All, as a tuple
each_slot : (P Q : Slot → Type 0) → ((slot : Slot) → P slot → Q slot) → (slots : List Slot) → All P slots → AllByRecursion Q slots
each_slot P Q from [] all = tt
each_slot P Q from (slot ∷ slots) all = (from slot (All-head P slot slots all), each_slot P Q from slots (All-tail P slot slots all))

all_of : (Q : Slot → Type 0) (slots : List Slot) → ((k : ℕ) (slot : Slot) → slice_get slots k ≡ Some slot → Q slot) → AllByRecursion Q slots
all_of Q [] each = tt
all_of Q (slot ∷ slots) each = (each 0 slot refl, all_of Q slots (λ k s e. each (suc k) s e))

-- a home of a frame that isn't too large
reached : (words : ℕ) (home : Home) → words ≤ 8388608 → IsHomeWithin words home → IsReached home
reached words (Reg number) few within = within
reached words (Frame word) few within = omega arith

-- a register in which locations may be
register_small : (r : ℕ) → IsUsable (Reg r) → r < 32
register_small r is = grind (arith, nat_tests)

-- ---- depths

-- at most as many speculations are open at a point as are ever open
depth_most : (f : Func) (g : SlotFunction) (is : IsLoweredFunction f g) (point : ℕ) → depth_at g point ≤ is.words.depth
depth_most f g is point = by (slice_get graph.sites point) refl
  where
    graph : GraphView
    graph = is.depths.graph

    depths : slice_get g.depths point ≡ option_map open_count (slice_get graph.sites point)
    depths = ap (λ ds. slice_get ds point) is.depths.are ∙ slice_get-map open_count graph.sites point

    none_is_zero : (xs : List ℕ) (k : ℕ) → slice_get xs k ≡ None → slice_index xs k ≡ 0
    none_is_zero [] k h = refl
    none_is_zero (x ∷ xs) zero h = cc
    none_is_zero (x ∷ xs) (suc k) h = none_is_zero xs k h

    by : (o : Option (Option (List ℕ))) → slice_get graph.sites point ≡ o → depth_at g point ≤ is.words.depth
    by None e = omega (arith, none_is_zero g.depths point (depths ∙ ap (option_map open_count) e))
    by (Some None) e = omega (arith, get_or_from_slice_get g.depths point 0 0 (depths ∙ ap (option_map open_count) e))
    by (Some (Some sites)) e =
        let first = is.depths.is.reached point sites e in
        let here : slice_index g.depths point ≡ length sites = get_or_from_slice_get g.depths point (length sites) 0 (depths ∙ ap (option_map open_count) e) in
        let most = is.words.is.most first.walk first.first.is in
        let same : length (sites_of f.code first.walk) ≡ length sites = ap length first.are in
        omega arith

-- ---- frames

-- a frame has more words than slots at each level
levels_fit : (locations deepest depth words : ℕ) → words ≡ frame_head + locations * (1 + deepest) → depth ≤ deepest → words ≤ 8388608 → locations * (depth + 2) < 2 ^ 26
levels_fit locations deepest depth words is most few =
    let less : locations * (depth + 2) ≤ locations * (2 * (1 + deepest)) = mul-le-mul_left locations (omega arith) in
    let twice : locations * (2 * (1 + deepest)) ≡ 2 * (locations * (1 + deepest)) = grind arith in
    omega arith

module _ (p : Prog) (slots : Slots) (limits : Limits) (accepted : IsAccepted p) (literals : AreLiteralsInRange p) (is : IsLowered p slots) (within : IsWithin p limits) where
  -- the words of the largest frame
  abbrev pub frame : ℕ
  frame = within.size.frame

  stack_few : limits.frames * frame ≤ 8388608
  stack_few = let e = within.size.is in let few = within.few in omega arith

  frame_few : frame ≤ 8388608
  frame_few =
      let some = limits.some_frames in
      let least : 1 * frame ≤ limits.frames * frame = mul-le-mul_right frame some in
      let few = stack_few in
      omega arith

  -- no frame is larger
  pub frame_most : (k : ℕ) (g : SlotFunction) → slice_get slots.funcs k ≡ Some g → g.words ≤ frame
  frame_most k g e =
      let made = function_made p slots is k g e in
      within.size.largest.most made.0 g.words (contains_in made.0 p.funcs (get_in p.funcs k made.0 made.1)) made.2.words

  words_few : (k : ℕ) (g : SlotFunction) → slice_get slots.funcs k ≡ Some g → g.words ≤ 8388608
  words_few k g is_g = omega (arith, frame_most k g is_g, frame_few)

  -- the homes of all slots of a function have encodings, and the slots are few
  pub all_reached : (homes : ℕ → FunctionHomes) → HaveHomes homes slots → (k : ℕ) (g : SlotFunction) → slice_get slots.funcs k ≡ Some g → AllByRecursion (λ slot. IsReached ((homes k).home slot)) g.slots
  all_reached homes have k g is_g =
      let made = function_made p slots is k g is_g in
      all_of (λ slot. IsReached ((homes k).home slot)) g.slots (λ n slot e. reached g.words ((homes k).home slot) (words_few k g is_g) ((have k g is_g).within slot (slots_are_numbered made.0 g made.2 n slot e).0))

  pub slots_few : (k : ℕ) (g : SlotFunction) → slice_get slots.funcs k ≡ Some g → length g.slots ≤ 8388608
  slots_few k g is_g =
      let made = function_made p slots is k g is_g in
      let words = made.2.words.are in
      let count = made.2.count in
      let least : location_count made.0 * 1 ≤ location_count made.0 * (1 + made.2.words.depth) = mul-le-mul_left (location_count made.0) (omega arith) in
      omega (arith, words_few k g is_g)

  pub item_fits : (homes : ℕ → FunctionHomes) → HaveHomes homes slots → (k : ℕ) (g : SlotFunction) (point : ℕ) (item : SlotItem) → slice_get slots.funcs k ≡ Some g → slice_get g.code point ≡ Some item → ItemFits (homes k) g point item
  item_fits homes have k g point item is_g is_item =
      let made = function_made p slots is k g is_g in
      let f = made.0 in
      let lowered = made.2 in
      let few = words_few k g is_g in
      let w = instruction_at f g lowered point item is_item in
      let locations = location_count f in
      let words = lowered.words.are in
      let bound = one_of_sum (word_bound locations) f.code point w.0 w.1 in
      let function = one_of_sum function_bound p.funcs k f made.1 in
      let code = within.code in
      let passes : passed_by item ≤ word_bound locations w.0 = subst (λ i. passed_by i ≤ word_bound locations w.0) (sym w.2) (item_passes f w.0 locations) in
      record {
        slots = each_slot (IsSlotOf g) (λ slot. IsReached ((homes k).home slot)) (λ slot of. reached g.words ((homes k).home slot) few ((have k g is_g).within slot of))
            (slots_used item) (items_use_slots p k f g accepted made.1 lowered point item is_item);
        all_slots = all_reached homes have k g is_g;
        frame = omega arith;
        levels = subst (λ n. n * (depth_at g point + 2) < 2 ^ 26) (sym lowered.count) (levels_fit locations lowered.words.depth (depth_at g point) g.words words (depth_most f g lowered point) few);
        passed = omega arith;
        given = λ function n r at. register_small r ((have k g is_g).given function n (Reg r) at);
        constant = subst HasConstantInRange (sym w.2) (item_in_range f w.0 (All-at IsLiteralInRange f.code point w.0 (All-at (λ h. All IsLiteralInRange h.code) p.funcs k f literals made.1) w.1));
        few = item_most (homes k) f g lowered (have k g is_g) point item;
      }

  -- ---- the largest frame

  largest_most : (funcs : List SlotFunction) (most : ℕ) → ((k : ℕ) (g : SlotFunction) → slice_get funcs k ≡ Some g → g.words ≤ most) → greatest (map (λ g. g.words) funcs) ≤ most
  largest_most [] most all = omega arith
  largest_most (g ∷ funcs) most all = omega (arith, all 0 g refl, largest_most funcs most (λ k h e. all (suc k) h e))

  pub largest_has : (funcs : List SlotFunction) (k : ℕ) (g : SlotFunction) → slice_get funcs k ≡ Some g → g.words ≤ greatest (map (λ h. h.words) funcs)
  largest_has [] k g e = cc
  largest_has (h ∷ funcs) zero g e = let same : h ≡ g = cc in omega (arith, ap (λ x. x.words) same)
  largest_has (h ∷ funcs) (suc k) g e = omega (arith, largest_has funcs k g e)

  -- the largest frame of the code over slots is the program's
  pub largest_is : (words : ℕ) → IsLargestFrame p words → largest_frame slots ≡ words
  largest_is words largest =
      let same : words ≡ frame = IsGreatest-one AreFrameWords p words frame largest within.size.largest in
      let most = largest_most slots.funcs frame frame_most in
      let place = in_get largest.func p.funcs (in_contains largest.func p.funcs largest.is) in
      let inside : place.0 < length slots.funcs = omega (arith, slice_get_within p.funcs place.0 largest.func place.1, zip-long IsLoweredFunction p.funcs slots.funcs is.funcs) in
      let g = get_inside slots.funcs place.0 inside in
      let lowered = zip-get IsLoweredFunction p.funcs slots.funcs place.0 largest.func g.0 is.funcs place.1 g.1 in
      let one : g.0.words ≡ words = AreFrameWords-one largest.func g.0.words words lowered.words largest.has in
      let has = largest_has slots.funcs place.0 g.0 g.1 in
      omega arith

  pub largest_few : limits.frames * largest_frame slots ≤ 8388608
  largest_few =
      let less : limits.frames * largest_frame slots ≤ limits.frames * frame = mul-le-mul_left limits.frames (largest_most slots.funcs frame frame_most) in
      let few = stack_few in
      omega arith
