-- The theorem: the image of a program with the points of its items shows the program.
use Rattle.std.proofs.Common.{◌≡◌, ◌⊎◌, ℕ, ◌*◌, ◌<◌, ◌≤◌, inl, inr, ⊎_elim, List, ◌∷◌, length, Option, Some, None, refl, sym, ap, ◌∙◌, subst, arith, length-append}
use Rattle.std.specs.Prelude.{option_map, slice_get}
use Rattle.std.proofs.lemmas.List.{length-map}
use Rattle.std.proofs.lemmas.Option.{slice_get-map, slice_get_within}
use Rattle.bril_tree.specs.declared.home.Home.{Home}
use Rattle.bril_tree.specs.declared.home.Home.TheVariants.{Reg, Frame}
use Rattle.bril_tree.specs.declared.limits.Limits.{Limits}
use Rattle.bril_tree.specs.declared.numbered.Instr.{Instr}
use Rattle.bril_tree.specs.declared.numbered.VarInfo.{VarInfo}
use Rattle.bril_tree.specs.declared.numbered_function.Func.{Func}
use Rattle.bril_tree.specs.declared.program.Prog.{Prog}
use Rattle.bril_tree.specs.declared.types.Ty.{Ty}
use Rattle.bril_tree.specs.declared.value.Value.{Value}
use Rattle.bril_tree.specs.Accepted.{IsAccepted}
use Rattle.bril_tree.specs.Literals.{AreLiteralsInRange}
use Rattle.bril_tree.specs.Operand.{Variable}
use Rattle.bril_tree.specs.Run.{FitMain, Suits}
use Rattle.bril_tree.specs.State as bril
use Rattle.bril_tree.specs.Step.{code_of, item_at, items_of}
use Rattle.bril_tree.specs.Typing.{variable_type}
use Rattle.bril_tree.specs.Value.{word_of}
use Rattle.bril_tree.specs.Walk.{IsReached}
use Rattle.bril_tree.proofs.Acceptance.{accepted_function}
use Rattle.rv64_image_laws.specs.Home.{IsAt, IsHomeWithin}
use Rattle.rv64_image_laws.specs.WordBounds.{IsWithin}
use Rattle.rv64_emit_laws.specs.layout.Homes.{AreMarked, FunctionHomes}
use Rattle.rv64_emit_laws.specs.layout.Image.{IsImageOf, entry_at, function_words_at, head_words, main_moves, image_words, joined, start_at}
use Rattle.rv64_emit_laws.proofs.lemmas.layout.Guarding.{InItem, in_function, one_item}
use Rattle.rv64_emit_laws.proofs.lemmas.layout.Joining.{below_or}
use Rattle.rv64_emit_laws.proofs.lemmas.layout.Laid.{functions_length, head_length}
use Rattle.rv64_emit_laws.proofs.lemmas.layout.Placing.{function_inside}
use Rattle.rv64_words.specs.declared.image.Image.{Image}
use Rattle.rv64_words.specs.Encoding.{encoded}
use Rattle.rv64_words.specs.Region.{sizes_of}
use Rattle.slot_code.specs.declared.item.SlotItem.{SlotItem}
use Rattle.slot_code.specs.declared.item.SlotItem.TheVariants.{Pass}
use Rattle.slot_code.specs.declared.slots.SlotFunction.{SlotFunction}
use Rattle.slot_code.specs.declared.slots.Slots.{Slots}
use Rattle.slot_code.specs.Lowered.{IsLowered, lowered_item}
use Rattle.type_soundness.specs.WellTyped.{IsWellTyped}
use Rattle.rv64_emit_laws.specs.Homes.{AllHomesServe, homes_of}
use Rattle.rv64_emit_laws.proofs.HavingWords.{words_or_pass}
use Rattle.rv64_emit_laws.proofs.Entries.{HasWords}
use Rattle.rv64_emit_laws.proofs.Homes.{homes_within}
use Rattle.rv64_emit_laws.proofs.Points.{well_typed}
use Rattle.rv64_emit_laws.proofs.Setting.{Setting}
use Rattle.rv64_emit_laws.proofs.Sources.{lowered_at}
use Rattle.rv64_emit_laws.proofs.Theorem.{implements, setting}
use Rattle.rv64_emit_laws.proofs.Whole.{shows}
use Rattle.rv64_words.specs.declared.points.HomeAt.{HomeAt}
use Rattle.rv64_words.specs.declared.points.PointAt.{PointAt}
use Rattle.rv64_words.specs.declared.points.Points.{Points}
use Rattle.rv64_emit_laws.specs.Laws.{ImagesShowPoints}
use Rattle.rv64_words.specs.Points.{ArePointsIn, IsAtPoint, IsStopAt}
use Rattle.rv64_image_laws.specs.ProgramPoints.{AreHomesOf, ArePointsOf, IsEarlier, StopsAt}
use Rattle.rv64_image_laws.specs.PointsShown.{HomeShows, IsHomeNamed, PointShows, Shows, ShowsRun}
use Rattle.rv64_emit_laws.proofs.Counting.{count, machine_after, program_after, related_at}
use Rattle.rv64_emit_laws.proofs.AtItems.{found}
use Rattle.rv64_emit_laws.proofs.Rising as items
use Rattle.rv64_emit_laws.proofs.Living.{stop-has}

named_within : (words : ℕ) (home : Home) → IsHomeWithin words home → IsHomeNamed home
named_within words (Reg r) h = h
named_within words (Frame o) h = tt

typed_inside : (f : Func) (x : ℕ) (ty : Ty) → variable_type f.vars x ≡ Some ty → x < length f.vars
typed_inside f x ty typed = by (slice_get f.vars x) refl typed
  where
    by : (o : Option VarInfo) → slice_get f.vars x ≡ o → variable_type f.vars x ≡ Some ty → x < length f.vars
    by None e typed = absurd (let none : None ≡ Some ty = sym (untyped e) ∙ typed in cc)
      where
        untyped : slice_get f.vars x ≡ None → variable_type f.vars x ≡ None
        untyped e = rw e refl
    by (Some v) e typed = slice_get_within f.vars x v e

module _ (p : Prog) (homes : ℕ → FunctionHomes) (slots : Slots) (limits : Limits) (image : Image) (points : Points) (accepted : IsAccepted p) (literals : AreLiteralsInRange p) (lowered : IsLowered p slots) (within : IsWithin p limits)
    (serve : AllHomesServe homes p slots) (marked : AreMarked homes) (is : IsImageOf homes slots limits image) (its : ArePointsOf (homes_of homes) (entry_at homes slots) p points) where
  -- ---- the words of a stop

  -- the function and the item of a place of the program
  record Source (f i : ℕ) (item : Instr) : Type 0 where
    func : Func
    there : slice_get p.funcs f ≡ Some func
    here : slice_get func.code i ≡ Some item

  source : (f i : ℕ) (item : Instr) → item_at p f i ≡ Some item → Source f i item
  source f i item at = by (slice_get p.funcs f) refl
    where
      by : (o : Option Func) → slice_get p.funcs f ≡ o → Source f i item
      by None e = absurd (let none : None ≡ Some item = ap (λ o. slice_get (items_of o) i) (sym e) ∙ at in cc)
      by (Some func) e = record { func = func; there = e; here = ap (λ o. slice_get (items_of o) i) (sym e) ∙ at }

  -- a stop has words
  record StopWords (f i : ℕ) : Type 0 where
    function : SlotFunction
    item : SlotItem
    in_item : InItem homes slots f i (entry_at homes slots f i)
    is_function : slice_get slots.funcs f ≡ Some function
    is_item : slice_get function.code i ≡ Some item
    some : (item ≡ Pass) → ⊥

  stop_words : (f i : ℕ) → IsStopAt p f i → StopWords f i
  stop_words f i stop =
      let s = source f i stop.item stop.is_item in
      let g = lowered_at p slots lowered f s.func s.there in
      let item = lowered_item s.func stop.item in
      let here : slice_get g.function.code i ≡ Some item = ap (λ code. slice_get code i) g.is.code ∙ (slice_get-map (lowered_item s.func) s.func.code i ∙ ap (option_map (lowered_item s.func)) s.here) in
      let no_pass = stop-has p s.func (accepted_function p f s.func accepted s.there) i stop.item s.here stop.stops in
      let words = ⊎_elim (λ (e : item ≡ Pass). absurd (no_pass e)) (λ some. some) (words_or_pass (homes f) (marked f) g.function i item) in
      record {
        function = g.function;
        item = item;
        in_item = record { function = g.function; item = item; is_function = g.there; is_item = here; from = omega arith; to = omega arith };
        is_function = g.there;
        is_item = here;
        some = no_pass;
      }

  -- ---- the points in the image

  image_length : length image.words ≡ start_at homes slots (length slots.funcs)
  image_length =
      let main = start_at homes slots slots.main in
      let head = head_words limits (main_moves homes slots) main in
      let rest = joined (function_words_at homes slots) (length slots.funcs) in
      omega (arith, ap length is.words, length-map (image_words homes slots limits) encoded, length-append head rest, head_length limits (main_moves homes slots) main, functions_length homes slots (length slots.funcs))

  point_inside : (k : ℕ) (at : PointAt) → slice_get points.points k ≡ Some at → at.word < length image.words
  point_inside k at there =
      let point = its.are k at there in
      let words = stop_words at.func at.item point.stop in
      let inside = (in_function homes slots at.func at.item (entry_at homes slots at.func at.item) words.in_item).2 in
      omega (arith, point.word, image_length, inside, function_inside homes slots at.func words.in_item.function words.in_item.is_function)

  points_in : ArePointsIn image points
  points_in = record { inside = point_inside; once = λ j k a b is_a is_b same. once j k a b is_a is_b same (order j k) }
    where
      order : (j k : ℕ) → (j ≡ k) ⊎ ((j < k) ⊎ (k < j))
      order j k = ⊎_elim (λ (less : j < k). inr (inl less)) (λ (le : k ≤ j). ⊎_elim (λ (less : k < j). inr (inr less)) (λ (ge : j ≤ k). (let e : j ≡ k = omega arith in inl e)) (below_or k j)) (below_or j k)

      never : (a b : PointAt) → (a.func ≡ b.func) × (a.item ≡ b.item) → IsEarlier a b → ⊥
      never a b same (inl less) = let f = same.0 in absurd (omega arith)
      never a b same (inr (f, less)) = let i = same.1 in absurd (omega arith)

      places : (j k : ℕ) (a b : PointAt) → slice_get points.points j ≡ Some a → slice_get points.points k ≡ Some b → a.word ≡ b.word → (a.func ≡ b.func) × (a.item ≡ b.item)
      places j k a b is_a is_b same =
          let first = its.are j a is_a in
          let second = its.are k b is_b in
          let one = stop_words a.func a.item first.stop in
          let other = stop_words b.func b.item second.stop in
          let entry : entry_at homes slots a.func a.item ≡ entry_at homes slots b.func b.item = sym first.word ∙ (same ∙ second.word) in
          one_item homes slots a.func a.item b.func b.item (entry_at homes slots a.func a.item) one.in_item (subst (InItem homes slots b.func b.item) (sym entry) other.in_item)

      once : (j k : ℕ) (a b : PointAt) → slice_get points.points j ≡ Some a → slice_get points.points k ≡ Some b → a.word ≡ b.word → (j ≡ k) ⊎ ((j < k) ⊎ (k < j)) → j ≡ k
      once j k a b is_a is_b same (inl e) = e
      once j k a b is_a is_b same (inr (inl less)) = absurd (never a b (places j k a b is_a is_b same) (its.in_order j k a b less is_a is_b))
      once j k a b is_a is_b same (inr (inr less)) = absurd (never b a (places k j b a is_b is_a (sym same)) (its.in_order k j b a less is_b is_a))

  -- ---- runs

  module _ (args : List Value) (fit : FitMain p args) where
    abbrev S : Setting
    S = setting p homes slots limits image accepted literals lowered within serve is args fit

    has_words : (f i : ℕ) (stop : IsStopAt p f i) → HasWords S f i (stop_words f i stop).function (stop_words f i stop).item
    has_words f i stop =
        let w = stop_words f i stop in
        record { there = w.is_function; here = w.is_item; some = ⊎_elim (λ (e : w.item ≡ Pass). absurd (w.some e)) (λ some. some) (words_or_pass (homes f) (marked f) w.function i w.item) }

    -- the machine's state at the point's word shows the program's
    home_shows : (n : ℕ) (frame : bril.Frame) (older : List bril.Frame) → (program_after S n).frames ≡ frame ∷ older → (program_after S n).ended ≡ None → (w : IsWellTyped p frame) →
        (hs : List HomeAt) → AreHomesOf (homes_of homes frame.function) w.function frame.point hs → (k : ℕ) (h : HomeAt) → slice_get hs k ≡ Some h →
        HomeShows (sizes_of image limits.cells) w.function.vars frame.locations (machine_after S (count S n)) h
    home_shows n frame older frames running w hs are k h at =
        let live = are.live k h at in
        let typed = are.typed k h at in
        let held = w.live (Variable h.var) h.ty live typed in
        let g = lowered_at p slots lowered frame.function w.function w.there in
        let inside : h.var < length w.function.vars = typed_inside w.function h.var h.ty typed in
        let home = homes_within p slots homes lowered serve frame.function w.function g.function.words (Variable h.var) w.there g.is.words inside in
        record {
          typed = typed;
          value = held.0;
          holds = held.1;
          suits = subst (λ o. Suits held.0 o) typed held.2;
          named = subst IsHomeNamed (sym (are.there k h at)) (named_within g.function.words (homes_of homes frame.function (Variable h.var)) home);
          at_home = subst (λ x. IsAt (sizes_of image limits.cells) (machine_after S (count S n)) x (word_of held.0)) (sym (are.there k h at))
              (shows S (program_after S n) (machine_after S (count S n)) (related_at S n) frame older w.function (Variable h.var) held.0 frames running w.there live held.1);
        }

    there : (n f i : ℕ) → StopsAt p (program_after S n) f i → (at : PointAt) × IsAtPoint points (machine_after S (count S n)) at × PointShows image p limits (program_after S n) (machine_after S (count S n)) at
    there n f i stops =
        let st = stops.stands in
        let w = well_typed S n st.frame st.older st.frames in
        let code : w.function.code ≡ code_of p f = sym (ap items_of w.there) ∙ ap (code_of p) st.in_function in
        let reached : IsReached (code_of p f) i = subst (IsReached (code_of p f)) st.at_item (subst (λ c. IsReached c st.frame.point) code (record { walk = w.walk; is = w.is; ends = w.ends })) in
        let found = its.each f i stops.stop reached in
        let at = found.1 in
        let point = its.are found.0 at found.2 in
        let machine = items.at_entry S (program_after S n) (machine_after S (count S n)) f i (related_at S n) st in
        let func : st.frame.function ≡ at.func = st.in_function ∙ sym found.3 in
        let item : st.frame.point ≡ at.item = st.at_item ∙ sym found.4 in
        let function : slice_get p.funcs at.func ≡ Some w.function = subst (λ k. slice_get p.funcs k ≡ Some w.function) func w.there in
        let own : AreHomesOf (homes_of homes st.frame.function) w.function st.frame.point at.homes =
        subst (λ k. AreHomesOf (homes_of homes k) w.function st.frame.point at.homes) (sym func) (subst (λ i. AreHomesOf (homes_of homes at.func) w.function i at.homes) (sym item) (point.homes w.function function)) in (
          at,
          record {
            place = found.0;
            is = found.2;
            running = machine.0;
            at_word = machine.1 ∙ ap (λ k. 4 * k) (ap (λ k. entry_at homes slots k i) (sym found.3) ∙ (ap (entry_at homes slots at.func) (sym found.4) ∙ sym point.word));
          },
          record {
            stops = record { stands = record { frame = st.frame; older = st.older; frames = st.frames; running = st.running; in_function = func; at_item = item }; stop = point.stop };
            func = w.function;
            is_function = function;
            homes = home_shows n st.frame st.older st.frames st.running w at.homes own;
            printed = items.printed_alike S (program_after S n) (machine_after S (count S n)) (related_at S n);
          },
        )

    rising : (n m f i g j : ℕ) → n < m → StopsAt p (program_after S n) f i → StopsAt p (program_after S m) g j → count S n < count S m
    rising n m f i g j less a b =
        items.later S n m f i g j less
        (record { stands = a.stands; function = (stop_words f i a.stop).function; item = (stop_words f i a.stop).item; has = has_words f i a.stop })
        (record { stands = b.stands; function = (stop_words g j b.stop).function; item = (stop_words g j b.stop).item; has = has_words g j b.stop })

    only : (m : ℕ) (at : PointAt) → IsAtPoint points (machine_after S m) at → (n : ℕ) × (count S n ≡ m) × StopsAt p (program_after S n) at.func at.item
    only m at stands =
        let point = its.are stands.place at stands.is in
        let w = stop_words at.func at.item point.stop in
        let r = found S m at.func at.item w.function w.item (has_words at.func at.item point.stop) stands.running (stands.at_word ∙ ap (λ k. 4 * k) point.word) in
        (r.steps, r.there, record { stands = r.stands; stop = point.stop })

    shows_run : ShowsRun image points p limits args
    shows_run = record { count = count S; there = there; rising = rising; only = only }

  pub image_shows : Shows image points p limits
  image_shows = record { implements = implements p homes slots limits image accepted literals lowered within serve is; points_in = points_in; runs = shows_run }

pub images_show_points : ImagesShowPoints
images_show_points p homes slots limits image points accepted literals lowered within serve marked is its = image_shows p homes slots limits image points accepted literals lowered within serve marked is its
