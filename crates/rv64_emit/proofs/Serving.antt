-- Homes of a placement serve.
use Rattle.std.proofs.Common.{◌≡◌, ℕ, ◌<◌, Bool, true, cond, List, Option, Some, None, refl, sym, ap, ◌∙◌, subst, arith}
use Rattle.std.specs.Prelude.{◌↔◌, slice_get}
use Rattle.std.specs.List.{AllZip}
use Rattle.std.proofs.lemmas.Bool.{false≢true}
use Rattle.std.proofs.lemmas.Option.{slice_get_within}
use Rattle.bril_tree.specs.declared.numbered_function.Func.{Func}
use Rattle.bril_tree.specs.declared.program.Prog.{Prog}
use Rattle.bril_tree.specs.Live.{IsLive}
use Rattle.bril_tree.specs.Operand.{Location}
use Rattle.bril_tree.proofs.Elements.{get_in, get_inside, passes_in, past_end, zip-get, zip-long}
use Rattle.live_sets.specs.declared.live.Live.{Live}
use Rattle.live_sets.specs.Liveness.{TellsLive, is_live}
use Rattle.placement_laws.specs.Homes.{IsHomeOf, slot_of}
use Rattle.placement_laws.specs.Placed.{IsPlaced}
use Rattle.placement_laws.proofs.Homes.{location_back}
use Rattle.rv64_emit_laws.specs.Homes.{AllHomesServe, HomesServe, home_at, homes_of, live_at, saved_at}
use Rattle.rv64_emit_laws.proofs.Homes.{slot_in}
use Rattle.rv64_emit_laws.proofs.Sources.{lowered_at}
use Rattle.rv64_emit_laws.specs.layout.Homes.{FunctionHomes, slot_word}
use Rattle.rv64_emit_laws.specs.layout.Laid.{AreHomes}
use Rattle.shadow_place.specs.declared.placed.Placed.{Placed}
use Rattle.shadow_place.specs.Placement.{TellsLiveIn}
use Rattle.shadow_place.specs.Tables.{home_in, is_saved_in}
use Rattle.slot_code.specs.declared.item.Slot.TheVariants.{Variable}
use Rattle.slot_code.specs.Flow.{slot_location}
use Rattle.slot_code.specs.declared.item.SlotItem.TheVariants.{Call}
use Rattle.slot_code.specs.declared.slots.SlotFunction.{SlotFunction}
use Rattle.slot_code.specs.declared.slots.Slots.{Slots}
use Rattle.slot_code.specs.Lowered.{IsLowered, IsLoweredFunction}
use Rattle.slot_code.proofs.Places.{slots_are_numbered}
use Rattle.rv64_emit.specs.Moved.{AreRegistersNear}
use Rattle.rv64_emit.specs.Placed.{calls_none, is_leaf_if, is_live_if, placed_homes}
use Rattle.rv64_emit.specs.PlacedImage.{AreFewInRegisters, ArePlaced}

-- what is known of a placement
pub record IsPlacedBy (p : Prog) (slots : Slots) (lives : List Live) (placed : Placed) : Type 0 where
  pub are : ArePlaced p slots placed
  pub tells : AllZip TellsLiveIn p.funcs lives

module _ (marked : Bool) (p : Prog) (slots : Slots) (lives : List Live) (placed : Placed) (is : IsPlacedBy p slots lives placed) where
  -- ---- one function

  module _ (k : ℕ) (f : Func) (there : slice_get p.funcs k ≡ Some f) where
    abbrev own : FunctionHomes
    own = placed_homes marked slots placed lives k

    homes_same : home_in placed k ≡ home_at own
    homes_same = λ i x. ap (home_in placed k) (sym (location_back x)) i

    saved_same : is_saved_in placed k ≡ saved_at own
    saved_same = λ i site x. ap (is_saved_in placed k site) (sym (location_back x)) i

    stay_apart : IsPlaced f.code f.args (home_at own) (saved_at own)
    stay_apart = subst (λ homes. IsPlaced f.code f.args homes (saved_at own)) homes_same (subst (IsPlaced f.code f.args (home_in placed k)) saved_same (is.are.apart k f there))

    table : (live : Live) × (slice_get lives k ≡ Some live) × TellsLive f.code live
    table =
        let long = zip-long TellsLiveIn p.funcs lives is.tells in
        let inside = slice_get_within p.funcs k f there in
        let at = get_inside lives k (omega arith) in
        (at.0, at.1, zip-get TellsLiveIn p.funcs lives k f at.0 is.tells there at.1)

    told : (point : ℕ) (x : Location) → live_at own point x ≡ is_live table.0 x point
    told point x = ap (λ o. is_live_if o point (slot_of x)) table.1 ∙ ap (λ y. is_live table.0 y point) (location_back x)

    tells_live : (point : ℕ) (x : Location) → (live_at own point x ≡ true) ↔ IsLive f.code x point
    tells_live point x = (λ yes. (table.2 x point).0 (sym (told point x) ∙ yes), λ alive. told point x ∙ (table.2 x point).1 alive)

    serves : (g : SlotFunction) → slice_get slots.funcs k ≡ Some g → HomesServe f.code f.args g own
    serves g is_g = record {
      placed = stay_apart;
      saved = λ site x saved. ap (is_saved_in placed k site) (location_back x) ∙ (is.are.saved k f there site x).1 saved;
      own = λ x in_g. subst (IsHomeOf g x) (ap (home_in placed k) (sym (location_back x))) (is.are.own k g x is_g in_g);
      live = tells_live;
      registers = λ point x y live_x live_y register same. is.are.live k f there point x y live_x live_y (ap (home_in placed k) (sym (location_back x)) ∙ (same ∙ ap (home_in placed k) (location_back y)));
      leaf = λ told point dest function args at. false≢true (passes_in calls_none g.code (Call dest function args) (sym (ap is_leaf_if is_g) ∙ told) (get_in g.code point (Call dest function args) at));
    }

  -- ---- a program

  pub all_serve : IsLowered p slots → AllHomesServe (placed_homes marked slots placed lives) p slots
  all_serve lowered = record {
    each = λ k f g there is_g. serves k f there g is_g;
    given = λ f function k. refl;
    absent = λ f function k none. absent function k none (slice_get lives function) refl;
  }
    where
      absent : (function k : ℕ) → slice_get slots.funcs function ≡ None → (o : Option Live) → slice_get lives function ≡ o → (placed_homes marked slots placed lives 0).given function k ≡ None
      absent function k none None e = ap (λ o. cond (is_live_if o 0 (Variable k)) (Some (home_in placed function (slot_location (Variable k)))) None) e
      absent function k none (Some live) e =
          let inside = slice_get_within lives function live e in
          let past = past_end slots.funcs function none in
          let long = zip-long TellsLiveIn p.funcs lives is.tells in
          let lengths = zip-long IsLoweredFunction p.funcs slots.funcs lowered.funcs in
          absurd (omega arith)

  pub few_in_registers : IsLowered p slots → AreFewInRegisters (home_in placed) p
  few_in_registers lowered k f x there few location = let g = lowered_at p slots lowered k f there in is.are.registers k f g.function x there g.there few (slot_in f g.function g.is x location)

-- the homes of slots are those of their locations
pub homes_placed : (marked : Bool) (slots : Slots) (placed : Placed) (lives : List Live) → homes_of (placed_homes marked slots placed lives) ≡ home_in placed
homes_placed marked slots placed lives = λ i k x. home_in placed k (location_back x i)

-- slots in registers are among the first ones
pub registers_near : (f : Func) (g : SlotFunction) → IsLoweredFunction f g → (homes : FunctionHomes) → AreHomes g homes → AreRegistersNear homes g
registers_near f g lowered homes are k slot at register =
    let numbered = slots_are_numbered f g lowered k slot at in
    let low : slot_word g slot < 256 = are.near slot numbered.0 register in
    omega (arith, numbered.1)
