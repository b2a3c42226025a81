-- The homes of a function's locations, where they serve.
use Rattle.std.proofs.Common.{◌≡◌, ℕ, ◌<◌, Bool, true, false, cond, List, Option, Some, None, refl, sym, ap, ◌∙◌, subst, arith}
use Rattle.std.proofs.lemmas.Bool.Decides.{nat_tests}
use Rattle.std.specs.Prelude.{IsTrue, slice_get}
use Rattle.bril_tree.specs.declared.home.Home.{Home}
use Rattle.bril_tree.specs.declared.home.Home.TheVariants.{Reg, Frame}
use Rattle.bril_tree.specs.declared.numbered.Instr.{Instr}
use Rattle.bril_tree.specs.declared.numbered_function.Func.{Func}
use Rattle.bril_tree.specs.declared.program.Prog.{Prog}
use Rattle.bril_tree.specs.Accepted.{IsAccepted}
use Rattle.bril_tree.specs.FrameWords.{AreFrameWords}
use Rattle.bril_tree.specs.Home.{is_home_register}
use Rattle.bril_tree.specs.Operand.{Location, Shadow}
use Rattle.bril_tree.specs.Operand as location
use Rattle.bril_tree.specs.Sites.{AreSitesSound}
use Rattle.bril_tree.specs.Step.{code_of, items_of}
use Rattle.bril_tree.proofs.Acceptance.{accepted_function}
use Rattle.bril_tree.proofs.Measures.{AreFrameWords-one}
use Rattle.placement_laws.specs.Homes.{IsHomeOf, slot_of}
use Rattle.placement_laws.proofs.Living.{live_slot}
use Rattle.rv64_image_laws.specs.Home.{IsHomeWithin, IsLocationOf}
use Rattle.rv64_image_laws.specs.Implements.{AreHomesWithin}
use Rattle.rv64_emit_laws.specs.layout.Homes.{FunctionHomes, in_register, slot_word}
use Rattle.rv64_emit_laws.specs.layout.Laid.{AreHomes, HaveHomes}
use Rattle.rv64_emit_laws.proofs.lemmas.layout.Bounding.{function_made}
use Rattle.rv64_words_laws.specs.sequences.Moves.{IsUsable}
use Rattle.slot_code.specs.declared.item.Slot.{Slot}
use Rattle.slot_code.specs.declared.item.Slot.TheVariants.{Variable}
use Rattle.slot_code.specs.declared.slots.SlotFunction.{SlotFunction}
use Rattle.slot_code.specs.declared.slots.Slots.{Slots}
use Rattle.slot_code.specs.Flow.{slot_location}
use Rattle.slot_code.specs.Laws.{IsSlotOf}
use Rattle.slot_code.specs.Lowered.{IsLowered, IsLoweredFunction}
use Rattle.slot_code.specs.Numbering.{is_used}
use Rattle.slot_code.proofs.Counting.{code_uses}
use Rattle.rv64_emit_laws.specs.Homes.{AllHomesServe, HomesServe, homes_of}
use Rattle.rv64_emit_laws.proofs.Frames.{slot_back, slot_fits}
use Rattle.rv64_emit_laws.proofs.Setting.{Setting}
use Rattle.rv64_emit_laws.proofs.Sources.{SourceAt, lowered_at, source_at}

-- ---- one function

-- one location, and the homes that it may have
module _ (g : SlotFunction) (x : Location) where
  usable_home : (home : Home) → IsHomeOf g x home → IsUsable home
  usable_home (Reg r) h = h.0
  usable_home (Frame o) h = tt

  near_home : (home : Home) → in_register home ≡ true → IsHomeOf g x home → slot_word g (slot_of x) < 256
  near_home (Reg r) e h = h.1
  near_home (Frame o) e h = absurd cc

  framed_home : (home : Home) (o : ℕ) → home ≡ Frame o → IsHomeOf g x home → o ≡ slot_word g (slot_of x)
  framed_home (Reg r) o e h = absurd cc
  framed_home (Frame p) o e h = let same : p ≡ o = cc in sym same ∙ h

  home_is_within : (words : ℕ) (home : Home) → slot_word g (slot_of x) < words → IsHomeOf g x home → IsHomeWithin words home
  home_is_within words (Reg r) fits h = below_all r h.0
    where
      below_all : (r : ℕ) → IsTrue (is_home_register r) → r < 32
      below_all r is = grind (arith, nat_tests)
  home_is_within words (Frame o) fits h = subst (λ n. n < words) (sym h) fits

module _ (code : List Instr) (args : ℕ) (g : SlotFunction) (homes : FunctionHomes) (serves : HomesServe code args g homes) where
  -- the home of a slot is one that its location may have
  slot_home : (slot : Slot) → IsSlotOf g slot → IsHomeOf g (slot_location slot) (homes.home slot)
  slot_home slot in_g =
      subst (λ s. IsHomeOf g (slot_location slot) (homes.home s)) (slot_back slot)
      (serves.own (slot_location slot) (subst (IsSlotOf g) (sym (slot_back slot)) in_g))

  pub slot_usable : (slot : Slot) → IsSlotOf g slot → IsUsable (homes.home slot)
  slot_usable slot in_g = usable_home g (slot_location slot) (homes.home slot) (slot_home slot in_g)

  pub slot_near : (slot : Slot) → IsSlotOf g slot → in_register (homes.home slot) ≡ true → slot_word g slot < 256
  slot_near slot in_g e = subst (λ s. slot_word g s < 256) (slot_back slot) (near_home g (slot_location slot) (homes.home slot) e (slot_home slot in_g))

  -- a home in the frame is the slot's own word
  pub slot_framed : (slot : Slot) (o : ℕ) → IsSlotOf g slot → homes.home slot ≡ Frame o → o ≡ slot_word g slot
  slot_framed slot o in_g e = framed_home g (slot_location slot) (homes.home slot) o e (slot_home slot in_g) ∙ ap (slot_word g) (slot_back slot)

  pub slot_within : (words : ℕ) (slot : Slot) → IsSlotOf g slot → slot_word g slot < words → IsHomeWithin words (homes.home slot)
  slot_within words slot in_g fits = home_is_within g (slot_location slot) words (homes.home slot) (subst (λ s. slot_word g s < words) (sym (slot_back slot)) fits) (slot_home slot in_g)

  -- two slots that are live at one point aren't in one register
  pub live_apart : (point : ℕ) (x y : Slot) → homes.live point x ≡ true → homes.live point y ≡ true → in_register (homes.home x) ≡ true → homes.home x ≡ homes.home y → x ≡ y
  live_apart point x y live_x live_y register same =
      let there : (slot : Slot) → slot_of (slot_location slot) ≡ slot = slot_back in
      let is = serves.registers point (slot_location x) (slot_location y)
      ((serves.live point (slot_location x)).0 (subst (λ s. homes.live point s ≡ true) (sym (slot_back x)) live_x))
      ((serves.live point (slot_location y)).0 (subst (λ s. homes.live point s ≡ true) (sym (slot_back y)) live_y))
      (subst (λ s. in_register (homes.home s) ≡ true) (sym (slot_back x)) register)
      (ap homes.home (slot_back x) ∙ (same ∙ sym (ap homes.home (slot_back y)))) in
      sym (slot_back x) ∙ (ap slot_of is ∙ slot_back y)

  pub are_homes : (f : Func) → IsLoweredFunction f g → ((function k : ℕ) (home : Home) → homes.given function k ≡ Some home → IsUsable home) → AreHomes g homes
  are_homes f is given = record {
    within = λ slot in_g. slot_within g.words slot in_g (slot_fits f g is slot in_g);
    usable = slot_usable;
    near = slot_near;
    apart = λ point x y in_x in_y live_x live_y register same. live_apart point x y live_x live_y register same;
    given = given;
  }

-- ---- where functions have their arguments

-- The argument is live as the function begins, and it is at its home there.
pub record IsGiven (homes : FunctionHomes) (g : SlotFunction) (k : ℕ) (home : Home) : Type 0 where
  pub live : homes.live 0 (Variable k) ≡ true
  pub is : home ≡ homes.home (Variable k)
  pub in_g : IsSlotOf g (Variable k)

module _ (p : Prog) (slots : Slots) (homes : ℕ → FunctionHomes) (accepted : IsAccepted p) (lowered : IsLowered p slots) (serve : AllHomesServe homes p slots) where
  pub is_given : (f function k : ℕ) (home : Home) (g : SlotFunction) → slice_get slots.funcs function ≡ Some g → (homes f).given function k ≡ Some home → IsGiven (homes function) g k home
  is_given f function k home g there at = by ((homes function).live 0 (Variable k)) refl (sym (serve.given f function k) ∙ at)
    where
      by : (t : Bool) → (homes function).live 0 (Variable k) ≡ t → cond t (Some ((homes function).home (Variable k))) None ≡ Some home → IsGiven (homes function) g k home
      by true told same =
          let source = source_at p slots lowered function g there in
          let serves = serve.each function source.function g source.there there in
          record {
            live = told;
            is = cc;
            in_g = live_slot p function source.function g accepted source.there source.is (location.Variable k) 0 ((serves.live 0 (location.Variable k)).0 told);
          }
      by false told same = absurd cc

  pub given_usable : (f function k : ℕ) (home : Home) → (homes f).given function k ≡ Some home → IsUsable home
  given_usable f function k home at = by (slice_get slots.funcs function) refl
    where
      by : (o : Option SlotFunction) → slice_get slots.funcs function ≡ o → IsUsable home
      by None none = absurd (let clash : None ≡ Some home = sym (serve.absent f function k none) ∙ at in cc)
      by (Some g) there =
          let given = is_given f function k home g there at in
          let source = source_at p slots lowered function g there in
          subst IsUsable (sym given.is) (slot_usable source.function.code source.function.args g (homes function) (serve.each function source.function g source.there there) (Variable k) given.in_g)

-- ---- a function of the program

module _ (S : Setting) (f : ℕ) (g : SlotFunction) (there : slice_get S.slots.funcs f ≡ Some g) where
  pub origin : SourceAt S.p f g
  origin = source_at S.p S.slots S.lowered f g there

  -- its homes serve
  pub serving : HomesServe (code_of S.p f) origin.function.args g (S.homes f)
  serving = subst (λ c. HomesServe c origin.function.args g (S.homes f)) (sym (ap items_of origin.there)) (S.serve.each f origin.function g origin.there there)

  pub sound_in : AreSitesSound (code_of S.p f)
  sound_in = subst AreSitesSound (sym (ap items_of origin.there)) (accepted_function S.p f origin.function S.accepted origin.there).sites

  pub homes_in : AreHomes g (S.homes f)
  homes_in = are_homes (code_of S.p f) origin.function.args g (S.homes f) serving origin.function origin.is (given_usable S.p S.slots S.homes S.accepted S.lowered S.serve f)

  pub usable_in : (slot : Slot) → IsSlotOf g slot → IsUsable ((S.homes f).home slot)
  usable_in slot in_g = slot_usable (code_of S.p f) origin.function.args g (S.homes f) serving slot in_g

  -- a home in the frame is the slot's own word
  pub framed_in : (slot : Slot) (o : ℕ) → IsSlotOf g slot → (S.homes f).home slot ≡ Frame o → o ≡ slot_word g slot
  framed_in slot o in_g e = slot_framed (code_of S.p f) origin.function.args g (S.homes f) serving slot o in_g e

-- ---- a program

pub have_homes : (p : Prog) (slots : Slots) (homes : ℕ → FunctionHomes) → IsAccepted p → IsLowered p slots → AllHomesServe homes p slots → HaveHomes homes slots
have_homes p slots homes accepted lowered serve k g there =
    let made = function_made p slots lowered k g there in
    are_homes made.0.code made.0.args g (homes k) (serve.each k made.0 g made.1 there) made.0 made.2 (given_usable p slots homes accepted lowered serve k)

module _ (f : Func) (g : SlotFunction) (is : IsLoweredFunction f g) where
  -- a location of the function is a slot of its code
  pub slot_in : (location : Location) → IsLocationOf f location → IsSlotOf g (slot_of location)
  slot_in (location.Variable x) less = subst (λ n. x < n) (sym is.variables) less
  slot_in (Shadow x) (less, named) =
      (subst (λ n. x < n) (sym is.variables) less, ap (λ code. is_used code x) is.code ∙ code_uses f x f.code ∙ named)

  home_within : (homes : FunctionHomes) → HomesServe f.code f.args g homes → (words : ℕ) (location : Location) → AreFrameWords f words → IsLocationOf f location → IsHomeWithin words (homes.home (slot_of location))
  home_within homes serves words location are its =
      let same : g.words ≡ words = AreFrameWords-one f g.words words is.words are in
      let in_g = slot_in location its in
      slot_within f.code f.args g homes serves words (slot_of location) in_g (subst (λ n. slot_word g (slot_of location) < n) same (slot_fits f g is (slot_of location) in_g))

pub homes_within : (p : Prog) (slots : Slots) (homes : ℕ → FunctionHomes) → IsLowered p slots → AllHomesServe homes p slots → AreHomesWithin (homes_of homes) p
homes_within p slots homes lowered serve k f words location there are its =
    let g = lowered_at p slots lowered k f there in
    home_within f g.function g.is (homes k) (serve.each k f g.function there g.there) words location are its
