-- The functions of a program, one by one.
use Rattle.std.proofs.Common.{◌≡◌, ⊎_elim, ℕ, ◌+◌, ◌<◌, List, [], ◌∷◌, ◌++◌, length, get_or, Some, sym, ap, ◌∙◌, subst, arith}
use Rattle.std.specs.Prelude.{slice_get}
use Rattle.std.specs.List.{AllZip}
use Rattle.std.proofs.lemmas.List.{length-append}
use Rattle.std.proofs.lemmas.Option.{same_Some, slice_get-get_or, slice_get_within}
use Rattle.bril_tree.specs.declared.numbered_function.Func.{Func}
use Rattle.bril_tree.specs.declared.program.Prog.{Prog}
use Rattle.bril_tree.specs.Accepted.{IsAccepted}
use Rattle.bril_tree.proofs.Elements.{get_inside, zip-get, zip-long, pushed_get}
use Rattle.live_sets.specs.declared.live.Live.{Live}
use Rattle.live_sets.specs.Liveness.{TellsLive}
use Rattle.slot_code.specs.declared.slots.SlotFunction.{SlotFunction}
use Rattle.slot_code.specs.declared.slots.Slots.{Slots}
use Rattle.slot_code.specs.Lowered.{IsLowered, IsLoweredFunction}
use Rattle.slot_code.proofs.Functions.{function_at}
use Rattle.placement_laws.specs.Homes.{IsHomeOf, IsInRegister, IsSlotIn}
use Rattle.placement_laws.specs.Placed.{IsPlaced, LiveApart}
use Rattle.placement_laws.specs.Saved.{TellsSaved}
use Rattle.shadow_place.specs.declared.placed.FunctionHomes.{FunctionHomes}
use Rattle.shadow_place.specs.declared.placed.Placed.{Placed}
use Rattle.shadow_place.specs.Placement.{FewAreInRegisters, HomesAreApart, HomesAreOwn, IsAcceptedLowered, IsPlacement, LiveAreApart, TellsAllSaved, TellsLiveIn}
use Rattle.shadow_place.specs.Tables.{home_in_row, is_saved_in_row}

-- the placements of so many functions
pub record ArePlacements (funcs : List Func) (lowered : List SlotFunction) (many : ℕ) (list : List FunctionHomes) : Type 0 where
  pub long : length list ≡ many
  pub at : (k : ℕ) (f : Func) (g : SlotFunction) (homes : FunctionHomes) → slice_get funcs k ≡ Some f → slice_get lowered k ≡ Some g → slice_get list k ≡ Some homes → IsPlacement f g homes

pub more_placements : (funcs : List Func) (lowered : List SlotFunction) (many : ℕ) (list more : List FunctionHomes) (f : Func) (g : SlotFunction) (homes : FunctionHomes) → slice_get funcs many ≡ Some f → slice_get lowered many ≡ Some g → more ≡ list ++ homes ∷ [] →
    ArePlacements funcs lowered many list → IsPlacement f g homes → ArePlacements funcs lowered (many + 1) more
more_placements funcs lowered many list more f g homes here there pushed are is = record {
  long = omega (arith, ap length pushed, length-append list (homes ∷ []), are.long);
  at = λ k e h other a b c. ⊎_elim (λ old. are.at k e h other a b old) (λ new. newest k e h other a b new.0 new.1) (pushed_get list homes k other (ap (λ l. slice_get l k) (sym pushed) ∙ c));
}
  where
    newest : (k : ℕ) (e : Func) (h : SlotFunction) (other : FunctionHomes) → slice_get funcs k ≡ Some e → slice_get lowered k ≡ Some h → k ≡ length list → homes ≡ other → IsPlacement e h other
    newest k e h other a b last same =
        let at : k ≡ many = last ∙ are.long in
        let f_is : f ≡ e = same_Some f e (sym here ∙ (ap (slice_get funcs) (sym at) ∙ a)) in
        let g_is : g ≡ h = same_Some g h (sym there ∙ (ap (slice_get lowered) (sym at) ∙ b)) in
        subst (λ x. IsPlacement x h other) f_is (subst (λ x. IsPlacement f x other) g_is (subst (IsPlacement f g) same is))

-- ---- all functions

module _ (p : Prog) (slots : Slots) (placed : Placed) (same : length p.funcs ≡ length slots.funcs) (are : ArePlacements p.funcs slots.funcs (length p.funcs) placed.funcs.items) where
  record Found (k : ℕ) (f : Func) : Type 0 where
    homes : FunctionHomes
    at : slice_get placed.funcs.items k ≡ Some homes
    lowered : SlotFunction
    there : slice_get slots.funcs k ≡ Some lowered
    is : IsPlacement f lowered homes

  found : (k : ℕ) (f : Func) → slice_get p.funcs k ≡ Some f → Found k f
  found k f here =
      let inside = slice_get_within p.funcs k f here in
      let h = get_inside placed.funcs.items k (let long = are.long in omega arith) in
      let g = get_inside slots.funcs k (omega arith) in
      record { homes = h.0; at = h.1; lowered = g.0; there = g.1; is = are.at k f g.0 h.0 here g.1 h.1 }

  pub homes_are_apart : HomesAreApart p placed
  homes_are_apart k f here = let w = found k f here in subst (λ o. IsPlaced f.code f.args (home_in_row o) (is_saved_in_row o)) (sym w.at) w.is.apart

  pub live_are_apart : LiveAreApart p placed
  live_are_apart k f here = let w = found k f here in subst (λ o. LiveApart f.code (home_in_row o)) (sym w.at) w.is.live

  pub tells_all_saved : TellsAllSaved p placed
  tells_all_saved k f here = let w = found k f here in subst (λ o. TellsSaved f.code (is_saved_in_row o)) (sym w.at) w.is.saved

  pub homes_are_own : HomesAreOwn slots placed
  homes_are_own k g x there in_g =
      let inside = slice_get_within slots.funcs k g there in
      let f = get_inside p.funcs k (omega arith) in
      let w = found k f.0 f.1 in
      let one : w.lowered ≡ g = same_Some w.lowered g (sym w.there ∙ there) in
      subst (λ o. IsHomeOf g x (home_in_row o x)) (sym w.at) (subst (λ h. IsSlotIn h x → IsHomeOf h x (home_in_row (Some w.homes) x)) one (w.is.own x) in_g)

  pub few_in_registers : FewAreInRegisters p slots placed
  few_in_registers k f g x here there few in_g =
      let w = found k f here in
      let one : w.lowered ≡ g = same_Some w.lowered g (sym w.there ∙ there) in
      subst (λ o. IsInRegister (home_in_row o x)) (sym w.at) (w.is.registers few x (subst (λ h. IsSlotIn h x) (sym one) in_g))

-- ---- the function of a number

module _ (p : Prog) (slots : Slots) (lives : List Live) (accepted : IsAccepted p) (lowered : IsLowered p slots) (live : AllZip TellsLiveIn p.funcs lives) (P : Prog) (value : P ≡ p) (funcs : List Func) (all : funcs ≡ P.funcs) (k : ℕ) (less : k < length funcs) where
  pub function_same : funcs ≡ p.funcs
  function_same = all ∙ ap (λ (q : Prog). q.funcs) value

  pub inside_slots : (list : List SlotFunction) → list ≡ slots.funcs → k < length list
  inside_slots list same = let long = zip-long IsLoweredFunction p.funcs slots.funcs lowered.funcs in let e = ap length function_same in let s = ap length same in omega arith

  pub inside_lives : (list : List Live) → list ≡ lives → k < length list
  inside_lives list same = let long = zip-long TellsLiveIn p.funcs lives live in let e = ap length function_same in let s = ap length same in omega arith

  module _ (f : Func) (is : f ≡ get_or funcs k f) where
    pub function_there : slice_get p.funcs k ≡ Some f
    function_there = function_at p.funcs funcs function_same k f less is

    module _ (list : List SlotFunction) (same : list ≡ slots.funcs) (g : SlotFunction) (g_is : g ≡ get_or list k g) where
      pub lowered_there : slice_get slots.funcs k ≡ Some g
      lowered_there = ap (λ l. slice_get l k) (sym same) ∙ (slice_get-get_or list k g (inside_slots list same) ∙ ap Some (sym g_is))

      pub accepted_lowered : IsAcceptedLowered f g
      accepted_lowered = record { prog = p; number = k; accepted = accepted; there = function_there; lowered = zip-get IsLoweredFunction p.funcs slots.funcs k f g lowered.funcs function_there lowered_there }

    pub live_there : (list : List Live) → list ≡ lives → (l : Live) → l ≡ get_or list k l → TellsLive f.code l
    live_there list same l l_is =
        zip-get TellsLiveIn p.funcs lives k f l live function_there (ap (λ ls. slice_get ls k) (sym same) ∙ (slice_get-get_or list k l (inside_lives list same) ∙ ap Some (sym l_is)))
