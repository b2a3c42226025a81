-- The functions of a program, one by one.
use Rattle.std.proofs.Common.{◌≡◌, ℕ, ◌+◌, ◌<◌, List, [], ◌∷◌, ◌++◌, length, take, slice_get, get_or, Some, sym, ap, ◌∙◌, arith}
use Rattle.std.specs.List.{AllZip}
use Rattle.std.proofs.lemmas.List.{take_more}
use Rattle.std.proofs.lemmas.Option.{slice_get-get_or}
use Rattle.bril_tree.specs.declared.numbered_function.Func.{Func}
use Rattle.slot_code.specs.declared.slots.SlotFunction.{SlotFunction}
use Rattle.slot_code.specs.Lowered.{IsLoweredFunction}

-- the function of a number
pub function_at : (fs gs : List Func) → gs ≡ fs → (i : ℕ) (f : Func) → i < length gs → f ≡ get_or gs i f → slice_get fs i ≡ Some f
function_at fs gs same i f inside here = ap (λ l. slice_get l i) (sym same) ∙ slice_get-get_or gs i f inside ∙ ap Some (sym here)

push_function : (fs : List Func) (gs : List SlotFunction) (f : Func) (g : SlotFunction) → AllZip IsLoweredFunction fs gs → IsLoweredFunction f g → AllZip IsLoweredFunction (fs ++ f ∷ []) (gs ++ g ∷ [])
push_function [] [] f g all is = (is, tt)
push_function [] (h ∷ gs) f g all is = absurd all
push_function (e ∷ fs) [] f g all is = absurd all
push_function (e ∷ fs) (h ∷ gs) f g all is = (all.0, push_function fs gs f g all.1 is)

-- one function more
pub next_function : (fs ls : List Func) → ls ≡ fs → (i : ℕ) (f : Func) (gs hs : List SlotFunction) (g : SlotFunction) → i < length ls → f ≡ get_or ls i f → hs ≡ gs ++ g ∷ [] →
    AllZip IsLoweredFunction (take i fs) gs → IsLoweredFunction f g → AllZip IsLoweredFunction (take (i + 1) fs) hs
next_function fs ls same i f gs hs g inside here pushed all is =
    let lt : i < length fs = omega (arith, ap length same) in
    let found : f ≡ get_or fs i f = here ∙ ap (λ l. get_or l i f) same in
    let front : take (i + 1) fs ≡ take i fs ++ f ∷ [] = take_more fs i f lt ∙ ap (λ h. take i fs ++ h ∷ []) (sym found) in
    rw (front, pushed) (push_function (take i fs) gs f g all is)
