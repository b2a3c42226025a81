-- The first item without a shape, from the first without that of its operation and the first call that doesn't fit.
use Rattle.std.proofs.Common.{◌≡◌, ℕ, not, List, take, Option, Some, None, All, MatchOption, sym, ap, ◌∙◌, subst, arith}
use Rattle.std.specs.Prelude.{IsTrue, is_some}
use Rattle.std.specs.List.{position}
use Rattle.std.proofs.lemmas.Bool.{false≢true}
use Rattle.std.proofs.lemmas.List.{take-take}
use Rattle.std.proofs.lemmas.List.Elements.{All-take}
use Rattle.bril_tree.specs.declared.numbered.Instr.{Instr}
use Rattle.bril_tree.specs.declared.numbered_function.Func.{Func}
use Rattle.bril_tree.specs.declared.program.Prog.{Prog}
use Rattle.bril_tree.specs.Shape.{is_shaped, shape_fault_of}
use Rattle.bril_tree.specs.Typing.{is_call_shaped}
use Rattle.bril_checker.specs.Faults.{AreShaped, IsFirstMisshapen}
use Rattle.bril_checker.proofs.Positions.{all_pass, first_fails, item_of_front, All-front}

module _ (p : Prog) (f : Func) where
  abbrev misfit_of : List Instr → Option ℕ
  misfit_of items = position (λ item. not (is_call_shaped p f item)) items

  all_shaped : None ≡ shape_fault_of (is_some f.ret) f.code → None ≡ misfit_of f.code → AreShaped p f
  all_shaped shaped fit = λ k d h. (all_pass (is_shaped (is_some f.ret)) f.code shaped k d h, all_pass (is_call_shaped p f) f.code fit k d h)

  first_misfit : (i : ℕ) → None ≡ shape_fault_of (is_some f.ret) f.code → Some i ≡ misfit_of f.code → IsFirstMisshapen p f i
  first_misfit i shaped misfit =
      let first = first_fails (is_call_shaped p f) f.code i misfit in
      let all = All-take (λ item. IsTrue (is_shaped (is_some f.ret) item)) i f.code (all_pass (is_shaped (is_some f.ret)) f.code shaped) in
      record {
        item = first.item;
        here = first.here;
        before = λ k d h. (all k d h, first.before k d h);
        lacks = λ has. false≢true (sym first.fails ∙ has.1);
      }

  first_shapeless : (i : ℕ) → Some i ≡ shape_fault_of (is_some f.ret) f.code → None ≡ misfit_of (take i f.code) → IsFirstMisshapen p f i
  first_shapeless i shapeless fit =
      let first = first_fails (is_shaped (is_some f.ret)) f.code i shapeless in
      let all = all_pass (is_call_shaped p f) (take i f.code) fit in
      record {
        item = first.item;
        here = first.here;
        before = λ k d h. (first.before k d h, all k d h);
        lacks = λ has. false≢true (sym first.fails ∙ has.0);
      }

  first_misfit_before : (i n : ℕ) → Some n ≡ shape_fault_of (is_some f.ret) f.code → Some i ≡ misfit_of (take n f.code) → IsFirstMisshapen p f i
  first_misfit_before i n shapeless misfit =
      let first = first_fails (is_call_shaped p f) (take n f.code) i misfit in
      let place = item_of_front f.code n i first.item first.here in
      let shaped = All-front (λ item. IsTrue (is_shaped (is_some f.ret) item)) f.code i n (omega (arith, place.0)) (first_fails (is_shaped (is_some f.ret)) f.code n shapeless).before in
      let fit = subst (All (λ item. IsTrue (is_call_shaped p f item))) (take-take i n f.code (omega (arith, place.0))) first.before in
      record {
        item = first.item;
        here = place.1;
        before = λ k d h. (shaped k d h, fit k d h);
        lacks = λ has. false≢true (sym first.fails ∙ has.1);
      }

  -- the same, of a list that is the function's items
  module _ (items : List Instr) (same : items ≡ f.code) where
    pub all_or_misfit : None ≡ shape_fault_of (is_some f.ret) f.code → (r : Option ℕ) → r ≡ misfit_of items → MatchOption r (AreShaped p f) (IsFirstMisshapen p f)
    all_or_misfit shaped None e = all_shaped shaped (e ∙ ap misfit_of same)
    all_or_misfit shaped (Some i) e = first_misfit i shaped (e ∙ ap misfit_of same)

    pub shapeless : (i : ℕ) → Some i ≡ shape_fault_of (is_some f.ret) f.code → None ≡ misfit_of (take i items) → IsFirstMisshapen p f i
    shapeless i s e = first_shapeless i s (e ∙ ap (λ xs. misfit_of (take i xs)) same)

    pub misfit_before : (i n : ℕ) → Some n ≡ shape_fault_of (is_some f.ret) f.code → Some i ≡ misfit_of (take n items) → IsFirstMisshapen p f i
    misfit_before i n s e = first_misfit_before i n s (e ∙ ap (λ xs. misfit_of (take n xs)) same)
