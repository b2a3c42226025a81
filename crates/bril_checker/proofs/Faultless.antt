-- A program that has no fault is accepted.
use Rattle.std.proofs.Common.{◌≡◌, ℕ, zero, suc, ◌<◌, Bool, true, false, List, ◌∷◌, ◌++◌, length, drop, drop-cons, take, get_or, Option, Some, None, All, refl, sym, ap, ◌∙◌, subst, arith}
use Rattle.std.specs.Prelude.{IsTrue, slice_get}
use Rattle.std.proofs.lemmas.List.{get_or-take, length-take, take-append-drop}
use Rattle.std.proofs.lemmas.List.Elements.{All-contains}
use Rattle.std.proofs.lemmas.Option.{slice_get-get_or, slice_get_within, get_or_from_slice_get}
use Rattle.bril_tree.specs.Accepted.{IsAccepted, IsAcceptedFunction, IsMainPlain, IsPlainType}
use Rattle.bril_tree.specs.Assigned.{IsMaybeUnassigned}
use Rattle.bril_tree.specs.Operand.{reads_of}
use Rattle.bril_tree.specs.Sites.{SitesFail}
use Rattle.bril_tree.specs.Typing.{type_fault, TypeFault, WrongType, PrintsPointer}
use Rattle.bril_tree.specs.declared.numbered.Instr.{Instr}
use Rattle.bril_tree.specs.declared.numbered_function.Func.{Func}
use Rattle.bril_tree.specs.declared.program.Prog.{Prog}
use Rattle.bril_tree.specs.declared.types.Ty.{Ty}
use Rattle.definite_assignment.specs.Unassigned.{ReadsUnassigned, variable_of}
use Rattle.bril_checker.specs.Faults.{AreShaped, AreTyped, AreNested, AreClosed, Returns, HasShape, IsTyped, LeavesOpen, HasFault, HasFaultWithin, FirstFaultWithin}
use Rattle.bril_checker.specs.Laws.{FaultlessAreAccepted}
use Rattle.bril_checker.specs.declared.fault.CheckFault.{CheckFault}
use Rattle.bril_checker.specs.declared.fault.CheckFault.TheVariants.{Types, Arity, MaybeUnassigned, Nest, SpecCall, NoReturn, MainType, PrintPtr, Memory}
use Rattle.bril_checker.proofs.Stages.{passing_accepted}

-- what has no least number has none
module _ (P : ℕ → Type 0) (none : (n : ℕ) → P n → ¬ ((m : ℕ) → m < n → ¬ P m)) where
  none_below : (bound n : ℕ) → n < bound → ¬ P n
  none_below zero n low h = absurd (omega (arith, low))
  none_below (suc bound) n low h = none n h (λ m less. none_below bound m (omega (arith, low, less)))

  no_least : (n : ℕ) → ¬ P n
  no_least n = none_below (suc n) n (omega arith)

-- what holds of each item of a list behind a front of which it holds, holds of all
module _ {X : Type 0} (P : X → Type 0) (xs : List X) (next : (k : ℕ) (x : X) → slice_get xs k ≡ Some x → All P (take k xs) → P x) where
  front : (bound k : ℕ) → k < bound → (d : X) → k < length xs → P (get_or xs k d)
  front zero k low d inside = absurd (omega (arith, low))
  front (suc bound) k low d inside =
      next k (get_or xs k d) (slice_get-get_or xs k d inside)
      (λ j e less.
      let lower : j < k = omega (arith, less, length-take k xs) in
      subst P (sym (get_or-take k xs j e lower)) (front bound j (omega (arith, low, lower)) e (omega (arith, lower, inside))))

  each : All P xs
  each k d inside = front (suc k) k (omega arith) d inside

-- a list around the item at a place
around : {X : Type 0} (xs : List X) (k : ℕ) (x : X) → slice_get xs k ≡ Some x → xs ≡ take k xs ++ x ∷ drop (suc k) xs
around xs k x here =
    let inside = slice_get_within xs k x here in
    sym (take-append-drop k xs) ∙ ap (λ l. take k xs ++ l) (drop-cons xs k x inside ∙ ap (λ y. y ∷ drop (suc k) xs) (get_or_from_slice_get xs k x x here))

-- ---- a function

module _ (p : Prog) (number : ℕ) (f : Func) (none : (why : CheckFault) → ¬ HasFaultWithin p number f why) where
  both : (a b : Bool) → ¬ ¬ (IsTrue a × IsTrue b) → IsTrue a × IsTrue b
  both true true h = (refl, refl)
  both true false h = absurd (h (λ w. let e = w.1 in cc))
  both false b h = absurd (h (λ w. let e = w.0 in cc))

  shaped : AreShaped p f
  shaped = each (HasShape p f) f.code (λ k item here before.
      both _ _ (λ lacks. none (Arity number k) (refl, record { item = item; here = here; before = before; lacks = lacks })))

  typed_at : (k : ℕ) (item : Instr) → slice_get f.code k ≡ Some item → All (IsTyped p f) (take k f.code) → (fault : Option TypeFault) → type_fault p f item ≡ fault → type_fault p f item ≡ None
  typed_at k item here before None has = has
  typed_at k item here before (Some WrongType) has = absurd (none (Types number k) (refl, shaped, record { item = item; here = here; before = before; has = has }))
  typed_at k item here before (Some PrintsPointer) has = absurd (none (PrintPtr number k) (refl, shaped, record { item = item; here = here; before = before; has = has }))

  typed : AreTyped p f
  typed = (shaped, each (IsTyped p f) f.code (λ k item here before. typed_at k item here before (type_fault p f item) refl))

  nested : AreNested p f
  nested = (typed, no_least (SitesFail f.code) (λ n fails least. none (Nest number n) (refl, typed, record { fails = fails; least = least })))

  closed : AreClosed p f
  closed = (nested, no_least (LeavesOpen f) (λ n leaves least. none (SpecCall number n) (refl, nested, record { leaves = leaves; least = least })))

  returns : Returns f
  returns some reached = none (NoReturn number (length f.code)) (refl, closed, refl, some, reached)

  assigned : (point : ℕ) → ¬ ReadsUnassigned f point
  assigned = no_least (ReadsUnassigned f) (λ n r least.
      All-contains (λ place. ¬ IsMaybeUnassigned f.code f.args place n) (reads_of r.item) r.location
      (each (λ place. ¬ IsMaybeUnassigned f.code f.args place n) (reads_of r.item) (λ k place here before maybe.
      none (MaybeUnassigned number n (variable_of place)) (
        refl,
        closed,
        returns,
        record {
          item = r.item;
          here = r.here;
          earlier = take k (reads_of r.item);
          location = place;
          later = drop (suc k) (reads_of r.item);
          reads = around (reads_of r.item) k place here;
          is = refl;
          maybe = maybe;
          others = before;
          least = least;
        },
      ))) r.reads r.maybe)

  faultless_function : IsAcceptedFunction p f
  faultless_function = passing_accepted p f (closed, returns, assigned)

-- ---- the program

module _ (p : Prog) (none : (why : CheckFault) → ¬ HasFault p why) where
  is_none : {X : Type 0} (o : Option X) → ¬ ¬ (o ≡ None) → o ≡ None
  is_none None h = refl
  is_none (Some x) h = absurd (h (λ e. cc))

  no_depth : (n : ℕ) → ¬ ¬ (n ≡ 0) → n ≡ 0
  no_depth zero h = refl
  no_depth (suc n) h = absurd (h (λ e. omega (arith, e)))

  plain_type : (ty : Option Ty) → ¬ ¬ IsPlainType ty → IsPlainType ty
  plain_type None h = h (λ plain. plain)
  plain_type (Some ty) h = no_depth ty.depth h

  main : IsMainPlain p
  main = record {
    returns_nothing = is_none _ (λ not. none MainType (λ plain. not plain.returns_nothing));
    takes_plain = λ k d inside. plain_type _ (λ not. none MainType (λ plain. not (plain.takes_plain k d inside)));
  }

  module _ (number : ℕ) (f : Func) (here : slice_get p.funcs number ≡ Some f) (before : All (IsAcceptedFunction p) (take number p.funcs)) where
    first : (why : CheckFault) → HasFaultWithin p number f why → FirstFaultWithin p why
    first why has = record { main = main; number = number; function = f; here = here; before = before; has = has }

    none_within : (why : CheckFault) → ¬ HasFaultWithin p number f why
    none_within (Types func item) has = none (Types func item) (first (Types func item) has)
    none_within (Arity func item) has = none (Arity func item) (first (Arity func item) has)
    none_within (MaybeUnassigned func item var) has = none (MaybeUnassigned func item var) (first (MaybeUnassigned func item var) has)
    none_within (Nest func item) has = none (Nest func item) (first (Nest func item) has)
    none_within (SpecCall func item) has = none (SpecCall func item) (first (SpecCall func item) has)
    none_within (NoReturn func item) has = none (NoReturn func item) (first (NoReturn func item) has)
    none_within MainType has = has
    none_within (PrintPtr func item) has = none (PrintPtr func item) (first (PrintPtr func item) has)
    none_within Memory has = has

  faultless_program : IsAccepted p
  faultless_program = record {
    main = main;
    functions = each (IsAcceptedFunction p) p.funcs (λ number f here before. faultless_function p number f (none_within number f here before));
  }

pub faultless_are_accepted : FaultlessAreAccepted
faultless_are_accepted p none = faultless_program p none
