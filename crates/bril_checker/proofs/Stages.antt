-- The faults of a function in their order: what stands before each, and what each rules out.
use Rattle.std.proofs.Common.{◌≡◌, ℕ, zero, suc, ◌<◌, ◌≤◌, true, List, [], ◌∷◌, ◌++◌, Some, All, refl, sym, subst, inl, inr, arith}
use Rattle.std.specs.Prelude.{◌⊎◌, slice_get}
use Rattle.std.specs.List.{Contains}
use Rattle.std.proofs.lemmas.Bool.{cases_lt}
use Rattle.std.proofs.lemmas.List.Elements.{Contains-append_right}
use Rattle.std.proofs.lemmas.Option.{slice_get_within, get_or_from_slice_get}
use Rattle.bril_tree.specs.Accepted.{IsAcceptedFunction, leaves_frame}
use Rattle.bril_tree.specs.declared.numbered_function.Func.{Func}
use Rattle.bril_tree.specs.declared.program.Prog.{Prog}
use Rattle.bril_tree.specs.Sites.{sites_of}
use Rattle.bril_tree.specs.Walk.{IsReached, end_of}
use Rattle.definite_assignment.specs.Unassigned.{IsFirstUnassigned, ReadsUnassigned}
use Rattle.bril_checker.specs.Faults.{AreShaped, AreTyped, AreNested, AreClosed, Returns, HasShape, IsTyped, HasFaultWithin, LeavesOpen}
use Rattle.bril_checker.specs.declared.fault.CheckFault.{CheckFault}
use Rattle.bril_checker.specs.declared.fault.CheckFault.TheVariants.{Types, Arity, MaybeUnassigned, Nest, SpecCall, NoReturn, MainType, PrintPtr, Memory}

-- what holds of all items holds of the one at a place
pub holds_at : {X : Type 0} (P : X → Type 0) (xs : List X) (i : ℕ) (x : X) → All P xs → slice_get xs i ≡ Some x → P x
holds_at P xs i x all here = subst P (get_or_from_slice_get xs i x x here) (all i x (slice_get_within xs i x here))

-- the place of a fault among the kinds of faults
abbrev pub stage_of : CheckFault → ℕ
stage_of (Arity func item) = 0
stage_of (Types func item) = 1
stage_of (PrintPtr func item) = 1
stage_of (Nest func item) = 2
stage_of (SpecCall func item) = 3
stage_of (NoReturn func item) = 4
stage_of (MaybeUnassigned func item var) = 5
stage_of MainType = 6
stage_of Memory = 7

middle : {X : Type 0} (xs ys : List X) (x : X) → Contains (xs ++ x ∷ ys) x
middle xs ys x = Contains-append_right xs (x ∷ ys) x (0, omega arith, refl)

-- a list of which it is false that it has an item
empty : (xs : List ℕ) → ¬ (¬ (xs ≡ [])) → xs ≡ []
empty [] h = refl
empty (x ∷ xs) h = absurd (h (λ e. cc))

-- the item of a first unassigned place reads one
pub reads_unassigned : (f : Func) (point variable : ℕ) → IsFirstUnassigned f point variable → ReadsUnassigned f point
reads_unassigned f point variable first = record {
  item = first.item;
  here = first.here;
  location = first.location;
  reads = subst (λ reads. Contains reads first.location) (sym first.reads) (middle first.earlier first.later first.location);
  maybe = first.maybe;
}

module _ (p : Prog) (f : Func) where
  -- the function has no fault of the first so many kinds
  abbrev pub Passed : ℕ → Type 0
  Passed zero = Unit {0}
  Passed (suc zero) = AreShaped p f
  Passed (suc (suc zero)) = AreTyped p f
  Passed (suc (suc (suc zero))) = AreNested p f
  Passed (suc (suc (suc (suc zero)))) = AreClosed p f
  Passed (suc (suc (suc (suc (suc zero))))) = AreClosed p f × Returns f
  Passed (suc (suc (suc (suc (suc (suc n)))))) = AreClosed p f × Returns f × ((point : ℕ) → ¬ ReadsUnassigned f point)

  fewer : (n : ℕ) → Passed (suc n) → Passed n
  fewer zero h = tt
  fewer (suc zero) h = h.0
  fewer (suc (suc zero)) h = h.0
  fewer (suc (suc (suc zero))) h = h.0
  fewer (suc (suc (suc (suc zero)))) h = h.0
  fewer (suc (suc (suc (suc (suc zero))))) h = (h.0, h.1)
  fewer (suc (suc (suc (suc (suc (suc n)))))) h = h

  pub down_to : (m n : ℕ) → m ≤ n → Passed n → Passed m
  down_to m zero le h = let e : zero ≡ m = omega arith in subst Passed e h
  down_to m (suc n) le h = one_down m n le (λ less. down_to m n less (fewer n h)) h (cases_lt m (suc n))
    where
      one_down : (m n : ℕ) → m ≤ suc n → (m ≤ n → Passed m) → Passed (suc n) → (m < suc n) ⊎ (suc n ≤ m) → Passed m
      one_down m n le below h (inl lt) = below (omega arith)
      one_down m n le below h (inr ge) = let e : suc n ≡ m = omega arith in subst Passed e h

  pub accepted_passes : IsAcceptedFunction p f → Passed 6
  accepted_passes a =
      let shaped : AreShaped p f = λ k d h. (a.shaped k d h, a.calls k d h) in
      let closed : (point : ℕ) → ¬ LeavesOpen f point =
      λ point o. o.opened (a.alone o.walk o.is (subst (λ q. leaves_frame (slice_get f.code q) ≡ true) (sym o.ends) o.leaves)) in
      ((((shaped, a.typed), a.sites), closed), a.returns, λ point r. a.assigned point r.item r.location r.here r.reads r.maybe)

  pub passing_accepted : Passed 6 → IsAcceptedFunction p f
  passing_accepted h = record {
    shaped = λ k d l. (h.0.0.0.0 k d l).0;
    calls = λ k d l. (h.0.0.0.0 k d l).1;
    typed = h.0.0.0.1;
    sites = h.0.0.1;
    alone = λ walk is leaves.
        empty (sites_of f.code walk) (λ some. h.0.1 (end_of walk) (record { walk = walk; is = is; ends = refl; leaves = leaves; opened = some }));
    returns = h.1;
    assigned = λ point item place here reads maybe. h.2 point (record { item = item; here = here; location = place; reads = reads; maybe = maybe });
  }

  module _ (number : ℕ) where
    pub had : (why : CheckFault) → HasFaultWithin p number f why → Passed (stage_of why)
    had (Arity func item) h = tt
    had (Types func item) h = h.1
    had (PrintPtr func item) h = h.1
    had (Nest func item) h = h.1
    had (SpecCall func item) h = h.1
    had (NoReturn func item) h = h.1
    had (MaybeUnassigned func item var) h = (h.1, h.2)
    had MainType h = absurd h
    had Memory h = absurd h

    pub early : (why : CheckFault) → HasFaultWithin p number f why → stage_of why < 6
    early (Arity func item) h = omega arith
    early (Types func item) h = omega arith
    early (PrintPtr func item) h = omega arith
    early (Nest func item) h = omega arith
    early (SpecCall func item) h = omega arith
    early (NoReturn func item) h = omega arith
    early (MaybeUnassigned func item var) h = omega arith
    early MainType h = absurd h
    early Memory h = absurd h

    pub stops : (why : CheckFault) → HasFaultWithin p number f why → ¬ Passed (suc (stage_of why))
    stops (Arity func item) h shaped = h.1.lacks (holds_at (HasShape p f) f.code item h.1.item shaped h.1.here)
    stops (Types func item) h typed = let t = holds_at (IsTyped p f) f.code item h.2.item typed.1 h.2.here in let e = h.2.has in cc
    stops (PrintPtr func item) h typed = let t = holds_at (IsTyped p f) f.code item h.2.item typed.1 h.2.here in let e = h.2.has in cc
    stops (Nest func item) h nested = nested.1 item h.2.fails
    stops (SpecCall func item) h closed = closed.1 item h.2.leaves
    stops (NoReturn func item) h returns = returns.1 h.3 (subst (IsReached f.code) h.2 h.4)
    stops (MaybeUnassigned func item var) h assigned = assigned.2 item (reads_unassigned f item var h.3)
    stops MainType h passed = absurd h
    stops Memory h passed = absurd h

    -- the kinds of two faults are at one place
    pub same_stage : (why other : CheckFault) → HasFaultWithin p number f why → HasFaultWithin p number f other → stage_of why ≡ stage_of other
    same_stage why other h i = equal (cases_lt (stage_of why) (stage_of other)) (cases_lt (stage_of other) (stage_of why))
      where
        equal : (stage_of why < stage_of other) ⊎ (stage_of other ≤ stage_of why) → (stage_of other < stage_of why) ⊎ (stage_of why ≤ stage_of other) → stage_of why ≡ stage_of other
        equal (inl lt) _ = absurd (stops why h (down_to (suc (stage_of why)) (stage_of other) (omega arith) (had other i)))
        equal (inr le) (inl lt) = absurd (stops other i (down_to (suc (stage_of other)) (stage_of why) (omega arith) (had why h)))
        equal (inr le) (inr ge) = omega arith

    pub not_accepted : (why : CheckFault) → HasFaultWithin p number f why → ¬ IsAcceptedFunction p f
    not_accepted why h a = stops why h (down_to (suc (stage_of why)) 6 (omega (arith, early why h)) (accepted_passes a))
