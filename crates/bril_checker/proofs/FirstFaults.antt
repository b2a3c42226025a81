-- An accepted program has no fault, and no program has two.
use Rattle.std.proofs.Common.{◌≡◌, Some, refl, sym, ◌∙◌, subst, inl, inr}
use Rattle.std.specs.Prelude.{◌⊎◌, slice_get}
use Rattle.bril_tree.specs.Accepted.{IsAccepted, IsAcceptedFunction, IsMainPlain}
use Rattle.bril_tree.specs.declared.program.Prog.{Prog}
use Rattle.bril_checker.specs.Faults.{FirstFaultWithin, HasFault, HasFaultWithin}
use Rattle.bril_checker.specs.Laws.{AcceptedHaveNoFault, FaultsAreOne}
use Rattle.bril_checker.specs.declared.fault.CheckFault.{CheckFault}
use Rattle.bril_checker.specs.declared.fault.CheckFault.TheVariants.{Types, Arity, MaybeUnassigned, Nest, SpecCall, NoReturn, MainType, PrintPtr, Memory}
use Rattle.bril_checker.proofs.Once.{same_first, one_fault_within}
use Rattle.bril_checker.proofs.Stages.{holds_at, not_accepted}

module _ (p : Prog) where
  -- a fault is that of `main`, or one within the functions
  kind : (fault : CheckFault) → HasFault p fault → ((fault ≡ MainType) × ¬ IsMainPlain p) ⊎ FirstFaultWithin p fault
  kind (Types func item) h = inr h
  kind (Arity func item) h = inr h
  kind (MaybeUnassigned func item var) h = inr h
  kind (Nest func item) h = inr h
  kind (SpecCall func item) h = inr h
  kind (NoReturn func item) h = inr h
  kind MainType h = inl (refl, h)
  kind (PrintPtr func item) h = inr h
  kind Memory h = absurd h

  none_in : IsAccepted p → (fault : CheckFault) → ((fault ≡ MainType) × ¬ IsMainPlain p) ⊎ FirstFaultWithin p fault → ⊥
  none_in a fault (inl h) = h.1 a.main
  none_in a fault (inr h) =
      not_accepted p h.function h.number fault h.has (holds_at (IsAcceptedFunction p) p.funcs h.number h.function a.functions h.here)

  refused : (fault : CheckFault) (h : FirstFaultWithin p fault) → ¬ IsAcceptedFunction p h.function
  refused fault h = not_accepted p h.function h.number fault h.has

  same_fault : (fault other : CheckFault) → FirstFaultWithin p fault → FirstFaultWithin p other → fault ≡ other
  same_fault fault other h i =
      let number : h.number ≡ i.number =
      same_first (IsAcceptedFunction p) p.funcs h.number i.number (h.function, h.here, refused fault h) (i.function, i.here, refused other i) h.before i.before in
      let at : slice_get p.funcs i.number ≡ Some h.function = subst (λ k. slice_get p.funcs k ≡ Some h.function) number h.here in
      let function : h.function ≡ i.function = cc (at, i.here) in
      let has : HasFaultWithin p i.number h.function fault = subst (λ k. HasFaultWithin p k h.function fault) number h.has in
      one_fault_within p i.function i.number fault other (subst (λ f. HasFaultWithin p i.number f fault) function has) i.has

  one_of : (fault other : CheckFault) → ((fault ≡ MainType) × ¬ IsMainPlain p) ⊎ FirstFaultWithin p fault → ((other ≡ MainType) × ¬ IsMainPlain p) ⊎ FirstFaultWithin p other → fault ≡ other
  one_of fault other (inl h) (inl i) = h.0 ∙ sym i.0
  one_of fault other (inl h) (inr i) = absurd (h.1 i.main)
  one_of fault other (inr h) (inl i) = absurd (i.1 h.main)
  one_of fault other (inr h) (inr i) = same_fault fault other h i

pub accepted_have_no_fault : AcceptedHaveNoFault
accepted_have_no_fault p fault a h = none_in p a fault (kind p fault h)

pub faults_are_one : FaultsAreOne
faults_are_one p fault other h i = one_of p fault other (kind p fault h) (kind p other i)
