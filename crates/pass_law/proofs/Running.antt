-- One name, given to the first pass that answers to it: the first of the list, or one of the rest.
use Rattle.std.proofs.Common.{◌≡◌, ℕ, Bool, true, false, List, ◌∷◌, Some, sym, ap, subst, ◌∙◌}
use Rattle.std.specs.Prelude.{Result, Ok, Err, IfOk, IfErr}
use Rattle.bril_checker.specs.Checked.{CheckedView}
use Rattle.bril_profile.specs.declared.profile.Profile.{Profile}
use Rattle.bril_tree.specs.declared.program.Prog.{Prog}
use Rattle.bril_tree.specs.Size.{item_count}
use Rattle.pass_law.specs.Chains.{or_else, first_answering, IsLinked, AllSame}
use Rattle.pass_law.specs.Meaning.{Meaning, HasNumbers, Link, IsRefused, SameMeaning}
use Rattle.pass_law.specs.Stops.{IsRefusedBy}
use Rattle.pass_law.specs.declared.fault.PassFault.{PassFault}
use Rattle.pass_law.proofs.Same.{AllSame-refl}

-- the pass in a box, and that in the place where a call found it, answer to the same names
pub answers-at : {I : Type 0} {D : I → Type 0} (meaning : (i : I) → D i → Meaning) (i j : I) (x : D i) (y : D j) (name : List ℕ) (b : Bool) → ◌≡◌ {A = (k : I) × D k} (i, x) (j, y) → (meaning i x).answers name ≡ b → (meaning j y).answers name ≡ b
answers-at {I} {D} meaning i j x y name b same = subst (λ (p : (k : I) × D k). (meaning p.0 p.1).answers name ≡ b) same

module _ {B : Type 0} (meaning : B → Meaning) (passes : List B) (first : B) (rest : List B) (is : passes ≡ first ∷ rest) where
  first-answers : (name : List ℕ) → (meaning first).answers name ≡ true → first_answering meaning passes name ≡ Some first
  first-answers name a = ap (λ l. first_answering meaning l name) is ∙ ap (λ c. or_else c first (first_answering meaning rest name)) a

  rest-answers : (name : List ℕ) → (meaning first).answers name ≡ false → first_answering meaning passes name ≡ first_answering meaning rest name
  rest-answers name a = ap (λ l. first_answering meaning l name) is ∙ ap (λ c. or_else c first (first_answering meaning rest name)) a

  module _ (profile : Profile) (name : List ℕ) (P : Prog) where
    pub linked-first : (meaning first).answers name ≡ true → HasNumbers (meaning first) → (r : Result CheckedView PassFault) → IfOk r (λ made. Link (meaning first) profile P made.prog) → IfOk r (λ made. IsLinked meaning passes profile name P made.prog)
    linked-first a n (Ok made) h = record { pass = first; first = first-answers name a; numbers = n; link = h }
    linked-first a n (Err fault) h = tt

    pub refused-first : (meaning first).answers name ≡ true → HasNumbers (meaning first) → (r : Result CheckedView PassFault) → IfErr r (λ fault. IsRefused ((meaning first).IsBound P profile) (item_count P) fault) → IfErr r (IsRefusedBy meaning passes profile name P)
    refused-first a n (Ok made) h = tt
    refused-first a n (Err fault) h = record { pass = first; first = first-answers name a; numbers = n; refused = h }

    pub linked-rest : (meaning first).answers name ≡ false → (r : Result CheckedView PassFault) → IfOk r (λ made. IsLinked meaning rest profile name P made.prog) → IfOk r (λ made. IsLinked meaning passes profile name P made.prog)
    linked-rest a (Ok made) h = record { pass = h.pass; first = rest-answers name a ∙ h.first; numbers = h.numbers; link = h.link }
    linked-rest a (Err fault) h = tt

    pub refused-rest : (meaning first).answers name ≡ false → (r : Result CheckedView PassFault) → IfErr r (IsRefusedBy meaning rest profile name P) → IfErr r (IsRefusedBy meaning passes profile name P)
    refused-rest a (Ok made) h = tt
    refused-rest a (Err fault) h = record { pass = h.pass; first = rest-answers name a ∙ h.first; numbers = h.numbers; refused = h.refused }

  pub same-first : (after : B) → SameMeaning (meaning first) (meaning after) → AllSame meaning passes (after ∷ rest)
  same-first after s = subst (λ l. AllSame meaning l (after ∷ rest)) (sym is) (s, AllSame-refl meaning rest)
