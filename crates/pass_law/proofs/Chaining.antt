-- A chain refines with the product of its factors.
use Rattle.std.proofs.Common.{◌≡◌, ℕ, ◌*◌, List, [], ◌∷◌, refl, sym, ap, subst, ◌∙◌}
use Rattle.bril_profile.specs.declared.profile.Profile.{Profile}
use Rattle.bril_tree.specs.Accepted.{IsAccepted}
use Rattle.bril_tree.specs.declared.program.Prog.{Prog}
use Rattle.bril_tree.specs.Run.{Refines}
use Rattle.bril_tree.proofs.Refinement.{Refines-refl, Refines-trans}
use Rattle.pass_law.specs.Chains.{first_answering, Chain, IsFactorOf, ChainsRefine, IsLinked, IsRefiningChain}
use Rattle.pass_law.specs.Meaning.{Meaning}

module _ {B : Type 0} (meaning : B → Meaning) (passes : List B) (profile : Profile) where
  -- the factor of a link is that of the first pass that answers
  link_factor : (name : List ℕ) (P R : Prog) (l : IsLinked meaning passes profile name P R) (k : ℕ) → (meaning l.pass).IsFactor P profile k → IsFactorOf meaning passes profile (first_answering meaning passes name) P k
  link_factor name P R l k h = subst (λ o. IsFactorOf meaning passes profile o P k) (sym l.first) h

  only_factor : (name : List ℕ) (P R : Prog) (l : IsLinked meaning passes profile name P R) (k : ℕ) → IsFactorOf meaning passes profile (first_answering meaning passes name) P k → l.link.factor ≡ k
  only_factor name P R l k h = l.numbers.factor.one P profile l.link.factor k l.link.is_factor (subst (λ o. IsFactorOf meaning passes profile o P k) l.first h)

  refining : (names : List (List ℕ)) (P : Prog) (Rs : List Prog) (Q : Prog) → IsAccepted P → Chain meaning passes profile names P Rs Q → IsRefiningChain meaning passes profile names P Rs Q
  refining [] P [] Q accepted c = record {
    some = (1, refl);
    one = λ j k a b. a ∙ sym b;
    refines = λ k is. subst (Refines P Q) (sym is) (subst (λ z. Refines P z 1) c (Refines-refl P));
    accepted = subst IsAccepted c accepted;
  }
  refining [] P (R ∷ Rs) Q accepted c = absurd c
  refining (name ∷ names) P [] Q accepted c = absurd c
  refining (name ∷ names) P (R ∷ Rs) Q accepted c =
      let l = c.0 in
      let rest = refining names R Rs Q l.link.accepted c.1 in
      record {
        some = (
          l.link.factor * rest.some.0,
          record {
            first = l.link.factor;
            rest = rest.some.0;
            is_first = link_factor name P R l l.link.factor l.link.is_factor;
            is_rest = rest.some.1;
            is = refl;
          },
        );
        one = λ j k a b. a.is ∙ ap (λ n. n * a.rest) (sym (only_factor name P R l a.first a.is_first) ∙ only_factor name P R l b.first b.is_first) ∙ ap (λ n. b.first * n) (rest.one a.rest b.rest a.is_rest b.is_rest) ∙ sym b.is;
        refines = λ k is. subst (Refines P Q) (ap (λ n. n * is.rest) (only_factor name P R l is.first is.is_first) ∙ sym is.is)
            (Refines-trans P R Q l.link.factor is.rest l.link.refines (rest.refines is.rest is.is_rest));
        accepted = rest.accepted;
      }

pub chains-refine : {B : Type 0} (meaning : B → Meaning) → ChainsRefine meaning
chains-refine meaning passes profile names P programs Q accepted chain = refining meaning passes profile names P programs Q accepted chain
