-- Open sites along walks.
use Rattle.std.proofs.Common.{◌≡◌, ℕ, List, [], ◌∷◌, refl, sym, ap, ◌∙◌, subst, inl, inr}
use Rattle.std.specs.Prelude.{◌⊎◌}
use Rattle.std.specs.List.{Contains}
use Rattle.std.proofs.lemmas.Bool.{cases_eq}
use Rattle.bril_tree.specs.declared.numbered.Instr.{Instr}
use Rattle.bril_tree.specs.Edge.{Branch, branches_at}
use Rattle.bril_tree.specs.Walk.{end_of}
use Rattle.bril_tree.specs.Sites.{AreFirstSites, Others, sites_of, sites_behind}
use Rattle.flow_graph.specs.Laws.{SoundWalksAgree}
use Rattle.bril_tree.proofs.Members.{in_contains}
use Rattle.bril_tree.proofs.Branches.{branch_from}
use Rattle.flow_graph.proofs.Order.{NotAfter}
use Rattle.flow_graph.proofs.FirstWalks.{reached_have_first, first_walks_are_one}

both_equal : (x y : ℕ) (xs ys : List ℕ) → (x ≡ y) ⊎ (x ≡ y → ⊥) → (xs ≡ ys) ⊎ (xs ≡ ys → ⊥) → (x ∷ xs ≡ y ∷ ys) ⊎ (x ∷ xs ≡ y ∷ ys → ⊥)
both_equal x y xs ys (inl e) (inl f) = inl (cc)
both_equal x y xs ys (inl e) (inr differs) = inr (λ h. differs (cc))
both_equal x y xs ys (inr differs) f = inr (λ h. differs (cc))

-- two lists of sites are equal or not
pub equal_or_not : (xs ys : List ℕ) → (xs ≡ ys) ⊎ (xs ≡ ys → ⊥)
equal_or_not [] [] = inl refl
equal_or_not [] (y ∷ ys) = inr (λ h. cc)
equal_or_not (x ∷ xs) [] = inr (λ h. cc)
equal_or_not (x ∷ xs) (y ∷ ys) = both_equal x y xs ys (cases_eq x y) (equal_or_not xs ys)

equal_if : (xs ys : List ℕ) → (xs ≡ ys) ⊎ (xs ≡ ys → ⊥) → ((xs ≡ ys → ⊥) → ⊥) → xs ≡ ys
equal_if xs ys (inl e) h = e
equal_if xs ys (inr differs) h = absurd (h differs)

-- the sites of first walks to a point are one list
pub one_list : (code : List Instr) (p : ℕ) (s t : List ℕ) → AreFirstSites code p s → AreFirstSites code p t → s ≡ t
one_list code p s t a b = sym a.are ∙ ap (λ w. sites_of code w) (first_walks_are_one code p a.walk b.walk a.first b.first) ∙ b.are

none_earlier : (v : List Branch) → NotAfter v [] → v ≡ []
none_earlier v (inl e) = e
none_earlier v (inr h) = absurd h

pub sound_walks_agree : SoundWalksAgree
sound_walks_agree code sound [] is sites first =
    let empty = none_earlier first.walk (first.first.first [] tt refl) in
    sym (ap (λ w. sites_of code w) empty) ∙ first.are
sound_walks_agree code sound (e ∷ v) is sites first =
    let from = branch_from code (end_of v) e (in_contains e (branches_at code (end_of v)) is.0) in
    let before = reached_have_first code (end_of v) (record { walk = v; is = is.1; ends = refl }) in
    let sites_before = sites_of code before.0 in
    let first_before : AreFirstSites code (end_of v) sites_before = record { walk = before.0; first = before.1; are = refl } in
    let same = sound_walks_agree code sound v is.1 sites_before first_before in
    ap (λ s. sites_behind code e s) same ∙ equal_if (sites_behind code e sites_before) sites (equal_or_not (sites_behind code e sites_before) sites)
    (λ other. sound e.to (Others record {
      branch = e;
      at = subst (λ p. Contains (branches_at code p) e) (sym from) is.0;
      to = refl;
      before = sites_before;
      sites = sites;
      first_before = subst (λ p. AreFirstSites code p sites_before) (sym from) first_before;
      first = first;
      other = other;
    }))
