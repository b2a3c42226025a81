-- An array that tells what is known goes on to tell it, past the `get`s behind a label.
use Rattle.std.proofs.Common.{◌≡◌, ◌≢◌, ◌⊎◌, ℕ, suc, ◌<◌, ◌≤◌, Bool, true, false, List, [], ◌∷◌, length, drop, Option, Some, None, refl, sym, ap, ◌∙◌, inl, inr, ⊎_elim, arith}
use Rattle.std.specs.Prelude.{slice_index, ◌==◌}
use Rattle.std.specs.List.{All}
use Rattle.std.proofs.Math.ListN.{set, length-set}
use Rattle.std.proofs.lemmas.Bool.{eqb-true, eqb-false}
use Rattle.std.proofs.lemmas.List.{drop_all, get_or-set_same, get_or-set_other}
use Rattle.std.proofs.lemmas.Option.{same_Some}
use Rattle.bril_tree.specs.Membership.{In}
use Rattle.bril_tree.specs.Operand.{Location}
use Rattle.bril_tree.proofs.Members.{contains_in, in_contains}
use Rattle.flow_graph.specs.Location.{number_of}
use Rattle.flow_graph.proofs.Locations.{number-one}
use Rattle.ssa_laws.specs.reaching_definitions.Tables.{else_passed}
use Rattle.ssa_search.specs.declared.renaming.now.WantedGet.{WantedGet}
use Rattle.ssa_search.specs.renaming.Gets.{AreGetsOf, with_gets}
use Rattle.ssa_search.specs.renaming.Tells.{TellsNow}

-- a location's number was set by one of the `get`s, or by none
abbrev SetBy : List WantedGet → List ℕ → ℕ → Type 0
SetBy gets now n = (get : WantedGet) × In get gets × (get.location ≡ n) × (slice_index (with_gets gets now) n ≡ get.definition)

abbrev SetByNone : List WantedGet → List ℕ → ℕ → Type 0
SetByNone gets now n = ((get : WantedGet) → In get gets → get.location ≡ n → ⊥) × (slice_index (with_gets gets now) n ≡ slice_index now n)

set_by : (gets : List WantedGet) (now : List ℕ) (n : ℕ) → All (λ get. get.location < length now) gets → SetBy gets now n ⊎ SetByNone gets now n
set_by [] now n within = inr ((λ get i e. i), refl)
set_by (get ∷ gets) now n within = by (set_by gets (set now get.location get.definition) n rest) (get.location == n) refl
  where
    rest : All (λ g. g.location < length (set now get.location get.definition)) gets
    rest = λ i d less. let w = within (suc i) d (omega (arith, less)) in let l = length-set now get.location get.definition in omega (arith, w, l)

    here : get.location < length now
    here = within 0 get (omega arith)

    by : SetBy gets (set now get.location get.definition) n ⊎ SetByNone gets (set now get.location get.definition) n → (b : Bool) → (get.location == n) ≡ b → SetBy (get ∷ gets) now n ⊎ SetByNone (get ∷ gets) now n
    by (inl s) b e = inl (s.0, inr s.1, s.2, s.3)
    by (inr s) true e =
        let same : get.location ≡ n = eqb-true get.location n e in
        inl (get, inl refl, same, s.1 ∙ ap (slice_index (set now get.location get.definition)) (sym same) ∙ get_or-set_same now get.location get.definition 0 here)
    by (inr s) false e =
        let other : get.location ≢ n = eqb-false get.location n e in
        inr ((λ g i k. ⊎_elim (λ q. other (ap (λ (x : WantedGet). x.location) (sym q) ∙ k)) (λ j. s.0 g j k) i), s.1 ∙ get_or-set_other now get.location n get.definition 0 (λ e. other (sym e)))

pub gets-tell : (gets : List WantedGet) (now : List ℕ) → All (λ get. get.location < length now) gets → (known got : Location → Option ℕ) → AreGetsOf got gets → TellsNow known now → TellsNow (λ a. else_passed (got a) (known a)) (with_gets gets now)
gets-tell gets now within known got are tells a y told = by (got a) refl told (set_by gets now (number_of a) within)
  where
    -- what one of them set is the `get` of the location
    one : (get : WantedGet) → In get gets → get.location ≡ number_of a → got a ≡ Some get.definition
    one get i e =
        let o = are.only get (contains_in get gets i) in
        let same : o.0 ≡ a = number-one o.0 a (sym o.1 ∙ e) in
        ap got (sym same) ∙ o.2

    by : (o : Option ℕ) → got a ≡ o → else_passed o (known a) ≡ Some y → SetBy gets now (number_of a) ⊎ SetByNone gets now (number_of a) → slice_index (with_gets gets now) (number_of a) ≡ y
    by None g e (inl s) = absurd (let h : Some s.0.definition ≡ None = sym (one s.0 s.1 s.2) ∙ g in cc)
    by None g e (inr s) = s.1 ∙ tells a y e
    by (Some z) g e (inl s) = s.3 ∙ same_Some s.0.definition y (sym (one s.0 s.1 s.2) ∙ g ∙ e)
    by (Some z) g e (inr s) = absurd (s.0 (record { location = number_of a; definition = z }) (in_contains _ gets (are.there a z g)) refl)

-- past the last `get` all are set
pub all-set : (gets : List WantedGet) (i : ℕ) (now : List ℕ) → length gets ≤ i → with_gets (drop i gets) now ≡ now
all-set gets i now high = ap (λ l. with_gets l now) (drop_all i gets high)
