-- How the list of what was found grows.
use Rattle.std.proofs.Common.{◌≡◌, ℕ, ◌+◌, ◌<◌, ◌≤◌, List, [], ◌∷◌, ◌++◌, length, map, get_or, sym, ap, ◌∙◌, subst, refl, inl, inr, ◌⊎◌, ⊎_elim, arith, append_assoc, append-nil}
use Rattle.std.specs.Prelude.{slice_index, Bool, true}
use Rattle.std.specs.List.{Contains}
use Rattle.std.proofs.lemmas.Bool.{cases_lt, cases_eq}
use Rattle.std.proofs.lemmas.List.{get_or-map, get_or_default}
use Rattle.std.proofs.lemmas.List.Elements.{All-append, All-weaker, All-nil, All-cons, All-contains, Contains-append_left, Contains-append_cases, Contains-push}
use Rattle.graph_search.specs.declared.graph.Arc.{Arc}
use Rattle.graph_search.specs.Reached.{VisitsAll}
use Rattle.graph_search.specs.Adjacency.{EndsRow}

pub VisitsAll-none : (P : ℕ → Type 0) (found : List ℕ) → ((n : ℕ) → P n → ⊥) → VisitsAll P found found
VisitsAll-none P found never = record { rest = []; grew = sym (append-nil found); met = All-nil P; all = λ n h. absurd (never n h) }

pub VisitsAll-push : (found : List ℕ) (node : ℕ) → VisitsAll (λ n. node ≡ n) found (found ++ node ∷ [])
VisitsAll-push found node = record {
  rest = node ∷ [];
  grew = refl;
  met = All-cons (λ n. node ≡ n) node [] refl (All-nil (λ n. node ≡ n));
  all = λ n e. subst (Contains (found ++ node ∷ [])) e (Contains-push found node);
}

pub kept : (P : ℕ → Type 0) (old new : List ℕ) → VisitsAll P old new → (n : ℕ) → Contains old n → Contains new n
kept P old new v n h = subst (λ xs. Contains xs n) (sym v.grew) (Contains-append_left old v.rest n h)

pub came : (P : ℕ → Type 0) (old new : List ℕ) → VisitsAll P old new → (n : ℕ) → Contains new n → Contains old n ⊎ P n
came P old new v n h = ⊎_elim inl (λ r. inr (All-contains P v.rest n v.met r)) (Contains-append_cases old v.rest n (subst (λ xs. Contains xs n) v.grew h))

pub VisitsAll-then : (P Q R : ℕ → Type 0) (a b c : List ℕ) → ((n : ℕ) → P n → R n) → ((n : ℕ) → Q n → R n) → ((n : ℕ) → R n → P n ⊎ Q n) →
    VisitsAll P a b → VisitsAll Q b c → VisitsAll R a c
VisitsAll-then P Q R a b c p q r v w = record {
  rest = v.rest ++ w.rest;
  grew = w.grew ∙ ap (λ xs. xs ++ w.rest) v.grew ∙ append_assoc a v.rest w.rest;
  met = All-append R v.rest w.rest (All-weaker P R p v.rest v.met) (All-weaker Q R q w.rest w.met);
  all = λ n h. ⊎_elim (λ hp. kept Q b c w n (v.all n hp)) (λ hq. w.all n hq) (r n h);
}

-- an arc leads from one node to another, at a place that isn't before the end
pub record Goes (arcs : List Arc) (gate : Arc → Bool) (from end to : ℕ) : Type 0 where
  pub place : ℕ
  pub late : end ≤ place
  pub within : place < length arcs
  pub arc : Arc
  pub there : get_or arcs place arc ≡ arc
  pub leaves : arc.from ≡ from
  pub enters : arc.to ≡ to
  pub passes : gate arc ≡ true

source_at : (arcs : List Arc) (place : ℕ) (arc : Arc) → place < length arcs → get_or arcs place arc ≡ arc → slice_index (map (λ a. a.from) arcs) place ≡ arc.from
source_at arcs place arc low e = get_or-map (λ a. a.from) arcs place arc 0 low ∙ ap (λ a. a.from) e

pub Goes-none : (arcs : List Arc) (gate : Arc → Bool) (node end : ℕ) → EndsRow (map (λ a. a.from) arcs) node (length arcs) end → (n : ℕ) → Goes arcs gate node end n → ⊥
Goes-none arcs gate node end row n g = row.last g.place g.late g.within (source_at arcs g.place g.arc g.within g.there ∙ g.leaves)

-- one more arc of the row
module _ (arcs : List Arc) (gate : Arc → Bool) (node end place earlier bound : ℕ) (arc : Arc) (here : place + 1 ≡ end) (short : bound ≤ length arcs) (there : get_or arcs place arc ≡ arc)
    (row : EndsRow (map (λ a. a.from) arcs) node bound end) (rest : EndsRow (map (λ a. a.from) arcs) node place earlier) where
  within : place < length arcs
  within = let low = row.within in omega arith

  pub goes-later : (n : ℕ) → Goes arcs gate node end n → Goes arcs gate node earlier n
  goes-later n g = let low = rest.within in let late = g.late in record {
    place = g.place;
    late = omega arith;
    within = g.within;
    arc = g.arc;
    there = g.there;
    leaves = g.leaves;
    enters = g.enters;
    passes = g.passes;
  }

  pub goes-here : (n : ℕ) → (arc.to ≡ n) × (gate arc ≡ true) → Goes arcs gate node earlier n
  goes-here n h = record {
    place = place;
    late = rest.within;
    within = within;
    arc = arc;
    there = there;
    leaves = sym (source_at arcs place arc within there) ∙ row.stands place here;
    enters = h.0;
    passes = h.1;
  }

  pub goes-split : (n : ℕ) → Goes arcs gate node earlier n → Goes arcs gate node end n ⊎ ((arc.to ≡ n) × (gate arc ≡ true))
  goes-split n g = ⊎_elim
      (λ below. absurd (rest.last g.place g.late below (source_at arcs g.place g.arc g.within g.there ∙ g.leaves)))
      (λ above. ⊎_elim
      (λ same.
      let arcs_same : g.arc ≡ arc = sym g.there ∙ get_or_default arcs g.place g.arc arc g.within ∙ ap (λ k. get_or arcs k arc) same ∙ there in
      inr (ap (λ x. x.to) (sym arcs_same) ∙ g.enters, ap gate (sym arcs_same) ∙ g.passes))
      (λ differs. inl (record {
        place = g.place;
        late = omega arith;
        within = g.within;
        arc = g.arc;
        there = g.there;
        leaves = g.leaves;
        enters = g.enters;
        passes = g.passes;
      }))
      (cases_eq g.place place))
      (cases_lt g.place place)

  pub Goes-more : (a b c : List ℕ) → VisitsAll (Goes arcs gate node end) a b → VisitsAll (λ n. (arc.to ≡ n) × (gate arc ≡ true)) b c → VisitsAll (Goes arcs gate node earlier) a c
  Goes-more a b c = VisitsAll-then (Goes arcs gate node end) (λ n. (arc.to ≡ n) × (gate arc ≡ true)) (Goes arcs gate node earlier) a b c goes-later goes-here goes-split
