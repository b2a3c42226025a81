-- The open sites that are listed, and the graph that is made of them.
use Rattle.std.proofs.Common.{◌≡◌, ℕ, zero, suc, ◌+◌, ◌-◌, ◌<◌, ◌≤◌, List, [], ◌∷◌, ◌++◌, length, map, Option, Some, None, refl, sym, ap, ◌∙◌, subst, inl, inr, arith, append_assoc}
use Rattle.std.specs.Prelude.{◌⊎◌, slice_get, option_map}
use Rattle.std.specs.Option.{option_to_list}
use Rattle.std.proofs.lemmas.Bool.{cases_lt}
use Rattle.std.proofs.lemmas.List.{length-map}
use Rattle.std.proofs.lemmas.Option.{slice_get-map}
use Rattle.bril_tree.specs.declared.numbered.Instr.{Instr}
use Rattle.bril_tree.specs.Walk.{IsReached}
use Rattle.bril_tree.specs.Sites.{AreFirstSites, AreSitesSound, TooMany, sites_of}
use Rattle.flow_graph.specs.declared.visits.Visit.{Visit}
use Rattle.flow_graph.specs.Graph.{GraphView, IsGraphOf, edges_from}
use Rattle.flow_graph.specs.Visits.{Keep, AreVisits, visit_or_none, below, sites_kept, sites_shown}

-- a turn of the loop over the sites
pub sites_turn : (visits : List (Option Visit)) (i : ℕ) (newest next : Option ℕ) (sites sites' whole : List ℕ) → i < 8 → next ≡ below visits newest → sites' ≡ sites ++ option_to_list newest → sites ++ sites_kept visits (8 - i) newest ≡ whole → sites' ++ sites_kept visits (8 - (i + 1)) next ≡ whole
sites_turn visits i newest next sites sites' whole l is pushed so_far =
    let left : suc (8 - (i + 1)) ≡ 8 - i = omega arith in
    ap (λ s. s ++ sites_kept visits (8 - (i + 1)) next) pushed
    ∙ append_assoc sites (option_to_list newest) (sites_kept visits (8 - (i + 1)) next)
    ∙ ap (λ n. sites ++ (option_to_list newest ++ sites_kept visits (8 - (i + 1)) n)) is
    ∙ ap (λ k. sites ++ sites_kept visits k newest) left
    ∙ so_far

none_kept : (visits : List (Option Visit)) (k : ℕ) → sites_kept visits k None ≡ []
none_kept visits zero = refl
none_kept visits (suc k) = none_kept visits k

kept_all : (visits : List (Option Visit)) (k : ℕ) (v : Visit) (sites : List ℕ) → Keep visits v sites → length sites ≤ k → sites_kept visits k v.newest ≡ sites
kept_all visits zero v [] h l = refl
kept_all visits zero v (s ∷ sites) h l = absurd (omega arith)
kept_all visits (suc k) v [] h l = ap (λ n. sites_kept visits (suc k) n) h.0 ∙ none_kept visits k
kept_all visits (suc k) v (s ∷ sites) h l =
    let inner = h.2 in
    let rest : below visits (Some s) ≡ inner.0.newest = ap (λ o. (visit_or_none o).newest) inner.1 in
    ap (λ n. sites_kept visits (suc k) n) h.0
    ∙ ap (λ n. s ∷ sites_kept visits k n) rest
    ∙ ap (λ ss. s ∷ ss) (kept_all visits k inner.0 sites inner.2 (omega arith))

few_sites : (code : List Instr) (p : ℕ) (sites : List ℕ) → AreSitesSound code → AreFirstSites code p sites → (8 < length sites) ⊎ (length sites ≤ 8) → length sites ≤ 8
few_sites code p sites sound first (inl many) = absurd (sound p (TooMany record { sites = sites; first = first; many = many }))
few_sites code p sites sound first (inr few) = few

shown_sites : (code : List Instr) (visits : List (Option Visit)) → AreVisits code visits → AreSitesSound code → (p : ℕ) (sites : List ℕ) (kept : Option (Option Visit)) → slice_get visits p ≡ kept → option_map (sites_shown visits) kept ≡ Some (Some sites) → AreFirstSites code p sites
shown_sites code visits are sound p sites None at is = absurd (let e : ◌≡◌ {A = Option (Option (List ℕ))} None (Some (Some sites)) = is in cc)
shown_sites code visits are sound p sites (Some None) at is = absurd (let e : ◌≡◌ {A = Option (Option (List ℕ))} (Some None) (Some (Some sites)) = is in cc)
shown_sites code visits are sound p sites (Some (Some visit)) at is =
    let v = are.visited p visit at in
    let own = sites_of code v.walk in
    let first : AreFirstSites code p own = record { walk = v.walk; first = v.first; are = refl } in
    let few = few_sites code p own sound first (cases_lt 8 (length own)) in
    let shown : ◌≡◌ {A = Option (Option (List ℕ))} (Some (Some (sites_kept visits 8 visit.newest))) (Some (Some sites)) = is in
    let listed : sites_kept visits 8 visit.newest ≡ sites = cc in
    subst (λ s. AreFirstSites code p s) (sym (kept_all visits 8 visit own v.kept few) ∙ listed) first

not_shown : (code : List Instr) (visits : List (Option Visit)) → AreVisits code visits → (p : ℕ) (kept : Option (Option Visit)) → slice_get visits p ≡ kept → option_map (sites_shown visits) kept ≡ Some None → IsReached code p → ⊥
not_shown code visits are p None at is r = let e : ◌≡◌ {A = Option (Option (List ℕ))} None (Some None) = is in cc
not_shown code visits are p (Some None) at is r =
    let k = are.reached p r in
    let e : ◌≡◌ {A = Option (Option Visit)} (Some None) (Some (Some k.0)) = sym at ∙ k.1 in cc
not_shown code visits are p (Some (Some visit)) at is r = let e : ◌≡◌ {A = Option (Option (List ℕ))} (Some (Some (sites_kept visits 8 visit.newest))) (Some None) = is in cc

pub graph_is : (code : List Instr) (visits : List (Option Visit)) (graph : GraphView) → AreVisits code visits → AreSitesSound code → graph.sites ≡ map (sites_shown visits) visits → graph.edges ≡ edges_from code 0 graph.sites → IsGraphOf code graph
graph_is code visits graph are sound sites edges = record {
  points = ap length sites ∙ length-map visits (sites_shown visits) ∙ are.points;
  reached = λ p s h. shown_sites code visits are sound p s (slice_get visits p) refl
      (sym (slice_get-map (sites_shown visits) visits p) ∙ ap (λ ss. slice_get ss p) (sym sites) ∙ h);
  unreached = λ p h. not_shown code visits are p (slice_get visits p) refl
      (sym (slice_get-map (sites_shown visits) visits p) ∙ ap (λ ss. slice_get ss p) (sym sites) ∙ h);
  edges = edges;
}
