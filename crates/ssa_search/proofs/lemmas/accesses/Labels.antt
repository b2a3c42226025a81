-- The entries of labels, label by label.
use Rattle.std.proofs.Common.{◌≡◌, ◌≢◌, ◌↔◌, ◌⊎◌, ℕ, suc, ◌<◌, ◌≤◌, Bool, true, false, List, [], ◌∷◌, ◌++◌, length, map, get_or, Option, Some, None, refl, sym, ap, subst, ◌∙◌, inl, inr, ⊎_elim, arith}
use Rattle.std.specs.Prelude.{◌==◌, slice_get}
use Rattle.std.specs.List.{All, AllPairs, Contains, filter}
use Rattle.std.proofs.lemmas.Bool.{cases_eq, eq-eqb, eqb-true}
use Rattle.std.proofs.lemmas.List.Elements.{Contains-append_cases, Contains-append_left, Contains-append_right, Contains-get_or}
use Rattle.std.proofs.lemmas.Option.{same_Some, slice_get_within}
use Rattle.bril_tree.specs.declared.edge.Edge.{Edge}
use Rattle.bril_tree.specs.declared.numbered.Instr.{Instr}
use Rattle.bril_tree.specs.Membership.{In}
use Rattle.bril_tree.specs.Sites.{AreSitesSound}
use Rattle.bril_tree.proofs.Members.{contains_in, in_contains, in_map, in_map_source}
use Rattle.flow_graph.specs.Graph.{GraphView, IsGraphOf}
use Rattle.flow_graph.proofs.Told.{edge_listed, edge_told}
use Rattle.graph_search.specs.declared.graph.Arc.{Arc}
use Rattle.graph_search.specs.Path.{IsReached}
use Rattle.graph_search.proofs.Paths.{reached_all, reached_seed}
use Rattle.pass_edit_laws.proofs.lemmas.numbers.Different.{differ-both, differ-map, filter_in, in_filter}
use Rattle.ssa_search.specs.declared.accesses.entries.Entry.{Entry}
use Rattle.ssa_search.specs.accesses.Entries.{AreEntriesBefore, AreEntriesOf, EntersAt, entry_of, start_entries}
use Rattle.ssa_search.specs.placing.Wanted.{is_label}
use Rattle.ssa_search.proofs.lemmas.placing.Arcs.{edge-within}

-- without arcs the seeds alone are reached
pub only-seeds : (arcs : List Arc) → arcs ≡ [] → (seeds : List ℕ) (gate : Arc → Bool) (node : ℕ) → IsReached arcs seeds gate node ↔ Contains seeds node
only-seeds arcs none seeds gate node = (
  reached_all arcs seeds gate (Contains seeds) (λ n c. c) (λ m n c l. absurd (in_contains l.arc [] (subst (λ list. Contains list l.arc) none l.there))) node,
  reached_seed arcs seeds gate node,
)

pub enters-label : (code : List Instr) (leave : Option ℕ) (k : ℕ) → EntersAt code leave k → is_label (slice_get code k) ≡ true
enters-label code None k en = en.0
enters-label code (Some p) k en = en.0

module _ (code : List Instr) (graph : GraphView) (is : IsGraphOf code graph) (sound : AreSitesSound code) (k : ℕ) where
  abbrev preds : List Edge
  preds = filter (λ e. e.to == k) graph.edges

  pub preds-within : (edges : List Edge) → edges ≡ preds → All (λ p. p < length code) (map (λ e. e.leave) edges)
  preds-within edges same i d low =
      let c = in_map_source (λ (e : Edge). e.leave) (get_or (map (λ e. e.leave) edges) i d) edges (in_contains _ (map (λ e. e.leave) edges) (Contains-get_or (map (λ e. e.leave) edges) i d low)) in
      let listed = (filter_in (λ (e : Edge). e.to == k) graph.edges c.0 (subst (In c.0) same c.1)).0 in
      subst (λ p. p < length code) (sym c.2) (edge-within code graph is sound c.0 (contains_in c.0 graph.edges listed))

  pub preds-enter : (edges : List Edge) → edges ≡ preds → is_label (slice_get code k) ≡ true → (p : ℕ) → Contains (map (λ e. e.leave) edges) p ↔ EntersAt code (Some p) k
  preds-enter edges same label p = (
    (λ c.
        let s = in_map_source (λ (e : Edge). e.leave) p edges (in_contains p (map (λ e. e.leave) edges) c) in
        let f = filter_in (λ (e : Edge). e.to == k) graph.edges s.0 (subst (In s.0) same s.1) in
        (label, (s.0, edge_told code graph is s.0 (contains_in s.0 graph.edges f.0), sym s.2, eqb-true s.0.to k f.1))),
    (λ e.
        let edge = e.1.0 in
        let listed = in_contains edge graph.edges (edge_listed code graph is sound edge e.1.1) in
        let among : In edge edges = subst (In edge) (sym same) (in_filter (λ (e : Edge). e.to == k) graph.edges edge listed (eq-eqb edge.to k e.1.3)) in
        contains_in p (map (λ e. e.leave) edges) (subst (λ q. In q (map (λ e. e.leave) edges)) e.1.2 (in_map (λ (e : Edge). e.leave) edge edges among))),
  )

-- the entries of a label, but for one from the start, were added
pub record AddsEntries (code : List Instr) (k : ℕ) (old new : List Entry) : Type 0 where
  pub leaves : List ℕ
  pub grew : new ≡ old ++ map (entry_of k) leaves
  pub differ : AllPairs (λ p q. p ≢ q) leaves
  pub exact : (p : ℕ) → Contains leaves p ↔ EntersAt code (Some p) k

module _ (code : List Instr) where
  entry-one : (k p q : ℕ) → entry_of k p ≡ entry_of k q → p ≡ q
  entry-one k p q e = same_Some p q (ap (λ (x : Entry). x.leave) e)

  pub entries-more : (k : ℕ) (old new : List Entry) → AreEntriesBefore code k old → AddsEntries code k old new → AreEntriesBefore code (suc k) new
  entries-more k old new b adds = record {
    differ = subst (AllPairs (λ d e. d ≢ e)) (sym adds.grew) (differ-both old (map (entry_of k) adds.leaves) b.differ (differ-map (entry_of k) (entry-one k) adds.leaves adds.differ) apart);
    there = there;
    only = only;
  }
    where
      apart : (e : Entry) → In e old → In e (map (entry_of k) adds.leaves) → ⊥
      apart e i j =
          let o = (b.only e (contains_in e old i)).1 in
          let s = in_map_source (entry_of k) e adds.leaves j in
          ⊎_elim
          (λ less. let same = ap (λ (x : Entry). x.label) s.2 in omega (arith, less, same))
          (λ none. let x : Some s.0 ≡ None = sym (ap (λ (x : Entry). x.leave) s.2) ∙ none in cc)
          o

      keep : (e : Entry) → Contains old e → Contains new e
      keep e c = subst (λ es. Contains es e) (sym adds.grew) (Contains-append_left old (map (entry_of k) adds.leaves) e c)

      there : (leave : Option ℕ) (j : ℕ) → EntersAt code leave j → (j < suc k) ⊎ (leave ≡ None) → Contains new (record { leave = leave; label = j })
      there None j en h = keep _ (b.there None j en (inr refl))
      there (Some p) j en (inr n) = absurd (let x : Some p ≡ None = n in cc)
      there (Some p) j en (inl less) = ⊎_elim
          (λ same.
          let here : Contains adds.leaves p = (adds.exact p).1 (subst (EntersAt code (Some p)) same en) in
          let among = contains_in (entry_of k p) (map (entry_of k) adds.leaves) (in_map (entry_of k) p adds.leaves (in_contains p adds.leaves here)) in
          subst (λ i. Contains new (record { leave = Some p; label = i })) (sym same) (subst (λ es. Contains es (entry_of k p)) (sym adds.grew) (Contains-append_right old (map (entry_of k) adds.leaves) (entry_of k p) among)))
          (λ differs. keep _ (b.there (Some p) j en (inl (omega (arith, less, differs)))))
          (cases_eq j k)

      only : (e : Entry) → Contains new e → EntersAt code e.leave e.label × ((e.label < suc k) ⊎ (e.leave ≡ None))
      only e c = ⊎_elim
          (λ i. let o = b.only e i in (o.0, ⊎_elim (λ less. inl (omega (arith, less))) inr o.1))
          (λ i.
          let s = in_map_source (entry_of k) e adds.leaves (in_contains e (map (entry_of k) adds.leaves) i) in
          let en = (adds.exact s.0).0 (contains_in s.0 adds.leaves s.1) in
          subst (λ (x : Entry). EntersAt code x.leave x.label × ((x.label < suc k) ⊎ (x.leave ≡ None))) (sym s.2) (en, inl (omega arith)))
          (Contains-append_cases old (map (entry_of k) adds.leaves) e (subst (λ es. Contains es e) adds.grew c))

  pub entries-past : (k : ℕ) (old : List Entry) → is_label (slice_get code k) ≡ false → AreEntriesBefore code k old → AreEntriesBefore code (suc k) old
  entries-past k old none b = record { differ = b.differ; there = there; only = λ e c. let o = b.only e c in (o.0, ⊎_elim (λ less. inl (omega (arith, less))) inr o.1) }
    where
      there : (leave : Option ℕ) (j : ℕ) → EntersAt code leave j → (j < suc k) ⊎ (leave ≡ None) → Contains old (record { leave = leave; label = j })
      there None j en h = b.there None j en (inr refl)
      there (Some p) j en (inr n) = absurd (let x : Some p ≡ None = n in cc)
      there (Some p) j en (inl less) = ⊎_elim
          (λ same. absurd (let x : true ≡ false = sym en.0 ∙ ap (λ i. is_label (slice_get code i)) same ∙ none in cc))
          (λ differs. b.there (Some p) j en (inl (omega (arith, less, differs))))
          (cases_eq j k)

  one-differs : {X : Type 0} (x : X) → AllPairs (λ d e. d ≢ e) (x ∷ [])
  one-differs x i j d less inside = absurd (omega arith)

  pub entries-start : (b : Bool) → is_label (slice_get code 0) ≡ b → AreEntriesBefore code 0 (start_entries b)
  entries-start true e = record {
    differ = one-differs (record { leave = None; label = 0 });
    there = λ leave k en h. by leave k en h;
    only = λ x c. ⊎_elim (λ s. subst (λ (y : Entry). EntersAt code y.leave y.label × ((y.label < 0) ⊎ (y.leave ≡ None))) (sym s) ((e, refl), inr refl)) (λ n. absurd n) (in_contains x (record { leave = None; label = 0 } ∷ []) c);
  }
    where
      by : (leave : Option ℕ) (k : ℕ) → EntersAt code leave k → (k < 0) ⊎ (leave ≡ None) → Contains {X = Entry} (record { leave = None; label = 0 } ∷ []) (record { leave = leave; label = k })
      by None k en h = contains_in _ (record { leave = None; label = 0 } ∷ []) (inl (ap (λ i. record { leave = None; label = i }) en.1))
      by (Some p) k en (inl less) = absurd (omega (arith, less))
      by (Some p) k en (inr n) = absurd (let x : Some p ≡ None = n in cc)
  entries-start false e = record {
    differ = λ i j d less inside. absurd (omega arith);
    there = λ leave k en h. by leave k en h;
    only = λ x c. absurd (in_contains x [] c);
  }
    where
      by : (leave : Option ℕ) (k : ℕ) → EntersAt code leave k → (k < 0) ⊎ (leave ≡ None) → Contains {X = Entry} [] (record { leave = leave; label = k })
      by None k en h = absurd (let x : true ≡ false = sym en.0 ∙ ap (λ i. is_label (slice_get code i)) en.1 ∙ e in cc)
      by (Some p) k en (inl less) = absurd (omega (arith, less))
      by (Some p) k en (inr n) = absurd (let x : Some p ≡ None = n in cc)

  pub label-within : (o : Option Instr) (k : ℕ) → slice_get code k ≡ o → is_label o ≡ true → k < length code
  label-within None k at e = absurd cc
  label-within (Some item) k at e = slice_get_within code k item at

  pub entries-all : (bound : ℕ) (entries : List Entry) → length code ≤ bound → AreEntriesBefore code bound entries → AreEntriesOf code entries
  entries-all bound entries all b = record {
    differ = b.differ;
    there = λ leave k en. b.there leave k en (inl (let w = label-within (slice_get code k) k refl (enters-label code leave k en) in omega (arith, w, all)));
    only = λ e c. (b.only e c).0;
  }
