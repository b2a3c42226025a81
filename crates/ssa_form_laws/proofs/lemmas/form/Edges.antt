-- Where edges leave to a label: each has `set`s before the item from which it leaves, or behind that, before the label.
use Rattle.std.proofs.Common.{◌≡◌, ◌⊎◌, ℕ, zero, suc, ◌<◌, ◌≤◌, ◌||◌, Bool, true, false, cond, List, [], ◌∷◌, length, Option, Some, None, refl, sym, ap, subst, ◌∙◌, inl, inr, ⊎_elim, arith, eq-eqb}
use Rattle.std.specs.Prelude.{slice_get, slice_index_or, ◌==◌, not}
use Rattle.std.specs.List.{Contains}
use Rattle.std.proofs.lemmas.Bool.{and_parts, cases_lt, eqb-true, and_from, or_cases}
use Rattle.std.proofs.lemmas.Option.{slice_get_within}
use Rattle.bril_tree.specs.declared.edge.Edge.{Edge}
use Rattle.bril_tree.specs.declared.numbered.Instr.{Instr}
use Rattle.bril_tree.specs.declared.numbered.Instr.TheVariants.{Label, Const, Act}
use Rattle.bril_tree.specs.declared.operation.Op.TheVariants as op
use Rattle.bril_tree.specs.Edge.{Branch, branches_at, branches_from, onward}
use Rattle.bril_tree.specs.Leaving.{IsEdge, leave_of}
use Rattle.bril_tree.specs.Membership.{In}
use Rattle.bril_tree.specs.Sites.{AreSitesSound, Closes, Opens, item_change, sites_of}
use Rattle.bril_tree.specs.Step.{point_of}
use Rattle.bril_tree.specs.Walk.{IsReached, end_of}
use Rattle.bril_tree.proofs.Assignments.{site_speculates}
use Rattle.bril_tree.proofs.Branches.{aborts-close, branch_from, opens-or_closes}
use Rattle.bril_tree.proofs.Members.{contains_in, in_contains, in_map, in_map_source}
use Rattle.bril_tree.proofs.Shapes.{closing_needs}
use Rattle.flow_graph.specs.Graph.{GraphView, IsGraphOf}
use Rattle.flow_graph.specs.declared.reads.Access.{Access}
use Rattle.flow_graph.proofs.Told.{edge_listed, edge_told, sites_of_walk, some_site, walk_to}
use Rattle.pass_edit_laws.proofs.lemmas.numbers.Different.{filter_in, in_filter}
use Rattle.ssa_search.specs.accesses.Entries.{EntersAt}
use Rattle.ssa_build.specs.code.Rows.{AreRows, leave_of as access_of, leaves_before, leaves_of}
use Rattle.ssa_build.specs.code.Sweep.{falls_at, goes_on, reached_at}
use Rattle.ssa_laws.specs.inserted_copies.Inserted.{is_jump}
use Rattle.ssa_search.specs.placing.Wanted.{is_label}

-- ---- branches of an item that is no jump

-- a branch that is no abort goes on
goes-next : (code : List Instr) (p : ℕ) (w : Branch) (o : Option Instr) → is_jump o ≡ false → In w (branches_from code p o) → w.aborts ≡ false → (w ≡ onward p) × (goes_on o ≡ true)
goes-next code p w None plain among keeps = absurd among
goes-next code p w (Some (Label l)) plain (inl e) keeps = (e, refl)
goes-next code p w (Some (Label l)) plain (inr n) keeps = absurd n
goes-next code p w (Some (Const d ty v)) plain (inl e) keeps = (e, refl)
goes-next code p w (Some (Const d ty v)) plain (inr n) keeps = absurd n
goes-next code p w (Some (Act d ty op.Jmp args fns ls)) plain among keeps = absurd cc
goes-next code p w (Some (Act d ty op.Br args fns ls)) plain among keeps = absurd cc
goes-next code p w (Some (Act d ty op.Ret args fns ls)) plain among keeps = absurd among
goes-next code p w (Some (Act d ty op.Guard args fns ls)) plain (inl e) keeps = (e, refl)
goes-next code p w (Some (Act d ty op.Guard args fns ls)) plain (inr among) keeps =
    absurd (let s = in_map_source (λ l. record { from = p; to = point_of l code; aborts = true }) w ls among in let h : true ≡ false = sym (ap (λ (b : Branch). b.aborts) s.2) ∙ keeps in cc)
goes-next code p w (Some (Act d ty _ args fns ls)) plain (inl e) keeps = (e, refl)
goes-next code p w (Some (Act d ty _ args fns ls)) plain (inr n) keeps = absurd n

either-true : (a b : Bool) → (a ≡ true) ⊎ (b ≡ true) → (a || b) ≡ true
either-true true b h = refl
either-true false true h = refl
either-true false false (inl e) = absurd cc
either-true false false (inr e) = absurd cc

-- ---- where `set`s stand for an edge

module _ (code : List Instr) (graph : GraphView) (is_graph : IsGraphOf code graph) (sound : AreSitesSound code) where
  -- a point that walks lead to is told
  pub reached-told : (p : ℕ) → IsReached code p → reached_at (slice_get graph.sites p) ≡ true
  reached-told p r = ap (λ q. reached_at (slice_get graph.sites q)) (sym r.ends) ∙ ap reached_at (sites_of_walk code graph is_graph sound r.walk r.is)

  -- and only such a point
  pub told-reached : (p : ℕ) → reached_at (slice_get graph.sites p) ≡ true → IsReached code p
  told-reached p e = by (slice_get graph.sites p) refl
    where
      by : (o : Option (Option (List ℕ))) → slice_get graph.sites p ≡ o → IsReached code p
      by None at = absurd (let h : reached_at None ≡ true = ap reached_at (sym at) ∙ e in cc)
      by (Some None) at = absurd (let h : reached_at (Some None) ≡ true = ap reached_at (sym at) ∙ e in cc)
      by (Some (Some sites)) at = let w = walk_to code graph is_graph p sites at in record { walk = w.0; is = w.1; ends = w.2 }

  -- the row of a point has the label, or the label is next and is fallen into
  pub data SetWay (rows : List (List ℕ)) (p k : ℕ) : Type 0 where
    InRow : p < length code → (is_jump (slice_get code p) ≡ true) ⊎ (item_change (slice_get code p) false ≡ Opens) → In k (slice_index_or rows p []) → SetWay rows p k
    Fallen : k ≡ suc p → falls_at code graph.sites k ≡ true → SetWay rows p k

  pub set-way : (rows : List (List ℕ)) → AreRows code graph.edges rows → (p k : ℕ) → EntersAt code (Some p) k → SetWay rows p k
  set-way rows are p k en = by e.branch.aborts refl (sites_of code e.walk) refl
    where
      edge : Edge
      edge = en.1.0

      e : IsEdge code en.1.0
      e = en.1.1

      among : In e.branch (branches_at code (end_of e.walk))
      among = in_contains e.branch (branches_at code (end_of e.walk)) e.at

      from : e.branch.from ≡ end_of e.walk
      from = branch_from code (end_of e.walk) e.branch among

      edge-from : en.1.0.from ≡ end_of e.walk
      edge-from = ap (λ (x : Edge). x.from) e.are ∙ from

      leave : (b : Bool) → e.branch.aborts ≡ b → (sites : List ℕ) → sites_of code e.walk ≡ sites → leave_of b e.branch.from sites ≡ p
      leave b aborts sites open_sites = sym (ap (λ (x : Edge). x.leave) e.are ∙ ap (λ b. leave_of b e.branch.from (sites_of code e.walk)) aborts ∙ ap (leave_of b e.branch.from) open_sites) ∙ en.1.2

      -- an edge that is kept by the test stands in the row
      in-row : p < length code → leaves_before code en.1.0 ≡ true → In k (slice_index_or rows p [])
      in-row low test =
          let listed = in_contains en.1.0 graph.edges (edge_listed code graph is_graph sound en.1.0 e) in
          let there = in_map access_of en.1.0 _ (in_filter (leaves_before code) graph.edges en.1.0 listed test) in
          let place : access_of en.1.0 ≡ record { item = k; location = p } = (λ i. record { item = en.1.3 i; location = en.1.2 i }) in
          let c : Contains (slice_index_or rows p []) k = ((are.each p low).exact k).1 (contains_in (record { item = k; location = p }) (leaves_of code graph.edges) (subst (λ a. In a (leaves_of code graph.edges)) place there)) in
          in_contains k (slice_index_or rows p []) c

      label-test : is_label (slice_get code en.1.0.to) ≡ true
      label-test = ap (λ q. is_label (slice_get code q)) en.1.3 ∙ en.0

      by : (b : Bool) → e.branch.aborts ≡ b → (sites : List ℕ) → sites_of code e.walk ≡ sites → SetWay rows p k
      by false keeps sites open_sites = plain (is_jump (slice_get code p)) refl
        where
          at : end_of e.walk ≡ p
          at = sym from ∙ leave false keeps sites open_sites

          here : In e.branch (branches_at code p)
          here = subst (λ q. In e.branch (branches_at code q)) at among

          reached : IsReached code p
          reached = record { walk = e.walk; is = e.is; ends = at }

          inside : (o : Option Instr) → slice_get code p ≡ o → p < length code
          inside None none = absurd (subst (λ o. In e.branch (branches_from code p o)) none here)
          inside (Some a) some = slice_get_within code p a some

          plain : (j : Bool) → is_jump (slice_get code p) ≡ j → SetWay rows p k
          plain true jumps =
              InRow (inside (slice_get code p) refl) (inl jumps)
              (in-row (inside (slice_get code p) refl) (and_from (is_label (slice_get code en.1.0.to)) _ label-test (either-true (is_jump (slice_get code en.1.0.leave)) _ (inl (ap (λ q. is_jump (slice_get code q)) en.1.2 ∙ jumps)))))
          plain false next =
              let n = goes-next code p e.branch (slice_get code p) next here keeps in
              let to : k ≡ suc p = sym en.1.3 ∙ ap (λ (x : Edge). x.to) e.are ∙ ap (λ (b : Branch). b.to) n.0 in
              Fallen to (ap (falls_at code graph.sites) to ∙ ap (λ b. cond b (goes_on (slice_get code p)) false) (reached-told p reached) ∙ n.1)
      by true aborts [] none = absurd (some_site code e.walk sound e.is (closing_needs (slice_get code (end_of e.walk)) true (aborts-close code (end_of e.walk) (slice_get code (end_of e.walk)) e.branch among aborts)) none)
      by true aborts (s ∷ older) open_sites = InRow inside (inr speculates) (in-row inside (and_from (is_label (slice_get code en.1.0.to)) _ label-test (either-true (is_jump (slice_get code en.1.0.leave)) _ (inr other))))
        where
          at : s ≡ p
          at = leave true aborts (s ∷ older) open_sites

          speculates : item_change (slice_get code p) false ≡ Opens
          speculates = ap (λ q. item_change (slice_get code q) false) (sym at) ∙ site_speculates code e.walk s (subst (In s) (sym open_sites) (inl refl))

          closes : item_change (slice_get code (end_of e.walk)) true ≡ Closes
          closes = aborts-close code (end_of e.walk) (slice_get code (end_of e.walk)) e.branch among aborts

          inside : p < length code
          inside = low (slice_get code p) refl
            where
              low : (o : Option Instr) → slice_get code p ≡ o → p < length code
              low None none = absurd (let h : item_change None false ≡ Opens = ap (λ o. item_change o false) (sym none) ∙ speculates in cc)
              low (Some a) some = slice_get_within code p a some

          other : not (en.1.0.leave == en.1.0.from) ≡ true
          other = tells (en.1.0.leave == en.1.0.from) refl
            where
              tells : (b : Bool) → (en.1.0.leave == en.1.0.from) ≡ b → not (en.1.0.leave == en.1.0.from) ≡ true
              tells true same =
                  let q : p ≡ end_of e.walk = sym en.1.2 ∙ eqb-true en.1.0.leave en.1.0.from same ∙ edge-from in
                  absurd (opens-or_closes (slice_get code p) speculates (ap (λ n. item_change (slice_get code n) true) q ∙ closes))
              tells false differ = ap not differ

  -- a label of a point's row is entered from there
  pub row-edge : (rows : List (List ℕ)) → AreRows code graph.edges rows → (p k : ℕ) → In k (slice_index_or rows p []) → (edge : Edge) × IsEdge code edge × (edge.leave ≡ p) × (edge.to ≡ k)
  row-edge rows are p k among = ⊎_elim there (λ past. absurd (none rows p (let l = are.long in omega arith) among)) (cases_lt p (length code))
    where
      none : (xs : List (List ℕ)) (i : ℕ) → length xs ≤ i → In k (slice_index_or xs i []) → ⊥
      none [] i h j = j
      none (y ∷ ys) zero h j = omega arith
      none (y ∷ ys) (suc i) h j = none ys i (omega arith) j

      there : p < length code → (edge : Edge) × IsEdge code edge × (edge.leave ≡ p) × (edge.to ≡ k)
      there low =
          let c = ((are.each p low).exact k).0 (contains_in k (slice_index_or rows p []) among) in
          let s = in_map_source access_of (record { item = k; location = p }) _ (in_contains (record { item = k; location = p }) (leaves_of code graph.edges) c) in
          let f = filter_in (leaves_before code) graph.edges s.0 s.1 in
          (s.0, edge_told code graph is_graph s.0 (contains_in s.0 graph.edges f.0), ap (λ (a : Access). a.location) (sym s.2), ap (λ (a : Access). a.item) (sym s.2))

  -- and edges leave from such a point before it is passed: it is a jump, or opens a site
  pub row-departs : (rows : List (List ℕ)) → AreRows code graph.edges rows → (p k : ℕ) → In k (slice_index_or rows p []) → (is_jump (slice_get code p) ≡ true) ⊎ (item_change (slice_get code p) false ≡ Opens)
  row-departs rows are p k among = ⊎_elim there (λ past. absurd (none rows p (let l = are.long in omega arith) among)) (cases_lt p (length code))
    where
      none : (xs : List (List ℕ)) (i : ℕ) → length xs ≤ i → In k (slice_index_or xs i []) → ⊥
      none [] i h j = j
      none (y ∷ ys) zero h j = omega arith
      none (y ∷ ys) (suc i) h j = none ys i (omega arith) j

      by : (edge : Edge) (e : IsEdge code edge) → edge.leave ≡ p → not (edge.leave == edge.from) ≡ true → item_change (slice_get code p) false ≡ Opens
      by edge e here differ = from e.branch.aborts refl (sites_of code e.walk) refl
        where
          own : edge.leave ≡ edge.from → item_change (slice_get code p) false ≡ Opens
          own same = absurd (let h : not true ≡ true = ap not (sym (eq-eqb edge.leave edge.from same)) ∙ differ in cc)

          leave : (b : Bool) → e.branch.aborts ≡ b → (sites : List ℕ) → sites_of code e.walk ≡ sites → edge.leave ≡ leave_of b e.branch.from sites
          leave b aborts sites open_sites = ap (λ (x : Edge). x.leave) e.are ∙ ap (λ b. leave_of b e.branch.from (sites_of code e.walk)) aborts ∙ ap (leave_of b e.branch.from) open_sites

          from : (b : Bool) → e.branch.aborts ≡ b → (sites : List ℕ) → sites_of code e.walk ≡ sites → item_change (slice_get code p) false ≡ Opens
          from false keeps sites open_sites = own (leave false keeps sites open_sites ∙ ap (λ (x : Edge). x.from) (sym e.are))
          from true aborts [] open_sites = own (leave true aborts [] open_sites ∙ ap (λ (x : Edge). x.from) (sym e.are))
          from true aborts (s ∷ older) open_sites =
              let at : s ≡ p = sym (leave true aborts (s ∷ older) open_sites) ∙ here in
              ap (λ q. item_change (slice_get code q) false) (sym at) ∙ site_speculates code e.walk s (subst (In s) (sym open_sites) (inl refl))

      there : p < length code → (is_jump (slice_get code p) ≡ true) ⊎ (item_change (slice_get code p) false ≡ Opens)
      there low =
          let c = ((are.each p low).exact k).0 (contains_in k (slice_index_or rows p []) among) in
          let s = in_map_source access_of (record { item = k; location = p }) _ (in_contains (record { item = k; location = p }) (leaves_of code graph.edges) c) in
          let f = filter_in (leaves_before code) graph.edges s.0 s.1 in
          let here : s.0.leave ≡ p = ap (λ (a : Access). a.location) (sym s.2) in
          let test = (and_parts (is_label (slice_get code s.0.to)) _ f.1).1 in
          ⊎_elim (λ j. inl (ap (λ q. is_jump (slice_get code q)) (sym here) ∙ j)) (λ d. inr (by s.0 (edge_told code graph is_graph s.0 (contains_in s.0 graph.edges f.0)) here d)) (or_cases (is_jump (slice_get code s.0.leave)) _ test)
