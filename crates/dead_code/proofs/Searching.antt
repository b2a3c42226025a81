-- What the search from the readers that remain finds is where a location is live in what remains.
use Rattle.std.proofs.Common.{◌≡◌, ◌⊎◌, ℕ, suc, false, List, refl, sym, ap, subst, ◌∙◌, inl, inr, ⊎_elim}
use Rattle.std.specs.Prelude.{slice_get}
use Rattle.std.specs.List.{Contains}
use Rattle.bril_tree.specs.declared.numbered.Instr.{Instr}
use Rattle.bril_tree.specs.Assigned.{assigns_at}
use Rattle.bril_tree.specs.Edge.{Branch, branches_at, branches_from}
use Rattle.bril_tree.specs.Leaving.{Leaves}
use Rattle.bril_tree.specs.Live.{IsLive, Here, Later}
use Rattle.bril_tree.specs.Membership.{In}
use Rattle.bril_tree.specs.Operand.{Location}
use Rattle.bril_tree.specs.Sites.{Opens, Keeps, item_change}
use Rattle.bril_tree.specs.Walk.{IsReached, end_of}
use Rattle.bril_tree.proofs.Assignments.{site_speculates}
use Rattle.bril_tree.proofs.Members.{in_contains, contains_in}
use Rattle.flow_graph.specs.Location.{number_of}
use Rattle.graph_search.specs.Path.{IsReached as IsFound, Leads, other_than}
use Rattle.graph_search.specs.declared.graph.Arc.{Arc}
use Rattle.graph_search.proofs.OpenArcs.{open-differs, differs-open}
use Rattle.graph_search.proofs.Paths.{reached_seed, reached_step, reached_all}
use Rattle.live_sets.specs.Arcs.{AreBackArcs, back_arc}
use Rattle.live_sets.proofs.Law.{AreReaders}
use Rattle.flow_graph.proofs.Locations.{assigned-number, number-assigned}
use Rattle.dead_code.proofs.Chain.{Gone, Chain}
use Rattle.dead_code.proofs.Step.{reached-next}

module _ (code made : List Instr) (c : Chain code made) where
  -- the same branches leave from a reached point
  pub leaves-made : (p : ℕ) (b : Branch) → IsReached code p → Leaves code p b → Leaves made p b
  leaves-made p b reached (inl on) = inl (subst (λ l. Contains l b) (sym (c.branches p reached)) on.0, on.1)
  leaves-made p b reached (inr a) = inr (record { aborts = a.aborts; walk = a.walk; is = c.walks a.walk a.is; at = subst (λ l. Contains l b) (sym (c.branches (end_of a.walk) (record { walk = a.walk; is = a.is; ends = refl }))) a.at; older = a.older; sites = c.sites a.walk a.is ∙ a.sites })

  pub leaves-code : (p : ℕ) (b : Branch) → IsReached code p → Leaves made p b → Leaves code p b
  leaves-code p b reached (inl on) = inl (subst (λ l. Contains l b) (c.branches p reached) on.0, on.1)
  leaves-code p b reached (inr a) =
      let is = c.were a.walk a.is in
      inr (record { aborts = a.aborts; walk = a.walk; is = is; at = subst (λ l. Contains l b) (c.branches (end_of a.walk) (record { walk = a.walk; is = is; ends = refl })) a.at; older = a.older; sites = sym (c.sites a.walk is) ∙ a.sites })

  module _ (arcs : List Arc) (are : AreBackArcs code arcs) (x : Location) (seeds : List ℕ) (readers : AreReaders made x seeds) where
    unassigned : (q : ℕ) → (number_at_q : In x (assigns_at (slice_get code q)) → ⊥) → In x (assigns_at (slice_get made q)) → ⊥
    unassigned q none i = by (c.became q)
      where
        by : (slice_get made q ≡ slice_get code q) ⊎ Gone code made q → ⊥
        by (inl same) = none (subst (λ o. In x (assigns_at o)) same i)
        by (inr g) = subst (λ o. In x (assigns_at o)) g.is i

    pub found-live : (p : ℕ) → IsFound arcs seeds (other_than (number_of x)) p → IsReached code p → IsLive made x p
    found-live = reached_all arcs seeds (other_than (number_of x)) (λ n. IsReached code n → IsLive made x n) (λ n s reached. let r = readers.only n s in Here n r.0 r.1 r.2) step
      where
        step : (m q : ℕ) → (IsReached code m → IsLive made x m) → Leads arcs (other_than (number_of x)) m q → IsReached code q → IsLive made x q
        step m q before leads reached =
            let b = are.only leads.arc leads.there in
            let starts : b.1.to ≡ m = ap (λ (a : Arc). a.from) (sym b.3) ∙ leads.leaves in
            let ends : b.0 ≡ q = ap (λ (a : Arc). a.to) (sym b.3) ∙ leads.enters in
            let here : IsReached code b.0 = subst (IsReached code) (sym ends) reached in
            let none : In x (assigns_at (slice_get code b.0)) → ⊥ = λ i. open-differs (number_of x) leads.arc leads.passes (ap (λ (a : Arc). a.label) b.3 ∙ assigned-number (slice_get code b.0) x i) in
            subst (IsLive made x) ends
            (Later b.0 b.1 (leaves-made b.0 b.1 here b.2) (λ k. unassigned b.0 none (in_contains x (assigns_at (slice_get made b.0)) k))
            (subst (IsLive made x) (sym starts) (before (subst (IsReached code) starts (reached-next code b.0 b.1 here b.2)))))

    pub live-found : (p : ℕ) → IsReached code p → IsLive made x p → IsFound arcs seeds (other_than (number_of x)) p
    live-found p reached (Here _ item at reads) = reached_seed arcs seeds (other_than (number_of x)) p (readers.there p item at reads)
    live-found p reached (Later _ b leaves none live) =
        let was = leaves-code p b reached leaves in
        let before = live-found b.to (reached-next code p b reached was) live in
        let free : In x (assigns_at (slice_get code p)) → ⊥ = by_item was (c.became p) in
        reached_step arcs seeds (other_than (number_of x)) b.to p before
        (record { arc = back_arc code p b.to; there = are.there p b was; leaves = refl; enters = refl; passes = differs-open (number_of x) (back_arc code p b.to) (λ e. free (number-assigned (slice_get code p) x e)) })
      where
        by_item : Leaves code p b → (slice_get made p ≡ slice_get code p) ⊎ Gone code made p → In x (assigns_at (slice_get code p)) → ⊥
        by_item was (inl same) i = none (contains_in x (assigns_at (slice_get made p)) (subst (λ o. In x (assigns_at o)) (sym same) i))
        by_item was (inr g) i = (g.why reached).unused x (subst (λ o. In x (assigns_at o)) g.was i) (subst (IsLive made x) (goes leaves) live)
          where
            goes : Leaves made p b → b.to ≡ suc p
            goes (inl on) = ap (λ (w : Branch). w.to) (⊎_elim (λ e. e) (λ n. absurd n) (subst (λ o. In b (branches_from made p o)) g.is (in_contains b (branches_at made p) on.0)))
            goes (inr a) = absurd (let o = site_speculates made a.walk p (subst (In p) (sym a.sites) (inl refl)) in let h = ap (λ o. item_change o false) g.is in let f : Keeps ≡ Opens = sym h ∙ o in cc)
