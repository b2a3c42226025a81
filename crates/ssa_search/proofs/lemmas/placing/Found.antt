-- What the search over blocks finds is what is live at reachable labels.
use Rattle.std.proofs.Common.{◌≡◌, ◌↔◌, ℕ, suc, Bool, true, List, refl, sym, ap, subst, ◌∙◌}
use Rattle.std.specs.Prelude.{slice_get}
use Rattle.std.specs.List.{Contains}
use Rattle.bril_tree.specs.declared.numbered.Instr.{Instr}
use Rattle.bril_tree.specs.Operand.{Location}
use Rattle.graph_search.specs.declared.graph.Arc.{Arc}
use Rattle.graph_search.specs.Path.{Leads, IsReached as IsFound}
use Rattle.graph_search.proofs.Paths.{reached_seed, reached_step, reached_all}
use Rattle.ssa_search.specs.placing.Wanted.{is_label, head_of, Unassigned, IsWanted, Read, Left}
use Rattle.ssa_laws.specs.reaching_definitions.Told.{LeadToLabels}
use Rattle.ssa_search.proofs.lemmas.placing.Wanted.{wanted-live, label-wanted}
use Rattle.ssa_search.specs.placing.Blocks.{opens_at, block_arc, Enters, AreBlockArcs, AreSeeds, AreFirsts, IsLiveLabel, FindsLiveLabels}

-- A search over arcs that a gate opens where the edge's block doesn't assign the location before the edge leaves.
module _ (code : List Instr) (leads : LeadToLabels code) (a : Location) (arcs : List Arc) (blocks : AreBlockArcs code arcs) (seeds : List ℕ) (gate : Arc → Bool) (exposed : AreSeeds code a seeds)
    (opens : (k p : ℕ) → Enters code k p → (gate (block_arc code k p) ≡ true) ↔ Unassigned code a (head_of code p) (suc p)) where
  -- a label that is found
  record Label (k : ℕ) : Type 0 where
    wanted : IsWanted code a k
    label : is_label (slice_get code k) ≡ true

  step : (k h : ℕ) → Label k → Leads arcs gate k h → Label h
  step k h w l =
      let b = blocks.only l.arc l.there in
      let e = b.2 in
      let from : b.0 ≡ k = ap (λ (x : Arc). x.from) (sym b.3) ∙ l.leaves in
      let to : head_of code b.1 ≡ h = ap (λ (x : Arc). x.to) (sym b.3) ∙ l.enters in
      let passed : gate (block_arc code b.0 b.1) ≡ true = ap gate (sym b.3) ∙ l.passes in
      record {
        wanted = Left h k b.1 e.branch (sym to) e.reached w.label e.leaves (e.to ∙ from) (subst (λ x. Unassigned code a x (suc b.1)) to ((opens b.0 b.1 e).0 passed)) w.wanted;
        label = ap (λ x. is_label (slice_get code x)) (sym to) ∙ e.from_label;
      }

  found-wanted : (k : ℕ) → IsFound arcs seeds gate k → Label k
  found-wanted = reached_all arcs seeds gate Label
      (λ h c. let x = (exposed h).0 c in record { wanted = Read h x.point x.item x.head x.reached x.at x.reads x.unassigned; label = x.label })
      (λ k h w l. step k h w l)

  wanted-found : (k : ℕ) → is_label (slice_get code k) ≡ true → IsWanted code a k → IsFound arcs seeds gate k
  wanted-found h label (Read _ i item e r at reads u) = reached_seed arcs seeds gate h ((exposed h).1 (record { label = label; point = i; item = item; head = e; reached = r; at = at; reads = reads; unassigned = u }))
  wanted-found h label (Left _ k p branch e r klabel leaves to u w) =
      let n : Enters code k p = record { reached = r; label = klabel; from_label = ap (λ x. is_label (slice_get code x)) (sym e) ∙ label; branch = branch; leaves = leaves; to = to } in
      reached_step arcs seeds gate k h (wanted-found k klabel w)
      (record {
        arc = block_arc code k p;
        there = blocks.there k p n;
        leaves = refl;
        enters = sym e;
        passes = (opens k p n).1 (subst (λ x. Unassigned code a x (suc p)) e u);
      })

  -- the labels that are found are the reached ones where the location is live
  pub found-live : (k : ℕ) → IsFound arcs seeds gate k ↔ IsLiveLabel code a k
  found-live k = (
    (λ f. let w = found-wanted k f in let s = wanted-live code leads a k w.wanted in record { label = w.label; reached = s.0; live = s.1 }),
    (λ h. wanted-found k h.label (label-wanted code leads a k h.label h.reached h.live)),
  )

-- the gate that is shut behind the first points that assign the location
pub finds-live_labels : (arcs : List Arc) (seeds first found : List ℕ) → ((k : ℕ) → Contains found k ↔ IsFound arcs seeds (opens_at first) k) → FindsLiveLabels arcs seeds first found
finds-live_labels arcs seeds first found is code a leads blocks exposed firsts k =
    let f = found-live code leads a arcs blocks seeds (opens_at first) exposed (λ j p e. firsts p e.reached) k in
    ((λ c. f.0 ((is k).0 c)), (λ h. (is k).1 (f.1 h)))
