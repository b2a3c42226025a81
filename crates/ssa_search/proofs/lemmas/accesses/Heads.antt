-- Heads of blocks and the arcs between blocks are points of the function, and so are the items of accesses.
use Rattle.std.proofs.Common.{◌≡◌, ℕ, ◌<◌, List, length, get_or, refl, sym, subst, ◌∙◌, arith}
use Rattle.std.specs.Prelude.{slice_get, slice_index}
use Rattle.std.specs.List.{All, Contains}
use Rattle.std.proofs.lemmas.List.{get_or_default}
use Rattle.std.proofs.lemmas.List.Elements.{Contains-get_or}
use Rattle.bril_tree.specs.declared.numbered.Instr.{Instr}
use Rattle.flow_graph.specs.declared.reads.Access.{Access}
use Rattle.graph_search.specs.declared.graph.Arc.{Arc}
use Rattle.graph_search.specs.Path.{IsBetween}
use Rattle.ssa_search.specs.accesses.Accesses.{AreBlockAccesses}
use Rattle.ssa_search.proofs.lemmas.accesses.Labels.{label-within}
use Rattle.ssa_search.proofs.lemmas.accesses.Tracking.{assigned-within, location-of}
use Rattle.ssa_search.specs.placing.Blocks.{AreBlockArcs}
use Rattle.ssa_search.specs.placing.Wanted.{head_of}
use Rattle.ssa_search.proofs.lemmas.placing.Wanted.{head-le}

module _ (code : List Instr) where
  pub heads-inside : (heads : List ℕ) → length heads ≡ length code → ((point : ℕ) → point < length code → slice_index heads point ≡ head_of code point) → All (λ head. head < length code) heads
  heads-inside heads long are k d low =
      let is = get_or_default heads k d 0 low ∙ are k (omega (arith, long, low)) in
      let before = head-le code k in
      omega (arith, is, before, long, low)

  pub arcs-between : (arcs : List Arc) → AreBlockArcs code arcs → All (IsBetween (length code)) arcs
  arcs-between arcs are k d low =
      let o = are.only (get_or arcs k d) (Contains-get_or arcs k d low) in
      subst (IsBetween (length code)) (sym o.3) (label-within code (slice_get code o.0) o.0 refl o.2.label, label-within code (slice_get code (head_of code o.1)) (head_of code o.1) refl o.2.from_label)

  pub readers-inside : (exposed firsts : List Access) → AreBlockAccesses code exposed firsts → All (λ (access : Access). access.item < length code) exposed
  readers-inside exposed firsts are k d low =
      let access = get_or exposed k d in
      let a = location-of access.location in
      let x = (are.exposed a.0 access.item).0 (subst (λ n. Contains exposed (record { item = access.item; location = n })) (sym a.1) (Contains-get_or exposed k d low)) in
      label-within code (slice_get code access.item) access.item refl x.label

  pub writers-inside : (exposed firsts : List Access) → AreBlockAccesses code exposed firsts → All (λ (access : Access). access.item < length code) firsts
  writers-inside exposed firsts are k d low =
      let access = get_or firsts k d in
      let a = location-of access.location in
      let x = (are.firsts a.0 access.item).0 (subst (λ n. Contains firsts (record { item = access.item; location = n })) (sym a.1) (Contains-get_or firsts k d low)) in
      assigned-within code a.0 access.item x.assigns
