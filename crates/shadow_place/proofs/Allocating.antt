-- Registers that are own, and registers that are shared, are allocations.
use Rattle.std.proofs.Common.{◌≡◌, ◌≢◌, ◌⊎◌, inl, ⊎_elim, ℕ, zero, suc, ◌<◌, ◌≤◌, List, [], ◌∷◌, ◌++◌, length, map, take, Option, Some, None, refl, sym, ap, ◌∙◌, subst, arith}
use Rattle.std.specs.Prelude.{option_map, slice_get, slice_index}
use Rattle.std.specs.List.{Contains, range_with_len}
use Rattle.std.proofs.lemmas.Bool.{cases_lt}
use Rattle.std.proofs.lemmas.List.{get_or_past}
use Rattle.std.proofs.lemmas.Option.{slice_get-map, slice_get_within}
use Rattle.bril_tree.specs.declared.numbered_function.Func.{Func}
use Rattle.bril_tree.specs.Assigned.{assigns_at}
use Rattle.bril_tree.specs.Edge.{Branch, branches_at}
use Rattle.bril_tree.specs.Leaving.{IsEdge, edge_of}
use Rattle.bril_tree.specs.Live.{IsLive}
use Rattle.bril_tree.specs.Membership.{In}
use Rattle.bril_tree.specs.Operand.{Location, Variable}
use Rattle.bril_tree.specs.Sites.{sites_of}
use Rattle.bril_tree.specs.Walk.{IsWalk, end_of}
use Rattle.bril_tree.proofs.Branches.{branch_from, walk_within}
use Rattle.bril_tree.proofs.Elements.{get_inside, in_get}
use Rattle.bril_tree.proofs.Members.{contains_in, in_append_right, in_contains}
use Rattle.bril_tree.proofs.Replays.{sites-inside}
use Rattle.flow_graph.specs.Graph.{GraphView, IsGraphOf}
use Rattle.flow_graph.specs.Location.{number_of}
use Rattle.flow_graph.proofs.Told.{edge_listed, sites_of_walk}
use Rattle.live_sets.specs.declared.live.Live.{Live}
use Rattle.live_sets.specs.Liveness.{TellsLive}
use Rattle.placement_laws.specs.Homes.{IsSlotIn, number_in, slot_of}
use Rattle.placement_laws.specs.Spans as laws
use Rattle.placement_laws.proofs.Different.{number_one}
use Rattle.placement_laws.proofs.Known.{are_known}
use Rattle.placement_laws.proofs.Living.{live_within}
use Rattle.placement_laws.proofs.Homes.{location_back}
use Rattle.slot_code.specs.declared.slots.SlotFunction.{SlotFunction}
use Rattle.slot_code.specs.Flow.{slot_location}
use Rattle.slot_code.proofs.Places.{slot_place}
use Rattle.shadow_place.specs.declared.spans.Span.{Span}
use Rattle.shadow_place.specs.Allocation.{IsAllocation}
use Rattle.shadow_place.specs.Placement.{IsAcceptedLowered}
use Rattle.shadow_place.specs.Registers.{own_register}
use Rattle.shadow_place.specs.Spans.{AreShared, HaveNeeds, IsCovered, IsLiveSlot, numbers_of}
use Rattle.shadow_place.proofs.Registering.{few_have_registers, own_are_homes, own_are_own}
use Rattle.shadow_place.proofs.Saving.{sound_code}

get_take : {A : Type 0} (xs : List A) (many k : ℕ) → k < many → slice_get (take many xs) k ≡ slice_get xs k
get_take [] zero k less = refl
get_take [] (suc many) k less = refl
get_take (x ∷ xs) zero k less = absurd (omega arith)
get_take (x ∷ xs) (suc many) zero less = refl
get_take (x ∷ xs) (suc many) (suc k) less = get_take xs many k (omega arith)

module _ (f : Func) (g : SlotFunction) (in_prog : IsAcceptedLowered f g) where
  -- ---- each slot has a register of its own

  pub own_allocation : (registers : List ℕ) → registers ≡ map own_register (range_with_len 0 (length g.slots)) → length g.slots ≤ 23 → IsAllocation f g registers
  own_allocation registers are low = record {
    homes = own_are_homes (length g.slots) registers are;
    spans = λ x. record { first = 0; last = length f.code };
    are = record {
      live = λ point x live. (omega arith, live_within f.code x point live);
      assigned = λ walk branch x is at c. (omega arith, walk_within f.code (branch ∷ walk) (at, is));
      arguments = λ j lt. (omega arith, omega arith);
      kept = λ walk newer older site x is sites live. (omega arith, walk_within f.code walk is);
    };
    separate = λ x y u v ne some same. absurd (ne (number_one f g in_prog.lowered x y u v (own_are_own (length g.slots) registers are (number_in g x) (number_in g y) some same)));
    few = λ few slot less. few_have_registers (length g.slots) registers are low slot less;
  }

  -- ---- slots share registers

  module _ (live : Live) (tells : TellsLive f.code live) (graph : GraphView) (is_graph : IsGraphOf f.code graph) (many : ℕ) (within : many ≤ length g.slots) (near : many ≤ 254) (spans : List Span) (long : length spans ≡ many)
      (needs : HaveNeeds f.code f.args g live (numbers_of (take many g.slots)) graph.edges graph.sites spans) where
    abbrev span_in : Option Span → laws.Span
    span_in None = record { first = 0; last = length f.code }
    span_in (Some s) = record { first = s.first; last = s.last }

    -- a slot that has no span takes all points
    covered : (x : Location) (point : ℕ) → point ≤ length f.code → (number_in g x < many → IsCovered spans (number_in g x) point) → laws.Covers (span_in (slice_get spans (number_in g x))) point
    covered x point inside here = by (slice_get spans (number_in g x)) refl
      where
        by : (o : Option Span) → slice_get spans (number_in g x) ≡ o → laws.Covers (span_in o) point
        by None e = (omega arith, inside)
        by (Some s) e = here (let low = slice_get_within spans (number_in g x) s e in omega arith) s e

    numbered : (x : Location) → IsSlotIn g x → number_in g x < many → slice_get (numbers_of (take many g.slots)) (number_in g x) ≡ Some (number_of x)
    numbered x in_g less =
        slice_get-map (λ slot. number_of (slot_location slot)) (take many g.slots) (number_in g x)
        ∙ (ap (option_map (λ slot. number_of (slot_location slot))) (get_take g.slots many (number_in g x) less ∙ slot_place f g in_prog.lowered (slot_of x) in_g)
        ∙ ap (λ y. Some (number_of y)) (location_back x))

    known : laws.AreKnown f.code f.args (IsSlotIn g)
    known = are_known in_prog.prog in_prog.number f g in_prog.accepted in_prog.there in_prog.lowered

    live_slot : (x : Location) (point : ℕ) → IsLive f.code x point → number_in g x < many → IsLiveSlot live (numbers_of (take many g.slots)) point (number_in g x)
    live_slot x point alive less = (x, numbered x (known.live point x alive) less, (tells x point).1 alive)

    are_spans : laws.AreSpans f.code f.args (λ x. span_in (slice_get spans (number_in g x)))
    are_spans = record {
      live = λ point x alive. covered x point (live_within f.code x point alive) (λ less. needs.alive (number_in g x) point (live_slot x point alive less));
      assigned = assigned;
      arguments = λ k less. covered (Variable k) 0 (omega arith) (λ low. needs.arguments k less);
      kept = kept;
    }
      where
        assigned : (walk : List Branch) (branch : Branch) (x : Location) → IsWalk f.code walk → Contains (branches_at f.code (end_of walk)) branch → Contains (assigns_at (slice_get f.code (end_of walk))) x → laws.Covers (span_in (slice_get spans (number_in g x))) branch.to
        assigned walk branch x is at c =
            let edge = edge_of (sites_of f.code walk) branch in
            let is_edge : IsEdge f.code edge = record { walk = walk; is = is; branch = branch; at = at; are = refl } in
            let listed = edge_listed f.code graph is_graph (sound_code f g in_prog) edge is_edge in
            let from = branch_from f.code (end_of walk) branch (in_contains branch (branches_at f.code (end_of walk)) at) in
            covered x branch.to (walk_within f.code (branch ∷ walk) (at, is)) (λ low. needs.assigned edge (number_in g x) branch.to listed (refl, (x, subst (λ n. Contains (assigns_at (slice_get f.code n)) x) (sym from) c, refl)))

        kept : (walk : List Branch) (newer older : List ℕ) (site : ℕ) (x : Location) → IsWalk f.code walk → sites_of f.code walk ≡ newer ++ site ∷ older → IsLive f.code x site → laws.Covers (span_in (slice_get spans (number_in g x))) (end_of walk)
        kept walk newer older site x is sites alive =
            let among : In site (sites_of f.code walk) = subst (In site) (sym sites) (in_append_right site newer (site ∷ older) (inl refl)) in
            let place = in_get site (sites_of f.code walk) among in
            let low = sites-inside f.code walk is place.0 site place.1 in
            let end = walk_within f.code walk is in
            let points = is_graph.points in
            covered x (end_of walk) end
            (λ less. needs.kept (end_of walk) site (end_of walk) (number_in g x) (omega arith) (omega arith) (refl, (sites_of f.code walk, sites_of_walk f.code graph is_graph (sound_code f g in_prog) walk is, contains_in site (sites_of f.code walk) among))
            (live_slot x site alive less))

    pub shared_allocation : (registers : List ℕ) → AreShared registers spans → 23 < length g.slots → IsAllocation f g registers
    shared_allocation registers shared more = record {
      homes = λ slot some. (shared.homes slot some, (let low = inside slot some in omega arith));
      spans = λ x. span_in (slice_get spans (number_in g x));
      are = are_spans;
      separate = separate;
      few = λ few slot less. (let count = in_prog.lowered.count in absurd (omega arith));
    }
      where
        inside : (slot : ℕ) → slice_index registers slot ≢ 0 → slot < many
        inside slot some = ⊎_elim (λ low. low) (λ past. absurd (some (get_or_past registers slot 0 (let l = shared.long in omega arith)))) (cases_lt slot many)

        separate : (x y : Location) → IsSlotIn g x → IsSlotIn g y → x ≢ y → slice_index registers (number_in g x) ≢ 0 → slice_index registers (number_in g x) ≡ slice_index registers (number_in g y) →
            ((span_in (slice_get spans (number_in g x))).last < (span_in (slice_get spans (number_in g y))).first) ⊎ ((span_in (slice_get spans (number_in g y))).last < (span_in (slice_get spans (number_in g x))).first)
        separate x y u v ne some same =
            let a = get_inside spans (number_in g x) (let low = inside (number_in g x) some in omega arith) in
            let b = get_inside spans (number_in g y) (let low = inside (number_in g y) (λ z. some (same ∙ z)) in omega arith) in
            let other : number_in g x ≢ number_in g y = (λ e. ne (number_one f g in_prog.lowered x y u v e)) in
            let apart = shared.apart (number_in g x) (number_in g y) a.0 b.0 other some same a.1 b.1 in
            subst (λ o. ((span_in o).last < (span_in (slice_get spans (number_in g y))).first) ⊎ ((span_in (slice_get spans (number_in g y))).last < (span_in o).first)) (sym a.1)
            (subst (λ o. (a.0.last < (span_in o).first) ⊎ ((span_in o).last < a.0.first)) (sym b.1) apart)
