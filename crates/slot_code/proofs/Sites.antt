-- The open sites of a walk, by the tables of its function.
use Rattle.std.proofs.Common.{◌≡◌, ℕ, List, Some, ap, ◌∙◌}
use Rattle.std.specs.Prelude.{option_map, slice_get, slice_index}
use Rattle.std.proofs.lemmas.Option.{get_or_from_slice_get, slice_get-map}
use Rattle.bril_tree.specs.declared.numbered.Instr.{Instr}
use Rattle.bril_tree.specs.Edge.{Branch}
use Rattle.bril_tree.specs.Sites.{AreSitesSound, sites_of}
use Rattle.bril_tree.specs.Walk.{IsWalk, end_of}
use Rattle.flow_graph.proofs.Told.{sites_of_walk}
use Rattle.slot_code.specs.Lowered.{AreNewestSites, newest_open}

-- the newest at the end of a walk
pub newest_at_end : (code : List Instr) → AreSitesSound code → (newest : List ℕ) → AreNewestSites code newest → (walk : List Branch) → IsWalk code walk → slice_index newest (end_of walk) ≡ slice_index (sites_of code walk) 0
newest_at_end code sound newest are walk is =
    get_or_from_slice_get newest (end_of walk) (newest_open (Some (sites_of code walk))) 0
    (ap (λ ns. slice_get ns (end_of walk)) are.are ∙ (slice_get-map newest_open are.graph.sites (end_of walk) ∙ ap (option_map newest_open) (sites_of_walk code are.graph are.is sound walk is)))
