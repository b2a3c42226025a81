-- How many speculations are open in a frame, which is the newest of them, and that its words are enough for them.
use Rattle.std.proofs.Common.{◌≡◌, ℕ, suc, ◌+◌, ◌*◌, ◌<◌, ◌≤◌, List, ◌∷◌, length, mul-le-mul_left, Option, Some, None, sym, ap, ◌∙◌, subst, arith}
use Rattle.std.specs.Prelude.{option_map, slice_get}
use Rattle.std.proofs.lemmas.Option.{get_or_from_slice_get, slice_get-map}
use Rattle.simulation.proofs.After.{after-suc}
use Rattle.bril_tree.specs.FrameWords.{frame_head}
use Rattle.bril_tree.specs.Run.{first_state}
use Rattle.bril_tree.specs.Sites.{AreFirstSites, sites_of}
use Rattle.bril_tree.specs.State as bril
use Rattle.bril_tree.specs.Step.{step}
use Rattle.bril_tree.proofs.Acceptance.{accepted_function}
use Rattle.bril_tree.proofs.Elements.{get_in, get_inside}
use Rattle.bril_tree.proofs.Members.{contains_in}
use Rattle.flow_graph.proofs.OpenSites.{one_list}
use Rattle.flow_graph.proofs.Told.{first_sites}
use Rattle.placement_laws.specs.Open.{newest_site}
use Rattle.rv64_emit_laws.specs.layout.Homes.{depth_at, newest_at}
use Rattle.rv64_words.specs.State.{State}
use Rattle.slot_code.specs.declared.slots.SlotFunction.{SlotFunction}
use Rattle.slot_code.specs.Lowered.{IsLoweredFunction, open_count}
use Rattle.slot_code.proofs.Sites.{newest_at_end}
use Rattle.type_soundness.specs.WellTyped.{IsWellTyped}
use Rattle.rv64_emit_laws.proofs.Relation.{RunsAlike}
use Rattle.rv64_emit_laws.proofs.Setting.{Setting}
use Rattle.rv64_emit_laws.proofs.Points.{is_lowered, well_typed}

module _ (S : Setting) (f : bril.Frame) (g : SlotFunction) (there : slice_get S.slots.funcs f.function ≡ Some g) (w : IsWellTyped S.p f) where
  lowered : IsLoweredFunction w.function g
  lowered = is_lowered S f g there w

  -- as many saves as the depth at its point says
  pub saves_are : length f.saves ≡ depth_at g f.point
  saves_are = by found.0 found.1
    where
      inside : f.point < length lowered.depths.graph.sites
      inside = let points = lowered.depths.is.points in let within = w.within in omega arith

      found : (o : Option (List ℕ)) × (slice_get lowered.depths.graph.sites f.point ≡ Some o)
      found = get_inside lowered.depths.graph.sites f.point inside

      depth_is : (o : Option (List ℕ)) → slice_get lowered.depths.graph.sites f.point ≡ Some o → depth_at g f.point ≡ open_count o
      depth_is o e =
          get_or_from_slice_get g.depths f.point (open_count o) 0
          (ap (λ ds. slice_get ds f.point) lowered.depths.are ∙ (slice_get-map open_count lowered.depths.graph.sites f.point ∙ ap (option_map open_count) e))

      by : (o : Option (List ℕ)) → slice_get lowered.depths.graph.sites f.point ≡ Some o → length f.saves ≡ depth_at g f.point
      by None e = absurd (lowered.depths.is.unreached f.point e (record { walk = w.walk; is = w.is; ends = w.ends }))
      by (Some sites) e =
          let first = lowered.depths.is.reached f.point sites e in
          let own = first_sites w.function.code w.walk (accepted_function S.p f.function w.function S.accepted w.there).sites w.is in
          let same = one_list w.function.code f.point (sites_of w.function.code w.walk) sites (subst (λ n. AreFirstSites w.function.code n (sites_of w.function.code w.walk)) w.ends own) first in
          w.saves ∙ (ap length same ∙ sym (depth_is (Some sites) e))

  -- the newest open `speculate` at its point is that of the walk that leads there
  pub newest_is : newest_at g f.point ≡ newest_site w.function.code w.walk
  newest_is = ap (newest_at g) (sym w.ends) ∙ newest_at_end w.function.code (accepted_function S.p f.function w.function S.accepted w.there).sites g.newest lowered.newest w.walk w.is

  -- the frame has words for the slots as they are, and as they were at each open speculation
  pub saves_fit : frame_head + length g.slots * (1 + length f.saves) ≤ g.words
  saves_fit =
      let most : length (sites_of w.function.code w.walk) ≤ lowered.words.depth = lowered.words.is.most w.walk w.is in
      let few : length f.saves ≤ lowered.words.depth = omega (arith, w.saves) in
      let all : length g.slots * (1 + length f.saves) ≤ length g.slots * (1 + lowered.words.depth) = mul-le-mul_left (length g.slots) (omega arith) in
      let words : g.words ≡ frame_head + length g.slots * (1 + lowered.words.depth) = lowered.words.are ∙ ap (λ n. frame_head + n * (1 + lowered.words.depth)) (sym lowered.count) in
      omega arith

  -- a step has the cost of all words of the frame
  pub frame_dear : 128 + 8 * g.words ≤ S.cost
  frame_dear =
      let most = S.is_cost.largest.most w.function g.words (contains_in w.function S.p.funcs (get_in S.p.funcs f.function w.function w.there)) lowered.words in
      let e = S.is_cost.is in
      omega arith

module _ (S : Setting) (s : bril.State) (t : State) (r : RunsAlike S s t) where
  -- the newest frame is well typed, and so is that after the step
  pub now_typed : IsWellTyped S.p r.frame
  now_typed = well_typed S r.steps r.frame r.older (ap (λ x. x.frames) (sym r.is) ∙ r.frames)

  pub next_typed : (f : bril.Frame) (older : List bril.Frame) → (step S.p S.limits s).frames ≡ f ∷ older → IsWellTyped S.p f
  next_typed f older frames =
      well_typed S (suc r.steps) f older (ap (λ x. x.frames) (after-suc (step S.p S.limits) r.steps (first_state S.p S.limits S.args) ∙ ap (step S.p S.limits) (sym r.is)) ∙ frames)
