-- One side goes on to the next point without the other, or both follow a branch by items of different kinds.
use Rattle.std.proofs.Common.{◌≡◌, ℕ, suc, false, List, [], ◌∷◌, Option, Some, None, refl, sym, ap, subst, ◌∙◌, inl}
use Rattle.std.specs.Prelude.{slice_get}
use Rattle.bril_tree.specs.declared.limits.Limits.{Limits}
use Rattle.bril_tree.specs.declared.numbered.Instr.{Instr}
use Rattle.bril_tree.specs.declared.program.Prog.{Prog}
use Rattle.bril_tree.specs.Accepted.{IsAccepted}
use Rattle.bril_tree.specs.Edge.{Branch, branches_at, branches_from, item_branches, onward}
use Rattle.bril_tree.specs.Membership.{In}
use Rattle.bril_tree.specs.Sites.{Keeps, item_change, sites_changed, sites_of}
use Rattle.bril_tree.specs.State.{Locals, Frame, State}
use Rattle.bril_tree.specs.Step.{code_of, item_at, item_step, running_step, frames_step, step}
use Rattle.bril_tree.specs.Walk.{end_of}
use Rattle.bril_tree.proofs.Branches.{branches_from-leave}
use Rattle.bril_tree.proofs.Members.{contains_in}
use Rattle.pass_edit_laws.specs.plan.Plan.{Plan, ValuesMatch, HoldsKnown, SavesMatch, Preserves, StatesMatch}
use Rattle.pass_edit_laws.specs.steps.Refinement.{ChangesPlaces}
use Rattle.pass_edit_laws.proofs.lemmas.steps.Steps.{onward_contents}

-- ---- steps at an item

-- a step is what the item does
pub step-at : (X : Prog) (limits : Limits) (s : State) (frame : Frame) (older : List Frame) → s.ended ≡ None → s.frames ≡ frame ∷ older → (item : Instr) → item_at X frame.function frame.point ≡ Some item → step X limits s ≡ item_step X limits (Some item) frame older s
step-at X limits s frame older runs frames item at =
    ap (λ o. running_step X limits o s) runs ∙ ap (λ l. frames_step X limits l s) frames ∙ ap (λ o. item_step X limits o frame older s) at

-- a step at an item that changes locations alone
pub changing-step : (X : Prog) (limits : Limits) (s : State) (frame : Frame) (older : List Frame) → s.ended ≡ None → s.frames ≡ frame ∷ older → (item : Instr) → item_at X frame.function frame.point ≡ Some item → (locations : Locals) → ChangesPlaces X limits item frame locations
    → step X limits s ≡ record s { frames = record frame { point = suc frame.point; locations = locations } ∷ older }
changing-step X limits s frame older runs frames item at locations changes = step-at X limits s frame older runs frames item at ∙ changes older s

-- the second state is the first with another newest frame; the counts of failed guards may differ
pub record IsReframed (s u : State) (frame : Frame) (older : List Frame) : Type 0 where
  pub ended : u.ended ≡ s.ended
  pub printed : u.printed ≡ s.printed
  pub blocks : u.blocks ≡ s.blocks
  pub frames : u.frames ≡ frame ∷ older

pub reframed : (s u : State) (frame : Frame) (older : List Frame) → u ≡ record s { frames = frame ∷ older } → IsReframed s u frame older
reframed s u frame older e = record { ended = ap (λ (z : State). z.ended) e; printed = ap (λ (z : State). z.printed) e; blocks = ap (λ (z : State). z.blocks) e; frames = ap (λ (z : State). z.frames) e }

-- ---- both sides follow a branch, by items that may differ

module _ (m : Plan) (P Q : Prog) (s t : State) (r : StatesMatch m P Q s t) where
  pub both_branch : (o : Option Instr) → item_at P r.frame.function r.frame.point ≡ o → (w : Branch) → In w (branches_from (code_of P r.frame.function) r.frame.point o) → (j : ℕ) (p q : Locals) (ps qs : List Locals) (u v : State)
      → IsReframed s u (record r.frame { point = w.to; locations = p; saves = ps }) r.older → IsReframed t v (record r.result_frame { point = j; locations = q; saves = qs }) r.result_older
      → m.PointsMatch r.frame.function w.to j → ValuesMatch (m.LocationsMatch r.frame.function w.to j) p q → HoldsKnown (m.IsKnown r.frame.function w.to) p
      → SavesMatch m P Q r.frame.function (sites_changed (item_change o w.aborts) r.frame.point (sites_of (code_of P r.frame.function) r.newest.contents.walk)) ps qs → StatesMatch m P Q u v
  both_branch o at w among j p q ps qs u v mine theirs points agree known saves =
      let code = code_of P r.frame.function in
      let contents = r.newest.contents in
      let from : w.from ≡ r.frame.point = branches_from-leave code r.frame.point o w among in
      let here : slice_get code w.from ≡ o = ap (slice_get code) from ∙ at in
      let among_here : In w (branches_at code r.frame.point) = subst (λ x. In w (branches_from code r.frame.point x)) (sym at) among in
      record {
        ended = mine.ended ∙ r.ended ∙ sym theirs.ended;
        printed = mine.printed ∙ r.printed ∙ sym theirs.printed;
        blocks = mine.blocks ∙ r.blocks ∙ sym theirs.blocks;
        frame = record r.frame { point = w.to; locations = p; saves = ps };
        older = r.older;
        frames = mine.frames;
        result_frame = record r.result_frame { point = j; locations = q; saves = qs };
        result_older = r.result_older;
        result_frames = theirs.frames;
        newest = record {
          function = r.newest.function;
          contents = record {
            walk = w ∷ contents.walk;
            is = (contains_in w (branches_at code (end_of contents.walk)) (subst (λ n. In w (branches_at code n)) (sym contents.ends) among_here), contents.is);
            ends = refl;
            points = points;
            locations = agree;
            known = known;
            saves = subst (λ x. SavesMatch m P Q r.frame.function (sites_changed (item_change x w.aborts) w.from (sites_of code contents.walk)) ps qs) (sym here)
                (subst (λ n. SavesMatch m P Q r.frame.function (sites_changed (item_change o w.aborts) n (sites_of code contents.walk)) ps qs) (sym from) saves);
          };
        };
        callers = r.callers;
      }

-- ---- one side without the other, or both to the next point

module _ (m : Plan) (P Q : Prog) (limits : Limits) (accepted : IsAccepted P) (preserves : Preserves m P Q) (s t : State) (r : StatesMatch m P Q s t) (runs : s.ended ≡ None) where
  result_runs : t.ended ≡ None
  result_runs = sym r.ended ∙ runs

  -- the result alone: an item that it has more
  pub result_moves : (b : Instr) → item_at Q r.result_frame.function r.result_frame.point ≡ Some b → (q : Locals) → ChangesPlaces Q limits b r.result_frame q
      → m.PointsMatch r.frame.function r.frame.point (suc r.result_frame.point) → ValuesMatch (m.LocationsMatch r.frame.function r.frame.point (suc r.result_frame.point)) r.frame.locations q
      → (n : StatesMatch m P Q s (step Q limits t)) × (n.frame ≡ r.frame) × (n.result_frame ≡ record r.result_frame { point = suc r.result_frame.point; locations = q })
  result_moves b at q changes points agree =
      let G = r.result_frame in
      let G' : Frame = record G { point = suc G.point; locations = q } in
      let contents = r.newest.contents in
      let moved : step Q limits t ≡ record t { frames = G' ∷ r.result_older } = changing-step Q limits t G r.result_older result_runs r.result_frames b at q changes in (
        record {
          ended = r.ended ∙ sym (ap (λ (z : State). z.ended) moved);
          printed = r.printed ∙ sym (ap (λ (z : State). z.printed) moved);
          blocks = r.blocks ∙ sym (ap (λ (z : State). z.blocks) moved);
          frame = r.frame;
          older = r.older;
          frames = r.frames;
          result_frame = G';
          result_older = r.result_older;
          result_frames = ap (λ (z : State). z.frames) moved;
          newest = record { function = r.newest.function; contents = record { walk = contents.walk; is = contents.is; ends = contents.ends; points = points; locations = agree; known = contents.known; saves = contents.saves } };
          callers = r.callers;
        },
        refl,
        refl,
      )

  -- the program alone: an item that the result lacks
  pub source_moves : (a : Instr) → item_at P r.frame.function r.frame.point ≡ Some a → item_branches (code_of P r.frame.function) r.frame.point a ≡ onward r.frame.point ∷ [] → item_change (Some a) false ≡ Keeps → (p : Locals) → ChangesPlaces P limits a r.frame p
      → m.PointsMatch r.frame.function (suc r.frame.point) r.result_frame.point → ValuesMatch (m.LocationsMatch r.frame.function (suc r.frame.point) r.result_frame.point) p r.result_frame.locations
      → HoldsKnown (m.IsKnown r.frame.function (suc r.frame.point)) p
      → (n : StatesMatch m P Q (step P limits s) t) × (n.frame ≡ record r.frame { point = suc r.frame.point; locations = p }) × (n.result_frame ≡ r.result_frame)
  source_moves a at branches keeps p changes points agree known =
      let F = r.frame in
      let G = r.result_frame in
      let F' : Frame = record F { point = suc F.point; locations = p } in
      let contents = r.newest.contents in
      let moved : step P limits s ≡ record s { frames = F' ∷ r.older } = changing-step P limits s F r.older runs r.frames a at p changes in (
        record {
          ended = ap (λ (z : State). z.ended) moved ∙ r.ended;
          printed = ap (λ (z : State). z.printed) moved ∙ r.printed;
          blocks = ap (λ (z : State). z.blocks) moved ∙ r.blocks;
          frame = F';
          older = r.older;
          frames = ap (λ (z : State). z.frames) moved;
          result_frame = G;
          result_older = r.result_older;
          result_frames = r.result_frames;
          newest = record { function = r.newest.function; contents = onward_contents m P Q limits accepted preserves F.function F.point G.point F.locations G.locations F.saves G.saves contents a at branches keeps G.point p G.locations points agree known };
          callers = r.callers;
        },
        refl,
        refl,
      )

  -- both, by items of different kinds
  pub both_move : (a b : Instr) → item_at P r.frame.function r.frame.point ≡ Some a → item_at Q r.result_frame.function r.result_frame.point ≡ Some b
      → item_branches (code_of P r.frame.function) r.frame.point a ≡ onward r.frame.point ∷ [] → item_change (Some a) false ≡ Keeps → (p q : Locals) → ChangesPlaces P limits a r.frame p → ChangesPlaces Q limits b r.result_frame q
      → m.PointsMatch r.frame.function (suc r.frame.point) (suc r.result_frame.point) → ValuesMatch (m.LocationsMatch r.frame.function (suc r.frame.point) (suc r.result_frame.point)) p q
      → HoldsKnown (m.IsKnown r.frame.function (suc r.frame.point)) p → StatesMatch m P Q (step P limits s) (step Q limits t)
  both_move a b at bt branches keeps p q changes result_changes points agree known =
      let F = r.frame in
      let G = r.result_frame in
      both_branch m P Q s t r (Some a) at (onward F.point) (subst (In (onward F.point)) (sym branches) (inl refl)) (suc G.point) p q F.saves G.saves (step P limits s) (step Q limits t)
      (reframed s (step P limits s) (record F { point = suc F.point; locations = p }) r.older (changing-step P limits s F r.older runs r.frames a at p changes))
      (reframed t (step Q limits t) (record G { point = suc G.point; locations = q }) r.result_older (changing-step Q limits t G r.result_older result_runs r.result_frames b bt q result_changes)) points agree known
      (subst (λ c. SavesMatch m P Q F.function (sites_changed c F.point (sites_of (code_of P F.function) r.newest.contents.walk)) F.saves G.saves) (sym keeps) r.newest.contents.saves)
