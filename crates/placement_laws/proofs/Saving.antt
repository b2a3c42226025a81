-- What searches back from guards find is what is saved.
use Rattle.std.proofs.Common.{◌≡◌, ℕ, refl, sym, ap, ◌∙◌, subst, arith, List, [], Some}
use Rattle.std.specs.Prelude.{◌↔◌, slice_get}
use Rattle.std.specs.List.{Contains}
use Rattle.bril_tree.specs.declared.numbered.Instr.{Instr}
use Rattle.bril_tree.specs.declared.numbered_function.Func.{Func}
use Rattle.bril_tree.specs.declared.program.Prog.{Prog}
use Rattle.bril_tree.specs.Accepted.{IsAccepted}
use Rattle.bril_tree.specs.Assigned.{assigns_at}
use Rattle.bril_tree.specs.Edge.{Branch, branches_at}
use Rattle.bril_tree.specs.Live.{IsLive}
use Rattle.bril_tree.specs.Operand.{Location}
use Rattle.bril_tree.specs.Walk.{end_of}
use Rattle.bril_tree.proofs.Branches.{branch_from}
use Rattle.bril_tree.proofs.Members.{in_contains}
use Rattle.graph_search.specs.declared.graph.Arc.{Arc}
use Rattle.graph_search.specs.Path.{IsReached, Leads, other_than}
use Rattle.graph_search.proofs.Paths.{reached_all, reached_seed, reached_step}
use Rattle.placement_laws.specs.Laws.{IsAssignedInside}
use Rattle.placement_laws.specs.Open.{Already, IsOpen, IsWayOut, LeadsOut, Onward, StaysOpen}
use Rattle.placement_laws.specs.Saved.{IsSaved}
use Rattle.placement_laws.specs.Search.{AreGuards, AreOpenArcs, open_arc}
use Rattle.placement_laws.proofs.Known.{aborting_assigns_nothing}
use Rattle.placement_laws.proofs.Opening.{open_at}

-- a way out leaves from the end of its walk
pub out_from : (code : List Instr) (level : ℕ) (way : Branch) (out : IsWayOut code level way) → way.from ≡ end_of out.walk
out_from code level way out = branch_from code (end_of out.walk) way (in_contains way (branches_at code (end_of out.walk)) out.at)

-- the site of a way out is open at its guard
pub out_open : (code : List Instr) (level : ℕ) (way : Branch) → IsWayOut code level way → IsOpen code level way.from
out_open code level way out = record { walk = out.walk; is = out.is; ends = sym (out_from code level way out); has = (let e = out.deep in omega arith) }

module _ (code : List Instr) (level label barred : ℕ) (arcs : List Arc) (guards : List ℕ) (are : AreOpenArcs code level arcs) (all : AreGuards code level label guards) where
  leads_seed : (guard : ℕ) → Contains guards guard → LeadsOut code level label guard
  leads_seed guard c =
      let g = all.only guard c in
      subst (LeadsOut code level label) g.3 (record { way = g.0; out = g.1; to = g.2; stays = Already g.0.from refl (out_open code level g.0 g.1) })

  leads_step : (from to : ℕ) → LeadsOut code level label from → Leads arcs (other_than barred) from to → LeadsOut code level label to
  leads_step from to out leads =
      let a = are.only leads.arc leads.there in
      let starts : a.1.to ≡ from = ap (λ (a : Arc). a.from) (sym a.5) ∙ leads.leaves in
      let ends : a.0 ≡ to = ap (λ (a : Arc). a.to) (sym a.5) ∙ leads.enters in
      subst (LeadsOut code level label) ends (record {
        way = out.way;
        out = out.out;
        to = out.to;
        stays = Onward a.0 a.1 a.2 a.3 (subst (StaysOpen code level out.way.from) (sym starts) out.stays);
      })

  stays_reached : (last point : ℕ) → StaysOpen code level last point → IsReached arcs guards (other_than barred) last → IsReached arcs guards (other_than barred) point
  stays_reached last point (Already _ e o) r = subst (IsReached arcs guards (other_than barred)) (sym e) r
  stays_reached last point (Onward _ branch o at rest) r =
      reached_step arcs guards (other_than barred) branch.to point (stays_reached last branch.to rest r)
      (record { arc = open_arc point branch.to; there = are.there point branch o at (open_at code level last branch.to rest); leaves = refl; enters = refl; passes = refl })

  pub reached_lead_out : (point : ℕ) → IsReached arcs guards (other_than barred) point ↔ LeadsOut code level label point
  reached_lead_out point = (
    λ r. reached_all arcs guards (other_than barred) (LeadsOut code level label) leads_seed leads_step point r,
    λ o. stays_reached o.way.from point o.stays (reached_seed arcs guards (other_than barred) o.way.from (all.there o.way o.out o.to)),
  )

module _ (p : Prog) (k : ℕ) (f : Func) (accepted : IsAccepted p) (there : slice_get p.funcs k ≡ Some f) (site : ℕ) (x : Location) where
  -- a guard assigns nothing, so an item that does leads on to it
  saved_from : (inside : IsAssignedInside f.code site x) (point : ℕ) → StaysOpen f.code inside.level inside.leads.way.from point → Contains (assigns_at (slice_get f.code point)) x → IsSaved f.code site x
  saved_from inside point (Already _ e o) c =
      let leads = inside.leads in
      let guard = out_from f.code inside.level leads.way leads.out in
      let among = in_contains leads.way (branches_at f.code (end_of leads.out.walk)) leads.out.at in
      let none : assigns_at (slice_get f.code point) ≡ [] = ap (λ n. assigns_at (slice_get f.code n)) (e ∙ guard) ∙ aborting_assigns_nothing p k f accepted there (end_of leads.out.walk) leads.way among leads.out.aborts in
      absurd (in_contains x [] (subst (λ xs. Contains xs x) none c))
  saved_from inside point (Onward _ branch o at rest) c = record {
    level = inside.level;
    way = inside.leads.way;
    out = inside.leads.out;
    left = inside.left;
    live = subst (IsLive f.code x) (sym inside.leads.to) inside.live;
    walk = o.walk;
    is = o.is;
    has = o.has;
    assigns = subst (λ n. Contains (assigns_at (slice_get f.code n)) x) (sym o.ends) c;
    on = branch;
    at = subst (λ n. Contains (branches_at f.code n) branch) (sym o.ends) at;
    stays = rest;
  }

  pub saved_inside : IsSaved f.code site x ↔ IsAssignedInside f.code site x
  saved_inside = (
    λ s. record {
      level = s.level;
      label = s.way.to;
      point = end_of s.walk;
      leads = record { way = s.way; out = s.out; to = refl; stays = Onward (end_of s.walk) s.on (record { walk = s.walk; is = s.is; ends = refl; has = s.has }) s.at s.stays };
      left = s.left;
      assigns = s.assigns;
      live = s.live;
    },
    λ i. saved_from i i.point i.leads.stays i.assigns,
  )
