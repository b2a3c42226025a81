-- Where the newest frame stands: a walk leads there, with as many open sites as it has saves, of which its function tells the newest,
-- and the homes of its function serve.
use Rattle.std.proofs.Common.{◌≡◌, ◌≤◌, List, length, Some, sym, ap, subst, arith}
use Rattle.std.specs.Prelude.{slice_get}
use Rattle.std.specs.List.{Contains}
use Rattle.bril_tree.specs.declared.numbered_function.Func.{Func}
use Rattle.bril_tree.specs.Assigned.{assigns_at}
use Rattle.bril_tree.specs.Edge.{Branch, branches_at}
use Rattle.bril_tree.specs.Operand.{Location}
use Rattle.bril_tree.specs.Sites.{AreSitesSound, sites_of}
use Rattle.bril_tree.specs.State as bril
use Rattle.bril_tree.specs.Step.{code_of, items_of}
use Rattle.bril_tree.specs.Walk.{IsWalk, end_of}
use Rattle.placement_laws.specs.Open.{newest_site}
use Rattle.rv64_words.specs.State.{State}
use Rattle.slot_code.specs.declared.slots.SlotFunction.{SlotFunction}
use Rattle.type_soundness.specs.WellTyped.{IsWellTyped}
use Rattle.rv64_emit_laws.specs.layout.Homes.{newest_at}
use Rattle.rv64_emit_laws.specs.Homes.{HomesServe}
use Rattle.rv64_emit_laws.proofs.Depths.{newest_is, now_typed}
use Rattle.rv64_emit_laws.proofs.Homes.{origin, serving, sound_in}
use Rattle.rv64_emit_laws.proofs.Relation.{RunsAlike}
use Rattle.rv64_emit_laws.proofs.Setting.{Setting}

pub record Stands (S : Setting) (f : bril.Frame) (g : SlotFunction) : Type 0 where
  pub func : Func
  pub walk : List Branch
  pub is : IsWalk (code_of S.p f.function) walk
  pub ends : end_of walk ≡ f.point
  pub deep : length f.saves ≡ length (sites_of (code_of S.p f.function) walk)
  pub newest : newest_at g f.point ≡ newest_site (code_of S.p f.function) walk
  pub sound : AreSitesSound (code_of S.p f.function)
  pub serves : HomesServe (code_of S.p f.function) func.args g (S.homes f.function)

pub stands : (S : Setting) (f : bril.Frame) (g : SlotFunction) → slice_get S.slots.funcs f.function ≡ Some g → IsWellTyped S.p f → Stands S f g
stands S f g there w =
    let code : code_of S.p f.function ≡ w.function.code = ap items_of w.there in
    record {
      func = (origin S f.function g there).function;
      walk = w.walk;
      is = subst (λ c. IsWalk c w.walk) (sym code) w.is;
      ends = w.ends;
      deep = subst (λ c. length f.saves ≡ length (sites_of c w.walk)) (sym code) w.saves;
      newest = subst (λ c. newest_at g f.point ≡ newest_site c w.walk) (sym code) (newest_is S f g there w);
      sound = sound_in S f.function g there;
      serves = serving S f.function g there;
    }

pub standing : (S : Setting) (s : bril.State) (t : State) (r : RunsAlike S s t) → Stands S r.frame r.holds.function
standing S s t r = stands S r.frame r.holds.function r.holds.there (now_typed S s t r)

-- what is said of the frame's point is said of the walk's end
module _ (S : Setting) (f : bril.Frame) (g : SlotFunction) (st : Stands S f g) where
  pub goes_there : (branch : Branch) → Contains (branches_at (code_of S.p f.function) f.point) branch → Contains (branches_at (code_of S.p f.function) (end_of st.walk)) branch
  goes_there branch at = subst (λ k. Contains (branches_at (code_of S.p f.function) k) branch) (sym st.ends) at

  pub assigns_there : (x : Location) → Contains (assigns_at (slice_get (code_of S.p f.function) f.point)) x → Contains (assigns_at (slice_get (code_of S.p f.function) (end_of st.walk))) x
  assigns_there x c = subst (λ k. Contains (assigns_at (slice_get (code_of S.p f.function) k)) x) (sym st.ends) c

  pub assigns_here : (x : Location) → Contains (assigns_at (slice_get (code_of S.p f.function) (end_of st.walk))) x → Contains (assigns_at (slice_get (code_of S.p f.function) f.point)) x
  assigns_here x c = subst (λ k. Contains (assigns_at (slice_get (code_of S.p f.function) k)) x) st.ends c

  -- as many sites are open as there are saves
  pub few_saves : length f.saves ≤ length (sites_of (code_of S.p f.function) st.walk)
  few_saves = let d = st.deep in omega arith
