-- A frame at the end of a walk of an accepted function stands well.
use Rattle.std.proofs.Common.{◌≡◌, ◌⊎◌, suc, ◌<◌, ◌≤◌, List, [], ◌∷◌, length, Some, refl, sym, ap, subst, ◌∙◌, inl, inr, arith}
use Rattle.std.specs.Prelude.{slice_get, is_some, IsSome, IsTrue, ◌≢◌}
use Rattle.std.specs.List.{Contains}
use Rattle.std.proofs.lemmas.Bool.{cases_lt}
use Rattle.bril_tree.specs.declared.numbered.Instr.{Instr}
use Rattle.bril_tree.specs.declared.numbered_function.Func.{Func}
use Rattle.bril_tree.specs.declared.program.Prog.{Prog}
use Rattle.bril_tree.specs.declared.value.Value.{Value}
use Rattle.bril_tree.specs.Accepted.{IsAcceptedFunction, leaves_frame}
use Rattle.bril_tree.specs.Assigned.{assigned_of}
use Rattle.bril_tree.specs.declared.types.Ty.{Ty}
use Rattle.bril_tree.specs.Live.{IsLive}
use Rattle.bril_tree.specs.Operand.{Location, reads_of}
use Rattle.bril_tree.specs.Run.{Suits}
use Rattle.bril_tree.specs.Sites.{AreFirstSites, TooMany, most_sites, needs_site, sites_of}
use Rattle.bril_tree.specs.State.{Locals, Frame}
use Rattle.bril_tree.specs.Walk.{IsReached}
use Rattle.bril_tree.specs.Membership.{In}
use Rattle.bril_tree.proofs.Members.{in_contains}
use Rattle.flow_graph.proofs.Told.{first_sites, some_site}
use Rattle.bril_tree.proofs.Branches.{walk_within}
use Rattle.bril_tree.specs.Locals.{location_type, location_value}
use Rattle.bril_tree.proofs.Acceptance.{shaped_at, typed_at, function_walks}
use Rattle.bril_tree.proofs.Assignments.{in_or_not, saved-length}
use Rattle.bril_tree.proofs.Liveness.{live_assigned}
use Rattle.type_soundness.specs.WellTyped.{IsWellTyped}
use Rattle.type_soundness.proofs.Typed.{Cell, HasType, HasType-suits}
use Rattle.type_soundness.proofs.Locals.{reads-there}
use Rattle.type_soundness.proofs.Frames.{Holds, AllCover, Sits}

-- ---- walks

cover-length : (heap : List Cell) (f : Func) (saves : List Locals) (saved : List (List Location)) → AllCover heap f saves saved → length saves ≡ length saved
cover-length heap f [] [] h = refl
cover-length heap f [] (s ∷ saved) h = absurd h
cover-length heap f (p ∷ saves) [] h = absurd h
cover-length heap f (p ∷ saves) (s ∷ saved) h = ap suc (cover-length heap f saves saved h.1)

nil_of : {A : Type 0} (xs : List A) → length xs ≡ 0 → xs ≡ []
nil_of [] e = refl
nil_of (x ∷ xs) e = absurd (omega arith)

-- ---- what a frame gives

module _ (p : Prog) (heap : List Cell) (f : Func) (frame : Frame) (accepted : IsAcceptedFunction p f) (s : Sits p heap f frame) where
  pub first-here : AreFirstSites f.code frame.point (sites_of f.code s.walk)
  first-here = subst (λ n. AreFirstSites f.code n (sites_of f.code s.walk)) s.ends (first_sites f.code s.walk accepted.sites s.is)

  -- there are as many saves as open sites
  as_many : length frame.saves ≡ length (sites_of f.code s.walk)
  as_many = cover-length heap f frame.saves (assigned_of f.code f.args s.walk).saved s.saves ∙ saved-length f.code f.args s.walk

  reached : IsReached f.code frame.point
  reached = record { walk = s.walk; is = s.is; ends = s.ends }

  within : frame.point ≤ length f.code
  within = subst (λ n. n ≤ length f.code) s.ends (walk_within f.code s.walk s.is)

  pub has-save : IsTrue (needs_site (slice_get f.code frame.point)) → frame.saves ≢ []
  has-save needs none =
      some_site f.code s.walk accepted.sites s.is (subst (λ n. IsTrue (needs_site (slice_get f.code n))) (sym s.ends) needs) (nil_of (sites_of f.code s.walk) (sym as_many ∙ ap length none))

  few : (most_sites < length frame.saves) ⊎ (length frame.saves ≤ most_sites) → length frame.saves ≤ most_sites
  few (inl many) = absurd (accepted.sites frame.point (TooMany (record { sites = sites_of f.code s.walk; first = first-here; many = subst (λ n. most_sites < n) as_many many })))
  few (inr l) = l

  alone : IsTrue (leaves_frame (slice_get f.code frame.point)) → frame.saves ≡ []
  alone leaves = nil_of frame.saves (as_many ∙ ap length (accepted.alone s.walk s.is (subst (λ n. IsTrue (leaves_frame (slice_get f.code n))) (sym s.ends) leaves)))

  inside : IsSome f.ret → (frame.point < length f.code) ⊎ (length f.code ≤ frame.point) → frame.point < length f.code
  inside value (inl l) = l
  inside value (inr past) =
      let ends : frame.point ≡ length f.code = omega (arith, within) in
      absurd (accepted.returns value (record { walk = s.walk; is = s.is; ends = s.ends ∙ ends }))

  pub before_end : IsSome f.ret → frame.point < length f.code
  before_end value = inside value (cases_lt frame.point (length f.code))

  -- a location that the item reads was assigned
  by_membership : (item : Instr) (location : Location) → slice_get f.code frame.point ≡ Some item → Contains (reads_of item) location
      → In location (assigned_of f.code f.args s.walk).locations ⊎ (In location (assigned_of f.code f.args s.walk).locations → ⊥) → Holds heap f frame.locations location
  by_membership item location at c (inl i) = s.locations location i
  by_membership item location at c (inr none) = absurd (accepted.assigned frame.point item location at c (record {
    walk = s.walk;
    is = s.is;
    ends = s.ends;
    lacks = λ there. none (in_contains location (assigned_of f.code f.args s.walk).locations there);
  }))

  pub holds-read : (item : Instr) (location : Location) → slice_get f.code frame.point ≡ Some item → Contains (reads_of item) location → Holds heap f frame.locations location
  holds-read item location at c = by_membership item location at c (in_or_not location (assigned_of f.code f.args s.walk).locations)

  suits-read : (item : Instr) (location : Location) → slice_get f.code frame.point ≡ Some item → Contains (reads_of item) location → (v : Value) × (location_value frame.locations location ≡ Some v) × Suits v (location_type f location)
  suits-read item location at c =
      let h = holds-read item location at c in
      let t = reads-there p f item location (shaped_at p f accepted frame.point item at) (typed_at p f accepted frame.point item at) c in
      (h.value, h.is, subst (λ o. Suits h.value o) (sym t.1) (HasType-suits heap t.0 h.value (subst (λ o. HasType heap o h.value) t.1 h.typed)))

  -- a location that is live was assigned, so it holds a value that suits its type, where it has one
  suits-live : (location : Location) (ty : Ty) → IsLive f.code location frame.point → location_type f location ≡ Some ty → (v : Value) × (location_value frame.locations location ≡ Some v) × Suits v (location_type f location)
  suits-live location ty live typed =
      let h = s.locations location (live_assigned f.code f.args (is_some f.ret) (function_walks p f accepted) location frame.point live s.walk s.is s.ends) in
      (h.value, h.is, subst (λ o. Suits h.value o) (sym typed) (HasType-suits heap ty h.value (subst (λ o. HasType heap o h.value) typed h.typed)))

  pub well-typed : IsWellTyped p frame
  well-typed = record {
    function = f;
    there = s.there;
    within = within;
    walk = s.walk;
    is = s.is;
    ends = s.ends;
    reads = suits-read;
    live = suits-live;
    saves = as_many;
    saved = has-save;
    few = few (cases_lt most_sites (length frame.saves));
    alone = alone;
    returns = before_end;
  }
