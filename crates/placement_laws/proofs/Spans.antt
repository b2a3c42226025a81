-- Homes that only locations share whose spans don't meet don't clash.
use Rattle.std.proofs.Common.{◌≢◌, ℕ, ◌<◌, ◌⊎◌, inl, inr, ⊎_elim, Bool, refl, arith, List, [], ◌∷◌}
use Rattle.bril_tree.specs.declared.numbered.Instr.{Instr}
use Rattle.bril_tree.specs.Edge.{Branch, branches_at}
use Rattle.bril_tree.specs.Live.{IsLive}
use Rattle.bril_tree.specs.Operand.{Location, Variable}
use Rattle.bril_tree.specs.Sites.{AreSitesSound}
use Rattle.bril_tree.specs.Walk.{IsWalk, end_of}
use Rattle.bril_tree.proofs.Assignments.{same_location}
use Rattle.bril_tree.proofs.Liveness.{live-back}
use Rattle.bril_tree.proofs.Members.{in_contains}
use Rattle.placement_laws.specs.Needed.{IsNeeded, Live, Unsaved}
use Rattle.placement_laws.specs.Open.{IsWayOutOf}
use Rattle.placement_laws.specs.Placed.{IsPlaced, LiveApart}
use Rattle.placement_laws.specs.Spans.{AreKnown, AreSeparate, AreSpans, Covers, SitesAssignNothing, Span}
use Rattle.placement_laws.proofs.Opening.{open_at, opened}
use Rattle.placement_laws.proofs.Sites.{way_of_site}

meet : (s t : Span) (point : ℕ) → Covers s point → Covers t point → (s.last < t.first) ⊎ (t.last < s.first) → ⊥
meet s t point a b (inl h) = let x = a.1 in let y = b.0 in omega arith
meet s t point a b (inr h) = let x = a.0 in let y = b.1 in omega arith

module _ (code : List Instr) (args : ℕ) (sound : AreSitesSound code) {H : Type 0} (homes : Location → H) (saved : ℕ → Location → Bool) (spans : Location → Span) (are : AreSpans code args spans) (Known : Location → Type 0) (known : AreKnown code args Known) (separate : AreSeparate Known spans homes)
    (opens_assign_nothing : SitesAssignNothing code) where
  apart : (point : ℕ) (x y : Location) → Known x → Known y → x ≢ y → Covers (spans x) point → Covers (spans y) point → homes x ≢ homes y
  apart point x y u v ne a b same = meet (spans x) (spans y) point a b (separate x y u v ne same)

  live_at_site : (site : ℕ) (older : List ℕ) (way : Branch) (x : Location) → IsWayOutOf code site older way → IsLive code x way.to → IsLive code x site
  live_at_site site older way x w live =
      live-back code way x w.out.walk w.out.is (in_contains way (branches_at code (end_of w.out.walk)) w.out.at) w.out.aborts site older w.sites live
      (opens_assign_nothing w.out.walk [] older site w.out.is w.sites)

  needed_covered : (walk : List Branch) (x : Location) → IsWalk code walk → IsNeeded code saved (end_of walk) x → Covers (spans x) (end_of walk)
  needed_covered walk x is (Live live) = are.live (end_of walk) x live
  needed_covered walk x is (Unsaved level u) =
      let le = opened code sound level (end_of walk) (open_at code level u.out.way.from (end_of walk) u.out.stays) walk is refl in
      let w = way_of_site code sound walk is level x le u.out in
      are.kept walk w.0 w.2 w.1 x is w.3 (live_at_site w.1 w.2 u.out.way x w.5 u.out.live)

  needed_known : (point : ℕ) (x : Location) → IsNeeded code saved point x → Known x
  needed_known point x (Live live) = known.live point x live
  needed_known point x (Unsaved level u) = known.live u.out.way.to x u.out.live

  pub placed : IsPlaced code args homes saved
  placed = record {
    assigned = λ walk branch x y is at c live ne. apart branch.to y x (known.live branch.to y live) (known.assigned (end_of walk) x c) ne (are.live branch.to y live) (are.assigned walk branch x is at c);
    arguments = λ k y lt live ne. apart 0 y (Variable k) (known.live 0 y live) (known.arguments k lt) ne (are.live 0 y live) (are.arguments k lt);
    kept = λ walk branch x y newer older site way is at sites c w live unsaved ne. apart branch.to y x (known.live way.to y live) (known.assigned (end_of walk) x c) ne (are.kept (branch ∷ walk) newer older site y (at, is) sites (live_at_site site older way y w live)) (are.assigned walk branch x is at c);
    needed = λ walk x y is a b ne. apart (end_of walk) x y (needed_known (end_of walk) x a) (needed_known (end_of walk) y b) ne (needed_covered walk x is a) (needed_covered walk y is b);
  }

module _ (code : List Instr) (args : ℕ) {H : Type 0} (homes : Location → H) (spans : Location → Span) (are : AreSpans code args spans) (Known : Location → Type 0) (known : AreKnown code args Known) (separate : AreSeparate Known spans homes) where
  pub live_apart : LiveApart code homes
  live_apart point x y a b same =
      ⊎_elim (λ e. e) (λ ne. absurd (meet (spans x) (spans y) point (are.live point x a) (are.live point y b) (separate x y (known.live point x a) (known.live point y b) ne same))) (same_location x y)
