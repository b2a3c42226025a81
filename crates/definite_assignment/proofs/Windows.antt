-- Locations and their windows.
use Rattle.std.proofs.Common.{◌≡◌, ◌≢◌, ◌↔◌, ℕ, ◌+◌, ◌<◌, List, Some, true, length, map, sym, ap, ◌∙◌, subst, arith}
use Rattle.std.specs.Prelude.{slice_get}
use Rattle.std.specs.Option.{option_map}
use Rattle.std.proofs.lemmas.List.{length-map}
use Rattle.std.specs.List.{All}
use Rattle.std.proofs.lemmas.Option.{slice_get-map, slice_get_within, get_or_from_slice_get}
use Rattle.flow_graph.specs.Accesses.{locations_of}
use Rattle.flow_graph.specs.declared.reads.Access.{Access}
use Rattle.flow_graph.proofs.AccessRows.{RowDone, location-of}
use Rattle.graph_search.specs.Adjacency.{EndsRow}
use Rattle.graph_search.specs.Path.{is_other}
use Rattle.graph_search.proofs.OpenArcs.{other-differs, differs-other}
use Rattle.definite_assignment.specs.Window.{window_of, place_of, location_in, windowed}

pub location-back : (location : ℕ) → location_in (window_of location) (place_of location) ≡ location
location-back location = omega arith

pub place-low : (location : ℕ) → place_of location < 64
place-low location = omega arith

pub window-in : (window k : ℕ) → k < 64 → window_of (location_in window k) ≡ window
window-in window k low = omega arith

pub place-in : (window k : ℕ) → k < 64 → place_of (location_in window k) ≡ k
place-in window k low = omega arith

-- a location of another window is none of this one
pub other-window : (window location k : ℕ) → k < 64 → window_of location ≢ window → is_other (location_in window k) (Some location) ≡ true
other-window window location k low ne = differs-other (location_in window k) (Some location) (λ e. ne (ap window_of (one e) ∙ window-in window k low))
  where
    one : Some location ≡ Some (location_in window k) → location ≡ location_in window k
    one e = cc

-- of the window's locations, those with other numbers are others
pub other-place : (window location k : ℕ) → k < 64 → window_of location ≡ window → (k ≢ place_of location) ↔ (is_other (location_in window k) (Some location) ≡ true)
other-place window location k low is = (
  λ ne. differs-other (location_in window k) (Some location) (λ e. ne (sym (place-in window k low) ∙ ap place_of (sym (one e)))),
  λ other same. other-differs (location_in window k) (Some location) other (ap Some (sym (ap (location_in window) same ∙ ap (λ w. location_in w (place_of location)) (sym is) ∙ location-back location))),
)
  where
    one : Some location ≡ Some (location_in window k) → location ≡ location_in window k
    one e = cc

-- ---- reads as accesses of windows

windowed-at : (reads : List Access) (k : ℕ) (read : Access) → slice_get reads k ≡ Some read → slice_get (map windowed reads) k ≡ Some (windowed read)
windowed-at reads k read e = slice_get-map windowed reads k ∙ ap (option_map windowed) e

module _ (list reads : List Access) (same : list ≡ map windowed reads) (window end : ℕ) where
  pub listed-at : (k : ℕ) (read : Access) → slice_get reads k ≡ Some read → slice_get list k ≡ Some (windowed read)
  listed-at k read e = ap (λ l. slice_get l k) same ∙ windowed-at reads k read e

  pub long-as : length list ≡ length reads
  long-as = ap length same ∙ length-map reads windowed

  -- what was done for all of a window's row holds of each read of the window
  pub all-of-window : (Q : ℕ → Access → Type 0) → end ≡ 0 → RowDone list window end (λ k access. (read : Access) → slice_get reads k ≡ Some read → Q k read) →
      (k : ℕ) (read : Access) → slice_get reads k ≡ Some read → window_of read.location ≡ window → Q k read
  all-of-window Q none done k read e is = done.all k (windowed read) (omega arith) (listed-at k read e) is read e

  -- the read at the row's end is one of the window
  pub read-of-window : (bound k : ℕ) → EndsRow (locations_of list) window bound end → k + 1 ≡ end → (read : Access) → slice_get reads k ≡ Some read → window_of read.location ≡ window
  read-of-window bound k row here read e = sym (location-of list k (windowed read) (listed-at k read e)) ∙ row.stands k here

  -- windows of reads are below a bound of all
  pub window-below : (bound : ℕ) → All (λ access. access.location < bound) list → (k : ℕ) (read : Access) → slice_get reads k ≡ Some read → window_of read.location < bound
  window-below bound all k read e =
      let at = listed-at k read e in
      subst (λ (a : Access). a.location < bound) (get_or_from_slice_get list k (windowed read) (windowed read) at) (all k (windowed read) (slice_get_within list k (windowed read) at))
