-- A monitor's stop by the words since its call is the first chosen point by the words since the start.
use Rattle.std.proofs.Common.{◌≡◌, ℕ, ◌+◌, ◌-◌, ◌*◌, Bool, true, List, ◌++◌, sym, ap, ◌∙◌, subst, arith}
use Rattle.simulation.specs.System.{after}
use Rattle.simulation.proofs.After.{after-add}
use Rattle.bril_outside.specs.Sink.{SinkSeen}
use Rattle.bril_tree.specs.declared.limits.Limits.{Limits}
use Rattle.bril_tree.specs.declared.value.Value.{Value}
use Rattle.rv64_image_laws.specs.Implements.{image_after}
use Rattle.rv64_image_laws.proofs.Systems.{machine_after-after}
use Rattle.rv64_machine.specs.declared.machine.Machine.{Machine}
use Rattle.rv64_machine.specs.MachineView.{sizes_in, state_of}
use Rattle.rv64_machine.specs.StepAnswers.{Reached, puts_by, reached_after, unprinted}
use Rattle.rv64_words.specs.declared.image.Image.{Image}
use Rattle.rv64_words.specs.Machine.{machine_after, machine_step}
use Rattle.rv64_words.specs.Region.{sizes_of}
use Rattle.rv64_words.specs.State.{start}
use Rattle.rv64_words.proofs.Runs.{in_front, printed-front}
use Rattle.rv64_words.specs.declared.points.PointAt.{PointAt}
use Rattle.rv64_words.specs.declared.points.Points.{Points}
use Rattle.rv64_image_laws.specs.Stops.{IsChosenAt, IsFirstChosen, NoneChosen}
use Rattle.step_monitor.specs.declared.monitor.Monitor.{Monitor}
use Rattle.rv64_image_laws.proofs.Stopping.{firsts_are_least}
use Rattle.step_monitor.specs.Laws.{StopsAreLeast, StopsStandLater}
use Rattle.step_monitor.specs.MonitorView.{IsSpotAt, from_in, spots_in}
use Rattle.step_monitor.specs.Spots.{AreChosen, AreSpots}
use Rattle.step_monitor.specs.Stands.{StandsAfter}
use Rattle.step_monitor.specs.Went.{Breaks, NoStop}

module _ (image : Image) (points : Points) (limits : Limits) (args : List Value) (words : ℕ) (m : Monitor) (stands : StandsAfter image points limits args words m) where
  -- k words on, but for what was printed before
  pub same_state : (k : ℕ) → image_after image limits args (words + k) ≡ in_front (image_after image limits args words).printed (reached_after m.machine k)
  same_state k =
      let z = sizes_of image limits.cells in
      let now = image_after image limits args words in
      let moved : reached_after m.machine k ≡ machine_after image z k (unprinted now) =
      ap (λ i. machine_after i (sizes_in m.machine) k (state_of m.machine)) stands.image_is
      ∙ (ap (λ y. machine_after image y k (state_of m.machine)) stands.sizes_are ∙ ap (machine_after image z k) stands.state_is) in
      after-add (machine_step image z) words k (start args) ∙ (sym (machine_after-after image z k now) ∙ (printed-front image z k now ∙ ap (in_front now.printed) (sym moved)))

  -- what the words printed comes after what was printed before
  pub printed_since : (k : ℕ) → (image_after image limits args (words + k)).printed ≡ (image_after image limits args words).printed ++ (reached_after m.machine k).printed
  printed_since k = ap (λ t. t.printed) (same_state k)

  pub unprinted_since : (k : ℕ) → unprinted (reached_after m.machine k) ≡ unprinted (image_after image limits args (words + k))
  unprinted_since k = sym (ap unprinted (same_state k))

  -- the monitor after them
  pub stands_later : (k puts : ℕ) (new : Monitor) (before after : SinkSeen) → Reached (reached_after m.machine k) puts m.machine new.machine before after → spots_in new ≡ spots_in m → StandsAfter image points limits args (words + k) new
  stands_later k puts new before after reached same = record {
    image_is = reached.became.image ∙ stands.image_is;
    sizes_are = reached.became.sizes ∙ stands.sizes_are;
    state_is = reached.became.state ∙ unprinted_since k;
    spots_are = subst (AreSpots points) (sym same) stands.spots_are;
  }

  module _ (any : Bool) (chosen : ℕ → ℕ → Bool) (are : AreChosen chosen any (spots_in m)) where
    chosen_here : (k f i : ℕ) → IsSpotAt (spots_in m) any (reached_after m.machine k) f i → (at : PointAt) × IsChosenAt image points limits args chosen (words + k) at × (at.func ≡ f) × (at.item ≡ i)
    chosen_here k f i h =
        let told = stands.spots_are.told h.word h.spot h.is in
        let at = told.1 in
        let counts : chosen at.func at.item ≡ true = ap (λ x. chosen x at.item) told.4 ∙ (ap (chosen h.spot.func) told.5 ∙ (sym (are h.word h.spot h.is) ∙ h.counts)) in (
          at,
          record {
            is = record {
              place = told.0;
              is = told.2;
              running = ap (λ t. t.stopped) (same_state k) ∙ h.running;
              at_word = ap (λ t. t.pc) (same_state k) ∙ (h.at_word ∙ ap (λ w. 4 * w) (sym told.3));
            };
            by = counts;
          },
          told.4 ∙ h.func,
          told.5 ∙ h.item,
        )

    spot_here : (k : ℕ) (at : PointAt) → IsChosenAt image points limits args chosen (words + k) at → IsSpotAt (spots_in m) any (reached_after m.machine k) at.func at.item
    spot_here k at h =
        let spot = stands.spots_are.all h.is.place at h.is.is in
        record {
          running = sym (ap (λ t. t.stopped) (same_state k)) ∙ h.is.running;
          word = at.word;
          at_word = sym (ap (λ t. t.pc) (same_state k)) ∙ h.is.at_word;
          spot = spot.0;
          is = spot.1;
          counts = are at.word spot.0 spot.1 ∙ (ap (λ x. chosen x spot.0.item) spot.2 ∙ (ap (chosen at.func) spot.3 ∙ h.by));
          func = spot.2;
          item = spot.3;
        }

    -- words that come to no stop come to no chosen point
    pub none_chosen : (from to : ℕ) → NoStop (IsSpotAt (spots_in m) any) m.machine from to → NoneChosen image points limits args chosen (words + from) (words + to)
    none_chosen from to none n at late early is =
        let gap : n ≡ words + (n - words) = omega arith in
        none (n - words) at.func at.item (omega arith) (omega arith) (spot_here (n - words) at (subst (λ x. IsChosenAt image points limits args chosen x at) gap is))

    -- a call that stops at a point stops at the first chosen one
    pub first_chosen : (f i from most : ℕ) (new : Machine) (before after : SinkSeen) (b : Breaks (IsSpotAt (spots_in m) any) f i from most m.machine new before after) →
        (at : PointAt) × IsFirstChosen image points limits args chosen (words + from) (words + b.count) at × (at.func ≡ f) × (at.item ≡ i)
    first_chosen f i from most new before after b =
        let here = chosen_here b.count f i b.is in (
          here.0,
          record {
            late = (let late = b.late in omega arith);
            is = here.1;
            none = none_chosen from b.count b.none;
          },
          here.2,
          here.3,
        )

pub stops_are_least : StopsAreLeast
stops_are_least image points p limits args shows fit words m stands any chosen are f i most new before after b =
    let first = first_chosen image points limits args words m stands any chosen are f i (from_in m) most new before after b in
    let least = firsts_are_least image points p limits args chosen (shows.runs args fit) (words + from_in m) (words + b.count) first.0 shows.points_in first.1 in
    (least.0, first.0, least.1, least.2, least.3, first.2, first.3)

pub stops_stand_later : StopsStandLater
stops_stand_later image points limits args words m new stands same any f i most before after b = stands_later image points limits args words m stands b.count (puts_by m.machine b.count) new before after b.reached same
