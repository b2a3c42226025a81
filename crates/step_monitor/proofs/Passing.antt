-- A call that stops at no point passes no chosen item.
use Rattle.std.proofs.Common.{◌≡◌, ℕ, zero, suc, ◌+◌, ◌-◌, ◌<◌, Bool, List, Option, Some, None, refl, sym, ap, ◌∙◌, subst, arith}
use Rattle.std.specs.Option.{option_map}
use Rattle.simulation.specs.System.{IsFinal}
use Rattle.bril_outside.specs.Sink.{SinkSeen}
use Rattle.bril_tree.specs.Run.{FitMain}
use Rattle.bril_tree.specs.declared.limits.End.{End}
use Rattle.bril_tree.specs.declared.limits.Limits.{Limits}
use Rattle.bril_tree.specs.declared.program.Prog.{Prog}
use Rattle.bril_tree.specs.declared.value.Value.{Value}
use Rattle.rv64_image_laws.proofs.Endings.{shown}
use Rattle.rv64_image_laws.proofs.Stopping.{none_is_left, none_is_passed}
use Rattle.rv64_image_laws.specs.Implements.{image_after}
use Rattle.rv64_image_laws.specs.PointsShown.{Shows}
use Rattle.rv64_image_laws.specs.Stops.{IsAhead}
use Rattle.rv64_machine.specs.MachineView.{image_in, sizes_in, state_of}
use Rattle.rv64_machine.specs.StepAnswers.{Reached, puts_after, puts_by, puts_of, reached_after, unprinted}
use Rattle.rv64_machine.specs.declared.machine.Machine.{Machine}
use Rattle.rv64_words.proofs.Runs.{machine_after-final, machine_step-stopped}
use Rattle.rv64_words.specs.Machine.{machine_after}
use Rattle.rv64_words.specs.Region.{Sizes}
use Rattle.rv64_words.specs.State.{State, Stop, Finished, Trapped}
use Rattle.rv64_words.specs.declared.image.Image.{Image}
use Rattle.rv64_words.specs.declared.points.Points.{Points}
use Rattle.rv64_words.specs.declared.trap.Trap.{Trap}
use Rattle.step_monitor.proofs.Absolute.{none_chosen, same_state, stands_later}
use Rattle.step_monitor.specs.Laws.{FailsPassNone, NoneTraps, PassesLeaveNone, SpendsPassNone}
use Rattle.step_monitor.specs.MonitorView.{IsSpotAt, from_in, spots_in}
use Rattle.step_monitor.specs.Spots.{AreChosen}
use Rattle.step_monitor.specs.Stands.{StandsAfter}
use Rattle.step_monitor.specs.Went.{NoStop, Passes}
use Rattle.step_monitor.specs.declared.monitor.Monitor.{Monitor}

-- ---- a machine that has stopped

-- more words of it print nothing
puts_rest : (image : Image) (z : Sizes) (n k : ℕ) (s : State) (how : Stop) → (machine_after image z n s).stopped ≡ Some how → puts_after image z (n + k) s ≡ puts_after image z n s
puts_rest image z n zero s how stopped = ap (λ j. puts_after image z j s) (let same : n + 0 ≡ n = omega arith in same)
puts_rest image z n (suc k) s how stopped =
    let final = machine_after-final image z n (n + k) s how (omega arith) stopped in
    let rests = machine_step-stopped image z (unprinted (machine_after image z (n + k) s)) how (ap (λ (t : State). t.stopped) final ∙ stopped) in
    ap (λ j. puts_after image z j s) (let same : n + suc k ≡ suc (n + k) = omega arith in same)
    ∙ (ap (λ (t : State). puts_after image z (n + k) s + puts_of t.printed) rests
    ∙ ((let same : puts_after image z (n + k) s + 0 ≡ puts_after image z (n + k) s = omega arith in same) ∙ puts_rest image z n k s how stopped))

module _ (stops : State → ℕ → ℕ → Type 0) (how : Stop) (from most : ℕ) (old new : Machine) (before after : SinkSeen) (passed : Passes stops how from most old new before after) where
  final_state : reached_after old most ≡ reached_after old passed.count
  final_state = machine_after-final (image_in old) (sizes_in old) passed.count most (state_of old) how passed.within passed.stopped

  final_puts : puts_by old most ≡ puts_by old passed.count
  final_puts =
      let within = passed.within in
      let whole : most ≡ passed.count + (most - passed.count) = omega arith in
      ap (puts_by old) whole ∙ puts_rest (image_in old) (sizes_in old) passed.count (most - passed.count) (state_of old) how passed.stopped

  -- it is as after all of the words
  pub passes_stopped : (reached_after old most).stopped ≡ Some how
  passes_stopped = ap (λ (t : State). t.stopped) final_state ∙ passed.stopped

  pub passes_reached : Reached (reached_after old most) (puts_by old most) old new before after
  passes_reached =
      subst (λ k. Reached (reached_after old most) k old new before after) (sym final_puts)
      (subst (λ t. Reached t (puts_by old passed.count) old new before after) (sym final_state) passed.reached)

no_trapped : (ended : Option End) (trap : Trap) → Some (Trapped trap) ≡ option_map Finished ended → ⊥
no_trapped None trap e = cc
no_trapped (Some end) trap e = cc

-- ---- what is ahead

module _ (image : Image) (points : Points) (p : Prog) (limits : Limits) (args : List Value) (shows : Shows image points p limits) (fit : FitMain p args) (words : ℕ) (m : Monitor) (stands : StandsAfter image points limits args words m) where
  module _ (any : Bool) (chosen : ℕ → ℕ → Bool) (are : AreChosen chosen any (spots_in m)) where
    passed_none : (to : ℕ) → NoStop (IsSpotAt (spots_in m) any) m.machine (from_in m) (suc to) → (n : ℕ) → IsAhead p limits args (shows.runs args fit).count chosen (words + from_in m) n → words + to < (shows.runs args fit).count n
    passed_none to none n ahead =
        let none_there = none_chosen image points limits args words m stands any chosen are (from_in m) (suc to) none in
        let past = none_is_passed image points p limits args chosen (shows.runs args fit) (words + from_in m) (words + suc to) none_there n ahead in
        omega arith

    left_none : (to : ℕ) (how : Stop) → NoStop (IsSpotAt (spots_in m) any) m.machine (from_in m) (suc to) → (image_after image limits args (words + to)).stopped ≡ Some how → (n : ℕ) → IsAhead p limits args (shows.runs args fit).count chosen (words + from_in m) n → ⊥
    left_none to how none stopped n ahead =
        let none_before : NoStop (IsSpotAt (spots_in m) any) m.machine (from_in m) to = λ k f i late early is. none k f i late (omega arith) is in
        let none_there = none_chosen image points limits args words m stands any chosen are (from_in m) to none_before in
        none_is_left image points p limits args chosen (shows.runs args fit) (words + from_in m) (words + to) none_there (subst (λ (o : Option Stop). IsFinal o) (sym stopped) refl) n ahead

pub spends_pass_none : SpendsPassNone
spends_pass_none image points p limits args shows fit words m new stands any chosen are most before after spends same = (
  passed_none image points p limits args shows fit words m stands any chosen are most spends.none,
  ap (λ (t : State). t.stopped) (same_state image points limits args words m stands most) ∙ spends.running,
  stands_later image points limits args words m stands most _ new before after spends.reached same,
)

-- the image's machine has stopped alike
image_stopped : (image : Image) (points : Points) (limits : Limits) (args : List Value) (words : ℕ) (m : Monitor) → StandsAfter image points limits args words m → (any : Bool) (how : Stop) (most : ℕ) (new : Machine) (before after : SinkSeen) →
    Passes (IsSpotAt (spots_in m) any) how (from_in m) most m.machine new before after → (image_after image limits args (words + most)).stopped ≡ Some how
image_stopped image points limits args words m stands any how most new before after passed =
    ap (λ (t : State). t.stopped) (same_state image points limits args words m stands most) ∙ passes_stopped (IsSpotAt (spots_in m) any) how (from_in m) most m.machine new before after passed

pub passes_leave_none : PassesLeaveNone
passes_leave_none image points p limits args shows fit words m new stands any chosen are how most before after passed same =
    let stopped = image_stopped image points limits args words m stands any how most new.machine before after passed in (
      left_none image points p limits args shows fit words m stands any chosen are most how passed.none stopped,
      stopped,
      stands_later image points limits args words m stands most _ new before after (passes_reached (IsSpotAt (spots_in m) any) how (from_in m) most m.machine new.machine before after passed) same,
    )

pub none_traps : NoneTraps
none_traps image points p limits args shows fit words m stands any trap most new before after passed =
    let implements = shows.implements in
    let there = shown implements.homes image p limits args (implements.implements.runs args fit) (words + most) in
    no_trapped there.0 trap (sym (image_stopped image points limits args words m stands any (Trapped trap) most new before after passed) ∙ there.1)

pub fails_pass_none : FailsPassNone
fails_pass_none image points p limits args shows fit words m stands any chosen are most new before after failed = passed_none image points p limits args shows fit words m stands any chosen are failed.executed failed.none
