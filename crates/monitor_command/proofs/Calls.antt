-- A call that runs the monitor to its next point does what `go` or `step` means.
use Rattle.std.proofs.Common.{◌≡◌, ◌⊎◌, ℕ, suc, ◌+◌, ◌-◌, ◌/◌, ◌^◌, ◌<◌, Bool, true, false, cond, List, [], ◌∷◌, ◌++◌, Option, Some, None, refl, sym, ap, ◌∙◌, subst, inl, inr, arith, append-nil, append_assoc, true≢false}
use Rattle.std.specs.Prelude.{if◌then◌else◌, slice_get}
use Rattle.bril_commands.specs.commands.Monitor.{CarriesOut, Runs, Session, StopsNext, StopsNowhere, end_pieces, from_session, pieces_after, stop_pieces, stopped_at, stops_by}
use Rattle.bril_outside.proofs.SinkWrites.{PutSome-after, PutSome-longer}
use Rattle.bril_outside.specs.Sink.{PutSome, SinkSeen}
use Rattle.bril_report.proofs.Puts.{PutsAll-append}
use Rattle.bril_report.specs.Puts.{PutsAll}
use Rattle.bril_report.specs.Stats.{function_name, name_of}
use Rattle.bril_tree.specs.Run.{state_after}
use Rattle.bril_tree.specs.declared.limits.End.{End}
use Rattle.bril_tree.specs.declared.limits.Limits.{Limits}
use Rattle.bril_tree.specs.declared.numbered_function.Func.{Func}
use Rattle.bril_tree.specs.declared.program.Prog.{Prog}
use Rattle.bril_tree.specs.declared.value.Value.{Value}
use Rattle.monitor_command.proofs.Pieces.{cuts_longer, pieces-stay, puts_pieces, stopped_same}
use Rattle.monitor_command.proofs.Total.{ComesTo, carries_out_total, runs_total}
use Rattle.monitor_command.proofs.WordCounts.{done_is}
use Rattle.monitor_command.specs.Carried.{BreaksOff, Follows, GoesOn, IsOver, IsShown, ShowsIn, carries, run_of}
use Rattle.monitor_command.specs.declared.progress.Progress.{Progress}
use Rattle.monitor_command.specs.declared.target.Target.{Target}
use Rattle.monitor_script.specs.declared.order.Order.TheVariants as order
use Rattle.monitor_script.specs.declared.order.Order.{Order}
use Rattle.rv64_image_laws.specs.Implements.{image_after}
use Rattle.rv64_image_laws.specs.Stops.{IsAhead}
use Rattle.rv64_image_laws.specs.PointsShown.{HomeShows, PointShows, ShowsRun}
use Rattle.rv64_machine.specs.MachineView.{state_of}
use Rattle.rv64_machine.specs.StepAnswers.{HadFailed}
use Rattle.rv64_words.specs.Region.{sizes_of}
use Rattle.rv64_words.specs.declared.image.Image.{Image}
use Rattle.rv64_words.specs.declared.points.PointAt.{PointAt}
use Rattle.rv64_words.specs.declared.points.Points.{Points}
use Rattle.rv64_words.specs.declared.trap.Trap.{Trap}
use Rattle.rv64_words.specs.State.{Finished, State, Trapped}
use Rattle.step_monitor.proofs.Passing.{fails_pass_none, none_traps, passes_leave_none, spends_pass_none}
use Rattle.step_monitor.proofs.Standing.{stops_show_entries}
use Rattle.step_monitor.specs.Laws.{StopShown}
use Rattle.step_monitor.specs.MonitorView.{IsSpotAt, from_in, from_left, is_left, machine_in, spots_in, stop_in}
use Rattle.step_monitor.specs.Spots.{AreChosen}
use Rattle.step_monitor.specs.Stands.{StandsAfter}
use Rattle.step_monitor.specs.Went.{Breaks, Fails, Passes, Spends}
use Rattle.step_monitor.specs.declared.spots.Spot.{Spot}

-- ---- a call, by the session

chosen_by : (any : Bool) (marked : ℕ → ℕ → Bool) (spots : List (Option Spot)) → AreChosen marked false spots → AreChosen (stops_by any marked) any spots
chosen_by true marked spots are w spot is = refl
chosen_by false marked spots are w spot is = are w spot is

from_by : (left : Bool) (words : ℕ) → words + from_left left ≡ cond left (suc words) words
from_by true words = omega arith
from_by false words = omega arith

-- a point shows the same after the same words
module _ (image : Image) (p : Prog) (limits : Limits) (values : List Value) (n : ℕ) (at : PointAt) (now k : ℕ) (same : now ≡ k) where
  abbrev shown_after : PointShows image p limits (state_after p limits values n) (image_after image limits values now) at → PointShows image p limits (state_after p limits values n) (image_after image limits values k) at
  shown_after shows = record {
    stops = shows.stops;
    func = shows.func;
    is_function = shows.is_function;
    homes = λ j h is. subst (λ w. HomeShows (sizes_of image limits.cells) shows.func.vars shows.stops.stands.frame.locations (image_after image limits values w) h) same (shows.homes j h is);
    printed = shows.printed ∙ ap (λ w. (image_after image limits values w).printed) same;
  }

module _ (on : Target) (is : IsShown on) (s : Session) (old : Progress) (follows : Follows on s old) (any : Bool) where
  abbrev image : Image
  image = on.image.now

  abbrev points : Points
  points = on.points.now

  abbrev p : Prog
  p = on.program.now

  abbrev limits : Limits
  limits = on.settings.limits

  abbrev values : List Value
  values = on.values.now

  abbrev steps : ℕ
  steps = on.settings.steps

  abbrev run : ShowsRun image points p limits values
  run = run_of on is

  abbrev asked : Order
  asked = if any then order.Step else order.Go

  -- what comes after the call
  abbrev After : List Order → Session → Option End → List (List ℕ) → Type 0
  After rest = CarriesOut image points p limits values run steps rest

  abbrev Comes : List Order → Option End → List (List ℕ) → Type 0
  Comes rest ended output = Runs image points p limits values run steps any (After rest) s ended output

  comes_by : (b : Bool) (rest : List Order) (ended : Option End) (output : List (List ℕ)) → Runs image points p limits values run steps b (After rest) s ended output → carries on is ((if b then order.Step else order.Go) ∷ rest) s ended output
  comes_by true rest ended output comes = comes
  comes_by false rest ended output comes = comes

  chosen : AreChosen (stops_by any s.marked) any (spots_in old.monitor)
  chosen = chosen_by any s.marked (spots_in old.monitor) follows.chosen

  from_is : s.words + from_in old.monitor ≡ from_session s
  from_is = from_by (is_left old.monitor) s.words ∙ ap (λ b. cond b (suc s.words) s.words) follows.left

  -- as many words are left as are not executed
  pub words_are_left : (left done : ℕ) → left ≡ steps - done → done ≡ (state_of (machine_in old.monitor)).done → steps < 2 ^ 64 → left ≡ steps - s.words
  words_are_left left done is counted low =
      let few : s.words < 2 ^ 64 = (let within = follows.within in omega arith) in
      is ∙ ap (λ n. steps - n) (counted ∙ (ap (λ (t : State). t.done) follows.stands.state_is ∙ done_is image limits values s.words few follows.running))

  -- the pieces of the words up to the last
  abbrev last_pieces : List (List ℕ)
  last_pieces = pieces_after image limits values s.words (steps - s.words)

  module _ (most : ℕ) (is_most : most ≡ steps - s.words) (new : Progress) (before between : SinkSeen) (spots : spots_in new.monitor ≡ spots_in old.monitor) where
    pub all_words : s.words + most ≡ steps
    all_words = let within = follows.within in omega arith

    -- ---- it stops at a point

    module _ (f i : ℕ) (b : Breaks (IsSpotAt (spots_in old.monitor) any) f i (from_in old.monitor) most old.monitor.machine new.monitor.machine before between) (left : is_left new.monitor ≡ true) (stop : stop_in new.monitor ≡ Some ((state_of (machine_in new.monitor)).pc / 4)) (func : new.func ≡ Some f) where
      pub stop_shown : StopShown image points p limits values run (stops_by any s.marked) (from_session s) (s.words + b.count) f i new.monitor
      stop_shown =
          subst (λ from. StopShown image points p limits values run (stops_by any s.marked) from (s.words + b.count) f i new.monitor) from_is
          (stops_show_entries image points p limits values is.shows is.fits s.words old.monitor new.monitor follows.stands any (stops_by any s.marked) chosen f i most before between b spots stop)

      abbrev stops : StopsNext image points p limits values run steps any s stop_shown.steps stop_shown.at
      stops = record {
        least = stop_shown.least;
        within = (let counted = stop_shown.counted in let few = b.within in let all = all_words in omega arith);
        shown = shown_after image p limits values stop_shown.steps stop_shown.at (s.words + b.count) (run.count stop_shown.steps) (sym stop_shown.counted) stop_shown.shown;
      }

      abbrev next : Session
      next = stopped_at image points p limits values run steps any s stop_shown.steps stop_shown.at stops

      -- the session at the stop
      pub break_follows : Follows on next new
      break_follows = record {
        stands = subst (λ k. StandsAfter image points limits values k new.monitor) (sym stop_shown.counted) stop_shown.stands;
        running = ap (λ k. (image_after image limits values k).stopped) stop_shown.counted ∙ stop_shown.is_at.running;
        within = stops.within;
        chosen = subst (AreChosen s.marked false) (sym spots) follows.chosen;
        left = left;
        sound = b.reached.sound;
        lines = subst (λ o. ShowsIn p o new.monitor next.lines) (sym func)
            (record { at = stop_shown.at; locations = stop_shown.shown.stops.stands.frame.locations; of_function = stop_shown.func; entries = stop_shown.entries; values = stop_shown.entry_values; pieces = refl });
      }

      abbrev break_pieces : List (List ℕ)
      break_pieces = pieces_after image limits values s.words (run.count stop_shown.steps - s.words)

      pub break_puts : PutsAll before break_pieces between
      break_puts =
          let gap : b.count ≡ run.count stop_shown.steps - s.words = (let counted = stop_shown.counted in omega arith) in
          subst (λ k. PutsAll before (pieces_after image limits values s.words k) between) gap (puts_pieces image points limits values s.words old.monitor follows.stands b.count b.reached.printed)

      abbrev line : List (List ℕ)
      line = stop_pieces stop_shown.shown.func.name stop_shown.at.item

      line_is : stop_pieces (function_name p f) i ≡ line
      line_is =
          let named : function_name p f ≡ stop_shown.shown.func.name = ap (function_name p) (sym stop_shown.func) ∙ name_at (slice_get p.funcs stop_shown.at.func) stop_shown.shown.func stop_shown.shown.is_function in
          ap (λ name. stop_pieces name i) named ∙ ap (stop_pieces stop_shown.shown.func.name) (sym stop_shown.item)
        where
          name_at : (o : Option Func) (g : Func) → o ≡ Some g → name_of o ≡ g.name
          name_at None g e = cc
          name_at (Some h) g e = ap (λ (x : Func). x.name) (let same : h ≡ g = cc in same)

      break_comes : (rest : List Order) (ended : Option End) (more : List (List ℕ)) → After rest next ended more → (output : List (List ℕ)) → output ≡ break_pieces ++ (line ++ more) → carries on is (asked ∷ rest) s ended output
      break_comes rest ended more goes output same =
          comes_by any rest ended output (inl (stop_shown.steps, stop_shown.at, stops, stop_shown.shown.func, stop_shown.shown.is_function, more, same, goes))

      -- its line was put
      pub break_goes_on : {after : SinkSeen} → PutsAll between (stop_pieces (function_name p f) i) after → GoesOn on is asked s new before after
      break_goes_on {after} puts = record {
        session = next;
        follows = break_follows;
        pieces = break_pieces ++ line;
        puts = PutsAll-append break_puts (subst (λ ps. PutsAll between ps after) line_is puts);
        comes = λ rest ended more goes. break_comes rest ended more goes ((break_pieces ++ line) ++ more) (append_assoc break_pieces line more);
      }

      -- a put of it failed
      pub break_breaks_off : {after : SinkSeen} → PutSome between (stop_pieces (function_name p f) i) after → (rest : List Order) → BreaksOff on is asked s rest before after
      break_breaks_off {after} put rest =
          let more = carries_out_total image points p limits values run is.shows.points_in is.shows.implements is.fits steps rest next in
          record {
            ended = more.0;
            output = break_pieces ++ (line ++ more.1);
            comes = break_comes rest more.0 more.1 more.2 (break_pieces ++ (line ++ more.1)) refl;
            put = PutSome-after break_puts.put (PutSome-longer more.1 (subst (λ ps. PutSome between ps after) line_is put));
          }

    -- ---- it stops at none

    -- what is ahead of the call is ahead of the session
    ahead_of : (n : ℕ) → IsAhead p limits values run.count (stops_by any s.marked) (from_session s) n → IsAhead p limits values run.count (stops_by any s.marked) (s.words + from_in old.monitor) n
    ahead_of n ahead = subst (λ from. IsAhead p limits values run.count (stops_by any s.marked) from n) (sym from_is) ahead

    -- all words are executed, and the machine runs on
    pub spent_is_over : Spends (IsSpotAt (spots_in old.monitor) any) (from_in old.monitor) most old.monitor.machine new.monitor.machine before between → IsOver on is asked s None before between
    spent_is_over spent =
        let law = spends_pass_none image points p limits values is.shows is.fits s.words old.monitor new.monitor follows.stands any (stops_by any s.marked) chosen most before between spent spots in
        let none : StopsNowhere image points p limits values run steps any s = λ n ahead. (let past = law.0 n (ahead_of n ahead) in let all = all_words in omega arith) in
        let runs : (image_after image limits values steps).stopped ≡ None = ap (λ k. (image_after image limits values k).stopped) (sym all_words) ∙ law.1 in
        record {
          pieces = last_pieces;
          puts = subst (λ k. PutsAll before (pieces_after image limits values s.words k) between) is_most (puts_pieces image points limits values s.words old.monitor follows.stands most spent.reached.printed);
          comes = λ rest. comes_by any rest None last_pieces (inr (none, inr (refl, runs, refl)));
        }

    -- the program ends
    module _ (end : End) (passes : Passes (IsSpotAt (spots_in old.monitor) any) (Finished end) (from_in old.monitor) most old.monitor.machine new.monitor.machine before between) where
      end_puts : PutsAll before last_pieces between
      end_puts =
          let count = passes.count in
          let gap : most ≡ count + (most - count) = (let few = passes.within in omega arith) in
          let stopped : (image_after image limits values (s.words + count)).stopped ≡ Some (Finished end) = stopped_same image points limits values s.words old.monitor follows.stands count ∙ passes.stopped in
          let same : pieces_after image limits values s.words count ≡ last_pieces =
          sym (pieces-stay image limits values s.words count (most - count) (Finished end) stopped) ∙ (ap (pieces_after image limits values s.words) (sym gap) ∙ ap (pieces_after image limits values s.words) is_most) in
          subst (λ ps. PutsAll before ps between) same (puts_pieces image points limits values s.words old.monitor follows.stands count passes.reached.printed)

      end_comes : (rest : List Order) → carries on is (asked ∷ rest) s (Some end) (last_pieces ++ end_pieces end)
      end_comes rest =
          let law = passes_leave_none image points p limits values is.shows is.fits s.words old.monitor new.monitor follows.stands any (stops_by any s.marked) chosen (Finished end) most before between passes spots in
          let none : StopsNowhere image points p limits values run steps any s = λ n ahead. absurd (law.0 n (ahead_of n ahead)) in
          let ends : (image_after image limits values steps).stopped ≡ Some (Finished end) = ap (λ k. (image_after image limits values k).stopped) (sym all_words) ∙ law.1 in
          comes_by any rest (Some end) (last_pieces ++ end_pieces end) (inr (none, inl (end, refl, ends, refl)))

      -- its line was put
      pub end_is_over : {after : SinkSeen} → PutsAll between (end_pieces end) after → IsOver on is asked s (Some end) before after
      end_is_over puts = record { pieces = last_pieces ++ end_pieces end; puts = PutsAll-append end_puts puts; comes = end_comes }

      -- a put of it failed
      pub end_breaks_off : {after : SinkSeen} → PutSome between (end_pieces end) after → (rest : List Order) → BreaksOff on is asked s rest before after
      end_breaks_off put rest = record { ended = Some end; output = last_pieces ++ end_pieces end; comes = end_comes rest; put = PutSome-after end_puts.put put }

    -- the machine never traps
    pub none_trapped : (trap : Trap) → Passes (IsSpotAt (spots_in old.monitor) any) (Trapped trap) (from_in old.monitor) most old.monitor.machine new.monitor.machine before between → ⊥
    none_trapped trap passes = none_traps image points p limits values is.shows is.fits s.words old.monitor follows.stands any trap most new.monitor.machine before between passes

    -- a print failed
    pub failed_breaks_off : HadFailed old.monitor.machine new.monitor.machine before between ⊎ Fails (IsSpotAt (spots_in old.monitor) any) (from_in old.monitor) most old.monitor.machine new.monitor.machine before between → (rest : List Order) → BreaksOff on is asked s rest before between
    failed_breaks_off (inl had) rest = absurd (true≢false (sym had.failed_before ∙ follows.sound))
    failed_breaks_off (inr failed) rest = by whole.2
      where
        whole : ComesTo (Comes rest)
        whole = runs_total image points p limits values run is.shows.points_in is.shows.implements is.fits steps any (After rest) (carries_out_total image points p limits values run is.shows.points_in is.shows.implements is.fits steps rest) s

        -- the pieces of more words, and what comes after them
        longer : (n : ℕ) (more : List (List ℕ)) → failed.executed < n → PutSome before (pieces_after image limits values s.words n ++ more) between
        longer n more less = cuts_longer image points limits values s.words old.monitor follows.stands failed.executed new.monitor.machine failed.print n more less

        last : failed.executed < steps - s.words
        last = let few = failed.within in omega arith

        gives : (output : List (List ℕ)) → whole.1 ≡ output → PutSome before output between → BreaksOff on is asked s rest before between
        gives output same put = record { ended = whole.0; output = whole.1; comes = comes_by any rest whole.0 whole.1 whole.2; put = subst (λ ps. PutSome before ps between) (sym same) put }

        by : Comes rest whole.0 whole.1 → BreaksOff on is asked s rest before between
        by (inl (n, at, stops, func, is_function, more, same, goes)) =
            let past = fails_pass_none image points p limits values is.shows is.fits s.words old.monitor follows.stands any (stops_by any s.marked) chosen most new.monitor.machine before between failed n (ahead_of n stops.least.is) in
            gives (pieces_after image limits values s.words (run.count n - s.words) ++ (stop_pieces func.name at.item ++ more)) same
            (longer (run.count n - s.words) (stop_pieces func.name at.item ++ more) (omega arith))
        by (inr (none, inl (end, is_end, ends, same))) = gives (last_pieces ++ end_pieces end) same (longer (steps - s.words) (end_pieces end) last)
        by (inr (none, inr (is_none, runs, same))) = gives (last_pieces ++ []) (same ∙ sym (append-nil last_pieces)) (longer (steps - s.words) [] last)
