-- A monitor goes on word by word.
use Rattle.std.proofs.Common.{◌≡◌, ◌⊎◌, ℕ, suc, ◌+◌, ◌<◌, ◌≤◌, Bool, true, false, List, Option, Some, None, refl, sym, ap, ◌∙◌, subst, inl, inr, ⊎_elim, arith}
use Rattle.std.proofs.lemmas.Bool.{cases_lt}
use Rattle.std.proofs.lemmas.Bool.Decides.{nat_tests}
use Rattle.bril_outside.specs.Sink.{SinkSeen}
use Rattle.rv64_machine.specs.declared.machine.Machine.{Machine}
use Rattle.rv64_machine.specs.MachineView.{image_in, sizes_in, state_of}
use Rattle.rv64_machine.specs.StepAnswers.{HadFailed, PrintFailed, Reached, RunFailed, puts_by, puts_of, reached_after, unprinted}
use Rattle.rv64_machine.proofs.Calls.{Reached-more, Reached-stopped, RunFailed-at, after_next}
use Rattle.rv64_words.specs.State.{State, Stop}
use Rattle.rv64_words.proofs.Runs.{machine_after-final}
use Rattle.step_monitor.specs.declared.monitor.Monitor.{Monitor}
use Rattle.step_monitor.specs.declared.spots.Spot.{Spot}
use Rattle.step_monitor.specs.MonitorView.{IsSpotAt, NoneIsNext, from_in, from_left, left_at, spots_in}
use Rattle.step_monitor.specs.Went.{Fails, NoStop, Passes, Spends}

-- ---- whether the machine has stopped here

pub left_later : (b : Bool) (taken : ℕ) → false ≡ left_at b (taken + 1)
left_later true taken = grind (arith, nat_tests)
left_later false taken = refl

shut_from : (b : Bool) (taken k : ℕ) → left_at b taken ≡ true → from_left b ≤ k → taken < k
shut_from true taken k e le = grind (arith, nat_tests)
shut_from false taken k e le = absurd (let f : false ≡ true = e in cc)

-- ---- what holds before each word

-- The monitor m, of the monitor `old` after so many words: the machine runs, and met no stop.
pub record Goes (any : Bool) (old m : Monitor) (taken : ℕ) (before between : SinkSeen) : Type 0 where
  pub spots : spots_in m ≡ spots_in old
  pub reached : Reached (reached_after old.machine taken) (puts_by old.machine taken) old.machine m.machine before between
  pub running : (state_of m.machine).stopped ≡ None
  pub left : m.left ≡ left_at old.left taken
  pub none : NoStop (IsSpotAt (spots_in old) any) old.machine (from_in old) taken

-- a point is there by the pc alone
spot_unprinted : (spots : List (Option Spot)) (any : Bool) (t : State) (f i : ℕ) → IsSpotAt spots any t f i → IsSpotAt spots any (unprinted t) f i
spot_unprinted spots any t f i h = record { running = h.running; word = h.word; at_word = h.at_word; spot = h.spot; is = h.is; counts = h.counts; func = h.func; item = h.item }

-- a machine that has stopped comes to no stop
none_final : (spots : List (Option Spot)) (any : Bool) (old : Monitor) (count words : ℕ) (how : Stop) → NoStop (IsSpotAt spots any) old.machine (from_in old) count → (reached_after old.machine count).stopped ≡ Some how →
    NoStop (IsSpotAt spots any) old.machine (from_in old) (suc words)
none_final spots any old count words how none stopped k f i late early is = by (cases_lt k count)
  where
    clash : Some how ≡ None → ⊥
    clash e = cc

    by : (k < count) ⊎ (count ≤ k) → ⊥
    by (inl less) = none k f i late less is
    by (inr le) = clash (sym (ap (λ t. t.stopped) (machine_after-final (image_in old.machine) (sizes_in old.machine) count k (state_of old.machine) how le stopped) ∙ stopped) ∙ is.running)

module _ (any : Bool) (old m : Monitor) (taken : ℕ) (before between : SinkSeen) (g : Goes any old m taken before between) where
  there_here : (f i : ℕ) → IsSpotAt (spots_in old) any (reached_after old.machine taken) f i → IsSpotAt (spots_in m) any (state_of m.machine) f i
  there_here f i h =
      subst (λ l. IsSpotAt l any (state_of m.machine) f i) (sym g.spots)
      (subst (λ t. IsSpotAt (spots_in old) any t f i) (sym g.reached.became.state) (spot_unprinted (spots_in old) any (reached_after old.machine taken) f i h))

  -- none is here either
  pub none_more : NoneIsNext m any → NoStop (IsSpotAt (spots_in old) any) old.machine (from_in old) (suc taken)
  none_more none k f i late before_next is = by (cases_lt k taken)
    where
      at_last : taken ≤ k → NoneIsNext m any → ⊥
      at_last le (inl shut) = let past = shut_from old.left taken k (sym g.left ∙ shut) late in absurd (omega arith)
      at_last le (inr never) = let same : k ≡ taken = omega arith in never f i (there_here f i (subst (λ n. IsSpotAt (spots_in old) any (reached_after old.machine n) f i) same is))

      by : (k < taken) ⊎ (taken ≤ k) → ⊥
      by (inl less) = g.none k f i late less is
      by (inr le) = at_last le none

  -- the machine executes one more word
  pub goes_more : (new : Machine) (after : SinkSeen) → NoneIsNext m any → ((after_next m.machine).stopped ≡ None) × Reached (after_next m.machine) (puts_of (after_next m.machine).printed) m.machine new between after →
      Goes any old (record { machine = new; spots = m.spots; left = false; stop = m.stop }) (taken + 1) before after
  goes_more new after none stepped =
      let one : suc taken ≡ taken + 1 = omega arith in
      record {
        spots = g.spots;
        reached = subst (λ n. Reached (reached_after old.machine n) (puts_by old.machine n) old.machine new before after) one (Reached-more taken old.machine m.machine new before between after g.reached stepped.1);
        running = ap (λ t. t.stopped) stepped.1.became.state ∙ stepped.0;
        left = left_later old.left taken;
        none = subst (λ n. NoStop (IsSpotAt (spots_in old) any) old.machine (from_in old) n) one (none_more none);
      }

  -- it stopped at the next word
  pub passes_more : (words : ℕ) (how : Stop) (new : Machine) (after : SinkSeen) → taken < words → NoneIsNext m any → ((after_next m.machine).stopped ≡ Some how) × Reached (after_next m.machine) (puts_of (after_next m.machine).printed) m.machine new between after →
      Passes (IsSpotAt (spots_in old) any) how (from_in old) words old.machine new before after
  passes_more words how new after less none stepped =
      let stopped = Reached-stopped taken (suc taken) old.machine m.machine new before between after how (omega arith) g.reached stepped.0 stepped.1 in
      record {
        count = suc taken;
        within = less;
        none = none_final (spots_in old) any old (suc taken) words how (none_more none) stopped.0;
        stopped = stopped.0;
        reached = stopped.1;
      }

  -- its print failed
  pub fails_more : (words : ℕ) (new : Machine) (after : SinkSeen) → taken < words → NoneIsNext m any → HadFailed m.machine new between after ⊎ PrintFailed (state_of m.machine) (after_next m.machine) 0 m.machine new between after →
      HadFailed old.machine new before after ⊎ Fails (IsSpotAt (spots_in old) any) (from_in old) words old.machine new before after
  fails_more words new after less none stepped = ⊎_elim (λ had. inl had) (λ failed. inr (fails failed)) (RunFailed-at taken (suc taken) old.machine m.machine new before between after (omega arith) g.reached stepped)
    where
      fails : RunFailed (suc taken) old.machine new before after → Fails (IsSpotAt (spots_in old) any) (from_in old) words old.machine new before after
      fails failed = record {
        executed = failed.executed;
        within = let w = failed.within in omega arith;
        none = λ k f i late early is. (let w = failed.within in none_more none k f i late (omega arith) is);
        print = failed.print;
      }

  -- all words are executed
  pub spends : (words : ℕ) → taken ≡ words → NoneIsNext m any → Spends (IsSpotAt (spots_in old) any) (from_in old) words old.machine m.machine before between
  spends words same none =
      subst (λ n. Spends (IsSpotAt (spots_in old) any) (from_in old) n old.machine m.machine before between) same
      (record { none = none_more none; running = sym (ap (λ t. t.stopped) g.reached.became.state) ∙ g.running; reached = g.reached })

-- before the first word
pub passes_first : (any : Bool) (old : Monitor) (words : ℕ) (how : Stop) (new : Machine) (before after : SinkSeen) → ((reached_after old.machine 0).stopped ≡ Some how) × Reached (reached_after old.machine 0) (puts_by old.machine 0) old.machine new before after →
    Passes (IsSpotAt (spots_in old) any) how (from_in old) words old.machine new before after
passes_first any old words how new before after ran = record {
  count = 0;
  within = omega arith;
  none = none_final (spots_in old) any old 0 words how (λ k f i late early is. absurd (omega arith)) ran.0;
  stopped = ran.0;
  reached = ran.1;
}
