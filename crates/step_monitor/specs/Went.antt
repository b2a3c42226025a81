-- What a call that runs a monitor to its next stop leaves.
use Rattle.std.specs.Prelude.{◌≡◌, ◌⊎◌, ℕ, suc, ◌<◌, ◌≤◌, None, Some}
use Rattle.bril_outside.specs.Sink.{SinkSeen}
use Rattle.rv64_words.specs.State.{State, Stop, Finished, Trapped}
use Rattle.rv64_machine.specs.declared.machine.Machine.{Machine}
use Rattle.rv64_machine.specs.StepAnswers.{HadFailed, PrintFailed, Reached, puts_by, reached_after}
use Rattle.step_monitor.specs.declared.stop.Stop.{Stop as Answer}
use Rattle.step_monitor.specs.declared.stop.Stop.TheVariants as stop

-- what is a stop: a state of the machine, with a function and an item
module _ (stops : State → ℕ → ℕ → Type 0) where
  -- from so many words on, and before another number of them, the machine is at no stop
  abbrev pub NoStop : Machine → ℕ → ℕ → Type 0
  NoStop m from to = (k f i : ℕ) → from ≤ k → k < to → stops (reached_after m k) f i → ⊥

  -- the first stop from `from` words on is after k words, at most `words`
  pub record Breaks (f i from words : ℕ) (old new : Machine) (before after : SinkSeen) : Type 0 where
    pub count : ℕ
    pub late : from ≤ count
    pub within : count ≤ words
    pub none : NoStop old from count
    pub is : stops (reached_after old count) f i
    pub reached : Reached (reached_after old count) (puts_by old count) old new before after

  -- there is none up to `words` words, and the machine runs on
  pub record Spends (from words : ℕ) (old new : Machine) (before after : SinkSeen) : Type 0 where
    pub none : NoStop old from (suc words)
    pub running : (reached_after old words).stopped ≡ None
    pub reached : Reached (reached_after old words) (puts_by old words) old new before after

  -- there is none up to `words` words, within which the machine stopped so
  pub record Passes (how : Stop) (from words : ℕ) (old new : Machine) (before after : SinkSeen) : Type 0 where
    pub count : ℕ
    pub within : count ≤ words
    pub none : NoStop old from (suc words)
    pub stopped : (reached_after old count).stopped ≡ Some how
    pub reached : Reached (reached_after old count) (puts_by old count) old new before after

  -- there is none before a word whose print failed
  pub record Fails (from words : ℕ) (old new : Machine) (before after : SinkSeen) : Type 0 where
    pub executed : ℕ
    pub within : executed < words
    pub none : NoStop old from (suc executed)
    pub print : PrintFailed (reached_after old executed) (reached_after old (suc executed)) (puts_by old executed) old new before after

  abbrev pub Went : Answer → ℕ → ℕ → Machine → Machine → SinkSeen → SinkSeen → Type 0
  Went (stop.Break f i) from words old new before after = Breaks f i from words old new before after
  Went stop.Spent from words old new before after = Spends from words old new before after
  Went (stop.End e) from words old new before after = Passes (Finished e) from words old new before after
  Went (stop.Trap trap) from words old new before after = Passes (Trapped trap) from words old new before after
  Went stop.WriteFault from words old new before after = HadFailed old new before after ⊎ Fails from words old new before after
