-- What is seen of a call in memory, and what follows from it.
use Rattle.std.specs.Prelude.{ℕ, ◌≡◌, true, List, [], Some}
use Rattle.bril_commands.specs.Answers.{Promises}
use Rattle.bril_commands.specs.Budgets.{IsPastBudget}
use Rattle.bril_commands.specs.Call.{Call, call_of}
use Rattle.bril_commands.specs.RunIsCorrect.{RunIsCorrect}
use Rattle.bril_outside.specs.Files.{FilesSeen}
use Rattle.bril_outside.specs.Sink.{SinkSeen}
use Rattle.pass_law.specs.Meaning.{Meaning}
use Rattle.pass_law.specs.declared.tally.Tally.{Tally}
use Rattle.shipped_passes.specs.Shipped.{AreShipped, shipped_rows}

-- What is seen of a call but for the passes that it is lent: its words, and its files and its two outputs before and after it.
pub record Seen : Type 0 where
  pub words : List (List ℕ)
  pub files_before : FilesSeen
  pub files_after : FilesSeen
  pub out_before : SinkSeen
  pub out_after : SinkSeen
  pub err_before : SinkSeen
  pub err_after : SinkSeen

-- what is seen of an output in memory to which nothing was put
abbrev pub empty_output : SinkSeen
empty_output = record { written = Some []; amount = Some 0; puts = Some 0; faults = 0; is_out = true }

-- the call with passes of any type, before and after it
abbrev pub call_with : {B : Type 0} → (B → Meaning) → (B → Tally) → List B → List B → Seen → Call
call_with meaning counts passes passes' s =
    call_of s.words s.files_before s.files_after s.out_before s.out_after s.err_before s.err_after meaning counts passes passes'

-- The call was lent the shipped passes, and its status is what the program promises.
pub record IsPromised {B : Type 0} (meaning : B → Meaning) (counts : B → Tally) (passes passes' : List B) (status : ℕ) (s : Seen) : Type 0 where
  pub shipped : AreShipped meaning passes
  pub promises : Promises status (call_with meaning counts passes passes' s)
  pub run : RunIsCorrect status (call_with meaning counts passes passes' s)
  pub budget : status ≡ 3 → IsPastBudget shipped_rows (call_with meaning counts passes passes' s)

-- Anything that is said of a status and of what is seen of a call, and that follows from the promises, of whatever type the boxes
-- of the passes are. What holds for each such reading holds of the promises themselves.
pub record Reading : Type 1 where
  pub Says : ℕ → Seen → Type 0
  pub follows : {B : Type 0} (meaning : B → Meaning) (counts : B → Tally) (passes passes' : List B) (status : ℕ) (s : Seen) →
      IsPromised meaning counts passes passes' status s → Says status s
