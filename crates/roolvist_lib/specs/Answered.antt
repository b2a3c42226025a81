-- What a call in memory answers.
use Rattle.std.specs.Prelude.{ℕ, ◌≡◌, ◌≢◌, ◌<◌, ◌≤◌, ◌⊎◌, List, length, Option, Some, MatchOption}
use Rattle.bril_outside.specs.Files.{FilesSeen}
use Rattle.bril_outside.specs.Sink.{Rose, SinkSeen}
use Rattle.roolvist_lib.specs.Buffers.{HoldsFirst}
use Rattle.roolvist_lib.specs.Given.{Given, files_given}
use Rattle.roolvist_lib.specs.Seen.{Seen, empty_output}

-- The command ended with this status; its outputs, of which these things are seen, came to be those; and this is said of the call.
pub record EndsSo (Says : ℕ → Seen → Type 0) (words : List (List ℕ)) (files : FilesSeen) (status : ℕ) (out out' err err' : SinkSeen) : Type 0 where
  pub files_after : FilesSeen
  pub says : Says status (record { words = words; files_before = files; files_after = files_after; out_before = out; out_after = out'; err_before = err; err_after = err' })
  -- 74 comes where a write to the output failed, and then nothing but 71 in its place
  pub refused : status ≡ 74 → Rose out.faults out'.faults
  pub told : out'.faults ≢ out.faults → (status ≡ 74) ⊎ (status ≡ 71)

-- The buffer holds the first bytes of what was written to the output. Where it has room for all of them, no write failed.
pub record HoldsOutput (seen : SinkSeen) (before after : List ℕ) (count : ℕ) : Type 0 where
  pub bytes : List ℕ
  pub written : seen.written ≡ Some bytes
  pub holds : HoldsFirst bytes before after count
  pub whole : length bytes ≤ length before → seen.faults ≡ 0

-- The buffers of a call before and after it, and how many bytes of them were written.
pub record Buffers : Type 0 where
  pub out : List ℕ
  pub out_after : List ℕ
  pub out_count : ℕ
  pub err : List ℕ
  pub err_after : List ℕ
  pub err_count : ℕ

-- The words were done with the files, and the buffers hold what was written.
pub record IsDoneSo (Says : ℕ → Seen → Type 0) (words : List (List ℕ)) (files : FilesSeen) (status : ℕ) (b : Buffers) : Type 0 where
  pub out_seen : SinkSeen
  pub err_seen : SinkSeen
  pub ends : EndsSo Says words files status empty_output out_seen empty_output err_seen
  pub holds_out : HoldsOutput out_seen b.out b.out_after b.out_count
  pub holds_err : HoldsOutput err_seen b.err b.err_after b.err_count
  -- 74 comes only where more was written than the output's buffer has room for, and then nothing but 71 in its place
  pub full : status ≡ 74 → length b.out < length holds_out.bytes
  pub cut : length b.out < length holds_out.bytes → (status ≡ 74) ⊎ (status ≡ 71)

-- nothing was written
pub record IsSilent (b : Buffers) : Type 0 where
  pub out_stays : b.out_after ≡ b.out
  pub no_out : b.out_count ≡ 0
  pub err_stays : b.err_after ≡ b.err
  pub no_err : b.err_count ≡ 0

-- the status is this one, and nothing was written
abbrev pub IsRefused : ℕ → ℕ → Buffers → Type 0
IsRefused expected status b = (status ≡ expected) × IsSilent b

-- What is answered: 64 where the pieces don't fit; else it is done what they ask for. Either way 71 comes where memory runs out
-- before anything is done.
abbrev pub IsAnswered : (ℕ → Seen → Type 0) → Option Given → ℕ → Buffers → Type 0
IsAnswered Says some status b =
    IsRefused 71 status b ⊎ MatchOption some (IsRefused 64 status b) (λ given. IsDoneSo Says given.words (files_given given.files) status b)
