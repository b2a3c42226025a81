-- What adapters over readers and writers of the system do to bytes that are known of these.
use Rattle.std.specs.Prelude.{ℕ, ◌≡◌, ◌<◌, ◌≤◌, ◌+◌, Bool, List, ◌++◌, length, Option, None, Result, Ok, Err}
use Rattle.std.specs.Io.KnownBytes.{Appends, Consumes, IsAtEnd, append_known}
use Rattle.bril_outside.specs.Sink.{next_count}
use Rattle.bril_outside.specs.Files.{FilesSeen}
use Rattle.bril_outside.specs.declared.files.FileFault.{FileFault}
use Rattle.bril_outside.specs.declared.files.FileFault.TheVariants.{Failed, Memory}

-- a sink over a writer: the writer, the bytes that the sink holds back from it, how many calls of the sink failed, and whether all that was
-- written is out
pub record SinkOver (W : Type 0) : Type 0 where
  pub out : W
  pub held : List ℕ
  pub faults : ℕ
  pub is_out : Bool

-- the bytes of the writer, where these are known, and those that the sink holds behind them
abbrev pub bytes_over : {W : Type 0} → (W → Option (List ℕ)) → SinkOver W → Option (List ℕ)
bytes_over contents s = append_known (contents s.out) s.held

-- known bytes grew by the first of these
pub record AppendsFirst (old new : Option (List ℕ)) (bytes : List ℕ) : Type 0 where
  pub part : List ℕ
  pub rest : List ℕ
  pub whole : bytes ≡ part ++ rest
  pub grew : Appends old new part

-- what a write does to known bytes: these grow by the bytes that were to be written, or after an error by the first of them
abbrev pub Writes : {A E : Type 0} → Option (List ℕ) → Option (List ℕ) → List ℕ → Result A E → Type 0
Writes old new bytes (Ok done) = Appends old new bytes
Writes old new bytes (Err fault) = AppendsFirst old new bytes

-- the most bytes that one read takes
abbrev pub most_at_once : ℕ
most_at_once = 4096

-- known bytes lost these, up to their end unless these are more than so many, and then by one read alone
pub record ReadsUpTo (old new : Option (List ℕ)) (most : ℕ) (bytes : List ℕ) : Type 0 where
  pub took : Consumes old new bytes
  pub ends : length bytes ≤ most → IsAtEnd new
  pub stops : length bytes ≤ most + most_at_once

-- the reader's bytes, which are at most so many, were appended
pub record AppendedRest (old new : Option (List ℕ)) (most : ℕ) (before after : List ℕ) : Type 0 where
  pub bytes : List ℕ
  pub took : Consumes old new bytes
  pub ends : IsAtEnd new
  pub short : length bytes ≤ most
  pub grew : after ≡ before ++ bytes

-- the reader has more bytes than so many, of which the first were read and none was appended
pub record FoundMore (old new : Option (List ℕ)) (most : ℕ) (before after : List ℕ) : Type 0 where
  pub bytes : List ℕ
  pub took : Consumes old new bytes
  pub long : most < length bytes
  pub stops : length bytes ≤ most + most_at_once
  pub stays : after ≡ before

-- what is told of files whose content and reads are not: their faults
abbrev pub untold_files : ℕ → FilesSeen
untold_files faults = record { holds = None; reads = None; faults = faults }

-- the count of faults of files after an answer: one more exactly where a read failed
abbrev pub faults_after : Result Bool FileFault → ℕ → ℕ
faults_after (Ok whole) faults = faults
faults_after (Err Failed) faults = next_count faults
faults_after (Err Memory) faults = faults
