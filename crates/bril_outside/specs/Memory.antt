-- Files and sinks that lie in memory.
use Rattle.std.specs.Prelude.{ℕ, ◌≡◌, ◌≢◌, ◌-◌, nat_le, Bool, true, false, ◌&&◌, ◌==◌, not, List, [], ◌++◌, length, take, find, Option, Some, None, Result, Ok, Err, if◌then◌else◌}
use Rattle.std.specs.List.{list_any}
use Rattle.std.specs.Option.{option_map}
use Rattle.std.specs.Str.{bytes_eq}
use Rattle.bril_outside.specs.Sink.{SinkSeen, amount_after, next_count}
use Rattle.bril_outside.specs.Files.{FileMap, FilesSeen}
use Rattle.bril_outside.specs.declared.stored_file.StoredFile.{StoredFile}
use Rattle.bril_outside.specs.declared.files.FileFault.{FileFault}
use Rattle.bril_outside.specs.declared.files.FileFault.TheVariants.{Failed, Memory}

-- A sink in memory: what it holds and for how many bytes it has room, how many times it was put to, as long as it
-- knows that, the numbers of the puts that are to fail, and how many failed.
pub record SinkMemory : Type 0 where
  pub held : List ℕ
  pub room : ℕ
  pub puts : Option ℕ
  pub fails : List ℕ
  pub faults : ℕ

-- it tells all that it holds
abbrev pub sink_seen : SinkMemory → SinkSeen
sink_seen m = record { written = Some m.held; amount = Some (length m.held); puts = m.puts; faults = m.faults; is_out = true }

-- whether the number, where there is one, is on the list
abbrev pub has_number : List ℕ → Option ℕ → Bool
has_number list None = false
has_number list (Some number) = list_any (λ n. n == number) list

-- whether the next put is one that is to fail
abbrev pub next_put_fails : SinkMemory → Bool
next_put_fails m = has_number m.fails (amount_after m.puts 1)

-- the bytes of a piece that the next put takes: none where it is to fail, else those that there is room for
abbrev pub taken : SinkMemory → List ℕ → List ℕ
taken m piece = if next_put_fails m then [] else take (m.room - length m.held) piece

-- whether the next put takes the whole piece
abbrev pub takes_all : SinkMemory → List ℕ → Bool
takes_all m piece = not (next_put_fails m) && nat_le (length piece) (m.room - length m.held)

-- the sink after a put of the piece
abbrev pub after_put : SinkMemory → List ℕ → SinkMemory
after_put m piece =
    record m {
      held = m.held ++ taken m piece;
      puts = amount_after m.puts 1;
      faults = if takes_all m piece then m.faults else next_count m.faults;
    }

-- Files in memory: the files, how many times one was read, as long as they know that, the numbers of the reads that are to
-- fail, and how many failed.
pub record FilesMemory : Type 0 where
  pub files : List StoredFile
  pub reads : Option ℕ
  pub fails : List ℕ
  pub faults : ℕ

-- the bytes of the first file that has the path
abbrev pub file_at : List StoredFile → FileMap
file_at files path = option_map (λ f. f.bytes) (find (λ f. bytes_eq f.path path) files)

-- they tell all that they hold
abbrev pub files_seen : FilesMemory → FilesSeen
files_seen m = record { holds = Some (file_at m.files); reads = m.reads; faults = m.faults }

-- whether the next read is one that is to fail
abbrev pub next_read_fails : FilesMemory → Bool
next_read_fails m = has_number m.fails (amount_after m.reads 1)

-- the answer to a read of what is at a path
abbrev pub answer_at : Option (List ℕ) → ℕ → Result Bool FileFault
answer_at None most = Err Failed
answer_at (Some bytes) most = Ok (nat_le (length bytes) most)

-- the answer to the next read, where memory is not wanting
abbrev pub read_answer : FilesMemory → List ℕ → ℕ → Result Bool FileFault
read_answer m path most = if next_read_fails m then Err Failed else answer_at (file_at m.files path) most

-- a read gave that answer, or memory was wanting for a file that was to be appended
abbrev pub AnswersRead : Result Bool FileFault → Result Bool FileFault → Type 0
AnswersRead answer (Ok whole) = answer ≡ Ok whole
AnswersRead answer (Err Failed) = answer ≡ Err Failed
AnswersRead answer (Err Memory) = answer ≡ Ok true

-- the files after a read
abbrev pub after_read : FilesMemory → FilesMemory
after_read m =
    record m {
      reads = amount_after m.reads 1;
      faults = if next_read_fails m then next_count m.faults else m.faults;
    }

-- the new files have these bytes at the path, and what the old ones have at every other
pub record ChangesFile (old new : FileMap) (path bytes : List ℕ) : Type 0 where
  pub there : new path ≡ Some bytes
  pub others : (other : List ℕ) → other ≢ path → new other ≡ old other
