-- What is seen of a call of the top call.
use Rattle.std.specs.Prelude.{ℕ, List, Option}
use Rattle.bril_outside.specs.Files.{FilesSeen}
use Rattle.bril_outside.specs.Sink.{SinkSeen}
use Rattle.bril_words.specs.CommandLine.{words_ask}
use Rattle.bril_words.specs.Names.{names_of}
use Rattle.pass_law.specs.Meaning.{Meaning}
use Rattle.pass_law.specs.declared.tally.Tally.{Tally}
use Rattle.bril_commands.specs.CommandLine.{list_asked, second_asked}
use Rattle.bril_commands.specs.PassList.{PassList, pass_list}

-- What is seen of a call: its words, and its files, its two outputs and the passes that it was lent before and after it.
pub record Call : Type 1 where
  pub words : List (List ℕ)
  pub files_before : FilesSeen
  pub files_after : FilesSeen
  pub out_before : SinkSeen
  pub out_after : SinkSeen
  pub err_before : SinkSeen
  pub err_after : SinkSeen
  pub passes : PassList
  -- the path of the second file that the words name, that of a profile or of a script
  pub second : Option (List ℕ)

abbrev pub call_of : {B : Type 0} → List (List ℕ) → FilesSeen → FilesSeen → SinkSeen → SinkSeen → SinkSeen → SinkSeen → (B → Meaning) → (B → Tally) → List B → List B → Call
call_of words files files' out out' err err' meaning counts passes passes' = record {
  words = words;
  files_before = files;
  files_after = files';
  out_before = out;
  out_after = out';
  err_before = err;
  err_after = err';
  passes = pass_list meaning counts passes passes' (names_of (list_asked (words_ask words)));
  second = second_asked (words_ask words);
}
