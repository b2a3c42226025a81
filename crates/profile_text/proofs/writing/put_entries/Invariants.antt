use Rattle.std.proofs.Common.{◌≡◌, ◌++◌, take, map}
use Rattle.std.specs.List.{All}
use Rattle.profile_text.specs.declared.version.Version.TheVariants.{Second}
use Rattle.profile_text.specs.Form.{IsEntry, entry_line, text_of}
use Rattle.profile_text.proofs.writing.put_entries.Given as goal

abbrev pub invariant-loop-entry : goal.invariant-loop-entry
invariant-loop-entry l = record {
  text : l.into ≡ l.initial.into ++ text_of (map (entry_line Second) (take l.entry-index l.entries));
  valid : All (IsEntry Second) (take l.entry-index l.entries);
}
