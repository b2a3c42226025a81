-- The laws.
use Rattle.import_linker.proofs.lemmas.linked_names.Differing.{functions_differ}
use Rattle.import_linker.proofs.lemmas.linked_names.Being.{functions_are_there}
use Rattle.import_linker.proofs.linked_names.linked_functions_stand.Goals as goal

pub returns : goal.returns
returns c = record { differ = functions_differ; there = functions_are_there }
