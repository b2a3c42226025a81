-- Why files are not linked, by what stopped.
use Rattle.std.proofs.Common.{ℕ, List}
use Rattle.bril_outside.specs.Files.{FilesSeen}
use Rattle.import_linker.specs.Names.{fault_from}
use Rattle.import_linker.specs.Reading.{AreFiles, RefusesReading}
use Rattle.import_linker.specs.Refusing.{RefusesLink, RefusesNames}
use Rattle.import_linker.specs.declared.fault.LinkFault.{LinkFault}
use Rattle.import_linker.specs.declared.fault.LinkFault.TheVariants as fault
use Rattle.import_linker.specs.declared.sources.Source.{Source}

module _ (before after : FilesSeen) (root : List ℕ) where
  -- the files were not all read
  pub by_reading : (e : LinkFault) → RefusesReading e before after root → RefusesLink e before after root
  by_reading (fault.Read path) h = h
  by_reading (fault.Bad path why) h = h
  by_reading (fault.NotThere path name) h = absurd h
  by_reading (fault.Clash path name) h = absurd h
  by_reading fault.TooManyFiles h = h
  by_reading fault.TooManyBytes h = h
  by_reading fault.Memory h = tt

  -- a name of the files is at fault
  pub by_names : (e : LinkFault) (sources : List Source) → AreFiles before.holds root sources → RefusesNames e (fault_from sources 0 sources) → RefusesLink e before after root
  by_names (fault.Read path) sources files h = absurd h
  by_names (fault.Bad path why) sources files h = absurd h
  by_names (fault.NotThere path name) sources files h = record { sources = sources; files = files; first = h }
  by_names (fault.Clash path name) sources files h = record { sources = sources; files = files; first = h }
  by_names fault.TooManyFiles sources files h = absurd h
  by_names fault.TooManyBytes sources files h = absurd h
  by_names fault.Memory sources files h = tt
