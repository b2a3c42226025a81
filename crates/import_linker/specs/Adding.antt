-- Paths that are added to those that are known.
use Rattle.std.specs.Prelude.{ℕ, ◌<◌, List, length}
use Rattle.import_linker.specs.Order.{all_added, most_files}
use Rattle.import_linker.specs.declared.fault.LinkFault.{LinkFault}
use Rattle.import_linker.specs.declared.fault.LinkFault.TheVariants as fault

-- why paths were not added: they would be more than files may be
abbrev pub AddsTooMany : LinkFault → List (List ℕ) → List (List ℕ) → Type 0
AddsTooMany fault.TooManyFiles known paths = most_files < length (all_added known paths)
AddsTooMany fault.Memory known paths = Unit {0}
AddsTooMany (fault.Read path) known paths = ⊥
AddsTooMany (fault.Bad path why) known paths = ⊥
AddsTooMany (fault.NotThere path name) known paths = ⊥
AddsTooMany (fault.Clash path name) known paths = ⊥
AddsTooMany fault.TooManyBytes known paths = ⊥
