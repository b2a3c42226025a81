-- What was read of some bytes was read of others that have these.
use Rattle.std.proofs.Common.{ℕ, List, [], ◌∷◌, ◌++◌, Option}
use Rattle.bril_outside.specs.Files.{FileMap, MayHold}
use Rattle.bril_tree.specs.declared.tree.Tree.{Tree}
use Rattle.import_linker.specs.Linked.{Linked}
use Rattle.import_linker.specs.Names.{NameFault}
use Rattle.import_linker.specs.Reading.{AreFiles, AreNext, IsMisread, IsRead, PassesBytes, PassesFiles, StopsAt}
use Rattle.import_linker.specs.Refusing.{IsMisnamed}
use Rattle.import_linker.specs.declared.formats.fault.ReadFault.{ReadFault}
use Rattle.import_linker.specs.declared.sources.Source.{Source}

module _ (some all : Option FileMap) (within : (path bytes : List ℕ) → MayHold some path bytes → MayHold all path bytes) where
  pub read_within : (s : Source) → IsRead some s → IsRead all s
  read_within s r = record { bytes = r.bytes; held = within s.path r.bytes r.held; reads = r.reads; size = r.size }

  module _ (root : List ℕ) where
    pub nexts_within : (done sources : List Source) → AreNext some root done sources → AreNext all root done sources
    nexts_within done [] are = tt
    nexts_within done (s ∷ sources) are =
        (record { named = are.0.named; read = read_within s are.0.read; short = are.0.short; few = are.0.few }, nexts_within (done ++ s ∷ []) sources are.1)

    pub files_within : (sources : List Source) → AreFiles some root sources → AreFiles all root sources
    files_within sources are = record { read = nexts_within [] sources are.read; all = are.all }

    stops_within : (path : List ℕ) (done : List Source) → StopsAt some root path done → StopsAt all root path done
    stops_within path done stops = record { read = nexts_within [] done stops.read; next = stops.next }

    pub linked_within : (tree : Tree) → Linked some root tree → Linked all root tree
    linked_within tree linked = record { sources = linked.sources; files = files_within linked.sources linked.files; links = linked.links }

    pub misread_within : (path : List ℕ) (why : ReadFault) → IsMisread some root path why → IsMisread all root path why
    misread_within path why m = record { done = m.done; stops = stops_within path m.done m.stops; bytes = m.bytes; held = within path m.bytes m.held; short = m.short; has = m.has }

    pub misnamed_within : (path : List ℕ) (why : NameFault) → IsMisnamed some root path why → IsMisnamed all root path why
    misnamed_within path why m = record { sources = m.sources; files = files_within m.sources m.files; first = m.first }

    pub long_within : PassesBytes some root → PassesBytes all root
    long_within p = record { done = p.done; path = p.path; stops = stops_within p.path p.done p.stops; bytes = p.bytes; held = within p.path p.bytes p.held; long = p.long }

    pub many_within : PassesFiles some root → PassesFiles all root
    many_within p = record { done = p.done; last = p.last; stops = stops_within p.last.path p.done p.stops; read = read_within p.last p.read; short = p.short; many = p.many }
