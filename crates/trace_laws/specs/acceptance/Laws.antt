-- That a program with traces is accepted.
use Rattle.bril_profile.specs.declared.profile.Profile.{Profile}
use Rattle.bril_tree.specs.declared.program.Prog.{Prog}
use Rattle.bril_tree.specs.Accepted.{IsAccepted}
use Rattle.trace_laws.specs.lines.Traced.{IsTraced}

-- With the traces of a profile's entries an accepted program is accepted.
abbrev pub TracesAreAccepted : Type 0
TracesAreAccepted = (P Q : Prog) (profile : Profile) → IsAccepted P → IsTraced P profile Q → IsAccepted Q
