-- A command that needs a program, on a tree.
use Rattle.std.proofs.Common.{List, Option, ℕ, inl, inr}
use Rattle.bril_outside.specs.Files.{FilesSeen}
use Rattle.bril_outside.specs.Sink.{SinkSeen}
use Rattle.bril_report.specs.declared.status.Status.{Status}
use Rattle.bril_tree.specs.declared.program.Prog.{Prog}
use Rattle.bril_tree.specs.declared.tree.Tree.{Tree}
use Rattle.bril_commands.specs.Command.{Command, OnBytes, OnFile, OnTree, OnProgram, NeedsProgram}
use Rattle.bril_commands.specs.Driver.{DoesAccepted, DoesTree, IsIdle}
use Rattle.bril_commands.specs.PassList.{PassList}
use Rattle.bril_commands.specs.Stages.{IsAcceptedProgram, RefusesProgram}

module _ (how : Status) (l : PassList) (f g : FilesSeen) (tree : Tree) (named : Option (List ℕ)) (args told : List (List ℕ)) (s t : SinkSeen) where
  -- the tree has none that is accepted
  pub DoesTree-refused : (k : Command) → NeedsProgram k → RefusesProgram how tree → IsIdle l told s t → DoesTree k how l f g tree named args told s t
  DoesTree-refused (OnBytes does) needs refuses idle = absurd needs
  DoesTree-refused (OnFile outcome) needs refuses idle = absurd needs
  DoesTree-refused (OnTree outcome) needs refuses idle = absurd needs
  DoesTree-refused (OnProgram origin does) needs refuses idle = inl (refuses, idle)

  -- it was dealt with
  pub DoesTree-accepted : (k : Command) (p : Prog) → IsAcceptedProgram tree p → DoesAccepted k how l f g p named args told s t → DoesTree k how l f g tree named args told s t
  DoesTree-accepted (OnBytes does) p is goes = absurd goes
  DoesTree-accepted (OnFile outcome) p is does = absurd does
  DoesTree-accepted (OnTree outcome) p is does = absurd does
  DoesTree-accepted (OnProgram origin does) p is goes = inr (p, is, goes)
