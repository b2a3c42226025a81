-- What `run --stats` tells of a run on the error output, before the line of the status.
use Rattle.std.specs.Prelude.{◌≡◌, ℕ, Bool, true, false, List, [], ◌++◌, Option, Some}
use Rattle.std.specs.List.{flat_map}
use Rattle.bril_report.specs.Stats.{words_pieces, guard_pieces, function_name}
use Rattle.bril_tree.specs.Run.{state_after}
use Rattle.bril_tree.specs.declared.limits.End.{End}
use Rattle.bril_tree.specs.declared.limits.Limits.{Limits}
use Rattle.bril_tree.specs.declared.program.Prog.{Prog}
use Rattle.bril_tree.specs.declared.value.Value.{Value}
use Rattle.rv64_image_laws.specs.Implements.{ListsGuards, CountsFailures, image_after}
use Rattle.rv64_words.specs.State.{State}
use Rattle.rv64_words.specs.declared.image.GuardAt.{GuardAt}
use Rattle.rv64_words.specs.declared.image.Image.{Image}

-- how often a guard's word was executed
abbrev pub guard_told : Prog → State → GuardAt → List (List ℕ)
guard_told p t guard = guard_pieces (function_name p guard.func) guard.item (t.arrivals guard.word)

-- how many words were executed, and how often those of the guards, in pieces of which each is one put
abbrev pub stats_pieces : Prog → List GuardAt → State → List (List ℕ)
stats_pieces p guards t = words_pieces t.done ++ flat_map (guard_told p t) guards

-- what is told, which is nothing where it isn't asked for
abbrev pub stats_told : Bool → Prog → List GuardAt → State → List (List ℕ)
stats_told true p guards t = stats_pieces p guards t
stats_told false p guards t = []

-- What is told of a run of so many words of an image, which ended so or went on for None: the words that were executed and the
-- arrivals at each guard's word. There is one line for each guard of the program, in the order of functions and items, and where
-- the program ended its number is that of the guard's failures.
pub record TellsStats (stats : Bool) (image : Image) (p : Prog) (limits : Limits) (values : List Value) (words : ℕ) (ended : Option End) (told : List (List ℕ)) : Type 0 where
  pub lines : told ≡ stats_told stats p image.guards (image_after image limits values words)
  pub guards : ListsGuards image.guards p
  pub counts : (n : ℕ) (end : End) → ended ≡ Some end → (state_after p limits values n).ended ≡ Some end →
      CountsFailures image.guards (state_after p limits values n) (image_after image limits values words)
