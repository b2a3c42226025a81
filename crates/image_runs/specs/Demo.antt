-- The size of the program of a demo, and what its run comes to.
use Rattle.std.specs.Prelude.{◌≡◌, ℕ, List, [], ◌∷◌, length, Option, Some}
use Rattle.bril_commands.specs.Outcome.{Outcome, untrapped}
use Rattle.bril_commands.specs.commands.Demo.{DemoSize, MadeRuns, demo_words, line_of}
use Rattle.image_runs.specs.declared.demo.DemoCounts.{DemoCounts}
use Rattle.bril_outside.specs.Sink.{Counted, amount_after, joined}
use Rattle.bril_report.specs.Stats.{words_pieces}
use Rattle.bril_tree.specs.declared.limits.End.{End}
use Rattle.bril_tree.specs.declared.limits.End.TheVariants.{Ended}
use Rattle.bril_tree.specs.declared.limits.Limits.{Limits}
use Rattle.bril_tree.specs.declared.program.Prog.{Prog}

-- what the counts say
abbrev pub size_seen : DemoCounts → DemoSize
size_seen c = record { functions = c.functions; all = c.all; items = c.items }

-- So the run of a program ended, or goes on for None, so many words were executed, and what it printed was counted.
pub record CountsPrinted (q : Prog) (limits : Limits) (ended : Option End) (words : ℕ) (count : Counted) : Type 0 where
  pub printed : List (List ℕ)
  pub runs : MadeRuns q limits ended printed words
  pub counted : count.amount ≡ amount_after (Some 0) (length (joined printed))

-- The line of a run that printed so many bytes and ended so is put, and its words are told.
abbrev pub shows_line : DemoSize → (bytes : ℕ) → End → (words : ℕ) → Outcome
shows_line size bytes end words = record {
  steps = demo_words;
  Shows = λ ended told output. (ended ≡ Some Ended) × (told ≡ words_pieces words) × (output ≡ line_of size bytes end ∷ []);
  Traps = untrapped;
  Exhausts = λ output. ⊥;
  unwritten = [];
}
