-- What a run of an image says of the program that it was made of.
use Rattle.std.proofs.Common.{◌≡◌, ℕ, ◌+◌, ◌*◌, ◌≤◌, Bool, List, length, Option, Some, None, refl, sym, ap, ◌∙◌, arith}
use Rattle.std.specs.Option.{option_map}
use Rattle.bril_outside.specs.Sink.{joined}
use Rattle.bril_profile.specs.declared.profile.Entry.{Entry}
use Rattle.program_numbers.specs.Cost.{IsCost}
use Rattle.bril_tree.specs.Accepted.{IsAccepted}
use Rattle.bril_tree.specs.Run.{FitMain, state_after}
use Rattle.bril_tree.specs.declared.limits.End.{End}
use Rattle.bril_tree.specs.declared.limits.Limits.{Limits}
use Rattle.bril_tree.specs.declared.program.Prog.{Prog}
use Rattle.bril_tree.specs.declared.value.Value.{Value}
use Rattle.pass_budget_laws.specs.Budget.{budget}
use Rattle.pass_budget_laws.proofs.Chaining.{chains-within_budget}
use Rattle.rv64_image_laws.proofs.Endings.{stopped_in_time, printed_in_time}
use Rattle.rv64_words.specs.State.{Finished}
use Rattle.bril_commands.proofs.Sources.{made_chain, made_fits, made_ends, made_prints, enough_made, shows_source}
use Rattle.bril_commands.specs.Command.{ImageFor, AreLimitsOf}
use Rattle.bril_commands.specs.Images.{MachineShows}
use Rattle.bril_commands.specs.PassList.{PassList, IsMade, AreEnoughFor, AreFactorsOf}
use Rattle.bril_commands.specs.commands.Run.{Executes, RunShows}

-- an end of the machine is one of the program's
pub finished_one : (a b : Option End) → option_map Finished a ≡ option_map Finished b → a ≡ b
finished_one None None e = refl
finished_one None (Some y) e = cc
finished_one (Some x) None e = cc
finished_one (Some x) (Some y) e = cc

-- ---- a machine that shows a run has the program's end in time

module _ (p : Prog) (limits : Limits) (values : List Value) (words : ℕ) (ended : Option End) (output : List ℕ) (shows : MachineShows p limits values words ended output) (fits : FitMain p values) (n cost : ℕ) (end : End) (is_cost : IsCost p cost) (enough : cost * (n + 1) ≤ words) (ends : (state_after p limits values n).ended ≡ Some end) where
  pub same_end : ended ≡ Some end
  same_end = finished_one ended (Some end) (sym shows.ends ∙ stopped_in_time shows.implements.homes shows.image p limits values (shows.implements.implements.runs values fits) n cost words end is_cost enough ends)

  pub same_output : output ≡ (state_after p limits values n).printed
  same_output = sym shows.prints ∙ printed_in_time shows.implements.homes shows.image p limits values (shows.implements.implements.runs values fits) n cost words end is_cost enough ends

-- what is executed of a program that a list made says this of the source
module _ (l : PassList) (entries : List Entry) (p q : Prog) (made : IsMade l entries p q) (accepted : IsAccepted p) (limits : Limits) (frames cells : ℕ) (are : AreLimitsOf (ImageFor frames cells) limits) (values : List Value) (fits : FitMain p values) (words : ℕ) (stats : Bool) where
  -- in time, where the words are at least the cost of a step, times the product of factors, times the steps and one
  pub in_time : (ended : Option End) (output : List ℕ) → MachineShows q limits values words ended output → (n cost k : ℕ) (end : End) → IsCost q cost → AreFactorsOf l entries p q made k → cost * (k * (n + 1)) ≤ words → (state_after p limits values n).ended ≡ Some end
      → (ended ≡ Some end) × (output ≡ (state_after p limits values n).printed)
  in_time ended output shows n cost k end is_cost is enough ends =
      let chain = made_chain l entries p q made accepted in
      let Is = AreFactorsOf l entries p q made in
      let fits_made = made_fits p q Is chain.some chain.refines limits values fits in
      let enough' = enough_made p q Is chain.some chain.refines limits values fits k is n cost words enough in
      let ends' = made_ends p q Is chain.some chain.refines limits values fits k is n end ends in (
        same_end q limits values words ended output shows fits_made (k * n) cost end is_cost enough' ends',
        same_output q limits values words ended output shows fits_made (k * n) cost end is_cost enough' ends' ∙ made_prints p q Is chain.some chain.refines limits values fits k is n end ends,
      )

  unfoldable pub run_shows : (ended : Option End) (told output : List (List ℕ)) → Executes q limits values words stats ended told output → RunShows p q (AreFactorsOf l entries p q made) (AreEnoughFor l entries p) values frames cells words stats ended told output
  run_shows ended told output executes =
      let chain = made_chain l entries p q made accepted in
      let Is = AreFactorsOf l entries p q made in
      let run = executes.shows.machine.implements.implements.runs values (made_fits p q Is chain.some chain.refines limits values fits) in
      record {
        limits = limits;
        are = are;
        executes = executes;
        shows_source = shows_source p q Is chain.some chain.refines limits values fits words (joined output) ended executes.shows.program;
        ends = in_time ended (joined output) executes.shows.machine;
        ends_by_list = λ n end are_enough ends.
            let within = chains-within_budget l.meaning are_enough.rows l.before made.profile l.names p made.ran.programs q are_enough.numbers run.cost chain.some.0 n are_enough.each accepted are_enough.within made.ran.chain run.is_cost chain.some.1 in
            let same : budget are_enough.rows (length made.profile.entries) l.names are_enough.numbers n ≡ budget are_enough.rows (length entries) l.names are_enough.numbers n = ap (λ es. budget are_enough.rows (length es) l.names are_enough.numbers n) made.has in
            let enough = are_enough.enough in
            in_time ended (joined output) executes.shows.machine n run.cost chain.some.0 end run.is_cost chain.some.1 (omega (arith, within, same, enough)) ends;
      }
