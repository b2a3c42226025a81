-- What was put on an output that hasn't room for all of it, with nothing said of the passes.
use Rattle.std.proofs.Common.{◌≡◌, ◌∙◌, sym, subst, ℕ, List, [], ◌∷◌, ◌++◌, append-nil, Option, Some, None, codes}
use Rattle.bril_outside.specs.Sink.{joined}
use Rattle.bril_report.specs.Puts.{Puts, WritesSome}
use Rattle.bril_tree.specs.Run.{state_after}
use Rattle.bril_tree.specs.declared.limits.Limits.{Limits}
use Rattle.bril_words.proofs.Limits.{limits_same}
use Rattle.bril_words.specs.declared.request.RunSettings.{RunSettings}
use Rattle.bril_words.specs.declared.subcommands.Action.TheVariants as action
use Rattle.bril_words.specs.declared.subcommands.Action.{Action}
use Rattle.bril_words.specs.declared.subcommands.PassesAction.TheVariants as passes
use Rattle.bril_words.specs.declared.subcommands.ProgramAction.TheVariants as program
use Rattle.pass_law.specs.Meaning.{Meaning}
use Rattle.pass_law.specs.declared.tally.Tally.{Tally}
use Rattle.rv64_words.specs.State.{Stop, Finished, Trapped}
use Rattle.bril_commands.specs.Answers.{CannotWrite}
use Rattle.bril_commands.specs.Call.{Call}
use Rattle.bril_commands.specs.Comes.{CommandComesTo}
use Rattle.bril_commands.specs.Command.{AreLimitsOf, ImageFor, Subject}
use Rattle.bril_commands.specs.CommandLine.{Asks}
use Rattle.bril_commands.specs.Driver.{subject}
use Rattle.bril_commands.specs.Outcome.{Outcome, ShowsSo}
use Rattle.bril_commands.specs.Table.{command, on_made}
use Rattle.bril_commands.specs.commands.Run.{ran}
use Rattle.roolvist_lib.specs.Plain.{bare}
use Rattle.roolvist_lib.specs.Seen.{Seen, call_with}
use Rattle.roolvist_lib.specs.Unwritten.{IsUnwritten, RunUnwritten}

-- what a run comes to
abbrev ran_by : RunSettings → Subject → Outcome
ran_by settings on = ran on settings.limits.frames settings.limits.cells settings.steps settings.stats

module _ {B : Type 0} (meaning : B → Meaning) (counts : B → Tally) (before after : List B) (s : Seen) where
  abbrev whole : Call
  whole = call_with meaning counts before after s

  module _ (ended : Option Stop) (untold told output : List (List ℕ)) (took : WritesSome s.out_before output s.out_after) (says : Puts s.err_before (told ++ codes "cannot write\n" ∷ []) s.err_after) where
    abbrev Is : Outcome → Type 0
    Is o = (told ≡ o.unwritten) × ShowsSo o ended untold output

    unwritten : (asked : Action) (path : List ℕ) (args : List (List ℕ)) → CommandComesTo (command asked) whole path args Is → IsUnwritten asked (bare s) path args
    unwritten (action.Bytes does) path args h =
        record {
          ended = ended;
          untold = untold;
          told = told;
          output = output;
          took = took;
          says = says;
          comes = record { bytes = h.bytes; held = h.held; read = h.read; are_read = h.are_read; values = h.values; given = h.given; is = h.is };
        }
    unwritten (action.File does) path args h =
        record { ended = ended; untold = untold; told = told; output = output; took = took; says = says; comes = record { tree = h.tree; file = h.file; is = h.is } }
    unwritten (action.Tree does) path args h =
        record { ended = ended; untold = untold; told = told; output = output; took = took; says = says; comes = record { tree = h.tree; file = h.file; is = h.is } }
    unwritten (action.Program (program.AsItStands does)) path args h =
        record {
          ended = ended;
          untold = untold;
          told = told;
          output = output;
          took = took;
          says = says;
          comes = record { program = h.program; file = h.file; values = h.values; given = h.given; entries = h.entries; profiled = h.profiled; made = h.made; makes = h.makes; fits = h.fits; is = h.is };
        }
    unwritten (action.Program (program.Monitor settings)) path args h =
        record {
          ended = ended;
          untold = untold;
          told = told;
          output = output;
          took = took;
          says = says;
          comes = record { program = h.program; file = h.file; values = h.values; given = h.given; entries = h.entries; profiled = h.profiled; made = h.made; makes = h.makes; fits = h.fits; is = h.is };
        }
    unwritten (action.Program (program.WithPasses (passes.Run settings))) path args h = go ended h.is.1
      where
        comes : (limits : Limits) → AreLimitsOf (ImageFor settings.limits.frames settings.limits.cells) limits → (steps : ℕ) (rest : List ℕ) → (state_after h.program limits h.values steps).printed ≡ joined output ++ rest → RunUnwritten settings (bare s) path args
        comes limits are steps rest begins = record {
          source = h.program;
          file = h.file;
          values = h.values;
          given = h.given;
          steps = steps;
          output = output;
          rest = rest;
          begins = subst (λ (l : Limits). (state_after h.program l h.values steps).printed ≡ joined output ++ rest) (limits_same limits settings.limits are.0 are.1) begins;
          took = took;
          says = subst (λ (t : List (List ℕ)). Puts s.err_before (t ++ codes "cannot write\n" ∷ []) s.err_after) h.is.0 says;
        }

        go : (e : Option Stop) → ShowsSo (ran_by settings (subject (on_made (passes.Run settings)) whole.passes whole.second s.files_before.holds h.entries h.program h.made h.makes h.values)) e untold output → RunUnwritten settings (bare s) path args
        go None shows = comes shows.limits shows.are shows.shows_source.steps shows.shows_source.begins.0 shows.shows_source.begins.1
        go (Some (Finished end)) shows = comes shows.limits shows.are shows.shows_source.steps [] (shows.shows_source.prints ∙ sym (append-nil (joined output)))
        go (Some (Trapped trap)) shows = absurd shows
    unwritten (action.Program (program.WithPasses (passes.Emit limits))) path args h = tt
    unwritten (action.Program (program.WithPasses (passes.List limits))) path args h = tt
    unwritten (action.Program (program.WithPasses (passes.Wrap limits))) path args h = tt
    unwritten (action.Program (program.WithPasses passes.Passes)) path args h = tt
    unwritten (action.Demo functions) path args h = tt

  pub unwritten_plainly : CannotWrite whole → (asks : Asks s.words) × IsUnwritten asks.action (bare s) asks.path asks.args
  unwritten_plainly w = (w.asks, unwritten w.ended w.untold w.told w.output w.took w.says w.asks.action w.asks.path w.asks.args w.comes)
