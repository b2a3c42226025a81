-- The table of commands.
use Rattle.std.specs.Prelude.{◌≡◌, Bool, true, false, List}
use Rattle.bril_tree.specs.declared.tree.Tree.{Tree}
use Rattle.bril_words.specs.declared.subcommands.Action.TheVariants as action
use Rattle.bril_words.specs.declared.subcommands.Action.{Action}
use Rattle.bril_words.specs.declared.subcommands.BytesAction.TheVariants as bytes
use Rattle.bril_words.specs.declared.subcommands.BytesAction.{BytesAction}
use Rattle.bril_words.specs.declared.subcommands.FileAction.TheVariants as file
use Rattle.bril_words.specs.declared.subcommands.FileAction.{FileAction}
use Rattle.bril_words.specs.declared.subcommands.PassesAction.TheVariants as passes
use Rattle.bril_words.specs.declared.subcommands.PassesAction.{PassesAction}
use Rattle.bril_words.specs.declared.subcommands.ProgramAction.TheVariants as program
use Rattle.bril_words.specs.declared.subcommands.ProgramAction.{ProgramAction}
use Rattle.bril_words.specs.declared.subcommands.SourceAction.TheVariants as source
use Rattle.bril_words.specs.declared.subcommands.SourceAction.{SourceAction}
use Rattle.bril_words.specs.declared.subcommands.TreeAction.TheVariants as tree
use Rattle.bril_words.specs.declared.subcommands.TreeAction.{TreeAction}
use Rattle.pass_law.specs.Chains.{AllSame}
use Rattle.pass_law.specs.Meaning.{Meaning}
use Rattle.bril_commands.specs.Command.{Command, OnBytes, OnFile, OnTree, OnProgram, OfBytes, OfProgram, OfSource, LinkedFiles, Demo, as_it_stands, takes_passes}
use Rattle.bril_commands.specs.Outcome.{Outcome}
use Rattle.bril_commands.specs.commands.Assemble.{assembles}
use Rattle.bril_commands.specs.commands.Check.{checks}
use Rattle.bril_commands.specs.commands.Demo.{demonstrates}
use Rattle.bril_commands.specs.commands.Emit.{emits_words}
use Rattle.bril_commands.specs.commands.Execute.{executes}
use Rattle.bril_commands.specs.commands.Interp.{interprets}
use Rattle.bril_commands.specs.commands.Json.{writes_as_json}
use Rattle.bril_commands.specs.commands.Link.{writes_linked}
use Rattle.bril_commands.specs.commands.List.{emits_listing}
use Rattle.bril_commands.specs.commands.Monitor.{monitors}
use Rattle.bril_commands.specs.commands.Passes.{transforms}
use Rattle.bril_commands.specs.commands.Record.{records}
use Rattle.bril_commands.specs.commands.Run.{runs}
use Rattle.bril_commands.specs.commands.Text.{writes_as_text}
use Rattle.bril_commands.specs.commands.Wrap.{emits_file}

-- what is done with the bytes of a file
abbrev pub on_bytes : BytesAction → OfBytes
on_bytes bytes.Assemble = assembles
on_bytes (bytes.Execute settings) = executes settings.limits.cells settings.steps

-- what the tree of a file comes to
abbrev pub on_file : FileAction → Tree → Outcome
on_file file.WriteText = writes_as_text
on_file file.WriteJson = writes_as_json

-- what the tree of all files comes to
abbrev pub on_tree : TreeAction → Tree → Outcome
on_tree tree.Link = writes_linked

-- what is done with a program that is given to a list of passes
abbrev pub on_made : PassesAction → OfProgram
on_made (passes.Run settings) = runs settings.limits.frames settings.limits.cells settings.steps settings.stats
on_made (passes.Emit limits) = emits_words limits.frames limits.cells
on_made (passes.List limits) = emits_listing limits.frames limits.cells
on_made (passes.Wrap limits) = emits_file limits.frames limits.cells
on_made passes.Passes = transforms

-- what is done with a program as it stands
abbrev pub on_source : SourceAction → OfSource
on_source source.Check = checks
on_source (source.Interpret settings) = interprets settings.limits.frames settings.limits.cells settings.steps
on_source (source.Record settings) = records settings.limits.frames settings.limits.cells settings.steps settings.hot settings.most

-- what is done with a program
abbrev pub on_program : ProgramAction → OfProgram
on_program (program.AsItStands does) = as_it_stands (on_source does)
on_program (program.WithPasses does) = on_made does
on_program (program.Monitor settings) = monitors settings.limits.frames settings.limits.cells settings.steps

-- the command of an action
abbrev pub command : Action → Command
command (action.Bytes does) = OnBytes (on_bytes does)
command (action.File does) = OnFile (on_file does)
command (action.Tree does) = OnTree (on_tree does)
command (action.Program does) = OnProgram LinkedFiles (on_program does)
command (action.Demo functions) = OnProgram (Demo functions) (demonstrates functions)

-- passes are left as they are, or with what they mean where a list of them is taken
abbrev pub Keeps : {B : Type 0} → (B → Meaning) → Bool → List B → List B → Type 0
Keeps meaning false before after = after ≡ before
Keeps meaning true before after = AllSame meaning before after

-- what an action leaves of the passes
abbrev pub KeepsPasses : {B : Type 0} → (B → Meaning) → Action → List B → List B → Type 0
KeepsPasses meaning action before after = Keeps meaning (takes_passes (command action)) before after
