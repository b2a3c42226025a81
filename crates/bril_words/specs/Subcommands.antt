-- The commands, and the words and the action of each.
use Rattle.std.specs.Prelude.{ℕ, Bool, true, false, List, [], ◌∷◌, Option, codes, bytes_eq, find}
use Rattle.bril_words.specs.Defaults.{default_cells, limits_of}
use Rattle.bril_words.specs.Request.{as_it_stands, with_passes}
use Rattle.bril_words.specs.declared.options.Flag.{Flag}
use Rattle.bril_words.specs.declared.options.Flag.TheVariants.{Stats}
use Rattle.bril_words.specs.declared.options.Operand.{Operand}
use Rattle.bril_words.specs.declared.options.Operand.TheVariants.{File, Listing, Elf, Script, Functions}
use Rattle.bril_words.specs.declared.options.Setting.{Setting}
use Rattle.bril_words.specs.declared.options.Setting.TheVariants.{Passes, Profile, Frames, Cells, Steps, Hot, Most}
use Rattle.bril_words.specs.declared.request.Numbers.{Numbers}
use Rattle.bril_words.specs.declared.subcommands.Action.{Action}
use Rattle.bril_words.specs.declared.subcommands.Action.TheVariants as action
use Rattle.bril_words.specs.declared.subcommands.BytesAction.TheVariants as bytes
use Rattle.bril_words.specs.declared.subcommands.FileAction.TheVariants as file
use Rattle.bril_words.specs.declared.subcommands.PassesAction.TheVariants as passes
use Rattle.bril_words.specs.declared.subcommands.ProgramAction.TheVariants as program
use Rattle.bril_words.specs.declared.subcommands.SourceAction.TheVariants as source
use Rattle.bril_words.specs.declared.subcommands.TreeAction.TheVariants as tree
use Rattle.bril_words.specs.declared.subcommands.Subcommand.{Subcommand}
use Rattle.bril_words.specs.declared.subcommands.Subcommand.TheVariants as subcommand

abbrev pub subcommands : List Subcommand
subcommands = subcommand.Run ∷ subcommand.Interp ∷ subcommand.Record ∷ subcommand.Passes ∷ subcommand.Emit ∷ subcommand.List ∷ subcommand.Assemble ∷ subcommand.Wrap ∷ subcommand.Execute ∷ subcommand.Monitor ∷ subcommand.Check ∷ subcommand.Link ∷ subcommand.WriteText ∷ subcommand.WriteJson ∷ subcommand.Demo ∷ []

-- A command: its word, the words that it wants by themselves, in this order, the options with a value and the flags that it takes,
-- whether `--` and arguments may follow, and what it does with these numbers.
pub record Form : Type 0 where
  pub name : List ℕ
  pub operands : List Operand
  pub options : List Setting
  pub flags : List Flag
  pub has_args : Bool
  pub action : Numbers → Action

abbrev pub form_of : Subcommand → Form
form_of subcommand.Run = record {
  name = codes "run";
  operands = File ∷ [];
  options = Passes ∷ Profile ∷ Frames ∷ Cells ∷ Steps ∷ [];
  flags = Stats ∷ [];
  has_args = true;
  action = λ n. with_passes (passes.Run (record { limits = n.limits; steps = n.steps; stats = n.stats }));
}
form_of subcommand.Interp = record {
  name = codes "interp";
  operands = File ∷ [];
  options = Frames ∷ Cells ∷ Steps ∷ [];
  flags = [];
  has_args = true;
  action = λ n. as_it_stands (source.Interpret (record { limits = n.limits; steps = n.steps }));
}
form_of subcommand.Record = record {
  name = codes "record";
  operands = File ∷ [];
  options = Frames ∷ Cells ∷ Steps ∷ Hot ∷ Most ∷ [];
  flags = [];
  has_args = true;
  action = λ n. as_it_stands (source.Record (record { limits = n.limits; steps = n.steps; hot = n.hot; most = n.most }));
}
form_of subcommand.Passes = record {
  name = codes "passes";
  operands = File ∷ [];
  options = Passes ∷ Profile ∷ [];
  flags = [];
  has_args = false;
  action = λ n. with_passes passes.Passes;
}
form_of subcommand.Emit = record {
  name = codes "emit";
  operands = File ∷ [];
  options = Passes ∷ Profile ∷ Frames ∷ [];
  flags = [];
  has_args = false;
  action = λ n. with_passes (passes.Emit (limits_of n.limits.frames default_cells));
}
form_of subcommand.List = record {
  name = codes "list";
  operands = File ∷ [];
  options = Passes ∷ Profile ∷ Frames ∷ [];
  flags = [];
  has_args = false;
  action = λ n. with_passes (passes.List (limits_of n.limits.frames default_cells));
}
form_of subcommand.Assemble = record {
  name = codes "asm";
  operands = Listing ∷ [];
  options = [];
  flags = [];
  has_args = false;
  action = λ n. action.Bytes bytes.Assemble;
}
form_of subcommand.Wrap = record {
  name = codes "elf";
  operands = File ∷ [];
  options = Passes ∷ Profile ∷ Frames ∷ Cells ∷ [];
  flags = [];
  has_args = false;
  action = λ n. with_passes (passes.Wrap n.limits);
}
form_of subcommand.Execute = record {
  name = codes "exec";
  operands = Elf ∷ [];
  options = Cells ∷ Steps ∷ [];
  flags = [];
  has_args = true;
  action = λ n. action.Bytes (bytes.Execute (record { limits = n.limits; steps = n.steps }));
}
form_of subcommand.Monitor = record {
  name = codes "monitor";
  operands = File ∷ Script ∷ [];
  options = Frames ∷ Cells ∷ Steps ∷ [];
  flags = [];
  has_args = true;
  action = λ n. action.Program (program.Monitor (record { limits = n.limits; steps = n.steps }));
}
form_of subcommand.Check = record {
  name = codes "check";
  operands = File ∷ [];
  options = [];
  flags = [];
  has_args = false;
  action = λ n. as_it_stands source.Check;
}
form_of subcommand.Link = record {
  name = codes "link";
  operands = File ∷ [];
  options = [];
  flags = [];
  has_args = false;
  action = λ n. action.Tree tree.Link;
}
form_of subcommand.WriteText = record {
  name = codes "text";
  operands = File ∷ [];
  options = [];
  flags = [];
  has_args = false;
  action = λ n. action.File file.WriteText;
}
form_of subcommand.WriteJson = record {
  name = codes "json";
  operands = File ∷ [];
  options = [];
  flags = [];
  has_args = false;
  action = λ n. action.File file.WriteJson;
}
form_of subcommand.Demo = record {
  name = codes "demo";
  operands = Functions ∷ [];
  options = [];
  flags = [];
  has_args = false;
  action = λ n. action.Demo n.functions;
}

abbrev pub name_of : Subcommand → List ℕ
name_of c = (form_of c).name

abbrev pub operands_of : Subcommand → List Operand
operands_of c = (form_of c).operands

abbrev pub options_of : Subcommand → List Setting
options_of c = (form_of c).options

abbrev pub flags_of : Subcommand → List Flag
flags_of c = (form_of c).flags

abbrev pub has_args : Subcommand → Bool
has_args c = (form_of c).has_args

abbrev pub action_of : Subcommand → Numbers → Action
action_of c = (form_of c).action

-- the command of a word
abbrev pub subcommand_named : List ℕ → Option Subcommand
subcommand_named word = find (λ c. bytes_eq word (name_of c)) subcommands
