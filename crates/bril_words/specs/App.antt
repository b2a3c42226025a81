-- The commands, as `clap` is told of them.
use Rattle.std.specs.Prelude.{◌≡◌, true, false, List, [], ◌∷◌, ◌++◌, map, Some, codes}
use Rattle.clap.specs.Walk.{Rule}
use Rattle.clap.specs.Simple.{App, Shape, app_of, new_rule, new_shape, new_app, on_top, with_subcommand}
use Rattle.clap.specs.declared.builder.action.ArgAction.TheVariants.{SetTrue}
use Rattle.clap.specs.declared.builder.command.Command.{Command}
use Rattle.clap.specs.declared.builder.command.Command.TheViews.{out-Command}
use Rattle.bril_words.specs.declared.options.Flag.{Flag}
use Rattle.bril_words.specs.declared.options.Operand.{Operand}
use Rattle.bril_words.specs.declared.options.Setting.{Setting}
use Rattle.bril_words.specs.declared.subcommands.Subcommand.{Subcommand}
use Rattle.bril_words.specs.Options.{option_name, flag_name, operand_id}
use Rattle.bril_words.specs.Subcommands.{name_of, options_of, flags_of, operands_of, subcommands}

-- an option takes one value, which is any text
abbrev pub option_rule : Setting → Rule
option_rule x = record (new_rule (option_name x)) { long = Some (option_name x); value_names = 1 }

-- a flag takes none
abbrev pub flag_rule : Flag → Rule
flag_rule x = record (new_rule (flag_name x)) { long = Some (flag_name x); action = Some SetTrue }

-- an operand is one word, which has to stand
abbrev pub operand_rule : Operand → Rule
operand_rule o = record (new_rule (operand_id o)) { required = true; value_names = 1 }

abbrev pub rules_of : Subcommand → List Rule
rules_of c = map operand_rule (operands_of c) ++ map option_rule (options_of c) ++ map flag_rule (flags_of c)

abbrev pub subcommand_shape : Subcommand → Shape
subcommand_shape c = record (new_shape (name_of c)) { rules = rules_of c }

-- one command
abbrev pub subcommand_app : Subcommand → App
subcommand_app c = record { top = subcommand_shape c; subs = [] }

-- the command with these rules more
abbrev pub with_rules : App → List Rule → App
with_rules a rules = on_top (λ s. record s { rules = s.rules ++ rules }) a

-- the program with these commands more
abbrev pub with_subcommands : App → List Subcommand → App
with_subcommands a [] = a
with_subcommands a (c ∷ cs) = with_subcommands (with_subcommand a (subcommand_shape c)) cs

-- the program without its commands: it wants one, and `help` is none
abbrev pub bare_app : App
bare_app = on_top (λ s. record s { subcommand_required = true; disable_help_subcommand = true }) (new_app (codes "roolvist"))

-- the program with all its commands
unfoldable pub whole_app : App
whole_app = with_subcommands bare_app subcommands

-- the command is this one, and none of its arguments is global
pub record HasApp (a : App) (c : Command) : Type 0 where
  pub app : app_of c ≡ a
  pub local : (out-Command c).has_globals ≡ false
