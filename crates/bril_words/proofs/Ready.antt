-- What is known of each built command.
use Rattle.std.proofs.Common.{◌≡◌, refl, Bool, true, false, List, [], ◌∷◌, Some, codes, ◌||◌, not, rules}
use Rattle.std.specs.Prelude.{find}
use Rattle.std.specs.List.{list_all}
use Rattle.std.specs.Str.{bytes_eq}
use Rattle.clap.specs.Walk.{Row, Rule, Text, Walk, idle, answers_to, finished, is_empty, nothing_held, walk_from, walked}
use Rattle.clap.specs.Simple.{App, Shape, built, built_leaf, inherited, label_of, marked_built, names_of, new_shape, with_leaf_noted}
use Rattle.clap.specs.Faults.{check_fault, defaults_fault, given_default_fault, is_simple_and_free, turn_fault}
use Rattle.clap.specs.Takes.{is_given}
use Rattle.bril_words.specs.declared.subcommands.Subcommand.{Subcommand}
use Rattle.bril_words.specs.declared.subcommands.Subcommand.TheVariants as subcommand
use Rattle.bril_words.specs.declared.options.Operand.{Operand}
use Rattle.bril_words.specs.App.{subcommand_shape, whole_app}
use Rattle.bril_words.specs.Options.{option_name, flag_name, operand_id}
use Rattle.bril_words.specs.Subcommands.{name_of, options_of, flags_of, operands_of, subcommand_named}
use Rattle.bril_words.proofs.Pieces.{AllOf, HasFlag, HasOption, HaveOperands}

-- a rule without a default, or with one that passes
abbrev pub is_harmless : Rule → Bool
is_harmless a = is_empty a.defaults || is_empty (given_default_fault a a.defaults)

abbrev pub first_text : List Text → Text
first_text [] = []
first_text (x ∷ xs) = x

-- a rule without a default, or whose default is `false`
abbrev pub is_quiet : Rule → Bool
is_quiet a = is_empty a.defaults || bytes_eq (first_text a.defaults) (codes "false")

-- only the flag has a default
abbrev pub spares : Text → Rule → Bool
spares id a = is_empty a.defaults || not (bytes_eq a.id id)

pub record Ready (s : Shape) (c : Subcommand) : Type 0 where
  pub name : s.name ≡ name_of c
  pub named : subcommand_named (name_of c) ≡ Some c
  pub options : AllOf (λ x. HasOption s (option_name x)) (options_of c)
  pub flags : AllOf (λ x. HasFlag s (flag_name x)) (flags_of c)
  pub operands : HaveOperands s 1 (operands_of c)
  pub harmless : list_all is_harmless s.rules ≡ true
  pub quiet : list_all is_quiet s.rules ≡ true
  pub others : (id : Text) → bytes_eq (codes "stats") id ≡ false → list_all (spares id) s.rules ≡ true
  pub check : (rows : List Row) → AllOf (λ (o : Operand). is_given (operand_id o) rows ≡ true) (operands_of c) → check_fault s rows false ≡ []

abbrev pub top_shape : Shape
top_shape = record (new_shape (codes "roolvist")) { subcommand_required = true; disable_help_subcommand = true; is_leaf = false }

-- a command, as it is built
abbrev pub ready_shape : Subcommand → Shape
ready_shape c = built_leaf (inherited (with_leaf_noted (marked_built top_shape)) (subcommand_shape c))

pub ready : (c : Subcommand) → Ready (ready_shape c) c
ready subcommand.Monitor = record { name = refl; named = refl; options = search rules; flags = search rules; operands = (record { by_index = refl; by_id = refl }, (record { by_index = refl; by_id = refl }, tt)); harmless = refl; quiet = refl; others = λ id e. search rules; check = λ rows given. rw (given.0, given.1.0) refl }
ready subcommand.Check = record { name = refl; named = refl; options = search rules; flags = search rules; operands = (record { by_index = refl; by_id = refl }, tt); harmless = refl; quiet = refl; others = λ id e. search (rules, e); check = λ rows given. rw given.0 refl }
ready _ = record { name = refl; named = refl; options = search rules; flags = search rules; operands = (record { by_index = refl; by_id = refl }, tt); harmless = refl; quiet = refl; others = λ id e. search (rules, e); check = λ rows given. rw given.0 refl }

-- ---- all commands

-- after a subcommand was met, with the words after it
abbrev pub stopped_at : Text → List Text → Walk
stopped_at name words = record { held = nothing_held; waiting = idle; position = 1; is_trailing = false; stopped = Some (name, words) }

-- what a built command has to meet this subcommand
pub record Meets (a : App) (c : Subcommand) (s : Shape) : Type 0 where
  pub first : walked a.top.rules (names_of a) (walk_from nothing_held) (name_of c) ≡ stopped_at (name_of c) []
  pub free : turn_fault a.top (names_of a) (walk_from nothing_held) (name_of c) ≡ []
  pub leaf : find (λ t. answers_to (name_of c) (label_of t)) a.subs ≡ Some s
  pub defaults : defaults_fault [] a.top.rules ≡ []
  pub check : check_fault a.top (finished a.top.rules nothing_held) true ≡ []

pub whole_is_simple : is_simple_and_free whole_app ≡ true
unfolding whole_app
whole_is_simple = refl

pub meets : (c : Subcommand) → Meets (built whole_app) c (ready_shape c)
unfolding whole_app walked defaults_fault
meets subcommand.Check = record { first = refl; free = refl; leaf = refl; defaults = refl; check = refl }
meets _ = record { first = refl; free = refl; leaf = refl; defaults = refl; check = refl }
