-- What the builders make of a command, as `clap` sees it.
use Rattle.std.proofs.Common.{◌≡◌, ◌∙◌, refl, sym, ap, ap₂, false, List, [], ◌∷◌, ◌++◌, append_assoc, map, ℕ, zero, suc, ◌<◌, ◌≤◌, ◌+◌, length, take, get_or, arith}
use Rattle.std.proofs.lemmas.List.{take_more, map_push}
use Rattle.clap.specs.Built.{AddsArg, AddsSubcommand}
use Rattle.clap.specs.Walk.{Rule, rule_of}
use Rattle.clap.specs.Simple.{App, on_top, with_rule, with_subcommand}
use Rattle.clap.specs.declared.builder.arg.Arg.{Arg}
use Rattle.clap.specs.declared.builder.command.Command.{Command}
use Rattle.bril_words.specs.App.{HasApp, subcommand_app, subcommand_shape, with_subcommands, with_rules}
use Rattle.bril_words.specs.declared.subcommands.Subcommand.{Subcommand}

-- one more argument
pub adds_rule : (a : App) (rules : List Rule) (r : Rule) (old new : Command) (arg : Arg) → HasApp (with_rules a rules) old → AddsArg old arg new → arg.global ≡ false → rule_of arg ≡ r
    → HasApp (with_rules a (rules ++ r ∷ [])) new
adds_rule a rules r old new arg has adds local is = record {
  app = adds.shape local ∙ ap₂ with_rule has.app is
      ∙ ap (λ (more : List Rule). on_top (λ s. record s { rules = more }) a) (append_assoc a.top.rules rules (r ∷ []));
  local = adds.globals ∙ rw (has.local, local) refl;
}

pub subcommands_more : (a : App) (cs : List Subcommand) (c : Subcommand) → with_subcommands a (cs ++ c ∷ []) ≡ with_subcommand (with_subcommands a cs) (subcommand_shape c)
subcommands_more a [] c = refl
subcommands_more a (d ∷ cs) c = subcommands_more (with_subcommand a (subcommand_shape d)) cs c

-- one more subcommand
pub adds_subcommand : (a : App) (cs : List Subcommand) (c : Subcommand) (old new sub : Command) → HasApp (with_subcommands a cs) old → HasApp (subcommand_app c) sub → AddsSubcommand old sub new
    → HasApp (with_subcommands a (cs ++ c ∷ [])) new
adds_subcommand a cs c old new sub has sub_has adds = record {
  app = adds.shape sub_has.local ∙ ap₂ with_subcommand has.app (ap (λ (b : App). b.top) sub_has.app) ∙ sym (subcommands_more a cs c);
  local = adds.globals ∙ rw (has.local, sub_has.local) refl;
}

pub rules_more : {X : Type 0} (rule : X → Rule) (xs : List X) (i : ℕ) (d : X) → i < length xs → map rule (take i xs) ++ rule (get_or xs i d) ∷ [] ≡ map rule (take (i + 1) xs)
rules_more rule xs i d lt = sym (ap (map rule) (take_more xs i d lt) ∙ map_push rule (take i xs) (get_or xs i d))

pub taken_all : {X : Type 0} (xs : List X) (i : ℕ) → length xs ≤ i → take i xs ≡ xs
taken_all [] zero le = refl
taken_all [] (suc i) le = refl
taken_all (x ∷ xs) zero le = absurd (omega arith)
taken_all {X = X} (x ∷ xs) (suc i) le = ap (λ (r : List X). x ∷ r) (taken_all xs i (omega arith))
