-- A command has its arguments.
use Rattle.std.proofs.Common.{◌∙◌, ap, subst, List, [], map, ◌++◌}
use Rattle.std.proofs.lemmas.Result.{IfOk-weaker}
use Rattle.clap.specs.Simple.{new_app, new_shape}
use Rattle.bril_words.specs.App.{HasApp, flag_rule, operand_rule, option_rule}
use Rattle.bril_words.specs.Subcommands.{form_of, name_of}
use Rattle.bril_words.specs.declared.options.Flag.{Flag}
use Rattle.bril_words.specs.declared.options.Operand.{Operand}
use Rattle.bril_words.specs.declared.options.Setting.{Setting}
use Rattle.bril_words.proofs.builders.command_of.Goals as goal

pub returns : goal.returns
returns c =
    let app = new_app (name_of c.args.subcommand) in
    let form = form_of c.args.subcommand in
    let bare : HasApp app c.new.result = record { app = c.new.ensures.app ∙ ap new_app c.form-form.ensures.name; local = c.new.ensures.local } in
    let operands = c.in_ok-command.ensures app (c.with_help-command.ensures app bare) in
    let options = c.in_ok-command-2.ensures _ operands in
    IfOk-weaker c.with_flags.result _ _
    (λ made h.
    let shape = λ (os : List Operand) (xs : List Setting) (fs : List Flag).
    HasApp (record { top = record (new_shape (name_of c.args.subcommand)) { rules = map operand_rule os ++ map option_rule xs ++ map flag_rule fs }; subs = [] }) made in
    subst (λ (fs : List Flag). shape form.operands form.options fs) c.form-form.ensures.flags
    (subst (λ (xs : List Setting). shape form.operands xs c.form-form.result.flags.now) c.form-form.ensures.options
    (subst (λ (os : List Operand). shape os c.form-form.result.options.now c.form-form.result.flags.now) c.form-form.ensures.operands (h _ options))))
    c.with_flags.ensures
