use Rattle.std.proofs.Common.{◌≡◌, ◌∙◌, ◌<◌, ◌++◌, ◌∷◌, [], List, length, get_or, ap, sym, subst}
use Rattle.std.specs.List.{Contains}
use Rattle.bril_tree.specs.declared.numbered_function.Func.{Func}
use Rattle.bril_names.proofs.Functions.{Differ-functions}
use Rattle.pass_make.proofs.Taking.{name-new, name-joins}
use Rattle.monitor_command.proofs.function_names.FunctionNames.of.Goals as goal

pub add-requires : goal.add-requires
add-requires c =
    let fs = c.args.program.now.funcs in
    let k = c.loop-func.func-index in
    let f = c.func-item.result in
    let same = c.as_slice-func-items.ensures in
    let there : get_or fs k f ≡ f = ap (λ (gs : List Func). get_or gs k f) (sym same) ∙ sym c.func-item.is in
    let within : k < length fs = subst (λ (gs : List Func). k < length gs) same c.loop-func-test.true in
    λ among. name-new (λ (g : Func). g.name) fs k f there within c.loop-func.names c.loop-func.invariant (Differ-functions c.args.program.now) (subst (Contains c.loop-func.names) c.as_bytes.ensures.value among)

pub loop-func-preserved : goal.loop-func-preserved
loop-func-preserved c =
    let fs = c.args.program.now.funcs in
    let k = c.loop-func.func-index in
    let f = c.func-item.result in
    let same = c.as_slice-func-items.ensures in
    let there : get_or fs k f ≡ f = ap (λ (gs : List Func). get_or gs k f) (sym same) ∙ sym c.func-item.is in
    let within : k < length fs = subst (λ (gs : List Func). k < length gs) same c.loop-func-test.true in
    name-joins (λ (g : Func). g.name) fs k f there within c.loop-func.names c.loop-func.invariant c.add.new.self (c.in_ok-add.ensures ∙ ap (λ n. c.loop-func.names ++ n ∷ []) c.as_bytes.ensures.value)
