use Rattle.std.proofs.Common.{◌≡◌, ◌∙◌, ◌<◌, ◌++◌, ◌∷◌, [], List, length, get_or, ap, sym, subst}
use Rattle.std.specs.List.{Contains}
use Rattle.bril_tree.specs.declared.numbered.VarInfo.{VarInfo}
use Rattle.bril_names.proofs.Functions.{Differ-variables}
use Rattle.pass_make.proofs.Taking.{name-new, name-joins}
use Rattle.pass_make.proofs.fresh_names.taken_variables.Goals as goal

pub add-requires : goal.add-requires
add-requires c =
    let F = c.args.func.now in
    let k = c.loop-var.var-index in
    let v = c.var-item.result in
    let same = c.as_slice-var-items.ensures in
    let there : get_or F.vars k v ≡ v = ap (λ (vs : List VarInfo). get_or vs k v) (sym same) ∙ sym c.var-item.is in
    let within : k < length F.vars = subst (λ (vs : List VarInfo). k < length vs) same c.loop-var-test.true in
    λ among. name-new (λ (w : VarInfo). w.name) F.vars k v there within c.loop-var.taken c.loop-var.invariant (Differ-variables F) (subst (Contains c.loop-var.taken) c.as_bytes.ensures.value among)

pub loop-var-preserved : goal.loop-var-preserved
loop-var-preserved c =
    let F = c.args.func.now in
    let k = c.loop-var.var-index in
    let v = c.var-item.result in
    let same = c.as_slice-var-items.ensures in
    let there : get_or F.vars k v ≡ v = ap (λ (vs : List VarInfo). get_or vs k v) (sym same) ∙ sym c.var-item.is in
    let within : k < length F.vars = subst (λ (vs : List VarInfo). k < length vs) same c.loop-var-test.true in
    name-joins (λ (w : VarInfo). w.name) F.vars k v there within c.loop-var.taken c.loop-var.invariant c.add.new.self (c.in_ok-add.ensures ∙ ap (λ n. c.loop-var.taken ++ n ∷ []) c.as_bytes.ensures.value)
