use Rattle.std.proofs.Common.{◌≡◌, ◌<◌, length, true, false, sym, subst, ◌∙◌}
use Rattle.bril_tree.specs.Typing.{same_result, variable_type}
use Rattle.variable_renaming.proofs.Typed.{types-same, types-other}
use Rattle.variable_renaming.proofs.variables.are_of_one_type.Goals as goal

pub returns-clause-same : goal.returns-clause-same
returns-clause-same c = λ h.
    let vars = c.as_slice-vars.result.now in
    let same = c.as_slice-vars.ensures in
    let b = c.index-vars-x.is in
    let d = c.index-vars-y.is in
    let one : same_result c.index-vars-x.result.ty c.index-vars-y.result.ty ≡ true = (λ i. same_result (b i).ty (d i).ty) ∙ sym c.same_result.ensures ∙ h in
    subst (λ l. variable_type l c.args.x ≡ variable_type l c.args.y) same
    (types-same vars c.args.x c.args.y c.index-vars-x.result c.index-vars-y.result (subst (λ l. c.args.x < length l) (sym same) c.requires.x) (subst (λ l. c.args.y < length l) (sym same) c.requires.y) b d one)

pub returns-clause-other : goal.returns-clause-other
returns-clause-other c = λ h k.
    let vars = c.as_slice-vars.result.now in
    let same = c.as_slice-vars.ensures in
    let b = c.index-vars-x.is in
    let d = c.index-vars-y.is in
    let one : same_result c.index-vars-x.result.ty c.index-vars-y.result.ty ≡ false = (λ i. same_result (b i).ty (d i).ty) ∙ sym c.same_result.ensures ∙ h in
    types-other vars c.args.x c.args.y c.index-vars-x.result c.index-vars-y.result (subst (λ l. c.args.x < length l) (sym same) c.requires.x) (subst (λ l. c.args.y < length l) (sym same) c.requires.y) b d one
    (subst (λ l. variable_type l c.args.x ≡ variable_type l c.args.y) (sym same) k)
