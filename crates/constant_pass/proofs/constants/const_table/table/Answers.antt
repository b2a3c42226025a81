use Rattle.std.proofs.Common.{◌≡◌, ◌<◌, ℕ, List, length, get_or, Some, sym, ap, subst, ◌∙◌}
use Rattle.std.specs.Prelude.{slice_get, IfSome, IfOk}
use Rattle.std.proofs.lemmas.Option.{slice_get-get_or}
use Rattle.bril_tree.specs.declared.numbered_function.Func.{Func}
use Rattle.bril_tree.specs.declared.program.Prog.{Prog}
use Rattle.bril_tree.specs.Accepted.{IsAccepted}
use Rattle.bril_tree.specs.Size.{IsCounted}
use Rattle.bril_tree.proofs.Acceptance.{accepted_function, shaped_function}
use Rattle.bril_tree.proofs.Elements.{All-at}
use Rattle.constant_pass.specs.constants.Consistent.{IsAtMost, IsConsistent, Table}
use Rattle.constant_pass.specs.constants.Kept.{told}
use Rattle.constant_pass.proofs.constants.const_table.table.Goals as goal

-- the function of the number
there : (P Q : Prog) (funcs : List Func) (f : ℕ) (F : Func) → P ≡ Q → funcs ≡ P.funcs → f < length Q.funcs → F ≡ get_or funcs f F → slice_get Q.funcs f ≡ Some F
there P Q funcs f F value all low is = slice_get-get_or Q.funcs f F low ∙ ap Some (sym (subst (λ fs. F ≡ get_or fs f F) (all ∙ ap (λ (p : Prog). p.funcs) value) is))

pub table_in-requires-clause-shaped : goal.table_in-requires-clause-shaped
table_in-requires-clause-shaped c =
    let P = c.args.prog.now.prog in
    let F = c.index-as_slice-func.result in
    let at = there c.prog-prog.result.now P c.as_slice.result.now c.args.func F c.prog-prog.ensures.value c.as_slice.ensures c.requires c.index-as_slice-func.is in
    shaped_function P F (accepted_function P c.args.func F (subst IsAccepted c.prog-prog.ensures.value c.prog-prog.ensures.accepted) at)

pub table_in-requires-clause-few : goal.table_in-requires-clause-few
table_in-requires-clause-few c =
    let P = c.args.prog.now.prog in
    let F = c.index-as_slice-func.result in
    let at = there c.prog-prog.result.now P c.as_slice.result.now c.args.func F c.prog-prog.ensures.value c.as_slice.ensures c.requires c.index-as_slice-func.is in
    All-at (λ (f : Func). length f.code < 4294967295) P.funcs c.args.func F (subst IsCounted c.prog-prog.ensures.value c.prog-prog.ensures.counted).items at

pub returns-clause-consistent : goal.returns-clause-consistent
returns-clause-consistent c =
    let F = c.index-as_slice-func.result in
    let at = there c.prog-prog.result.now c.args.prog.now.prog c.as_slice.result.now c.args.func F c.prog-prog.ensures.value c.as_slice.ensures c.requires c.index-as_slice-func.is in
    subst (λ o. IfOk c.table_in.result (λ table. IfSome o (λ (f : Func). IsConsistent f.code f.args (told table)))) (sym at) c.table_in.ensures.consistent

pub returns-clause-least : goal.returns-clause-least
returns-clause-least c =
    let F = c.index-as_slice-func.result in
    let at = there c.prog-prog.result.now c.args.prog.now.prog c.as_slice.result.now c.args.func F c.prog-prog.ensures.value c.as_slice.ensures c.requires c.index-as_slice-func.is in
    subst (λ o. IfOk c.table_in.result (λ table. IfSome o (λ (f : Func). (u : Table) → IsConsistent f.code f.args u → IsAtMost (told table) u))) (sym at) c.table_in.ensures.least
