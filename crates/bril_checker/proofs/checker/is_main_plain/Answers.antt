use Rattle.std.proofs.Common.{◌≡◌, Some, sym, ◌∙◌, ap, subst}
use Rattle.std.specs.Prelude.{slice_get, is_some}
use Rattle.std.proofs.lemmas.Bool.{false≢true}
use Rattle.bril_tree.specs.Accepted.{IsAcceptedFunction}
use Rattle.bril_checker.proofs.Positions.{item_at}
use Rattle.bril_checker.proofs.Program.{ArePlain, main_plain, plain_main}
use Rattle.bril_checker.proofs.checker.is_main_plain.Goals as goal

pub returns-then-is_none : goal.returns-then-is_none
returns-then-is_none c =
    let p = c.args.prog.now in
    let look = c.in-Some.ensures.lookup in
    let is : slice_get p.funcs p.main ≡ Some c.in-Some.main.now =
    item_at (IsAcceptedFunction p) p.funcs c.as_slice.result.now c.as_slice.ensures p.main c.in-Some.main.now look.3.0 look.1 in (
      λ plain. main_plain p c.in-Some.main.now is c.if-is_none.ensures (subst ArePlain c.parameters.ensures (c.are_plain.ensures.0 plain)),
      λ plain. c.are_plain.ensures.1 (subst ArePlain (sym c.parameters.ensures) (plain_main p c.in-Some.main.now is plain).1),
    )

pub returns-else-is_none : goal.returns-else-is_none
returns-else-is_none c =
    let p = c.args.prog.now in
    let look = c.in-Some.ensures.lookup in
    let is : slice_get p.funcs p.main ≡ Some c.in-Some.main.now =
    item_at (IsAcceptedFunction p) p.funcs c.as_slice.result.now c.as_slice.ensures p.main c.in-Some.main.now look.3.0 look.1 in (
      λ e. absurd (false≢true (sym c.if-is_none.false ∙ e)),
      λ plain. absurd (false≢true (sym (ap is_some (plain_main p c.in-Some.main.now is plain).0) ∙ c.if-is_none.ensures)),
    )
