use Rattle.std.proofs.Common.{sym, ap, ◌∙◌}
use Rattle.std.proofs.lemmas.Result.{IfOk-weaker}
use Rattle.ssa_exit.specs.Fresh.{count_beginning}
use Rattle.ssa_exit.specs.Unssaed.{IsLeftFunction}
use Rattle.ssa_exit.proofs.edit.unssaed_function.Goals as goal

pub returns : goal.returns
returns c =
    let F = c.args.func.now in
    let free = ap (λ stem. count_beginning stem F.vars) c.as_slice-3.ensures.value ∙ ap (λ vars. count_beginning c.in_ok-stem.stem.items vars) (sym c.as_slice.ensures) ∙ c.in_ok-stem.ensures.free in
    IfOk-weaker c.left_function.result _ (IsLeftFunction F c.args.function) (λ made e. record { stem = c.as_slice-3.result.now; free = free; tree = e }) c.left_function.ensures
