use Rattle.std.specs.Vec.{with_items}
use Rattle.std.proofs.lemmas.List.{with_items_is}
use Rattle.std.proofs.Common.{◌≡◌, ◌<◌, length, get_or, refl, sym, ap, subst, ◌∙◌, arith}
use Rattle.bril_interpreter.specs.Arrivals.{CountsNewest}
use Rattle.bril_interpreter.specs.Interpreter.{InterpView}
use Rattle.bril_interpreter.proofs.RanQuickly.{counts_lent}
use Rattle.bril_interpreter.proofs.interp.Interp.run_counting.Goals as goal

pub returns-clause-counted : goal.returns-clause-counted
returns-clause-counted c =
    let old : InterpView = c.args.self.now in
    let rows = c.args.counts.now.items in
    let row = c.index_mut.result.now in
    let function : c.function-function.result ≡ old.newest.function = c.function-function.ensures ∙ ap (λ (i : InterpView). i.newest.function) c.self.view_is in
    let within : old.newest.function < length rows = (let a = c.if-function-len.false in let b = c.len.ensures in omega (arith, function)) in
    let here : row ≡ get_or rows old.newest.function row = c.index_mut.ensures.value ∙ ap (λ k. get_or rows k c.index_mut.result.now) function in
    let long : length c.run_frames.new.counts ≡ row.len = (let a = c.run_frames.auto.counts in let b = c.as_mut_slice.ensures.len in omega arith) in
    let is : (with_items row c.run_frames.new.counts).items ≡ c.run_frames.new.counts = with_items_is row c.run_frames.new.counts long in
    let steps = rw c.as_mut_slice.ensures.value at (c.run_frames.ensures.counted refl) in
    rw function (counts_lent (λ row. row.items) rows row (with_items row c.run_frames.new.counts) old c.args.hot c.run_frames.result within here
    (subst (CountsNewest c.args.hot c.run_frames.result old row.items) (sym is) steps))
