use Rattle.std.proofs.Common.{◌<◌, ◌++◌, ◌∷◌, [], length, get_or, max, ap, ◌∙◌, arith}
use Rattle.trace_recorder.specs.Kept.{view_of}
use Rattle.trace_recorder.proofs.Ranking.{ranks-next}
use Rattle.trace_recorder.proofs.parts.Parts.ranks.Goals as goal

pub loop-place-preserved : goal.loop-place-preserved
loop-place-preserved c =
    let p = c.args.self.now.paths in
    let less : c.loop-place.place < length c.args.self.now.paths.held.items = (let t = c.loop-place-test.true in let e = c.deref-kept-items.ensures.len in omega arith) in
    c.in_ok-push.ensures.items ∙ ap (λ l. l ++ record { place = c.loop-place.place; count = c.max-count.result } ∷ []) c.loop-place.invariant
    ∙ ranks-next (view_of c.args.self.now).counts p.log.items p.items p.laid p.held.items c.loop-place.place c.max-count.result c.kept-item.result less
    (c.kept-item.is ∙ ap (λ l. get_or l c.loop-place.place c.kept-item.result) c.deref-kept-items.ensures.value) (c.max-count.ensures ∙ ap (λ n. max n 1) c.count_at.ensures)
