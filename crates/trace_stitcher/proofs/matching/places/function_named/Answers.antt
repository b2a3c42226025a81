use Rattle.std.proofs.Common.{◌∙◌, ◌<◌, sym, subst, below_more}
use Rattle.std.proofs.lemmas.Bool.{true≢false}
use Rattle.std.proofs.lemmas.List.{length-map}
use Rattle.std.proofs.lemmas.Slice.Eq.{bytes_eq-Decides}
use Rattle.bril_tree.specs.declared.numbered_function.Func.{Func}
use Rattle.trace_stitcher.proofs.lemmas.matching.Entries.{name-read}
use Rattle.trace_stitcher.proofs.matching.places.function_named.Goals as goal

pub returns-then-eq : goal.returns-then-eq
returns-then-eq c =
    let F = c.index-funcs-number.result in
    let funcs = c.args.funcs.now in (
      subst (λ n. c.loop-number.number < n) (sym (length-map funcs (λ (f : Func). f.name))) c.loop-number-test.true,
      name-read funcs c.loop-number.number F c.loop-number-test.true c.index-funcs-number.is ∙ sym c.as_bytes.ensures.value
          ∙ (bytes_eq-Decides c.as_bytes.result.now c.as_bytes-in-loop-number.result.now).0 (sym c.eq.ensures ∙ c.if-eq.true) ∙ c.as_bytes-in-loop-number.ensures.value,
    )

pub loop-number-preserved : goal.loop-number-preserved
loop-number-preserved c =
    let F = c.index-funcs-number.result in
    let funcs = c.args.funcs.now in
    below_more _ _ c.loop-number.invariant
    (λ same. true≢false (sym ((bytes_eq-Decides c.as_bytes.result.now c.as_bytes-in-loop-number.result.now).1
    (c.as_bytes.ensures.value ∙ sym (name-read funcs c.loop-number.number F c.loop-number-test.true c.index-funcs-number.is) ∙ same ∙ sym c.as_bytes-in-loop-number.ensures.value)) ∙ sym c.eq.ensures ∙ c.if-eq.false))
