use Rattle.std.proofs.Common.{◌≡◌, ◌-◌, min, length, length-drop, take, take_all, drop, arith, ap, ◌∙◌}
use Rattle.std.proofs.lemmas.List.{drop_min}
use Rattle.rv64_emit.proofs.sizes.items_from.Goals as goal

pub returns : goal.returns
returns c =
    let all = c.as_slice-code.result.now in
    let first = c.min-start.result in
    let start : first ≡ min c.args.from (length all) = omega (arith, c.min-start.ensures) in
    let whole : take (length all - first) (drop first all) ≡ drop first all = take_all (length all - first) (drop first all) (omega (arith, length-drop first all)) in
    whole ∙ (ap (λ n. drop n all) start ∙ (drop_min c.args.from all ∙ ap (drop c.args.from) c.as_slice-code.ensures))
