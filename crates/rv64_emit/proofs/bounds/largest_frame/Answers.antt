use Rattle.std.proofs.Common.{◌≡◌, ◌<◌, ◌≤◌, length, ap, ◌∙◌, subst}
use Rattle.rv64_emit.proofs.Frames.{largest_next, largest_all}
use Rattle.rv64_emit.proofs.bounds.largest_frame.Goals as goal

pub loop-number-preserved : goal.loop-number-preserved
loop-number-preserved c =
    let same : length c.as_slice-number-end.result.now ≡ length c.args.checked.now.prog.funcs = ap length c.as_slice-number-end.ensures ∙ ap (λ p. length p.funcs) c.prog.ensures.value in
    let less : c.loop-number.number < length c.args.checked.now.prog.funcs = subst (λ n. c.loop-number.number < n) same c.loop-number-test.true in
    largest_next c.args.checked.now.prog.funcs c.loop-number.number c.loop-number.most c.frame_words.result c.max-most.result c.loop-number.invariant less c.frame_words.ensures c.max-most.ensures

pub returns : goal.returns
returns c =
    let same : length c.as_slice-number-end.result.now ≡ length c.args.checked.now.prog.funcs = ap length c.as_slice-number-end.ensures ∙ ap (λ p. length p.funcs) c.prog.ensures.value in
    let all : length c.args.checked.now.prog.funcs ≤ c.loop-number.number = subst (λ n. n ≤ c.loop-number.number) same c.loop-number-test.false in
    largest_all c.args.checked.now.prog c.loop-number.number c.loop-number.most c.loop-number.invariant all
