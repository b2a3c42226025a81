use Rattle.std.proofs.Common.{◌+◌, ap, ◌∙◌, arith}
use Rattle.ssa_build.proofs.lemmas.trivial_phis.Loop.{work-begins}
use Rattle.ssa_build.proofs.trivial_phis.trivial.Work.new.Goals as goal

pub returns : goal.returns
returns c =
    let g = c.gets-gets.ensures in
    let n = c.in_ok-new.ensures in
    work-begins c.args.operands.now c.args.base c.in_ok-new.field-0 c.in_ok-marks.field-0.items c.in_ok-all_ends.field-0.items c.in_ok-no_firsts.field-0.items
    (n.count ∙ ap (λ k. c.args.base + k) g) (λ d l. n.own d (let k = n.count in omega (arith, l, k)))
    (c.in_ok-marks.ensures.long ∙ g) c.in_ok-marks.ensures.unset c.in_ok-all_ends.ensures.long c.in_ok-all_ends.ensures.ends (c.in_ok-no_firsts.ensures.long ∙ g) c.in_ok-no_firsts.ensures.unset
