use Rattle.std.proofs.Common.{◌+◌, length, ap, subst, arith}
use Rattle.std.specs.Prelude.{slice_index}
use Rattle.ssa_build.specs.trivial_phis.Trivial.{IsResolved}
use Rattle.ssa_search.specs.gets.Wants.{gets_of}
use Rattle.ssa_build.specs.operands.Operands.{base_of}
use Rattle.ssa_build.proofs.lemmas.operands.Needed.{left-needed, resolved-solved}
use Rattle.ssa_build.proofs.sources.solved.solved_gets.Goals as goal

pub returns-clause-solved : goal.returns-clause-solved
returns-clause-solved c =
    let F = c.args.func.now in
    let gets = gets_of c.args.wants.now in
    let v = c.in_ok-operands.operands in
    let find = c.in_ok-find.find.items in
    let same = ap length c.as_slice.ensures in
    let is : IsResolved v (base_of F.code F.args) (λ d. slice_index find d) = subst (λ n. IsResolved v (F.args + n) (λ d. slice_index find d)) same c.in_ok-find.ensures.resolved in
    let long = c.in_ok-find.ensures.long in
    record {
      solved = resolved-solved F.code F.args gets v (λ d. slice_index find d) c.in_ok-operands.ensures.operands is;
      within = λ d low. let w = is.within d (omega (arith, low, long, same)) in omega (arith, w, long, same);
      own = λ d low. is.own d (omega (arith, low, long, same));
      needed = λ k y a get stays. left-needed F.code F.args gets v (λ d. slice_index find d) c.requires.sweepable.sound c.requires.sweepable.tabled c.in_ok-operands.ensures.operands is k y a get stays;
    }
