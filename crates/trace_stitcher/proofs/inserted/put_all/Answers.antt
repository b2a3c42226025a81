use Rattle.std.proofs.Common.{◌≡◌, ◌+◌, suc, arith, ap, subst}
use Rattle.trace_stitcher.specs.Sources.{AreNamesAt}
use Rattle.trace_stitcher.specs.Inserted.{row}
use Rattle.trace_stitcher.proofs.Rows.{entry-there, labels-step, lines-step}
use Rattle.trace_stitcher.proofs.inserted.put_all.Goals as goal

pub loop-fit-preserved : goal.loop-fit-preserved
loop-fit-preserved c =
    let code = c.args.function.now.code.now in
    let f = c.args.function.now.number in
    let fits = c.args.fits.now in
    let k = c.loop-fit.fit-index in
    let x = c.fit-item.result in
    let inv = c.loop-fit.invariant in
    let number : suc k ≡ c.loop-fit.number + 1 = let h = inv.count in omega (arith, h) in
    record {
      count = ap (λ n. n + 1) inv.count;
      before = λ names are i.
          labels-step code f names fits k x c.loop-fit-test.true c.fit-item.is i (row c.loop-fit.before i) (row c.put.new.before i) (inv.before names are i)
          (c.in_ok-put.ensures.before (names (suc k)) (λ same. subst (λ n. AreNamesAt c.args.function.now n x.path.stop (names (suc k))) number (are k x (entry-there code f names fits k x c.loop-fit-test.true c.fit-item.is) same)) i);
      behind = λ names are i.
          lines-step code f names fits k x c.loop-fit-test.true c.fit-item.is i (row c.loop-fit.behind i) (row c.put.new.behind i) c.requires.apart (inv.behind names are i)
          (c.in_ok-put.ensures.behind (names (suc k)) (λ same. subst (λ n. AreNamesAt c.args.function.now n x.path.stop (names (suc k))) number (are k x (entry-there code f names fits k x c.loop-fit-test.true c.fit-item.is) same)) i);
    }
