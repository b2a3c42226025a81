-- Each turn writes the next bytes.
use Rattle.std.proofs.Common.{◌-◌, ◌++◌, length, take, drop, sym, ap, subst, ◌∙◌, arith, length-take}
use lib.Seq.{take-add, take-take}
use Rattle.std.proofs.KnownBytes.{Appends-trans}
use Rattle.std.specs.Io.KnownBytes.{Appends}
use Rattle.bril_outside.proofs.os_sink.write_first.Goals as goal

pub loop-preserved : goal.loop-preserved
loop-preserved g c =
    let done = c.loop.written in
    let n = c.in-Ok.count in
    let xs = c.args.bytes.now in
    let before = c.loop.invariant in
    let more = c.in-Ok.ensures.ok in
    let most = length-take (length xs - done) (drop done xs) in
    let fits = more.0 in
    let joined = ap (λ l. take done xs ++ l) (take-take n (length xs - done) (drop done xs) (omega arith)) ∙ sym (take-add done n xs) in
    (omega arith, subst (Appends _ _) joined (Appends-trans _ _ _ _ _ before.1 more.1))
