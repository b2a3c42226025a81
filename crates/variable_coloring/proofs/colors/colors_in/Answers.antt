use Rattle.std.proofs.Common.{ap, arith, length, subst, sym}
use Rattle.variable_coloring.specs.Late.{AreLatePairs}
use Rattle.variable_coloring.specs.Pairs.{ArePairs}
use Rattle.variable_coloring.proofs.Joining.{all-colors}
use Rattle.variable_coloring.proofs.Placing.{first-second}
use Rattle.variable_coloring.proofs.colors.colors_in.Goals as goal

pub late_pairs-requires : goal.late_pairs-requires
late_pairs-requires c = subst (ArePairs c.args.func.now) (sym c.list.ensures) c.in_ok-pairs.ensures

pub look_again_at_all-requires-clause-second : goal.look_again_at_all-requires-clause-second
look_again_at_all-requires-clause-second c = first-second c.args.func.now c.loop-x.x c.in_ok-late.late.list c.loop-x.colors c.loop-x.invariant
    (let h = c.loop-x-test.false in let e = c.loop-x.auto.x-end in let l = ap length c.as_slice-count.ensures in omega (arith, h, e, l))
    (subst (λ l. AreLatePairs c.args.func.now l c.in_ok-late.late.list) c.as_slice.ensures.value c.in_ok-late.ensures)

pub returns : goal.returns
returns c =
    let made = c.look_again_at_all.new.self.classes in
    let second = c.in_ok-look_again_at_all.ensures in
    all-colors c.args.func.now made.placed.items made.class.items made.shadow.items second.done (let s = second.state in s.colors)
