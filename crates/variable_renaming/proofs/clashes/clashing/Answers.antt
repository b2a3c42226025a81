use Rattle.std.proofs.Common.{◌≡◌, ◌<◌, ◌-◌, length, get_or, sym, subst, arith}
use Rattle.flow_graph.proofs.Told.{reach_tells}
use Rattle.variable_renaming.proofs.Found.{clash-here, clash-alone}
use Rattle.variable_renaming.proofs.clashes.clashing.Goals as goal

pub returns-clause-some : goal.returns-clause-some
returns-clause-some c = λ item e.
    let code = c.args.related.func.now.code in
    let low : c.args.point - 1 < length code = let h = c.requires.point in omega (arith, e) in
    clash-here code c.args.point item c.args.x c.in_ok-dest.dest c.index-as_slice-point.result e
    ((reach_tells code c.args.related.graph.now c.requires.graph (c.args.point - 1) c.reach.result c.reach.ensures).0 c.if-not-reach.false) low
    (subst (λ l. c.index-as_slice-point.result ≡ get_or l (c.args.point - 1) c.index-as_slice-point.result) c.as_slice.ensures c.index-as_slice-point.is)
    (sym c.in_ok-dest.ensures) c.if-dest-x.false (c.is_copy_of.ensures.other c.if-is_copy_of.false) c.requires.live

pub returns-clause-alone : goal.returns-clause-alone
returns-clause-alone c = λ item y e clash.
    let code = c.args.related.func.now.code in
    let low : c.args.point - 1 < length code = let h = c.requires.point in omega (arith, e) in
    clash-alone code c.args.point item c.args.x y c.in_ok-dest.dest c.index-as_slice-point.result e low
    (subst (λ l. c.index-as_slice-point.result ≡ get_or l (c.args.point - 1) c.index-as_slice-point.result) c.as_slice.ensures c.index-as_slice-point.is) (sym c.in_ok-dest.ensures) clash
