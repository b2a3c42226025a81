use Rattle.std.proofs.Common.{length}
use Rattle.ssa_search.proofs.lemmas.accesses.Passing.{item-at}
use Rattle.ssa_build.proofs.lemmas.sources.Items.{item-within, told-behind}
use Rattle.ssa_build.proofs.sources.sweep.go_on.Goals as goal

pub pass-requires : goal.pass-requires
pass-requires c =
    let F = c.args.func.now in
    let at = item-at c.as_slice.result.now F.code c.as_slice.ensures c.args.point c.index-as_slice-point.result c.requires.point c.index-as_slice-point.is in
    record { within = item-within F c.requires.shaped c.args.point c.index-as_slice-point.result at (length c.args.now.now) c.requires.long }

pub returns : goal.returns
returns c =
    let F = c.args.func.now in
    let at = item-at c.as_slice.result.now F.code c.as_slice.ensures c.args.point c.index-as_slice-point.result c.requires.point c.index-as_slice-point.is in
    told-behind F c.args.wants.now c.requires.wants c.args.point c.index-as_slice-point.result at c.args.now.now c.pass.new.definitions c.enter.new.definitions c.behind.result.now c.behind.ensures c.requires.tells c.pass.ensures c.enter.ensures.tells
