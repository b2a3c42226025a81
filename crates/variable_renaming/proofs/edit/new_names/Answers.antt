use Rattle.std.proofs.Common.{◌<◌, length, subst, arith}
use Rattle.variable_renaming.proofs.Editing.{any-default}
use Rattle.variable_renaming.proofs.edit.new_names.Goals as goal

pub variable_name-requires : goal.variable_name-requires
variable_name-requires c =
    let F = c.args.func.now in
    let class = c.args.class.now in
    let i = c.loop-x.x-index in
    let long = c.requires.long in
    let low = c.loop-x-test.true in
    subst (λ n. n < length F.vars) (any-default class i i 0 low) (c.requires.inside i (omega arith))
