use Rattle.std.proofs.Common.{◌∷◌, [], ◌∙◌, arith}
use Rattle.std.proofs.lemmas.List.{length-append}
use Rattle.ssa_build.specs.code.Layout.{view_of}
use Rattle.ssa_build.proofs.lemmas.code.Laying.{so-more, tells-into}
use Rattle.ssa_laws.specs.reaching_definitions.Told.{into_at}
use Rattle.ssa_build.proofs.code.sweep.lay_all.Goals as goal

pub loop-item-preserved : goal.loop-item-preserved
loop-item-preserved c =
    let F = c.args.layout.now.func.now in
    let sites = c.args.layout.now.graph.now.sites in
    let l = view_of c.args.layout.now in
    let inv = c.loop-item.invariant in
    record {
      count = let h = inv.count in let k = length-append c.loop-item.yielded (c.in-Some.item ∷ []) in omega (arith, h, k);
      wide = c.go_on.auto.now ∙ inv.wide;
      laid = λ gets are.
          so-more F sites l gets c.loop-item.point c.loop-item.yielded c.loop-item.made c.loop-item.now (inv.laid gets are) inv.count c.in-Some.item c.lay_one.new.made c.go_on.new.now c.in_ok-lay_one.ensures
          (c.go_on.ensures (into_at F.code F.args gets c.loop-item.point) (gets c.loop-item.point) (are c.loop-item.point) (tells-into F sites l gets c.loop-item.point c.loop-item.now ((inv.laid gets are).here)));
    }
