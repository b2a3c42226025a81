use Rattle.std.proofs.Common.{inl, inr, arith}
use Rattle.bril_tree.specs.Numbered.{named, variable_names}
use Rattle.ssa_build.specs.fresh_names.Names.{front_of}
use Rattle.ssa_build.proofs.lemmas.fresh_names.Texts.{front-at, front-more}
use Rattle.ssa_build.proofs.fresh_names.names.front.Goals as goal
use Rattle.ssa_build.proofs.fresh_names.names.front.Goals.{then-front-needed, else-front-needed}

pub loop-x-preserved : goal.loop-x-preserved
loop-x-preserved c =
    let vars = c.args.vars.now in
    let x = c.loop-x.x in
    let v = c.index-vars-x.result in
    let low = c.loop-x-test.true in
    let is = front-at vars x v c.as_bytes.result.now c.front_of-needed.result (omega (arith, low, c.requires)) c.as_bytes.ensures.value c.front_of-needed.ensures in
    elim c.if-front-needed.branch [
      | then-front-needed w ↦ front-more (λ y. front_of (named (variable_names vars) y)) x c.loop-x.front c.front_of-needed.result c.if-front-needed.front is c.loop-x.invariant (let h = w.front-is in let t = w.if-front-needed.true in omega (arith, h, t)) (let h = w.front-is in omega (arith, h)) (inr w.front-is)
      | else-front-needed w ↦ front-more (λ y. front_of (named (variable_names vars) y)) x c.loop-x.front c.front_of-needed.result c.if-front-needed.front is c.loop-x.invariant (let h = w.front-is in omega (arith, h)) (let h = w.front-is in let t = w.if-front-needed.false in omega (arith, h, t)) (inl w.front-is)
    ]
