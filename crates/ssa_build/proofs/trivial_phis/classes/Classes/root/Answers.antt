use Rattle.std.proofs.Common.{length, refl, ap, subst}
use Rattle.ssa_build.specs.trivial_phis.Classes.{ClassesView, AreClasses, root_in}
use Rattle.ssa_build.proofs.lemmas.trivial_phis.Roots.{root-step, root-found, same-classes}
use Rattle.ssa_build.proofs.trivial_phis.classes.Classes.root.Goals as goal

pub loop-node-init : goal.loop-node-init
loop-node-init c =
    let e = c.self.view_is in
    record {
      stands = ap (λ (v : ClassesView). v.stands) e;
      step = record {
        within = c.requires;
        count = ap (λ (v : ClassesView). length v.parents) e;
        falls = c.self.invariant.lesser;
        roots = λ x l. ap (λ (v : ClassesView). root_in v.parents x) e;
        here = refl;
      };
    }

pub invariant_of-self : goal.invariant_of-self
invariant_of-self c =
    let i = c.loop-node.invariant in
    let h : AreClasses c.args.self.now = subst AreClasses c.self.view_is c.self.invariant in
    (same-classes c.args.self.now (record { parents = c.loop-node.self-inside.parents.items; stands = c.loop-node.self-inside.stands.items }) h i.step.count i.step.falls i.stands i.step.roots).1

pub loop-node-preserved : goal.loop-node-preserved
loop-node-preserved c =
    let i = c.loop-node.invariant in
    record {
      stands = i.stands;
      step = root-step c.args.self.now c.args.d c.loop-node.self-inside.parents.items c.loop-node.node c.index-parent.result.now c.index-above.result.now c.index.result.now i.step c.index.ensures c.loop-node-test.true c.index-parent.ensures c.index-above.ensures;
    }

pub returns-clause-root : goal.returns-clause-root
returns-clause-root c = (root-found c.args.self.now c.args.d c.loop-node.self-inside.parents.items c.loop-node.node c.index.result.now c.loop-node.invariant.step c.index.ensures c.loop-node-test.false).0

pub returns-clause-parent : goal.returns-clause-parent
returns-clause-parent c = (root-found c.args.self.now c.args.d c.loop-node.self-inside.parents.items c.loop-node.node c.index.result.now c.loop-node.invariant.step c.index.ensures c.loop-node-test.false).1

pub returns-clause-within : goal.returns-clause-within
returns-clause-within c = c.loop-node.invariant.step.within

pub returns-clause-roots : goal.returns-clause-roots
returns-clause-roots c = c.loop-node.invariant.step.roots

pub returns-clause-stands : goal.returns-clause-stands
returns-clause-stands c = c.loop-node.invariant.stands

pub returns-clause-same : goal.returns-clause-same
returns-clause-same c =
    let i = c.loop-node.invariant in
    let h : AreClasses c.args.self.now = subst AreClasses c.self.view_is c.self.invariant in
    (same-classes c.args.self.now (record { parents = c.loop-node.self-inside.parents.items; stands = c.loop-node.self-inside.stands.items }) h i.step.count i.step.falls i.stands i.step.roots).0
