use Rattle.std.proofs.Common.{◌≡◌, ◌<◌, ◌≤◌, ℕ, length, sym, subst, ◌∙◌, arith}
use Rattle.std.proofs.Math.ListN.{set}
use Rattle.ssa_build.specs.trivial_phis.Classes.{ClassesView, AreClasses, SameClasses, Joined, find_in, root_in}
use Rattle.ssa_build.proofs.lemmas.trivial_phis.Roots.{join-lesser, join-greater, joined-from, same-on}
use Rattle.ssa_build.proofs.trivial_phis.classes.Classes.join.Goals as goal

-- the two roots, as the classes stand before they are joined
record Roots (v0 v : ClassesView) (y z a b : ℕ) : Type 0 where
  same : SameClasses v0 v
  y_less : y < length v.parents
  z_less : z < length v.parents
  y_stands : find_in v y ≡ y
  z_stands : find_in v z ≡ z
  y_root : root_in v.parents y ≡ a
  z_root : root_in v.parents z ≡ b

roots : (v0 v1 v2 : ClassesView) (y z a b : ℕ) → y < length v0.parents → z < length v0.parents → find_in v0 y ≡ y → find_in v0 z ≡ z → SameClasses v0 v1 → SameClasses v1 v2 → a ≡ root_in v0.parents y → b ≡ root_in v1.parents z
    → ((x : ℕ) → x < length v0.parents → root_in v1.parents x ≡ root_in v0.parents x) → ((x : ℕ) → x < length v1.parents → root_in v2.parents x ≡ root_in v1.parents x) → Roots v0 v2 y z a b
roots v0 v1 v2 y z a b yl zl ys zs s t ra rb same1 same2 =
    let n = s.count in
    let m = t.count in
    record {
      same = same-on v0 v1 v2 s t;
      y_less = omega (arith, yl, n, m);
      z_less = omega (arith, zl, n, m);
      y_stands = (same-on v0 v1 v2 s t).find y yl ∙ ys;
      z_stands = (same-on v0 v1 v2 s t).find z zl ∙ zs;
      y_root = same2 y (omega (arith, yl, n)) ∙ same1 y yl ∙ sym ra;
      z_root = same2 z (omega (arith, zl, n)) ∙ sym rb;
    }

lesser : (v0 v : ClassesView) (y z a b : ℕ) → AreClasses v → Roots v0 v y z a b → (y ≡ z → ⊥) → a < b → AreClasses (record { parents = set v.parents b a; stands = set v.stands a z }) × Joined y z v0 (record { parents = set v.parents b a; stands = set v.stands a z })
lesser v0 v y z a b h r n l =
    let j = join-lesser v h y z a b r.y_less r.z_less r.y_stands r.z_stands n r.y_root r.z_root l in
    (j.0, joined-from v0 v (record { parents = set v.parents b a; stands = set v.stands a z }) y z r.same j.1)

greater : (v0 v : ClassesView) (y z a b : ℕ) → AreClasses v → Roots v0 v y z a b → (y ≡ z → ⊥) → b ≤ a → AreClasses (record { parents = set v.parents a b; stands = set v.stands b z }) × Joined y z v0 (record { parents = set v.parents a b; stands = set v.stands b z })
greater v0 v y z a b h r n l =
    let j = join-greater v h y z a b r.y_less r.z_less r.y_stands r.z_stands n r.y_root r.z_root l in
    (j.0, joined-from v0 v (record { parents = set v.parents a b; stands = set v.stands b z }) y z r.same j.1)

pub invariant_of-self : goal.invariant_of-self
invariant_of-self c =
    let v : ClassesView = record { parents = c.self.inside.parents.items; stands = c.self.inside.stands.items } in
    let r = roots c.args.self.now c.root-a.new.self c.root-b.new.self c.args.y c.args.z c.root-a.result c.root-b.result c.requires.y c.requires.z c.requires.y_stands c.requires.z_stands c.root-a.ensures.same c.root-b.ensures.same c.root-a.ensures.root c.root-b.ensures.root c.root-a.ensures.roots c.root-b.ensures.roots in
    (lesser c.args.self.now v c.args.y c.args.z c.root-a.result c.root-b.result c.self.invariant (subst (λ w. Roots c.args.self.now w c.args.y c.args.z c.root-a.result c.root-b.result) (sym c.self.view_is) r) c.requires.differ c.if-a-b.true).0

pub invariant_of-self-else-a-b : goal.invariant_of-self-else-a-b
invariant_of-self-else-a-b c =
    let v : ClassesView = record { parents = c.self.inside.parents.items; stands = c.self.inside.stands.items } in
    let r = roots c.args.self.now c.root-a.new.self c.root-b.new.self c.args.y c.args.z c.root-a.result c.root-b.result c.requires.y c.requires.z c.requires.y_stands c.requires.z_stands c.root-a.ensures.same c.root-b.ensures.same c.root-a.ensures.root c.root-b.ensures.root c.root-a.ensures.roots c.root-b.ensures.roots in
    (greater c.args.self.now v c.args.y c.args.z c.root-a.result c.root-b.result c.self.invariant (subst (λ w. Roots c.args.self.now w c.args.y c.args.z c.root-a.result c.root-b.result) (sym c.self.view_is) r) c.requires.differ c.if-a-b.false).0

pub returns-then-a-b : goal.returns-then-a-b
returns-then-a-b c =
    let v : ClassesView = record { parents = c.self.inside.parents.items; stands = c.self.inside.stands.items } in
    let r = roots c.args.self.now c.root-a.new.self c.root-b.new.self c.args.y c.args.z c.root-a.result c.root-b.result c.requires.y c.requires.z c.requires.y_stands c.requires.z_stands c.root-a.ensures.same c.root-b.ensures.same c.root-a.ensures.root c.root-b.ensures.root c.root-a.ensures.roots c.root-b.ensures.roots in
    (lesser c.args.self.now v c.args.y c.args.z c.root-a.result c.root-b.result c.self.invariant (subst (λ w. Roots c.args.self.now w c.args.y c.args.z c.root-a.result c.root-b.result) (sym c.self.view_is) r) c.requires.differ c.if-a-b.true).1

pub returns-else-a-b : goal.returns-else-a-b
returns-else-a-b c =
    let v : ClassesView = record { parents = c.self.inside.parents.items; stands = c.self.inside.stands.items } in
    let r = roots c.args.self.now c.root-a.new.self c.root-b.new.self c.args.y c.args.z c.root-a.result c.root-b.result c.requires.y c.requires.z c.requires.y_stands c.requires.z_stands c.root-a.ensures.same c.root-b.ensures.same c.root-a.ensures.root c.root-b.ensures.root c.root-a.ensures.roots c.root-b.ensures.roots in
    (greater c.args.self.now v c.args.y c.args.z c.root-a.result c.root-b.result c.self.invariant (subst (λ w. Roots c.args.self.now w c.args.y c.args.z c.root-a.result c.root-b.result) (sym c.self.view_is) r) c.requires.differ c.if-a-b.false).1
