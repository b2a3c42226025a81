use Rattle.std.proofs.Common.{◌≡◌, ◌<◌, ◌+◌, ◌-◌, length, true, false, refl, sym, ◌∙◌, subst, inl, inr, arith}
use Rattle.std.specs.Prelude.{slice_index}
use Rattle.ssa_build.specs.trivial_phis.Classes.{count_of, find_in}
use Rattle.ssa_build.specs.trivial_phis.Trivial.{Differs, IsLooked, Passes, sources_of}
use Rattle.ssa_build.proofs.lemmas.trivial_phis.Roots.{same-on}
use Rattle.ssa_build.proofs.lemmas.trivial_phis.Loop.{work-on, look-tells, bounded-of, placed-of, look-passes, look-stops, look-own, looked-same, differs-same, look-work}
use Rattle.ssa_build.proofs.trivial_phis.trivial.Work.look.Goals as goal
use Rattle.ssa_build.proofs.trivial_phis.trivial.Work.look.Goals.{then-loop-passing-test+else-end-gt0, else-loop-passing-test}

pub passes-passing-requires-clause-first : goal.passes-passing-requires-clause-first
passes-passing-requires-clause-first c = λ w e.
    let i = c.loop-passing.invariant in
    let b = bounded-of c.args.operands.now (c.args.base + c.args.operands.now.gets) c.requires.within c.args.get w (i.looked.first_is w e) in
    let n = i.same.count in
    let m = c.requires.work.count in
    omega (arith, b, n, m)

pub loop-passing-preserved-then-passing : goal.loop-passing-preserved-then-passing
loop-passing-preserved-then-passing c =
    let i = c.loop-passing.invariant in
    let p = c.passes-passing.ensures in
    let n : count_of c.loop-passing.self.classes ≡ c.args.base + c.args.operands.now.gets = i.same.count ∙ c.requires.work.count in
    let l = look-passes c.args.operands.now c.args.base c.requires.within (find_in c.loop-passing.self.classes) c.args.get c.loop-passing.end c.before-end.result c.loop-passing.first c.passes-passing.new.first i.looked c.if-end-gt0.true (subst (λ x. Passes (find_in c.loop-passing.self.classes) (c.args.base + c.args.get) x c.loop-passing.first c.passes-passing.new.first) c.from.ensures (p.passes c.if-passing.true)) c.before-end.ensures in
    record {
      same = same-on c.args.self.now.classes c.loop-passing.self.classes c.passes-passing.new.self.classes i.same p.same;
      gone = p.rest.0 ∙ i.gone;
      ends = p.rest.1 ∙ i.ends;
      firsts = p.rest.2 ∙ i.firsts;
      looked = looked-same c.args.operands.now c.args.base c.requires.within c.loop-passing.self.classes c.passes-passing.new.self.classes n p.same c.args.get c.before-end.result c.passes-passing.new.first l;
      stops = λ e. absurd (let x : true ≡ false = sym c.if-passing.true ∙ e in cc);
    }

pub loop-passing-preserved : goal.loop-passing-preserved
loop-passing-preserved c =
    let i = c.loop-passing.invariant in
    let p = c.passes-passing.ensures in
    let n : count_of c.loop-passing.self.classes ≡ c.args.base + c.args.operands.now.gets = i.same.count ∙ c.requires.work.count in
    let d = p.stops c.if-passing.false in
    let less : c.loop-passing.end - 1 < length c.args.operands.now.list = (let a = i.looked.ends.within in let b = i.looked.within in let g = c.if-end-gt0.true in omega (arith, a, b, g)) in
    record {
      same = same-on c.args.self.now.classes c.loop-passing.self.classes c.passes-passing.new.self.classes i.same p.same;
      gone = p.rest.0 ∙ i.gone;
      ends = p.rest.1 ∙ i.ends;
      firsts = p.rest.2 ∙ i.firsts;
      looked = subst (IsLooked c.args.operands.now c.args.base (find_in c.passes-passing.new.self.classes) c.args.get c.loop-passing.end) (sym d.1)
          (looked-same c.args.operands.now c.args.base c.requires.within c.loop-passing.self.classes c.passes-passing.new.self.classes n p.same c.args.get c.loop-passing.end c.loop-passing.first i.looked);
      stops = λ e. (
        c.if-end-gt0.true,
        differs-same c.args.operands.now c.args.base c.requires.within c.loop-passing.self.classes c.passes-passing.new.self.classes n p.same (c.args.base + c.args.get) (slice_index (sources_of c.args.operands.now) (c.loop-passing.end - 1)) c.loop-passing.first c.passes-passing.new.first
            (placed-of c.args.operands.now (c.args.base + c.args.operands.now.gets) c.requires.within (c.loop-passing.end - 1) less)
            (λ w k. bounded-of c.args.operands.now (c.args.base + c.args.operands.now.gets) c.requires.within c.args.get w (i.looked.first_is w k)) d.1 (subst (λ x. Differs (find_in c.loop-passing.self.classes) (c.args.base + c.args.get) x c.loop-passing.first) c.from.ensures d.0),
      );
    }

pub returns-then-not-passing-clause-work : goal.returns-then-not-passing-clause-work
returns-then-not-passing-clause-work c =
    let i = c.loop-passing.invariant in
    look-work c.args.operands.now c.args.base c.requires.within c.args.self.now.classes c.loop-passing.self.classes c.args.self.now.gone.items c.loop-passing.self.gone.items c.args.self.now.ends.items c.loop-passing.self.ends.items c.args.self.now.firsts.items c.loop-passing.self.firsts.items c.args.get c.loop-passing.end c.loop-passing.first c.requires.work i.same i.gone i.ends i.firsts c.requires.get i.looked

pub returns-then-not-passing-clause-look : goal.returns-then-not-passing-clause-look
returns-then-not-passing-clause-look c =
    let i = c.loop-passing.invariant in
    let d = i.stops c.if-not-passing.true in
    inl (look-stops c.args.operands.now c.args.base c.requires.within (find_in c.loop-passing.self.classes) c.args.get c.loop-passing.end c.loop-passing.first i.looked d.0 d.1)

pub returns-in-None-clause-work : goal.returns-in-None-clause-work
returns-in-None-clause-work c =
    let i = c.loop-passing.invariant in
    look-work c.args.operands.now c.args.base c.requires.within c.args.self.now.classes c.loop-passing.self.classes c.args.self.now.gone.items c.loop-passing.self.gone.items c.args.self.now.ends.items c.loop-passing.self.ends.items c.args.self.now.firsts.items c.loop-passing.self.firsts.items c.args.get c.loop-passing.end c.loop-passing.first c.requires.work i.same i.gone i.ends i.firsts c.requires.get i.looked

pub returns-in-None-clause-look : goal.returns-in-None-clause-look
returns-in-None-clause-look c =
    let i = c.loop-passing.invariant in
    let z : c.loop-passing.end ≡ 0 = elim c.loop-passing-test.branch [ then-loop-passing-test+else-end-gt0 w ↦ omega arith | else-loop-passing-test w ↦ absurd (let x : true ≡ false = sym c.if-not-passing.false ∙ w.loop-passing-test.false in cc) ] in
    inr (look-own c.args.operands.now c.args.base c.requires.within (find_in c.loop-passing.self.classes) c.args.get c.loop-passing.end c.loop-passing.first i.looked z (λ w e. absurd (let x = sym c.in-None.is ∙ e in cc)))

pub find-stands-requires : goal.find-stands-requires
find-stands-requires c =
    let i = c.loop-passing.invariant in
    let b = bounded-of c.args.operands.now (c.args.base + c.args.operands.now.gets) c.requires.within c.args.get c.in-Some.other (i.looked.first_is c.in-Some.other c.in-Some.is) in
    let n = i.same.count in
    let m = c.requires.work.count in
    omega (arith, b, n, m)

pub returns-then-stands-y-clause-work : goal.returns-then-stands-y-clause-work
returns-then-stands-y-clause-work c =
    let i = c.loop-passing.invariant in
    let n : count_of c.loop-passing.self.classes ≡ c.args.base + c.args.operands.now.gets = i.same.count ∙ c.requires.work.count in
    let s = c.find-stands.ensures.same in
    look-work c.args.operands.now c.args.base c.requires.within c.args.self.now.classes c.find-stands.new.self c.args.self.now.gone.items c.loop-passing.self.gone.items c.args.self.now.ends.items c.loop-passing.self.ends.items c.args.self.now.firsts.items c.loop-passing.self.firsts.items c.args.get c.loop-passing.end c.loop-passing.first c.requires.work (same-on c.args.self.now.classes c.loop-passing.self.classes c.find-stands.new.self i.same s) i.gone i.ends i.firsts c.requires.get
    (looked-same c.args.operands.now c.args.base c.requires.within c.loop-passing.self.classes c.find-stands.new.self n s c.args.get c.loop-passing.end c.loop-passing.first i.looked)

pub returns-else-stands-y-clause-work : goal.returns-else-stands-y-clause-work
returns-else-stands-y-clause-work c =
    let i = c.loop-passing.invariant in
    let n : count_of c.loop-passing.self.classes ≡ c.args.base + c.args.operands.now.gets = i.same.count ∙ c.requires.work.count in
    let s = c.find-stands.ensures.same in
    look-work c.args.operands.now c.args.base c.requires.within c.args.self.now.classes c.find-stands.new.self c.args.self.now.gone.items c.loop-passing.self.gone.items c.args.self.now.ends.items c.loop-passing.self.ends.items c.args.self.now.firsts.items c.loop-passing.self.firsts.items c.args.get c.loop-passing.end c.loop-passing.first c.requires.work (same-on c.args.self.now.classes c.loop-passing.self.classes c.find-stands.new.self i.same s) i.gone i.ends i.firsts c.requires.get
    (looked-same c.args.operands.now c.args.base c.requires.within c.loop-passing.self.classes c.find-stands.new.self n s c.args.get c.loop-passing.end c.loop-passing.first i.looked)

pub returns-then-stands-y-clause-look : goal.returns-then-stands-y-clause-look
returns-then-stands-y-clause-look c =
    let i = c.loop-passing.invariant in
    let z : c.loop-passing.end ≡ 0 = elim c.loop-passing-test.branch [ then-loop-passing-test+else-end-gt0 w ↦ omega arith | else-loop-passing-test w ↦ absurd (let x : true ≡ false = sym c.if-not-passing.false ∙ w.loop-passing-test.false in cc) ] in
    let n : count_of c.loop-passing.self.classes ≡ c.args.base + c.args.operands.now.gets = i.same.count ∙ c.requires.work.count in
    let s = c.find-stands.ensures.same in
    let h = work-on c.args.operands.now c.args.base c.requires.within c.args.self.now.classes c.find-stands.new.self c.args.self.now.gone.items c.args.self.now.gone.items c.args.self.now.ends.items c.args.self.now.ends.items c.args.self.now.firsts.items c.args.self.now.firsts.items c.requires.work (same-on c.args.self.now.classes c.loop-passing.self.classes c.find-stands.new.self i.same s) (refl, refl, refl) in
    inr ((look-tells c.args.operands.now c.args.base c.requires.within c.loop-passing.self.classes c.find-stands.new.self c.args.self.now.gone.items c.args.self.now.ends.items c.args.self.now.firsts.items c.args.get c.loop-passing.end c.in-Some.other c.find-stands.result c.loop-passing.first n s h i.looked z c.in-Some.is c.find-stands.ensures.found).own c.if-stands-y.true)

pub returns-else-stands-y-clause-look : goal.returns-else-stands-y-clause-look
returns-else-stands-y-clause-look c =
    let i = c.loop-passing.invariant in
    let z : c.loop-passing.end ≡ 0 = elim c.loop-passing-test.branch [ then-loop-passing-test+else-end-gt0 w ↦ omega arith | else-loop-passing-test w ↦ absurd (let x : true ≡ false = sym c.if-not-passing.false ∙ w.loop-passing-test.false in cc) ] in
    let n : count_of c.loop-passing.self.classes ≡ c.args.base + c.args.operands.now.gets = i.same.count ∙ c.requires.work.count in
    let s = c.find-stands.ensures.same in
    let h = work-on c.args.operands.now c.args.base c.requires.within c.args.self.now.classes c.find-stands.new.self c.args.self.now.gone.items c.args.self.now.gone.items c.args.self.now.ends.items c.args.self.now.ends.items c.args.self.now.firsts.items c.args.self.now.firsts.items c.requires.work (same-on c.args.self.now.classes c.loop-passing.self.classes c.find-stands.new.self i.same s) (refl, refl, refl) in
    let t = look-tells c.args.operands.now c.args.base c.requires.within c.loop-passing.self.classes c.find-stands.new.self c.args.self.now.gone.items c.args.self.now.ends.items c.args.self.now.firsts.items c.args.get c.loop-passing.end c.in-Some.other c.find-stands.result c.loop-passing.first n s h i.looked z c.in-Some.is c.find-stands.ensures.found in
    (t.bound, c.if-stands-y.false, t.stands, t.trivial)
