use Rattle.std.proofs.Common.{◌+◌, false, Ok, refl, sym, ap, subst, ◌∙◌, arith}
use Rattle.std.specs.Prelude.{slice_index, slice_index_or}
use Rattle.ssa_build.specs.declared.trivial_phis.trivial.Work.{Work}
use Rattle.ssa_build.proofs.lemmas.trivial_phis.Roots.{same-self}
use Rattle.ssa_build.proofs.lemmas.trivial_phis.Loop.{RoundKeeps, keeps-joined, keeps-same}
use Rattle.ssa_build.proofs.trivial_phis.trivial.Work.round.Goals as goal
use Rattle.ssa_build.proofs.trivial_phis.trivial.Work.round.Goals.{then-get-gets+in_ok-look_at+then-branch, else-get-gets, else-get-gets-via-then-get-gets+in_ok-look_at+else-branch, else-get-gets-via-else-get-gets}

pub loop-get-preserved : goal.loop-get-preserved
loop-get-preserved c =
    elim c.if-get-gets.branch [
      | then-get-gets+in_ok-look_at+then-branch w ↦
          let n = w.look_at.new.self in
          let r = w.in_ok-look_at.ensures in
          subst (λ (s : Work). RoundKeeps c.args.operands.now c.args.base c.args.todo.now c.args.self.now.gone.items (c.loop-get.get-index + 1) c.if-get-gets.joined s.classes s.gone.items s.ends.items s.firsts.items) (sym w.self-is)
          (subst (λ b. RoundKeeps c.args.operands.now c.args.base c.args.todo.now c.args.self.now.gone.items (c.loop-get.get-index + 1) b w.look_at.new.self.classes w.look_at.new.self.gone.items w.look_at.new.self.ends.items w.look_at.new.self.firsts.items) (sym w.joined-is)
          (keeps-joined c.args.operands.now c.args.base c.args.todo.now c.args.self.now.gone.items c.loop-get.get-index c.loop-get.joined c.loop-get.self.classes c.loop-get.self.gone.items c.loop-get.self.ends.items c.loop-get.self.firsts.items c.loop-get.invariant
          w.look_at.new.self.classes w.look_at.new.self.gone.items w.look_at.new.self.ends.items w.look_at.new.self.firsts.items r.work (r.joined (ap Ok w.if-branch.true))))
      | else-get-gets w ↦
          subst (λ (s : Work). RoundKeeps c.args.operands.now c.args.base c.args.todo.now c.args.self.now.gone.items (c.loop-get.get-index + 1) c.if-get-gets.joined s.classes s.gone.items s.ends.items s.firsts.items) (sym w.self-is)
          (subst (λ b. RoundKeeps c.args.operands.now c.args.base c.args.todo.now c.args.self.now.gone.items (c.loop-get.get-index + 1) b w.else-get-gets.self.classes w.else-get-gets.self.gone.items w.else-get-gets.self.ends.items w.else-get-gets.self.firsts.items) (sym w.joined-is)
          (elim w.else-get-gets.branch [
            | else-get-gets-via-then-get-gets+in_ok-look_at+else-branch w' ↦
                let r = w'.in_ok-look_at.ensures in
                let q = r.same (ap Ok w'.if-branch.false) in
                subst (λ (s : Work). RoundKeeps c.args.operands.now c.args.base c.args.todo.now c.args.self.now.gone.items (c.loop-get.get-index + 1) c.loop-get.joined s.classes s.gone.items s.ends.items s.firsts.items) (sym w'.self-is)
                (keeps-same c.args.operands.now c.args.base c.args.todo.now c.args.self.now.gone.items c.loop-get.get-index c.loop-get.joined c.loop-get.self.classes c.loop-get.self.gone.items c.loop-get.self.ends.items c.loop-get.self.firsts.items c.loop-get.invariant c.requires.within
                w'.look_at.new.self.classes w'.look_at.new.self.gone.items w'.look_at.new.self.ends.items w'.look_at.new.self.firsts.items r.work q.0 q.1
                (λ l m. r.stays (ap Ok w'.if-branch.false) (ap (λ x. slice_index_or x (slice_index c.args.todo.now c.loop-get.get-index) false) (sym q.1) ∙ m)))
            | else-get-gets-via-else-get-gets w' ↦
                subst (λ (s : Work). RoundKeeps c.args.operands.now c.args.base c.args.todo.now c.args.self.now.gone.items (c.loop-get.get-index + 1) c.loop-get.joined s.classes s.gone.items s.ends.items s.firsts.items) (sym w'.self-is)
                (keeps-same c.args.operands.now c.args.base c.args.todo.now c.args.self.now.gone.items c.loop-get.get-index c.loop-get.joined c.loop-get.self.classes c.loop-get.self.gone.items c.loop-get.self.ends.items c.loop-get.self.firsts.items c.loop-get.invariant c.requires.within
                c.loop-get.self.classes c.loop-get.self.gone.items c.loop-get.self.ends.items c.loop-get.self.firsts.items c.loop-get.invariant.work (same-self c.loop-get.self.classes) refl
                (λ l m. absurd (let a = w'.if-get-gets.false in let g = c.gets.ensures in omega (arith, l, a, g))))
          ]))
    ]
