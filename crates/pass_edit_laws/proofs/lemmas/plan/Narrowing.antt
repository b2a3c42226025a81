-- A plan is preserved for fewer points, of which more is known.
use Rattle.std.proofs.Common.{ℕ, sym, subst}
use Rattle.bril_tree.specs.declared.program.Prog.{Prog}
use Rattle.bril_tree.specs.declared.value.Value.{Value}
use Rattle.bril_tree.specs.Edge.{branches_at}
use Rattle.bril_tree.specs.Operand.{Location}
use Rattle.bril_tree.specs.Step.{code_of, item_at}
use Rattle.bril_tree.specs.Membership.{In}
use Rattle.pass_edit_laws.specs.plan.Plan.{Plan, EdgesMatch, Preserves}
use Rattle.pass_edit_laws.specs.plan.Narrowing.{narrow, Narrows, NarrowingPreserves}
use Rattle.pass_edit_laws.proofs.lemmas.plan.Widening.{zip-wider}

module _ (m : Plan) (IsVisited : (f i : ℕ) → Type 0) (StaysRegular : (f i j : ℕ) → Type 0) (IsKnown : (f i : ℕ) → Location → Value → Type 0) where
  abbrev N : Plan
  N = narrow m IsVisited StaysRegular IsKnown

  pub narrowed : (P Q : Prog) → Preserves m P Q → Narrows m IsVisited StaysRegular IsKnown P Q → Preserves (narrow m IsVisited StaysRegular IsKnown) P Q
  narrowed P Q c n = record {
    main = c.main;
    types = c.types;
    start = λ f. (c.start f, n.start f);
    start_known = n.start_known;
    fresh = c.fresh;
    steps = λ f i j reached points regular.
        let st = c.steps f i j reached points.0 regular.0 in
        record {
          same = st.same;
          branches = zip-wider (EdgesMatch m P Q f i j (item_at P f i) (item_at Q f j)) (EdgesMatch N P Q f i j (item_at P f i) (item_at Q f j)) (branches_at (code_of P f) i) (branches_at (code_of Q f) j) st.branches
              (λ w v among bmong e. record {
                aborts = e.aborts;
                points = (e.points, n.visits f i j reached points regular w among);
                kept = e.kept;
                back = λ ab walk is ends s t sites es bs rg. e.back ab walk is ends s t sites es bs.0 rg.0;
                learns = n.learns f i j reached points regular w among;
                remembers = λ ab walk is ends s sites es. n.remembers f w walk is (subst (λ k. In w (branches_at (code_of P f) k)) (sym ends) among) ab s sites es;
              });
        };
  }

pub narrowing_preserves : (plan : Prog → Prog → Plan) (visited : Prog → Prog → (f i : ℕ) → Type 0) (regular : Prog → Prog → (f i j : ℕ) → Type 0) (known : Prog → Prog → (f i : ℕ) → Location → Value → Type 0) → NarrowingPreserves plan visited regular known
narrowing_preserves plan visited regular known P Q preserves narrows = narrowed (plan P Q) (visited P Q) (regular P Q) (known P Q) P Q preserves narrows
