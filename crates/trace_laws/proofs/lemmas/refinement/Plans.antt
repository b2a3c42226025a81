-- The plan of a program with laid traces, outside of them.
use Rattle.std.proofs.Common.{◌≡◌, ℕ, suc, None, sym, subst, ◌∙◌, arith}
use Rattle.std.specs.Prelude.{slice_get}
use Rattle.bril_tree.specs.declared.program.Prog.{Prog}
use Rattle.bril_tree.specs.declared.types.Ty.{Ty}
use Rattle.bril_tree.specs.Accepted.{IsAccepted}
use Rattle.bril_tree.specs.Numbered.{names_in, tree_at}
use Rattle.bril_tree.specs.Operand.{Location}
use Rattle.pass_edit_laws.specs.plan.Plan.{Plan, Preserves}
use Rattle.pass_edit_laws.specs.names.Named.{SameLocation}
use Rattle.pass_edit_laws.specs.names.NamedPlan.{NamePlan, plan, KeepsNames}
use Rattle.pass_edit_laws.proofs.lemmas.names.Preserving.{names_preserve, knows_nothing}
use Rattle.trace_laws.specs.refinement.Stitched.{Near, Stitched}
use Rattle.pass_edit_laws.proofs.lemmas.names.Points.{label_once}

module _ (P Q : Prog) (bool : Ty) (accepted : IsAccepted P) (st : Stitched P Q bool) where
  -- the item itself, or one of the labels that were put before it
  abbrev pub PointsMatch : (f i j : ℕ) → Type 0
  PointsMatch f i j = Near P Q bool st.old st.stops f i j

  abbrev pub Matters : (f i : ℕ) → Location → Type 0
  Matters f i a = Unit {0}

  -- both at an old item, but not at the label of a trace
  abbrev pub IsRegular : (f i j : ℕ) → Type 0
  IsRegular f i j = (j ≡ st.old f i) × (st.traces f i ≡ None)

  abbrev pub tracing : NamePlan
  tracing = record { PointsMatch = PointsMatch; Matters = Matters; IsRegular = IsRegular; IsKnown = λ f i a v. ⊥ }

  abbrev pub M : Plan
  M = plan P Q tracing

  -- places of one name
  abbrev pub A : ℕ → Location → Location → Type 0
  A k a b = SameLocation (names_in (slice_get P.funcs k)) (names_in (slice_get Q.funcs k)) a b × Unit {0}

  pub at_old : (f i : ℕ) → PointsMatch f i (st.old f i)
  at_old f i = (0, omega arith, omega arith)

  keeps : KeepsNames P Q tracing
  keeps = record {
    heads = st.heads;
    start = st.start;
    same = λ f i j reached points regular. subst (λ n. tree_at P f i ≡ tree_at Q f n) (sym regular.0) (st.kept f i reached);
    next = λ f i j a reached points regular at stays. (st.stops f (suc i), omega arith, (let h = st.next f i a at regular.1 in let g = regular.0 in omega arith));
    labels = λ f i j name reached at bt. subst (λ n. PointsMatch f i n) (label_once Q f (st.old f i) j name (sym (st.kept f i reached) ∙ at) bt) (at_old f i);
    reads = λ f i j a x reached points regular at h. tt;
    flows = λ f i w x reached h e m n. tt;
    back = λ f w x walk is h e s sites same m. tt;
    known = knows_nothing P Q tracing (λ f i a v h. h);
  }

  pub preserves : Preserves M P Q
  preserves = names_preserve P Q tracing accepted keeps
