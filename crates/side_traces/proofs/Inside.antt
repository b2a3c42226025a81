-- What the pairs of a function name is there.
use Rattle.std.proofs.Common.{◌≡◌, ℕ, ◌<◌, List, [], ◌∷◌, length, Some, None, sym, ap, subst, ◌∙◌}
use Rattle.std.specs.Prelude.{slice_get}
use Rattle.std.specs.List.{All}
use Rattle.std.proofs.lemmas.Option.{same_Some, slice_get_within}
use Rattle.bril_tree.specs.declared.numbered.Instr.TheVariants.{Label, Act}
use Rattle.bril_tree.specs.declared.numbered_function.Func.{Func}
use Rattle.bril_tree.specs.declared.operation.Op.TheVariants as op
use Rattle.bril_tree.specs.declared.program.Prog.{Prog}
use Rattle.bril_tree.specs.Accepted.{IsAccepted}
use Rattle.bril_tree.specs.Step.{code_of, items_of, point_of}
use Rattle.bril_tree.proofs.Formed.{target_below}
use Rattle.bril_tree.proofs.LabelPoints.{label-point}
use Rattle.pass_edit_laws.proofs.lemmas.plan.Elements.{all_in, in_all}
use Rattle.side_laws.specs.Paired.{ArePairs, Pair}
use Rattle.side_laws.specs.Passage.{IsPaired}
use Rattle.side_laws.specs.Sided.{AreExits, SideExit}
use Rattle.side_laws.proofs.lemmas.pairs.Placed.{bail_within, paired}
use Rattle.side_laws.proofs.lemmas.pairs.Runs.{exit-pair}
use Rattle.side_traces.specs.Made.{HasGuardBelow, HasPairsInside, IsExitInside, IsInside}

module _ (P : Prog) (accepted : IsAccepted P) (k : ℕ) (F : Func) (there : slice_get P.funcs k ≡ Some F) where
  code : code_of P k ≡ F.code
  code = ap items_of there

  one-inside : (p : Pair) → IsPaired (code_of P k) p → IsInside F p
  one-inside p h = record {
    guard = slice_get_within F.code p.guard _ (sym (ap (λ c. slice_get c p.guard) code) ∙ h.fine.guards.1);
    bail = bail;
    point = slice_get_within F.code (point_of p.bail F.code) (Label p.bail) (label-point p.bail (length F.labels) F.code F.formed.placed bail);
    other = let t = h.fine.turning in target_below F t.stands (Act None None op.Br (t.c ∷ []) [] (t.on ∷ t.off ∷ [])) (sym (ap (λ c. slice_get c t.stands) code) ∙ t.turns) p.other t.other;
  }
    where
      bail : p.bail < length F.labels
      bail =
          let b = bail_within P accepted k h.run h.is in
          let same : b.0 ≡ F = same_Some b.0 F (sym b.1 ∙ there) in
          subst (λ n. n < length F.labels) (sym h.fine.bail) (subst (λ (G : Func). h.run.bail < length G.labels) same b.2)

  pub pairs-inside : HasPairsInside F
  pairs-inside pairs are = in_all (IsInside F) pairs (λ p among. one-inside p (paired P accepted k pairs (subst (λ c. ArePairs c pairs) (sym code) are) p among))

-- so is what their exits name
pub exits-inside : (F : Func) (taken : List (List ℕ)) (pairs : List Pair) (exits : List SideExit) → AreExits taken 1 pairs exits → All (IsInside F) pairs → All (IsExitInside F) exits
exits-inside F taken pairs exits are inside = in_all (IsExitInside F) exits (λ w among. all_in (IsInside F) pairs inside w.pair (exit-pair taken 1 pairs exits are w among))

pub guards-below : (F : Func) (n : ℕ) (exits : List SideExit) → n ≡ length F.code → All (IsExitInside F) exits → All (HasGuardBelow n) exits
guards-below F n exits e inside = in_all (HasGuardBelow n) exits (λ w among. subst (λ m. w.pair.guard < m) (sym e) (all_in (IsExitInside F) exits inside w among).guard)
