-- The table of the labels' points.
use Rattle.std.proofs.Common.{◌≡◌, ℕ, suc, List, [], ◌∷◌, length, cond, refl, sym, ap, ◌∙◌, inl, inr, ⊎_elim, subst, arith}
use Rattle.std.specs.Prelude.{unwrap_or}
use Rattle.std.specs.List.{flat_map, range_with_len}
use Rattle.std.proofs.lemmas.Bool.{cases_lt, ne_eqb}
use Rattle.std.proofs.lemmas.Option.{slice_get_past}
use Rattle.bril_tree.specs.declared.numbered.Instr.{Instr}
use Rattle.bril_tree.specs.declared.numbered.Instr.TheVariants.{Label, Const, Act}
use Rattle.bril_tree.specs.FunctionForm.{label_at}
use Rattle.bril_tree.specs.Labels.{IsLabelTable}
use Rattle.bril_tree.specs.Membership.{In}
use Rattle.bril_tree.specs.Step.{point_of}
use Rattle.bril_tree.proofs.LabelPoints.{range_high}
use Rattle.side_pairs.specs.Tables.{IsPointTable}

-- a label that stands nowhere has the end as its point
point-absent : (l : ℕ) (items : List Instr) → (In l (flat_map label_at items) → ⊥) → point_of l items ≡ length items
point-absent l [] n = refl
point-absent l (Label m ∷ items) n = ap (λ b. cond b 0 (suc (point_of l items))) (ne_eqb m l (λ e. n (inl (sym e)))) ∙ ap suc (point-absent l items (λ i. n (inr i)))
point-absent l (Const d ty v ∷ items) n = ap suc (point-absent l items n)
point-absent l (Act d ty o args fns ls ∷ items) n = ap suc (point-absent l items n)

-- the table of all labels
pub point-table : (code : List Instr) (points : List ℕ) (many : ℕ) → flat_map label_at code ≡ range_with_len 0 many → length points ≡ many → IsLabelTable code points → IsPointTable code points
point-table code points many placed all table = record {
  at = λ l. ⊎_elim (λ less. ap (λ o. unwrap_or o (length code)) (table.at l less))
      (λ past. ap (λ o. unwrap_or o (length code)) (slice_get_past points l past) ∙ sym (point-absent l code (λ i. let h = range_high 0 many l (subst (In l) placed i) in omega (arith, h, past, all))))
      (cases_lt l (length points));
}
