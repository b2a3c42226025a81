-- The entries that fit have names.
use Rattle.std.proofs.Common.{◌≡◌, ℕ, suc, true, false, List, [], ◌∷◌, Option, Some, None, refl, sym, ap, ◌∙◌}
use Rattle.std.specs.Prelude.{slice_get}
use Rattle.bril_tree.specs.declared.function_tree.Item.TheVariants as item
use Rattle.bril_tree.specs.declared.numbered.Instr.{Instr}
use Rattle.bril_tree.specs.declared.numbered.Instr.TheVariants.{Label, Const, Act}
use Rattle.bril_tree.specs.declared.program.Prog.{Prog}
use Rattle.bril_tree.specs.Numbered.{named, names_in, tree_at}
use Rattle.bril_tree.specs.Step.{item_at}
use Rattle.pass_edit_laws.proofs.lemmas.names.Points.{found}
use Rattle.trace_laws.specs.lines.Lines.{TraceNames}
use Rattle.trace_laws.specs.lines.Names.{AreNames, Bases, is_label_item}
use Rattle.pass_edit_laws.specs.labels.Fresh.{IsFresh, labels_in}
use Rattle.trace_laws.specs.lines.Traced.{AreLaid, Laying}
use Rattle.pass_edit_laws.proofs.lemmas.labels.Fresh.{fresh-there}
use Rattle.trace_paths.specs.Fits.{Fit, fit_path}

module _ (bases : Bases) (P : Prog) where
  -- where a trace goes on
  record Stop (f at K : ℕ) : Type 0 where
    name : List ℕ
    at_label : is_label_item (item_at P f at) ≡ true → tree_at P f at ≡ Some (item.Label name)
    fresh : is_label_item (item_at P f at) ≡ false → IsFresh (labels_in P f) (bases.stop K) name

  stop-there : (f at K : ℕ) → Stop f at K
  stop-there f at K = by (item_at P f at) refl
    where
      other : is_label_item (item_at P f at) ≡ false → Stop f at K
      other e = let n = fresh-there (labels_in P f) (bases.stop K) in record { name = n.0; at_label = λ h. absurd (let g : true ≡ false = sym h ∙ e in cc); fresh = λ h. n.1 }

      by : (o : Option Instr) → item_at P f at ≡ o → Stop f at K
      by None here = other (ap is_label_item here)
      by (Some (Label l)) here = let h = found P f at (Label l) here in record { name = named h.function.labels l; at_label = λ e. h.tree; fresh = λ e. absurd (let g : true ≡ false = sym (ap is_label_item here) ∙ e in cc) }
      by (Some (Const d ty v)) here = other (ap is_label_item here)
      by (Some (Act d ty o args fns ls)) here = other (ap is_label_item here)

  names-there : (K : ℕ) (x : Fit) → (names : TraceNames) × AreNames bases P K x names
  names-there K x =
      let bail = fresh-there (labels_in P x.function) (bases.bail K) in
      let stop = stop-there x.function (fit_path P x).stop K in (
        record { bail = bail.0; stop = stop.name; nots = λ n. (fresh-there (names_in (slice_get P.funcs x.function)) (bases.not K (suc n))).0 },
        record { bail = bail.1; nots = λ n. (fresh-there (names_in (slice_get P.funcs x.function)) (bases.not K (suc n))).1; at_label = stop.at_label; stop = stop.fresh },
      )

  pub laid-there : (K : ℕ) (fits : List Fit) → (laid : List Laying) × AreLaid bases P K fits laid
  laid-there K [] = ([], refl)
  laid-there K (x ∷ fits) =
      let names = names-there K x in
      let rest = laid-there (suc K) fits in
      (record { fit = x; names = names.0 } ∷ rest.0, (refl, names.1, rest.1))
