-- Behind a paired guard's label no branch and no guard is met until the other label.
use Rattle.std.proofs.Common.{◌≡◌, ℕ, zero, suc, ◌+◌, ◌<◌, true, List, [], ◌∷◌, ◌++◌, length, Option, Some, refl, sym, ap, subst, ◌∙◌, inl, inr, arith}
use Rattle.std.specs.Prelude.{slice_get}
use Rattle.std.proofs.lemmas.Option.{same_Some}
use Rattle.bril_tree.specs.declared.function_tree.Item.{Item}
use Rattle.bril_tree.specs.declared.numbered.Instr.{Instr}
use Rattle.bril_tree.specs.declared.numbered.Instr.TheVariants.{Label, Const, Act}
use Rattle.bril_tree.specs.declared.operation.Op.{Op}
use Rattle.bril_tree.specs.declared.program.Prog.{Prog}
use Rattle.bril_tree.specs.declared.types.Ty.{Ty}
use Rattle.bril_tree.specs.declared.operation.Op.TheVariants as op
use Rattle.bril_tree.specs.Membership.{In}
use Rattle.bril_tree.specs.Numbered.{item_tree, named, names_in, names_of_functions, tree_at}
use Rattle.bril_tree.specs.Step.{code_of}
use Rattle.pass_edit_laws.proofs.lemmas.names.Points.{found}
use Rattle.pass_edit_laws.proofs.lemmas.steps.Attempts.{is_attempted}
use Rattle.pass_edit_laws.specs.plan.Lines.{jmp_line, listed_item}
use Rattle.pass_edit_laws.specs.labels.Fresh.{labels_in}
use Rattle.side_laws.specs.Laws.{SideExitsAreStraight}
use Rattle.side_laws.specs.Straight.{IsStraight}
use Rattle.side_laws.specs.Sided.{kept_lines, lines_behind}
use Rattle.side_laws.specs.Laid.{Stands}
use Rattle.side_laws.proofs.lemmas.layout.Laying.{laid, laid-exits}

act-straight : (fs vs ls : List (List ℕ)) (o : Op) (d : Option ℕ) (t : Option Ty) (args fns ms : List ℕ) → is_attempted (Act d t o args fns ms) ≡ true → IsStraight (item_tree fs vs ls (Act d t o args fns ms))
act-straight fs vs ls op.Br d t args fns ms e = absurd cc
act-straight fs vs ls op.Guard d t args fns ms e = absurd cc
act-straight fs vs ls op.Jmp d t args fns ms e = absurd cc
act-straight fs vs ls op.Ret d t args fns ms e = absurd cc
act-straight fs vs ls op.Call d t args fns ms e = absurd cc
act-straight fs vs ls _ d t args fns ms e = tt

attempted-straight : (fs vs ls : List (List ℕ)) (a : Instr) → is_attempted a ≡ true → IsStraight (item_tree fs vs ls a)
attempted-straight fs vs ls (Label l) e = absurd cc
attempted-straight fs vs ls (Const d t v) e = tt
attempted-straight fs vs ls (Act d t o args fns ms) e = act-straight fs vs ls o d t args fns ms e

module _ (P Q : Prog) (f : ℕ) where
  record AreStraight (j : ℕ) (kept : List ℕ) (other : ℕ) : Type 0 where
    straight : (n : ℕ) → n < length kept → (a : Item) → tree_at Q f (j + n) ≡ Some a → IsStraight a
    leaves : tree_at Q f (j + length kept) ≡ Some (jmp_line (named (labels_in P f) other))

  straight-lines : (j : ℕ) (kept : List ℕ) (other : ℕ) → ((i : ℕ) → In i kept → (a : Instr) × (slice_get (code_of P f) i ≡ Some a) × (is_attempted a ≡ true)) → Stands P Q f j (lines_behind (tree_at P f) (labels_in P f) kept other) → AreStraight j kept other
  straight-lines j [] other computes s = record { straight = λ n less a at. absurd (omega (arith, less)); leaves = (let e : j + 0 ≡ j = omega arith in ap (tree_at Q f) e ∙ s.0) }
  straight-lines j (i ∷ kept) other computes s =
      let a = computes i (inl refl) in
      let h = found P f i a.0 a.1 in
      let tree = item_tree (names_of_functions P.funcs) (names_in (slice_get P.funcs f)) h.function.labels a.0 in
      let here : Stands P Q f j (item_tree (names_of_functions P.funcs) (names_in (slice_get P.funcs f)) h.function.labels a.0 ∷ lines_behind (tree_at P f) (labels_in P f) kept other) = subst (λ z. Stands P Q f j ((listed_item z ++ kept_lines (tree_at P f) kept) ++ jmp_line (named (labels_in P f) other) ∷ [])) h.tree s in
      let rest = straight-lines (suc j) kept other (λ i' m. computes i' (inr m)) here.1 in
      let e : j + suc (length kept) ≡ suc j + length kept = omega arith in
      record {
        straight = each j (length kept) (item_tree (names_of_functions P.funcs) (names_in (slice_get P.funcs f)) h.function.labels a.0) here.0 (attempted-straight (names_of_functions P.funcs) (names_in (slice_get P.funcs f)) h.function.labels a.0 a.2) rest.straight;
        leaves = ap (tree_at Q f) e ∙ rest.leaves;
      }
    where
      each : (j count : ℕ) (tree : Item) → tree_at Q f j ≡ Some tree → IsStraight tree → ((n : ℕ) → n < count → (b : Item) → tree_at Q f (suc j + n) ≡ Some b → IsStraight b) → (n : ℕ) → n < suc count → (b : Item) → tree_at Q f (j + n) ≡ Some b → IsStraight b
      each j count tree here first rest zero less b at = let e : j ≡ j + 0 = omega arith in subst IsStraight (same_Some tree b (sym here ∙ ap (tree_at Q f) e ∙ at)) first
      each j count tree here first rest (suc n) less b at = let e : suc j + n ≡ j + suc n = omega arith in rest n (omega (arith, less)) b (ap (tree_at Q f) e ∙ at)

pub exits-straight : SideExitsAreStraight
exits-straight P Q accepted made f w among =
    let st = laid P Q accepted made.exits made.are_exits made.made in
    let m = subst (In w) (sym (laid-exits P Q accepted made.exits made.are_exits made.made f)) among in
    let s = st.stands f w m in
    let r = straight-lines P Q f (suc s.point) w.pair.kept w.pair.other (st.paired f w m).fine.computes s.lines.1 in
    record { label = s.point; named_so = s.lines.0; straight = r.straight; leaves = r.leaves }
