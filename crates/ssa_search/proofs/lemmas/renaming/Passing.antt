-- An array that tells what is known goes on to tell it, past items of each kind.
use Rattle.std.proofs.Common.{◌≡◌, ℕ, ◌+◌, ◌*◌, Bool, true, false, List, length, Option, Some, None, refl, sym, ap, ◌∙◌, cond, arith}
use Rattle.std.specs.Prelude.{slice_index, ◌==◌}
use Rattle.std.proofs.Math.ListN.{set}
use Rattle.std.proofs.lemmas.Bool.{eqb-true, eqb-false}
use Rattle.std.proofs.lemmas.List.{get_or-set_same, get_or-set_other}
use Rattle.std.proofs.lemmas.Option.{same_Some}
use Rattle.bril_tree.specs.declared.numbered.Instr.TheVariants.{Act}
use Rattle.bril_tree.specs.declared.operation.Op.{Op}
use Rattle.bril_tree.specs.declared.operation.Op.TheVariants as op
use Rattle.bril_tree.specs.declared.types.Ty.{Ty}
use Rattle.bril_tree.specs.Operand.{Location, Variable, Shadow}
use Rattle.flow_graph.specs.Location.{number_of}
use Rattle.ssa_laws.specs.inserted_copies.Inserted.{is_copy, source}
use Rattle.ssa_laws.specs.reaching_definitions.Tables.{is_dest}
use Rattle.ssa_laws.specs.reaching_definitions.Told.{passed_by}
use Rattle.ssa_search.specs.renaming.Tells.{TellsNow, IsDestWithin, IsSetWithin, ActsWithin, with_dest, with_got}

-- an operation that is no `get` and no `set` copies nothing
pub plain-op : (o : Op) (d : Option ℕ) (ty : Option Ty) (args fns ls : List ℕ) → (o ≡ op.Set → ⊥) → (o ≡ op.Get → ⊥) → is_copy (Some (Act d ty o args fns ls)) ≡ false
plain-op op.Set d ty args fns ls s g = absurd (s refl)
plain-op op.Get d ty args fns ls s g = absurd (g refl)
plain-op _ d ty args fns ls s g = refl

pub within-op : (n : ℕ) (o : Op) (d : Option ℕ) (args : List ℕ) → (o ≡ op.Set → ⊥) → ActsWithin n o d args → IsDestWithin n d
within-op n op.Set d args s h = absurd (s refl)
within-op n _ d args s h = h

module _ (known : Location → Option ℕ) (now : List ℕ) (tells : TellsNow known now) where
  -- a destination
  dest-tells : (d : Option ℕ) (w : ℕ) → IsDestWithin (length now) d → (a : Location) (y : ℕ) → cond (is_dest d a) (Some w) (known a) ≡ Some y → slice_index (with_dest d w now) (number_of a) ≡ y
  dest-tells None w within a y e = tells a y e
  dest-tells (Some x) w within (Shadow z) y e = get_or-set_other now (2 * x) (2 * z + 1) w 0 (λ k. omega (arith, k)) ∙ tells (Shadow z) y e
  dest-tells (Some x) w within (Variable z) y e = by (z == x) refl e
    where
      by : (b : Bool) → (z == x) ≡ b → cond b (Some w) (known (Variable z)) ≡ Some y → slice_index (set now (2 * x) w) (2 * z) ≡ y
      by true q k = ap (λ n. slice_index (set now (2 * x) w) (2 * n)) (eqb-true z x q) ∙ get_or-set_same now (2 * x) w 0 (omega (arith, within)) ∙ same_Some w y k
      by false q k = let n = eqb-false z x q in get_or-set_other now (2 * x) (2 * z) w 0 (λ k. n (omega (arith, k))) ∙ tells (Variable z) y k

  pub plain-tells : (o : Op) (d : Option ℕ) (ty : Option Ty) (args fns ls : List ℕ) (w : ℕ) → is_copy (Some (Act d ty o args fns ls)) ≡ false → IsDestWithin (length now) d → TellsNow (passed_by (Some (Act d ty o args fns ls)) w known) (with_dest d w now)
  plain-tells o d ty args fns ls w plain within a y e = dest-tells d w within a y (sym (ap (λ b. cond b (known (source (Some (Act d ty o args fns ls)) a)) (cond (is_dest d a) (Some w) (known a))) plain) ∙ e)

  -- a `get`
  pub got-tells : (d : Option ℕ) (ty : Option Ty) (args fns ls : List ℕ) (w : ℕ) → IsDestWithin (length now) d → TellsNow (passed_by (Some (Act d ty op.Get args fns ls)) w known) (with_got d now)
  got-tells None ty args fns ls w within a y e = tells a y e
  got-tells (Some x) ty args fns ls w within (Shadow z) y e = get_or-set_other now (2 * x) (2 * z + 1) (slice_index now (2 * x + 1)) 0 (λ k. omega (arith, k)) ∙ tells (Shadow z) y e
  got-tells (Some x) ty args fns ls w within (Variable z) y e = by (z == x) refl e
    where
      by : (b : Bool) → (z == x) ≡ b → known (cond b (Shadow x) (Variable z)) ≡ Some y → slice_index (set now (2 * x) (slice_index now (2 * x + 1))) (2 * z) ≡ y
      by true q k = ap (λ n. slice_index (set now (2 * x) (slice_index now (2 * x + 1))) (2 * n)) (eqb-true z x q) ∙ get_or-set_same now (2 * x) (slice_index now (2 * x + 1)) 0 (omega (arith, within)) ∙ tells (Shadow x) y k
      by false q k = let n = eqb-false z x q in get_or-set_other now (2 * x) (2 * z) (slice_index now (2 * x + 1)) 0 (λ k. n (omega (arith, k))) ∙ tells (Variable z) y k

  -- a `set`
  pub set-tells : (d : Option ℕ) (ty : Option Ty) (args fns ls : List ℕ) (w : ℕ) → IsSetWithin (length now) args → TellsNow (passed_by (Some (Act d ty op.Set args fns ls)) w known) (set now (2 * slice_index args 0 + 1) (slice_index now (2 * slice_index args 1)))
  set-tells d ty args fns ls w within (Variable z) y e = get_or-set_other now (2 * slice_index args 0 + 1) (2 * z) (slice_index now (2 * slice_index args 1)) 0 (λ k. omega (arith, k)) ∙ tells (Variable z) y e
  set-tells d ty args fns ls w within (Shadow z) y e = by (z == slice_index args 0) refl e
    where
      v : ℕ
      v = slice_index now (2 * slice_index args 1)

      by : (b : Bool) → (z == slice_index args 0) ≡ b → known (cond b (Variable (slice_index args 1)) (Shadow z)) ≡ Some y → slice_index (set now (2 * slice_index args 0 + 1) v) (2 * z + 1) ≡ y
      by true q k = ap (λ n. slice_index (set now (2 * slice_index args 0 + 1) v) (2 * n + 1)) (eqb-true z (slice_index args 0) q) ∙ get_or-set_same now (2 * slice_index args 0 + 1) v 0 within.0 ∙ tells (Variable (slice_index args 1)) y k
      by false q k = let n = eqb-false z (slice_index args 0) q in get_or-set_other now (2 * slice_index args 0 + 1) (2 * z + 1) v 0 (λ k. n (omega (arith, k))) ∙ tells (Shadow z) y k
