-- The points of a program with traces, by blocks: an item of the program, the labels that are put before it, and the trace behind it.
use Rattle.std.proofs.Common.{◌≡◌, ℕ, suc, ◌+◌, ◌<◌, ◌≤◌, length, Option, Some, None, refl, arith}
use Rattle.bril_tree.specs.declared.program.Prog.{Prog}
use Rattle.bril_tree.specs.declared.types.Ty.{Ty}
use Rattle.bril_tree.specs.Step.{code_of}
use Rattle.bril_tree.proofs.Elements.{get_inside}
use Rattle.pass_edit_laws.proofs.lemmas.walks.Blocks.{IsInBlock, one-block}
use Rattle.trace_laws.specs.lines.Traced.{Trace}
use Rattle.trace_laws.specs.refinement.Stitched.{Stitched}

module _ (P Q : Prog) (bool : Ty) (st : Stitched P Q bool) (f : ℕ) where
  pub next-item : (i : ℕ) → i < length (code_of P f) → suc (st.old f i) + st.stops f (suc i) ≤ st.old f (suc i)
  next-item i less = by (st.traces f i) refl
    where
      by : (o : Option Trace) → st.traces f i ≡ o → suc (st.old f i) + st.stops f (suc i) ≤ st.old f (suc i)
      by None e = let a = get_inside (code_of P f) i less in let h = st.next f i a.0 a.1 e in omega arith
      by (Some t) e = let h = (st.traced f i t e).behind in omega arith

  -- a point of the result is in the block of an item
  abbrev pub Block : ℕ → ℕ → Type 0
  Block i point = IsInBlock (st.old f) (st.stops f) (length (code_of P f)) next-item i point

  pub same-block : (point i j : ℕ) → Block i point → Block j point → i ≡ j
  same-block point i j a b = one-block (st.old f) (st.stops f) (length (code_of P f)) next-item point i j a b
