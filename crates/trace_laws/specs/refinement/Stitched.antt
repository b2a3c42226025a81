-- What the simulation needs of a program with laid traces: where the old items stand, and what stands between them.
use Rattle.bril_tree.specs.declared.function_tree.Item.TheVariants as item
use Rattle.std.specs.Prelude.{◌≡◌, ℕ, suc, ◌+◌, ◌<◌, ◌≤◌, List, [], ◌∷◌, length, Option, Some, None, slice_get}
use Rattle.bril_tree.specs.declared.function_tree.Item.{Item}
use Rattle.bril_tree.specs.declared.numbered.Instr.{Instr}
use Rattle.bril_tree.specs.declared.program.Prog.{Prog}
use Rattle.bril_tree.specs.declared.types.Ty.{Ty}
use Rattle.bril_tree.specs.Numbered.{named, tree_at, names_in}
use Rattle.bril_tree.specs.Step.{code_of, item_at}
use Rattle.bril_tree.specs.Walk.{IsReached}
use Rattle.pass_edit_laws.specs.names.NamedPlan.{SameHeads}
use Rattle.trace_paths.specs.Path.{Path, path_of}
use Rattle.trace_laws.specs.lines.Lines.{trace_lines}
use Rattle.trace_laws.specs.lines.Traced.{Trace}

module _ (P Q : Prog) (bool : Ty) where
  -- these items stand in Q from a point on
  abbrev pub Stands : ℕ → ℕ → List Item → Type 0
  Stands f j [] = Unit {0}
  Stands f j (a ∷ items) = (tree_at Q f j ≡ Some a) × Stands f (suc j) items

  -- the labels that stand before an item are `stops f i`, and the item itself is at `old f i`
  abbrev pub Near : (old stops : ℕ → ℕ → ℕ) → (f i j : ℕ) → Type 0
  Near old stops f i j = (m : ℕ) × (m ≤ stops f i) × (j + m ≡ old f i)

  -- the path of a trace
  abbrev pub trace_path : ℕ → ℕ → Trace → Path
  trace_path f p t = path_of (code_of P f) p t.choices

  -- a point of Q at the label to which the trace jumps
  pub record StopsAt (old stops : ℕ → ℕ → ℕ) (f i : ℕ) (label : List ℕ) : Type 0 where
    pub point : ℕ
    pub at : tree_at Q f point ≡ Some (item.Label label)
    pub near : Near old stops f i point

  -- The lines of the trace stand behind the label at point p, and behind them what is put before the next item. It jumps to where its
  -- path stopped. No variable of P has the name of one of its `not`s.
  pub record IsTracedAt (old stops : ℕ → ℕ → ℕ) (f p : ℕ) (t : Trace) : Type 0 where
    pub lines : Stands f (suc (old f p)) (trace_lines bool (tree_at P f) t.names (trace_path f p t).legs)
    pub behind : suc (old f p) + length (trace_lines bool (tree_at P f) t.names (trace_path f p t).legs) + stops f (suc p) ≡ old f (suc p)
    pub stop : StopsAt old stops f (trace_path f p t).stop t.names.stop
    pub apart : (n x : ℕ) → x < length (names_in (slice_get P.funcs f)) → named (names_in (slice_get P.funcs f)) x ≡ t.names.nots n → ⊥
    -- it stands behind a label, and no label is put before that one
    pub label : List ℕ
    pub labelled : tree_at P f p ≡ Some (item.Label label)
    pub lone : stops f p ≡ 0

  -- Each reached item of P stands in Q, with at most 64 labels before it. Behind an item without a trace stands what is put before the
  -- next one; what stands behind an item with a trace is its trace.
  pub record Stitched : Type 0 where
    pub heads : SameHeads P Q
    pub old : ℕ → ℕ → ℕ
    pub stops : ℕ → ℕ → ℕ
    pub traces : ℕ → ℕ → Option Trace
    pub start : (f : ℕ) → Near old stops f 0 0
    pub few : (f i : ℕ) → stops f i ≤ 64
    pub kept : (f i : ℕ) → IsReached (code_of P f) i → tree_at P f i ≡ tree_at Q f (old f i)
    pub next : (f i : ℕ) (a : Instr) → item_at P f i ≡ Some a → traces f i ≡ None → suc (old f i) + stops f (suc i) ≡ old f (suc i)
    pub stop_label : (f i j m : ℕ) → suc m ≤ stops f i → j + suc m ≡ old f i → (name : List ℕ) × (tree_at Q f j ≡ Some (item.Label name))
    pub traced : (f p : ℕ) (t : Trace) → traces f p ≡ Some t → IsTracedAt old stops f p t
