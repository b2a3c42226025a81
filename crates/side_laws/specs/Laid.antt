-- What acceptance and the simulation need of a program with side exits: where the old items stand, and what stands before them.
use Rattle.pass_edit_laws.specs.labels.Fresh.{labels_in}
use Rattle.std.specs.Prelude.{◌≡◌, ◌⊎◌, ℕ, suc, ◌+◌, ◌<◌, ◌≤◌, false, List, [], ◌∷◌, length, Some, None}
use Rattle.std.specs.Option.{option_map}
use Rattle.bril_tree.specs.declared.function_tree.Item.{Item}
use Rattle.bril_tree.specs.declared.numbered.Instr.{Instr}
use Rattle.bril_tree.specs.declared.program.Prog.{Prog}
use Rattle.bril_tree.specs.Membership.{In}
use Rattle.bril_tree.specs.Numbered.{tree_at}
use Rattle.bril_tree.specs.Step.{code_of, item_at, point_of}
use Rattle.bril_tree.specs.Edge.{leads_away}
use Rattle.pass_edit_laws.specs.names.NamedPlan.{SameHeads}
use Rattle.side_laws.specs.Paired.{Run, IsRun, Pair, PairsOf}
use Rattle.side_laws.specs.Passage.{IsPaired}
use Rattle.side_laws.specs.Sided.{SideExit, exit_at, retargeted, retargeted_by, exit_lines}

-- a run with its pairs, each of which has its exit; no other guard in the run has one
pub record HasRun (code : List Instr) (exits : List SideExit) (i : ℕ) : Type 0 where
  pub run : Run
  pub is : IsRun code run
  pub begins : run.start ≡ i
  pub here : List Pair
  pub of : PairsOf code run here
  pub exits_of : (p : Pair) → In p here → (w : SideExit) × (exit_at exits p.guard ≡ Some w) × (w.pair ≡ p)
  pub only : (w : SideExit) → In w exits → suc run.start ≤ w.pair.guard → w.pair.guard < suc (run.start + run.size) → In w.pair here

module _ (P Q : Prog) where
  -- these items stand in Q from a point on
  abbrev pub Stands : ℕ → ℕ → List Item → Type 0
  Stands f j [] = Unit {0}
  Stands f j (a ∷ items) = (tree_at Q f j ≡ Some a) × Stands f (suc j) items

  -- the lines of an exit stand before the label that its run's guards name
  pub record StandsBefore (old front : ℕ → ℕ → ℕ) (f : ℕ) (w : SideExit) : Type 0 where
    pub point : ℕ
    pub lines : Stands f point (exit_lines (tree_at P f) (labels_in P f) w)
    pub low : old f (point_of w.pair.bail (code_of P f)) ≤ point + front f (point_of w.pair.bail (code_of P f))
    pub high : point + length (exit_lines (tree_at P f) (labels_in P f) w) ≤ old f (point_of w.pair.bail (code_of P f))

  -- what an item of Q is: one of P's, a paired guard of P's with its new label, or a line of an exit
  pub data Sort (exits : ℕ → List SideExit) (f : ℕ) (a : Item) : Type 0 where
    Old : (i : ℕ) → exit_at (exits f) i ≡ None → tree_at P f i ≡ Some a → Sort exits f a
    Retargeted : (i : ℕ) (w : SideExit) (b : Item) → exit_at (exits f) i ≡ Some w → tree_at P f i ≡ Some b → a ≡ retargeted w.name b → Sort exits f a
    Line : (w : SideExit) → In w (exits f) → In a (exit_lines (tree_at P f) (labels_in P f) w) → Sort exits f a

  -- Item i of P stands at `old f i`, with `front f i` lines before it. Where control goes on to the next item, none stand before that.
  pub record Laid : Type 0 where
    pub heads : SameHeads P Q
    pub exits : ℕ → List SideExit
    pub old : ℕ → ℕ → ℕ
    pub front : ℕ → ℕ → ℕ
    pub start : (f : ℕ) → old f 0 ≡ 0
    pub next : (f i : ℕ) → suc (old f i) + front f (suc i) ≡ old f (suc i)
    pub placed : (f i : ℕ) → i ≤ length (code_of P f) → tree_at Q f (old f i) ≡ option_map (retargeted_by (exit_at (exits f) i)) (tree_at P f i)
    pub alone : (f i : ℕ) (a : Instr) → item_at P f i ≡ Some a → leads_away (Some a) ≡ false → front f (suc i) ≡ 0
    pub stands : (f : ℕ) (w : SideExit) → In w (exits f) → StandsBefore old front f w
    pub paired : (f : ℕ) (w : SideExit) → In w (exits f) → IsPaired (code_of P f) w.pair
    pub runs : (f i : ℕ) → HasRun (code_of P f) (exits f) i ⊎ ((r : Run) → IsRun (code_of P f) r → r.start ≡ i → ⊥)
    pub owners : (f i : ℕ) (w : SideExit) → exit_at (exits f) i ≡ Some w → In w (exits f) × (w.pair.guard ≡ i)
    pub sorts : (f j : ℕ) (a : Item) → tree_at Q f j ≡ Some a → Sort exits f a
