-- A pass that keeps names: which points match, and which locations matter at a point.
use Rattle.std.specs.Prelude.{◌≡◌, ℕ, suc, true, false, List, ◌∷◌, length, Some, slice_get}
use Rattle.bril_tree.specs.declared.function_tree.Item.TheVariants as item
use Rattle.bril_tree.specs.declared.numbered.Instr.{Instr}
use Rattle.bril_tree.specs.declared.numbered_function.Func.{Func}
use Rattle.bril_tree.specs.declared.program.Prog.{Prog}
use Rattle.bril_tree.specs.declared.value.Value.{Value}
use Rattle.bril_tree.specs.Run.{types_of}
use Rattle.bril_tree.specs.Accepted.{IsAccepted}
use Rattle.bril_tree.specs.Assigned.{assigns_at}
use Rattle.bril_tree.specs.Edge.{Branch, branches_at, leads_away}
use Rattle.bril_tree.specs.Numbered.{tree_at, names_in, names_of_functions}
use Rattle.bril_tree.specs.Operand.{Location, reads_of}
use Rattle.bril_tree.specs.Sites.{sites_of}
use Rattle.bril_tree.specs.Step.{code_of, item_at, new_frame}
use Rattle.bril_tree.specs.Walk.{IsWalk, IsReached, end_of}
use Rattle.bril_tree.specs.Membership.{In}
use Rattle.bril_names.proofs.Variables.{arguments_of}
use Rattle.pass_edit_laws.specs.plan.Plan.{Plan, HoldsKnown, IsLearned, Preserves}
use Rattle.pass_edit_laws.specs.names.Named.{SameLocation}

-- names, arguments and results of functions stay
pub record SameHeads (P Q : Prog) : Type 0 where
  pub names : names_of_functions P.funcs ≡ names_of_functions Q.funcs
  pub args : (f : ℕ) (F G : Func) → slice_get P.funcs f ≡ Some F → slice_get Q.funcs f ≡ Some G → arguments_of F.args F.vars ≡ arguments_of G.args G.vars
  pub ret : (f : ℕ) (F G : Func) → slice_get P.funcs f ≡ Some F → slice_get Q.funcs f ≡ Some G → F.ret ≡ G.ret

-- The plan of a pass that says its matching by names.
pub record NamePlan : Type 1 where
  -- Q may stand at j while P stands at i
  pub PointsMatch : (f i j : ℕ) → Type 0
  -- what the location holds at the point matters: locations of one name match where it does
  pub Matters : (f i : ℕ) → Location → Type 0
  -- both have the same item there, by its tree
  pub IsRegular : (f i j : ℕ) → Type 0
  -- the location of P is known to hold a value
  pub IsKnown : (f i : ℕ) → Location → Value → Type 0

module _ (P Q : Prog) (N : NamePlan) where
  abbrev pub plan : Plan
  plan = record {
    PointsMatch = N.PointsMatch;
    LocationsMatch = λ f i j a b. SameLocation (names_in (slice_get P.funcs f)) (names_in (slice_get Q.funcs f)) a b × N.Matters f i a;
    IsRegular = N.IsRegular;
    IsKnown = N.IsKnown;
  }

  -- What is known holds where a function begins and is kept along edges, from regular pairs of points on.
  pub record KeepsKnown : Type 0 where
    pub start : (f : ℕ) (vs : List Value) → length vs ≡ length (types_of (slice_get P.funcs f)) → HoldsKnown (N.IsKnown f 0) (new_frame f vs).locations
    pub learns : (f i j : ℕ) (w : Branch) (a : Location) (v : Value) → IsReached (code_of P f) i → N.PointsMatch f i j → N.IsRegular f i j → In w (branches_at (code_of P f) i) → w.aborts ≡ false → N.IsKnown f w.to a v → IsLearned (item_at P f i) (N.IsKnown f i) a v
    pub remembers : (f : ℕ) (w : Branch) (a : Location) (v : Value) (walk : List Branch) → IsWalk (code_of P f) walk → In w (branches_at (code_of P f) (end_of walk)) → w.aborts ≡ true → (s : ℕ) (sites : List ℕ) → sites_of (code_of P f) walk ≡ s ∷ sites → N.IsKnown f w.to a v → N.IsKnown f s a v

  -- What a pass that keeps names proves.
  pub record KeepsNames : Type 0 where
    pub heads : SameHeads P Q
    -- points: the starts match; after a regular pair the next points, where control goes on, and the labels of one name
    pub start : (f : ℕ) → N.PointsMatch f 0 0
    pub same : (f i j : ℕ) → IsReached (code_of P f) i → N.PointsMatch f i j → N.IsRegular f i j → tree_at P f i ≡ tree_at Q f j
    pub next : (f i j : ℕ) (a : Instr) → IsReached (code_of P f) i → N.PointsMatch f i j → N.IsRegular f i j → item_at P f i ≡ Some a → leads_away (Some a) ≡ false → N.PointsMatch f (suc i) (suc j)
    pub labels : (f i j : ℕ) (name : List ℕ) → IsReached (code_of P f) i → tree_at P f i ≡ Some (item.Label name) → tree_at Q f j ≡ Some (item.Label name) → N.PointsMatch f i j
    -- locations: what an item reads matters, and what matters after an edge mattered before it or is assigned
    pub reads : (f i j : ℕ) (a : Instr) (x : Location) → IsReached (code_of P f) i → N.PointsMatch f i j → N.IsRegular f i j → item_at P f i ≡ Some a → In x (reads_of a) → N.Matters f i x
    pub flows : (f i : ℕ) (w : Branch) (x : Location) → IsReached (code_of P f) i → In w (branches_at (code_of P f) i) → w.aborts ≡ false → N.Matters f w.to x → (In x (assigns_at (item_at P f i)) → ⊥) → N.Matters f i x
    -- what matters after an abort mattered at the newest open site
    pub back : (f : ℕ) (w : Branch) (x : Location) (walk : List Branch) → IsWalk (code_of P f) walk → In w (branches_at (code_of P f) (end_of walk)) → w.aborts ≡ true → (s : ℕ) (sites : List ℕ) → sites_of (code_of P f) walk ≡ s ∷ sites → N.Matters f w.to x → N.Matters f s x
    pub known : KeepsKnown

-- A pass that keeps names has a plan that is preserved.
abbrev pub NamesPreserve : (Prog → Prog → NamePlan) → Type 0
NamesPreserve names = (P Q : Prog) → IsAccepted P → KeepsNames P Q (names P Q) → Preserves (plan P Q (names P Q)) P Q
