-- A pass that gives variables other names: `names f` has the new name of each variable of P's function f.
use Rattle.std.specs.Prelude.{◌≡◌, ℕ, suc, true, false, List, ◌∷◌, length, Option, Some, None, slice_get}
use Rattle.std.specs.Option.{option_map}
use Rattle.bril_tree.specs.declared.function_tree.Item.{Item}
use Rattle.bril_tree.specs.declared.function_tree.Item.TheVariants as item
use Rattle.bril_tree.specs.declared.numbered.Instr.{Instr}
use Rattle.bril_tree.specs.declared.numbered_function.Func.{Func}
use Rattle.bril_tree.specs.declared.program.Prog.{Prog}
use Rattle.bril_tree.specs.Assigned.{assigns_at}
use Rattle.bril_tree.specs.Edge.{Branch, branches_at, leads_away}
use Rattle.bril_tree.specs.Numbered.{item_tree, names_of_functions, names_in, tree_at}
use Rattle.bril_tree.specs.Operand.{Location, reads_of}
use Rattle.bril_tree.specs.declared.value.Value.{Value}
use Rattle.bril_tree.specs.Run.{types_of, main_types}
use Rattle.bril_tree.specs.Sites.{sites_of}
use Rattle.bril_tree.specs.Step.{code_of, item_at, new_frame}
use Rattle.bril_tree.specs.Walk.{IsWalk, IsReached, end_of}
use Rattle.bril_tree.specs.Membership.{In}
use Rattle.bril_tree.specs.Accepted.{IsAccepted}
use Rattle.pass_edit_laws.specs.plan.Plan.{Plan, ValuesMatch, Preserves}
use Rattle.pass_edit_laws.specs.names.Named.{SameLocation}
use Rattle.pass_edit_laws.specs.names.NamedPlan.{NamePlan, SameHeads, KeepsKnown}

-- the item at a point, with the new names
abbrev pub renamed_tree : List (List ℕ) → List (List ℕ) → Option Func → ℕ → Option Item
renamed_tree fs vars None i = None
renamed_tree fs vars (Some f) i = option_map (item_tree fs vars f.labels) (slice_get f.code i)

module _ (P Q : Prog) (names : ℕ → List (List ℕ)) (N : NamePlan) where
  abbrev pub renaming : Plan
  renaming = record {
    PointsMatch = N.PointsMatch;
    LocationsMatch = λ f i j a b. SameLocation (names f) (names_in (slice_get Q.funcs f)) a b × N.Matters f i a;
    IsRegular = N.IsRegular;
    IsKnown = N.IsKnown;
  }

  pub record Renames : Type 0 where
    pub heads : SameHeads P Q
    pub main : P.main ≡ Q.main
    pub types : main_types P ≡ main_types Q
    pub sized : (f : ℕ) → length (names f) ≡ length (names_in (slice_get P.funcs f))
    pub start : (f : ℕ) → N.PointsMatch f 0 0
    pub fresh : (f : ℕ) (vs : List Value) → length vs ≡ length (types_of (slice_get P.funcs f)) → ValuesMatch (λ a b. SameLocation (names f) (names_in (slice_get Q.funcs f)) a b × N.Matters f 0 a) (new_frame f vs).locations (new_frame f vs).locations
    pub same : (f i j : ℕ) → IsReached (code_of P f) i → N.PointsMatch f i j → N.IsRegular f i j → renamed_tree (names_of_functions P.funcs) (names f) (slice_get P.funcs f) i ≡ tree_at Q f j
    pub next : (f i j : ℕ) (a : Instr) → IsReached (code_of P f) i → N.PointsMatch f i j → N.IsRegular f i j → item_at P f i ≡ Some a → leads_away (Some a) ≡ false → N.PointsMatch f (suc i) (suc j)
    pub labels : (f i j : ℕ) (name : List ℕ) → IsReached (code_of P f) i → tree_at P f i ≡ Some (item.Label name) → tree_at Q f j ≡ Some (item.Label name) → N.PointsMatch f i j
    pub reads : (f i j : ℕ) (a : Instr) (x : Location) → IsReached (code_of P f) i → N.PointsMatch f i j → N.IsRegular f i j → item_at P f i ≡ Some a → In x (reads_of a) → N.Matters f i x
    pub flows : (f i : ℕ) (w : Branch) (x : Location) → IsReached (code_of P f) i → In w (branches_at (code_of P f) i) → w.aborts ≡ false → N.Matters f w.to x → (In x (assigns_at (item_at P f i)) → ⊥) → N.Matters f i x
    -- where an item assigns a variable, no other one of the same new name matters after it
    pub apart : (f i j : ℕ) (w : Branch) (x y : Location) → IsReached (code_of P f) i → N.PointsMatch f i j → N.IsRegular f i j → In w (branches_at (code_of P f) i) → w.aborts ≡ false → N.Matters f w.to x → SameLocation (names f) (names_in (slice_get Q.funcs f)) x y → In y (assigns_at (item_at Q f j)) → In x (assigns_at (item_at P f i))
    pub back : (f : ℕ) (w : Branch) (x : Location) (walk : List Branch) → IsWalk (code_of P f) walk → In w (branches_at (code_of P f) (end_of walk)) → w.aborts ≡ true → (s : ℕ) (sites : List ℕ) → sites_of (code_of P f) walk ≡ s ∷ sites → N.Matters f w.to x → N.Matters f s x
    pub known : KeepsKnown P Q N

-- So has a pass that gives variables other names, those of P's function f being `names P Q f`.
abbrev pub RenamingPreserves : (Prog → Prog → NamePlan) → (Prog → Prog → ℕ → List (List ℕ)) → Type 0
RenamingPreserves plans names = (P Q : Prog) → IsAccepted P → Renames P Q (names P Q) (plans P Q) → Preserves (renaming P Q (names P Q) (plans P Q)) P Q
