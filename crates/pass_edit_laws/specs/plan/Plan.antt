-- How the points, the locations and the states of a program match those of what a pass made of it, and what a pass
-- proves of this matching. P is the given program and Q the result. A function of Q has the number that it has in P.
use Rattle.bril_tree.specs.Locals.{value_at}
use Rattle.std.specs.Prelude.{◌≡◌, ℕ, ◌⊎◌, true, false, List, [], ◌∷◌, length, Option, Some, None, is_some, slice_get, slice_index}
use Rattle.std.specs.List.{AllZip}
use Rattle.bril_tree.specs.declared.numbered.Instr.{Instr}
use Rattle.bril_tree.specs.declared.numbered.Instr.TheVariants.{Label, Const, Act}
use Rattle.bril_tree.specs.declared.operation.Op.{Op}
use Rattle.bril_tree.specs.declared.operation.Op.TheVariants as op
use Rattle.bril_tree.specs.declared.program.Prog.{Prog}
use Rattle.bril_tree.specs.declared.types.Ty.{Ty}
use Rattle.bril_tree.specs.declared.value.Value.{Value}
use Rattle.bril_tree.specs.Assigned.{assigns_at}
use Rattle.bril_tree.specs.Edge.{Branch, branches_from}
use Rattle.bril_tree.specs.Operand.{Location, locations_read, reading_of}
use Rattle.bril_tree.specs.Outcome.{Yields, outcome_of, argument}
use Rattle.bril_tree.specs.Run.{types_of, main_types}
use Rattle.bril_tree.specs.Sites.{sites_of}
use Rattle.bril_tree.specs.State.{Locals, Frame, State}
use Rattle.bril_tree.specs.Step.{code_of, item_at, new_frame}
use Rattle.bril_tree.specs.Walk.{IsWalk, IsReached, end_of}
use Rattle.bril_tree.specs.Membership.{In}

-- The plan of a pass, for a function f, a point i of it in P and a point j of it in Q.
pub record Plan : Type 1 where
  -- Q may stand at j while P stands at i: a relation, not a map
  pub PointsMatch : (f i j : ℕ) → Type 0
  -- while they stand there, the location of P holds what that of Q holds
  pub LocationsMatch : (f i j : ℕ) → Location → Location → Type 0
  -- at such points both programs make the same step
  pub IsRegular : (f i j : ℕ) → Type 0
  -- a location of P that is known to hold a value at a point of P; a pass that knows nothing takes ⊥
  pub IsKnown : (f i : ℕ) → Location → Value → Type 0

-- ---- what locations hold

-- locations that match hold the same
abbrev pub ValuesMatch : (Location → Location → Type 0) → Locals → Locals → Type 0
ValuesMatch A p q = (a b : Location) → A a b → value_at p a ≡ value_at q b

-- what is known is so
abbrev pub HoldsKnown : (Location → Value → Type 0) → Locals → Type 0
HoldsKnown K p = (a : Location) (v : Value) → K a v → value_at p a ≡ v

-- what an item writes to the location that it assigns
abbrev pub Writes : Option Instr → Locals → Value → Type 0
Writes None p v = ⊥
Writes (Some (Act d ty op.Set args fns ls)) p v = argument p args 1 ≡ v
Writes (Some item) p v = outcome_of item p ≡ Yields v

-- the value was known before and the item doesn't assign the location, or the item writes it, as follows from what was known
abbrev pub IsLearned : Option Instr → (Location → Value → Type 0) → Location → Value → Type 0
IsLearned o K a v = ((In a (assigns_at o) → ⊥) × K a v) ⊎ (In a (assigns_at o) × ((p : Locals) → HoldsKnown K p → Writes o p v))

-- ---- items

-- two instructions of one operation that read matching locations; the labels are compared by the points that they lead to
pub record ActionsMatch (A : Location → Location → Type 0) (o u : Op) (d e : Option ℕ) (s t : Option Ty) (args result_args fs gs : List ℕ) : Type 0 where
  pub operation : o ≡ u
  pub ty : s ≡ t
  pub dest : is_some d ≡ is_some e
  pub count : length args ≡ length result_args
  pub reads : AllZip A (locations_read (reading_of o) d args) (locations_read (reading_of o) e result_args)
  pub funcs : fs ≡ gs

-- the two items do the same with matching locations
abbrev pub ItemsMatch : (Location → Location → Type 0) → Instr → Instr → Type 0
ItemsMatch A (Label l) (Label m) = Unit {0}
ItemsMatch A (Label l) (Const y t w) = ⊥
ItemsMatch A (Label l) (Act e t u result_args gs ms) = ⊥
ItemsMatch A (Const x s v) (Label m) = ⊥
ItemsMatch A (Const x s v) (Const y t w) = v ≡ w
ItemsMatch A (Const x s v) (Act e t u result_args gs ms) = ⊥
ItemsMatch A (Act d s o args fs ls) (Label m) = ⊥
ItemsMatch A (Act d s o args fs ls) (Const y t w) = ⊥
ItemsMatch A (Act d s o args fs ls) (Act e t u result_args gs ms) = ActionsMatch A o u d e s t args result_args fs gs

-- so do the two points, which may be the ends of their functions
abbrev pub PointItemsMatch : (Location → Location → Type 0) → Option Instr → Option Instr → Type 0
PointItemsMatch A None None = Unit {0}
PointItemsMatch A None (Some j) = ⊥
PointItemsMatch A (Some i) None = ⊥
PointItemsMatch A (Some i) (Some j) = ItemsMatch A i j

-- ---- edges

-- the items assign both locations, or neither, and then they matched before
abbrev pub StaysMatched : List Location → List Location → (Location → Location → Type 0) → Location → Location → Type 0
StaysMatched ps qs A a b = (In a ps × In b qs) ⊎ ((In a ps → ⊥) × (In b qs → ⊥) × A a b)

module _ (m : Plan) (P Q : Prog) where
  -- Two edges, from items o and u, lead to matching points. What matches there matched before, or is assigned on both
  -- sides. Along an abort it matched at the newest open site, where what is put back was saved.
  pub record EdgesMatch (f i j : ℕ) (o u : Option Instr) (w v : Branch) : Type 0 where
    pub aborts : w.aborts ≡ v.aborts
    pub points : m.PointsMatch f w.to v.to
    pub kept : w.aborts ≡ false → (a b : Location) → m.LocationsMatch f w.to v.to a b → StaysMatched (assigns_at o) (assigns_at u) (m.LocationsMatch f i j) a b
    pub back : w.aborts ≡ true → (walk : List Branch) → IsWalk (code_of P f) walk → end_of walk ≡ i → (s t : ℕ) (sites : List ℕ) → sites_of (code_of P f) walk ≡ s ∷ sites → m.PointsMatch f s t → m.IsRegular f s t →
        (a b : Location) → m.LocationsMatch f w.to v.to a b → m.LocationsMatch f s t a b
    -- what is known after the edge is learned from what was known before, or was known at the newest open site
    pub learns : w.aborts ≡ false → (a : Location) (v : Value) → m.IsKnown f w.to a v → IsLearned o (m.IsKnown f i) a v
    pub remembers : w.aborts ≡ true → (walk : List Branch) → IsWalk (code_of P f) walk → end_of walk ≡ i → (s : ℕ) (sites : List ℕ) → sites_of (code_of P f) walk ≡ s ∷ sites → (a : Location) (v : Value) → m.IsKnown f w.to a v → m.IsKnown f s a v

  pub record StepsMatch (f i j : ℕ) (o u : Option Instr) : Type 0 where
    pub same : PointItemsMatch (m.LocationsMatch f i j) o u
    pub branches : AllZip (EdgesMatch f i j o u) (branches_from (code_of P f) i o) (branches_from (code_of Q f) j u)

  -- What a pass proves of its plan.
  pub record Preserves : Type 0 where
    pub main : P.main ≡ Q.main
    pub types : main_types P ≡ main_types Q
    pub start : (f : ℕ) → m.PointsMatch f 0 0
    -- what matches where a function begins holds the same, whatever the arguments
    pub fresh : (f : ℕ) (vs : List Value) → length vs ≡ length (types_of (slice_get P.funcs f)) → ValuesMatch (m.LocationsMatch f 0 0) (new_frame f vs).locations (new_frame f vs).locations
    pub start_known : (f : ℕ) (vs : List Value) → length vs ≡ length (types_of (slice_get P.funcs f)) → HoldsKnown (m.IsKnown f 0) (new_frame f vs).locations
    pub steps : (f i j : ℕ) → IsReached (code_of P f) i → m.PointsMatch f i j → m.IsRegular f i j → StepsMatch f i j (item_at P f i) (item_at Q f j)

  -- ---- states

  -- the saves of two frames, each matched at its own site
  abbrev pub SavesMatch : ℕ → List ℕ → List Locals → List Locals → Type 0
  SavesMatch f [] [] [] = Unit {0}
  SavesMatch f [] [] (q ∷ qs) = ⊥
  SavesMatch f [] (p ∷ ps) qs = ⊥
  SavesMatch f (s ∷ sites) [] qs = ⊥
  SavesMatch f (s ∷ sites) (p ∷ ps) [] = ⊥
  SavesMatch f (s ∷ sites) (p ∷ ps) (q ∷ qs) = ((t : ℕ) × m.PointsMatch f s t × m.IsRegular f s t × ValuesMatch (m.LocationsMatch f s t) p q × HoldsKnown (m.IsKnown f s) p) × SavesMatch f sites ps qs

  -- what two frames of a function hold, at matching points, the first at the end of a walk
  pub record ContentsMatch (f i j : ℕ) (p q : Locals) (ps qs : List Locals) : Type 0 where
    pub walk : List Branch
    pub is : IsWalk (code_of P f) walk
    pub ends : end_of walk ≡ i
    pub points : m.PointsMatch f i j
    pub locations : ValuesMatch (m.LocationsMatch f i j) p q
    pub known : HoldsKnown (m.IsKnown f i) p
    pub saves : SavesMatch f (sites_of (code_of P f) walk) ps qs

  pub record FramesMatch (f g : Frame) : Type 0 where
    pub function : f.function ≡ g.function
    pub contents : ContentsMatch f.function f.point g.point f.locations g.locations f.saves g.saves

  -- the item is a call of the function
  pub record IsCallOf (callee : ℕ) (item : Option Instr) : Type 0 where
    pub dest : Option ℕ
    pub ty : Option Ty
    pub args : List ℕ
    pub funcs : List ℕ
    pub labels : List ℕ
    pub is : item ≡ Some (Act dest ty op.Call args funcs labels)
    pub callee_is : slice_index funcs 0 ≡ callee

  -- frames that wait for a call of the function above
  pub record CallersMatch (above : ℕ) (f g : Frame) : Type 0 where
    pub frames : FramesMatch f g
    pub regular : m.IsRegular f.function f.point g.point
    pub call : IsCallOf above (item_at P f.function f.point)

  abbrev pub StacksMatch : ℕ → List Frame → List Frame → Type 0
  StacksMatch above [] [] = Unit {0}
  StacksMatch above [] (g ∷ gs) = ⊥
  StacksMatch above (f ∷ fs) [] = ⊥
  StacksMatch above (f ∷ fs) (g ∷ gs) = CallersMatch above f g × StacksMatch f.function fs gs

  -- two states; the counts of failed guards aren't compared
  pub record StatesMatch (s t : State) : Type 0 where
    pub ended : s.ended ≡ t.ended
    pub printed : s.printed ≡ t.printed
    pub blocks : s.blocks ≡ t.blocks
    pub frame : Frame
    pub older : List Frame
    pub frames : s.frames ≡ frame ∷ older
    pub result_frame : Frame
    pub result_older : List Frame
    pub result_frames : t.frames ≡ result_frame ∷ result_older
    pub newest : FramesMatch frame result_frame
    pub callers : StacksMatch frame.function older result_older
