-- What the pass keeps of a program.
use Rattle.std.specs.Prelude.{◌≡◌, ℕ, ◌+◌, ◌*◌, ◌≤◌, List, length}
use Rattle.bril_profile.specs.declared.profile.Profile.{Profile}
use Rattle.bril_tree.specs.declared.numbered.Instr.{Instr}
use Rattle.bril_tree.specs.declared.program.Prog.{Prog}
use Rattle.bril_tree.specs.declared.tree.Tree.{Tree}
use Rattle.bril_tree.specs.Accepted.{IsAccepted}
use Rattle.bril_tree.specs.Membership.{In}
use Rattle.bril_tree.specs.Numbered.{tree_size}
use Rattle.bril_tree.specs.Run.{Refines}
use Rattle.bril_tree.specs.Size.{IsCounted, item_count}
use Rattle.pass_edit_laws.specs.numbers.Numbers.{NumbersGrow}
use Rattle.pass_make.specs.Edited.{HasRoom, IsLinkedTo}
use Rattle.pass_make.specs.declared.made.Made.TheVariants as making
use Rattle.side_laws.specs.Paired.{ArePairs, Pair}
use Rattle.side_laws.specs.Side.{side_growth, side_meaning}
use Rattle.side_laws.specs.Sided.{IsSideBound, IsSided, IsSidedTree, SideExit, exits_count, exits_size}
use Rattle.side_laws.specs.Straight.{HasStraightExit}

-- ---- pairs

-- There is one list of pairs.
pub record HasOnePairing (code : List Instr) : Type 0 where
  pub pairs : List Pair
  pub are : ArePairs code pairs
  pub only : (others : List Pair) → ArePairs code others → others ≡ pairs

abbrev pub PairsAreOneList : Type 0
PairsAreOneList = (code : List Instr) → HasOnePairing code

-- ---- programs with side exits

-- What was done after n steps is done after as many.
abbrev pub SideExitsRefine : Type 0
SideExitsRefine = (P Q : Prog) → IsAccepted P → IsSided P Q → Refines P Q 1

abbrev pub SideExitsAreAccepted : Type 0
SideExitsAreAccepted = (P Q : Prog) → IsAccepted P → IsSided P Q → IsAccepted Q

abbrev pub SideExitsKeepNumbers : Type 0
SideExitsKeepNumbers = (P Q : Prog) → IsAccepted P → (made : IsSided P Q) → NumbersGrow P Q (side_growth (exits_count made.exits (length P.funcs)))

abbrev pub SideExitsAreStraight : Type 0
SideExitsAreStraight = (P Q : Prog) → IsAccepted P → (made : IsSided P Q) → (f : ℕ) (w : SideExit) → In w (made.exits f) → HasStraightExit P Q f w

-- ---- sizes

-- A tree with side exits has no more items than its bound,
abbrev pub SideExitsAreWithin : Type 0
SideExitsAreWithin = (P : Prog) (tree : Tree) → (made : IsSidedTree P tree) → tree_size tree ≤ item_count P + exits_size made.exits (length P.funcs)

-- and that is at most 515 for each item: there are no more paired guards than items, and for each at most 511 items are kept.
abbrev pub SideBoundsAreShort : Type 0
SideBoundsAreShort = (P : Prog) (bound : ℕ) → IsAccepted P → IsSideBound P bound → bound ≤ 515 * item_count P

-- ---- all of it

-- A tree with side exits is one of which the pass makes its program: it can be numbered, and the program is accepted, refines the given
-- one with the pass's factor, and is within its bound.
abbrev pub SideExitsLink : Type 0
SideExitsLink = (P : Prog) (profile : Profile) (tree : Tree) → IsAccepted P → IsCounted P → HasRoom (IsSideBound P) (item_count P) → IsSidedTree P tree → IsLinkedTo side_meaning profile P (making.Tree tree)
