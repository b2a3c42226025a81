-- How an item of a run goes with the item at the walk, as the program has it.
use Rattle.std.specs.Prelude.{◌≡◌, ◌≢◌, ℕ, suc, List, [], ◌∷◌, Option, Some, None, slice_get}
use Rattle.bril_tree.specs.declared.numbered.Instr.{Instr}
use Rattle.bril_tree.specs.declared.numbered.Instr.TheVariants.{Act}
use Rattle.bril_tree.specs.declared.operation.Op.TheVariants as op
use Rattle.bril_tree.specs.declared.types.Ty.{Ty}
use Rattle.side_laws.specs.Paired.{IsBranchOn, IsDirect, IsGuardOn, IsInverted, IsKept, IsNoDirect, IsNoInverted, ReadAlone}
use Rattle.side_pairs.specs.declared.meeting.Meeting.{Meeting}
use Rattle.side_pairs.specs.declared.meeting.Meeting.TheVariants.{Inverts, Pairs, Keeps, Ends}
use Rattle.side_pairs.specs.declared.meeting.Turn.{Turn}

-- the item is this branch, or none
abbrev pub HasTurn : Option Instr → Option Turn → Type 0
HasTurn o None = (c on off : ℕ) → IsBranchOn o c on off → ⊥
HasTurn o (Some turn) = IsBranchOn o turn.condition turn.on turn.off

-- the item is a guard on this variable, or none
abbrev pub HasCondition : Option Instr → Option ℕ → Type 0
HasCondition o None = (c : ℕ) → IsGuardOn o c → ⊥
HasCondition o (Some c) = IsGuardOn o c

-- the item makes n the `not` of c
abbrev pub IsNegation : Option Instr → ℕ → ℕ → Type 0
IsNegation o n c = (ty : Option Ty) × (o ≡ Some (Act (Some n) ty op.Not (c ∷ []) [] []))

-- the item at i is the `not` of c, for a guard just behind it alone
pub record IsTurned (code : List Instr) (i c : ℕ) : Type 0 where
  pub n : ℕ
  pub nots : IsNegation (slice_get code i) n c
  pub guards : IsGuardOn (slice_get code (suc i)) n
  pub apart : n ≢ c
  pub alone : ReadAlone code n (suc i)

-- the item is kept, or pairing ends
abbrev pub IsKeeping : List Instr → ℕ → ℕ → Meeting → Type 0
IsKeeping code i a Keeps = IsKept code i a
IsKeeping code i a Ends = IsKept code i a → ⊥
IsKeeping code i a _ = ⊥

-- the first that applies
abbrev pub IsMeeting : List Instr → ℕ → ℕ → Meeting → Type 0
IsMeeting code i a (Inverts on off) = (c : ℕ) × IsInverted code i a c on off
IsMeeting code i a (Pairs on off) = IsNoInverted code i a × ((c : ℕ) × IsDirect code i a c on off)
IsMeeting code i a Keeps = IsNoInverted code i a × IsNoDirect code i a × IsKept code i a
IsMeeting code i a Ends = IsNoInverted code i a × IsNoDirect code i a × (IsKept code i a → ⊥)
