-- Spans: stretches of points outside of which a location needs no home.
use Rattle.std.specs.Prelude.{◌≡◌, ◌≢◌, ℕ, ◌<◌, ◌≤◌, ◌⊎◌, List, [], ◌++◌, ◌∷◌, slice_get}
use Rattle.std.specs.List.{Contains}
use Rattle.bril_tree.specs.declared.numbered.Instr.{Instr}
use Rattle.bril_tree.specs.Assigned.{assigns_at}
use Rattle.bril_tree.specs.Edge.{Branch, branches_at}
use Rattle.bril_tree.specs.Live.{IsLive}
use Rattle.bril_tree.specs.Operand.{Location, Variable}
use Rattle.bril_tree.specs.Sites.{sites_of}
use Rattle.bril_tree.specs.Walk.{IsWalk, end_of}

pub record Span : Type 0 where
  pub first : ℕ
  pub last : ℕ

abbrev pub Covers : Span → ℕ → Type 0
Covers s point = (s.first ≤ point) × (point ≤ s.last)

-- Each location has a stretch of points that has those where it is live, also where no walk leads, those just after the items that assign it, the start
-- if it is an argument, and those where a site is open at whose `speculate` it is live.
pub record AreSpans (code : List Instr) (args : ℕ) (spans : Location → Span) : Type 0 where
  pub live : (point : ℕ) (x : Location) → IsLive code x point → Covers (spans x) point
  pub assigned : (walk : List Branch) (branch : Branch) (x : Location) → IsWalk code walk → Contains (branches_at code (end_of walk)) branch → Contains (assigns_at (slice_get code (end_of walk))) x → Covers (spans x) branch.to
  pub arguments : (k : ℕ) → k < args → Covers (spans (Variable k)) 0
  pub kept : (walk : List Branch) (newer older : List ℕ) (site : ℕ) (x : Location) → IsWalk code walk → sites_of code walk ≡ newer ++ site ∷ older → IsLive code x site → Covers (spans x) (end_of walk)

-- two of the known locations share a home only where their spans don't meet
abbrev pub AreSeparate : (Location → Type 0) → (Location → Span) → {H : Type 0} → (Location → H) → Type 0
AreSeparate Known spans homes = (x y : Location) → Known x → Known y → x ≢ y → homes x ≡ homes y → ((spans x).last < (spans y).first) ⊎ ((spans y).last < (spans x).first)

-- what is live, assigned or an argument is known
pub record AreKnown (code : List Instr) (args : ℕ) (Known : Location → Type 0) : Type 0 where
  pub live : (point : ℕ) (x : Location) → IsLive code x point → Known x
  pub assigned : (point : ℕ) (x : Location) → Contains (assigns_at (slice_get code point)) x → Known x
  pub arguments : (k : ℕ) → k < args → Known (Variable k)

-- a site that is open at the end of some walk assigns nothing
abbrev pub SitesAssignNothing : List Instr → Type 0
SitesAssignNothing code = (walk : List Branch) (newer older : List ℕ) (site : ℕ) → IsWalk code walk → sites_of code walk ≡ newer ++ site ∷ older → assigns_at (slice_get code site) ≡ []
