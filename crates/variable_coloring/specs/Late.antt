-- The pairs of variables that wait for a second look, with all that they meet.
use Rattle.std.specs.Prelude.{◌≡◌, ◌≢◌, ◌⊎◌, ◌↔◌, ◌<◌, ℕ, Bool, false, List, length}
use Rattle.std.specs.List.{Contains}
use Rattle.bril_tree.specs.declared.numbered_function.Func.{Func}
use Rattle.flow_graph.specs.Accesses.{Accesses}
use Rattle.flow_graph.specs.declared.reads.Access.{Access}
use Rattle.graph_search.specs.Marks.{is_marked}
use Rattle.variable_coloring.specs.Pairs.{Meet}

-- another variable of the function that meets x
pub record AreMeeting (F : Func) (x y : ℕ) : Type 0 where
  pub differ : x ≢ y
  pub below : y < length F.vars
  pub meet : Meet F.code x y

-- the list has for each variable that isn't placed, in its row, the variables that meet it, and no others
abbrev pub AreLatePairs : Func → (placed : List Bool) → List Access → Type 0
AreLatePairs F placed list = (x y : ℕ) → x < length F.vars → is_marked placed x ≡ false → Accesses list x y ↔ AreMeeting F x y

-- the pair of the two in the row of the other one
abbrev pub turned : Access → Access
turned a = record { item = a.location; location = a.item }

-- the list has these pairs in the rows of those of their variables that aren't placed, and nothing else
pub record AreRowsOf (placed : List Bool) (pairs list : List Access) : Type 0 where
  pub only : (a : Access) → Contains list a → Contains pairs a ⊎ Contains pairs (turned a)
  pub all : (a : Access) → is_marked placed a.location ≡ false → Contains pairs a ⊎ Contains pairs (turned a) → Contains list a

-- the pair was added in such rows
pub record AddsRows (placed : List Bool) (pair : Access) (old new : List Access) : Type 0 where
  pub kept : (a : Access) → Contains old a → Contains new a
  pub only : (a : Access) → Contains new a → Contains old a ⊎ ((a ≡ pair) ⊎ (turned a ≡ pair))
  pub there : is_marked placed pair.location ≡ false → Contains new pair
  pub other : is_marked placed pair.item ≡ false → Contains new (turned pair)
