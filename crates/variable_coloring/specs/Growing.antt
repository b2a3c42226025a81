-- Classes that grow: the variables have their turns one after another, and each is placed: it is put into a class of before or begins
-- one of its own. One that finds no class to its liking may wait for a second turn, once all had their first.
use Rattle.std.specs.Prelude.{◌≡◌, ◌≢◌, ◌⊎◌, ◌&&◌, ◌+◌, ◌*◌, ◌++◌, ◌<◌, ◌≤◌, ℕ, suc, Bool, true, false, List, [], ◌∷◌, length, Option, Some, None, slice_index, slice_index_or, slice_set, if◌then◌else◌}
use Rattle.std.specs.List.{Contains}
use Rattle.bril_tree.specs.declared.numbered_function.Func.{Func}
use Rattle.bril_tree.specs.declared.types.Base.{Base}
use Rattle.bril_tree.specs.declared.types.Base.TheVariants as base
use Rattle.bril_tree.specs.declared.types.Ty.{Ty}
use Rattle.bril_tree.specs.Typing.{variable_type}
use Rattle.flow_graph.specs.declared.reads.Access.{Access}
use Rattle.graph_search.specs.Marks.{is_marked}
use Rattle.variable_coloring.specs.Colors.{AreKeptApart}
use Rattle.variable_coloring.specs.declared.classes.Classes.{Classes}
use Rattle.variable_coloring.specs.declared.colors.Colors.{Colors}
use Rattle.variable_coloring.specs.Late.{AreLatePairs, AreMeeting}
use Rattle.variable_renaming.specs.Apart.{AreApart, HasShadow}
use Rattle.variable_renaming.specs.Classes.{class_of}

-- ---- classes

-- a variable of the class has a shadow that items name
pub record HasShadowIn (F : Func) (class : List ℕ) (head : ℕ) : Type 0 where
  pub x : ℕ
  pub below : x < length F.vars
  pub of : class_of class x ≡ head
  pub shadow : HasShadow F.code x

-- The classes of the variables that are placed; the head of each is placed, and the variables that aren't are alone. A mark for each
-- head tells whether its class has a variable whose shadow items name.
pub record AreColorsOf (F : Func) (placed : List Bool) (class : List ℕ) (shadow : List Bool) : Type 0 where
  pub long : length class ≡ length F.vars
  pub placed_long : length placed ≡ length F.vars
  pub shadow_long : length shadow ≡ length F.vars
  pub alone : (x : ℕ) → is_marked placed x ≡ false → class_of class x ≡ x
  pub kept : (x : ℕ) → is_marked placed x ≡ true → is_marked placed (class_of class x) ≡ true
  pub arguments : (x : ℕ) → x < F.args → class_of class x ≡ x
  pub named : (x : ℕ) → class_of class (class_of class x) ≡ class_of class x
  pub apart : (x y : ℕ) → x ≢ y → class_of class x ≡ class_of class y → AreApart F x y
  pub settled : (h m : ℕ) → h ≢ m → is_marked placed h ≡ true → is_marked placed m ≡ true → class_of class h ≡ h → class_of class m ≡ m → AreKeptApart F class h m
  pub shadowed : (x : ℕ) → x < length F.vars → HasShadow F.code x → is_marked shadow (class_of class x) ≡ true
  pub unshadowed : (h : ℕ) → class_of class h ≡ h → is_marked shadow h ≡ true → HasShadowIn F class h

-- a variable of the class meets x
pub record Meets (F : Func) (class : List ℕ) (x head : ℕ) : Type 0 where
  pub y : ℕ
  pub meeting : AreMeeting F x y
  pub of : class_of class y ≡ head

-- the stamps of classes in a turn of x: turn + 1 where a variable of the class meets x, and else less
pub record AreStampsOf (F : Func) (x turn : ℕ) (placed : List Bool) (class stamps : List ℕ) : Type 0 where
  pub long : length stamps ≡ length F.vars
  pub most : (k : ℕ) → slice_index stamps k ≤ suc turn
  pub only : (k : ℕ) → slice_index stamps k ≡ suc turn → Meets F class x k
  pub all : (y : ℕ) → is_marked placed y ≡ true → AreMeeting F x y → slice_index stamps (class_of class y) ≡ suc turn

-- variables that meet x, all those among them that are placed
pub record AreMet (F : Func) (x : ℕ) (placed : List Bool) (met : List ℕ) : Type 0 where
  pub only : (y : ℕ) → Contains met y → AreMeeting F x y
  pub all : (y : ℕ) → is_marked placed y ≡ true → AreMeeting F x y → Contains met y

-- the classes of these variables were stamped
pub record StampsClasses (turn : ℕ) (class met old new : List ℕ) : Type 0 where
  pub long : length new ≡ length old
  pub all : (y : ℕ) → Contains met y → class_of class y < length old → slice_index new (class_of class y) ≡ suc turn
  pub only : (k : ℕ) → (slice_index new k ≡ slice_index old k) ⊎ ((slice_index new k ≡ suc turn) × ((y : ℕ) × Contains met y × (class_of class y ≡ k)))

-- the number is the head of a class that x may be put into
pub record Fits (F : Func) (placed : List Bool) (class : List ℕ) (shadow : List Bool) (stamps : List ℕ) (x turn head : ℕ) : Type 0 where
  pub placed_head : is_marked placed head ≡ true
  pub is_head : class_of class head ≡ head
  pub types : variable_type F.vars x ≡ variable_type F.vars head
  pub unmet : slice_index stamps head ≢ suc turn
  pub shadows : (is_marked shadow x && is_marked shadow head) ≡ false

-- why it isn't
pub data Misfits (F : Func) (placed : List Bool) (class : List ℕ) (shadow : List Bool) (stamps : List ℕ) (x turn head : ℕ) : Type 0 where
  NotPlaced : is_marked placed head ≡ false → Misfits F placed class shadow stamps x turn head
  NoHead : (class_of class head ≡ head → ⊥) → Misfits F placed class shadow stamps x turn head
  OtherType : (variable_type F.vars x ≡ variable_type F.vars head → ⊥) → Misfits F placed class shadow stamps x turn head
  Met : slice_index stamps head ≡ suc turn → Misfits F placed class shadow stamps x turn head
  TwoShadows : is_marked shadow x ≡ true → is_marked shadow head ≡ true → Misfits F placed class shadow stamps x turn head

-- x may be put into none of these classes
abbrev pub NoneFits : Func → List Bool → (class : List ℕ) → List Bool → (stamps : List ℕ) → (x turn : ℕ) → List ℕ → Type 0
NoneFits F placed class shadow stamps x turn heads = (h : ℕ) → Contains heads h → Misfits F placed class shadow stamps x turn h

-- nor into any other
abbrev pub NoneFitsAtAll : Func → List Bool → (class : List ℕ) → List Bool → (stamps : List ℕ) → (x turn : ℕ) → Type 0
NoneFitsAtAll F placed class shadow stamps x turn = (h : ℕ) → is_marked placed h ≡ true → class_of class h ≡ h → Misfits F placed class shadow stamps x turn h

-- the marks, where x is put into the class
abbrev pub shadows_joined : List Bool → (x head : ℕ) → List Bool
shadows_joined shadow x head = if is_marked shadow x then slice_set shadow head true else shadow

-- x was placed; unless its turn is one of the first, which come before the second look
pub data Places (count x turn : ℕ) (old new : List Bool) : Type 0 where
  Placed : new ≡ slice_set old x true → Places count x turn old new
  Waits : turn < count → new ≡ old → Places count x turn old new

-- ---- heads of classes, in rows by their types

abbrev pub base_number : Base → ℕ
base_number base.Int = 0
base_number base.Bool = 1
base_number base.Char = 2

abbrev pub type_row : Option Ty → ℕ
type_row None = 0
type_row (Some t) = 1 + 3 * t.depth + base_number t.base

abbrev pub row_of : Func → ℕ → ℕ
row_of F x = type_row (variable_type F.vars x)

abbrev pub row_at : List (List ℕ) → ℕ → List ℕ
row_at rows row = slice_index_or rows row []

-- with the number at the end of a row
abbrev pub with_number : List (List ℕ) → (row number : ℕ) → List (List ℕ)
with_number rows row number = slice_set rows row (row_at rows row ++ number ∷ [])

-- The heads: those of classes with a variable whose shadow items name in rows of their own, and the others.
pub record AreHeads (F : Func) (placed : List Bool) (class : List ℕ) (shadow : List Bool) (shadowed plain : List (List ℕ)) : Type 0 where
  pub shadowed_long : length shadowed ≡ 100
  pub plain_long : length plain ≡ 100
  pub in_shadowed : (h : ℕ) → is_marked placed h ≡ true → class_of class h ≡ h → is_marked shadow h ≡ true → Contains (row_at shadowed (row_of F h)) h
  pub in_plain : (h : ℕ) → is_marked placed h ≡ true → class_of class h ≡ h → is_marked shadow h ≡ false → Contains (row_at plain (row_of F h)) h

-- ---- the whole state

-- before a turn
pub record IsState (F : Func) (turn : ℕ) (placed : List Bool) (class : List ℕ) (shadow : List Bool) (stamps : List ℕ) (shadowed plain : List (List ℕ)) : Type 0 where
  pub colors : AreColorsOf F placed class shadow
  pub heads : AreHeads F placed class shadow shadowed plain
  pub stamps_long : length stamps ≡ length F.vars
  pub stamps_most : (k : ℕ) → slice_index stamps k ≤ turn

-- In a turn of x, which isn't placed: the classes that meet it are stamped.
pub record IsLooking (F : Func) (x turn : ℕ) (placed : List Bool) (class : List ℕ) (shadow : List Bool) (stamps : List ℕ) (shadowed plain : List (List ℕ)) : Type 0 where
  pub colors : AreColorsOf F placed class shadow
  pub heads : AreHeads F placed class shadow shadowed plain
  pub stamped : AreStampsOf F x turn placed class stamps
  pub below : x < length F.vars
  pub behind : F.args ≤ x
  pub waiting : is_marked placed x ≡ false

-- ---- the same of what the code keeps

abbrev pub FitsIn : Func → Classes → (x turn head : ℕ) → Type 0
FitsIn F c x turn head = Fits F c.placed.items c.class.items c.shadow.items c.stamps.items x turn head

abbrev pub MisfitsIn : Func → Classes → (x turn head : ℕ) → Type 0
MisfitsIn F c x turn head = Misfits F c.placed.items c.class.items c.shadow.items c.stamps.items x turn head

abbrev pub NoneFitsIn : Func → Classes → (x turn : ℕ) → List ℕ → Type 0
NoneFitsIn F c x turn heads = NoneFits F c.placed.items c.class.items c.shadow.items c.stamps.items x turn heads

abbrev pub NoneFitsAtAllIn : Func → Classes → (x turn : ℕ) → Type 0
NoneFitsAtAllIn F c x turn = NoneFitsAtAll F c.placed.items c.class.items c.shadow.items c.stamps.items x turn

abbrev pub AreHeadsIn : Func → Colors → Type 0
AreHeadsIn F c = AreHeads F c.classes.placed.items c.classes.class.items c.classes.shadow.items c.shadowed c.plain

abbrev pub IsStateIn : Func → ℕ → Colors → Type 0
IsStateIn F turn c = IsState F turn c.classes.placed.items c.classes.class.items c.classes.shadow.items c.classes.stamps.items c.shadowed c.plain

abbrev pub IsLookingIn : Func → (x turn : ℕ) → Colors → Type 0
IsLookingIn F x turn c = IsLooking F x turn c.classes.placed.items c.classes.class.items c.classes.shadow.items c.classes.stamps.items c.shadowed c.plain

abbrev pub PlacesIn : Func → (x turn : ℕ) → (old new : Colors) → Type 0
PlacesIn F x turn old new = Places (length F.vars) x turn old.classes.placed.items new.classes.placed.items

-- the variables below x had their first turn, and only they
pub record IsFirstIn (F : Func) (x : ℕ) (c : Colors) : Type 0 where
  pub state : IsStateIn F x c
  pub only : (y : ℕ) → is_marked c.classes.placed.items y ≡ true → y < x
  pub arguments : (y : ℕ) → y < F.args → y < x → is_marked c.classes.placed.items y ≡ true

-- all had their first turn, and those below x their second; the list has the pairs of those that wait
pub record IsSecondIn (F : Func) (x : ℕ) (list : List Access) (c : Colors) : Type 0 where
  pub state : IsStateIn F (length F.vars + x) c
  pub late : AreLatePairs F c.classes.placed.items list
  pub arguments : (y : ℕ) → y < F.args → y < length F.vars → is_marked c.classes.placed.items y ≡ true
  pub done : (y : ℕ) → y < x → is_marked c.classes.placed.items y ≡ true
