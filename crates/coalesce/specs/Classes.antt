-- What a round finds in a function: clashes of variables, and classes of variables that get one name.
use Rattle.std.specs.Prelude.{◌≡◌, ◌≢◌, ◌⊎◌, ◌==◌, ◌&&◌, ◌||◌, not, ℕ, suc, ◌<◌, Bool, true, false, List, [], ◌∷◌, length, Option, Some, None, slice_get, if◌then◌else◌, slice_set}
use Rattle.std.specs.List.{Contains}
use Rattle.bril_tree.specs.declared.numbered.Instr.{Instr}
use Rattle.bril_tree.specs.declared.numbered_function.Func.{Func}
use Rattle.bril_tree.specs.Typing.{variable_type}
use Rattle.flow_graph.specs.declared.reads.Access.{Access}
use Rattle.graph_search.specs.Marks.{is_marked}
use Rattle.variable_renaming.specs.Apart.{AreApart, Copies, HasShadow}
use Rattle.variable_renaming.specs.Classes.{AreSoundClasses, class_of, source_at}
use Rattle.variable_renaming.specs.Clashes.{Clashes}
use Rattle.coalesce.specs.meaning.Linked.{AreLinked}
use Rattle.coalesce.specs.declared.clashes.Clash.{Clash}

-- ---- clashes

abbrev pub clash : (item x y : ℕ) → Clash
clash item x y = record { item = item; one = x; other = y }

-- both ways round
abbrev pub HasBoth : List Clash → (item x y : ℕ) → Type 0
HasBoth list item x y = Contains list (clash item x y) × Contains list (clash item y x)

-- the list has the clashes of related variables, each both ways round, and no others
pub record AreClashes (code : List Instr) (related : List Bool) (list : List Clash) : Type 0 where
  pub all : (item x y : ℕ) → is_marked related x ≡ true → is_marked related y ≡ true → Clashes code item x y → HasBoth list item x y
  pub only : (c : Clash) → Contains list c → Clashes code c.item c.one c.other ⊎ Clashes code c.item c.other c.one

-- the first variables of clashes that are numbered from one on
abbrev pub firsts_from : ℕ → List Clash → List Access
firsts_from k [] = []
firsts_from k (c ∷ list) = record { item = k; location = c.one } ∷ firsts_from (suc k) list

-- ---- classes

-- the source is the variable x, or one of the class k
abbrev pub is_source : List ℕ → (x k : ℕ) → Option ℕ → Bool
is_source class x k None = false
is_source class x k (Some z) = (z == x) || (class_of class z == k)

-- the clash is with a variable of the class, and its item is no copy that becomes one of a variable to itself
abbrev pub keeps_apart : List Instr → List ℕ → (k : ℕ) → Clash → Bool
keeps_apart code class k c = (class_of class c.other == k) && not (is_source class c.one k (source_at (slice_get code c.item)))

-- copies link each variable with the one that names its class
abbrev pub AreLinkedClasses : Func → List ℕ → Type 0
AreLinkedClasses F class = (x : ℕ) → AreLinked F x (class_of class x)

-- The state of a round: which classes have one variable, and which have a variable whose shadow is named.
pub record IsRoundState (F : Func) (related : List Bool) (class : List ℕ) (alone shadow : List Bool) (joined : Bool) : Type 0 where
  pub are : AreSoundClasses F class
  pub linked : AreLinkedClasses F class
  pub alone_long : length alone ≡ length F.vars
  pub shadow_long : length shadow ≡ length F.vars
  -- a variable that is alone names its class, which has no other
  pub own : (x : ℕ) → is_marked alone x ≡ true → class_of class x ≡ x
  pub single : (x y : ℕ) → is_marked alone x ≡ true → class_of class y ≡ x → y ≡ x
  pub relates : (x y : ℕ) → x ≢ y → class_of class x ≡ class_of class y → is_marked related x ≡ true
  pub unshadowed : (x : ℕ) → is_marked shadow (class_of class x) ≡ false → x < length F.vars → HasShadow F.code x → ⊥
  -- where nothing was joined
  pub apart : joined ≡ false → (x : ℕ) → class_of class x ≡ x
  pub all_alone : joined ≡ false → (x : ℕ) → x < length F.vars → is_marked alone x ≡ true
  pub shadowed : joined ≡ false → (x : ℕ) → is_marked shadow x ≡ true → HasShadow F.code x

-- no clash keeps x apart from the class
abbrev pub NoneKeepsApart : List Instr → List Clash → List ℕ → (x k : ℕ) → Type 0
NoneKeepsApart code list class x k = (c : Clash) → Contains list c → c.one ≡ x → keeps_apart code class k c ≡ false

-- some clash does
abbrev pub SomeKeepsApart : List Instr → List Clash → List ℕ → (x k : ℕ) → Type 0
SomeKeepsApart code list class x k = (c : Clash) × Contains list c × (c.one ≡ x) × (keeps_apart code class k c ≡ true)

-- x may get the name of the class k
pub record Fits (F : Func) (list : List Clash) (class : List ℕ) (shadow : List Bool) (x k : ℕ) : Type 0 where
  pub types : variable_type F.vars x ≡ variable_type F.vars k
  pub shadows : (is_marked shadow x && is_marked shadow k) ≡ false
  pub none : NoneKeepsApart F.code list class x k

-- why it may not
pub data Misfits (F : Func) (list : List Clash) (class : List ℕ) (shadow : List Bool) (x k : ℕ) : Type 0 where
  OtherType : (variable_type F.vars x ≡ variable_type F.vars k → ⊥) → Misfits F list class shadow x k
  TwoShadows : is_marked shadow x ≡ true → is_marked shadow k ≡ true → Misfits F list class shadow x k
  KeptApart : SomeKeepsApart F.code list class x k → Misfits F list class shadow x k

-- the marks of shadows, where x gets the name of the class k
abbrev pub shadows_joined : List Bool → (x k : ℕ) → List Bool
shadows_joined shadow x k = if is_marked shadow x then slice_set shadow k true else shadow

-- what is of one class stays so
abbrev pub Grows : (class more : List ℕ) → Type 0
Grows class more = (x y : ℕ) → class_of class x ≡ class_of class y → class_of more x ≡ class_of more y

-- The next state of a round: the classes grow, and once two variables were joined that stays so.
pub record IsNextState (F : Func) (related : List Bool) (class more : List ℕ) (alone shadow : List Bool) (joined new : Bool) : Type 0 where
  pub state : IsRoundState F related more alone shadow new
  pub grows : Grows class more
  pub kept : new ≡ false → joined ≡ false

-- two different variables of the function, both related
pub record AreRelated (F : Func) (related : List Bool) (x y : ℕ) : Type 0 where
  pub differ : x ≢ y
  pub first_below : x < length F.vars
  pub second_below : y < length F.vars
  pub first_marked : is_marked related x ≡ true
  pub second_marked : is_marked related y ≡ true

-- In this state of a round, with these clashes, the variables may be joined if they fit: copies relate and link them.
pub record MayLookAt (F : Func) (related : List Bool) (list : List Clash) (class : List ℕ) (alone shadow : List Bool) (joined : Bool) (x y : ℕ) : Type 0 where
  pub clashes : AreClashes F.code related list
  pub state : IsRoundState F related class alone shadow joined
  pub both : AreRelated F related x y
  pub linked : AreLinked F x y

-- the copies that were looked at aren't apart, where nothing was joined
abbrev pub NotApart : Func → Instr → Type 0
NotApart F item = (x y : ℕ) → Copies item x y → x ≢ y → AreApart F x y → ⊥

-- where the item copies one variable to another, both are related, and of the function
abbrev pub IsRelatedItem : Func → List Bool → Instr → Type 0
IsRelatedItem F related item = (x y : ℕ) → Copies item x y → x ≢ y → AreRelated F related x y

-- where it copies one variable to another, copies link both
abbrev pub IsLinkedItem : Func → Instr → Type 0
IsLinkedItem F item = (x y : ℕ) → Copies item x y → AreLinked F x y

-- ---- how clashes are found

abbrev pub IsClash : List Instr → Clash → Type 0
IsClash code c = Clashes code c.item c.one c.other ⊎ Clashes code c.item c.other c.one

-- clashes with x at the items before these points were added, and no others
pub record AddsClashes (code : List Instr) (related : List Bool) (x : ℕ) (IsPoint : ℕ → Type 0) (old new : List Clash) : Type 0 where
  pub kept : (c : Clash) → Contains old c → Contains new c
  pub only : (c : Clash) → Contains new c → Contains old c ⊎ IsClash code c
  pub all : (item y : ℕ) → IsPoint (suc item) → is_marked related y ≡ true → Clashes code item y x → HasBoth new item y x

-- each is alone
abbrev pub AreAlone : List ℕ → Type 0
AreAlone class = (x : ℕ) → class_of class x ≡ x

-- ---- marks

-- the variables that the item copies have marks now, as far as there are marks for them
pub record Relates (item : Instr) (old new : List Bool) : Type 0 where
  pub long : length new ≡ length old
  pub kept : (x : ℕ) → is_marked old x ≡ true → is_marked new x ≡ true
  pub both : (x y : ℕ) → Copies item x y → (x < length old → is_marked new x ≡ true) × (y < length old → is_marked new y ≡ true)
