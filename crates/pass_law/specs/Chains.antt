-- What a list of names does to a program, each name given to the first pass that answers to it. The passes are of any
-- type B, each with its meaning.
use Rattle.std.specs.Prelude.{◌≡◌, ℕ, suc, ◌*◌, Bool, true, false, List, [], ◌∷◌, map, take, Option, Some, None, slice_get}
use Rattle.std.specs.List.{AllZip}
use Rattle.bril_profile.specs.declared.profile.Profile.{Profile}
use Rattle.bril_tree.specs.declared.program.Prog.{Prog}
use Rattle.bril_tree.specs.Accepted.{IsAccepted}
use Rattle.bril_tree.specs.Run.{Refines}
use Rattle.bril_tree.specs.Size.{item_count}
use Rattle.pass_law.specs.Bounds.{HasLongBound}
use Rattle.pass_law.specs.Meaning.{Meaning, HasNumbers, Link, SameMeaning}
use Rattle.pass_law.specs.Tallies.{grown}
use Rattle.pass_law.specs.declared.tally.Tally.{Tally}

-- the first of two that is there
abbrev pub or_else : {X : Type 0} → Bool → X → Option X → Option X
or_else true x rest = Some x
or_else false x rest = rest

-- the tally of the one that answers grows; else those of the rest change
abbrev pub grown_if : Bool → (seen made : ℕ) → Tally → (rest changed : List Tally) → List Tally
grown_if true seen made t rest changed = grown t seen made ∷ rest
grown_if false seen made t rest changed = t ∷ changed

-- a place one further, where there is one
abbrev pub further : Option ℕ → Option ℕ
further None = None
further (Some n) = Some (suc n)

-- the first place, where there is nothing; else one further than in the rest
abbrev pub unknown_from : {X : Type 0} → Option X → Option ℕ → Option ℕ
unknown_from None rest = Some 1
unknown_from (Some x) rest = further rest

-- a number of each kind, and their product
pub record IsProduct (IsFirst IsRest : ℕ → Type 0) (k : ℕ) : Type 0 where
  pub first : ℕ
  pub rest : ℕ
  pub is_first : IsFirst first
  pub is_rest : IsRest rest
  pub is : k ≡ first * rest

module _ {B : Type 0} (meaning : B → Meaning) where
  -- the first pass that answers to the name
  abbrev pub first_answering : List B → List ℕ → Option B
  first_answering [] name = None
  first_answering (pass ∷ passes) name = or_else ((meaning pass).answers name) pass (first_answering passes name)

  -- the tallies after that pass made a program of `made` items of one of `seen`
  abbrev pub tallied : List B → List ℕ → (seen made : ℕ) → List Tally → List Tally
  tallied [] name seen made ts = ts
  tallied (pass ∷ passes) name seen made [] = []
  tallied (pass ∷ passes) name seen made (t ∷ ts) = grown_if ((meaning pass).answers name) seen made t ts (tallied passes name seen made ts)

  module _ (passes : List B) (profile : Profile) where
    -- the first pass that answers to the name made Q of P
    pub record IsLinked (name : List ℕ) (P Q : Prog) : Type 0 where
      pub pass : B
      pub first : first_answering passes name ≡ Some pass
      pub numbers : HasNumbers (meaning pass)
      pub link : Link (meaning pass) profile P Q

    -- from P to Q by one link for each name; the programs after each link
    abbrev pub Chain : List (List ℕ) → Prog → List Prog → Prog → Type 0
    Chain [] P [] Q = P ≡ Q
    Chain [] P (R ∷ Rs) Q = ⊥
    Chain (name ∷ names) P [] Q = ⊥
    Chain (name ∷ names) P (R ∷ Rs) Q = IsLinked name P R × Chain names R Rs Q

    -- the factor of the first pass that answers; 1 where none does
    abbrev pub IsFactorOf : Option B → Prog → ℕ → Type 0
    IsFactorOf None P k = k ≡ 1
    IsFactorOf (Some pass) P k = (meaning pass).IsFactor P profile k

    -- the product of the factors of a chain
    abbrev pub AreFactors : List (List ℕ) → Prog → List Prog → ℕ → Type 0
    AreFactors [] P Rs k = k ≡ 1
    AreFactors (name ∷ names) P [] k = k ≡ 1
    AreFactors (name ∷ names) P (R ∷ Rs) k = IsProduct (IsFactorOf (first_answering passes name) P) (AreFactors names R Rs) k

    -- the tallies after a chain
    abbrev pub tallies_after : List (List ℕ) → Prog → List Prog → List Tally → List Tally
    tallies_after [] P Rs ts = ts
    tallies_after (name ∷ names) P [] ts = ts
    tallies_after (name ∷ names) P (R ∷ Rs) ts = tallies_after names R Rs (tallied passes name (item_count P) (item_count R) ts)

    -- from 1, the place of the first name to which no pass answers
    abbrev pub first_unknown : List (List ℕ) → Option ℕ
    first_unknown [] = None
    first_unknown (name ∷ names) = unknown_from (first_answering passes name) (first_unknown names)

    module _ (counts : B → Tally) where
      -- the names ran, from P to Q, and the passes are now `after`, with their tallies grown by the links
      pub record Ran (names : List (List ℕ)) (P Q : Prog) (after : List B) : Type 0 where
        pub programs : List Prog
        pub chain : Chain names P programs Q
        pub tallies : map counts after ≡ tallies_after names P programs (map counts passes)

      -- the names before a place ran, and the pass of that place refuses the program that they made
      pub record StoppedAt (names : List (List ℕ)) (P : Prog) (place bound : ℕ) (Q : Prog) (after : List B) : Type 0 where
        pub before : ℕ
        pub is : place ≡ suc before
        pub ran : Ran (take before names) P Q after
        pub name : List ℕ
        pub here : slice_get names before ≡ Some name
        pub pass : B
        pub first : first_answering passes name ≡ Some pass
        pub numbers : HasNumbers (meaning pass)
        pub long : HasLongBound ((meaning pass).IsBound Q profile) (item_count Q) bound

      -- memory was wanting after some of the names had run
      pub record CutOff (names : List (List ℕ)) (P : Prog) (after : List B) : Type 0 where
        pub before : ℕ
        pub program : Prog
        pub ran : Ran (take before names) P program after

  -- no pass has changed its meaning
  abbrev pub AllSame : List B → List B → Type 0
  AllSame passes after = AllZip (λ p q. SameMeaning (meaning p) (meaning q)) passes after

-- There is one product of a chain's factors, and with it the program at its end refines the one at its beginning, and is accepted.
pub record IsRefiningChain {B : Type 0} (meaning : B → Meaning) (passes : List B) (profile : Profile) (names : List (List ℕ)) (P : Prog) (programs : List Prog) (Q : Prog) : Type 0 where
  pub some : (k : ℕ) × AreFactors meaning passes profile names P programs k
  pub one : (j k : ℕ) → AreFactors meaning passes profile names P programs j → AreFactors meaning passes profile names P programs k → j ≡ k
  pub refines : (k : ℕ) → AreFactors meaning passes profile names P programs k → Refines P Q k
  pub accepted : IsAccepted Q

abbrev pub ChainsRefine : {B : Type 0} → (B → Meaning) → Type 0
ChainsRefine {B} meaning = (passes : List B) (profile : Profile) (names : List (List ℕ)) (P : Prog) (programs : List Prog) (Q : Prog) → IsAccepted P → Chain meaning passes profile names P programs Q
    → IsRefiningChain meaning passes profile names P programs Q
