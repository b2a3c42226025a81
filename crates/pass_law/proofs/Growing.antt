-- Chains that grow by a link, and lists of names of which some are known.
use Rattle.std.proofs.Common.{◌≡◌, ℕ, zero, suc, ◌+◌, ◌<◌, ◌≤◌, Bool, true, false, List, [], ◌∷◌, ◌++◌, length, map, take, get_or, Option, Some, None, refl, sym, ap, subst, ◌∙◌, arith}
use Rattle.std.specs.Prelude.{IsSome, is_some, slice_get}
use Rattle.std.proofs.lemmas.Option.{slice_get-get_or}
use Rattle.bril_profile.specs.declared.profile.Profile.{Profile}
use Rattle.bril_tree.specs.declared.program.Prog.{Prog}
use Rattle.bril_tree.specs.Size.{item_count}
use Rattle.pass_law.specs.Bounds.{HasLongBound}
use Rattle.pass_law.specs.Chains.{further, first_answering, tallied, IsLinked, Chain, tallies_after, unknown_from, first_unknown, Ran, StoppedAt, AllSame}
use Rattle.pass_law.specs.Meaning.{Meaning, IsRefused}
use Rattle.pass_law.specs.Stops.{IsRefusedBy}
use Rattle.pass_law.specs.declared.fault.PassFault.{PassFault}
use Rattle.pass_law.specs.declared.fault.PassFault.TheVariants.{TooLarge}
use Rattle.pass_law.specs.declared.tally.Tally.{Tally}
use Rattle.pass_law.proofs.Same.{linked-before, tallied-same, answered-before, HasNumbers-same, HasLongBound-same}

-- one name more
take-more : (names : List (List ℕ)) (i : ℕ) (name : List ℕ) → slice_get names i ≡ Some name → take (suc i) names ≡ take i names ++ name ∷ []
take-more [] i name e = absurd (let n : None ≡ Some name = e in cc)
take-more (n ∷ names) zero name e = let s : n ≡ name = cc in λ k. s k ∷ []
take-more (n ∷ names) (suc i) name e = ap (λ l. n ∷ l) (take-more names i name e)

take-one_more : (names : List (List ℕ)) (i : ℕ) (name : List ℕ) → slice_get names i ≡ Some name → take (i + 1) names ≡ take i names ++ name ∷ []
take-one_more names i name e = let one : i + 1 ≡ suc i = omega arith in ap (λ n. take n names) one ∙ take-more names i name e

take-past : (names : List (List ℕ)) (i : ℕ) → length names ≤ i → take i names ≡ names
take-past [] zero h = refl
take-past [] (suc i) h = refl
take-past (n ∷ names) zero h = absurd (omega arith)
take-past (n ∷ names) (suc i) h = ap (λ l. n ∷ l) (take-past names i (omega arith))

module _ {B : Type 0} (meaning : B → Meaning) (passes : List B) (profile : Profile) where
  Chain-more : (names : List (List ℕ)) (P : Prog) (Rs : List Prog) (Q R : Prog) (name : List ℕ) → Chain meaning passes profile names P Rs Q → IsLinked meaning passes profile name Q R → Chain meaning passes profile (names ++ name ∷ []) P (Rs ++ R ∷ []) R
  Chain-more [] P [] Q R name c l = (subst (λ z. IsLinked meaning passes profile name z R) (sym c) l, refl)
  Chain-more [] P (X ∷ Xs) Q R name c l = absurd c
  Chain-more (n ∷ names) P [] Q R name c l = absurd c
  Chain-more (n ∷ names) P (X ∷ Xs) Q R name c l = (c.0, Chain-more names X Xs Q R name c.1 l)

  tallies_after-more : (names : List (List ℕ)) (P : Prog) (Rs : List Prog) (Q R : Prog) (name : List ℕ) (ts : List Tally) → Chain meaning passes profile names P Rs Q
      → tallies_after meaning passes profile (names ++ name ∷ []) P (Rs ++ R ∷ []) ts ≡ tallied meaning passes name (item_count Q) (item_count R) (tallies_after meaning passes profile names P Rs ts)
  tallies_after-more [] P [] Q R name ts c = ap (λ z. tallied meaning passes name (item_count z) (item_count R) ts) c
  tallies_after-more [] P (X ∷ Xs) Q R name ts c = absurd c
  tallies_after-more (n ∷ names) P [] Q R name ts c = absurd c
  tallies_after-more (n ∷ names) P (X ∷ Xs) Q R name ts c = tallies_after-more names X Xs Q R name (tallied meaning passes n (item_count P) (item_count X) ts) c.1

  module _ (counts : B → Tally) where
    pub Ran-start : (names : List (List ℕ)) (P : Prog) → Ran meaning passes profile counts (take 0 names) P P passes
    Ran-start names P = record { programs = []; chain = refl; tallies = refl }

    -- the name at i ran too
    pub Ran-more : (names : List (List ℕ)) (i : ℕ) (name : List ℕ) (P Q R : Prog) (now after : List B) → slice_get names i ≡ Some name → AllSame meaning passes now → Ran meaning passes profile counts (take i names) P Q now
        → IsLinked meaning now profile name Q R → map counts after ≡ tallied meaning now name (item_count Q) (item_count R) (map counts now) → Ran meaning passes profile counts (take (i + 1) names) P R after
    Ran-more names i name P Q R now after at same ran linked counted =
        subst (λ l. Ran meaning passes profile counts l P R after) (sym (take-one_more names i name at))
        (record {
          programs = ran.programs ++ R ∷ [];
          chain = Chain-more (take i names) P ran.programs Q R name ran.chain (linked-before meaning passes now profile name Q R same linked);
          tallies = counted ∙ tallied-same meaning passes now name (item_count Q) (item_count R) (map counts now) same ∙ ap (tallied meaning passes name (item_count Q) (item_count R)) ran.tallies
              ∙ sym (tallies_after-more (take i names) P ran.programs Q R name (map counts passes) ran.chain);
        })

    -- tallies that stay
    pub Ran-tallies : (names : List (List ℕ)) (P Q : Prog) (now after : List B) → Ran meaning passes profile counts names P Q now → map counts after ≡ map counts now → Ran meaning passes profile counts names P Q after
    Ran-tallies names P Q now after ran e = record { programs = ran.programs; chain = ran.chain; tallies = e ∙ ran.tallies }

    pub stopped-at : (names : List (List ℕ)) (i : ℕ) (name : List ℕ) (P Q : Prog) (now after : List B) (fault : PassFault) (bound told place : ℕ) → fault ≡ TooLarge bound → bound ≡ told → place ≡ suc i → slice_get names i ≡ Some name → AllSame meaning passes now → Ran meaning passes profile counts (take i names) P Q now
        → IsRefusedBy meaning now profile name Q fault → map counts after ≡ map counts now → StoppedAt meaning passes profile counts names P place told Q after
    stopped-at names i name P Q now after fault bound told place fault-is told-is is at same ran refused e =
        let b = answered-before meaning passes now name refused.pass same refused.first in
        let why = subst (IsRefused ((meaning refused.pass).IsBound Q profile) (item_count Q)) fault-is refused.refused in
        record {
          before = i;
          is = is;
          ran = Ran-tallies (take i names) P Q now after ran e;
          name = name;
          here = at;
          pass = b.pass;
          first = b.first;
          numbers = HasNumbers-same (meaning b.pass) (meaning refused.pass) b.same refused.numbers;
          long = HasLongBound-same (meaning b.pass) (meaning refused.pass) b.same profile Q (item_count Q) told (subst (HasLongBound ((meaning refused.pass).IsBound Q profile) (item_count Q)) told-is why);
        }

  -- ---- names to which some pass answers

  known-more_suc : (names : List (List ℕ)) (i : ℕ) (name : List ℕ) → slice_get names i ≡ Some name → first_unknown meaning passes profile (take i names) ≡ None → IsSome (first_answering meaning passes name) → first_unknown meaning passes profile (take (suc i) names) ≡ None
  known-more_suc [] i name at known some = absurd (let n : None ≡ Some name = at in cc)
  known-more_suc (n ∷ names) zero name at known some = by (first_answering meaning passes n) (subst (λ m. IsSome (first_answering meaning passes m)) (let e : n ≡ name = cc in sym e) some)
    where
      by : (o : Option B) → IsSome o → unknown_from o None ≡ None
      by None h = absurd cc
      by (Some p) h = refl
  known-more_suc (n ∷ names) (suc i) name at known some = by (first_answering meaning passes n) (first_unknown meaning passes profile (take i names)) (first_unknown meaning passes profile (take (suc i) names)) known (λ e. known-more_suc names i name at e some)
    where
      by : (o : Option B) (rest more : Option ℕ) → unknown_from o rest ≡ None → (rest ≡ None → more ≡ None) → unknown_from o more ≡ None
      by None rest more e h = absurd cc
      by (Some p) None more e h = ap further (h refl)
      by (Some p) (Some k) more e h = absurd cc

  unknown-found_suc : (names : List (List ℕ)) (i : ℕ) (name : List ℕ) → slice_get names i ≡ Some name → first_unknown meaning passes profile (take i names) ≡ None → first_answering meaning passes name ≡ None → first_unknown meaning passes profile names ≡ Some (suc i)
  unknown-found_suc [] i name at known none = absurd (let n : None ≡ Some name = at in cc)
  unknown-found_suc (n ∷ names) zero name at known none =
      let e : n ≡ name = cc in
      ap (λ o. unknown_from o (first_unknown meaning passes profile names)) (ap (first_answering meaning passes) e ∙ none)
  unknown-found_suc (n ∷ names) (suc i) name at known none = by (first_answering meaning passes n) (first_unknown meaning passes profile (take i names)) (first_unknown meaning passes profile names) known (λ e. unknown-found_suc names i name at e none)
    where
      by : (o : Option B) (rest all : Option ℕ) → unknown_from o rest ≡ None → (rest ≡ None → all ≡ Some (suc i)) → unknown_from o all ≡ Some (suc (suc i))
      by None rest all e h = absurd cc
      by (Some p) None all e h = ap further (h refl)
      by (Some p) (Some k) all e h = absurd cc

  -- where all are known, each is
  pub known-at : (names : List (List ℕ)) (i : ℕ) (name : List ℕ) → slice_get names i ≡ Some name → first_unknown meaning passes profile names ≡ None → IsSome (first_answering meaning passes name)
  known-at [] i name at known = absurd (let n : None ≡ Some name = at in cc)
  known-at (n ∷ names) zero name at known = by (first_answering meaning passes n) (first_unknown meaning passes profile names) known (let e : n ≡ name = cc in ap (first_answering meaning passes) e)
    where
      by : (o : Option B) (rest : Option ℕ) → unknown_from o rest ≡ None → o ≡ first_answering meaning passes name → IsSome (first_answering meaning passes name)
      by None rest e s = absurd cc
      by (Some p) rest e s = subst IsSome s refl
  known-at (n ∷ names) (suc i) name at known = by (first_answering meaning passes n) (first_unknown meaning passes profile names) known (λ e. known-at names i name at e)
    where
      by : (o : Option B) (rest : Option ℕ) → unknown_from o rest ≡ None → (rest ≡ None → IsSome (first_answering meaning passes name)) → IsSome (first_answering meaning passes name)
      by None rest e h = absurd cc
      by (Some p) None e h = h refl
      by (Some p) (Some k) e h = absurd cc

  -- ---- by what the loops know: the name at i, as bytes

  pub known-more : (names : List (List ℕ)) (i : ℕ) (name : List ℕ) → slice_get names i ≡ Some name → first_unknown meaning passes profile (take i names) ≡ None → IsSome (first_answering meaning passes name) → first_unknown meaning passes profile (take (i + 1) names) ≡ None
  known-more names i name at known some = let one : i + 1 ≡ suc i = omega arith in ap (λ n. first_unknown meaning passes profile (take n names)) one ∙ known-more_suc names i name at known some

  pub unknown-found : (names : List (List ℕ)) (i : ℕ) (name : List ℕ) → slice_get names i ≡ Some name → first_unknown meaning passes profile (take i names) ≡ None → first_answering meaning passes name ≡ None → Some (i + 1) ≡ first_unknown meaning passes profile names
  unknown-found names i name at known none = let one : i + 1 ≡ suc i = omega arith in ap Some one ∙ sym (unknown-found_suc names i name at known none)

  pub known-all : (names : List (List ℕ)) (i : ℕ) → length names ≤ i → first_unknown meaning passes profile (take i names) ≡ None → None ≡ first_unknown meaning passes profile names
  known-all names i h known = sym known ∙ ap (first_unknown meaning passes profile) (take-past names i h)

  -- the same of a slice of the names
  pub known-slice : (slice names : List (List ℕ)) (o : Option ℕ) → slice ≡ names → o ≡ first_unknown meaning passes profile slice → first_unknown meaning passes profile names ≡ o
  known-slice slice names o e h = ap (first_unknown meaning passes profile) (sym e) ∙ sym h

pub none-answered : {X : Type 0} (o : Option X) (b : Bool) → b ≡ is_some o → b ≡ false → o ≡ None
none-answered None b e n = refl
none-answered (Some x) b e n = absurd cc

pub some-answered : {X : Type 0} (o : Option X) (b : Bool) → b ≡ is_some o → b ≡ true → IsSome o
some-answered o b e n = sym e ∙ n

pub name-at : (slice names : List (List ℕ)) (i : ℕ) (item bytes : List ℕ) → slice ≡ names → i < length slice → item ≡ get_or slice i item → bytes ≡ item → slice_get names i ≡ Some bytes
name-at slice names i item bytes e less is b = ap (λ l. slice_get l i) (sym e) ∙ slice_get-get_or slice i item less ∙ ap Some (sym is ∙ sym b)
