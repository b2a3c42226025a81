-- What tests say of code that is written out.
use Rattle.std.proofs.Common.{◌≡◌, ◌≢◌, ◌∙◌, ◌⊎◌, inl, inr, refl, sym, ap, subst, Bool, true, false, ◌&&◌, ◌||◌, ℕ, zero, suc, ◌+◌, ◌<◌, List, [], ◌∷◌, ◌++◌, map, not, Option, Some, None, arith, rules}
use Rattle.std.specs.Prelude.{◌==◌, slice_get, bytes_eq, All}
use Rattle.std.specs.List.{AllPairs, list_all, list_any, range_with_len}
use Rattle.std.proofs.lemmas.Bool.{and_parts}
use Rattle.std.proofs.lemmas.List.Elements.{All-cons, All-nil}
use Rattle.std.proofs.lemmas.List.Kept.{AllPairs-cons}
use Rattle.std.proofs.lemmas.Slice.Eq.{bytes_eq-Decides}
use Rattle.bril_tree.specs.declared.numbered.Instr.{Instr}
use Rattle.bril_tree.specs.Assigned.{assigns_at}
use Rattle.bril_tree.specs.Edge.{Branch, branches_at, branches_from}
use Rattle.bril_tree.specs.Membership.{In}
use Rattle.bril_tree.specs.Operand.{Location, Variable, Shadow, reads_of}
use Rattle.bril_tree.specs.Walk.{IsReached, IsWalk, end_of}
use Rattle.bril_tree.proofs.Elements.{get_in, passes_in}
use Rattle.bril_tree.proofs.Members.{in_append_cases, in_contains}
use Rattle.bril_demo.proofs.Quiet.{Flows, is_quiet}

pub all_tested : {X : Type 0} (P : X → Type 0) (test : X → Bool) → ((x : X) → test x ≡ true → P x) → (xs : List X) → list_all test xs ≡ true → All P xs
all_tested P test holds [] e = All-nil P
all_tested P test holds (x ∷ xs) e = let parts = and_parts (test x) (list_all test xs) e in All-cons P x xs (holds x parts.0) (all_tested P test holds xs parts.1)

-- ---- names that differ

module _ {X : Type 0} (name : X → List ℕ) where
  abbrev pub differ : List X → Bool
  differ [] = true
  differ (x ∷ xs) = list_all (λ y. not (bytes_eq (name x) (name y))) xs && differ xs

  pub apart : (x y : X) → not (bytes_eq (name x) (name y)) ≡ true → name x ≢ name y
  apart x y e same = let t : bytes_eq (name x) (name y) ≡ true = search (rules, bytes_eq-Decides) in let f : not true ≡ true = ap not (sym t) ∙ e in cc

  pub differ_pairs : (xs : List X) → differ xs ≡ true → AllPairs (λ x y. name x ≢ name y) xs
  differ_pairs [] e = λ i j d less within. absurd (omega arith)
  differ_pairs (x ∷ xs) e =
      let parts = and_parts (list_all (λ y. not (bytes_eq (name x) (name y))) xs) (differ xs) e in
      AllPairs-cons (λ x y. name x ≢ name y) x xs (all_tested (λ y. name x ≢ name y) (λ y. not (bytes_eq (name x) (name y))) (apart x) xs parts.0) (differ_pairs xs parts.1)

-- ---- locations

abbrev pub same_place : Location → Location → Bool
same_place (Variable x) (Variable y) = x == y
same_place (Variable x) (Shadow y) = false
same_place (Shadow x) (Variable y) = false
same_place (Shadow x) (Shadow y) = x == y

pub one_place : (a b : Location) → same_place a b ≡ true → a ≡ b
one_place (Variable x) (Variable y) e = let h : x ≡ y = search rules in ap Variable h
one_place (Variable x) (Shadow y) e = absurd (let f : false ≡ true = e in cc)
one_place (Shadow x) (Variable y) e = absurd (let f : false ≡ true = e in cc)
one_place (Shadow x) (Shadow y) e = let h : x ≡ y = search rules in ap Shadow h

-- a list has a location, and all of others
abbrev pub has : List Location → Location → Bool
has list a = list_any (λ b. same_place a b) list

has_by : (list : List Location) (a b : Location) → (has list a ≡ true → In a list) → (t : Bool) → same_place a b ≡ t → (same_place a b || has list a) ≡ true → In a (b ∷ list)
has_by list a b rest true is o = inl (one_place a b is)
has_by list a b rest false is o = inr (rest (sym (ap (λ t. t || has list a) is) ∙ o))

pub has_in : (list : List Location) (a : Location) → has list a ≡ true → In a list
has_in [] a e = absurd (let f : false ≡ true = e in cc)
has_in (b ∷ list) a e = has_by list a b (has_in list a) (same_place a b) refl e

-- ---- a test of each point

module _ (good : ℕ → Instr → Bool) where
  -- from a point on
  abbrev pub test_from : ℕ → List Instr → Bool
  test_from i [] = true
  test_from i (item ∷ items) = good i item && test_from (i + 1) items

  tested_from : (i : ℕ) (items : List Instr) → test_from i items ≡ true → (k : ℕ) (item : Instr) → slice_get items k ≡ Some item → good (i + k) item ≡ true
  tested_from i [] e k item at = absurd (let f : None ≡ Some item = at in cc)
  tested_from i (x ∷ items) e zero item at =
      let parts = and_parts (good i x) (test_from (i + 1) items) e in
      let same : x ≡ item = (let h : Some x ≡ Some item = at in cc) in
      let here : i ≡ i + 0 = omega arith in
      subst (λ (p : ℕ). good p item ≡ true) here (subst (λ (y : Instr). good i y ≡ true) same parts.0)
  tested_from i (x ∷ items) e (suc k) item at =
      let parts = and_parts (good i x) (test_from (i + 1) items) e in
      let here : (i + 1) + k ≡ i + suc k = omega arith in
      subst (λ (p : ℕ). good p item ≡ true) here (tested_from (i + 1) items parts.1 k item at)

  pub tested_at : (code : List Instr) → test_from 0 code ≡ true → (i : ℕ) (item : Instr) → slice_get code i ≡ Some item → good i item ≡ true
  tested_at code e i item at = let here : 0 + i ≡ i = omega arith in subst (λ (p : ℕ). good p item ≡ true) here (tested_from 0 code e i item at)

-- ---- points to which no edge goes

module _ (code : List Instr) (end : ℕ) where
  abbrev pub passes_by : ℕ → Instr → Bool
  passes_by i item = list_all (λ (w : Branch). not (w.to == end)) (branches_from code i (Some item))

  no_edge : test_from passes_by 0 code ≡ true → (i : ℕ) (w : Branch) (o : Option Instr) → slice_get code i ≡ o → In w (branches_from code i o) → w.to ≡ end → ⊥
  no_edge e i w None at among to = absurd among
  no_edge e i w (Some item) at among to =
      let t : not (w.to == end) ≡ true = passes_in (λ (v : Branch). not (v.to == end)) (branches_from code i (Some item)) w (tested_at passes_by code e i item at) among in
      let u : (w.to == end) ≡ true = search rules in
      let f : not true ≡ true = ap not (sym u) ∙ t in cc

  pub never_reached : 0 < end → test_from passes_by 0 code ≡ true → IsReached code end → ⊥
  never_reached later e reached = by reached.walk reached.is reached.ends
    where
      by : (walk : List Branch) → IsWalk code walk → end_of walk ≡ end → ⊥
      by [] is ends = let h : 0 ≡ end = ends in omega arith
      by (w ∷ walk) is ends = no_edge e (end_of walk) w (slice_get code (end_of walk)) refl (in_contains w (branches_at code (end_of walk)) is.0) ends

-- ---- flow by a table: at each point of the code the locations that must be assigned there

module _ (code : List Instr) (table : ℕ → List Location) where
  abbrev pub next_test : ℕ → Instr → Bool
  next_test i item = list_all (λ (w : Branch). list_all (has (assigns_at (Some item) ++ table i)) (table w.to)) (branches_from code i (Some item))

  abbrev pub read_test : ℕ → Instr → Bool
  read_test i item = list_all (has (table i)) (reads_of item)

  abbrev pub Tabled : ℕ → Location → Type 0
  Tabled i a = In a (table i)

  module _ (reads : test_from read_test 0 code ≡ true) (goes_on : test_from next_test 0 code ≡ true) where
    pub reads_tabled : (point : ℕ) (item : Instr) (a : Location) → slice_get code point ≡ Some item → In a (reads_of item) → Tabled point a
    reads_tabled point item a at among = has_in (table point) a (passes_in (has (table point)) (reads_of item) a (tested_at read_test code reads point item at) among)

    next_by : (i : ℕ) (w : Branch) (o : Option Instr) → slice_get code i ≡ o → In w (branches_from code i o) → (a : Location) → Tabled w.to a → In a (assigns_at o) ⊎ Tabled i a
    next_by i w None at among a must = absurd among
    next_by i w (Some item) at among a must =
        let all = passes_in (λ (v : Branch). list_all (has (assigns_at (Some item) ++ table i)) (table v.to)) (branches_from code i (Some item)) w (tested_at next_test code goes_on i item at) among in
        in_append_cases a (assigns_at (Some item)) (table i) (has_in (assigns_at (Some item) ++ table i) a (passes_in (has (assigns_at (Some item) ++ table i)) (table w.to) a all must))

    pub flows_tabled : (quiet : (i : ℕ) (item : Instr) → slice_get code i ≡ Some item → is_quiet item ≡ true) (args : ℕ) → list_all (has (map Variable (range_with_len 0 args))) (table 0) ≡ true → Flows code quiet args Tabled
    flows_tabled quiet args starts = record {
      start = λ a must. has_in (map Variable (range_with_len 0 args)) a (passes_in (has (map Variable (range_with_len 0 args))) (table 0) a starts must);
      next = λ i w among a must. next_by i w (slice_get code i) refl among a must;
    }

-- ---- quiet code

pub quiet_tested : (code : List Instr) → list_all is_quiet code ≡ true → (i : ℕ) (item : Instr) → slice_get code i ≡ Some item → is_quiet item ≡ true
quiet_tested code e i item at = passes_in is_quiet code item e (get_in code i item at)
