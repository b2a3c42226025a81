-- What an item reads is known where a walk along the table leads to it.
use Rattle.std.proofs.Common.{◌≡◌, ℕ, ◌<◌, Bool, true, false, cond, List, [], ◌∷◌, map, Option, Some, None, refl, sym, ap, subst, ◌∙◌, inl, inr, ⊎_elim, arith}
use Rattle.std.specs.Prelude.{slice_get}
use Rattle.std.specs.List.{list_any, range_with_len}
use Rattle.bril_tree.specs.declared.numbered.Instr.{Instr}
use Rattle.bril_tree.specs.declared.value.Value.TheVariants.{Int, Bool as Boolean, Char, Ptr}
use Rattle.bril_tree.specs.Accepted.{AreWalksAccepted}
use Rattle.bril_tree.specs.Assigned.{Assigned, assigned_of, assigned_changed, newest_saved, assigns_at}
use Rattle.bril_tree.specs.Edge.{Branch, branches_at}
use Rattle.bril_tree.specs.Membership.{In}
use Rattle.bril_tree.specs.Operand.{Location, Variable, reads_of}
use Rattle.bril_tree.specs.Outcome.{Outcome, Yields, FaultsWith, HasEffect}
use Rattle.bril_tree.specs.Sites.{Change, Opens, Closes, Keeps, change_of, without_newest}
use Rattle.bril_tree.specs.Walk.{IsWalk, end_of}
use Rattle.bril_tree.proofs.Assignments.{in_or_not}
use Rattle.bril_tree.proofs.Branches.{branch_from}
use Rattle.bril_tree.proofs.LabelPoints.{range_high}
use Rattle.bril_tree.proofs.Members.{in_append_cases, in_contains, contains_in, in_map_source}
use Rattle.constant_pass.specs.declared.constants.known.Known.{Known}
use Rattle.constant_pass.specs.declared.constants.known.Known.TheVariants.{Nothing, One, Many}
use Rattle.constant_pass.specs.constants.Known.{IsBelow, is_many, is_nothing}
use Rattle.constant_pass.specs.constants.Answer.{Knowledge, answer, by_operands, given, known_outcome, locals_of}
use Rattle.constant_pass.specs.constants.Consistent.{IsConsistent, Table}
use Rattle.constant_pass.proofs.lemmas.constants.Rules.{any-found}

-- ---- answers that are something

outcome-some : (o : Outcome) → is_nothing (known_outcome o) ≡ false
outcome-some (Yields (Int n)) = refl
outcome-some (Yields (Boolean b)) = refl
outcome-some (Yields (Char c)) = refl
outcome-some (Yields (Ptr block offset)) = refl
outcome-some (FaultsWith kind) = refl
outcome-some HasEffect = refl

operands-some : (k : Knowledge) (xs : List Location) (a : Known) → ((x : Location) → In x xs → is_nothing (k x) ≡ false) → is_nothing a ≡ false → is_nothing (by_operands (map k xs) a) ≡ false
operands-some k xs a some e = by (list_any is_nothing (map k xs)) refl (list_any is_many (map k xs))
  where
    by : (n : Bool) → list_any is_nothing (map k xs) ≡ n → (m : Bool) → is_nothing (cond n Nothing (cond m Many a)) ≡ false
    by true en m = absurd (let r = any-found is_nothing k xs en in let f = sym r.2 ∙ some r.0 r.1 in cc)
    by false en true = refl
    by false en false = e

pub answer-some : (k : Knowledge) (item : Instr) → ((x : Location) → In x (reads_of item) → is_nothing (k x) ≡ false) → is_nothing (answer k item) ≡ false
answer-some k item some = operands-some k (reads_of item) (known_outcome (given item (locals_of k))) some (outcome-some (given item (locals_of k)))

some-above : (a k : Known) → IsBelow a k → is_nothing a ≡ false → is_nothing k ≡ false
some-above Nothing k h e = absurd cc
some-above (One v) Nothing h e = absurd h
some-above (One v) (One w) h e = refl
some-above (One v) Many h e = refl
some-above Many Nothing h e = absurd h
some-above Many (One w) h e = absurd h
some-above Many Many h e = refl

-- ---- walks along a table

module _ (code : List Instr) (t : Table) where
  -- each point that the walk passes is reached
  abbrev pub IsAlong : List Branch → Type 0
  IsAlong [] = Unit {0}
  IsAlong (branch ∷ walk) = (t.reached (end_of walk) ≡ true) × IsAlong walk

  -- a walk along the table leads to the point, and it is reached
  pub record IsVisited (point : ℕ) : Type 0 where
    pub walk : List Branch
    pub is : IsWalk code walk
    pub ends : end_of walk ≡ point
    pub along : IsAlong walk
    pub reached : t.reached point ≡ true

  -- something is known of these locations, and of those of each saved list
  record AreSome (a : Assigned) : Type 0 where
    locations : (x : Location) → In x a.locations → is_nothing (t.known x) ≡ false
    saved : (xs : List Location) → In xs a.saved → (x : Location) → In x xs → is_nothing (t.known x) ≡ false

  newest-some : (xs : List Location) (saved : List (List Location)) → ((x : Location) → In x xs → is_nothing (t.known x) ≡ false) → ((ys : List Location) → In ys saved → (x : Location) → In x ys → is_nothing (t.known x) ≡ false)
      → (x : Location) → In x (newest_saved xs saved) → is_nothing (t.known x) ≡ false
  newest-some xs [] h s x i = h x i
  newest-some xs (ys ∷ saved) h s x i = s ys (inl refl) x i

  older-some : (saved : List (List Location)) (xs : List Location) → In xs (without_newest saved) → In xs saved
  older-some [] xs i = i
  older-some (ys ∷ saved) xs i = inr i

  some-changed : (c : Change) (xs : List Location) (aborts : Bool) (a : Assigned) → AreSome a → ((x : Location) → In x xs → is_nothing (t.known x) ≡ false) → AreSome (assigned_changed c xs aborts a)
  some-changed Opens xs aborts a h n = record { locations = h.locations; saved = λ ys i. ⊎_elim (λ e. λ x j. h.locations x (subst (In x) e j)) (λ j. h.saved ys j) i }
  some-changed Closes xs true a h n = record { locations = newest-some a.locations a.saved h.locations h.saved; saved = λ ys i. h.saved ys (older-some a.saved ys i) }
  some-changed Closes xs false a h n = record { locations = h.locations; saved = λ ys i. h.saved ys (older-some a.saved ys i) }
  some-changed Keeps xs aborts a h n = record { locations = λ x i. ⊎_elim (n x) (h.locations x) (in_append_cases x xs a.locations i); saved = h.saved }

  module _ (args : ℕ) (ret : Bool) (walks : AreWalksAccepted code args ret) (c : IsConsistent code args t) where
    -- what an item reads is assigned on each walk to it
    pub read-assigned : (walk : List Branch) → IsWalk code walk → (item : Instr) → slice_get code (end_of walk) ≡ Some item → (x : Location) → In x (reads_of item) → In x (assigned_of code args walk).locations
    read-assigned walk is item at x i = ⊎_elim (λ j. j) (λ n. absurd (lacks n)) (in_or_not x (assigned_of code args walk).locations)
      where
        lacks : (In x (assigned_of code args walk).locations → ⊥) → ⊥
        lacks n = walks.assigned (end_of walk) item x at (contains_in x (reads_of item) i) (record { walk = walk; is = is; ends = refl; lacks = λ d. n (in_contains x (assigned_of code args walk).locations d) })

    arguments-some : (x : Location) → In x (map Variable (range_with_len 0 args)) → is_nothing (t.known x) ≡ false
    arguments-some x i =
        let s = in_map_source Variable x (range_with_len 0 args) i in
        let high = range_high 0 args s.0 s.1 in
        let low : s.0 < args = omega arith in
        ap (λ y. is_nothing (t.known y)) s.2 ∙ ap is_nothing (c.arguments s.0 low)

    -- what a walk along the table assigned is something
    along-some : (walk : List Branch) → IsWalk code walk → IsAlong walk → AreSome (assigned_of code args walk)
    along-some [] is along = record { locations = arguments-some; saved = λ xs i. absurd i }
    along-some (branch ∷ walk) is along =
        let h = along-some walk is.1 along.1 in
        some-changed (change_of code branch) (assigns_at (slice_get code branch.from)) branch.aborts (assigned_of code args walk) h
        (subst (λ n. (x : Location) → In x (assigns_at (slice_get code n)) → is_nothing (t.known x) ≡ false) (sym (branch_from code (end_of walk) branch (in_contains branch (branches_at code (end_of walk)) is.0)))
        (by (slice_get code (end_of walk)) refl h))
      where
        by : (o : Option Instr) → slice_get code (end_of walk) ≡ o → AreSome (assigned_of code args walk) → (x : Location) → In x (assigns_at o) → is_nothing (t.known x) ≡ false
        by None e h x i = absurd i
        by (Some item) e h x i = some-above (answer t.known item) (t.known x) (c.assigned (end_of walk) item e along.0 x i) (answer-some t.known item (λ y j. h.locations y (read-assigned walk is.1 item e y j)))

    -- what the item at a visited point reads is something
    pub reads-some : (point : ℕ) → IsVisited point → (item : Instr) → slice_get code point ≡ Some item → (x : Location) → In x (reads_of item) → is_nothing (t.known x) ≡ false
    reads-some point v item at x i = (along-some v.walk v.is v.along).locations x (read-assigned v.walk v.is item (ap (slice_get code) v.ends ∙ at) x i)
