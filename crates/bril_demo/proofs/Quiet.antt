-- Functions without speculation: their walks have no open sites, and what is assigned on each walk to a point follows from what each
-- item assigns.
use Rattle.std.proofs.Common.{◌≡◌, ◌∙◌, ◌⊎◌, inl, inr, refl, sym, ap, subst, Bool, true, false, ℕ, List, [], ◌∷◌, ◌++◌, length, map, Option, Some, None, arith}
use Rattle.std.specs.Prelude.{slice_get, IsTrue}
use Rattle.std.specs.List.{range_with_len}
use Rattle.bril_tree.specs.declared.numbered.Instr.{Instr}
use Rattle.bril_tree.specs.declared.numbered.Instr.TheVariants.{Label, Const, Act}
use Rattle.bril_tree.specs.declared.operation.Op.{Op}
use Rattle.bril_tree.specs.declared.operation.Op.TheVariants as op
use Rattle.bril_tree.specs.Accepted.{AreWalksAccepted}
use Rattle.bril_tree.specs.Assigned.{assigned_of, assigned_changed, assigns_at}
use Rattle.bril_tree.specs.Edge.{Branch, branches_at}
use Rattle.bril_tree.specs.Membership.{In}
use Rattle.bril_tree.specs.Operand.{Location, Variable, reads_of}
use Rattle.bril_tree.specs.Sites.{Change, Keeps, SitesFail, TooMany, NoSite, Others, AreFirstSites, change_of, item_change, needs_site, operation_change, sites_behind, sites_changed, sites_of}
use Rattle.bril_tree.specs.Walk.{IsWalk, IsReached, end_of}
use Rattle.bril_tree.proofs.Branches.{branch_from}
use Rattle.bril_tree.proofs.Members.{in_contains, contains_in, in_append_left, in_append_right}

-- ---- items

abbrev pub is_quiet_operation : Op → Bool
is_quiet_operation op.Speculate = false
is_quiet_operation op.Commit = false
is_quiet_operation op.Guard = false
is_quiet_operation _ = true

-- the item neither opens nor closes a site
abbrev pub is_quiet : Instr → Bool
is_quiet (Label l) = true
is_quiet (Const dest ty value) = true
is_quiet (Act dest ty operation args funcs labels) = is_quiet_operation operation

operation_keeps : (o : Op) (aborts : Bool) → is_quiet_operation o ≡ true → operation_change o aborts ≡ Keeps
operation_keeps op.Speculate aborts quiet = absurd cc
operation_keeps op.Commit aborts quiet = absurd cc
operation_keeps op.Guard aborts quiet = absurd cc
operation_keeps _ aborts quiet = refl

item_keeps : (item : Instr) (aborts : Bool) → is_quiet item ≡ true → item_change (Some item) aborts ≡ Keeps
item_keeps (Label l) aborts quiet = refl
item_keeps (Const dest ty value) aborts quiet = refl
item_keeps (Act dest ty operation args funcs labels) aborts quiet = operation_keeps operation aborts quiet

item_needs_none : (item : Instr) → is_quiet item ≡ true → needs_site (Some item) ≡ false
item_needs_none (Label l) quiet = refl
item_needs_none (Const dest ty value) quiet = refl
item_needs_none (Act dest ty op.Speculate args funcs labels) quiet = absurd cc
item_needs_none (Act dest ty op.Commit args funcs labels) quiet = absurd cc
item_needs_none (Act dest ty op.Guard args funcs labels) quiet = absurd cc
item_needs_none (Act dest ty _ args funcs labels) quiet = refl

-- ---- walks

module _ (code : List Instr) (quiet : (i : ℕ) (item : Instr) → slice_get code i ≡ Some item → is_quiet item ≡ true) where
  change_keeps : (branch : Branch) → change_of code branch ≡ Keeps
  change_keeps branch = by (slice_get code branch.from) refl
    where
      by : (o : Option Instr) → slice_get code branch.from ≡ o → item_change (slice_get code branch.from) branch.aborts ≡ Keeps
      by None e = ap (λ (o : Option Instr). item_change o branch.aborts) e
      by (Some item) e = ap (λ (o : Option Instr). item_change o branch.aborts) e ∙ item_keeps item branch.aborts (quiet branch.from item e)

  behind_same : (branch : Branch) (sites : List ℕ) → sites_behind code branch sites ≡ sites
  behind_same branch sites = ap (λ (c : Change). sites_changed c branch.from sites) (change_keeps branch)

  no_sites : (walk : List Branch) → sites_of code walk ≡ []
  no_sites [] = refl
  no_sites (branch ∷ walk) = behind_same branch (sites_of code walk) ∙ no_sites walk

  first_none : (point : ℕ) (sites : List ℕ) → AreFirstSites code point sites → sites ≡ []
  first_none point sites first = sym first.are ∙ no_sites first.walk

  fails_nowhere : (point : ℕ) → SitesFail code point → ⊥
  fails_nowhere point (TooMany many) = let e = ap (λ (s : List ℕ). length s) (first_none point many.sites many.first) in let h = many.many in omega arith
  fails_nowhere point (NoSite lacks) = by (slice_get code point) refl lacks.needs
    where
      by : (o : Option Instr) → slice_get code point ≡ o → IsTrue (needs_site (slice_get code point)) → ⊥
      by None e needs = let h : needs_site (slice_get code point) ≡ false = ap needs_site e in let t : needs_site (slice_get code point) ≡ true = needs in absurd cc
      by (Some item) e needs =
          let h : needs_site (slice_get code point) ≡ false = ap needs_site e ∙ item_needs_none item (quiet point item e) in
          let t : needs_site (slice_get code point) ≡ true = needs in absurd cc
  fails_nowhere point (Others others) =
      others.other (behind_same others.branch others.before ∙ first_none others.branch.from others.before others.first_before ∙ sym (first_none point others.sites others.first))

  behind_assigns : (args : ℕ) (branch : Branch) (walk : List Branch)
      → (assigned_of code args (branch ∷ walk)).locations ≡ assigns_at (slice_get code branch.from) ++ (assigned_of code args walk).locations
  behind_assigns args branch walk = ap (λ (c : Change). (assigned_changed c (assigns_at (slice_get code branch.from)) branch.aborts (assigned_of code args walk)).locations) (change_keeps branch)

  -- what must be assigned at a point was assigned where control comes from, or is by the item there
  pub record Flows (args : ℕ) (Must : ℕ → Location → Type 0) : Type 0 where
    pub start : (a : Location) → Must 0 a → In a (map Variable (range_with_len 0 args))
    pub next : (i : ℕ) (w : Branch) → In w (branches_at code i) → (a : Location) → Must w.to a → In a (assigns_at (slice_get code i)) ⊎ Must i a

  assigned_next : (args : ℕ) (Must : ℕ → Location → Type 0) (branch : Branch) (walk : List Branch) (a : Location) → branch.from ≡ end_of walk
      → In a (assigns_at (slice_get code (end_of walk))) ⊎ In a (assigned_of code args walk).locations → In a (assigned_of code args (branch ∷ walk)).locations
  assigned_next args Must branch walk a from (inl here) =
      subst (λ (l : List Location). In a l) (sym (behind_assigns args branch walk))
      (in_append_left a (assigns_at (slice_get code branch.from)) (assigned_of code args walk).locations
      (subst (λ (p : ℕ). In a (assigns_at (slice_get code p))) (sym from) here))
  assigned_next args Must branch walk a from (inr before) =
      subst (λ (l : List Location). In a l) (sym (behind_assigns args branch walk))
      (in_append_right a (assigns_at (slice_get code branch.from)) (assigned_of code args walk).locations before)

  earlier : {A B C : Type 0} → (B → C) → A ⊎ B → A ⊎ C
  earlier f (inl x) = inl x
  earlier f (inr y) = inr (f y)

  assigned_there : (args : ℕ) (Must : ℕ → Location → Type 0) → Flows args Must → (walk : List Branch) → IsWalk code walk → (a : Location) → Must (end_of walk) a → In a (assigned_of code args walk).locations
  assigned_there args Must flows [] is a must = flows.start a must
  assigned_there args Must flows (branch ∷ walk) is a must =
      let among = in_contains branch (branches_at code (end_of walk)) is.0 in
      let from : branch.from ≡ end_of walk = branch_from code (end_of walk) branch among in
      assigned_next args Must branch walk a from (earlier (assigned_there args Must flows walk is.1 a) (flows.next (end_of walk) branch among a must))

  -- walks are accepted where each location that an item reads must be assigned, and a function that returns a value doesn't reach its end
  pub quiet_accepted : (args : ℕ) (returns : Bool) (Must : ℕ → Location → Type 0) → Flows args Must
      → ((point : ℕ) (item : Instr) (a : Location) → slice_get code point ≡ Some item → In a (reads_of item) → Must point a)
      → (IsTrue returns → IsReached code (length code) → ⊥) → AreWalksAccepted code args returns
  quiet_accepted args returns Must flows reads never = record {
    sites = fails_nowhere;
    alone = λ walk is leaves. no_sites walk;
    returns = never;
    assigned = λ point item a at among unassigned.
        unassigned.lacks (contains_in a (assigned_of code args unassigned.walk).locations
        (assigned_there args Must flows unassigned.walk unassigned.is a
        (subst (λ (p : ℕ). Must p a) (sym unassigned.ends) (reads point item a at (in_contains a (reads_of item) among)))));
  }
