-- No function has two first faults.
use Rattle.std.proofs.Common.{◌≡◌, ℕ, ◌<◌, ◌≤◌, List, ◌∷◌, ◌++◌, length, get_or, take, Some, All, sym, ap, ◌∙◌, subst, inl, inr, arith}
use Rattle.std.specs.Prelude.{◌⊎◌, slice_get}
use Rattle.std.proofs.Math.ListN.{get_or-append}
use Rattle.std.proofs.Math.Seq.{get_or-append_seam}
use Rattle.std.proofs.lemmas.Bool.{cases_lt}
use Rattle.bril_tree.specs.declared.numbered.Instr.{Instr}
use Rattle.bril_tree.specs.declared.numbered_function.Func.{Func}
use Rattle.bril_tree.specs.declared.program.Prog.{Prog}
use Rattle.bril_tree.specs.Assigned.{IsMaybeUnassigned}
use Rattle.bril_tree.specs.Operand.{Location, reads_of}
use Rattle.bril_tree.specs.Sites.{SitesFail}
use Rattle.bril_tree.specs.Typing.{type_fault, TypeFault}
use Rattle.definite_assignment.specs.Unassigned.{IsFirstUnassigned, ReadsUnassigned, variable_of}
use Rattle.flow_graph.specs.Graph.{IsLeastFailing}
use Rattle.bril_checker.specs.Faults.{HasShape, IsTyped, IsFirstMisshapen, IsFirstMistyped, IsFirstOpen, LeavesOpen, HasFaultWithin}
use Rattle.bril_checker.specs.declared.fault.CheckFault.{CheckFault}
use Rattle.bril_checker.specs.declared.fault.CheckFault.TheVariants.{Types, Arity, MaybeUnassigned, Nest, SpecCall, NoReturn, MainType, PrintPtr, Memory}
use Rattle.bril_checker.proofs.Positions.{holds_before}
use Rattle.bril_checker.proofs.Stages.{stage_of, same_stage, reads_unassigned}

-- two least numbers with one property are equal
least_by : (P : ℕ → Type 0) (m n : ℕ) → P m → P n → ((k : ℕ) → k < m → ¬ P k) → ((k : ℕ) → k < n → ¬ P k) → (m < n) ⊎ (n ≤ m) → (n < m) ⊎ (m ≤ n) → m ≡ n
least_by P m n here there least_here least_there (inl lt) _ = absurd (least_there m lt here)
least_by P m n here there least_here least_there (inr le) (inl lt) = absurd (least_here n lt there)
least_by P m n here there least_here least_there (inr le) (inr ge) = omega arith

pub same_least : (P : ℕ → Type 0) (m n : ℕ) → P m → P n → ((k : ℕ) → k < m → ¬ P k) → ((k : ℕ) → k < n → ¬ P k) → m ≡ n
same_least P m n here there least_here least_there = least_by P m n here there least_here least_there (cases_lt m n) (cases_lt n m)

-- the first place in a list at which a thing that isn't so stands
module _ {X : Type 0} (P : X → Type 0) (xs : List X) where
  abbrev Lacks : ℕ → Type 0
  Lacks i = (x : X) × (slice_get xs i ≡ Some x) × (¬ P x)

  pub same_first : (m n : ℕ) → Lacks m → Lacks n → All P (take m xs) → All P (take n xs) → m ≡ n
  same_first m n here there before_here before_there =
      same_least Lacks m n here there
      (λ k lt lacks. lacks.2 (holds_before P xs m k lacks.0 before_here lt lacks.1))
      (λ k lt lacks. lacks.2 (holds_before P xs n k lacks.0 before_there lt lacks.1))

module _ (p : Prog) (f : Func) where
  mistyped : (item : Instr) (fault : TypeFault) → type_fault p f item ≡ Some fault → ¬ IsTyped p f item
  mistyped item fault has typed = cc

  same_mistyped : (m n : ℕ) (here there : TypeFault) → IsFirstMistyped p f m here → IsFirstMistyped p f n there → (m ≡ n) × (here ≡ there)
  same_mistyped m n here there h i =
      let same = same_first (IsTyped p f) f.code m n (h.item, h.here, mistyped h.item here h.has) (i.item, i.here, mistyped i.item there i.has) h.before i.before in
      let at : slice_get f.code n ≡ Some h.item = subst (λ k. slice_get f.code k ≡ Some h.item) same h.here in
      let item : h.item ≡ i.item = cc (at, i.here) in
      let fault : here ≡ there = cc (item, h.has, i.has) in
      (same, fault)

  same_misshapen : (m n : ℕ) → IsFirstMisshapen p f m → IsFirstMisshapen p f n → m ≡ n
  same_misshapen m n h i = same_first (HasShape p f) f.code m n (h.item, h.here, h.lacks) (i.item, i.here, i.lacks) h.before i.before

  same_nest : (m n : ℕ) → IsLeastFailing f.code m → IsLeastFailing f.code n → m ≡ n
  same_nest m n h i = same_least (SitesFail f.code) m n h.fails i.fails h.least i.least

  same_open : (m n : ℕ) → IsFirstOpen f m → IsFirstOpen f n → m ≡ n
  same_open m n h i = same_least (LeavesOpen f) m n h.leaves i.leaves h.least i.least

  -- the place of one item's first unassigned place is the other's
  abbrev Unassigned : Location → ℕ → Type 0
  Unassigned place point = IsMaybeUnassigned f.code f.args place point

  not_before : (point : ℕ) (earlier later other_earlier : List Location) (place : Location) (reads : List Location) → reads ≡ earlier ++ place ∷ later → (other : Location) (other_later : List Location) → reads ≡ other_earlier ++ other ∷ other_later →
      All (λ q. ¬ Unassigned q point) other_earlier → Unassigned place point → length other_earlier ≤ length earlier
  not_before point earlier later other_earlier place reads e other other_later d none maybe =
      reach (cases_lt (length earlier) (length other_earlier))
    where
      reach : (length earlier < length other_earlier) ⊎ (length other_earlier ≤ length earlier) → length other_earlier ≤ length earlier
      reach (inr le) = le
      reach (inl lt) =
          let at : get_or other_earlier (length earlier) place ≡ place =
          sym (get_or-append other_earlier (other ∷ other_later) place (length earlier) lt) ∙ ap (λ l. get_or l (length earlier) place) (sym d ∙ e) ∙ get_or-append_seam earlier place later place in
          absurd (none (length earlier) place lt (subst (λ q. Unassigned q point) (sym at) maybe))

  same_place : (point : ℕ) (x y : ℕ) → IsFirstUnassigned f point x → IsFirstUnassigned f point y → x ≡ y
  same_place point x y h i =
      let item : h.item ≡ i.item = cc (h.here, i.here) in
      let reads : reads_of h.item ≡ i.earlier ++ i.location ∷ i.later = ap reads_of item ∙ i.reads in
      let no_later = not_before point h.earlier h.later i.earlier h.location (reads_of h.item) h.reads i.location i.later reads i.others h.maybe in
      let no_sooner = not_before point i.earlier i.later h.earlier i.location (reads_of h.item) reads h.location h.later h.reads h.others i.maybe in
      let places : length h.earlier ≡ length i.earlier = omega arith in
      let place : h.location ≡ i.location =
      sym (get_or-append_seam h.earlier h.location h.later h.location) ∙ ap (λ l. get_or l (length h.earlier) h.location) (sym h.reads ∙ reads)
      ∙ ap (λ k. get_or (i.earlier ++ i.location ∷ i.later) k h.location) places ∙ get_or-append_seam i.earlier i.location i.later h.location in
      sym h.is ∙ ap variable_of place ∙ i.is

  same_unassigned : (m n x y : ℕ) → IsFirstUnassigned f m x → IsFirstUnassigned f n y → (m ≡ n) × (x ≡ y)
  same_unassigned m n x y h i =
      let same = same_least (ReadsUnassigned f) m n (reads_unassigned f m x h) (reads_unassigned f n y i) h.least i.least in
      (same, same_place n x y (subst (λ k. IsFirstUnassigned f k x) same h) i)

  module _ (number : ℕ) where
    one_within : (fault other : CheckFault) → stage_of fault ≡ stage_of other → HasFaultWithin p number f fault → HasFaultWithin p number f other → fault ≡ other
    one_within (Arity func item) (Arity func2 item2) s h i = let e = same_misshapen item item2 h.1 i.1 in cc (e, h.0, i.0)
    one_within (Types func item) (Types func2 item2) s h i = let e = same_mistyped item item2 _ _ h.2 i.2 in cc (e.0, h.0, i.0)
    one_within (Types func item) (PrintPtr func2 item2) s h i = let e = same_mistyped item item2 _ _ h.2 i.2 in let wrong = e.1 in cc
    one_within (PrintPtr func item) (Types func2 item2) s h i = let e = same_mistyped item item2 _ _ h.2 i.2 in let wrong = e.1 in cc
    one_within (PrintPtr func item) (PrintPtr func2 item2) s h i = let e = same_mistyped item item2 _ _ h.2 i.2 in cc (e.0, h.0, i.0)
    one_within (Nest func item) (Nest func2 item2) s h i = let e = same_nest item item2 h.2 i.2 in cc (e, h.0, i.0)
    one_within (SpecCall func item) (SpecCall func2 item2) s h i = let e = same_open item item2 h.2 i.2 in cc (e, h.0, i.0)
    one_within (NoReturn func item) (NoReturn func2 item2) s h i = cc (h.0, i.0, h.2, i.2)
    one_within (MaybeUnassigned func item var) (MaybeUnassigned func2 item2 var2) s h i =
        let e = same_unassigned item item2 var var2 h.3 i.3 in cc (e.0, e.1, h.0, i.0)
    one_within MainType other s h i = absurd h
    one_within Memory other s h i = absurd h
    one_within _ _ s h i = absurd (omega (arith, s))

    pub one_fault_within : (fault other : CheckFault) → HasFaultWithin p number f fault → HasFaultWithin p number f other → fault ≡ other
    one_fault_within fault other h i = one_within fault other (same_stage p f number fault other h i) h i
