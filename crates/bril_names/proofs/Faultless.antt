-- A sound tree has no fault, and each tree one at most.
use Rattle.std.proofs.Common.{◌≡◌, ℕ, ◌<◌, List, take, Some, refl, sym, ap, ◌∙◌, subst}
use Rattle.std.specs.Prelude.{slice_get}
use Rattle.std.specs.List.{All, Contains}
use Rattle.bril_tree.specs.declared.function_tree.FuncTree.{FuncTree}
use Rattle.bril_tree.specs.declared.tree.Tree.{Tree}
use Rattle.bril_tree.specs.ProgramForm.{main_name}
use Rattle.bril_names.specs.Faults.{Differ, IsSound, argument_names, labels_of, function_names, HasFaultWithin, FirstFaultWithin, HasFault, RepeatsName, RepeatsLabel, LacksFunction, LacksLabel}
use Rattle.bril_names.specs.declared.fault.NameFault.{NameFault}
use Rattle.bril_names.specs.declared.fault.NameFault.TheVariants.{NoFunction, TwiceFunction, NoLabel, TwiceLabel, NoMain, TwiceArg, Memory}
use Rattle.bril_names.proofs.Positions.{same_here, here_taken, at_here, one_place, repeats_name, repeats_label, one_repeated_name, one_repeated_label, lacks_function, lacks_label, first_lacking, lacking_function, lacking_label, lacking_apart}

-- ---- within a function

module _ (functions : List (List ℕ)) (number : ℕ) (f : FuncTree) where
  pub unsound : (fault : NameFault) → HasFaultWithin functions number f fault → IsSound functions f → ⊥
  unsound (NoFunction func place) has sound = lacks_function functions (labels_of f.code) f.code place has.3 sound.known
  unsound (TwiceFunction func) has sound = has
  unsound (NoLabel func place) has sound = lacks_label functions (labels_of f.code) f.code place has.3 sound.known
  unsound (TwiceLabel func place) has sound = repeats_label f.code place has.2 sound.labels
  unsound NoMain has sound = has
  unsound (TwiceArg func) has sound = has.1 sound.arguments
  unsound Memory has sound = has

  -- the first kind of fault in a function, and its place
  data Within (fault : NameFault) : Type 0 where
    argument : fault ≡ TwiceArg number → ¬ Differ (argument_names f) → Within fault
    label : (place : ℕ) → fault ≡ TwiceLabel number place → Differ (argument_names f) → RepeatsLabel f.code place → Within fault
    lacking_callee : (place : ℕ) → fault ≡ NoFunction number place → Differ (argument_names f) → Differ (labels_of f.code) → LacksFunction functions (labels_of f.code) f.code place → Within fault
    lacking_target : (place : ℕ) → fault ≡ NoLabel number place → Differ (argument_names f) → Differ (labels_of f.code) → LacksLabel functions (labels_of f.code) f.code place → Within fault

  within : (fault : NameFault) → HasFaultWithin functions number f fault → Within fault
  within (NoFunction func place) has = lacking_callee place (ap (λ n. NoFunction n place) has.0) has.1 has.2 has.3
  within (TwiceFunction func) has = absurd has
  within (NoLabel func place) has = lacking_target place (ap (λ n. NoLabel n place) has.0) has.1 has.2 has.3
  within (TwiceLabel func place) has = label place (ap (λ n. TwiceLabel n place) has.0) has.1 has.2
  within NoMain has = absurd has
  within (TwiceArg func) has = argument (ap TwiceArg has.0) has.1
  within Memory has = absurd has

  same_within : (a b : NameFault) → Within a → Within b → a ≡ b
  same_within a b (argument is denied) (argument is' denied') = is ∙ sym is'
  same_within a b (argument is denied) (label q is' args' r') = absurd (denied args')
  same_within a b (argument is denied) (lacking_callee q is' args' ls' r') = absurd (denied args')
  same_within a b (argument is denied) (lacking_target q is' args' ls' r') = absurd (denied args')
  same_within a b (label p is args r) (argument is' denied') = absurd (denied' args)
  same_within a b (label p is args r) (label q is' args' r') = is ∙ ap (TwiceLabel number) (one_repeated_label f.code p q r r') ∙ sym is'
  same_within a b (label p is args r) (lacking_callee q is' args' ls' r') = absurd (repeats_label f.code p r ls')
  same_within a b (label p is args r) (lacking_target q is' args' ls' r') = absurd (repeats_label f.code p r ls')
  same_within a b (lacking_callee p is args ls r) (argument is' denied') = absurd (denied' args)
  same_within a b (lacking_callee p is args ls r) (label q is' args' r') = absurd (repeats_label f.code q r' ls)
  same_within a b (lacking_callee p is args ls r) (lacking_callee q is' args' ls' r') =
      let labels = labels_of f.code in
      is ∙ ap (NoFunction number) (first_lacking functions labels f.code p q (lacking_function functions labels f.code p r) (lacking_function functions labels f.code q r')) ∙ sym is'
  same_within a b (lacking_callee p is args ls r) (lacking_target q is' args' ls' r') =
      let labels = labels_of f.code in
      let e = first_lacking functions labels f.code p q (lacking_function functions labels f.code p r) (lacking_label functions labels f.code q r') in
      absurd (lacking_apart functions labels f.code q (subst (LacksFunction functions labels f.code) e r) r')
  same_within a b (lacking_target p is args ls r) (argument is' denied') = absurd (denied' args)
  same_within a b (lacking_target p is args ls r) (label q is' args' r') = absurd (repeats_label f.code q r' ls)
  same_within a b (lacking_target p is args ls r) (lacking_callee q is' args' ls' r') =
      let labels = labels_of f.code in
      let e = first_lacking functions labels f.code q p (lacking_function functions labels f.code q r') (lacking_label functions labels f.code p r) in
      absurd (lacking_apart functions labels f.code p (subst (LacksFunction functions labels f.code) e r') r)
  same_within a b (lacking_target p is args ls r) (lacking_target q is' args' ls' r') =
      let labels = labels_of f.code in
      is ∙ ap (NoLabel number) (first_lacking functions labels f.code p q (lacking_label functions labels f.code p r) (lacking_label functions labels f.code q r')) ∙ sym is'

-- ---- within a tree

-- a tree of which each name is there and stands once
pub record IsSoundTree (tree : Tree) : Type 0 where
  pub differ : Differ (function_names tree)
  pub main : Contains (function_names tree) main_name
  pub sound : All (IsSound (function_names tree)) tree.funcs

module _ (tree : Tree) where
  -- the first kind of fault in a tree
  data Found (fault : NameFault) : Type 0 where
    repeated : (place : ℕ) → fault ≡ TwiceFunction place → RepeatsName (function_names tree) place → Found fault
    without_main : fault ≡ NoMain → Differ (function_names tree) → ¬ Contains (function_names tree) main_name → Found fault
    inside : FirstFaultWithin tree fault → Found fault

  found : (fault : NameFault) → HasFault tree fault → Found fault
  found (NoFunction func place) has = inside has
  found (TwiceFunction func) has = repeated func refl has
  found (NoLabel func place) has = inside has
  found (TwiceLabel func place) has = inside has
  found NoMain has = without_main refl has.0 has.1
  found (TwiceArg func) has = inside has
  found Memory has = absurd has

  -- a function with a fault, and those before it sound
  record IsFirstUnsound (number : ℕ) : Type 0 where
    function : FuncTree
    here : slice_get tree.funcs number ≡ Some function
    before : All (IsSound (function_names tree)) (take number tree.funcs)
    has : ¬ IsSound (function_names tree) function

  first_unsound : (fault : NameFault) (first : FirstFaultWithin tree fault) → IsFirstUnsound first.number
  first_unsound fault first = record {
    function = first.function;
    here = first.here;
    before = first.before;
    has = unsound (function_names tree) first.number first.function fault first.has;
  }

  one_unsound : (p q : ℕ) → IsFirstUnsound p → IsFirstUnsound q → p ≡ q
  one_unsound = one_place IsFirstUnsound apart
    where
      apart : (p q : ℕ) → p < q → IsFirstUnsound p → IsFirstUnsound q → ⊥
      apart p q below r s =
          r.has (at_here (IsSound (function_names tree)) (take q tree.funcs) p r.function s.before (here_taken tree.funcs p q r.function below r.here))

  same_inside : (a b : NameFault) → FirstFaultWithin tree a → FirstFaultWithin tree b → a ≡ b
  same_inside a b r s =
      let number : s.number ≡ r.number = one_unsound s.number r.number (first_unsound b s) (first_unsound a r) in
      let here : slice_get tree.funcs r.number ≡ Some s.function = subst (λ n. slice_get tree.funcs n ≡ Some s.function) number s.here in
      let function : s.function ≡ r.function = same_here tree.funcs r.number s.function r.function here r.here in
      let has : HasFaultWithin (function_names tree) r.number r.function b =
      subst (λ n. HasFaultWithin (function_names tree) n r.function b) number (subst (λ f. HasFaultWithin (function_names tree) s.number f b) function s.has) in
      let names = function_names tree in
      same_within names r.number r.function a b (within names r.number r.function a r.has) (within names r.number r.function b has)

  same_found : (a b : NameFault) → Found a → Found b → a ≡ b
  same_found a b (repeated p is r) (repeated q is' r') = is ∙ ap TwiceFunction (one_repeated_name (function_names tree) p q r r') ∙ sym is'
  same_found a b (repeated p is r) (without_main is' differ denied) = absurd (repeats_name (function_names tree) p r differ)
  same_found a b (repeated p is r) (inside first) = absurd (repeats_name (function_names tree) p r first.differ)
  same_found a b (without_main is differ denied) (repeated q is' r') = absurd (repeats_name (function_names tree) q r' differ)
  same_found a b (without_main is differ denied) (without_main is' differ' denied') = is ∙ sym is'
  same_found a b (without_main is differ denied) (inside first) = absurd (denied first.main)
  same_found a b (inside first) (repeated q is' r') = absurd (repeats_name (function_names tree) q r' first.differ)
  same_found a b (inside first) (without_main is' differ denied) = absurd (denied first.main)
  same_found a b (inside first) (inside first') = same_inside a b first first'

  -- a tree has one fault at most
  pub same_fault : (a b : NameFault) → HasFault tree a → HasFault tree b → a ≡ b
  same_fault a b here there = same_found a b (found a here) (found b there)

  faultless_found : IsSoundTree tree → (fault : NameFault) → Found fault → ⊥
  faultless_found sound fault (repeated place is r) = repeats_name (function_names tree) place r sound.differ
  faultless_found sound fault (without_main is differ denied) = denied sound.main
  faultless_found sound fault (inside first) =
      unsound (function_names tree) first.number first.function fault first.has
      (at_here (IsSound (function_names tree)) tree.funcs first.number first.function sound.sound first.here)

  -- a sound tree has no fault
  pub faultless : IsSoundTree tree → (fault : NameFault) → HasFault tree fault → ⊥
  faultless sound fault has = faultless_found sound fault (found fault has)
