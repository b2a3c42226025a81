-- Where the first fault of a function, and of a program, stands.
use Rattle.std.proofs.Common.{◌≡◌, ℕ, ◌<◌, List, length, take, get_or, Some, refl, sym, ◌∙◌, subst, inl, inr, arith}
use Rattle.std.specs.Prelude.{slice_get}
use Rattle.std.specs.List.{All, Contains}
use Rattle.std.proofs.lemmas.List.{length-take, get_or-take}
use Rattle.bril_tree.specs.declared.function_tree.FuncTree.{FuncTree}
use Rattle.bril_tree.specs.declared.function_tree.Item.{Item}
use Rattle.bril_names.specs.Faults.{Differ, AreAmong, IsKnown, targets_of, argument_names, labels_of, LacksFunction, LacksLabel}
use Rattle.bril_names.specs.Numbering.{IsLackOf, IsFaultWithin}
use Rattle.bril_names.specs.declared.fault.NameFault.{NameFault}
use Rattle.bril_names.specs.declared.fault.NameFault.TheVariants.{NoFunction, TwiceFunction, NoLabel, TwiceLabel, NoMain, TwiceArg, Memory}

-- what the first item lacks is the fault of a function whose arguments and labels differ
module _ (functions labels : List (List ℕ)) (func : ℕ) (f : FuncTree) (place : ℕ) (i : Item) (args_differ : Differ (argument_names f)) (labels_differ : Differ labels)
    (are : labels ≡ labels_of f.code) (here : slice_get f.code place ≡ Some i) (before : All (IsKnown functions labels) (take place f.code)) where
  differ : Differ (labels_of f.code)
  differ = subst Differ are labels_differ

  known : All (IsKnown functions (labels_of f.code)) (take place f.code)
  known = subst (λ ls. All (IsKnown functions ls) (take place f.code)) are before

  pub lack_within : (fault : NameFault) → IsLackOf functions labels func place i fault → IsFaultWithin functions func f fault
  lack_within (NoFunction g k) (g_is, k_is, lacks) =
      inr (
        g_is,
        args_differ,
        differ,
        subst (LacksFunction functions (labels_of f.code) f.code) (sym k_is) (record { lacking = i; here = here; before = known; lacks = lacks }),
      )
  lack_within (NoLabel g k) (g_is, k_is, functions_known, lacks) =
      inr (
        g_is,
        args_differ,
        differ,
        subst (LacksLabel functions (labels_of f.code) f.code) (sym k_is)
            (record { lacking = i; here = here; before = known; functions_known = functions_known; lacks = subst (λ ls. ¬ AreAmong ls (targets_of i)) are lacks }),
      )
  lack_within (TwiceFunction g) lack = absurd lack
  lack_within (TwiceLabel g k) lack = absurd lack
  lack_within (TwiceArg g) lack = absurd lack
  lack_within NoMain lack = absurd lack
  lack_within Memory lack = inl refl

-- an argument that is in the table stands before
pub argument_twice : (names : List (List ℕ)) (k : ℕ) (name : List ℕ) → k < length names → name ≡ get_or names k name → Contains (take k names) name → ¬ Differ names
argument_twice names k name within is (j, j_in, j_is) differ =
    let len = length-take k names in
    differ j k name (omega arith) within
    (sym (get_or-take k names j name (omega arith)) ∙ j_is ∙ is)
