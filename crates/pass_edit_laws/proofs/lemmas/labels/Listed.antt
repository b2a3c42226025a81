-- The labels of a list of items, and those of a function.
use Rattle.std.proofs.Common.{◌≡◌, ℕ, zero, suc, ◌<◌, List, [], ◌∷◌, length, get_or, Option, Some, None, refl, sym, ap, subst, ◌∙◌, inl, inr, arith}
use Rattle.std.specs.Prelude.{slice_get}
use Rattle.std.proofs.lemmas.Option.{same_Some}
use Rattle.bril_tree.specs.declared.function_tree.Item.{Item}
use Rattle.bril_tree.specs.declared.function_tree.Item.TheVariants as item
use Rattle.bril_tree.specs.declared.numbered.Instr.{Instr}
use Rattle.bril_tree.specs.declared.numbered.Instr.TheVariants.{Label, Const, Act}
use Rattle.bril_tree.specs.declared.program.Prog.{Prog}
use Rattle.bril_tree.specs.Membership.{In}
use Rattle.bril_tree.specs.Numbered.{item_tree, named, names_in, names_of_functions, tree_at}
use Rattle.bril_tree.specs.Step.{item_at}
use Rattle.bril_tree.proofs.Elements.{in_get}
use Rattle.bril_tree.proofs.Members.{contains_in, in_contains}
use Rattle.bril_tree.proofs.Trees.{nothing_at}
use Rattle.bril_names.specs.Faults.{AreAmong, labels_of}
use Rattle.pass_edit_laws.specs.labels.Fresh.{labels_here, labels_in}
use Rattle.pass_edit_laws.proofs.lemmas.names.Points.{Found, found}

-- ---- of a list of items

pub label-in : (xs : List Item) (a : List ℕ) → In (item.Label a) xs → In a (labels_of xs)
label-in [] a i = absurd i
label-in (item.Label b ∷ xs) a (inl e) = inl (let h : a ≡ b = cc in h)
label-in (item.Label b ∷ xs) a (inr i) = inr (label-in xs a i)
label-in (item.Const d t v ∷ xs) a (inl e) = absurd cc
label-in (item.Const d t v ∷ xs) a (inr i) = label-in xs a i
label-in (item.Act d o ys fns ls ∷ xs) a (inl e) = absurd cc
label-in (item.Act d o ys fns ls ∷ xs) a (inr i) = label-in xs a i

pub labels-item : (xs : List Item) (a : List ℕ) → In a (labels_of xs) → In (item.Label a) xs
labels-item [] a i = absurd i
labels-item (item.Label b ∷ xs) a (inl e) = inl (ap item.Label e)
labels-item (item.Label b ∷ xs) a (inr i) = inr (labels-item xs a i)
labels-item (item.Const d t v ∷ xs) a i = inr (labels-item xs a i)
labels-item (item.Act d o ys fns ls ∷ xs) a i = inr (labels-item xs a i)

-- where a label stands
pub labels-get : (xs : List Item) (a : List ℕ) → In a (labels_of xs) → (k : ℕ) × (slice_get xs k ≡ Some (item.Label a))
labels-get xs a i = in_get (item.Label a) xs (labels-item xs a i)

-- names that are among some are among more
pub among-more : (known more names : List (List ℕ)) → ((a : List ℕ) → In a known → In a more) → AreAmong known names → AreAmong more names
among-more known more names sub h = λ k d less. contains_in (get_or names k d) more (sub (get_or names k d) (in_contains (get_or names k d) known (h k d less)))

-- ---- of a function

pub named-in : (names : List (List ℕ)) (v : ℕ) → v < length names → In (named names v) names
named-in [] v less = absurd (omega arith)
named-in (x ∷ names) zero less = inl refl
named-in (x ∷ names) (suc v) less = inr (named-in names v (omega arith))

-- a label that stands in a function is one of its labels
pub label-known : (P : Prog) (f i : ℕ) (name : List ℕ) → tree_at P f i ≡ Some (item.Label name) → In name (labels_in P f)
label-known P f i name is = by (item_at P f i) refl
  where
    by_item : (a : Instr) (h : Found P f i a) → item_tree (names_of_functions P.funcs) (names_in (slice_get P.funcs f)) h.function.labels a ≡ item.Label name → In name (labels_in P f)
    by_item (Label l) h e =
        let same : named h.function.labels l ≡ name = cc in
        subst (In name) (sym (ap labels_here h.there)) (subst (λ n. In n h.function.labels) same (named-in h.function.labels l h.range.places.0))
    by_item (Const x t v) h e = absurd cc
    by_item (Act d t u xs fns ls) h e = absurd cc

    by : (o : Option Instr) → item_at P f i ≡ o → In name (labels_in P f)
    by None at = absurd (let h = sym (nothing_at P f i at) ∙ is in cc)
    by (Some a) at = let h = found P f i a at in by_item a h (same_Some _ _ (sym h.tree ∙ is))
