-- One more label of a function, and one more argument.
use Rattle.std.proofs.Common.{◌≡◌, ℕ, ◌+◌, ◌<◌, List, [], ◌∷◌, ◌++◌, length, map, take, get_or, refl, sym, ap, ◌∙◌, subst}
use Rattle.std.specs.List.{Contains}
use Rattle.std.proofs.lemmas.List.{append-nil, length-map, map_push, get_or-map, take_more, take-map}
use Rattle.std.proofs.lemmas.List.Elements.{filter_map-append}
use Rattle.bril_tree.specs.declared.function_tree.Dest.{Dest}
use Rattle.bril_tree.specs.declared.function_tree.FuncTree.{FuncTree}
use Rattle.bril_tree.specs.declared.function_tree.Item.{Item}
use Rattle.bril_tree.specs.declared.function_tree.Item.TheVariants as item
use Rattle.bril_tree.specs.declared.numbered.VarInfo.{VarInfo}
use Rattle.bril_tree.specs.Numbered.{variable_names}
use Rattle.bril_names.specs.Faults.{Differ, argument_names, label_of, labels_of}
use Rattle.bril_names.specs.Numbering.{argument_variable}
use Rattle.bril_names.proofs.Decisions.{Differ-push}

-- ---- labels

labels_more : (items : List Item) (k : ℕ) (i : Item) → k < length items → i ≡ get_or items k i → labels_of (take (k + 1) items) ≡ labels_of (take k items) ++ labels_of (i ∷ [])
labels_more items k i within is =
    ap labels_of (take_more items k i within ∙ ap (λ j. take k items ++ j ∷ []) (sym is)) ∙ filter_map-append label_of (take k items) (i ∷ [])

-- one more label
pub label_more : (items : List Item) (k : ℕ) (i : Item) (name : List ℕ) (labels : List (List ℕ)) → k < length items → i ≡ get_or items k i → i ≡ item.Label name
    → labels ≡ labels_of (take k items) → labels ++ name ∷ [] ≡ labels_of (take (k + 1) items)
label_more items k i name labels within is label e =
    ap (λ ls. ls ++ name ∷ []) e ∙ sym (labels_more items k i within is ∙ ap (λ j. labels_of (take k items) ++ labels_of (j ∷ [])) label)

no_label : (i : Item) → ((name : List ℕ) → i ≡ item.Label name → ⊥) → labels_of (i ∷ []) ≡ []
no_label (item.Label name) none = absurd (none name refl)
no_label (item.Const dest ty value) none = refl
no_label (item.Act dest op args funcs labels) none = refl

-- an item that is no label
pub label_same : (items : List Item) (k : ℕ) (i : Item) (labels : List (List ℕ)) → k < length items → i ≡ get_or items k i → ((name : List ℕ) → i ≡ item.Label name → ⊥)
    → labels ≡ labels_of (take k items) → labels ≡ labels_of (take (k + 1) items)
label_same items k i labels within is none e =
    e ∙ sym (append-nil (labels_of (take k items))) ∙ ap (λ ls. labels_of (take k items) ++ ls) (sym (no_label i none)) ∙ sym (labels_more items k i within is)

-- ---- arguments

pub names_of_arguments : (args : List Dest) → variable_names (map argument_variable args) ≡ map (λ (a : Dest). a.name) args
names_of_arguments [] = refl
names_of_arguments (a ∷ args) = ap (λ names. a.name ∷ names) (names_of_arguments args)

module _ (f : FuncTree) (k : ℕ) (arg : Dest) (within : k < length f.args) (is : arg ≡ get_or f.args k arg) where
  pub argument_within : k < length (argument_names f)
  argument_within = subst (λ n. k < n) (sym (length-map f.args (λ (a : Dest). a.name))) within

  pub argument_is : arg.name ≡ get_or (argument_names f) k arg.name
  argument_is = ap (λ (a : Dest). a.name) is ∙ sym (get_or-map (λ (a : Dest). a.name) f.args k arg arg.name within)

  -- the names so far
  pub names_so_far : (vars : List VarInfo) → vars ≡ map argument_variable (take k f.args) → variable_names vars ≡ take k (argument_names f)
  names_so_far vars e = ap variable_names e ∙ names_of_arguments (take k f.args) ∙ sym (take-map (λ (a : Dest). a.name) k f.args)

  -- one more argument
  pub argument_more : (vars : List VarInfo) → vars ≡ map argument_variable (take k f.args) → vars ++ argument_variable arg ∷ [] ≡ map argument_variable (take (k + 1) f.args)
  argument_more vars e =
      ap (λ vs. vs ++ argument_variable arg ∷ []) e
      ∙ sym (ap (map argument_variable) (take_more f.args k arg within ∙ ap (λ a. take k f.args ++ a ∷ []) (sym is)) ∙ map_push argument_variable (take k f.args) arg)

  pub argument_differs : (vars : List VarInfo) → vars ≡ map argument_variable (take k f.args) → Differ (take k (argument_names f)) → ¬ Contains (variable_names vars) arg.name
      → Differ (take (k + 1) (argument_names f))
  argument_differs vars e differ new =
      subst Differ (sym (take_more (argument_names f) k arg.name argument_within ∙ ap (λ a. take k (argument_names f) ++ a ∷ []) (sym argument_is)))
      (Differ-push (take k (argument_names f)) arg.name differ (subst (λ names. ¬ Contains names arg.name) (names_so_far vars e) new))
