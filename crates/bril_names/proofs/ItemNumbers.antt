-- The numbers that items get.
use Rattle.std.proofs.Common.{◌≡◌, ℕ, ◌+◌, ◌<◌, Bool, true, false, List, [], ◌∷◌, ◌++◌, length, map, take, drop, get_or, Option, Some, None, refl, sym, ap, ◌∙◌, subst}
use Rattle.std.specs.Prelude.{nat_lt, nat_eq}
use Rattle.std.specs.List.{All, Contains, flat_map, list_all}
use Rattle.std.proofs.lemmas.Bool.{lt-ltb, and_from}
use Rattle.std.proofs.lemmas.List.{append-nil, map-append, map_push, take_more, take-append-drop}
use Rattle.std.proofs.lemmas.List.Concat.{flat_map-append}
use Rattle.std.proofs.lemmas.List.Elements.{All-get_or, All-push, All-weaker, All-contains_itself, Contains-append_left, Contains-append_right, filter_map-append}
use Rattle.std.proofs.lemmas.List.Folds.{list_all-append}
use Rattle.bril_tree.specs.declared.function_tree.Dest.{Dest}
use Rattle.bril_tree.specs.declared.function_tree.Item.{Item}
use Rattle.bril_tree.specs.declared.function_tree.Item.TheVariants as item
use Rattle.bril_tree.specs.declared.numbered.Instr.{Instr}
use Rattle.bril_tree.specs.declared.numbered.Instr.TheVariants.{Act}
use Rattle.bril_tree.specs.declared.numbered.VarInfo.{VarInfo}
use Rattle.bril_tree.specs.declared.operation.Op.{Op}
use Rattle.bril_tree.specs.declared.types.Ty.{Ty}
use Rattle.bril_tree.specs.FunctionForm.{listed, variables_of, label_at, targets_of, callees_of, typed_if, assigns_at, type_assigned, first_of_two, first_type, dest_is_typed}
use Rattle.bril_tree.specs.Numbered.{named, dest_tree, item_tree, variable_names}
use Rattle.bril_names.specs.Faults.{AreAmong, IsKnown, label_of, labels_of}
use Rattle.bril_names.specs.Numbering.{Finds, FindsAll, are_below, Enters, StandsFor, StandFor, StandsForDest, dest_type, IsNumbering, HasLabel}
use Rattle.bril_names.proofs.Entering.{first_of_two-assoc, Enters-append, Enters-like, more_names}
use Rattle.bril_names.proofs.Naming.{AreBelow-tested, AreAmong-named}

-- ---- numbers below a count

below_one : (count x : ℕ) → x < count → are_below count (x ∷ []) ≡ true
below_one count x l = and_from (nat_lt x count) true (lt-ltb x count l) refl

below_append : (count : ℕ) (xs ys : List ℕ) → are_below count xs ≡ true → are_below count ys ≡ true → are_below count (xs ++ ys) ≡ true
below_append count xs ys first second =
    list_all-append (λ k. nat_lt k count) xs ys ∙ and_from (are_below count xs) (are_below count ys) first second

-- numbers below a count at each of these and of those
all_below : {A : Type 0} (numbers : A → List ℕ) (count : ℕ) (xs ys : List A) → are_below count (flat_map numbers xs) ≡ true → are_below count (flat_map numbers ys) ≡ true
    → are_below count (flat_map numbers (xs ++ ys)) ≡ true
all_below numbers count xs ys first second =
    ap (are_below count) (flat_map-append numbers xs ys) ∙ below_append count (flat_map numbers xs) (flat_map numbers ys) first second

-- ---- names that are there

-- one more name that is found
pub found_more : (known names : List (List ℕ)) (k : ℕ) (name : List ℕ) (numbers : List ℕ) (number : ℕ) → k < length names → name ≡ get_or names k name
    → FindsAll known (take k names) (Some numbers) → Finds known name (Some number) → FindsAll known (take (k + 1) names) (Some (numbers ++ number ∷ []))
found_more known names k name numbers number within is before found = (
  map_push (named known) numbers number
      ∙ (λ i. before.0 i ++ (found.1 ∙ is) i ∷ [])
      ∙ sym (take_more names k name within),
  below_append (length known) numbers (number ∷ []) before.1 (below_one (length known) number found.0),
)

-- a name that isn't there
pub lacking_one : (known names : List (List ℕ)) (k : ℕ) (name : List ℕ) → k < length names → name ≡ get_or names k name → Finds known name None → FindsAll known names None
lacking_one known names k name within is none all = none (subst (Contains known) (sym is) (All-get_or (Contains known) names k name within all))

-- names that have numbers are there
pub all_among : (known names : List (List ℕ)) (numbers : List ℕ) → FindsAll known names (Some numbers) → AreAmong known names
all_among known names numbers found = subst (AreAmong known) found.0 (AreAmong-named known numbers (AreBelow-tested (length known) numbers found.1))

-- ---- variables that are read

-- the types with which a variable that is read is assigned: none
abbrev pub unassigned : ℕ → ℕ → Option Ty
unassigned x y = typed_if (nat_eq y x) None

pub stand_more : (before after : List VarInfo) (names : List (List ℕ)) (k : ℕ) (name : List ℕ) (xs : List ℕ) (x : ℕ) (types : ℕ → Option Ty)
    → k < length names → name ≡ get_or names k name → StandFor before xs (take k names) → Enters before after (x ∷ []) types → StandsFor after x name
    → StandFor after (xs ++ x ∷ []) (take (k + 1) names)
stand_more before after names k name xs x types within is stand enters here more =
    map_push (named (variable_names after ++ more)) xs x
    ∙ (λ i. (ap (λ list. map (named list) xs) (more_names before after (x ∷ []) types enters more) ∙ stand (enters.added ++ more)) i ++ (here more ∙ is) i ∷ [])
    ∙ sym (take_more names k name within)

pub enter_more : (first before after : List VarInfo) (xs : List ℕ) (x : ℕ) → Enters first before xs (λ _. None) → Enters before after (x ∷ []) (λ y. typed_if (nat_eq y x) None)
    → Enters first after (xs ++ x ∷ []) (λ _. None)
enter_more first before after xs x some one = Enters-append first before after xs (x ∷ []) (λ _. None) (λ y. typed_if (nat_eq y x) None) (λ _. None) some one (λ y. sym (untyped (nat_eq y x)))
  where
    untyped : (b : Bool) → typed_if b None ≡ None
    untyped true = refl
    untyped false = refl

-- ---- items

module _ (functions labels : List (List ℕ)) where
  first_type-append : (x : ℕ) (xs ys : List Instr) → first_type x (xs ++ ys) ≡ first_of_two (first_type x xs) (first_type x ys)
  first_type-append x [] ys = refl
  first_type-append x (a ∷ xs) ys =
      ap (first_of_two (type_assigned x a)) (first_type-append x xs ys) ∙ sym (first_of_two-assoc (type_assigned x a) (first_type x xs) (first_type x ys))

  numbering_append : (before between after : List VarInfo) (xs ys : List Item) (first second : List Instr)
      → IsNumbering functions labels before between xs first → IsNumbering functions labels between after ys second → IsNumbering functions labels before after (xs ++ ys) (first ++ second)
  numbering_append before between after xs ys first second one two = record {
    enters =
        Enters-like before after (flat_map variables_of first ++ flat_map variables_of second) (flat_map variables_of (first ++ second)) (λ x. first_type x (first ++ second)) (λ x. first_type x (first ++ second))
        (sym (flat_map-append variables_of first second)) (λ x. refl)
        (Enters-append before between after (flat_map variables_of first) (flat_map variables_of second) (λ x. first_type x first) (λ x. first_type x second) (λ x. first_type x (first ++ second))
        one.enters two.enters (λ x. first_type-append x first second));
    trees = λ more.
        (λ i. (one.trees (two.enters.added ++ more)
        ∙ ap (λ names. map (item_tree functions names labels) first) (sym (more_names between after (flat_map variables_of second) (λ x. first_type x second) two.enters more))) i
        ++ two.trees more i)
        ∙ sym (map-append (item_tree functions (variable_names after ++ more) labels) first second);
    placed = all_below label_at (length labels) first second one.placed two.placed;
    targets = all_below targets_of (length labels) first second one.targets two.targets;
    called = all_below callees_of (length functions) first second one.called two.called;
    typed = list_all-append dest_is_typed first second ∙ and_from (list_all dest_is_typed first) (list_all dest_is_typed second) one.typed two.typed;
  }

  pub act_numbered : (before between after : List VarInfo) (dest : Option Dest) (op : Op) (args funcs targets : List (List ℕ)) (x : Option ℕ) (ty : Option Ty) (xs fs ls : List ℕ)
      → ty ≡ dest_type dest → Enters before between (listed x) (λ y. assigns_at y x (dest_type dest)) → StandsForDest between x dest
      → Enters between after xs (λ _. None) → StandFor after xs args → FindsAll functions funcs (Some fs) → FindsAll labels targets (Some ls)
      → IsNumbering functions labels before after (item.Act dest op args funcs targets ∷ []) (Act x ty op xs fs ls ∷ [])
  act_numbered before between after dest op args funcs targets x ty xs fs ls is_type assigns dest_stands reads args_stand callees goes =
      subst (λ t. IsNumbering functions labels before after (item.Act dest op args funcs targets ∷ []) (Act x t op xs fs ls ∷ [])) (sym is_type) (record {
        enters = Enters-like before after (listed x ++ xs) ((listed x ++ xs) ++ []) (λ y. first_of_two (assigns_at y x (dest_type dest)) None)
            (λ y. first_type y (Act x (dest_type dest) op xs fs ls ∷ [])) (sym (append-nil (listed x ++ xs))) (λ y. refl)
            (Enters-append before between after (listed x) xs (λ y. assigns_at y x (dest_type dest)) (λ _. None) (λ y. first_of_two (assigns_at y x (dest_type dest)) None) assigns reads (λ y. refl));
        trees = λ more. λ i.
            item.Act
            ((dest_stands.named (reads.added ++ more) ∙ ap (λ names. dest_tree names x (dest_type dest)) (sym (more_names between after xs (λ _. None) reads more))) i)
            op (sym (args_stand more) i) (sym callees.0 i) (sym goes.0 i) ∷ [];
        placed = refl;
        targets = subst (λ list. are_below (length labels) list ≡ true) (sym (append-nil ls)) goes.1;
        called = subst (λ list. are_below (length functions) list ≡ true) (sym (append-nil fs)) callees.1;
        typed = and_from _ true dest_stands.typed refl;
      })

-- one more item, of those that are numbered
module _ (functions labels : List (List ℕ)) (items : List Item) (k : ℕ) (i : Item) (within : k < length items) (is : i ≡ get_or items k i) where
  front : take (k + 1) items ≡ take k items ++ i ∷ []
  front = take_more items k i within ∙ ap (λ j. take k items ++ j ∷ []) (sym is)

  pub numbering_more : (first before after : List VarInfo) (code : List Instr) (instr : Instr)
      → IsNumbering functions labels first before (take k items) code → IsNumbering functions labels before after (i ∷ []) (instr ∷ [])
      → IsNumbering functions labels first after (take (k + 1) items) (code ++ instr ∷ [])
  numbering_more first before after code instr some one =
      subst (λ list. IsNumbering functions labels first after list (code ++ instr ∷ [])) (sym front)
      (numbering_append functions labels first before after (take k items) (i ∷ []) code (instr ∷ []) some one)

  pub known_more : All (IsKnown functions labels) (take k items) → IsKnown functions labels i → All (IsKnown functions labels) (take (k + 1) items)
  known_more some one = subst (All (IsKnown functions labels)) (sym front) (All-push (IsKnown functions labels) (take k items) i some one)

  -- a label's own item has it
  pub labelled : labels ≡ labels_of items → HasLabel labels i
  labelled are = subst (λ list. AreAmong list (labels_of (i ∷ []))) (sym are) (All-weaker (Contains (labels_of (i ∷ []))) (Contains (labels_of items)) there (labels_of (i ∷ [])) (All-contains_itself (labels_of (i ∷ []))))
    where
      there : (name : List ℕ) → Contains (labels_of (i ∷ [])) name → Contains (labels_of items) name
      there name has =
          subst (λ list. Contains (labels_of list) name) (take-append-drop (k + 1) items)
          (subst (λ list. Contains list name) (sym (filter_map-append label_of (take (k + 1) items) (drop (k + 1) items)))
          (Contains-append_left (labels_of (take (k + 1) items)) (labels_of (drop (k + 1) items)) name
          (subst (λ list. Contains (labels_of list) name) (sym front)
          (subst (λ list. Contains list name) (sym (filter_map-append label_of (take k items) (i ∷ [])))
          (Contains-append_right (labels_of (take k items)) (labels_of (i ∷ [])) name has)))))
