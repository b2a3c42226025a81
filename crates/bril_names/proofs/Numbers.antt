-- Numbers for names that are all there: of variables as they appear, and of items.
use Rattle.std.proofs.Common.{◌≡◌, ◌⊎◌, ℕ, true, List, [], ◌∷◌, ◌++◌, length, map, Option, Some, None, refl, sym, ap, ◌∙◌, subst, arith, inl, inr, append_assoc, append-nil, lt-ltb, eq-eqb}
use Rattle.std.specs.List.{All, Contains, flat_map}
use Rattle.std.proofs.lemmas.Bool.{cond-true, cond-false, le-ltb}
use Rattle.std.proofs.lemmas.List.{length_push, get_or_append_left, get_or_at, get_or_default}
use Rattle.std.proofs.lemmas.List.Elements.{All-head, All-tail, filter_map-append}
use Rattle.bril_tree.specs.declared.function_tree.Dest.{Dest}
use Rattle.bril_tree.specs.declared.function_tree.Item.{Item}
use Rattle.bril_tree.specs.declared.function_tree.Item.TheVariants as item
use Rattle.bril_tree.specs.declared.numbered.Instr.{Instr}
use Rattle.bril_tree.specs.declared.numbered.Instr.TheVariants.{Label, Const, Act}
use Rattle.bril_tree.specs.declared.types.Ty.{Ty}
use Rattle.bril_tree.specs.FunctionForm.{both_or_neither, listed, known_after}
use Rattle.bril_tree.specs.Numbered.{named, typed_name, dest_tree, item_tree}
use Rattle.bril_names.specs.Faults.{Differ, AreAmong, IsKnown, label_of, labels_of}
use Rattle.bril_names.specs.Range.{AreBelow, IsInRange, AreInRange}
use Rattle.bril_names.proofs.Decisions.{contains, Differ-push}
use Rattle.bril_names.proofs.Items.{names_of, dest_names, AreInRange-join}
use Rattle.bril_names.proofs.Naming.{AreBelow-join, AreAmong-parts}

-- ---- numbers of names

-- numbers that stand for these names
pub record AreNumbers (known names : List (List ℕ)) : Type 0 where
  pub numbers : List ℕ
  pub below : AreBelow (length known) numbers
  pub name : map (named known) numbers ≡ names

number_at : (known : List (List ℕ)) (name : List ℕ) (c : Contains known name) → named known c.0 ≡ name
number_at known name c = get_or_default known c.0 [] name c.1 ∙ c.2

pub numbers_of : (known names : List (List ℕ)) → AreAmong known names → AreNumbers known names
numbers_of known [] among = record { numbers = []; below = tt; name = refl }
numbers_of known (name ∷ names) among =
    let c = All-head (Contains known) name names among in
    let rest = numbers_of known names (All-tail (Contains known) name names among) in
    record {
      numbers = c.0 ∷ rest.numbers;
      below = (c.1, rest.below);
      name = λ i. number_at known name c i ∷ rest.name i;
    }

-- ---- variables in the order of their appearance

-- names that come to those that are known as these appear, with the numbers that these get
pub record Appears (known names : List (List ℕ)) : Type 0 where
  pub new : List (List ℕ)
  pub numbers : List ℕ
  pub differ : Differ (known ++ new)
  pub name : map (named (known ++ new)) numbers ≡ names
  pub appear : known_after (length known) numbers ≡ Some (length (known ++ new))

pub appears : (known names : List (List ℕ)) → Differ known → Appears known names
appears known [] differ = record {
  new = [];
  numbers = [];
  differ = subst Differ (sym (append-nil known)) differ;
  name = refl;
  appear = ap (λ names. Some (length names)) (sym (append-nil known));
}
appears known (name ∷ names) differ = by (contains known name) (appears known names) (appears (known ++ name ∷ []) names)
  where
    by : Contains known name ⊎ ¬ Contains known name → (Differ known → Appears known names) → (Differ (known ++ name ∷ []) → Appears (known ++ name ∷ []) names) → Appears known (name ∷ names)
    by (inl c) old fresh =
        let rest = old differ in
        let here : named (known ++ rest.new) c.0 ≡ name = get_or_append_left known rest.new [] c.0 c.1 ∙ number_at known name c in
        record {
          new = rest.new;
          numbers = c.0 ∷ rest.numbers;
          differ = rest.differ;
          name = λ i. here i ∷ rest.name i;
          appear = cond-true _ _ _ (lt-ltb c.0 (length known) c.1) ∙ rest.appear;
        }
    by (inr lacks) old fresh =
        let rest = fresh (Differ-push known name differ lacks) in
        let all : (known ++ name ∷ []) ++ rest.new ≡ known ++ name ∷ rest.new = append_assoc known (name ∷ []) rest.new in
        let here : named (known ++ name ∷ rest.new) (length known) ≡ name = get_or_at known name rest.new [] (length known) refl in
        record {
          new = name ∷ rest.new;
          numbers = length known ∷ rest.numbers;
          differ = subst Differ all rest.differ;
          name = λ i. here i ∷ (ap (λ V. map (named V) rest.numbers) (sym all) ∙ rest.name) i;
          appear = cond-false _ _ _ (le-ltb (length known) (length known) (omega arith)) ∙ cond-true _ _ _ (eq-eqb (length known) (length known) refl)
              ∙ ap (λ n. known_after n rest.numbers) (sym (length_push known name)) ∙ rest.appear ∙ ap (λ names. Some (length names)) all;
        }

-- ---- items

record MakesDest (V : List (List ℕ)) (o : Option Dest) : Type 0 where
  dest : Option ℕ
  ty : Option Ty
  below : AreBelow (length V) (listed dest)
  typed : both_or_neither dest ty ≡ true
  tree : dest_tree V dest ty ≡ o

module _ (fs V ls : List (List ℕ)) where
  record Makes (i : Item) : Type 0 where
    made : Instr
    in_range : IsInRange (length fs) (length V) (length ls) made
    tree : item_tree fs V ls made ≡ i

  make_dest : (o : Option Dest) → AreAmong V (dest_names o) → MakesDest V o
  make_dest None among = record { dest = None; ty = None; below = tt; typed = refl; tree = refl }
  make_dest (Some d) among =
      let c = All-head (Contains V) d.name [] among in
      record { dest = Some c.0; ty = Some d.ty; below = (c.1, tt); typed = refl; tree = ap (λ name. Some (typed_name name d.ty)) (number_at V d.name c) }

  -- an item of names that are all there
  make : (i : Item) → AreAmong V (names_of i) → IsKnown fs ls i → AreAmong ls (labels_of (i ∷ [])) → Makes i
  make (item.Label name) variables known places =
      let c = All-head (Contains ls) name [] places in
      record {
        made = Label c.0;
        in_range = record { variables = tt; callees = tt; targets = tt; places = (c.1, tt); typed = refl };
        tree = ap item.Label (number_at ls name c);
      }
  make (item.Const dest ty value) variables known places =
      let c = All-head (Contains V) dest [] variables in
      record {
        made = Const c.0 ty value;
        in_range = record { variables = (c.1, tt); callees = tt; targets = tt; places = tt; typed = refl };
        tree = ap (λ name. item.Const name ty value) (number_at V dest c);
      }
  make (item.Act dest op args funcs labels) variables known places =
      let parts = AreAmong-parts V (dest_names dest) args variables in
      let d = make_dest dest parts.0 in
      let a = numbers_of V args parts.1 in
      let c = numbers_of fs funcs known.0 in
      let t = numbers_of ls labels known.1 in
      record {
        made = Act d.dest d.ty op a.numbers c.numbers t.numbers;
        in_range = record { variables = AreBelow-join (length V) (listed d.dest) a.numbers d.below a.below; callees = c.below; targets = t.below; places = tt; typed = d.typed };
        tree = λ i. item.Act (d.tree i) op (a.name i) (c.name i) (t.name i);
      }

  pub record MakesAll (items : List Item) : Type 0 where
    pub code : List Instr
    pub in_range : AreInRange (length fs) (length V) (length ls) code
    pub tree : map (item_tree fs V ls) code ≡ items

  pub make_all : (items : List Item) → AreAmong V (flat_map names_of items) → All (IsKnown fs ls) items → AreAmong ls (labels_of items) → MakesAll items
  make_all [] variables known places = record { code = []; in_range = record { variables = tt; callees = tt; targets = tt; places = tt; typed = refl }; tree = refl }
  make_all (i ∷ items) variables known places =
      let v = AreAmong-parts V (names_of i) (flat_map names_of items) variables in
      let p = AreAmong-parts ls (labels_of (i ∷ [])) (labels_of items) (subst (AreAmong ls) (filter_map-append label_of (i ∷ []) items) places) in
      let one = make i v.0 (All-head (IsKnown fs ls) i items known) p.0 in
      let rest = make_all items v.1 (All-tail (IsKnown fs ls) i items known) p.1 in
      record {
        code = one.made ∷ rest.code;
        in_range = AreInRange-join (length fs) (length V) (length ls) one.made rest.code one.in_range rest.in_range;
        tree = λ k. one.tree k ∷ rest.tree k;
      }
