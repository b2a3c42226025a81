-- Items of a numbered function and of its tree.
use Rattle.std.proofs.Common.{◌≡◌, ℕ, zero, suc, ◌<◌, true, List, [], ◌∷◌, ◌++◌, length, map, get_or, Option, Some, None, refl, sym, ap, ◌∙◌, subst, arith, true≢false}
use Rattle.std.specs.List.{flat_map, list_all, range_with_len}
use Rattle.std.proofs.lemmas.Bool.{and_parts, and_from}
use Rattle.std.proofs.lemmas.List.{map-append, same_lists, get_or_default}
use Rattle.std.proofs.lemmas.List.FromFn.{length-map-range_with_len, get_or-map-range_with_len}
use Rattle.bril_tree.specs.declared.function_tree.Dest.{Dest}
use Rattle.bril_tree.specs.declared.function_tree.Item.{Item}
use Rattle.bril_tree.specs.declared.function_tree.Item.TheVariants as item
use Rattle.bril_tree.specs.declared.numbered.Instr.{Instr}
use Rattle.bril_tree.specs.declared.numbered.Instr.TheVariants.{Label, Const, Act}
use Rattle.bril_tree.specs.declared.types.Ty.{Ty}
use Rattle.bril_tree.specs.FunctionForm.{listed, variables_of, label_at, targets_of, callees_of, both_or_neither, dest_is_typed}
use Rattle.bril_tree.specs.Numbered.{named, typed_name, dest_tree, item_tree}
use Rattle.bril_names.specs.Faults.{Differ, labels_of}
use Rattle.bril_names.specs.Range.{AreBelow, IsInRange, AreInRange}
use Rattle.bril_names.proofs.Naming.{AreBelow-append, AreBelow-join, one_number, same_numbers}

-- ---- numbers in range

module _ (funcs vars labels : ℕ) where
  pub AreInRange-first : (a : Instr) (code : List Instr) → AreInRange funcs vars labels (a ∷ code) → IsInRange funcs vars labels a
  AreInRange-first a code all = record {
    variables = (AreBelow-append vars (variables_of a) (flat_map variables_of code) all.variables).0;
    callees = (AreBelow-append funcs (callees_of a) (flat_map callees_of code) all.callees).0;
    targets = (AreBelow-append labels (targets_of a) (flat_map targets_of code) all.targets).0;
    places = (AreBelow-append labels (label_at a) (flat_map label_at code) all.places).0;
    typed = (and_parts (dest_is_typed a) (list_all dest_is_typed code) all.typed).0;
  }

  pub AreInRange-rest : (a : Instr) (code : List Instr) → AreInRange funcs vars labels (a ∷ code) → AreInRange funcs vars labels code
  AreInRange-rest a code all = record {
    variables = (AreBelow-append vars (variables_of a) (flat_map variables_of code) all.variables).1;
    callees = (AreBelow-append funcs (callees_of a) (flat_map callees_of code) all.callees).1;
    targets = (AreBelow-append labels (targets_of a) (flat_map targets_of code) all.targets).1;
    places = (AreBelow-append labels (label_at a) (flat_map label_at code) all.places).1;
    typed = (and_parts (dest_is_typed a) (list_all dest_is_typed code) all.typed).1;
  }

  pub AreInRange-join : (a : Instr) (code : List Instr) → IsInRange funcs vars labels a → AreInRange funcs vars labels code → AreInRange funcs vars labels (a ∷ code)
  AreInRange-join a code one rest = record {
    variables = AreBelow-join vars (variables_of a) (flat_map variables_of code) one.variables rest.variables;
    callees = AreBelow-join funcs (callees_of a) (flat_map callees_of code) one.callees rest.callees;
    targets = AreBelow-join labels (targets_of a) (flat_map targets_of code) one.targets rest.targets;
    places = AreBelow-join labels (label_at a) (flat_map label_at code) one.places rest.places;
    typed = and_from (dest_is_typed a) (list_all dest_is_typed code) one.typed rest.typed;
  }

  -- each item of code in range is in range
  pub AreInRange-at : (code : List Instr) (at : ℕ) (a : Instr) → at < length code → a ≡ get_or code at a → AreInRange funcs vars labels code → IsInRange funcs vars labels a
  AreInRange-at [] at a within is all = absurd (omega arith)
  AreInRange-at (b ∷ code) zero a within is all = subst (IsInRange funcs vars labels) (sym is) (AreInRange-first b code all)
  AreInRange-at (b ∷ code) (suc at) a within is all = AreInRange-at code at a (omega arith) is (AreInRange-rest b code all)

-- ---- the tree of an item determines it

record SameDest (d e : Option ℕ) (s t : Option Ty) : Type 0 where
  dest : d ≡ e
  ty : s ≡ t

same_dest : (V : List (List ℕ)) → Differ V → (d e : Option ℕ) (s t : Option Ty) → AreBelow (length V) (listed d) → AreBelow (length V) (listed e)
    → both_or_neither d s ≡ true → both_or_neither e t ≡ true → dest_tree V d s ≡ dest_tree V e t → SameDest d e s t
same_dest V differ None None None None d_in e_in h k same = record { dest = refl; ty = refl }
same_dest V differ None None None (Some t) d_in e_in h k same = absurd (true≢false (sym k))
same_dest V differ None None (Some s) t d_in e_in h k same = absurd (true≢false (sym h))
same_dest V differ None (Some y) None None d_in e_in h k same = absurd (true≢false (sym k))
same_dest V differ None (Some y) None (Some t) d_in e_in h k same = absurd cc
same_dest V differ None (Some y) (Some s) t d_in e_in h k same = absurd (true≢false (sym h))
same_dest V differ (Some x) None None t d_in e_in h k same = absurd (true≢false (sym h))
same_dest V differ (Some x) None (Some s) None d_in e_in h k same = absurd cc
same_dest V differ (Some x) None (Some s) (Some t) d_in e_in h k same = absurd (true≢false (sym k))
same_dest V differ (Some x) (Some y) None t d_in e_in h k same = absurd (true≢false (sym h))
same_dest V differ (Some x) (Some y) (Some s) None d_in e_in h k same = absurd (true≢false (sym k))
same_dest V differ (Some x) (Some y) (Some s) (Some t) d_in e_in h k same =
    let e : typed_name (named V x) s ≡ typed_name (named V y) t = cc in
    let number : x ≡ y = one_number V differ x y d_in.0 e_in.0 (ap (λ d. d.name) e) in
    record { dest = ap Some number; ty = ap (λ d. Some d.ty) e }

module _ (fs V ls : List (List ℕ)) (differ_fs : Differ fs) (differ_V : Differ V) (differ_ls : Differ ls) where
  same_item : (a b : Instr) → IsInRange (length fs) (length V) (length ls) a → IsInRange (length fs) (length V) (length ls) b
      → item_tree fs V ls a ≡ item_tree fs V ls b → a ≡ b
  same_item (Label l) (Label m) a_in b_in same =
      let name : named ls l ≡ named ls m = cc in
      ap Label (one_number ls differ_ls l m a_in.places.0 b_in.places.0 name)
  same_item (Label l) (Const d ty v) a_in b_in same = absurd cc
  same_item (Label l) (Act d ty op args cs ts) a_in b_in same = absurd cc
  same_item (Const d ty v) (Label l) a_in b_in same = absurd cc
  same_item (Const d ty v) (Const d' ty' v') a_in b_in same =
      let e_ty : ty ≡ ty' = cc in
      let e_v : v ≡ v' = cc in
      let e_name : named V d ≡ named V d' = cc in
      let e_d = one_number V differ_V d d' a_in.variables.0 b_in.variables.0 e_name in
      λ i. Const (e_d i) (e_ty i) (e_v i)
  same_item (Const d ty v) (Act d' ty' op args cs ts) a_in b_in same = absurd cc
  same_item (Act d ty op args cs ts) (Label l) a_in b_in same = absurd cc
  same_item (Act d ty op args cs ts) (Const d' ty' v) a_in b_in same = absurd cc
  same_item (Act d ty op args cs ts) (Act d' ty' op' args' cs' ts') a_in b_in same =
      let e_dest : dest_tree V d ty ≡ dest_tree V d' ty' = cc in
      let e_op : op ≡ op' = cc in
      let e_args : map (named V) args ≡ map (named V) args' = cc in
      let e_cs : map (named fs) cs ≡ map (named fs) cs' = cc in
      let e_ts : map (named ls) ts ≡ map (named ls) ts' = cc in
      let vars = AreBelow-append (length V) (listed d) args a_in.variables in
      let vars' = AreBelow-append (length V) (listed d') args' b_in.variables in
      let dest = same_dest V differ_V d d' ty ty' vars.0 vars'.0 a_in.typed b_in.typed e_dest in
      let a = same_numbers V differ_V args args' vars.1 vars'.1 e_args in
      let c = same_numbers fs differ_fs cs cs' a_in.callees b_in.callees e_cs in
      let t = same_numbers ls differ_ls ts ts' a_in.targets b_in.targets e_ts in
      λ i. Act (dest.dest i) (dest.ty i) (e_op i) (a i) (c i) (t i)

  pub same_code : (xs ys : List Instr) → AreInRange (length fs) (length V) (length ls) xs → AreInRange (length fs) (length V) (length ls) ys
      → map (item_tree fs V ls) xs ≡ map (item_tree fs V ls) ys → xs ≡ ys
  same_code [] [] xs_in ys_in same = refl
  same_code [] (b ∷ ys) xs_in ys_in same = absurd cc
  same_code (a ∷ xs) [] xs_in ys_in same = absurd cc
  same_code (a ∷ xs) (b ∷ ys) xs_in ys_in same =
      let head : item_tree fs V ls a ≡ item_tree fs V ls b = cc in
      let tail : map (item_tree fs V ls) xs ≡ map (item_tree fs V ls) ys = cc in
      let one = same_item a b (AreInRange-first (length fs) (length V) (length ls) a xs xs_in) (AreInRange-first (length fs) (length V) (length ls) b ys ys_in) head in
      let rest = same_code xs ys (AreInRange-rest (length fs) (length V) (length ls) a xs xs_in) (AreInRange-rest (length fs) (length V) (length ls) b ys ys_in) tail in
      λ i. one i ∷ rest i

-- ---- names that stand in a tree

-- the names that an item reads and assigns, in the order of its variables
abbrev pub dest_names : Option Dest → List (List ℕ)
dest_names None = []
dest_names (Some d) = d.name ∷ []

abbrev pub names_of : Item → List (List ℕ)
names_of (item.Label l) = []
names_of (item.Const dest ty value) = dest ∷ []
names_of (item.Act dest op args funcs labels) = dest_names dest ++ args

module _ (fs V ls : List (List ℕ)) where
  names_of_dest : (d : Option ℕ) (ty : Option Ty) → both_or_neither d ty ≡ true → map (named V) (listed d) ≡ dest_names (dest_tree V d ty)
  names_of_dest None None typed = refl
  names_of_dest None (Some ty) typed = absurd (true≢false (sym typed))
  names_of_dest (Some x) None typed = absurd (true≢false (sym typed))
  names_of_dest (Some x) (Some ty) typed = refl

  names_of_item : (a : Instr) → dest_is_typed a ≡ true → map (named V) (variables_of a) ≡ names_of (item_tree fs V ls a)
  names_of_item (Label l) typed = refl
  names_of_item (Const d ty v) typed = refl
  names_of_item (Act d ty op args cs ts) typed =
      map-append (named V) (listed d) args ∙ ap (λ n. n ++ map (named V) args) (names_of_dest d ty typed)

  -- the names of a function's variables, as they appear in its tree
  pub names_of_code : (code : List Instr) → list_all dest_is_typed code ≡ true → map (named V) (flat_map variables_of code) ≡ flat_map names_of (map (item_tree fs V ls) code)
  names_of_code [] typed = refl
  names_of_code (a ∷ code) typed =
      let t = and_parts (dest_is_typed a) (list_all dest_is_typed code) typed in
      map-append (named V) (variables_of a) (flat_map variables_of code) ∙ (λ i. names_of_item a t.0 i ++ names_of_code code t.1 i)

  pub labels_of_code : (code : List Instr) → labels_of (map (item_tree fs V ls) code) ≡ map (named ls) (flat_map label_at code)
  labels_of_code [] = refl
  labels_of_code (Label l ∷ code) = ap (λ names. named ls l ∷ names) (labels_of_code code)
  labels_of_code (Const d ty v ∷ code) = labels_of_code code
  labels_of_code (Act d ty op args cs ts ∷ code) = labels_of_code code

  pub all_named : map (named ls) (range_with_len 0 (length ls)) ≡ ls
  all_named =
      let len = length-map-range_with_len (named ls) 0 (length ls) in
      same_lists _ _ len
      (λ k d within.
      let k_in : k < length ls = omega arith in
      get_or-map-range_with_len (named ls) 0 (length ls) k k d k_in (omega arith) ∙ get_or_default ls k [] d k_in)

  -- the labels of a function are those that stand in its tree
  pub labels_of_tree : (code : List Instr) → flat_map label_at code ≡ range_with_len 0 (length ls) → labels_of (map (item_tree fs V ls) code) ≡ ls
  labels_of_tree code placed = labels_of_code code ∙ ap (map (named ls)) placed ∙ all_named
