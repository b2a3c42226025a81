-- Where the items of a result come from: each is one of the function that it was made of by its tree, perhaps with other
-- names, or a new one that names variables of that function, or some by extra names.
use Rattle.std.proofs.Common.{◌≡◌, ◌⊎◌, ℕ, ◌<◌, ◌≤◌, Bool, true, List, [], ◌∷◌, ◌++◌, length, map, Option, Some, None, refl, sym, ap, subst, ◌∙◌, inl, inr, ⊎_elim, arith}
use Rattle.std.specs.Prelude.{slice_get}
use Rattle.std.specs.List.{list_any}
use Rattle.std.specs.Option.{option_map}
use Rattle.std.proofs.lemmas.List.{map-id}
use Rattle.std.proofs.lemmas.Option.{same_Some}
use Rattle.std.proofs.lemmas.Map.Keys.{any_passes_from_place}
use Rattle.bril_tree.specs.declared.function_tree.Item.{Item}
use Rattle.bril_tree.specs.declared.numbered.Instr.{Instr}
use Rattle.bril_tree.specs.declared.numbered.Instr.TheVariants.{Label, Const, Act}
use Rattle.bril_tree.specs.declared.numbered_function.Func.{Func}
use Rattle.bril_tree.specs.declared.operation.Op.{Op}
use Rattle.bril_tree.specs.declared.operation.Op.TheVariants as op
use Rattle.bril_tree.specs.declared.program.Prog.{Prog}
use Rattle.program_numbers.specs.Cost.{item_passes, longest_in, operation_passes}
use Rattle.bril_tree.specs.FrameWords.{names_shadow}
use Rattle.bril_tree.specs.FunctionForm.{dest_is_typed, listed, variables_of}
use Rattle.bril_tree.specs.Membership.{In}
use Rattle.bril_tree.specs.Numbered.{item_tree, named, names_of_functions, nop, point_tree, tree_at, variable_names}
use Rattle.program_numbers.specs.ProgramNumbers.{greatest}
use Rattle.bril_tree.proofs.Elements.{get_in, in_get, passes_in}
use Rattle.bril_tree.proofs.Formed.{variable_below}
use Rattle.bril_tree.proofs.Members.{in_map}
use Rattle.bril_names.proofs.Variables.{arguments_of}
use Rattle.pass_edit_laws.proofs.lemmas.numbers.ItemTrees.{is-named, item_names, names-item, names-shadows, passes-item, same_named, shadow-of_variable, shadow_names, shadows_of, tree_passes}

-- a name as it is
abbrev pub unchanged : List ℕ → List ℕ
unchanged name = name

-- some item names the shadow of the variable
abbrev pub is_used : List Instr → ℕ → Bool
is_used code x = list_any (names_shadow x) code

-- the variable of G has the new name of one of F
pub record IsNamed (rename : List ℕ → List ℕ) (F G : Func) (y : ℕ) : Type 0 where
  pub x : ℕ
  pub low : x < length F.vars
  pub same : rename (named (variable_names F.vars) x) ≡ named (variable_names G.vars) y

-- An item of G names variables that have new names of F's or extra ones, and shadows that F names by their variables' new
-- names, and it passes no longer list of arguments than F has.
pub record IsItemOf (rename : List ℕ → List ℕ) (extra : List (List ℕ)) (F G : Func) (b : Instr) : Type 0 where
  pub variables : (y : ℕ) → In y (variables_of b) → IsNamed rename F G y ⊎ In (named (variable_names G.vars) y) extra
  pub shadows : (y : ℕ) → In y (shadows_of b) → (n : IsNamed rename F G y) × (is_used F.code n.x ≡ true)
  pub passes : item_passes b ≤ longest_in F

-- So do all items of G, and its arguments are F's.
pub record IsOfItems (rename : List ℕ → List ℕ) (extra : List (List ℕ)) (F G : Func) : Type 0 where
  pub args : arguments_of F.args F.vars ≡ arguments_of G.args G.vars
  pub stay : (x : ℕ) → x < F.args → rename (named (variable_names F.vars) x) ≡ named (variable_names F.vars) x
  pub items : (b : Instr) → In b G.code → IsItemOf rename extra F G b

-- ---- items of the old function

pub in-greatest : (a : Instr) (items : List Instr) → In a items → item_passes a ≤ greatest (map item_passes items)
in-greatest a [] i = absurd i
in-greatest a (b ∷ items) (inl same) = let s = ap item_passes same in omega arith
in-greatest a (b ∷ items) (inr i) = let rest = in-greatest a items i in omega arith

renamed_names : (rename : List ℕ → List ℕ) (V : List (List ℕ)) (xs : List ℕ) → map rename (map (named V) xs) ≡ map (λ x. rename (named V x)) xs
renamed_names rename V [] = refl
renamed_names rename V (x ∷ xs) = ap (λ names. rename (named V x) ∷ names) (renamed_names rename V xs)

module _ (rename : List ℕ → List ℕ) (extra : List (List ℕ)) (fs gs : List (List ℕ)) (F G : Func) (a b : Instr) (i : In a F.code) (j : In b G.code) where
  abbrev V : List (List ℕ)
  V = variable_names F.vars

  abbrev W : List (List ℕ)
  W = variable_names G.vars

  -- of a variable among some of the new item, where their names are the new names of some of the old one
  named-from : (xs ys : List ℕ) → ((x : ℕ) → In x xs → In x (variables_of a)) → map rename (map (named V) xs) ≡ map (named W) ys → (y : ℕ) → In y ys → (n : IsNamed rename F G y) × In n.x xs
  named-from xs ys own names y k =
      let one = same_named (λ x. rename (named V x)) (named W) xs ys (sym (renamed_names rename V xs) ∙ names) y k in
      let at = in_get a F.code i in
      (record { x = one.0; low = variable_below F at.0 a at.1 one.0 (own one.0 one.1); same = one.2 }, one.1)

  -- one with new names
  pub renamed-item : (was now : Item) → item_tree fs (variable_names F.vars) F.labels a ≡ was → item_tree gs (variable_names G.vars) G.labels b ≡ now
      → map rename (item_names was) ≡ item_names now → map rename (shadow_names was) ≡ shadow_names now → tree_passes now ≤ tree_passes was → IsItemOf rename extra F G b
  renamed-item was now mine theirs names shadows passes = record {
    variables = λ y k. inl (named-from (variables_of a) (variables_of b) (λ x m. m) (sym (ap (map rename) (names-item fs V F.labels a typed_a)) ∙ ap (λ t. map rename (item_names t)) mine ∙ names ∙ ap item_names (sym theirs) ∙ names-item gs W G.labels b typed_b) y k).0;
    shadows = λ y k.
        let n = named-from (shadows_of a) (shadows_of b) (λ x m. shadow-of_variable x a m) (sym (ap (map rename) (names-shadows fs V F.labels a typed_a)) ∙ ap (λ t. map rename (shadow_names t)) mine ∙ shadows ∙ ap shadow_names (sym theirs) ∙ names-shadows gs W G.labels b typed_b) y k in
        let at = in_get a F.code i in
        (n.0, any_passes_from_place (names_shadow n.0.x) F.code at.0 a at.1 (is-named n.0.x a n.1));
    passes =
        let before : item_passes a ≡ tree_passes was = passes-item fs V F.labels a ∙ ap tree_passes mine in
        let after : item_passes b ≡ tree_passes now = passes-item gs W G.labels b ∙ ap tree_passes theirs in
        let most = in-greatest a F.code i in
        omega arith;
  }
    where
      typed_a : dest_is_typed a ≡ true
      typed_a = passes_in dest_is_typed F.code a F.formed.typed i

      typed_b : dest_is_typed b ≡ true
      typed_b = passes_in dest_is_typed G.code b G.formed.typed j

-- one of the same tree
pub old-item : (extra fs gs : List (List ℕ)) (F G : Func) (a b : Instr) → In a F.code → In b G.code → item_tree fs (variable_names F.vars) F.labels a ≡ item_tree gs (variable_names G.vars) G.labels b → IsItemOf unchanged extra F G b
old-item extra fs gs F G a b i j same =
    let now = item_tree gs (variable_names G.vars) G.labels b in
    renamed-item unchanged extra fs gs F G a b i j now now same refl (map-id (item_names now)) (map-id (shadow_names now)) (omega arith)

-- ---- new items

-- An item of G is plain: it names variables of F or some by extra names, and no shadow, and it passes no argument.
pub record IsPlain (rename : List ℕ → List ℕ) (extra : List (List ℕ)) (F G : Func) (b : Instr) : Type 0 where
  pub names : (y : ℕ) → In y (variables_of b) → IsNamed rename F G y ⊎ In (named (variable_names G.vars) y) extra
  pub shadows : shadows_of b ≡ []
  pub passes : item_passes b ≡ 0

none-in : (xs : List ℕ) → ((x : ℕ) → In x xs → ⊥) → xs ≡ []
none-in [] none = refl
none-in (x ∷ xs) none = absurd (none x (inl refl))

module _ (rename : List ℕ → List ℕ) (extra : List (List ℕ)) (F G : Func) (b : Instr) where
  abbrev Names : List (List ℕ)
  Names = variable_names G.vars

  pub plain-item : IsPlain rename extra F G b → IsItemOf rename extra F G b
  plain-item plain = record {
    variables = plain.names;
    shadows = λ y k. absurd (subst (In y) plain.shadows k);
    passes = let none = plain.passes in omega arith;
  }

  -- an item that names no variable is plain
  pub bare-plain : variables_of b ≡ [] → IsPlain rename extra F G b
  bare-plain none = record {
    names = λ y k. absurd (subst (In y) none k);
    shadows = none-in (shadows_of b) (λ x k. subst (In x) none (shadow-of_variable x b k));
    passes = passes b none;
  }
    where
      few : (d : Option ℕ) (args : List ℕ) → listed d ++ args ≡ [] → length args ≡ 0
      few None args e = ap length e
      few (Some x) args e = absurd cc

      count : (o : Op) (args : List ℕ) → length args ≡ 0 → operation_passes o args ≡ 0
      count op.Call args e = e
      count op.Print args e = e
      count _ args e = refl

      passes : (c : Instr) → variables_of c ≡ [] → item_passes c ≡ 0
      passes (Label l) e = refl
      passes (Const d ty v) e = absurd cc
      passes (Act d ty o args fns ls) e = count o args (few d args e)

  pub nop-plain : b ≡ nop → IsPlain rename extra F G b
  nop-plain e = bare-plain (ap variables_of e)

  -- one of which the tree tells it
  pub plain-tree : In b G.code → (gs : List (List ℕ)) (tree : Item) → item_tree gs (variable_names G.vars) G.labels b ≡ tree → shadow_names tree ≡ [] → tree_passes tree ≡ 0
      → ((name : List ℕ) → In name (item_names tree) → ((x : ℕ) × (x < length F.vars) × (rename (named (variable_names F.vars) x) ≡ name)) ⊎ In name extra) → IsPlain rename extra F G b
  plain-tree j gs tree is shadows passes names = record {
    names = λ y k. ⊎_elim (λ n. inl (record { x = n.0; low = n.1; same = n.2 })) inr
        (names (named Names y) (subst (In (named Names y)) (sym (names-item gs Names G.labels b typed) ∙ ap item_names is) (in_map (named Names) y (variables_of b) k)));
    shadows = none-in (shadows_of b) (λ x k. subst (In (named Names x)) (sym (names-shadows gs Names G.labels b typed) ∙ ap shadow_names is ∙ shadows) (in_map (named Names) x (shadows_of b) k));
    passes = passes-item gs Names G.labels b ∙ ap tree_passes is ∙ passes;
  }
    where
      typed : dest_is_typed b ≡ true
      typed = passes_in dest_is_typed G.code b G.formed.typed j

-- ---- the items of a function of the result

module _ (P Q : Prog) (f : ℕ) (F G : Func) (p : slice_get P.funcs f ≡ Some F) (q : slice_get Q.funcs f ≡ Some G) where
  -- an item of the tree that stands at a point of P
  item-back : (i j : ℕ) (b : Instr) → tree_at P f i ≡ tree_at Q f j → slice_get G.code j ≡ Some b → (a : Instr) × In a F.code × (item_tree (names_of_functions P.funcs) (variable_names F.vars) F.labels a ≡ item_tree (names_of_functions Q.funcs) (variable_names G.vars) G.labels b)
  item-back i j b same at =
      let mine = ap (λ o. point_tree (names_of_functions P.funcs) o i) p in
      let theirs = ap (λ o. point_tree (names_of_functions Q.funcs) o j) q in
      by (slice_get F.code i) refl (sym mine ∙ same ∙ theirs ∙ ap (option_map (item_tree (names_of_functions Q.funcs) (variable_names G.vars) G.labels)) at)
    where
      by : (o : Option Instr) → slice_get F.code i ≡ o → option_map (item_tree (names_of_functions P.funcs) (variable_names F.vars) F.labels) o ≡ Some (item_tree (names_of_functions Q.funcs) (variable_names G.vars) G.labels b) → (a : Instr) × In a F.code × (item_tree (names_of_functions P.funcs) (variable_names F.vars) F.labels a ≡ item_tree (names_of_functions Q.funcs) (variable_names G.vars) G.labels b)
      by None here e = absurd (let n : None ≡ Some (item_tree (names_of_functions Q.funcs) (variable_names G.vars) G.labels b) = e in cc)
      by (Some a) here e = (a, get_in F.code i a here, same_Some _ _ e)

  -- where each item of Q is plain, or one of P by its tree, the items of the function are of P's
  pub items-plain : (extra : List (List ℕ)) → arguments_of F.args F.vars ≡ arguments_of G.args G.vars → ((j : ℕ) (b : Instr) → slice_get G.code j ≡ Some b → IsPlain unchanged extra F G b ⊎ ((i : ℕ) × (tree_at P f i ≡ tree_at Q f j))) → IsOfItems unchanged extra F G
  items-plain extra args each = record {
    args = args;
    stay = λ x low. refl;
    items = λ b among.
        let k = in_get b G.code among in
        ⊎_elim (plain-item unchanged extra F G b)
        (λ s. let r = item-back s.0 k.0 b s.1 k.1 in old-item extra (names_of_functions P.funcs) (names_of_functions Q.funcs) F G r.0 b r.1 among r.2) (each k.0 b k.1);
  }

  -- and where each is a `nop`, or one of P by its tree
  pub items-back : arguments_of F.args F.vars ≡ arguments_of G.args G.vars → ((j : ℕ) (b : Instr) → slice_get G.code j ≡ Some b → (b ≡ nop) ⊎ ((i : ℕ) × (tree_at P f i ≡ tree_at Q f j))) → IsOfItems unchanged [] F G
  items-back args each = items-plain [] args (λ j b at. ⊎_elim (λ e. inl (nop-plain unchanged [] F G b e)) inr (each j b at))
