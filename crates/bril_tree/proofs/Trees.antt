-- The tree of a program: it is the one of which the program is the numbering, and it has the program's items.
use Rattle.std.proofs.Common.{◌≡◌, ℕ, true, List, [], ◌∷◌, map, Option, Some, None, refl, sym, ap, ◌∙◌}
use Rattle.std.specs.Prelude.{slice_get}
use Rattle.std.specs.Option.{option_map}
use Rattle.std.proofs.lemmas.Option.{slice_get-map, same_Some}
use Rattle.bril_tree.specs.declared.function_tree.FuncTree.{FuncTree}
use Rattle.bril_tree.specs.declared.numbered.Instr.{Instr}
use Rattle.bril_tree.specs.declared.numbered.Instr.TheVariants.{Label, Const, Act}
use Rattle.bril_tree.specs.declared.numbered_function.Func.{Func}
use Rattle.bril_tree.specs.declared.operation.Op.TheVariants as op
use Rattle.bril_tree.specs.declared.program.Prog.{Prog}
use Rattle.bril_tree.specs.declared.tree.Tree.{Tree}
use Rattle.bril_tree.specs.declared.types.Ty.{Ty}
use Rattle.bril_tree.specs.FunctionForm.{dest_is_typed}
use Rattle.bril_tree.specs.Numbered.{Numbered, named, dest_tree, item_tree, function_tree, variable_names, names_of_functions, tree_of, point_tree, tree_at, items_in, nop_item, nop}
use Rattle.bril_tree.specs.Step.{items_of, item_at}
use Rattle.bril_tree.proofs.Formed.{typed_destination}

pub tree_of-numbered : (p : Prog) → Numbered (tree_of p) p
tree_of-numbered p = record { alone = refl; functions = refl }

pub numbered-tree_of : (tree : Tree) (p : Prog) → Numbered tree p → tree ≡ tree_of p
numbered-tree_of tree p n = λ i. record { imports = n.alone i; funcs = n.functions i }

-- ---- functions and items of the tree

pub function_at : (p : Prog) (f : ℕ) (func : Func) → slice_get p.funcs f ≡ Some func → slice_get (tree_of p).funcs f ≡ Some (function_tree (names_of_functions p.funcs) func)
function_at p f func e = slice_get-map (function_tree (names_of_functions p.funcs)) p.funcs f ∙ ap (option_map (function_tree (names_of_functions p.funcs))) e

-- the item of a point stands there in the tree
pub tree_at-items : (p : Prog) (f point : ℕ) → tree_at p f point ≡ slice_get (items_in (slice_get (tree_of p).funcs f)) point
tree_at-items p f point = by (slice_get p.funcs f) ∙ sym (ap (λ o. slice_get (items_in o) point) (slice_get-map (function_tree (names_of_functions p.funcs)) p.funcs f))
  where
    by : (o : Option Func) → point_tree (names_of_functions p.funcs) o point ≡ slice_get (items_in (option_map (function_tree (names_of_functions p.funcs)) o)) point
    by None = refl
    by (Some func) = sym (slice_get-map (item_tree (names_of_functions p.funcs) (variable_names func.vars) func.labels) func.code point)

pub tree_at-function : (p : Prog) (f point : ℕ) (t : FuncTree) → slice_get (tree_of p).funcs f ≡ Some t → tree_at p f point ≡ slice_get t.code point
tree_at-function p f point t e = tree_at-items p f point ∙ ap (λ o. slice_get (items_in o) point) e

-- where each function is edited by itself
pub tree_at-edited : (p : Prog) (tree : Tree) (edit : FuncTree → FuncTree) → tree_of p ≡ record { imports = []; funcs = map edit tree.funcs } → (f point : ℕ) → tree_at p f point ≡ slice_get (items_in (option_map edit (slice_get tree.funcs f))) point
tree_at-edited p tree edit e f point = tree_at-items p f point ∙ ap (λ (t : Tree). slice_get (items_in (slice_get t.funcs f)) point) e ∙ ap (λ o. slice_get (items_in o) point) (slice_get-map edit tree.funcs f)

-- an item with its function and its names
pub record FoundAt (p : Prog) (f point : ℕ) (item : Instr) : Type 0 where
  pub function : Func
  pub there : slice_get p.funcs f ≡ Some function
  pub here : slice_get function.code point ≡ Some item
  pub tree : tree_at p f point ≡ Some (item_tree (names_of_functions p.funcs) (variable_names function.vars) function.labels item)

pub found_at : (p : Prog) (f point : ℕ) (item : Instr) → item_at p f point ≡ Some item → FoundAt p f point item
found_at p f point item at = by (slice_get p.funcs f) refl
  where
    by : (o : Option Func) → slice_get p.funcs f ≡ o → FoundAt p f point item
    by None e = absurd (let h : None ≡ Some item = ap (λ o. slice_get (items_of o) point) (sym e) ∙ at in cc)
    by (Some func) e =
        let here : slice_get func.code point ≡ Some item = ap (λ o. slice_get (items_of o) point) (sym e) ∙ at in
        record {
          function = func;
          there = e;
          here = here;
          tree = ap (λ o. point_tree (names_of_functions p.funcs) o point) e ∙ ap (option_map (item_tree (names_of_functions p.funcs) (variable_names func.vars) func.labels)) here;
        }

pub nothing_at : (p : Prog) (f point : ℕ) → item_at p f point ≡ None → tree_at p f point ≡ None
nothing_at p f point at = by (slice_get p.funcs f) at
  where
    by : (o : Option Func) → slice_get (items_of o) point ≡ None → point_tree (names_of_functions p.funcs) o point ≡ None
    by None e = refl
    by (Some func) e = ap (option_map (item_tree (names_of_functions p.funcs) (variable_names func.vars) func.labels)) e

-- ---- an item that does nothing

pub none_from : {A B : Type 0} (g : A → B) (xs : List A) → map g xs ≡ [] → xs ≡ []
none_from g [] e = refl
none_from g (x ∷ xs) e = absurd cc

nop-numbered : (fs vars ls : List (List ℕ)) (item : Instr) → dest_is_typed item ≡ true → item_tree fs vars ls item ≡ nop_item → item ≡ nop
nop-numbered fs vars ls (Label l) typed e = absurd cc
nop-numbered fs vars ls (Const dest ty value) typed e = absurd cc
nop-numbered fs vars ls (Act dest ty o args funcs labels) typed e =
    let eo : o ≡ op.Nop = cc in
    let ed : dest_tree vars dest ty ≡ None = cc in
    let ea : map (named vars) args ≡ [] = cc in
    let ef : map (named fs) funcs ≡ [] = cc in
    let el : map (named ls) labels ≡ [] = cc in
    let bare = by dest ty typed ed in
    λ i. Act (bare.0 i) (bare.1 i) (eo i) (none_from (named vars) args ea i) (none_from (named fs) funcs ef i) (none_from (named ls) labels el i)
  where
    by : (d : Option ℕ) (t : Option Ty) → dest_is_typed (Act d t o args funcs labels) ≡ true → dest_tree vars d t ≡ None → (d ≡ None) × (t ≡ None)
    by None None t e = (refl, refl)
    by None (Some ty) t e = absurd cc
    by (Some x) None t e = absurd cc
    by (Some x) (Some ty) t e = absurd cc

-- a `nop` of the tree is one of the program
pub nop-at : (p : Prog) (f point : ℕ) → tree_at p f point ≡ Some nop_item → item_at p f point ≡ Some nop
nop-at p f point at = by (item_at p f point) refl
  where
    by : (o : Option Instr) → item_at p f point ≡ o → item_at p f point ≡ Some nop
    by None none = absurd (let h = sym (nothing_at p f point none) ∙ at in cc)
    by (Some item) here =
        let found = found_at p f point item here in
        here ∙ ap Some (nop-numbered _ _ _ item (typed_destination found.function point item found.here) (same_Some _ _ (sym found.tree ∙ at)))
