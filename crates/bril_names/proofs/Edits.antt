-- Trees whose functions are edits of a program's.
use Rattle.std.proofs.Common.{◌≡◌, ℕ, List, [], ◌∷◌, map, refl, sym, subst, ◌∙◌, All}
use Rattle.std.specs.List.{AllZip, Contains}
use Rattle.std.proofs.lemmas.List.Elements.{All-nil, All-cons, All-head, All-tail}
use Rattle.bril_tree.specs.declared.function_tree.Dest.{Dest}
use Rattle.bril_tree.specs.declared.function_tree.FuncTree.{FuncTree}
use Rattle.bril_tree.specs.declared.program.Prog.{Prog}
use Rattle.bril_tree.specs.declared.tree.Tree.{Tree}
use Rattle.bril_tree.specs.Numbered.{names_of_functions, tree_of}
use Rattle.bril_tree.specs.ProgramForm.{main_name}
use Rattle.bril_tree.specs.declared.function_tree.Item.{Item}
use Rattle.bril_tree.specs.declared.function_tree.Item.TheVariants as item
use Rattle.bril_tree.proofs.Trees.{tree_of-numbered}
use Rattle.bril_names.specs.declared.fault.NameFault.{NameFault}
use Rattle.bril_names.specs.Faults.{Differ, HasFault, IsSound, SameHead, IsSoundEdit, function_names, label_of, labels_of}
use Rattle.bril_names.proofs.Faultless.{IsSoundTree, faultless}
use Rattle.bril_names.proofs.Sound.{names_kept, sound_tree}

zip-names : (xs ys : List FuncTree) → AllZip SameHead xs ys → map (λ (f : FuncTree). f.name) xs ≡ map (λ (f : FuncTree). f.name) ys
zip-names [] [] z = refl
zip-names [] (y ∷ ys) z = absurd z
zip-names (x ∷ xs) [] z = absurd z
zip-names (x ∷ xs) (y ∷ ys) z = λ i. z.0.name i ∷ zip-names xs ys z.1 i

-- programs whose trees have the same heads have functions of the same names
pub names-of_heads : (p q : Prog) → AllZip SameHead (tree_of p).funcs (tree_of q).funcs → names_of_functions p.funcs ≡ names_of_functions q.funcs
names-of_heads p q z = sym (names_kept (names_of_functions p.funcs) p.funcs) ∙ zip-names (tree_of p).funcs (tree_of q).funcs z ∙ names_kept (names_of_functions q.funcs) q.funcs

-- ---- an edited tree can be numbered

sound-edits : (names : List (List ℕ)) (xs ys : List FuncTree) → All (IsSound names) xs → AllZip (IsSoundEdit names) xs ys → All (IsSound names) ys
sound-edits names [] [] s z = All-nil (IsSound names)
sound-edits names [] (y ∷ ys) s z = absurd z
sound-edits names (x ∷ xs) [] s z = absurd z
sound-edits names (x ∷ xs) (y ∷ ys) s z =
    All-cons (IsSound names) y ys
    (record {
      arguments = subst (λ ds. Differ (map (λ (a : Dest). a.name) ds)) z.0.head.args (All-head (IsSound names) x xs s).arguments;
      labels = z.0.labels;
      known = z.0.known;
    })
    (sound-edits names xs ys (All-tail (IsSound names) x xs s) z.1)

pub heads-of_edits : (names : List (List ℕ)) (xs ys : List FuncTree) → AllZip (IsSoundEdit names) xs ys → AllZip SameHead xs ys
heads-of_edits names [] [] z = tt
heads-of_edits names [] (y ∷ ys) z = absurd z
heads-of_edits names (x ∷ xs) [] z = absurd z
heads-of_edits names (x ∷ xs) (y ∷ ys) z = (z.0.head, heads-of_edits names xs ys z.1)

pub edited_faultless : (p : Prog) (tree : Tree) (fault : NameFault) → AllZip (IsSoundEdit (function_names (tree_of p))) (tree_of p).funcs tree.funcs → HasFault tree fault → ⊥
edited_faultless p tree fault z has = faultless tree (record {
  differ = subst Differ same was.differ;
  main = subst (λ ns. Contains ns main_name) same was.main;
  sound = subst (λ ns. All (IsSound ns) tree.funcs) same (sound-edits (function_names (tree_of p)) (tree_of p).funcs tree.funcs was.sound z);
}) fault has
  where
    was : IsSoundTree (tree_of p)
    was = sound_tree (tree_of p) p (tree_of-numbered p)

    same : function_names (tree_of p) ≡ function_names tree
    same = zip-names (tree_of p).funcs tree.funcs (heads-of_edits (function_names (tree_of p)) (tree_of p).funcs tree.funcs z)

-- where each function is edited by itself
zip-edited : (names : List (List ℕ)) (edit : FuncTree → FuncTree) (xs : List FuncTree) → All (IsSound names) xs → ((f : FuncTree) → IsSound names f → IsSoundEdit names f (edit f)) → AllZip (IsSoundEdit names) xs (map edit xs)
zip-edited names edit [] s h = tt
zip-edited names edit (x ∷ xs) s h = (h x (All-head (IsSound names) x xs s), zip-edited names edit xs (All-tail (IsSound names) x xs s) h)

pub names_edited : (p : Prog) (edit : FuncTree → FuncTree) → ((f : FuncTree) → IsSound (function_names (tree_of p)) f → IsSoundEdit (function_names (tree_of p)) f (edit f))
    → AllZip (IsSoundEdit (function_names (tree_of p))) (tree_of p).funcs (map edit (tree_of p).funcs)
names_edited p edit h = zip-edited (function_names (tree_of p)) edit (tree_of p).funcs (sound_tree (tree_of p) p (tree_of-numbered p)).sound h

-- ---- labels

-- items that are one label, or none of them one
pub labels-step : (x y : Item) (xs ys : List Item) → label_of x ≡ label_of y → labels_of xs ≡ labels_of ys → labels_of (x ∷ xs) ≡ labels_of (y ∷ ys)
labels-step (item.Label n) (item.Label m) xs ys e rest = let same : n ≡ m = cc in λ i. same i ∷ rest i
labels-step (item.Label n) (item.Const d ty v) xs ys e rest = absurd cc
labels-step (item.Label n) (item.Act d o args fns ls) xs ys e rest = absurd cc
labels-step (item.Const d ty v) (item.Label m) xs ys e rest = absurd cc
labels-step (item.Const d ty v) (item.Const x s w) xs ys e rest = rest
labels-step (item.Const d ty v) (item.Act x o args fns ls) xs ys e rest = rest
labels-step (item.Act d o args fns ls) (item.Label m) xs ys e rest = absurd cc
labels-step (item.Act d o args fns ls) (item.Const x s w) xs ys e rest = rest
labels-step (item.Act d o args fns ls) (item.Act x u brgs gns ms) xs ys e rest = rest
