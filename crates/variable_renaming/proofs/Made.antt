-- The tree that classes make can be numbered, and is as long.
use Rattle.std.proofs.Common.{◌≡◌, ℕ, suc, ◌≤◌, Bool, true, false, List, [], ◌∷◌, length, map, All, Some, None, refl, sym, ap, subst, ◌∙◌, arith}
use Rattle.std.specs.Prelude.{slice_get}
use Rattle.std.specs.List.{Contains}
use Rattle.std.proofs.lemmas.List.{length-map}
use Rattle.std.proofs.lemmas.List.Elements.{All-cons, All-head, All-nil, All-tail}
use Rattle.std.proofs.lemmas.Option.{same_Some}
use Rattle.bril_tree.specs.declared.function_tree.FuncTree.{FuncTree}
use Rattle.bril_tree.specs.declared.function_tree.Item.{Item}
use Rattle.bril_tree.specs.declared.numbered.Instr.{Instr}
use Rattle.bril_tree.specs.declared.numbered.Instr.TheVariants.{Label, Const, Act}
use Rattle.bril_tree.specs.declared.numbered_function.Func.{Func}
use Rattle.bril_tree.specs.declared.program.Prog.{Prog}
use Rattle.bril_tree.specs.declared.tree.Tree.{Tree}
use Rattle.bril_tree.specs.Accepted.{IsAccepted}
use Rattle.bril_tree.specs.Numbered.{Numbered, function_tree, item_tree, names_of_functions, nop_item, tree_of, tree_size, variable_names}
use Rattle.bril_tree.specs.Size.{IsCounted, item_count}
use Rattle.bril_tree.proofs.Trees.{numbered-tree_of}
use Rattle.bril_names.specs.Faults.{Differ, IsKnown, IsSound, IsSoundEdit, function_names, label_of, labels_of}
use Rattle.bril_names.proofs.Edits.{labels-step}
use Rattle.graph_search.specs.Marks.{is_marked}
use Rattle.pass_make.specs.CanBeMade.{CanBeMade}
use Rattle.pass_make.proofs.Each.{items-each, names-each, size-each}
use Rattle.pass_edit_laws.specs.plan.Marked.{with_nops}
use Rattle.pass_edit_laws.proofs.lemmas.plan.Marked.{length-with_nops}
use Rattle.variable_renaming.specs.Made.{IsRenamedByClasses, IsRenamedFunction, IsRenamedTree}
use Rattle.variable_renaming.specs.Renamed.{IsRenaming}
use Rattle.variable_renaming.proofs.Accepted.{renaming-accepted}
use Rattle.variable_renaming.proofs.Copying.{copy-is}
use Rattle.variable_renaming.proofs.Trees.{HasNamesOfClasses, rename, tree-classes, tree-renaming}

-- ---- labels

module _ (fs V W ls : List (List ℕ)) where
  abbrev was : Instr → Item
  was = item_tree fs V ls

  abbrev now : Instr → Item
  now = item_tree fs W ls

  label-same : (a : Instr) → label_of (now a) ≡ label_of (was a)
  label-same (Label l) = refl
  label-same (Const d ty v) = refl
  label-same (Act d ty o args fns labels) = refl

  known-same : (K L : List (List ℕ)) (a : Instr) → IsKnown K L (was a) → IsKnown K L (now a)
  known-same K L (Label l) k = k
  known-same K L (Const d ty v) k = k
  known-same K L (Act d ty o args fns labels) k = k

  -- `nop`s in place of items that are no labels
  labels-kept : (marks : List Bool) (code : List Instr) → ((k : ℕ) (a : Instr) → is_marked marks k ≡ true → slice_get code k ≡ Some a → label_of (was a) ≡ None) → labels_of (with_nops nop_item marks (map now code)) ≡ labels_of (map was code)
  labels-kept marks [] none = empty marks
    where
      empty : (marks : List Bool) → labels_of (with_nops nop_item marks []) ≡ []
      empty [] = refl
      empty (m ∷ marks) = refl
  labels-kept [] (a ∷ code) none = labels-step (now a) (was a) (map now code) (map was code) (label-same a) (labels-kept [] code (λ k b m at. absurd cc))
  labels-kept (true ∷ marks) (a ∷ code) none = labels-step nop_item (was a) (with_nops nop_item marks (map now code)) (map was code) (sym (none 0 a refl refl)) (labels-kept marks code (λ k b m at. none (suc k) b m at))
  labels-kept (false ∷ marks) (a ∷ code) none = labels-step (now a) (was a) (with_nops nop_item marks (map now code)) (map was code) (label-same a) (labels-kept marks code (λ k b m at. none (suc k) b m at))

  known-kept : (K L : List (List ℕ)) (marks : List Bool) (code : List Instr) → All (IsKnown K L) (map was code) → All (IsKnown K L) (with_nops nop_item marks (map now code))
  known-kept K L marks [] all = empty marks
    where
      empty : (marks : List Bool) → All (IsKnown K L) (with_nops nop_item marks [])
      empty [] = All-nil (IsKnown K L)
      empty (m ∷ marks) = All-nil (IsKnown K L)
  known-kept K L [] (a ∷ code) all = All-cons (IsKnown K L) (now a) (map now code) (known-same K L a (All-head (IsKnown K L) (was a) (map was code) all)) (known-kept K L [] code (All-tail (IsKnown K L) (was a) (map was code) all))
  known-kept K L (true ∷ marks) (a ∷ code) all = All-cons (IsKnown K L) nop_item (with_nops nop_item marks (map now code)) (All-nil (Contains K), All-nil (Contains L)) (known-kept K L marks code (All-tail (IsKnown K L) (was a) (map was code) all))
  known-kept K L (false ∷ marks) (a ∷ code) all = All-cons (IsKnown K L) (now a) (with_nops nop_item marks (map now code)) (known-same K L a (All-head (IsKnown K L) (was a) (map was code) all)) (known-kept K L marks code (All-tail (IsKnown K L) (was a) (map was code) all))

-- ---- functions

-- Q is P under sound new names, which are those of classes of which this is known; it is accepted, and no longer
pub record IsRenamedProgram (Knows : Func → List ℕ → Type 0) (P Q : Prog) : Type 0 where
  pub rename : ℕ → List ℕ → List ℕ
  pub renaming : IsRenaming P Q rename
  pub classes : (f : ℕ) (F : Func) → slice_get P.funcs f ≡ Some F → HasNamesOfClasses Knows F (rename f)
  pub accepted : IsAccepted Q
  pub size : item_count Q ≤ item_count P

module _ (P : Prog) where
  abbrev fs : List (List ℕ)
  fs = names_of_functions P.funcs

  module _ (F : Func) (class : List ℕ) (g : FuncTree) (t : IsRenamedFunction P F class g) where
    labels : labels_of (with_nops nop_item t.marks (map (item_tree fs t.news F.labels) F.code)) ≡ labels_of (map (item_tree fs (variable_names F.vars) F.labels) F.code)
    labels = labels-kept fs (variable_names F.vars) t.news F.labels t.marks F.code none
      where
        none : (k : ℕ) (a : Instr) → is_marked t.marks k ≡ true → slice_get F.code k ≡ Some a → label_of (item_tree fs (variable_names F.vars) F.labels a) ≡ None
        none k a marked at =
            let c = t.marked.only k marked in
            let copy = copy-is c.item c.x c.y c.copies in
            ap (λ (b : Instr). label_of (item_tree fs (variable_names F.vars) F.labels b)) (same_Some a c.item (sym at ∙ c.at) ∙ copy.is)

    can_be_numbered : IsSound (function_names (tree_of P)) (function_tree fs F) → IsSoundEdit (function_names (tree_of P)) (function_tree fs F) g
    can_be_numbered s = subst (IsSoundEdit (function_names (tree_of P)) (function_tree fs F)) (sym t.tree) (record {
      head = record { name = refl; args = refl; ret = refl };
      labels = subst Differ (sym labels) s.labels;
      known = subst (λ ls. All (IsKnown (function_names (tree_of P)) ls) (with_nops nop_item t.marks (map (item_tree fs t.news F.labels) F.code))) (sym labels)
          (known-kept fs (variable_names F.vars) t.news F.labels (function_names (tree_of P)) (labels_of (map (item_tree fs (variable_names F.vars) F.labels) F.code)) t.marks F.code s.known);
    })

    not-longer : length g.code ≤ length F.code
    not-longer =
        let e = ap (λ (h : FuncTree). length h.code) t.tree in
        let n = length-with_nops nop_item t.marks (map (item_tree fs t.news F.labels) F.code) in
        let m = length-map F.code (item_tree fs t.news F.labels) in
        omega arith

  -- ---- by what the calls give: the tree that was made, and the program numbered of that

  module _ (Knows : Func → List ℕ → Type 0) (accepted : IsAccepted P) (tree : Tree) (t : IsRenamedTree Knows P tree) where
    as-long : (F : Func) (g : FuncTree) → IsRenamedByClasses Knows P F g → length g.code ≤ length F.code
    as-long F g r = not-longer F r.class g r.made

    pub of-numbered : (Q : Prog) → Numbered tree Q → IsRenamedTree Knows P (tree_of Q)
    of-numbered Q of_q = subst (IsRenamedTree Knows P) (numbered-tree_of tree Q of_q) t

    pub accepted-of_tree : (Q : Prog) → Numbered tree Q → IsAccepted Q
    accepted-of_tree Q of_q = let r = of-numbered Q of_q in renaming-accepted P Q (rename Knows P accepted Q r) (tree-renaming Knows P accepted Q r) accepted

    pub can-be_made : IsCounted P → CanBeMade P tree
    can-be_made c = record {
      imports = t.imports;
      names = names-each P (IsRenamedByClasses Knows P) (λ f F g p s r. can_be_numbered F r.class g r.made s) tree.funcs t.functions;
      accepted = accepted-of_tree;
      items = items-each P (IsRenamedByClasses Knows P) as-long tree.funcs t.functions c.items;
    }

    pub renamed-program : (Q : Prog) → Numbered tree Q → item_count Q ≡ tree_size tree → IsRenamedProgram Knows P Q
    renamed-program Q of_q size =
        let r = of-numbered Q of_q in
        let h = size-each P (IsRenamedByClasses Knows P) as-long tree.funcs t.functions in
        record { rename = rename Knows P accepted Q r; renaming = tree-renaming Knows P accepted Q r; classes = tree-classes Knows P accepted Q r; accepted = accepted-of_tree Q of_q; size = omega (arith, size) }
