-- What is made of the functions of a program.
use Rattle.std.proofs.Common.{◌≡◌, ℕ, List, [], length, Some, refl, sym, ap, subst, ◌∙◌, arith}
use Rattle.std.specs.Prelude.{slice_get}
use Rattle.std.proofs.lemmas.List.{get_or_past, length-map, nil_from_length}
use Rattle.std.proofs.lemmas.Option.{same_Some, slice_get_within}
use Rattle.bril_tree.specs.declared.function_tree.FuncTree.{FuncTree}
use Rattle.bril_tree.specs.declared.function_tree.Item.{Item}
use Rattle.bril_tree.specs.declared.numbered_function.Func.{Func}
use Rattle.bril_tree.specs.declared.program.Prog.{Prog}
use Rattle.bril_tree.specs.declared.tree.Tree.{Tree}
use Rattle.bril_tree.specs.Numbered.{function_tree, names_of_functions, tree_at, tree_of}
use Rattle.bril_tree.specs.Step.{code_of, items_of}
use Rattle.bril_tree.proofs.Elements.{get_inside}
use Rattle.bril_tree.proofs.Trees.{function_at, tree_at-function}
use Rattle.pass_edit_laws.specs.labels.Fresh.{labels_here, labels_in}
use Rattle.pass_edit_laws.specs.plan.Spliced.{spliced}
use Rattle.pass_make.specs.Each.{IsMadeOfEach}
use Rattle.side_laws.specs.Paired.{ArePairs, Pair}
use Rattle.side_laws.specs.Sided.{AreExits, IsSidedFunction, IsSidedTree, SideExit, exits_before, sided_items}
use Rattle.side_laws.proofs.Numbers.{all-exits, exits-of}
use Rattle.side_laws.proofs.lemmas.pairs.Existing.{pairs-there}
use Rattle.side_laws.proofs.lemmas.pairs.Unique.{pairs-one}
use Rattle.side_traces.specs.Made.{IsSidedBy}
use Rattle.side_traces.specs.Rows.{row, with_rows}
use Rattle.side_traces.proofs.Retargeting.{sided-none}
use Rattle.side_traces.proofs.Names.{exits-one}
use Rattle.side_traces.proofs.Splicing.{rows-all, spliced-none, spliced-same}

-- ---- a function

-- nothing, where it has no pairs
pub nothing-made : (F : Func) (tree : FuncTree) (pairs : List Pair) → ArePairs F.code pairs → length pairs ≡ 0 → IsSidedBy F tree tree
nothing-made F tree pairs are none = record {
  pairs = [];
  exits = [];
  are_pairs = subst (ArePairs F.code) (nil_from_length pairs none) are;
  are_exits = refl;
  is = λ i. record tree { code = sym (spliced-none 0 (sided_items [] 0 tree.code) ∙ sided-none 0 tree.code) i };
}

-- the items with their rows
pub all-made : (F : Func) (tree made : FuncTree) (pairs : List Pair) (exits : List SideExit) (rows : List (List Item)) (items code : List Item) → length rows ≡ length items → ArePairs F.code pairs → AreExits F.labels 1 pairs exits → ((i : ℕ) → row rows i ≡ exits_before (slice_get tree.code) F.labels F.code exits i)
    → items ≡ sided_items exits 0 tree.code → code ≡ with_rows (row rows) 0 items → made ≡ record tree { code = code } → IsSidedBy F tree made
all-made F tree made pairs exits rows items code long are_pairs are_exits each guards swept is = record {
  pairs = pairs;
  exits = exits;
  are_pairs = are_pairs;
  are_exits = are_exits;
  is = is ∙ ap (λ (l : List Item). record tree { code = l }) (whole ∙ ap (spliced (row rows) (λ i. []) 0) guards ∙ spliced-same (row rows) (exits_before (slice_get tree.code) F.labels F.code exits) 0 (sided_items exits 0 tree.code) each);
}
  where
    whole : code ≡ spliced (row rows) (λ i. []) 0 items
    whole = rows-all (row rows) items code (get_or_past rows (length items) [] (omega (arith, long))) swept

-- ---- a function of a program

module _ (P : Prog) (f : ℕ) (F : Func) (there : slice_get P.funcs f ≡ Some F) (tree : FuncTree) (named : slice_get (tree_of P).funcs f ≡ Some tree) where
  code : code_of P f ≡ F.code
  code = ap items_of there

  labels : labels_in P f ≡ F.labels
  labels = ap labels_here there

  same-exits : (pairs : List Pair) (exits : List SideExit) → ArePairs F.code pairs → AreExits F.labels 1 pairs exits → exits ≡ (exits-of P f).0
  same-exits pairs exits are_pairs are_exits =
      let own = pairs-there (code_of P f) in
      let same : pairs ≡ own.0 = pairs-one (code_of P f) pairs own.0 (subst (λ c. ArePairs c pairs) (sym code) are_pairs) own.1 in
      exits-one (labels_in P f) 1 own.0 exits (exits-of P f).0 (subst (λ ls. AreExits ls 1 own.0 exits) (sym labels) (subst (λ ps. AreExits F.labels 1 ps exits) same are_exits)) (exits-of P f).1

  pub function-sided : (made : FuncTree) → IsSidedBy F tree made → IsSidedFunction P (exits-of P f).0 f tree made
  function-sided made s = record {
    head = record { name = sym (ap (λ (t : FuncTree). t.name) s.is); args = sym (ap (λ (t : FuncTree). t.args) s.is); ret = sym (ap (λ (t : FuncTree). t.ret) s.is) };
    code = ap (λ (t : FuncTree). t.code) s.is ∙ (λ z. spliced (exits_before (at z) (sym labels z) (sym code z) (exits z)) (λ i. []) 0 (sided_items (exits z) 0 tree.code));
  }
    where
      exits : s.exits ≡ (exits-of P f).0
      exits = same-exits s.pairs s.exits s.are_pairs s.are_exits

      at : slice_get tree.code ≡ tree_at P f
      at = λ z i. sym (tree_at-function P f i tree named) z

-- ---- the tree of a program

pub tree-sided : (R : ℕ → Func → FuncTree → Type 0) (P : Prog) (tree : Tree) → IsMadeOfEach R P tree → ((f : ℕ) (F : Func) (g : FuncTree) → R f F g → IsSidedBy F (function_tree (names_of_functions P.funcs) F) g) → IsSidedTree P tree
tree-sided R P tree e sides = record {
  exits = λ f. (exits-of P f).0;
  are_exits = all-exits P;
  made = record {
    imports = e.imports;
    many = length-map P.funcs (function_tree (names_of_functions P.funcs)) ∙ sym e.made.many;
    functions = λ f T g at at_g.
        let within = slice_get_within tree.funcs f g at_g in
        let many = e.made.many in
        let F = get_inside P.funcs f (omega (arith, within, many)) in
        let same = same_Some _ _ (sym (function_at P f F.0 F.1) ∙ at) in
        function-sided P f F.0 F.1 T at g (subst (λ (H : FuncTree). IsSidedBy F.0 H g) same (sides f F.0 g (e.made.functions f F.0 g F.1 at_g)));
  };
}
