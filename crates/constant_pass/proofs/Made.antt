-- From the tree that the pass makes to its program.
use Rattle.std.proofs.Common.{◌≡◌, Bool, ℕ, zero, suc, ◌+◌, ◌<◌, ◌≤◌, true, false, cond, List, [], ◌∷◌, length, map, All, Some, None, refl, sym, ap, subst, ◌∙◌, ⊎_elim, arith}
use Rattle.std.specs.Prelude.{slice_get, slice_index, is_some}
use Rattle.std.specs.List.{AllZip, Contains, cons_option}
use Rattle.std.specs.Option.{option_map}
use Rattle.std.proofs.lemmas.List.{length-map, get_or-map}
use Rattle.std.proofs.lemmas.List.Elements.{All-nil, All-cons, All-head, All-tail}
use Rattle.std.proofs.lemmas.Option.{slice_get-map, same_Some}
use Rattle.bril_profile.specs.declared.profile.Profile.{Profile}
use Rattle.bril_tree.specs.declared.function_tree.FuncTree.{FuncTree}
use Rattle.bril_tree.specs.declared.function_tree.Item.{Item}
use Rattle.bril_tree.specs.declared.numbered.Instr.{Instr}
use Rattle.bril_tree.specs.declared.numbered.Instr.TheVariants.{Label, Const, Act}
use Rattle.bril_tree.specs.declared.numbered_function.Func.{Func}
use Rattle.bril_tree.specs.declared.operation.Op.TheVariants as op
use Rattle.bril_tree.specs.declared.program.Prog.{Prog}
use Rattle.bril_tree.specs.declared.tree.Tree.{Tree}
use Rattle.bril_tree.specs.Accepted.{IsAccepted}
use Rattle.bril_tree.specs.Numbered.{Numbered, function_tree, item_tree, named, names_of_functions, tree_at, tree_of, tree_size, variable_names}
use Rattle.bril_tree.specs.Operand.{dest_of}
use Rattle.bril_tree.specs.Outcome.{bool_of}
use Rattle.bril_tree.specs.Shape.{is_shaped, shape_of}
use Rattle.bril_tree.specs.Size.{item_count, IsCounted}
use Rattle.bril_names.specs.Faults.{Differ, IsKnown, IsSound, IsSoundEdit, SameHead, function_names, label_of, labels_of}
use Rattle.bril_tree.proofs.Acceptance.{accepted_function}
use Rattle.bril_tree.proofs.Shapes.{shape-parts}
use Rattle.bril_tree.proofs.Trees.{numbered-tree_of, tree_at-function}
use Rattle.pass_law.proofs.Equations.{equation_number}
use Rattle.pass_law.specs.Meaning.{HasNumbers, Link}
use Rattle.pass_make.specs.Edited.{IsLinkedTo}
use Rattle.pass_make.specs.declared.made.Made.TheVariants as making
use Rattle.pass_make.specs.CanBeMade.{CanBeMade}
use Rattle.pass_make.proofs.Each.{names-each, heads-each, items-each, size-each}
use Rattle.pass_edit_laws.proofs.lemmas.names.Trees.{heads-of_trees}
use Rattle.constant_pass.specs.declared.constants.known.Known.TheVariants.{Many}
use Rattle.constant_pass.specs.constants.Consistent.{IsLeast, Table}
use Rattle.constant_pass.specs.Const.{const_meaning}
use Rattle.constant_pass.specs.Folded.{IsFoldedFunction, IsFoldedTree, becomes, folded_by, folded_from}
use Rattle.constant_pass.proofs.Accepted.{folded-accepted}
use Rattle.constant_pass.proofs.Fates.{Fate, Stays, Folds, Jumps, Passes, fate_at}
use Rattle.constant_pass.proofs.Numbers.{numbers-within}
use Rattle.constant_pass.proofs.Points.{Folded}
use Rattle.constant_pass.proofs.Refines.{folded-refines}

-- ---- items

pub folded-get : (t : Table) (p : ℕ) (code : List Instr) (i : ℕ) → slice_get (folded_from t p code) i ≡ option_map (becomes t (p + i)) (slice_get code i)
folded-get t p [] i = refl
folded-get t p (a ∷ code) zero = let z : p ≡ p + 0 = omega arith in ap (λ n. Some (becomes t n a)) z
folded-get t p (a ∷ code) (suc i) = let z : suc p + i ≡ p + suc i = omega arith in folded-get t (suc p) code i ∙ ap (λ n. option_map (becomes t n) (slice_get code i)) z

folded-length : (t : Table) (p : ℕ) (code : List Instr) → length (folded_from t p code) ≡ length code
folded-length t p [] = refl
folded-length t p (a ∷ code) = ap suc (folded-length t (suc p) code)

module _ (P : Prog) where
  abbrev fs : List (List ℕ)
  fs = names_of_functions P.funcs

  module _ (F : Func) where
    abbrev I : Instr → Item
    I = item_tree fs (variable_names F.vars) F.labels

    no_label : (a : Instr) (x : ℕ) → dest_of a ≡ Some x → label_of (I a) ≡ None
    no_label (Label l) x d = absurd cc
    no_label (Const y ty l) x d = refl
    no_label (Act y ty o args gs ls) x d = refl

    -- the label that stands there is the same
    same_label : (t : Table) (p : ℕ) (a : Instr) → label_of (I (becomes t p a)) ≡ label_of (I a)
    same_label t p a = ⊎_elim (λ e. ap (λ z. label_of (I z)) e) (λ h. by h.1) (fate_at t p a)
      where
        by : Fate t.known a (becomes t p a) → label_of (I (becomes t p a)) ≡ label_of (I a)
        by (Stays e) = ap (λ z. label_of (I z)) e
        by (Folds x ty l d typed one is) = ap (λ z. label_of (I z)) is ∙ sym (no_label a x d)
        by (Jumps d ty args gs ls v e one is) = ap (λ z. label_of (I z)) is ∙ sym (ap (λ z. label_of (I z)) e)
        by (Passes d ty args gs ls v e one holds is) = ap (λ z. label_of (I z)) is ∙ sym (ap (λ z. label_of (I z)) e)

    same_labels : (t : Table) (p : ℕ) (code : List Instr) → labels_of (map I (folded_from t p code)) ≡ labels_of (map I code)
    same_labels t p [] = refl
    same_labels t p (a ∷ code) = ap (λ o. cons_option o (labels_of (map I (folded_from t (suc p) code)))) (same_label t p a) ∙ ap (cons_option (label_of (I a))) (same_labels t (suc p) code)

    module _ (ret : Bool) (known labels : List (List ℕ)) where
      label_known : (ls : List ℕ) (k : ℕ) → k < length ls → All (Contains labels) (map (named F.labels) ls) → Contains labels (named F.labels (slice_index ls k))
      label_known ls k low all = subst (Contains labels) (get_or-map (named F.labels) ls k 0 (named F.labels 0) low) (all k (named F.labels 0) (let l = length-map ls (named F.labels) in omega arith))

      one_known : (t : Table) (p : ℕ) (a : Instr) → is_shaped ret a ≡ true → IsKnown known labels (I a) → IsKnown known labels (I (becomes t p a))
      one_known t p a shaped k = ⊎_elim (λ e. subst (λ z. IsKnown known labels (I z)) (sym e) k) (λ h. by h.1) (fate_at t p a)
        where
          by : Fate t.known a (becomes t p a) → IsKnown known labels (I (becomes t p a))
          by (Stays e) = subst (λ z. IsKnown known labels (I z)) (sym e) k
          by (Folds x ty l d typed one is) = subst (λ z. IsKnown known labels (I z)) (sym is) (All-nil (Contains known), All-nil (Contains labels))
          by (Jumps d ty args gs ls v e one is) =
              let s = subst (λ (z : Instr). is_shaped ret z ≡ true) e shaped in
              let was = subst (λ (z : Instr). IsKnown known labels (I z)) e k in
              let two = (shape-parts (shape_of ret op.Br) (is_some d) (length args) (length gs) (length ls) s).labels_are in
              subst (λ z. IsKnown known labels (I z)) (sym is) (All-nil (Contains known), All-cons (Contains labels) _ [] (label_known ls (cond (bool_of v) 0 1) (low (bool_of v) ls two) was.1) (All-nil (Contains labels)))
            where
              low : (b : Bool) (ls : List ℕ) → length ls ≡ 2 → cond b 0 1 < length ls
              low true ls e = omega (arith, e)
              low false ls e = omega (arith, e)
          by (Passes d ty args gs ls v e one holds is) = subst (λ z. IsKnown known labels (I z)) (sym is) (All-nil (Contains known), All-nil (Contains labels))

      all_known : (t : Table) (p : ℕ) (code : List Instr) → All (λ a. is_shaped ret a ≡ true) code → All (IsKnown known labels) (map I code) → All (IsKnown known labels) (map I (folded_from t p code))
      all_known t p [] shaped all = all
      all_known t p (a ∷ code) shaped all =
          All-cons (IsKnown known labels) (I (becomes t p a)) (map I (folded_from t (suc p) code))
          (one_known t p a (All-head (λ a. is_shaped ret a ≡ true) a code shaped) (All-head (IsKnown known labels) (I a) (map I code) all))
          (all_known t (suc p) code (All-tail (λ a. is_shaped ret a ≡ true) a code shaped) (All-tail (IsKnown known labels) (I a) (map I code) all))

    can_be_numbered : (g : FuncTree) → IsFoldedFunction P F g → All (λ a. is_shaped (is_some F.ret) a ≡ true) F.code → IsSound (function_names (tree_of P)) (function_tree fs F) → IsSoundEdit (function_names (tree_of P)) (function_tree fs F) g
    can_be_numbered g h shaped s = subst (IsSoundEdit (function_names (tree_of P)) (function_tree fs F)) (sym h.tree) (record {
      head = record { name = refl; args = refl; ret = refl };
      labels = subst Differ (sym (same_labels h.table 0 F.code)) s.labels;
      known = subst (λ ls. All (IsKnown (function_names (tree_of P)) ls) (map I (folded_from h.table 0 F.code))) (sym (same_labels h.table 0 F.code))
          (all_known (is_some F.ret) (function_names (tree_of P)) (labels_of (map I F.code)) h.table 0 F.code shaped s.known);
    })

    as-long : (g : FuncTree) → IsFoldedFunction P F g → length g.code ≤ length F.code
    as-long g h =
        let e = ap (λ (k : FuncTree). length k.code) h.tree in
        let m = length-map (folded_from h.table 0 F.code) I in
        let l = folded-length h.table 0 F.code in
        omega arith

  -- ---- tables

  -- the tables, by the numbers of functions
  pub table_in : (xs : List Func) (ys : List FuncTree) → AllZip (IsFoldedFunction P) xs ys → ℕ → Table
  table_in [] ys z f = record { known = λ x. Many; reached = λ p. true }
  table_in (F ∷ xs) [] z f = record { known = λ x. Many; reached = λ p. true }
  table_in (F ∷ xs) (g ∷ ys) z zero = z.0.table
  table_in (F ∷ xs) (g ∷ ys) z (suc f) = table_in xs ys z.1 f

  table_starts : (xs : List Func) (ys : List FuncTree) (z : AllZip (IsFoldedFunction P) xs ys) (f : ℕ) → (table_in xs ys z f).reached 0 ≡ true
  unfolding table_in
  table_starts [] ys z f = refl
  table_starts (F ∷ xs) [] z f = absurd z
  table_starts (F ∷ xs) (g ∷ ys) z zero = z.0.least.consistent.start
  table_starts (F ∷ xs) (g ∷ ys) z (suc f) = table_starts xs ys z.1 f

  record TableAt (F : Func) (ys : List FuncTree) (f : ℕ) (t : Table) : Type 0 where
    g : FuncTree
    at : slice_get ys f ≡ Some g
    least : IsLeast F.code F.args t
    tree : g ≡ folded_by (names_of_functions P.funcs) F t

  table_at : (xs : List Func) (ys : List FuncTree) (z : AllZip (IsFoldedFunction P) xs ys) (f : ℕ) (F : Func) → slice_get xs f ≡ Some F → TableAt F ys f (table_in xs ys z f)
  unfolding table_in
  table_at [] ys z f F p = absurd (let n : None ≡ Some F = p in cc)
  table_at (H ∷ xs) [] z f F p = absurd z
  table_at (H ∷ xs) (g ∷ ys) z zero F p = subst (λ (K : Func). TableAt K (g ∷ ys) 0 (table_in (H ∷ xs) (g ∷ ys) z 0)) (same_Some H F p) (record { g = g; at = refl; least = z.0.least; tree = z.0.tree })
  table_at (H ∷ xs) (g ∷ ys) z (suc f) F p = let r = table_at xs ys z.1 f F p in record { g = r.g; at = r.at; least = r.least; tree = r.tree }

  head : (F : Func) (g : FuncTree) → IsFoldedFunction P F g → SameHead (function_tree fs F) g
  head F g t = subst (SameHead (function_tree fs F)) (sym t.tree) (record { name = refl; args = refl; ret = refl })

  module _ (Q : Prog) (is : IsFoldedTree P (tree_of Q)) where
    abbrev pub tables : ℕ → Table
    tables = table_in P.funcs (tree_of Q).funcs is.functions

    trees : (f i : ℕ) (F : Func) → slice_get P.funcs f ≡ Some F → tree_at Q f i ≡ option_map (I F) (option_map (becomes (tables f) i) (slice_get F.code i))
    trees f i F p =
        let m = table_at P.funcs (tree_of Q).funcs is.functions f F p in
        tree_at-function Q f i m.g m.at ∙ ap (λ (g : FuncTree). slice_get g.code i) m.tree ∙ slice_get-map (I F) (folded_from (tables f) 0 F.code) i
        ∙ ap (option_map (I F)) (folded-get (tables f) 0 F.code i ∙ ap (λ n. option_map (becomes (tables f) n) (slice_get F.code i)) (zero_plus i))
      where
        zero_plus : (i : ℕ) → 0 + i ≡ i
        zero_plus i = omega arith

    pub folded-points : Folded P Q tables
    folded-points = record {
      heads = heads-of_trees P Q (heads-each P (IsFoldedFunction P) head (tree_of Q).funcs is.functions);
      start = table_starts P.funcs (tree_of Q).funcs is.functions;
      least = λ f F p. (table_at P.funcs (tree_of Q).funcs is.functions f F p).least;
      tree = trees;
    }

  -- ---- by what the calls give: the tree that was made, and the program numbered of that

  module _ (accepted : IsAccepted P) (tree : Tree) (t : IsFoldedTree P tree) where
    of_numbered : (Q : Prog) → Numbered tree Q → IsFoldedTree P (tree_of Q)
    of_numbered Q of_q = subst (IsFoldedTree P) (numbered-tree_of tree Q of_q) t

    const-made : IsCounted P → CanBeMade P tree
    const-made c = record {
      imports = t.imports;
      names = names-each P (IsFoldedFunction P) (λ f F g p s h. can_be_numbered F g h (accepted_function P f F accepted p).shaped s) tree.funcs t.functions;
      accepted = λ Q of_q. let is = of_numbered Q of_q in folded-accepted P Q (tables Q is) accepted (folded-points Q is);
      items = items-each P (IsFoldedFunction P) as-long tree.funcs t.functions c.items;
    }

    linked : (profile : Profile) (Q : Prog) → Numbered tree Q → IsAccepted Q → item_count Q ≡ tree_size tree → Link const_meaning profile P Q
    linked profile Q of_q accepted_q size =
        let is = of_numbered Q of_q in
        let points = folded-points Q is in
        let h = size-each P (IsFoldedFunction P) as-long tree.funcs t.functions in
        record {
          makes = record { tree = is; numbers = numbers-within P Q (tables Q is) accepted accepted_q points };
          accepted = accepted_q;
          factor = 1;
          is_factor = refl;
          refines = folded-refines P Q (tables Q is) points accepted;
          bound = item_count P;
          is_bound = refl;
          within = omega (arith, size);
          fits = λ l. let more = l.more in omega arith;
        }

    pub edited : IsCounted P → (profile : Profile) → IsLinkedTo const_meaning profile P (making.Tree tree)
    edited c profile = (const-made c, linked profile)

-- the factor and the bound are equations
pub const-numbers : HasNumbers const_meaning
const-numbers = record { factor = equation_number (λ P profile. 1); bound = equation_number (λ P profile. item_count P) }
