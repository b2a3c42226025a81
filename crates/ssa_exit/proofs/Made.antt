-- From the tree that the pass makes to its program.
use Rattle.std.proofs.Common.{◌≡◌, Bool, ℕ, zero, suc, ◌≤◌, true, false, cond, List, [], ◌∷◌, length, map, All, Option, Some, None, refl, sym, ap, subst, ◌∙◌, arith}
use Rattle.std.specs.Prelude.{slice_get, slice_index}
use Rattle.std.specs.List.{AllZip, Contains}
use Rattle.std.proofs.lemmas.List.{length-map}
use Rattle.std.proofs.lemmas.List.Elements.{All-cons, All-head, All-nil, All-tail}
use Rattle.std.proofs.lemmas.Option.{same_Some, slice_get-map}
use Rattle.bril_profile.specs.declared.profile.Profile.{Profile}
use Rattle.bril_tree.specs.declared.function_tree.FuncTree.{FuncTree}
use Rattle.bril_tree.specs.declared.function_tree.Item.{Item}
use Rattle.bril_tree.specs.declared.numbered.Instr.{Instr}
use Rattle.bril_tree.specs.declared.numbered.Instr.TheVariants.{Label, Const, Act}
use Rattle.bril_tree.specs.declared.numbered_function.Func.{Func}
use Rattle.bril_tree.specs.declared.operation.Op.TheVariants as op
use Rattle.bril_tree.specs.declared.program.Prog.{Prog}
use Rattle.bril_tree.specs.declared.tree.Tree.{Tree}
use Rattle.bril_tree.specs.declared.types.Ty.{Ty}
use Rattle.bril_tree.specs.Accepted.{IsAccepted}
use Rattle.bril_tree.specs.Numbered.{Numbered, function_tree, item_tree, named, names_of_functions, nop_item, tree_of, tree_size, variable_names}
use Rattle.bril_tree.specs.Size.{IsCounted, item_count}
use Rattle.bril_tree.specs.Typing.{variable_type}
use Rattle.bril_tree.proofs.Trees.{numbered-tree_of, tree_at-function}
use Rattle.bril_names.specs.Faults.{Differ, IsKnown, IsSound, IsSoundEdit, SameHead, function_names, label_of, labels_of}
use Rattle.bril_names.proofs.Edits.{labels-step}
use Rattle.pass_law.proofs.Equations.{equation_number}
use Rattle.pass_law.specs.Meaning.{HasNumbers, Link}
use Rattle.pass_make.specs.CanBeMade.{CanBeMade}
use Rattle.pass_make.specs.Edited.{IsLinkedTo}
use Rattle.pass_make.specs.declared.made.Made.TheVariants as making
use Rattle.pass_make.proofs.Each.{heads-each, items-each, names-each, size-each, tree_of_function}
use Rattle.pass_edit_laws.proofs.lemmas.names.Trees.{heads-of_trees}
use Rattle.ssa_exit.specs.Fresh.{AreFresh, shadow_names}
use Rattle.ssa_exit.specs.Unssa.{unssa_meaning}
use Rattle.ssa_exit.specs.Unssaed.{IsLeftFunction, IsUnssaedFunction, IsUnssaedTree, copy_item, is_written, left_item, left_items, set_item, undef_item, unssaed_function}
use Rattle.ssa_exit.proofs.Accepted.{unssaed-accepted}
use Rattle.ssa_exit.proofs.Numbers.{leaves-none, numbers-within}
use Rattle.ssa_exit.proofs.Points.{Unssaed}
use Rattle.ssa_exit.proofs.Refines.{unssaed-refines}
use Rattle.ssa_exit.proofs.Stems.{are-fresh}

-- ---- labels

labels-map : (g h : Instr → Item) → ((a : Instr) → label_of (g a) ≡ label_of (h a)) → (code : List Instr) → labels_of (map g code) ≡ labels_of (map h code)
labels-map g h same [] = refl
labels-map g h same (a ∷ code) = labels-step (g a) (h a) (map g code) (map h code) (same a) (labels-map g h same code)

known-map : (K : Item → Type 0) (g h : Instr → Item) → ((a : Instr) → K (h a) → K (g a)) → (code : List Instr) → All K (map h code) → All K (map g code)
known-map K g h keeps [] all = All-nil K
known-map K g h keeps (a ∷ code) all = All-cons K (g a) (map g code) (keeps a (All-head K (h a) (map h code) all)) (known-map K g h keeps code (All-tail K (h a) (map h code) all))

-- what the loop over the items makes, at once
pub left-map : (F : Func) (fresh : ℕ → List ℕ) (h : Instr → Item) (code : List Instr) → left_items F fresh code (map h code) ≡ map (λ a. left_item F fresh a (h a)) code
left-map F fresh h [] = refl
left-map F fresh h (a ∷ code) = ap (λ l. left_item F fresh a (h a) ∷ l) (left-map F fresh h code)

-- what stands in place of an item is a label where that is one, and goes to no other labels
module _ (fs ls : List (List ℕ)) (F : Func) (fresh : ℕ → List ℕ) where
  abbrev T : Instr → Item
  T = item_tree fs (variable_names F.vars) ls

  abbrev L : Instr → Item
  L a = left_item F fresh a (T a)

  -- a property of operations that name neither functions nor labels
  bare : (K : Item → Type 0) → ((to : List ℕ) (ty : Ty) (from : List ℕ) → K (copy_item to ty from)) → ((to : List ℕ) (ty : Ty) → K (undef_item to ty)) → K nop_item → (a : Instr) → K (T a) → K (L a)
  bare K copied undefined gone (Label l) k = k
  bare K copied undefined gone (Const d ty v) k = k
  bare K copied undefined gone (Act None ty op.Get args fns labels) k = k
  bare K copied undefined gone (Act (Some x) None op.Get args fns labels) k = k
  bare K copied undefined gone (Act (Some x) (Some ty) op.Get args fns labels) k = by (is_written F.code x)
    where
      by : (b : Bool) → K (cond b (copy_item (named (variable_names F.vars) x) ty (fresh x)) (undef_item (named (variable_names F.vars) x) ty))
      by true = copied (named (variable_names F.vars) x) ty (fresh x)
      by false = undefined (named (variable_names F.vars) x) ty
  bare K copied undefined gone (Act d ty op.Set args fns labels) k = by (variable_type F.vars (slice_index args 0))
    where
      by : (o : Option Ty) → K (set_item F fresh o (slice_index args 0) (slice_index args 1))
      by None = gone
      by (Some s) = copied (fresh (slice_index args 0)) s (named (variable_names F.vars) (slice_index args 1))
  bare K copied undefined gone (Act d ty _ args fns labels) k = k

  label-same : (a : Instr) → label_of (L a) ≡ label_of (T a)
  label-same (Label l) = refl
  label-same (Const d ty v) = refl
  label-same (Act d ty o args fns labels) = bare (λ i. label_of i ≡ None) (λ to s from. refl) (λ to s. refl) refl (Act d ty o args fns labels) refl

module _ (P : Prog) where
  abbrev fs : List (List ℕ)
  fs = names_of_functions P.funcs

  -- ---- names

  module _ (F : Func) where
    can_be_numbered : (g : FuncTree) → IsUnssaedFunction P F g → IsSound (function_names (tree_of P)) (function_tree fs F) → IsSoundEdit (function_names (tree_of P)) (function_tree fs F) g
    can_be_numbered g t s = subst (IsSoundEdit (function_names (tree_of P)) (function_tree fs F)) (sym t.tree) (record {
      head = record { name = refl; args = refl; ret = refl };
      labels = subst Differ (sym labels) s.labels;
      known = subst (λ ls. All (IsKnown (function_names (tree_of P)) ls) (map made F.code)) (sym labels)
          (known-map (IsKnown (function_names (tree_of P)) (labels_of (map was F.code))) made was
          (bare fs F.labels F t.fresh (IsKnown (function_names (tree_of P)) (labels_of (map was F.code))) (λ to ty from. none) (λ to ty. none) none) F.code s.known);
    })
      where
        was : Instr → Item
        was = item_tree fs (variable_names F.vars) F.labels

        made : Instr → Item
        made a = left_item F t.fresh a (item_tree fs (variable_names F.vars) F.labels a)

        labels : labels_of (map made F.code) ≡ labels_of (map was F.code)
        labels = labels-map made was (label-same fs F.labels F t.fresh) F.code

        none : All (Contains (function_names (tree_of P))) [] × All (Contains (labels_of (map was F.code))) []
        none = (All-nil (Contains (function_names (tree_of P))), All-nil (Contains (labels_of (map was F.code))))

    as-long : (g : FuncTree) → IsUnssaedFunction P F g → length g.code ≤ length F.code
    as-long g t =
        let e = ap (λ (h : FuncTree). length h.code) t.tree in
        let m = length-map F.code (λ a. left_item F t.fresh a (item_tree fs (variable_names F.vars) F.labels a)) in
        omega arith

  -- what the calls give: the function's tree, with what stands in place of its items
  pub made-function : (F : Func) (function g : FuncTree) → function ≡ tree_of_function P F → IsLeftFunction F function g → IsUnssaedFunction P F g
  made-function F function g same left = record {
    fresh = shadow_names left.stem F.vars;
    are = are-fresh F left.stem left.free;
    tree = left.tree ∙ ap (λ (f : FuncTree). record f { code = left_items F (shadow_names left.stem F.vars) F.code f.code }) same
        ∙ ap (λ (l : List Item). record (tree_of_function P F) { code = l }) (left-map F (shadow_names left.stem F.vars) (item_tree fs (variable_names F.vars) F.labels) F.code);
  }

  names_made : (made : List FuncTree) → AllZip (IsUnssaedFunction P) P.funcs made → AllZip (IsSoundEdit (function_names (tree_of P))) (tree_of P).funcs made
  names_made made z = names-each P (IsUnssaedFunction P) (λ f F g p s t. can_be_numbered F g t s) made z

  -- ---- points

  -- the names of what stands for the shadows of each function
  pub fresh_in : (xs : List Func) (ys : List FuncTree) → AllZip (IsUnssaedFunction P) xs ys → ℕ → ℕ → List ℕ
  fresh_in [] ys z f x = []
  fresh_in (F ∷ xs) [] z f x = []
  fresh_in (F ∷ xs) (g ∷ ys) z zero x = z.0.fresh x
  fresh_in (F ∷ xs) (g ∷ ys) z (suc f) x = fresh_in xs ys z.1 f x

  record MadeAt (F : Func) (ys : List FuncTree) (f : ℕ) (fresh : ℕ → List ℕ) : Type 0 where
    g : FuncTree
    at : slice_get ys f ≡ Some g
    are : AreFresh (variable_names F.vars) fresh
    tree : g ≡ unssaed_function P F fresh

  made_at : (xs : List Func) (ys : List FuncTree) (z : AllZip (IsUnssaedFunction P) xs ys) (f : ℕ) (F : Func) → slice_get xs f ≡ Some F → MadeAt F ys f (fresh_in xs ys z f)
  unfolding fresh_in
  made_at [] ys z f F p = absurd (let n : None ≡ Some F = p in cc)
  made_at (H ∷ xs) [] z f F p = absurd z
  made_at (H ∷ xs) (g ∷ ys) z zero F p = subst (λ (K : Func). MadeAt K (g ∷ ys) 0 (fresh_in (H ∷ xs) (g ∷ ys) z 0)) (same_Some H F p) (record { g = g; at = refl; are = z.0.are; tree = z.0.tree })
  made_at (H ∷ xs) (g ∷ ys) z (suc f) F p = let r = made_at xs ys z.1 f F p in record { g = r.g; at = r.at; are = r.are; tree = r.tree }

  module _ (Q : Prog) (is : IsUnssaedTree P (tree_of Q)) where
    abbrev pub fresh : ℕ → ℕ → List ℕ
    fresh = fresh_in P.funcs (tree_of Q).funcs is.functions

    head : (F : Func) (g : FuncTree) → IsUnssaedFunction P F g → SameHead (function_tree fs F) g
    head F g t = subst (SameHead (function_tree fs F)) (sym t.tree) (record { name = refl; args = refl; ret = refl })

    pub unssaed-points : Unssaed P Q fresh
    unssaed-points = record {
      heads = heads-of_trees P Q (heads-each P (IsUnssaedFunction P) head (tree_of Q).funcs is.functions);
      are = λ f F p. (made_at P.funcs (tree_of Q).funcs is.functions f F p).are;
      tree = λ f i F p.
          let m = made_at P.funcs (tree_of Q).funcs is.functions f F p in
          tree_at-function Q f i m.g m.at ∙ ap (λ (g : FuncTree). slice_get g.code i) m.tree ∙ slice_get-map (λ a. left_item F (fresh f) a (item_tree fs (variable_names F.vars) F.labels a)) F.code i;
    }

  -- ---- by what the calls give: the tree that was made, and the program numbered of that

  module _ (accepted : IsAccepted P) (tree : Tree) (t : IsUnssaedTree P tree) where
    of_numbered : (Q : Prog) → Numbered tree Q → IsUnssaedTree P (tree_of Q)
    of_numbered Q of_q = subst (IsUnssaedTree P) (numbered-tree_of tree Q of_q) t

    unssa-made : IsCounted P → CanBeMade P tree
    unssa-made c = record {
      imports = t.imports;
      names = names_made tree.funcs t.functions;
      accepted = λ Q of_q. let is = of_numbered Q of_q in unssaed-accepted P Q (fresh Q is) accepted (unssaed-points Q is);
      items = items-each P (IsUnssaedFunction P) as-long tree.funcs t.functions c.items;
    }

    linked : (profile : Profile) (Q : Prog) → Numbered tree Q → IsAccepted Q → item_count Q ≡ tree_size tree → Link unssa_meaning profile P Q
    linked profile Q of_q accepted_q size =
        let is = of_numbered Q of_q in
        let points = unssaed-points Q is in
        let h = size-each P (IsUnssaedFunction P) as-long tree.funcs t.functions in
        record {
          makes = record { tree = is; no_shadow = leaves-none P Q (fresh Q is) accepted points; numbers = numbers-within P Q (fresh Q is) accepted points };
          accepted = accepted_q;
          factor = 1;
          is_factor = refl;
          refines = unssaed-refines P Q (fresh Q is) accepted points;
          bound = item_count P;
          is_bound = refl;
          within = omega (arith, size);
          fits = λ l. let more = l.more in omega arith;
        }

    pub edited : IsCounted P → (profile : Profile) → IsLinkedTo unssa_meaning profile P (making.Tree tree)
    edited c profile = (unssa-made c, linked profile)

-- the factor and the bound are equations
pub unssa-numbers : HasNumbers unssa_meaning
unssa-numbers = record { factor = equation_number (λ P profile. 1); bound = equation_number (λ P profile. item_count P) }
