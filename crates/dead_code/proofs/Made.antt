-- From the tree that the pass makes to its program.
use Rattle.std.proofs.Common.{◌≡◌, ◌⊎◌, ℕ, zero, suc, ◌≤◌, true, List, [], ◌∷◌, length, map, set, All, Option, Some, None, refl, sym, ap, subst, ◌∙◌, inl, inr, arith}
use Rattle.std.specs.Prelude.{slice_get}
use Rattle.std.specs.List.{AllZip, Contains}
use Rattle.std.specs.Option.{option_map}
use Rattle.std.proofs.lemmas.List.{length-map, length-set}
use Rattle.std.proofs.lemmas.List.Elements.{All-set, All-nil}
use Rattle.std.proofs.lemmas.Option.{slice_get-map, same_Some}
use Rattle.bril_profile.specs.declared.profile.Profile.{Profile}
use Rattle.bril_tree.specs.declared.function_tree.FuncTree.{FuncTree}
use Rattle.bril_tree.specs.declared.function_tree.Item.{Item}
use Rattle.bril_tree.specs.declared.function_tree.Item.TheVariants as item
use Rattle.bril_tree.specs.declared.numbered.Instr.{Instr}
use Rattle.bril_tree.specs.declared.numbered.Instr.TheVariants.{Label, Const, Act}
use Rattle.bril_tree.specs.declared.numbered_function.Func.{Func}
use Rattle.bril_tree.specs.declared.program.Prog.{Prog}
use Rattle.bril_tree.specs.declared.tree.Tree.{Tree}
use Rattle.bril_tree.specs.Accepted.{IsAccepted}
use Rattle.bril_tree.specs.Numbered.{Numbered, function_tree, item_tree, names_of_functions, nop, nop_item, tree_at, tree_of, tree_size, variable_names}
use Rattle.bril_tree.specs.Size.{item_count, IsCounted}
use Rattle.bril_tree.specs.Step.{code_of, items_of}
use Rattle.bril_tree.specs.Walk.{IsReached}
use Rattle.bril_names.specs.Faults.{Differ, IsKnown, IsSound, IsSoundEdit, SameHead, function_names, labels_of}
use Rattle.bril_tree.proofs.Trees.{numbered-tree_of, tree_at-function}
use Rattle.pass_law.proofs.Equations.{equation_number}
use Rattle.pass_law.specs.Meaning.{HasNumbers, Link}
use Rattle.pass_make.specs.Edited.{IsLinkedTo}
use Rattle.pass_make.specs.declared.made.Made.TheVariants as making
use Rattle.pass_make.specs.CanBeMade.{CanBeMade}
use Rattle.pass_make.proofs.Each.{tree_of_function, names-each, heads-each, items-each, size-each}
use Rattle.pass_edit_laws.proofs.lemmas.names.Trees.{heads-of_trees}
use Rattle.dead_code.specs.Dead.{dead_meaning}
use Rattle.dead_code.specs.Emptied.{IsCleared, IsClearedFunction, IsClearedTree, WereRemovable, emptied, tree_with}
use Rattle.pass_edit_laws.specs.plan.Marked.{with_nops}
use Rattle.dead_code.specs.Work.{IsEmptiedFunction, remaining}
use Rattle.dead_code.specs.Removable.{is_silent, IsIdle, IsRemovable, IsUnused}
use Rattle.dead_code.proofs.Accepted.{deadened-accepted}
use Rattle.dead_code.proofs.Chain.{Chain, chain}
use Rattle.dead_code.proofs.Left.{none-removable}
use Rattle.dead_code.proofs.Numbers.{numbers-within}
use Rattle.pass_edit_laws.proofs.lemmas.plan.Marked.{with_nops-map}
use Rattle.dead_code.proofs.Points.{Deadened}
use Rattle.dead_code.proofs.Refines.{deadened-refines}

-- ---- lists

map-set : {X Y : Type 0} (f : X → Y) (xs : List X) (k : ℕ) (x : X) → map f (set xs k x) ≡ set (map f xs) k (f x)
map-set f [] k x = refl
map-set f (y ∷ xs) zero x = refl
map-set f (y ∷ xs) (suc k) x = ap (λ l. f y ∷ l) (map-set f xs k x)

length-emptied : (code : List Instr) (points : List ℕ) → length (emptied code points) ≡ length code
length-emptied code [] = refl
length-emptied code (p ∷ points) = length-set (emptied code points) p nop ∙ length-emptied code points

-- an item in whose place the labels don't change
labels-set : (xs : List Item) (k : ℕ) (a b : Item) → slice_get xs k ≡ Some a → ((xs : List Item) → labels_of (a ∷ xs) ≡ labels_of xs) → ((xs : List Item) → labels_of (b ∷ xs) ≡ labels_of xs) → labels_of (set xs k b) ≡ labels_of xs
labels-set [] k a b at none new = refl
labels-set (x ∷ xs) zero a b at none new = new xs ∙ sym (none xs) ∙ ap (λ y. labels_of (y ∷ xs)) (sym (same_Some x a at))
labels-set (item.Label n ∷ xs) (suc k) a b at none new = ap (λ l. n ∷ l) (labels-set xs k a b at none new)
labels-set (item.Const d ty v ∷ xs) (suc k) a b at none new = labels-set xs k a b at none new
labels-set (item.Act d o args fns ls ∷ xs) (suc k) a b at none new = labels-set xs k a b at none new

module _ (P : Prog) where
  abbrev pub fs : List (List ℕ)
  fs = names_of_functions P.funcs

  -- ---- names

  module _ (F : Func) where
    abbrev T : Instr → Item
    T = item_tree fs (variable_names F.vars) F.labels

    no_label : (code : List Instr) (k : ℕ) (a : Instr) → IsUnused code k a ⊎ IsIdle code k a → (xs : List Item) → labels_of (T a ∷ xs) ≡ labels_of xs
    no_label code k (Label l) (inl u) xs = absurd (let c = u.computes in cc)
    no_label code k (Label l) (inr u) xs = absurd (let c = u.does in cc)
    no_label code k (Const d ty v) why xs = refl
    no_label code k (Act d ty o args fns ls) why xs = refl

    labels-same : (points : List ℕ) → WereRemovable F.code points → labels_of (map T (emptied F.code points)) ≡ labels_of (map T F.code)
    labels-same [] were = refl
    labels-same (p ∷ points) were =
        let r = were.0 in
        ap labels_of (map-set T (emptied F.code points) p nop)
        ∙ labels-set (map T (emptied F.code points)) p (T r.item) nop_item (slice_get-map T (emptied F.code points) p ∙ ap (option_map T) r.here) (no_label (emptied F.code points) p r.item r.why) (λ xs. refl)
        ∙ labels-same points were.1

    known-same : (K : Item → Type 0) → K nop_item → (points : List ℕ) → All K (map T F.code) → All K (map T (emptied F.code points))
    known-same K k [] all = all
    known-same K k (p ∷ points) all = subst (All K) (sym (map-set T (emptied F.code points) p nop)) (All-set K (map T (emptied F.code points)) p nop_item k (known-same K k points all))

    can_be_numbered : (g : FuncTree) → IsClearedFunction P F g → IsSound (function_names (tree_of P)) (function_tree fs F) → IsSoundEdit (function_names (tree_of P)) (function_tree fs F) g
    can_be_numbered g t s = subst (IsSoundEdit (function_names (tree_of P)) (function_tree fs F)) (sym t.tree) (record {
      head = record { name = refl; args = refl; ret = refl };
      labels = subst Differ (sym labels) s.labels;
      known = subst (λ ls. All (IsKnown (function_names (tree_of P)) ls) (map T t.made)) (sym labels)
          (subst (λ code. All (IsKnown (function_names (tree_of P)) (labels_of (map T F.code))) (map T code)) (sym t.cleared.is)
          (known-same (IsKnown (function_names (tree_of P)) (labels_of (map T F.code))) (All-nil (Contains (function_names (tree_of P))), All-nil (Contains (labels_of (map T F.code)))) t.cleared.points s.known));
    })
      where
        labels : labels_of (map T t.made) ≡ labels_of (map T F.code)
        labels = ap (λ code. labels_of (map T code)) t.cleared.is ∙ labels-same t.cleared.points t.cleared.were

    as-long : (g : FuncTree) → IsClearedFunction P F g → length g.code ≤ length F.code
    as-long g t =
        let e = ap (λ (h : FuncTree). length h.code) t.tree in
        let m = length-map t.made T in
        let l = ap length t.cleared.is ∙ length-emptied F.code t.cleared.points in
        omega arith

  -- what the calls give: the tree of the function with `nop` where items are dead
  pub cleared-function : (F : Func) (function g : FuncTree) → function ≡ tree_of_function P F → IsEmptiedFunction F function g → IsClearedFunction P F g
  cleared-function F function g same t = record {
    made = remaining F.code t.dead;
    cleared = t.cleared;
    tree = t.tree ∙ ap (λ (f : FuncTree). record f { code = with_nops nop_item t.dead f.code }) same ∙ (λ i. record (tree_of_function P F) { code = sym (with_nops-map (T F) nop t.dead F.code) i });
  }

  names_made : (made : List FuncTree) → AllZip (IsClearedFunction P) P.funcs made → AllZip (IsSoundEdit (function_names (tree_of P))) (tree_of P).funcs made
  names_made made z = names-each P (IsClearedFunction P) (λ f F g p s t. can_be_numbered F g t s) made z

  -- ---- points

  -- what remains of the functions, by their numbers
  pub made_in : (xs : List Func) (ys : List FuncTree) → AllZip (IsClearedFunction P) xs ys → ℕ → List Instr
  made_in [] ys z f = []
  made_in (F ∷ xs) [] z f = []
  made_in (F ∷ xs) (g ∷ ys) z zero = z.0.made
  made_in (F ∷ xs) (g ∷ ys) z (suc f) = made_in xs ys z.1 f

  record MadeAt (F : Func) (ys : List FuncTree) (f : ℕ) (made : List Instr) : Type 0 where
    g : FuncTree
    at : slice_get ys f ≡ Some g
    cleared : IsCleared F.code made
    tree : g ≡ tree_with P F made

  made_at : (xs : List Func) (ys : List FuncTree) (z : AllZip (IsClearedFunction P) xs ys) (f : ℕ) (F : Func) → slice_get xs f ≡ Some F → MadeAt F ys f (made_in xs ys z f)
  unfolding made_in
  made_at [] ys z f F p = absurd (let n : None ≡ Some F = p in cc)
  made_at (H ∷ xs) [] z f F p = absurd z
  made_at (H ∷ xs) (g ∷ ys) z zero F p = subst (λ (K : Func). MadeAt K (g ∷ ys) 0 (made_in (H ∷ xs) (g ∷ ys) z 0)) (same_Some H F p) (record { g = g; at = refl; cleared = z.0.cleared; tree = z.0.tree })
  made_at (H ∷ xs) (g ∷ ys) z (suc f) F p = let r = made_at xs ys z.1 f F p in record { g = r.g; at = r.at; cleared = r.cleared; tree = r.tree }

  made_none : (xs : List Func) (ys : List FuncTree) (z : AllZip (IsClearedFunction P) xs ys) (f : ℕ) → slice_get xs f ≡ None → made_in xs ys z f ≡ []
  unfolding made_in
  made_none [] ys z f p = refl
  made_none (H ∷ xs) [] z f p = refl
  made_none (H ∷ xs) (g ∷ ys) z zero p = absurd (let n : Some H ≡ None = p in cc)
  made_none (H ∷ xs) (g ∷ ys) z (suc f) p = made_none xs ys z.1 f p

  module _ (Q : Prog) (is : IsClearedTree P (tree_of Q)) where
    abbrev pub made : ℕ → List Instr
    made = made_in P.funcs (tree_of Q).funcs is.functions

    head : (F : Func) (g : FuncTree) → IsClearedFunction P F g → SameHead (function_tree fs F) g
    head F g t = subst (SameHead (function_tree fs F)) (sym t.tree) (record { name = refl; args = refl; ret = refl })

    chains : (f : ℕ) → Chain (code_of P f) (made f)
    chains f = by (slice_get P.funcs f) refl
      where
        by : (o : Option Func) → slice_get P.funcs f ≡ o → Chain (code_of P f) (made f)
        by None p = subst (λ c. Chain c (made f)) (sym (ap items_of p)) (subst (Chain []) (sym (made_none P.funcs (tree_of Q).funcs is.functions f p)) (chain [] [] tt))
        by (Some F) p =
            let m = made_at P.funcs (tree_of Q).funcs is.functions f F p in
            subst (λ c. Chain c (made f)) (sym (ap items_of p)) (subst (Chain F.code) (sym m.cleared.is) (chain F.code m.cleared.points m.cleared.were))

    trees : (f i : ℕ) (F : Func) → slice_get P.funcs f ≡ Some F → tree_at Q f i ≡ option_map (item_tree fs (variable_names F.vars) F.labels) (slice_get (made f) i)
    trees f i F p =
        let m = made_at P.funcs (tree_of Q).funcs is.functions f F p in
        tree_at-function Q f i m.g m.at ∙ ap (λ (g : FuncTree). slice_get g.code i) m.tree ∙ slice_get-map (item_tree fs (variable_names F.vars) F.labels) (made f) i

    staying : (f i : ℕ) (a : Instr) → slice_get (made f) i ≡ Some a → (is_silent a ≡ true) ⊎ IsReached (made f) i
    staying f i a at = by (slice_get P.funcs f) refl
      where
        by : (o : Option Func) → slice_get P.funcs f ≡ o → (is_silent a ≡ true) ⊎ IsReached (made f) i
        by None p = absurd (let n : None ≡ Some a = ap (λ c. slice_get c i) (sym (made_none P.funcs (tree_of Q).funcs is.functions f p)) ∙ at in cc)
        by (Some F) p = let m = made_at P.funcs (tree_of Q).funcs is.functions f F p in m.cleared.stays i a at

    none-removable_in : (f i : ℕ) → IsRemovable (made f) i → ⊥
    none-removable_in f i r = by (slice_get P.funcs f) refl
      where
        by : (o : Option Func) → slice_get P.funcs f ≡ o → ⊥
        by None p = absurd (let n : None ≡ Some r.item = ap (λ c. slice_get c i) (sym (made_none P.funcs (tree_of Q).funcs is.functions f p)) ∙ r.here in cc)
        by (Some F) p = (made_at P.funcs (tree_of Q).funcs is.functions f F p).cleared.none i r

    pub deadened-points : Deadened P Q made
    deadened-points = record { heads = heads-of_trees P Q (heads-each P (IsClearedFunction P) head (tree_of Q).funcs is.functions); chain = chains; tree = trees; stays = staying; none = none-removable_in }

  -- ---- by what the calls give: the tree that was made, and the program numbered of that

  module _ (accepted : IsAccepted P) (tree : Tree) (t : IsClearedTree P tree) where
    of_numbered : (Q : Prog) → Numbered tree Q → IsClearedTree P (tree_of Q)
    of_numbered Q of_q = subst (IsClearedTree P) (numbered-tree_of tree Q of_q) t

    dead-made : IsCounted P → CanBeMade P tree
    dead-made c = record {
      imports = t.imports;
      names = names_made tree.funcs t.functions;
      accepted = λ Q of_q. let is = of_numbered Q of_q in deadened-accepted P Q (made Q is) accepted (deadened-points Q is);
      items = items-each P (IsClearedFunction P) as-long tree.funcs t.functions c.items;
    }

    linked : (profile : Profile) (Q : Prog) → Numbered tree Q → IsAccepted Q → item_count Q ≡ tree_size tree → Link dead_meaning profile P Q
    linked profile Q of_q accepted_q size =
        let is = of_numbered Q of_q in
        let points = deadened-points Q is in
        let h = size-each P (IsClearedFunction P) as-long tree.funcs t.functions in
        record {
          makes = record { tree = is; none = none-removable P Q (made Q is) accepted points; numbers = numbers-within P Q (made Q is) accepted accepted_q points };
          accepted = accepted_q;
          factor = 1;
          is_factor = refl;
          refines = deadened-refines P Q (made Q is) points accepted;
          bound = item_count P;
          is_bound = refl;
          within = omega (arith, size);
          fits = λ l. let more = l.more in omega arith;
        }

    pub edited : IsCounted P → (profile : Profile) → IsLinkedTo dead_meaning profile P (making.Tree tree)
    edited c profile = (dead-made c, linked profile)

-- the factor and the bound are equations
pub dead-numbers : HasNumbers dead_meaning
dead-numbers = record { factor = equation_number (λ P profile. 1); bound = equation_number (λ P profile. item_count P) }
