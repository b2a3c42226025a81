-- From the tree that the pass makes to its program.
use Rattle.std.proofs.Common.{◌≡◌, ◌≢◌, ◌⊎◌, ℕ, zero, suc, ◌+◌, ◌≤◌, Bool, true, false, List, [], ◌∷◌, length, Option, Some, None, refl, sym, ap, subst, ◌∙◌, inl, inr, ⊎_elim, arith}
use Rattle.std.specs.Prelude.{slice_get, is_some}
use Rattle.std.specs.List.{AllZip, Contains}
use Rattle.std.specs.Option.{option_map}
use Rattle.std.proofs.lemmas.List.{length-map, nil_from_length}
use Rattle.std.proofs.lemmas.List.Kept.{AllPairs-cons}
use Rattle.std.proofs.lemmas.Option.{slice_get-map, same_Some}
use Rattle.bril_tree.specs.declared.function_tree.FuncTree.{FuncTree}
use Rattle.bril_tree.specs.declared.function_tree.Item.{Item}
use Rattle.bril_tree.specs.declared.function_tree.Item.TheVariants as item
use Rattle.bril_tree.specs.declared.numbered.Instr.{Instr}
use Rattle.bril_tree.specs.declared.numbered.Instr.TheVariants.{Label, Const, Act}
use Rattle.bril_tree.specs.declared.numbered_function.Func.{Func}
use Rattle.bril_tree.specs.declared.operation.Op.{Op}
use Rattle.bril_tree.specs.declared.operation.Op.TheVariants as op
use Rattle.bril_tree.specs.declared.program.Prog.{Prog}
use Rattle.bril_tree.specs.declared.tree.Tree.{Tree}
use Rattle.bril_tree.specs.declared.types.Ty.{Ty}
use Rattle.bril_profile.specs.declared.profile.Profile.{Profile}
use Rattle.bril_tree.specs.Accepted.{IsAccepted}
use Rattle.bril_tree.specs.FunctionForm.{targets_of}
use Rattle.bril_tree.specs.Numbered.{Numbered, function_tree, item_tree, variable_names, named, names_of_functions, point_tree, tree_at, tree_of, tree_size, nop_item}
use Rattle.bril_tree.specs.Shape.{is_shaped, shape_of}
use Rattle.bril_tree.specs.Step.{items_of, code_of, item_at, point_of}
use Rattle.bril_tree.specs.Walk.{IsReached}
use Rattle.bril_tree.specs.Membership.{In}
use Rattle.bril_tree.proofs.Members.{in_map_source, contains_in}
use Rattle.bril_names.specs.Faults.{Differ, IsKnown, IsSound, SameHead, IsSoundEdit, labels_of, function_names}
use Rattle.bril_names.specs.Faults as fault
use Rattle.bril_tree.proofs.Acceptance.{target_reached}
use Rattle.bril_tree.proofs.Shapes.{shape-parts, dest_none}
use Rattle.pass_edit_laws.proofs.lemmas.labels.Listed.{label-in}
use Rattle.pass_edit_laws.proofs.lemmas.steps.Shapes.{shaped_here}
use Rattle.pass_edit_laws.proofs.lemmas.names.Trees.{heads-of_trees}
use Rattle.pass_edit_laws.proofs.lemmas.names.Points.{found, label_found}
use Rattle.pass_law.proofs.Equations.{equation_number}
use Rattle.pass_law.specs.Meaning.{HasNumbers, Link}
use Rattle.pass_make.specs.Edited.{IsLinkedTo}
use Rattle.pass_make.specs.declared.made.Made.TheVariants as making
use Rattle.pass_make.specs.CanBeMade.{CanBeMade}
use Rattle.pass_edit_laws.proofs.lemmas.plan.Elements.{all_in, in_all}
use Rattle.pass_make.proofs.Each.{names-each, heads-each, items-each, size-each}
use Rattle.tidy_code.proofs.Points.{kept_items, IsNop, code_tree, Tidied}
use Rattle.tidy_code.specs.Tidy.{tidy_meaning}
use Rattle.tidy_code.specs.Tidied.{AreStaying, IsTidiedFunction, IsTidiedTree}
use Rattle.tidy_code.proofs.Accepted.{tidied-accepted}
use Rattle.tidy_code.proofs.Numbers.{numbers-within}
use Rattle.tidy_code.proofs.Refines.{tidied-refines}
use Rattle.bril_tree.specs.Size.{item_count, IsCounted}
use Rattle.bril_tree.proofs.Formed.{target_below}
use Rattle.bril_tree.proofs.Elements.{get_in}
use Rattle.bril_tree.proofs.Trees.{numbered-tree_of, function_at}
use Rattle.tidy_code.proofs.Staying.{Keeping, keeping, staying-in, StayedAt, in-stayed}

-- ---- the tree and the numbers of a `nop`

nop-or-not : (a : Instr) → IsNop a ⊎ (IsNop a → ⊥)
nop-or-not (Label l) = inr (λ n. n)
nop-or-not (Const d ty v) = inr (λ n. n)
nop-or-not (Act d ty op.Nop args fns ls) = inl tt
nop-or-not (Act d ty _ args fns ls) = inr (λ n. n)

op-nop : (d : Option ℕ) (ty : Option Ty) (o : Op) (args fns ls : List ℕ) → o ≡ op.Nop → IsNop (Act d ty o args fns ls)
op-nop d ty o args fns ls e = subst (λ z. IsNop (Act d ty z args fns ls)) (sym e) tt

nop-from_tree : (fs V l : List (List ℕ)) (a : Instr) → item_tree fs V l a ≡ nop_item → IsNop a
nop-from_tree fs V l (Label k) e = absurd cc
nop-from_tree fs V l (Const d ty v) e = absurd cc
nop-from_tree fs V l (Act d ty o args fns ls) e = op-nop d ty o args fns ls cc

nop-tree : (fs V l : List (List ℕ)) (ret : Bool) (a : Instr) → is_shaped ret a ≡ true → IsNop a → item_tree fs V l a ≡ nop_item
nop-tree fs V l ret (Label k) s n = absurd n
nop-tree fs V l ret (Const d ty v) s n = absurd n
nop-tree fs V l ret (Act d ty op.Nop args fns ls) s n =
    let h = shape-parts (shape_of ret op.Nop) (is_some d) (length args) (length fns) (length ls) s in
    let none = dest_none (shape_of ret op.Nop) d (length args) (length fns) (length ls) refl s in
    let a0 = nil_from_length args h.args_are in
    let f0 = nil_from_length fns h.funcs_are in
    let l0 = nil_from_length ls h.labels_are in
    λ i. item_tree fs V l (Act (none i) ty op.Nop (a0 i) (f0 i) (l0 i))
nop-tree fs V l ret (Act d ty _ args fns ls) s n = absurd n

-- ---- lists

label-works : (n : List ℕ) → item.Label n ≡ nop_item → ⊥
label-works n e = cc

-- labels that differ still differ
differ-tidied : (code : List Instr) (i : ℕ) (xs ys : List Item) → AreStaying code i xs ys → Differ (labels_of xs) → Differ (labels_of ys) × ((n : List ℕ) → In n (labels_of ys) → In n (labels_of xs))
differ-tidied code i [] ys t d = (subst (λ l. Differ (labels_of l)) (sym t) d, λ n m. subst (λ l. In n (labels_of l)) t m)
differ-tidied code i (item.Label m ∷ xs) ys (inl h) d =
    let r = differ-tidied code (suc i) xs h.1.0 h.1.2 (λ a b z lt within. d (suc a) (suc b) z (omega arith) (omega arith)) in
    let head : (n : List ℕ) → In n (labels_of xs) → m ≢ n = λ n k. let c = contains_in n (labels_of xs) k in subst (λ w. m ≢ w) c.2 (d 0 (suc c.0) n (omega arith) (let l = c.1 in omega arith)) in (
      subst (λ l. Differ (labels_of l)) (sym h.1.1) (AllPairs-cons (λ a b. a ≢ b) m (labels_of h.1.0) (in_all (λ n. m ≢ n) (labels_of h.1.0) (λ n k. head n (r.1 n k))) r.0),
      λ n k. ⊎_elim inl (λ j. inr (r.1 n j)) (subst (λ l. In n (labels_of l)) h.1.1 k),
    )
differ-tidied code i (item.Label m ∷ xs) ys (inr h) d =
    let r = differ-tidied code (suc i) xs ys h.1 (λ a b z lt within. d (suc a) (suc b) z (omega arith) (omega arith)) in
    (r.0, λ n k. inr (r.1 n k))
differ-tidied code i (item.Const e ty v ∷ xs) ys (inl h) d =
    let r = differ-tidied code (suc i) xs h.1.0 h.1.2 d in
    (subst (λ l. Differ (labels_of l)) (sym h.1.1) r.0, λ n k. r.1 n (subst (λ l. In n (labels_of l)) h.1.1 k))
differ-tidied code i (item.Const e ty v ∷ xs) ys (inr h) d = differ-tidied code (suc i) xs ys h.1 d
differ-tidied code i (item.Act e o args fns ls ∷ xs) ys (inl h) d =
    let r = differ-tidied code (suc i) xs h.1.0 h.1.2 d in
    (subst (λ l. Differ (labels_of l)) (sym h.1.1) r.0, λ n k. r.1 n (subst (λ l. In n (labels_of l)) h.1.1 k))
differ-tidied code i (item.Act e o args fns ls ∷ xs) ys (inr h) d = differ-tidied code (suc i) xs ys h.1 d

-- the targets of an item, by name
targets-named : (fs V l : List (List ℕ)) (a : Instr) (n : List ℕ) → In n (fault.targets_of (item_tree fs V l a)) → (k : ℕ) × In k (targets_of a) × (n ≡ named l k)
targets-named fs V l (Label k) n m = absurd m
targets-named fs V l (Const d ty v) n m = absurd m
targets-named fs V l (Act d ty o args fns ls) n m = in_map_source (named l) n ls m

module _ (P : Prog) (accepted : IsAccepted P) where
  abbrev pub fs : List (List ℕ)
  fs = names_of_functions P.funcs

  -- the function of a number, and what the pass makes of it
  module _ (f : ℕ) (F : Func) (p : slice_get P.funcs f ≡ Some F) (g : FuncTree) (t : IsTidiedFunction F.code (function_tree fs F) g) where
    abbrev xs : List Item
    xs = (function_tree fs F).code

    code : code_of P f ≡ F.code
    code = ap items_of p

    tree_of_item : (k : ℕ) (a : Instr) → slice_get F.code k ≡ Some a → slice_get xs k ≡ Some (item_tree fs (variable_names F.vars) F.labels a)
    tree_of_item k a at = slice_get-map (item_tree fs (variable_names F.vars) F.labels) F.code k ∙ ap (option_map (item_tree fs (variable_names F.vars) F.labels)) at

    -- the item of the tree at a point
    numbered_at : (k : ℕ) (y : Item) → slice_get xs k ≡ Some y → (a : Instr) × (slice_get F.code k ≡ Some a) × (item_tree fs (variable_names F.vars) F.labels a ≡ y)
    numbered_at k y at = by (slice_get F.code k) refl
      where
        by : (o : Option Instr) → slice_get F.code k ≡ o → (a : Instr) × (slice_get F.code k ≡ Some a) × (item_tree fs (variable_names F.vars) F.labels a ≡ y)
        by None e = absurd (let h : None ≡ Some y = sym (slice_get-map (item_tree fs (variable_names F.vars) F.labels) F.code k ∙ ap (option_map (item_tree fs (variable_names F.vars) F.labels)) e) ∙ at in cc)
        by (Some a) e = (a, e, same_Some _ _ (sym (tree_of_item k a e) ∙ at))

    tree_at_items : (k : ℕ) → tree_at P f k ≡ slice_get xs k
    tree_at_items k = ap (λ o. point_tree fs o k) p ∙ sym (slice_get-map (item_tree fs (variable_names F.vars) F.labels) F.code k)

    -- a label that a reached item names stays
    label-stays : (k : ℕ) (a : Instr) (l : ℕ) (n : List ℕ) → slice_get F.code k ≡ Some a → IsReached F.code k → In l (targets_of a) → n ≡ named F.labels l → In n (labels_of g.code)
    label-stays k a l n at reached m e =
        let here : item_at P f k ≡ Some a = ap (λ c. slice_get c k) code ∙ at in
        let goal = target_reached P accepted f k a l here (subst (λ c. IsReached c k) (sym code) reached) m in
        label-in g.code n (stands (point_of l (code_of P f)) goal (label_found P f F l p (target_below F k a at l m)))
      where
        stands : (q : ℕ) → IsReached (code_of P f) q → tree_at P f q ≡ Some (item.Label (named F.labels l)) → In (item.Label n) g.code
        stands q goal label =
            let w : q ≡ 0 + q = omega arith in
            staying-in F.code 0 xs g.code t.items q (item.Label n) (sym (tree_at_items q) ∙ label ∙ ap (λ z. Some (item.Label z)) (sym e)) (record { reached = subst (IsReached F.code) w (subst (λ c. IsReached c q) code goal); works = λ same. label-works n same })

    -- a label that a staying item names stays
    target-stays : (y : Item) → StayedAt F.code 0 xs y → (n : List ℕ) → In n (fault.targets_of y) → In n (labels_of g.code)
    target-stays y s n m = by (numbered_at s.index y s.at)
      where
        by : (a : Instr) × (slice_get F.code s.index ≡ Some a) × (item_tree fs (variable_names F.vars) F.labels a ≡ y) → In n (labels_of g.code)
        by a =
            let z : 0 + s.index ≡ s.index = omega arith in
            let l = targets-named fs (variable_names F.vars) F.labels a.0 n (subst (λ w. In n (fault.targets_of w)) (sym a.2) m) in
            label-stays s.index a.0 l.0 n a.1 (subst (IsReached F.code) z s.staying.reached) l.1 l.2

    can_be_numbered : IsSound (function_names (tree_of P)) (function_tree fs F) → IsSoundEdit (function_names (tree_of P)) (function_tree fs F) g
    can_be_numbered s =
        let d = differ-tidied F.code 0 xs g.code t.items s.labels in
        record {
          head = t.head;
          labels = d.0;
          known = in_all (IsKnown (function_names (tree_of P)) (labels_of g.code)) g.code (λ y there.
              let from = in-stayed F.code 0 xs g.code t.items y there in
              let known = all_in (IsKnown (function_names (tree_of P)) (labels_of xs)) xs s.known y (get_in xs from.index y from.at) in
              (known.0, in_all (λ n. Contains (labels_of g.code) n) (fault.targets_of y) (λ n m. contains_in n (labels_of g.code) (target-stays y from n m))));
        }

  -- ---- all functions

  abbrev pub IsMade : Func → FuncTree → Type 0
  IsMade F g = IsTidiedFunction F.code (function_tree fs F) g

  names_made : (made : List FuncTree) → AllZip IsMade P.funcs made → AllZip (IsSoundEdit (function_names (tree_of P))) (tree_of P).funcs made
  names_made made z = names-each P IsMade (λ f F g p s t. can_be_numbered f F p g t s) made z

  -- which items are kept, by the number of the function
  pub keep_in : (rest : List Func) (ys : List FuncTree) → AllZip IsMade rest ys → ℕ → ℕ → Bool
  keep_in [] ys z f i = false
  keep_in (F ∷ rest) [] z f i = false
  keep_in (F ∷ rest) (g ∷ ys) z zero i = (keeping F.code 0 (function_tree fs F).code g.code z.0.items).keep i
  keep_in (F ∷ rest) (g ∷ ys) z (suc f) i = keep_in rest ys z.1 f i

  record MadeAt (F : Func) (ys : List FuncTree) (f : ℕ) (keep : ℕ → Bool) : Type 0 where
    g : FuncTree
    at : slice_get ys f ≡ Some g
    tidies : IsMade F g
    keeps : Keeping F.code 0 (function_tree fs F).code g.code
    same : keeps.keep ≡ keep

  made_at : (rest : List Func) (ys : List FuncTree) (z : AllZip IsMade rest ys) (f : ℕ) (F : Func) → slice_get rest f ≡ Some F → MadeAt F ys f (keep_in rest ys z f)
  unfolding keep_in
  made_at [] ys z f F p = absurd (let n : None ≡ Some F = p in cc)
  made_at (H ∷ rest) [] z f F p = absurd z
  made_at (H ∷ rest) (g ∷ ys) z zero F p = subst (λ (K : Func). MadeAt K (g ∷ ys) 0 (keep_in (H ∷ rest) (g ∷ ys) z 0)) (same_Some H F p) (record { g = g; at = refl; tidies = z.0; keeps = keeping H.code 0 (function_tree fs H).code g.code z.0.items; same = refl })
  made_at (H ∷ xs) (g ∷ ys) z (suc f) F p = let r = made_at xs ys z.1 f F p in record { g = r.g; at = r.at; tidies = r.tidies; keeps = r.keeps; same = r.same }

  module _ (Q : Prog) (is : IsTidiedTree P (tree_of Q)) where
    abbrev pub keep : ℕ → ℕ → Bool
    keep = keep_in P.funcs (tree_of Q).funcs is.functions

    heads : AllZip SameHead (tree_of P).funcs (tree_of Q).funcs
    heads = heads-each P IsMade (λ F g t. t.head) (tree_of Q).funcs is.functions

    module _ (f i : ℕ) (a : Instr) (at : item_at P f i ≡ Some a) where
      record Stands : Type 0 where
        F : Func
        p : slice_get P.funcs f ≡ Some F
        there : slice_get (function_tree fs F).code i ≡ Some (item_tree fs (variable_names F.vars) F.labels a)
        m : MadeAt F (tree_of Q).funcs f (keep f)

      stands : Stands
      stands =
          let fa = found P f i a at in
          record {
            F = fa.function;
            p = fa.there;
            there = slice_get-map (item_tree fs (variable_names fa.function.vars) fa.function.labels) fa.function.code i ∙ ap (option_map (item_tree fs (variable_names fa.function.vars) fa.function.labels)) (ap (λ c. slice_get c i) (sym (ap items_of fa.there)) ∙ at);
            m = made_at P.funcs (tree_of Q).funcs is.functions f fa.function fa.there;
          }

      dropped : keep f i ≡ false → IsReached (code_of P f) i → IsNop a
      dropped e reached = ⊎_elim (λ n. n) (λ n. absurd (works n stands)) (nop-or-not a)
        where
          works : (IsNop a → ⊥) → Stands → ⊥
          works n s =
              let z : i ≡ 0 + i = omega arith in
              s.m.keeps.drops i (item_tree fs (variable_names s.F.vars) s.F.labels a) s.there ((λ j. s.m.same j (0 + i)) ∙ ap (keep f) (sym z) ∙ e)
              (record { reached = subst (IsReached s.F.code) z (subst (λ c. IsReached c i) (ap items_of s.p) reached); works = λ k. n (nop-from_tree fs (variable_names s.F.vars) s.F.labels a k) })

      kept : keep f i ≡ true → IsReached (code_of P f) i × (IsNop a → ⊥)
      kept e = by stands
        where
          by : Stands → IsReached (code_of P f) i × (IsNop a → ⊥)
          by s =
              let z : 0 + i ≡ i = omega arith in
              let shaped = shaped_here P accepted f i a at in
              let stay = s.m.keeps.stays i (item_tree fs (variable_names s.F.vars) s.F.labels a) s.there ((λ j. s.m.same j (0 + i)) ∙ ap (keep f) z ∙ e) in
              (subst (λ c. IsReached c i) (sym (ap items_of s.p)) (subst (IsReached s.F.code) z stay.reached), λ n. stay.works (nop-tree fs (variable_names s.F.vars) s.F.labels shaped.ret a shaped.shaped n))

    codes : (f : ℕ) (F G : Func) → slice_get P.funcs f ≡ Some F → slice_get Q.funcs f ≡ Some G → code_tree Q G ≡ kept_items (keep f) 0 (code_tree P F)
    codes f F G p q = by (made_at P.funcs (tree_of Q).funcs is.functions f F p)
      where
        by : MadeAt F (tree_of Q).funcs f (keep f) → code_tree Q G ≡ kept_items (keep f) 0 (code_tree P F)
        by m =
            let same : function_tree (names_of_functions Q.funcs) G ≡ m.g = same_Some _ _ (sym (function_at Q f G q) ∙ m.at) in
            ap (λ (h : FuncTree). h.code) same ∙ m.keeps.is ∙ ap (λ k. kept_items k 0 (code_tree P F)) m.same

    -- the points of the old function that stay, in order
    pub tidied-points : Tidied P keep Q
    tidied-points = record { heads = heads-of_trees P Q heads; dropped = dropped; kept = kept; code = codes }

  -- no function has more items than it had
  shorter : (code : List Instr) (i : ℕ) (xs ys : List Item) → AreStaying code i xs ys → length ys ≤ length xs
  shorter code i [] ys t = let e = ap length t in omega arith
  shorter code i (x ∷ xs) ys (inl h) = let r = shorter code (suc i) xs h.1.0 h.1.2 in let e = ap length h.1.1 in omega arith
  shorter code i (x ∷ xs) ys (inr h) = let r = shorter code (suc i) xs ys h.1 in omega arith

  no_longer : (F : Func) (g : FuncTree) → IsMade F g → length g.code ≤ length F.code
  no_longer F g t =
      let one = shorter F.code 0 (function_tree fs F).code g.code t.items in
      let size = length-map F.code (item_tree fs (variable_names F.vars) F.labels) in
      omega arith

  -- ---- by what the calls give: the tree that was made, and the program numbered of that

  module _ (tree : Tree) (t : IsTidiedTree P tree) where
    of_numbered : (Q : Prog) → Numbered tree Q → IsTidiedTree P (tree_of Q)
    of_numbered Q of_q = subst (IsTidiedTree P) (numbered-tree_of tree Q of_q) t

    tidy-made : IsCounted P → CanBeMade P tree
    tidy-made c = record {
      imports = t.imports;
      names = names_made tree.funcs t.functions;
      accepted = λ Q of_q. let is = of_numbered Q of_q in tidied-accepted P Q (keep Q is) accepted (tidied-points Q is);
      items = items-each P IsMade no_longer tree.funcs t.functions c.items;
    }

    linked : (profile : Profile) (Q : Prog) → Numbered tree Q → IsAccepted Q → item_count Q ≡ tree_size tree → Link tidy_meaning profile P Q
    linked profile Q of_q accepted_q size =
        let is = of_numbered Q of_q in
        let points = tidied-points Q is in
        let h = size-each P IsMade no_longer tree.funcs t.functions in
        record {
          makes = record { tree = is; numbers = numbers-within P Q (keep Q is) accepted accepted_q points };
          accepted = accepted_q;
          factor = 1;
          is_factor = refl;
          refines = tidied-refines P Q (keep Q is) points accepted;
          bound = item_count P;
          is_bound = refl;
          within = omega (arith, size);
          fits = λ l. let more = l.more in omega arith;
        }

    pub edited : IsCounted P → (profile : Profile) → IsLinkedTo tidy_meaning profile P (making.Tree tree)
    edited c profile = (tidy-made c, linked profile)

-- the factor and the bound are equations
pub tidy-numbers : HasNumbers tidy_meaning
tidy-numbers = record { factor = equation_number (λ P profile. 1); bound = equation_number (λ P profile. item_count P) }
