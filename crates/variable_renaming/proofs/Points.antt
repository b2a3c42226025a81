-- What stands at a point of the result, and the same branches.
use Rattle.std.proofs.Common.{◌≡◌, ℕ, ◌<◌, Bool, false, true, List, [], ◌∷◌, length, map, Option, Some, None, refl, sym, ap, subst, ◌∙◌, ⊎_elim}
use Rattle.std.specs.Prelude.{slice_get}
use Rattle.std.specs.Option.{option_map}
use Rattle.std.proofs.lemmas.List.{length-map}
use Rattle.std.proofs.lemmas.Option.{same_Some}
use Rattle.bril_tree.specs.declared.function_tree.Item.TheVariants as item
use Rattle.bril_tree.specs.declared.numbered.Instr.{Instr}
use Rattle.bril_tree.specs.declared.numbered.Instr.TheVariants.{Label, Const, Act}
use Rattle.bril_tree.specs.declared.numbered_function.Func.{Func}
use Rattle.bril_tree.specs.declared.operation.Op.{Op}
use Rattle.bril_tree.specs.declared.operation.Op.TheVariants as op
use Rattle.bril_tree.specs.declared.program.Prog.{Prog}
use Rattle.bril_tree.specs.Edge.{Branch, action_branches, branches_from, onward}
use Rattle.bril_tree.specs.Numbered.{item_tree, named, names_in, names_of_functions, nop, tree_at}
use Rattle.bril_tree.specs.Sites.{item_change, operation_change}
use Rattle.bril_tree.specs.Step.{code_of, item_at, point_of}
use Rattle.bril_tree.proofs.Trees.{nop-at, nothing_at}
use Rattle.bril_names.specs.Range.{AreBelow, IsInRange}
use Rattle.pass_edit_laws.specs.names.NamedPlan.{SameHeads}
use Rattle.pass_edit_laws.proofs.lemmas.names.Points.{found, found_under, label_found, label_once}
use Rattle.variable_renaming.specs.Renamed.{IsRenamedAt, IsSelfCopy, renamed_item}
use Rattle.variable_renaming.proofs.Copying.{copy-is}
use Rattle.pass_edit_laws.proofs.lemmas.names.Renaming.{renamed-found}
use Rattle.variable_renaming.proofs.Names.{tree-renamed}

module _ (P Q : Prog) (f : ℕ) (r : List ℕ → List ℕ) (points : (i : ℕ) → IsRenamedAt P f r Q i) where
  -- at a copy of a variable to one of its new name the result has a `nop`
  pub nop-there : (i : ℕ) → IsSelfCopy P f r i → item_at Q f i ≡ Some nop
  nop-there i s = ⊎_elim (λ c. nop-at Q f i c.1) (λ k. absurd (k.0 s)) (points i)

  no_label : (i : ℕ) (name : List ℕ) → IsSelfCopy P f r i → tree_at P f i ≡ Some (item.Label name) → ⊥
  no_label i name s at =
      let c = copy-is s.item s.x s.y s.copies in
      let fa = found P f i s.item s.at in
      let e : item_tree (names_of_functions P.funcs) (names_in (slice_get P.funcs f)) fa.function.labels s.item ≡ item.Label name = same_Some _ _ (sym fa.tree ∙ at) in
      let k = sym (ap (item_tree (names_of_functions P.funcs) (names_in (slice_get P.funcs f)) fa.function.labels) c.is) ∙ e in
      cc

  -- a label of the program is one of the result
  pub label-kept : (i : ℕ) (name : List ℕ) → tree_at P f i ≡ Some (item.Label name) → tree_at Q f i ≡ Some (item.Label name)
  label-kept i name at = ⊎_elim (λ s. absurd (no_label i name s.0 at)) (λ k. k.1 ∙ ap (option_map (renamed_item r)) at) (points i)

-- ---- an item under its new names, beside that of the result

module _ (P Q : Prog) (heads : SameHeads P Q) (f i : ℕ) (r : List ℕ → List ℕ) (same : tree_at Q f i ≡ option_map (renamed_item r) (tree_at P f i)) where
  abbrev V : List (List ℕ)
  V = names_in (slice_get P.funcs f)

  abbrev N : List (List ℕ)
  N = map r V

  abbrev W : List (List ℕ)
  W = names_in (slice_get Q.funcs f)

  abbrev fs : List (List ℕ)
  fs = names_of_functions P.funcs

  pub record Both (a b : Instr) : Type 0 where
    pub function : Func
    pub there : slice_get P.funcs f ≡ Some function
    pub result : Func
    pub result_there : slice_get Q.funcs f ≡ Some result
    pub one : item_tree fs N function.labels a ≡ item_tree fs W result.labels b
    pub range : IsInRange (length fs) (length N) (length function.labels) a
    pub result_range : IsInRange (length fs) (length W) (length result.labels) b

  pub both : (a b : Instr) → item_at P f i ≡ Some a → item_at Q f i ≡ Some b → Both a b
  both a b at bt =
      let fa = found P f i a at in
      let fb = found Q f i b bt in
      let under = found_under fs Q heads.names f i b fb in
      record {
        function = fa.function;
        there = fa.there;
        result = fb.function;
        result_there = fb.there;
        one = same_Some _ _ (sym (renamed-found P f i a at fa.function fa.there N) ∙ sym (tree-renamed P f i r) ∙ sym same ∙ under.tree);
        range = subst (λ n. IsInRange (length fs) n (length fa.function.labels) a) (sym (length-map V r)) fa.range;
        result_range = under.range;
      }

  -- there is one where the program has one, and the other way round
  pub no-item : item_at Q f i ≡ None → (a : Instr) → item_at P f i ≡ Some a → ⊥
  no-item bt a at = let h = sym (renamed-found P f i a at (found P f i a at).function (found P f i a at).there N) ∙ sym (tree-renamed P f i r) ∙ sym same ∙ nothing_at Q f i bt in cc

  pub no-older : item_at P f i ≡ None → (b : Instr) → item_at Q f i ≡ Some b → ⊥
  no-older at b bt = let h = sym (found Q f i b bt).tree ∙ same ∙ ap (option_map (renamed_item r)) (nothing_at P f i at) in cc

-- ---- branches

-- the same branches, and the same changes of the open sites
pub record IsAlike (code result_code : List Instr) (i : ℕ) (o u : Option Instr) : Type 0 where
  pub branches : branches_from code i o ≡ branches_from result_code i u
  pub change : (aborts : Bool) → item_change o aborts ≡ item_change u aborts

module _ (P Q : Prog) (heads : SameHeads P Q) (f : ℕ) (r : List ℕ → List ℕ) (points : (i : ℕ) → IsRenamedAt P f r Q i) where
  abbrev code : List Instr
  code = code_of P f

  abbrev result_code : List Instr
  result_code = code_of Q f

  module _ (F G : Func) (p : slice_get P.funcs f ≡ Some F) (q : slice_get Q.funcs f ≡ Some G) where
    -- labels of one name stand at one point
    point-same : (l m : ℕ) → l < length F.labels → m < length G.labels → named F.labels l ≡ named G.labels m → point_of l code ≡ point_of m result_code
    point-same l m a b e =
        label_once Q f (point_of l code) (point_of m result_code) (named F.labels l) (label-kept P Q f r points (point_of l code) (named F.labels l) (label_found P f F l p a))
        (label_found Q f G m q b ∙ ap (λ n. Some (item.Label n)) (sym e))

    to-same : (make : ℕ → Branch) (ls ms : List ℕ) → map (named F.labels) ls ≡ map (named G.labels) ms → AreBelow (length F.labels) ls → AreBelow (length G.labels) ms → map (λ l. make (point_of l code)) ls ≡ map (λ m. make (point_of m result_code)) ms
    to-same make [] [] e a b = refl
    to-same make [] (m ∷ ms) e a b = absurd cc
    to-same make (l ∷ ls) [] e a b = absurd cc
    to-same make (l ∷ ls) (m ∷ ms) e a b =
        let here : named F.labels l ≡ named G.labels m = cc in
        let rest : map (named F.labels) ls ≡ map (named G.labels) ms = cc in
        λ j. make (point-same l m a.0 b.0 here j) ∷ to-same make ls ms rest a.1 b.1 j

    act-same : (i : ℕ) (o : Op) (ls ms : List ℕ) → map (named F.labels) ls ≡ map (named G.labels) ms → AreBelow (length F.labels) ls → AreBelow (length G.labels) ms → action_branches code i o ls ≡ action_branches result_code i o ms
    act-same i op.Jmp ls ms e a b = to-same (λ t. record { from = i; to = t; aborts = false }) ls ms e a b
    act-same i op.Br ls ms e a b = to-same (λ t. record { from = i; to = t; aborts = false }) ls ms e a b
    act-same i op.Ret ls ms e a b = refl
    act-same i op.Guard ls ms e a b = ap (λ l. onward i ∷ l) (to-same (λ t. record { from = i; to = t; aborts = true }) ls ms e a b)
    act-same i _ ls ms e a b = refl

    items-alike : (fs N W : List (List ℕ)) (i : ℕ) (a b : Instr) → item_tree fs N F.labels a ≡ item_tree fs W G.labels b → (n m x y : ℕ) → IsInRange n x (length F.labels) a → IsInRange m y (length G.labels) b → IsAlike code result_code i (Some a) (Some b)
    items-alike fs N W i (Label l) (Label m) e n k x y s t = record { branches = refl; change = λ aborts. refl }
    items-alike fs N W i (Label l) (Const z u w) e n k x y s t = record { branches = refl; change = λ aborts. refl }
    items-alike fs N W i (Label l) (Act z u o brgs gns ms) e n k x y s t = absurd cc
    items-alike fs N W i (Const d ty v) (Label m) e n k x y s t = record { branches = refl; change = λ aborts. refl }
    items-alike fs N W i (Const d ty v) (Const z u w) e n k x y s t = record { branches = refl; change = λ aborts. refl }
    items-alike fs N W i (Const d ty v) (Act z u o brgs gns ms) e n k x y s t = absurd cc
    items-alike fs N W i (Act d ty o args fns ls) (Label m) e n k x y s t = absurd cc
    items-alike fs N W i (Act d ty o args fns ls) (Const z u w) e n k x y s t = absurd cc
    items-alike fs N W i (Act d ty o args fns ls) (Act z u v brgs gns ms) e n k x y s t =
        let operation : o ≡ v = cc in
        let labels : map (named F.labels) ls ≡ map (named G.labels) ms = cc in
        record { branches = act-same i o ls ms labels s.targets t.targets ∙ ap (λ w. action_branches result_code i w ms) operation; change = λ aborts. ap (λ w. operation_change w aborts) operation }

  pub alike : (i : ℕ) → IsAlike code result_code i (item_at P f i) (item_at Q f i)
  alike i = ⊎_elim (λ s. copied s.0) (λ k. by (item_at P f i) (item_at Q f i) refl refl k.1) (points i)
    where
      copied : IsSelfCopy P f r i → IsAlike code result_code i (item_at P f i) (item_at Q f i)
      copied s =
          let c = copy-is s.item s.x s.y s.copies in
          let at : item_at P f i ≡ Some (Act (Some s.x) c.ty op.Id c.args c.funcs c.labels) = s.at ∙ ap Some c.is in
          let bt : item_at Q f i ≡ Some nop = nop-there P Q f r points i s in
          record {
            branches = ap (branches_from code i) at ∙ sym (ap (branches_from result_code i) bt);
            change = λ aborts. ap (λ o. item_change o aborts) at ∙ sym (ap (λ o. item_change o aborts) bt);
          }

      by : (o u : Option Instr) → item_at P f i ≡ o → item_at Q f i ≡ u → tree_at Q f i ≡ option_map (renamed_item r) (tree_at P f i) → IsAlike code result_code i o u
      by None None at bt same = record { branches = refl; change = λ aborts. refl }
      by None (Some b) at bt same = absurd (no-older P Q heads f i r same at b bt)
      by (Some a) None at bt same = absurd (no-item P Q heads f i r same bt a at)
      by (Some a) (Some b) at bt same =
          let k = both P Q heads f i r same a b at bt in
          items-alike k.function k.result k.there k.result_there (names_of_functions P.funcs) (map r (names_in (slice_get P.funcs f))) (names_in (slice_get Q.funcs f)) i a b k.one (length (names_of_functions P.funcs)) (length (names_of_functions P.funcs)) (length (map r (names_in (slice_get P.funcs f)))) (length (names_in (slice_get Q.funcs f))) k.range k.result_range
