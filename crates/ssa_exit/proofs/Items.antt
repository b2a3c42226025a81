-- Copies, and variables that get some value, where a tree has them; and what items that name no shadow read and assign.
use Rattle.std.proofs.Common.{◌≡◌, ℕ, ◌<◌, false, List, [], ◌∷◌, ◌++◌, length, map, Option, Some, None, refl, sym, ap, subst, ◌∙◌, inl, inr}
use Rattle.std.specs.Prelude.{slice_get}
use Rattle.std.proofs.lemmas.List.{length-map}
use Rattle.std.proofs.lemmas.Option.{same_Some}
use Rattle.bril_tree.specs.declared.function_tree.Dest.{Dest}
use Rattle.bril_tree.specs.declared.function_tree.Item.{Item}
use Rattle.bril_tree.specs.declared.function_tree.Item.TheVariants as item
use Rattle.bril_tree.specs.declared.numbered.Instr.{Instr}
use Rattle.bril_tree.specs.declared.numbered.Instr.TheVariants.{Label, Const, Act}
use Rattle.bril_tree.specs.declared.numbered.VarInfo.{VarInfo}
use Rattle.bril_tree.specs.declared.numbered_function.Func.{Func}
use Rattle.bril_tree.specs.declared.operation.Op.{Op}
use Rattle.bril_tree.specs.declared.operation.Op.TheVariants as op
use Rattle.bril_tree.specs.declared.program.Prog.{Prog}
use Rattle.bril_tree.specs.declared.types.Ty.{Ty}
use Rattle.bril_tree.specs.Assigned.{assigns_at}
use Rattle.bril_tree.specs.FunctionForm.{listed}
use Rattle.bril_tree.specs.Membership.{In}
use Rattle.bril_tree.specs.Numbered.{dest_tree, item_tree, named, names_in, names_of_functions, tree_at, typed_name, variable_names}
use Rattle.bril_tree.specs.Operand.{Location, Variable, Shadow, reads_of}
use Rattle.bril_tree.specs.Step.{item_at, items_of}
use Rattle.bril_tree.proofs.Trees.{none_from, nothing_at}
use Rattle.bril_names.specs.Range.{AreBelow}
use Rattle.pass_edit_laws.proofs.lemmas.names.Points.{Found, found}
use Rattle.ssa_exit.specs.Unssaed.{copy_item, left_item, left_items, names_a_shadow}

-- ---- items that name no shadow

abbrev pub IsVariable : Location → Type 0
IsVariable (Variable x) = Unit {0}
IsVariable (Shadow x) = ⊥

pub in_variables : (xs : List ℕ) (a : Location) → In a (map Variable xs) → IsVariable a
in_variables [] a i = absurd i
in_variables (x ∷ xs) a (inl e) = subst IsVariable (sym e) tt
in_variables (x ∷ xs) a (inr i) = in_variables xs a i

pub reads_variables : (a : Instr) (x : Location) → names_a_shadow (Some a) ≡ false → In x (reads_of a) → IsVariable x
reads_variables (Label l) x e i = absurd i
reads_variables (Const d ty v) x e i = absurd i
reads_variables (Act d ty op.Get args fns ls) x e i = absurd cc
reads_variables (Act d ty op.Set args fns ls) x e i = absurd cc
reads_variables (Act d ty _ args fns ls) x e i = in_variables args x i

pub assigns_variables : (o : Option Instr) (x : Location) → names_a_shadow o ≡ false → In x (assigns_at o) → IsVariable x
assigns_variables None x e i = absurd i
assigns_variables (Some (Label l)) x e i = absurd i
assigns_variables (Some (Const d ty v)) x e i = in_variables (d ∷ []) x i
assigns_variables (Some (Act d ty op.Get args fns ls)) x e i = absurd cc
assigns_variables (Some (Act d ty op.Set args fns ls)) x e i = absurd cc
assigns_variables (Some (Act d ty _ args fns ls)) x e i = in_variables (listed d) x i

-- they stay as they are
pub left-same : (F : Func) (fresh : ℕ → List ℕ) (a : Instr) (i : Item) → names_a_shadow (Some a) ≡ false → left_item F fresh a i ≡ i
left-same F fresh (Label l) i e = refl
left-same F fresh (Const d ty v) i e = refl
left-same F fresh (Act d ty op.Get args fns ls) i e = absurd cc
left-same F fresh (Act d ty op.Set args fns ls) i e = absurd cc
left-same F fresh (Act d ty _ args fns ls) i e = refl

-- ---- a function of a program

module _ (X : Prog) (f : ℕ) (F : Func) (p : slice_get X.funcs f ≡ Some F) where
  pub names-long : length (variable_names F.vars) ≡ length F.vars
  names-long = length-map F.vars (λ (v : VarInfo). v.name)

  -- its names, by its number
  pub in-names : (x : ℕ) → x < length (names_in (slice_get X.funcs f)) → x < length (variable_names F.vars)
  in-names x low = subst (λ o. x < length (names_in o)) p low

  pub is-name : (x : ℕ) (name : List ℕ) → named (names_in (slice_get X.funcs f)) x ≡ name → named (variable_names F.vars) x ≡ name
  is-name x name e = sym (ap (λ o. named (names_in o) x) p) ∙ e

  -- its items
  pub in-code : (i : ℕ) (a : Instr) → item_at X f i ≡ Some a → slice_get F.code i ≡ Some a
  in-code i a at = ap (λ o. slice_get (items_of o) i) (sym p) ∙ at

  pub at-point : (i : ℕ) (a : Instr) → slice_get F.code i ≡ Some a → item_at X f i ≡ Some a
  at-point i a at = ap (λ o. slice_get (items_of o) i) p ∙ at

-- ---- the loop over the items

pub left-none : (F : Func) (fresh : ℕ → List ℕ) (code : List Instr) → left_items F fresh code [] ≡ []
left-none F fresh [] = refl
left-none F fresh (a ∷ code) = refl

-- one more item
pub left-push : (F : Func) (fresh : ℕ → List ℕ) (code : List Instr) (is : List Item) (i : Item) (a : Instr) → slice_get code (length is) ≡ Some a → left_items F fresh code (is ++ i ∷ []) ≡ left_items F fresh code is ++ left_item F fresh a i ∷ []
left-push F fresh [] is i a at = absurd (let n : None ≡ Some a = at in cc)
left-push F fresh (b ∷ code) [] i a at = λ k. left_item F fresh (same_Some b a at k) i ∷ left-none F fresh code k
left-push F fresh (b ∷ code) (j ∷ is) i a at = ap (λ l. left_item F fresh b j ∷ l) (left-push F fresh code is i a at)

-- ---- an operation with a destination, by its tree

-- there is an operation that gives this name a value of this type, by what these names hold
pub record GivesThere (X : Prog) (f i : ℕ) (to : List ℕ) (s : Ty) (o : Op) (from : List (List ℕ)) : Type 0 where
  pub dest : ℕ
  pub args : List ℕ
  pub at : item_at X f i ≡ Some (Act (Some dest) (Some s) o args [] [])
  pub dest_in : dest < length (names_in (slice_get X.funcs f))
  pub dest_is : named (names_in (slice_get X.funcs f)) dest ≡ to
  pub args_in : AreBelow (length (names_in (slice_get X.funcs f))) args
  pub args_are : map (named (names_in (slice_get X.funcs f))) args ≡ from

module _ (X : Prog) (f i : ℕ) (to : List ℕ) (s : Ty) (o : Op) (from : List (List ℕ)) where
  abbrev W : List (List ℕ)
  W = names_in (slice_get X.funcs f)

  parts : (d : Option ℕ) (ty : Option Ty) (args : List ℕ) → item_at X f i ≡ Some (Act d ty o args [] []) → dest_tree W d ty ≡ Some (typed_name to s) → map (named W) args ≡ from → AreBelow (length W) (listed d ++ args) → GivesThere X f i to s o from
  parts None ty args at ed ea b = absurd cc
  parts (Some x) None args at ed ea b = absurd cc
  parts (Some x) (Some t) args at ed ea b =
      let one = same_Some (typed_name (named W x) t) (typed_name to s) ed in
      let same : t ≡ s = ap (λ (z : Dest). z.ty) one in
      record { dest = x; args = args; at = at ∙ ap (λ z. Some (Act (Some x) (Some z) o args [] [])) same; dest_in = b.0; dest_is = ap (λ (z : Dest). z.name) one; args_in = b.1; args_are = ea }

  pub gives_there : tree_at X f i ≡ Some (item.Act (Some (typed_name to s)) o from [] []) → GivesThere X f i to s o from
  gives_there tree = by (item_at X f i) refl
    where
      by_item : (a : Instr) → item_at X f i ≡ Some a → (h : Found X f i a) → item_tree (names_of_functions X.funcs) W h.function.labels a ≡ item.Act (Some (typed_name to s)) o from [] [] → GivesThere X f i to s o from
      by_item (Label l) at h e = absurd cc
      by_item (Const d ty v) at h e = absurd cc
      by_item (Act d ty u args fns ls) at h e =
          let eo : u ≡ o = cc in
          let ed : dest_tree W d ty ≡ Some (typed_name to s) = cc in
          let ea : map (named W) args ≡ from = cc in
          let ef : map (named (names_of_functions X.funcs)) fns ≡ [] = cc in
          let el : map (named h.function.labels) ls ≡ [] = cc in
          let nf = none_from (named (names_of_functions X.funcs)) fns ef in
          let nl = none_from (named h.function.labels) ls el in
          parts d ty args (at ∙ (λ k. Some (Act d ty (eo k) args (nf k) (nl k)))) ed ea h.range.variables

      by : (u : Option Instr) → item_at X f i ≡ u → GivesThere X f i to s o from
      by None at = absurd (let h = sym (nothing_at X f i at) ∙ tree in cc)
      by (Some a) at = let h = found X f i a at in by_item a at h (same_Some _ _ (sym h.tree ∙ tree))

-- ---- a copy

pub record CopyThere (X : Prog) (f i : ℕ) (to : List ℕ) (s : Ty) (from : List ℕ) : Type 0 where
  pub dest : ℕ
  pub source : ℕ
  pub at : item_at X f i ≡ Some (Act (Some dest) (Some s) op.Id (source ∷ []) [] [])
  pub dest_in : dest < length (names_in (slice_get X.funcs f))
  pub dest_is : named (names_in (slice_get X.funcs f)) dest ≡ to
  pub source_in : source < length (names_in (slice_get X.funcs f))
  pub source_is : named (names_in (slice_get X.funcs f)) source ≡ from

pub copy_there : (X : Prog) (f i : ℕ) (to : List ℕ) (s : Ty) (from : List ℕ) → tree_at X f i ≡ Some (copy_item to s from) → CopyThere X f i to s from
copy_there X f i to s from tree = let h = gives_there X f i to s op.Id (from ∷ []) tree in by h h.args refl
  where
    by : (h : GivesThere X f i to s op.Id (from ∷ [])) (args : List ℕ) → h.args ≡ args → CopyThere X f i to s from
    by h [] e = absurd (let n : [] ≡ from ∷ [] = ap (map (named (names_in (slice_get X.funcs f)))) (sym e) ∙ h.args_are in cc)
    by h (y ∷ z ∷ args) e = absurd (let n : map (named (names_in (slice_get X.funcs f))) (y ∷ z ∷ args) ≡ from ∷ [] = ap (map (named (names_in (slice_get X.funcs f)))) (sym e) ∙ h.args_are in cc)
    by h (y ∷ []) e =
        let below : AreBelow (length (names_in (slice_get X.funcs f))) (y ∷ []) = subst (AreBelow (length (names_in (slice_get X.funcs f)))) e h.args_in in
        let are : named (names_in (slice_get X.funcs f)) y ∷ [] ≡ from ∷ [] = ap (map (named (names_in (slice_get X.funcs f)))) (sym e) ∙ h.args_are in
        record {
          dest = h.dest;
          source = y;
          at = h.at ∙ ap (λ l. Some (Act (Some h.dest) (Some s) op.Id l [] [])) e;
          dest_in = h.dest_in;
          dest_is = h.dest_is;
          source_in = below.0;
          source_is = (let n : named (names_in (slice_get X.funcs f)) y ≡ from = cc in n);
        }
