-- A folded program by its points: what stays, and the items that the pass put in, with the numbers of the result.
use Rattle.std.proofs.Common.{◌≡◌, ℕ, ◌<◌, Bool, true, false, cond, List, [], ◌∷◌, length, map, Option, Some, None, refl, sym, ap, subst, ◌∙◌}
use Rattle.std.specs.Prelude.{slice_get}
use Rattle.std.specs.Option.{option_map}
use Rattle.std.proofs.lemmas.Option.{same_Some}
use Rattle.bril_tree.specs.declared.function_tree.Item.{Item}
use Rattle.bril_tree.specs.declared.function_tree.Item.TheVariants as item
use Rattle.bril_tree.specs.declared.numbered.Instr.{Instr}
use Rattle.bril_tree.specs.declared.numbered.Instr.TheVariants.{Label, Const, Act}
use Rattle.bril_tree.specs.declared.numbered_function.Func.{Func}
use Rattle.bril_tree.specs.declared.operation.Op.TheVariants as op
use Rattle.bril_tree.specs.declared.program.Prog.{Prog}
use Rattle.bril_tree.specs.declared.types.Ty.{Ty}
use Rattle.bril_tree.specs.declared.value.Lit.{Lit}
use Rattle.bril_tree.specs.FunctionForm.{dest_is_typed}
use Rattle.bril_tree.specs.Membership.{In}
use Rattle.bril_tree.specs.Numbered.{dest_tree, item_tree, named, names_in, names_of_functions, nop, point_tree, tree_at, variable_names}
use Rattle.bril_tree.specs.Operand.{dest_of}
use Rattle.bril_tree.specs.Step.{code_of, items_of, item_at, point_of}
use Rattle.bril_tree.proofs.Formed.{typed_destination}
use Rattle.bril_tree.proofs.Trees.{found_at, nop-at, nothing_at, none_from}
use Rattle.bril_names.proofs.Naming.{AreBelow-in}
use Rattle.pass_edit_laws.specs.names.Named.{SameName}
use Rattle.pass_edit_laws.specs.names.NamedPlan.{SameHeads}
use Rattle.pass_edit_laws.proofs.lemmas.names.Heads.{no_partner}
use Rattle.pass_edit_laws.proofs.lemmas.names.Points.{found, label_found, label_once}
use Rattle.constant_pass.specs.constants.Consistent.{IsLeast, Table}
use Rattle.constant_pass.specs.Items.{jump_to}
use Rattle.constant_pass.specs.Folded.{becomes}

-- the tree of an item with the numbers of a function
abbrev pub tree_in : Prog → Func → Instr → Item
tree_in P F = item_tree (names_of_functions P.funcs) (variable_names F.vars) F.labels

pub record Folded (P Q : Prog) (T : ℕ → Table) : Type 0 where
  pub heads : SameHeads P Q
  pub start : (f : ℕ) → (T f).reached 0 ≡ true
  pub least : (f : ℕ) (F : Func) → slice_get P.funcs f ≡ Some F → IsLeast F.code F.args (T f)
  pub tree : (f i : ℕ) (F : Func) → slice_get P.funcs f ≡ Some F → tree_at Q f i ≡ option_map (tree_in P F) (option_map (becomes (T f) i) (slice_get F.code i))

module _ (P Q : Prog) (T : ℕ → Table) (t : Folded P Q T) where
  -- the item at the point, if there is one, stays
  abbrev pub IsKept : ℕ → ℕ → Type 0
  IsKept f i = (a : Instr) → item_at P f i ≡ Some a → becomes (T f) i a ≡ a

  pub kept_tree : (f i : ℕ) → IsKept f i → tree_at P f i ≡ tree_at Q f i
  kept_tree f i kept = by (slice_get P.funcs f) refl
    where
      by : (o : Option Func) → slice_get P.funcs f ≡ o → tree_at P f i ≡ tree_at Q f i
      by None n = nothing_at P f i (ap (λ o. slice_get (items_of o) i) n) ∙ sym (no_partner P Q t.heads f n i)
      by (Some F) n = ap (λ o. point_tree (names_of_functions P.funcs) o i) n ∙ ap (option_map (tree_in P F)) (sym (same (slice_get F.code i) refl)) ∙ sym (t.tree f i F n)
        where
          same : (o : Option Instr) → slice_get F.code i ≡ o → option_map (becomes (T f) i) (slice_get F.code i) ≡ slice_get F.code i
          same None e = ap (option_map (becomes (T f) i)) e ∙ sym e
          same (Some a) e = ap (option_map (becomes (T f) i)) e ∙ ap Some (kept a (ap (λ o. slice_get (items_of o) i) n ∙ e)) ∙ sym e

  -- the tree of what the item became
  pub record BecameAt (f i : ℕ) (a : Instr) : Type 0 where
    pub function : Func
    pub there : slice_get P.funcs f ≡ Some function
    pub tree : tree_at Q f i ≡ Some (tree_in P function (becomes (T f) i a))

  pub became_at : (f i : ℕ) (a : Instr) → item_at P f i ≡ Some a → BecameAt f i a
  became_at f i a at = let h = found_at P f i a at in record { function = h.function; there = h.there; tree = t.tree f i h.function h.there ∙ ap (λ o. option_map (tree_in P h.function) (option_map (becomes (T f) i) o)) h.here }

-- a destination has a name
pub dest-within : (P : Prog) (f i : ℕ) (a : Instr) → item_at P f i ≡ Some a → (x : ℕ) → dest_of a ≡ Some x → x < length (names_in (slice_get P.funcs f))
dest-within P f i (Label l) at x d = absurd cc
dest-within P f i (Const y ty l) at x d = let e : y ≡ x = cc in subst (λ n. n < length (names_in (slice_get P.funcs f))) e (found P f i (Const y ty l) at).range.variables.0
dest-within P f i (Act None ty o args fs ls) at x d = absurd cc
dest-within P f i (Act (Some y) ty o args fs ls) at x d = let e : y ≡ x = cc in subst (λ n. n < length (names_in (slice_get P.funcs f))) e (found P f i (Act (Some y) ty o args fs ls) at).range.variables.0

-- ---- items of the result by their trees

const-numbered : (fs vars ls : List (List ℕ)) (a : Instr) (name : List ℕ) (ty : Ty) (l : Lit) → item_tree fs vars ls a ≡ item.Const name ty l → (y : ℕ) × (a ≡ Const y ty l) × (named vars y ≡ name)
const-numbered fs vars ls (Label m) name ty l e = absurd cc
const-numbered fs vars ls (Const y tz k) name ty l e =
    let n : named vars y ≡ name = cc in
    let et : tz ≡ ty = cc in
    let el : k ≡ l = cc in
    (y, (λ i. Const y (et i) (el i)), n)
const-numbered fs vars ls (Act d tz o args gs ms) name ty l e = absurd cc

one_from : {A B : Type 0} (g : A → B) (xs : List A) (y : B) → map g xs ≡ y ∷ [] → (x : A) × (xs ≡ x ∷ []) × (g x ≡ y)
one_from g [] y e = absurd cc
one_from g (x ∷ xs) y e =
    let h : g x ≡ y = cc in
    let r : map g xs ≡ [] = cc in
    (x, ap (λ l. x ∷ l) (none_from g xs r), h)

jump-numbered : (fs vars ls : List (List ℕ)) (a : Instr) (name : List ℕ) → dest_is_typed a ≡ true → item_tree fs vars ls a ≡ item.Act None op.Jmp [] [] (name ∷ []) → (l : ℕ) × (a ≡ jump_to l) × (named ls l ≡ name)
jump-numbered fs vars ls (Label m) name typed e = absurd cc
jump-numbered fs vars ls (Const y tz k) name typed e = absurd cc
jump-numbered fs vars ls (Act d ty o args gs ms) name typed e =
    let eo : o ≡ op.Jmp = cc in
    let ed : dest_tree vars d ty ≡ None = cc in
    let ea : map (named vars) args ≡ [] = cc in
    let ef : map (named fs) gs ≡ [] = cc in
    let el : map (named ls) ms ≡ name ∷ [] = cc in
    let bare = by d ty typed ed in
    let one = one_from (named ls) ms name el in
    (one.0, (λ i. Act (bare.0 i) (bare.1 i) (eo i) (none_from (named vars) args ea i) (none_from (named fs) gs ef i) (one.1 i)), one.2)
  where
    by : (d : Option ℕ) (t : Option Ty) → dest_is_typed (Act d t o args gs ms) ≡ true → dest_tree vars d t ≡ None → (d ≡ None) × (t ≡ None)
    by None None t e = (refl, refl)
    by None (Some ty) t e = absurd cc
    by (Some x) None t e = absurd cc
    by (Some x) (Some ty) t e = absurd cc

module _ (Q : Prog) (f i : ℕ) where
  -- some item has this tree
  pub record ItemOf (x : Item) : Type 0 where
    pub item : Instr
    pub at : item_at Q f i ≡ Some item
    pub function : Func
    pub there : slice_get Q.funcs f ≡ Some function
    pub tree : tree_in Q function item ≡ x
    pub typed : dest_is_typed item ≡ true

  pub item_of : (x : Item) → tree_at Q f i ≡ Some x → ItemOf x
  item_of x e = by (item_at Q f i) refl
    where
      by : (o : Option Instr) → item_at Q f i ≡ o → ItemOf x
      by None none = absurd (let h = sym (nothing_at Q f i none) ∙ e in cc)
      by (Some a) at =
          let h = found_at Q f i a at in
          record { item = a; at = at; function = h.function; there = h.there; tree = same_Some _ _ (sym h.tree ∙ e); typed = typed_destination h.function i a h.here }

  -- a `const` of this name
  pub record ConstAt (name : List ℕ) (ty : Ty) (l : Lit) : Type 0 where
    pub y : ℕ
    pub at : item_at Q f i ≡ Some (Const y ty l)
    pub within : y < length (names_in (slice_get Q.funcs f))
    pub named_so : named (names_in (slice_get Q.funcs f)) y ≡ name

  pub const_at : (name : List ℕ) (ty : Ty) (l : Lit) → tree_at Q f i ≡ Some (item.Const name ty l) → ConstAt name ty l
  const_at name ty l e =
      let h = item_of (item.Const name ty l) e in
      let n = const-numbered (names_of_functions Q.funcs) (variable_names h.function.vars) h.function.labels h.item name ty l h.tree in
      let at : item_at Q f i ≡ Some (Const n.0 ty l) = h.at ∙ ap Some n.1 in
      record {
        y = n.0;
        at = at;
        within = (found Q f i (Const n.0 ty l) at).range.variables.0;
        named_so = subst (λ o. named (names_in o) n.0 ≡ name) (sym h.there) n.2;
      }

  -- a `jmp` to a label of this name
  pub record JumpAt (name : List ℕ) : Type 0 where
    pub l : ℕ
    pub at : item_at Q f i ≡ Some (jump_to l)
    pub function : Func
    pub there : slice_get Q.funcs f ≡ Some function
    pub within : l < length function.labels
    pub named_so : named function.labels l ≡ name

  pub jump_at : (name : List ℕ) → tree_at Q f i ≡ Some (item.Act None op.Jmp [] [] (name ∷ [])) → JumpAt name
  jump_at name e =
      let h = item_of (item.Act None op.Jmp [] [] (name ∷ [])) e in
      let n = jump-numbered (names_of_functions Q.funcs) (variable_names h.function.vars) h.function.labels h.item name h.typed h.tree in
      let at : item_at Q f i ≡ Some (jump_to n.0) = h.at ∙ ap Some n.1 in
      let r = found Q f i (jump_to n.0) at in
      record { l = n.0; at = at; function = h.function; there = h.there; within = subst (λ (G : Func). n.0 < length G.labels) (same_Some _ _ (sym r.there ∙ h.there)) r.range.targets.0; named_so = n.2 }

-- ---- what the pass put in

module _ (P Q : Prog) (T : ℕ → Table) (t : Folded P Q T) (f i : ℕ) where
  -- the `const` of a value, with the name of the destination
  pub const_there : (a : Instr) → item_at P f i ≡ Some a → (x : ℕ) (ty : Ty) (l : Lit) → becomes (T f) i a ≡ Const x ty l → ConstAt Q f i (named (names_in (slice_get P.funcs f)) x) ty l
  const_there a at x ty l is =
      let b = became_at P Q T t f i a at in
      const_at Q f i (named (names_in (slice_get P.funcs f)) x) ty l (b.tree ∙ ap (λ z. Some (tree_in P b.function z)) is ∙ ap (λ o. Some (item.Const (named (names_in o) x) ty l)) (sym b.there))

  pub const_name : (a : Instr) (at : item_at P f i ≡ Some a) (x : ℕ) (ty : Ty) (l : Lit) (is : becomes (T f) i a ≡ Const x ty l) → dest_of a ≡ Some x → SameName (names_in (slice_get P.funcs f)) (names_in (slice_get Q.funcs f)) x (const_there a at x ty l is).y
  const_name a at x ty l is dest = let c = const_there a at x ty l is in (dest-within P f i a at x dest, c.within, sym c.named_so)

  -- the `nop`
  pub nop_there : (a : Instr) → item_at P f i ≡ Some a → becomes (T f) i a ≡ nop → item_at Q f i ≡ Some nop
  nop_there a at is = let b = became_at P Q T t f i a at in nop-at Q f i (b.tree ∙ ap (λ z. Some (tree_in P b.function z)) is)

  -- a label stays
  pub label_kept : (name : List ℕ) → tree_at P f i ≡ Some (item.Label name) → IsKept P Q T t f i
  label_kept name at (Label l) here = same ((T f).reached i)
    where
      same : (b : Bool) → cond b (Label l) (Label l) ≡ Label l
      same true = refl
      same false = refl
  label_kept name at (Const d ty l) here = absurd (let h = sym (found_at P f i (Const d ty l) here).tree ∙ at in cc)
  label_kept name at (Act d ty o args fs ls) here = absurd (let h = sym (found_at P f i (Act d ty o args fs ls) here).tree ∙ at in cc)

module _ (P Q : Prog) (T : ℕ → Table) (t : Folded P Q T) (f : ℕ) where
  -- the `jmp`, to the same point
  pub record JumpThere (i l : ℕ) : Type 0 where
    pub number : ℕ
    pub at : item_at Q f i ≡ Some (jump_to number)
    pub to : point_of l (code_of P f) ≡ point_of number (code_of Q f)

  pub jump_there : (i : ℕ) (d : Option ℕ) (ty : Option Ty) (args fs ls : List ℕ) → item_at P f i ≡ Some (Act d ty op.Br args fs ls) → (l : ℕ) → In l ls → becomes (T f) i (Act d ty op.Br args fs ls) ≡ jump_to l → JumpThere i l
  jump_there i d ty args fs ls at l among is =
      let a = Act d ty op.Br args fs ls in
      let b = became_at P Q T t f i a at in
      let r = found P f i a at in
      let name = named b.function.labels l in
      let j = jump_at Q f i name (b.tree ∙ ap (λ z. Some (tree_in P b.function z)) is) in
      let low : l < length b.function.labels = subst (λ (G : Func). l < length G.labels) (same_Some _ _ (sym r.there ∙ b.there)) (AreBelow-in (length r.function.labels) ls r.range.targets l among) in
      let label : tree_at P f (point_of l (code_of P f)) ≡ Some (item.Label name) = label_found P f b.function l b.there low in
      record {
        number = j.l;
        at = j.at;
        to = label_once Q f (point_of l (code_of P f)) (point_of j.l (code_of Q f)) name
            (sym (kept_tree P Q T t f (point_of l (code_of P f)) (label_kept P Q T t f (point_of l (code_of P f)) name label)) ∙ label)
            (label_found Q f j.function j.l j.there j.within ∙ ap (λ n. Some (item.Label n)) j.named_so);
      }
