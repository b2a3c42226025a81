-- A variable that has a destination left, or is an argument, keeps its type.
use Rattle.std.proofs.Common.{◌≡◌, ◌⊎◌, ℕ, ◌<◌, ◌≤◌, Bool, true, List, length, Option, Some, None, refl, sym, ap, subst, ◌∙◌, inl, inr, ⊎_elim, arith}
use Rattle.std.specs.Prelude.{slice_get, is_some, ◌&&◌}
use Rattle.std.proofs.lemmas.Bool.{and_parts, not-true}
use Rattle.std.proofs.lemmas.Option.{same_Some}
use Rattle.bril_tree.specs.declared.numbered.Instr.{Instr}
use Rattle.bril_tree.specs.declared.numbered.Instr.TheVariants.{Label, Const, Act}
use Rattle.bril_tree.specs.declared.numbered.VarInfo.{VarInfo}
use Rattle.bril_tree.specs.declared.numbered_function.Func.{Func}
use Rattle.bril_tree.specs.declared.operation.Op.TheVariants as op
use Rattle.bril_tree.specs.declared.program.Prog.{Prog}
use Rattle.bril_tree.specs.declared.types.Ty.{Ty}
use Rattle.bril_tree.specs.FunctionForm.{listed, type_assigned}
use Rattle.bril_tree.specs.Numbered.{named, dest_tree, item_tree, names_of_functions, names_in, tree_at}
use Rattle.bril_tree.specs.Operand.{dest_of}
use Rattle.bril_tree.specs.Shape.{is_shaped}
use Rattle.bril_tree.specs.Typing.{variable_type, same_type, both_typed, is_dest_typed, is_action_typed, is_literal_typed, type_fault}
use Rattle.bril_tree.specs.Membership.{In}
use Rattle.bril_names.specs.Range.{IsInRange}
use Rattle.bril_names.proofs.Naming.{AreBelow-append, one_number}
use Rattle.bril_tree.specs.Accepted.{IsAccepted}
use Rattle.bril_tree.specs.Step.{items_of, code_of, item_at}
use Rattle.bril_tree.proofs.Typings.{first_type-is, type_of, both_typed-is, type-assigned, type-assigned_own, some_type, variable-has, typed-unless}
use Rattle.bril_tree.proofs.Trees.{nothing_at}
use Rattle.bril_tree.proofs.Shapes.{no_dest}
use Rattle.bril_tree.proofs.Acceptance.{accepted_function, shaped_at, typed_at}
use Rattle.bril_tree.proofs.Elements.{in_get, get_in, get_inside}
use Rattle.std.proofs.lemmas.List.{length-map}
use Rattle.pass_edit_laws.specs.names.NamedPlan.{SameHeads}
use Rattle.pass_edit_laws.specs.names.Named.{SameName}
use Rattle.pass_edit_laws.specs.acceptance.Stays.{HasTypeOfDest}
use Rattle.pass_edit_laws.proofs.lemmas.names.Items.{SameDest, same_dest}
use Rattle.pass_edit_laws.proofs.lemmas.names.Points.{found, found_under, Differ-in}

-- ---- destinations

-- the type of a destination is that of its variable
pub dest-typed : (P : Prog) (F : Func) (ret : Bool) (a : Instr) (x : ℕ) (t : Ty) → is_shaped ret a ≡ true → type_fault P F a ≡ None → dest_of a ≡ Some x → type_of a ≡ Some t → variable_type F.vars x ≡ Some t
dest-typed P F ret (Label l) x t s f d e = absurd cc
dest-typed P F ret (Const y ty v) x t s f d e = both_typed-is t (variable_type F.vars x) (subst (λ u. both_typed same_type u (variable_type F.vars x) ≡ true) e (subst (λ n. is_dest_typed P F n (Some ty) ≡ true) d (and_parts (is_dest_typed P F (Some y) (Some ty)) (is_literal_typed v ty) (typed-unless (is_dest_typed P F (Some y) (Some ty) && is_literal_typed v ty) f)).0))
dest-typed P F ret (Act y ty op.Print args fns ls) x t s f d e = absurd (let n = no_dest y (not-true _ (and_parts _ _ (and_parts _ _ s).0).0) in let h = sym n ∙ d in cc)
dest-typed P F ret (Act y ty o args fns ls) x t s f d e = both_typed-is t (variable_type F.vars x) (subst (λ u. both_typed same_type u (variable_type F.vars x) ≡ true) e (subst (λ n. is_dest_typed P F n ty ≡ true) d (and_parts (is_dest_typed P F y ty) (is_action_typed P F o ty args fns) (typed-unless (is_dest_typed P F y ty && is_action_typed P F o ty args fns) f)).0))

pub record SameDestination (V W : List (List ℕ)) (a b : Instr) (y : ℕ) : Type 0 where
  pub x : ℕ
  pub is : dest_of a ≡ Some x
  pub name : SameName V W x y
  pub ty : type_of a ≡ type_of b

module _ (fs V W lP lQ : List (List ℕ)) where
  act-dest : (d e : Option ℕ) (s t : Option Ty) (y : ℕ) → e ≡ Some y → SameDest V W d e s t → (a b : Instr) → dest_of a ≡ d → type_of a ≡ s → type_of b ≡ t → SameDestination V W a b y
  act-dest None None s t y ey h a b da sa tb = absurd cc
  act-dest None (Some z) s t y ey h a b da sa tb = absurd (h.zip)
  act-dest (Some x) None s t y ey h a b da sa tb = absurd cc
  act-dest (Some x) (Some z) s t y ey h a b da sa tb =
      let e : z ≡ y = cc in
      record { x = x; is = da; name = subst (SameName V W x) e h.zip.0; ty = sa ∙ h.ty ∙ sym tb }

  pub same_destination : (a b : Instr) → item_tree fs V lP a ≡ item_tree fs W lQ b → IsInRange (length fs) (length V) (length lP) a → IsInRange (length fs) (length W) (length lQ) b → (y : ℕ) → dest_of b ≡ Some y → SameDestination V W a b y
  same_destination a (Label k) e ra rb y d = absurd cc
  same_destination (Label l) (Const z t w) e ra rb y d = absurd cc
  same_destination (Label l) (Act z t o result_args gns ms) e ra rb y d = absurd cc
  same_destination (Const x s v) (Const z t w) e ra rb y d =
      let n : named V x ≡ named W z = cc in
      let u : s ≡ t = cc in
      let zy : z ≡ y = cc in
      record { x = x; is = refl; name = subst (SameName V W x) zy (ra.variables.0, rb.variables.0, n); ty = ap Some u }
  same_destination (Const x s v) (Act z t o result_args gns ms) e ra rb y d = absurd cc
  same_destination (Act x s o args fns ls) (Const z t w) e ra rb y d = absurd cc
  same_destination (Act x s o args fns ls) (Act z t u result_args gns ms) e ra rb y d =
      let ed : dest_tree V x s ≡ dest_tree W z t = cc in
      let va = AreBelow-append (length V) (listed x) args ra.variables in
      let vb = AreBelow-append (length W) (listed z) result_args rb.variables in
      act-dest x z s t y d (same_dest V W x z s t ed ra.typed rb.typed va.0 vb.0) (Act x s o args fns ls) (Act z t u result_args gns ms) refl refl refl

-- what acceptance says of an item
fitted : (P : Prog) → IsAccepted P → (f i : ℕ) (a : Instr) → item_at P f i ≡ Some a → (F : Func) → slice_get P.funcs f ≡ Some F → (ret : Bool) × (is_shaped ret a ≡ true) × (type_fault P F a ≡ None)
fitted P accepted f i a at F p =
    let here : slice_get F.code i ≡ Some a = ap (λ o. slice_get (items_of o) i) (sym p) ∙ at in
    let facts = accepted_function P f F accepted p in
    (is_some F.ret, shaped_at P F facts i a here, typed_at P F facts i a here)

-- an item of P, by its tree, assigns a variable of the same name with the same type
pub dest_of_tree : (P Q : Prog) (heads : SameHeads P Q) (f x y : ℕ) → SameName (names_in (slice_get P.funcs f)) (names_in (slice_get Q.funcs f)) x y → (i j : ℕ) (b : Instr) → item_at Q f j ≡ Some b → dest_of b ≡ Some y → tree_at Q f j ≡ tree_at P f i → HasTypeOfDest P f x b
dest_of_tree P Q heads f x y name i j b at d e = by (item_at P f i) refl
  where
    by : (o : Option Instr) → item_at P f i ≡ o → HasTypeOfDest P f x b
    by None none = absurd (let h = sym (nothing_at P f i none) ∙ sym e ∙ (found Q f j b at).tree in cc)
    by (Some a) here =
        let fa = found P f i a here in
        let fb = found Q f j b at in
        let fs = names_of_functions P.funcs in
        let under = found_under fs Q heads.names f j b fb in
        let same = same_Some _ _ (sym fa.tree ∙ sym e ∙ under.tree) in
        let s = same_destination fs (names_in (slice_get P.funcs f)) (names_in (slice_get Q.funcs f)) fa.function.labels fb.function.labels a b same fa.range under.range y d in
        let one : s.x ≡ x = one_number (names_in (slice_get P.funcs f)) (Differ-in (slice_get P.funcs f)) s.x x s.name.0 name.0 (s.name.2 ∙ sym name.2) in
        record { i = i; item = a; at = here; dest = s.is ∙ ap Some one; ty = sym s.ty }

module _ (P Q : Prog) (accepted : IsAccepted P) (heads : SameHeads P Q) (f : ℕ) (F G : Func) (p : slice_get P.funcs f ≡ Some F) (q : slice_get Q.funcs f ≡ Some G)
    (x y : ℕ) (name : SameName (names_in (slice_get P.funcs f)) (names_in (slice_get Q.funcs f)) x y)
    -- each item of the result that has this destination gives it a type that it had
    (source : (j : ℕ) (b : Instr) → item_at Q f j ≡ Some b → dest_of b ≡ Some y → HasTypeOfDest P f x b) where
  -- a destination of the new variable has the old one's type
  dest-stays : (j : ℕ) (b : Instr) → item_at Q f j ≡ Some b → dest_of b ≡ Some y → type_of b ≡ variable_type F.vars x
  dest-stays j b at d =
      let s = source j b at d in
      let t = some_type b y (found Q f j b at).range.typed d in
      let fit = fitted P accepted f s.i s.item s.at F p in
      t.1 ∙ sym (dest-typed P F fit.0 s.item x t.0 fit.1 fit.2 s.dest (sym s.ty ∙ t.1))

  -- a variable with a destination left keeps its type
  pub variable-stays : G.args ≤ y → (j : ℕ) (b : Instr) → item_at Q f j ≡ Some b → dest_of b ≡ Some y → variable_type G.vars y ≡ variable_type F.vars x
  variable-stays past j b at d =
      let code : code_of Q f ≡ G.code = ap items_of q in
      let here : slice_get G.code j ≡ Some b = ap (λ c. slice_get c j) (sym code) ∙ at in
      let t = some_type b y (found Q f j b at).range.typed d in
      let stays = dest-stays j b at d in
      let all : (c : Instr) → In c G.code → (type_assigned y c ≡ None) ⊎ (type_assigned y c ≡ Some t.0) =
      λ c i.
      let k = in_get c G.code i in
      let there : item_at Q f k.0 ≡ Some c = ap (λ l. slice_get l k.0) code ∙ k.1 in
      ⊎_elim (λ h. inr (h.1 ∙ dest-stays k.0 c there h.0 ∙ sym stays ∙ t.1)) inl (type-assigned y c) in
      let first = first_type-is y t.0 G.code all b (get_in G.code j b here) (type-assigned_own y b d ∙ t.1) in
      let less : y < length G.vars = (let n = ap (λ o. length (names_in o)) q in let l = length-map G.vars (λ (v : VarInfo). v.name) in let h = name.1 in omega arith) in
      let v = get_inside G.vars y less in
      variable-has G.vars y v.0 v.1 ∙ G.formed.types y v.0 past v.1 ∙ first ∙ sym t.1 ∙ stays
