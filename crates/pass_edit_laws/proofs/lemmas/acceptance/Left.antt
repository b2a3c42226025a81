-- A variable that is an argument, or has a destination left, keeps its type; so does one that lost none.
use Rattle.std.proofs.Common.{◌≡◌, ◌⊎◌, ℕ, ◌<◌, length, Option, Some, None, refl, sym, ap, ◌∙◌, inl, inr, ⊎_elim, arith}
use Rattle.std.specs.Prelude.{slice_get}
use Rattle.std.proofs.lemmas.Bool.{cases_lt}
use Rattle.std.proofs.lemmas.List.{length-map}
use Rattle.std.proofs.lemmas.Option.{same_Some}
use Rattle.bril_tree.specs.declared.numbered.Instr.{Instr}
use Rattle.bril_tree.specs.declared.numbered.VarInfo.{VarInfo}
use Rattle.bril_tree.specs.declared.numbered_function.Func.{Func}
use Rattle.bril_tree.specs.declared.program.Prog.{Prog}
use Rattle.bril_tree.specs.Accepted.{IsAccepted}
use Rattle.bril_tree.specs.Numbered.{variable_names, names_of_functions, names_in, tree_at}
use Rattle.bril_tree.specs.Operand.{dest_of}
use Rattle.bril_tree.specs.Step.{items_of, item_at}
use Rattle.bril_tree.specs.Typing.{variable_type}
use Rattle.bril_tree.proofs.Typings.{IsDestination, typed_by}
use Rattle.bril_tree.proofs.Trees.{nothing_at}
use Rattle.pass_edit_laws.specs.names.Named.{SameName}
use Rattle.pass_edit_laws.specs.names.NamedPlan.{SameHeads}
use Rattle.pass_edit_laws.proofs.lemmas.names.Points.{found, found_under, Differ-in, same_name-in}
use Rattle.bril_names.proofs.Naming.{one_number}
use Rattle.pass_edit_laws.proofs.lemmas.acceptance.Staying.{same_destination, variable-stays}
use Rattle.pass_edit_laws.specs.acceptance.Stays.{HasTypeOfDest}
use Rattle.pass_edit_laws.proofs.lemmas.names.Heads.{argument-stays}
use Rattle.pass_edit_laws.proofs.lemmas.acceptance.Heads.{argument-typed}

module _ (P Q : Prog) (heads : SameHeads P Q) (f : ℕ) (F G : Func) (p : slice_get P.funcs f ≡ Some F) (q : slice_get Q.funcs f ≡ Some G) (x y : ℕ) (name : SameName (variable_names F.vars) (variable_names G.vars) x y) where
  in_names : SameName (names_in (slice_get P.funcs f)) (names_in (slice_get Q.funcs f)) x y
  in_names = same_name-in P Q f F G p q x y name

  -- a destination of the old variable that stands in the new function is one of the new variable
  pub dest-there : (i : ℕ) (a : Instr) → item_at P f i ≡ Some a → dest_of a ≡ Some x → (j : ℕ) → tree_at Q f j ≡ tree_at P f i → IsDestination G.code y
  dest-there i a at d j e = by (item_at Q f j) refl
    where
      by : (o : Option Instr) → item_at Q f j ≡ o → IsDestination G.code y
      by None none = absurd (let h = sym (nothing_at Q f j none) ∙ e ∙ (found P f i a at).tree in cc)
      by (Some b) here =
          let fa = found P f i a at in
          let fb = found Q f j b here in
          let fs = names_of_functions P.funcs in
          let V = names_in (slice_get P.funcs f) in
          let W = names_in (slice_get Q.funcs f) in
          let under = found_under fs Q heads.names f j b fb in
          let same = same_Some _ _ (sym under.tree ∙ e ∙ fa.tree) in
          let s = same_destination fs W V fb.function.labels fa.function.labels b a same under.range fa.range x d in
          record { point = j; item = b; at = ap (λ o. slice_get (items_of o) j) (sym q) ∙ here; dest = s.is ∙ ap Some (one s.x s.name) }
        where
          one : (z : ℕ) → SameName (names_in (slice_get Q.funcs f)) (names_in (slice_get P.funcs f)) z x → z ≡ y
          one z n = one_number (names_in (slice_get Q.funcs f)) (Differ-in (slice_get Q.funcs f)) z y n.0 in_names.1 (n.2 ∙ in_names.2)

module _ (P Q : Prog) (accepted : IsAccepted P) (heads : SameHeads P Q) (f : ℕ) (F G : Func) (p : slice_get P.funcs f ≡ Some F) (q : slice_get Q.funcs f ≡ Some G)
    (x y : ℕ) (name : SameName (variable_names F.vars) (variable_names G.vars) x y)
    (source : (j : ℕ) (b : Instr) → item_at Q f j ≡ Some b → dest_of b ≡ Some y → HasTypeOfDest P f x b) where
  in_vars : y < length G.vars
  in_vars = let size = length-map G.vars (λ (v : VarInfo). v.name) in let h = name.1 in omega arith

  was_vars : x < length F.vars
  was_vars = let size = length-map F.vars (λ (v : VarInfo). v.name) in let h = name.0 in omega arith

  -- an argument, or a variable with a destination left, keeps its type
  pub left-typed : (y < G.args) ⊎ IsDestination G.code y → variable_type F.vars x ≡ variable_type G.vars y
  left-typed (inl less) = argument-typed P Q heads f F G p q x y name less
  left-typed (inr d) = ⊎_elim (λ less. argument-typed P Q heads f F G p q x y name less) (λ high. sym (variable-stays P Q accepted heads f F G p q x y (same_name-in P Q f F G p q x y name) source high d.point d.item (ap (λ o. slice_get (items_of o) d.point) q ∙ d.at) d.dest)) (cases_lt y G.args)

  -- it keeps it, or has none any more
  pub name-typed : (variable_type G.vars y ≡ None) ⊎ (variable_type F.vars x ≡ variable_type G.vars y)
  name-typed = ⊎_elim (λ l. inr (left-typed (inl l))) (λ r. ⊎_elim (λ d. inr (left-typed (inr d))) inl r) (typed_by G y in_vars)

  -- a variable that lost no destination keeps its type
  pub unlost-typed : ((i : ℕ) (a : Instr) → item_at P f i ≡ Some a → dest_of a ≡ Some x → IsDestination G.code y) → variable_type F.vars x ≡ variable_type G.vars y
  unlost-typed unlost = ⊎_elim (λ l. left-typed (inl l)) (λ r. ⊎_elim (λ d. left-typed (inr d)) none r) (typed_by G y in_vars)
    where
      none : variable_type G.vars y ≡ None → variable_type F.vars x ≡ variable_type G.vars y
      none n = ⊎_elim (λ l. left-typed (inl (argument-stays P Q heads f F G p q x y name l))) (λ r. ⊎_elim dest (λ k. k ∙ sym n) r) (typed_by F x was_vars)
        where
          dest : IsDestination F.code x → variable_type F.vars x ≡ variable_type G.vars y
          dest d =
              let at : item_at P f d.point ≡ Some d.item = ap (λ o. slice_get (items_of o) d.point) p ∙ d.at in
              left-typed (inr (unlost d.point d.item at d.dest))
