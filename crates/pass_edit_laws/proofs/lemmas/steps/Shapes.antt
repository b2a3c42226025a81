-- What is known of an item of an accepted program by its shape.
use Rattle.std.proofs.Common.{◌≡◌, ℕ, zero, suc, ◌<◌, Bool, true, false, List, [], ◌∷◌, length, map, Option, Some, None, refl, sym, ap, subst, ◌∙◌, arith, inl}
use Rattle.std.specs.Prelude.{slice_get, slice_index, is_some}
use Rattle.std.specs.List.{AllZip}
use Rattle.bril_tree.specs.declared.numbered.Instr.{Instr}
use Rattle.bril_tree.specs.declared.numbered.Instr.TheVariants.{Label, Const, Act}
use Rattle.bril_tree.specs.declared.numbered_function.Func.{Func}
use Rattle.bril_tree.specs.declared.operation.Op.TheVariants as op
use Rattle.bril_tree.specs.declared.program.Prog.{Prog}
use Rattle.bril_tree.specs.declared.types.Ty.{Ty}
use Rattle.bril_tree.specs.declared.value.Value.{Value}
use Rattle.bril_tree.specs.Accepted.{IsAccepted}
use Rattle.bril_tree.specs.Outcome.{undefined, shadow_given, Yields, HasEffect, outcome_of}
use Rattle.bril_tree.specs.Shape.{is_shaped, fits_shape, shape_of}
use Rattle.bril_tree.specs.Sites.{AreSitesSound, Opens, item_change, sites_of}
use Rattle.bril_tree.specs.State.{Locals}
use Rattle.bril_tree.specs.Step.{items_of, code_of, item_at}
use Rattle.bril_tree.specs.Typing.{return_type, is_call_shaped, type_fault}
use Rattle.bril_tree.specs.Assigned.{assigns_at}
use Rattle.bril_tree.specs.Edge.{Branch}
use Rattle.bril_tree.specs.Membership.{In}
use Rattle.pass_edit_laws.specs.plan.Plan.{Writes}
use Rattle.bril_tree.proofs.Shapes.{shape-parts, none_assigned}
use Rattle.bril_tree.proofs.Acceptance.{accepted_function, shaped_at, call_at, typed_at}
use Rattle.bril_tree.proofs.Assignments.{site_speculates}

-- ---- lists

pub zip_map-at : {X Y : Type 0} (R : X → Y → Type 0) (f : ℕ → X) (g : ℕ → Y) (xs ys : List ℕ) (k : ℕ) → k < length xs → AllZip R (map f xs) (map g ys) → R (f (slice_index xs k)) (g (slice_index ys k))
zip_map-at R f g [] ys k l h = absurd (omega arith)
zip_map-at R f g (x ∷ xs) [] k l h = absurd h
zip_map-at R f g (x ∷ xs) (y ∷ ys) zero l h = h.0
zip_map-at R f g (x ∷ xs) (y ∷ ys) (suc k) l h = zip_map-at R f g xs ys k (omega arith) h.1

-- ---- shapes

pub record Shaped (P : Prog) (k : ℕ) (item : Instr) : Type 0 where
  pub ret : Bool
  pub returns : ret ≡ is_some (return_type (slice_get P.funcs k))
  pub sound : AreSitesSound (code_of P k)
  pub shaped : is_shaped ret item ≡ true
  pub f : Func
  pub called : is_call_shaped P f item ≡ true
  pub typed : type_fault P f item ≡ None

pub shaped_here : (P : Prog) → IsAccepted P → (k i : ℕ) (item : Instr) → item_at P k i ≡ Some item → Shaped P k item
shaped_here P accepted k i item at = by (slice_get P.funcs k) refl
  where
    by : (o : Option Func) → slice_get P.funcs k ≡ o → Shaped P k item
    by None e = absurd (let f : None ≡ Some item = ap (λ o. slice_get (items_of o) i) (sym e) ∙ at in cc)
    by (Some f) e =
        let here : slice_get f.code i ≡ Some item = ap (λ o. slice_get (items_of o) i) (sym e) ∙ at in
        let facts = accepted_function P k f accepted e in
        record {
          ret = is_some f.ret;
          returns = ap (λ o. is_some (return_type o)) (sym e);
          sound = subst (λ o. AreSitesSound (items_of o)) (sym e) facts.sites;
          shaped = shaped_at P f facts i item here;
          f = f;
          called = call_at P f facts i item here;
          typed = typed_at P f facts i item here;
        }

-- an item that opens a site assigns nothing
pub opens_assigns : (P : Prog) → IsAccepted P → (f i : ℕ) → item_change (item_at P f i) false ≡ Opens → assigns_at (item_at P f i) ≡ []
opens_assigns P accepted f i = by (item_at P f i) refl
  where
    by : (o : Option Instr) → item_at P f i ≡ o → item_change (item_at P f i) false ≡ Opens → assigns_at (item_at P f i) ≡ []
    by None here opens = absurd (let h = ap (λ o. item_change o false) (sym here) ∙ opens in cc)
    by (Some a) here opens =
        let facts = shaped_here P accepted f i a here in
        ap assigns_at here ∙ none_assigned facts.ret a false facts.shaped (λ k. let h = sym k ∙ ap (λ o. item_change o false) (sym here) ∙ opens in cc)

-- and so does an open site
pub site_assigns : (P : Prog) → IsAccepted P → (f : ℕ) (walk : List Branch) (s : ℕ) (sites : List ℕ) → sites_of (code_of P f) walk ≡ s ∷ sites → assigns_at (item_at P f s) ≡ []
site_assigns P accepted f walk s sites e = opens_assigns P accepted f s (site_speculates (code_of P f) walk s (subst (In s) (sym e) (inl refl)))

-- ---- operations that always give a value or a fault

pub get-gives : (p : Locals) (d : Option ℕ) (args fs ls : ℕ) → fits_shape (shape_of true op.Get) (is_some d) args fs ls ≡ true → shadow_given p d ≡ HasEffect → ⊥
get-gives p None args fs ls s e = let h = (shape-parts (shape_of true op.Get) false args fs ls s).dest_is in cc
get-gives p (Some x) args fs ls s e = cc

pub undef-gives : (P : Prog) (f : Func) (d : Option ℕ) (ty : Option Ty) (args fns ls : List ℕ) → fits_shape (shape_of true op.Undef) (is_some d) (length args) (length fns) (length ls) ≡ true → type_fault P f (Act d ty op.Undef args fns ls) ≡ None → undefined ty ≡ HasEffect → ⊥
undef-gives P f None ty args fns ls s t e = let h = (shape-parts (shape_of true op.Undef) false (length args) (length fns) (length ls) s).dest_is in cc
undef-gives P f (Some x) None args fns ls s t e = cc
undef-gives P f (Some x) (Some ty) args fns ls s t e = cc

-- what an item writes is what it gives
pub writes-gives : (a : Instr) (p : Locals) (v u : Value) → outcome_of a p ≡ Yields v → Writes (Some a) p u → v ≡ u
writes-gives (Label l) p v u e h = absurd (cc)
writes-gives (Const d ty w) p v u e h = cc
writes-gives (Act d ty op.Set args fns ls) p v u e h = absurd (cc)
writes-gives (Act d ty _ args fns ls) p v u e h = cc
