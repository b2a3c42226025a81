-- The types of the result's variables: those that have names of the program's keep theirs, and what stands for a shadow has
-- that of the shadow's variable.
use Rattle.std.proofs.Common.{◌≡◌, ◌⊎◌, ℕ, ◌<◌, ◌≤◌, List, [], length, Option, Some, None, refl, sym, ap, subst, ◌∙◌, inl, inr, ⊎_elim, arith}
use Rattle.std.specs.Prelude.{slice_get}
use Rattle.std.proofs.lemmas.Bool.{cases_lt}
use Rattle.std.proofs.lemmas.Option.{same_Some}
use Rattle.bril_tree.specs.declared.numbered.Instr.{Instr}
use Rattle.bril_tree.specs.declared.numbered_function.Func.{Func}
use Rattle.bril_tree.specs.declared.operation.Op.TheVariants as op
use Rattle.bril_tree.specs.declared.program.Prog.{Prog}
use Rattle.bril_tree.specs.declared.types.Ty.{Ty}
use Rattle.bril_tree.specs.Accepted.{IsAccepted}
use Rattle.bril_tree.specs.FunctionForm.{type_assigned}
use Rattle.bril_tree.specs.Membership.{In}
use Rattle.bril_tree.specs.Numbered.{named, names_in, names_of_functions, nop, variable_names}
use Rattle.bril_tree.specs.Operand.{dest_of}
use Rattle.bril_tree.specs.Step.{item_at}
use Rattle.bril_tree.specs.Typing.{variable_type}
use Rattle.bril_tree.proofs.Elements.{get_in, get_inside, in_get}
use Rattle.bril_tree.proofs.Formed.{variable_below}
use Rattle.bril_tree.proofs.Trees.{nop-at, nothing_at}
use Rattle.bril_tree.proofs.Typings.{IsDestination, first_type-is, type-assigned, type-assigned_own, type_of, variable-has}
use Rattle.bril_names.proofs.Functions.{Differ-variables}
use Rattle.bril_names.proofs.Naming.{one_number}
use Rattle.pass_edit_laws.specs.names.Named.{SameName}
use Rattle.pass_edit_laws.proofs.lemmas.names.Heads.{first_names, same_args}
use Rattle.pass_edit_laws.proofs.lemmas.names.Points.{found, found_under}
use Rattle.pass_edit_laws.proofs.lemmas.acceptance.Left.{dest-there}
use Rattle.pass_edit_laws.proofs.lemmas.acceptance.Staying.{same_destination}
use Rattle.ssa_exit.proofs.Items.{at-point, copy_there, gives_there, in-code, in-names, is-name, names-long}
use Rattle.ssa_exit.proofs.Points.{Unssaed, Kind, Stays, Gets, Sets, kind, kept, new-name, Got, Copied, Undefined, got, Put, Given, Gone, put}

module _ (P Q : Prog) (fresh : ℕ → ℕ → List ℕ) (accepted : IsAccepted P) (t : Unssaed P Q fresh) (f : ℕ) (F G : Func) (p : slice_get P.funcs f ≡ Some F) (q : slice_get Q.funcs f ≡ Some G) where
  abbrev V : List (List ℕ)
  V = variable_names F.vars

  abbrev W : List (List ℕ)
  W = variable_names G.vars

  -- ---- destinations

  -- a destination of the program is one of the result
  pub dest-stays : (i : ℕ) (a : Instr) → item_at P f i ≡ Some a → (x y : ℕ) → SameName V W x y → dest_of a ≡ Some x → IsDestination G.code y
  dest-stays i a at x y name dest = by (kind P accepted f i)
    where
      -- the item of the result gives the variable of this name a value
      gives : (z d : ℕ) (b : Instr) → item_at Q f i ≡ Some b → dest_of b ≡ Some d → d < length W → named W d ≡ named V z → z ≡ x → IsDestination G.code y
      gives z d b bt db low is same =
          let one : d ≡ y = one_number W (Differ-variables G) d y low name.1 (is ∙ ap (named V) same ∙ name.2) in
          record { point = i; item = b; at = in-code Q f G q i b bt; dest = db ∙ ap Some one }

      by : Kind (item_at P f i) → IsDestination G.code y
      by (Stays e) = dest-there P Q t.heads f F G p q x y name i a at dest i (sym (kept P Q fresh t f i e))
      by (Gets z ty args fns ls here) = of (got P Q fresh t f F p i z ty args fns ls here)
        where
          same : z ≡ x
          same = let e : Some z ≡ Some x = sym (ap dest_of (same_Some a _ (sym at ∙ here))) ∙ dest in same_Some z x e

          of : Got P Q fresh t f F p i z ty → IsDestination G.code y
          of (Copied w tree) = let c = copy_there Q f i (named V z) ty (fresh f z) tree in gives z c.dest _ c.at refl (in-names Q f G q c.dest c.dest_in) (is-name Q f G q c.dest _ c.dest_is) same
          of (Undefined w tree) = let c = gives_there Q f i (named V z) ty op.Undef [] tree in gives z c.dest _ c.at refl (in-names Q f G q c.dest c.dest_in) (is-name Q f G q c.dest _ c.dest_is) same
      by (Sets ty z y fns ls here) = absurd (let e : None ≡ Some x = sym (ap dest_of (same_Some a _ (sym at ∙ here))) ∙ dest in cc)

  -- ---- what stands for a shadow

  module _ (x d : ℕ) (low : x < length F.vars) (inside : d < length G.vars) (stands : named W d ≡ fresh f x) where
    in-v : x < length V
    in-v = omega (arith, names-long P f F p)

    -- it is no variable of a name of the program
    other-name : (z : ℕ) → z < length V → named V z ≡ named W d → ⊥
    other-name z high e = new-name P Q fresh t f F p x z in-v high (sym stands ∙ sym e)

    -- each item that gives it a value is a copy of the type of the shadow's variable
    pub dest-typed_so : (ty : Ty) → variable_type F.vars x ≡ Some ty → (j : ℕ) (b : Instr) → item_at Q f j ≡ Some b → dest_of b ≡ Some d → type_of b ≡ Some ty
    dest-typed_so ty typed j b bt db = by (kind P accepted f j)
      where
        same-item : (c : Instr) → item_at Q f j ≡ Some c → c ≡ b
        same-item c at = same_Some c b (sym at ∙ bt)

        -- the item has another name
        other : (e z : ℕ) (c : Instr) → item_at Q f j ≡ Some c → dest_of c ≡ Some e → named W e ≡ named V z → z < length V → type_of b ≡ Some ty
        other e z c at dc is high =
            let same : e ≡ d = same_Some e d (sym dc ∙ ap dest_of (same-item c at) ∙ db) in
            absurd (other-name z high (sym is ∙ ap (named W) same))

        by : Kind (item_at P f j) → type_of b ≡ Some ty
        by (Stays e) = of (item_at P f j) refl
          where
            of : (o : Option Instr) → item_at P f j ≡ o → type_of b ≡ Some ty
            of None at = absurd (let h = sym (nothing_at P f j at) ∙ kept P Q fresh t f j e ∙ (found Q f j b bt).tree in cc)
            of (Some a) at =
                let fa = found P f j a at in
                let fb = found Q f j b bt in
                let fs = names_of_functions P.funcs in
                let under = found_under fs Q t.heads.names f j b fb in
                let same = same_Some _ _ (sym fa.tree ∙ kept P Q fresh t f j e ∙ under.tree) in
                let s = same_destination fs (names_in (slice_get P.funcs f)) (names_in (slice_get Q.funcs f)) fa.function.labels fb.function.labels a b same fa.range under.range d db in
                absurd (other-name s.x (subst (λ o. s.x < length (names_in o)) p s.name.0) (ap (λ o. named (names_in o) s.x) (sym p) ∙ s.name.2 ∙ ap (λ o. named (names_in o) d) q))
        by (Gets z zty args fns ls here) = of (got P Q fresh t f F p j z zty args fns ls here)
          where
            high : z < length V
            high = let l = variable_below F j _ (in-code P f F p j _ here) z (inl refl) in omega (arith, names-long P f F p)

            of : Got P Q fresh t f F p j z zty → type_of b ≡ Some ty
            of (Copied w tree) = let c = copy_there Q f j (named V z) zty (fresh f z) tree in other c.dest z _ c.at refl (is-name Q f G q c.dest _ c.dest_is) high
            of (Undefined w tree) = let c = gives_there Q f j (named V z) zty op.Undef [] tree in other c.dest z _ c.at refl (is-name Q f G q c.dest _ c.dest_is) high
        by (Sets sty z y fns ls here) = of (put P Q fresh t f F p j sty z y fns ls here)
          where
            of : Put P Q fresh t f F p j z y → type_of b ≡ Some ty
            of (Given s written tree) =
                let c = copy_there Q f j (fresh f z) s (named V y) tree in
                let same : c.dest ≡ d = same_Some c.dest d (ap dest_of (same-item _ c.at) ∙ db) in
                let l = variable_below F j _ (in-code P f F p j _ here) z (inl refl) in
                let one : z ≡ x = (t.are f F p).differ z x (omega (arith, names-long P f F p)) in-v (sym (is-name Q f G q c.dest _ c.dest_is) ∙ ap (named W) same ∙ stands) in
                ap type_of (sym (same-item _ c.at)) ∙ sym written ∙ ap (variable_type F.vars) one ∙ typed
            of (Gone none tree) = absurd (let e : None ≡ Some d = ap dest_of (same-item nop (nop-at Q f j tree)) ∙ db in cc)

    -- it has the type of the shadow's variable
    pub stands-typed : (ty : Ty) → variable_type F.vars x ≡ Some ty → IsDestination G.code d → variable_type G.vars d ≡ Some ty
    stands-typed ty typed some = ⊎_elim argument later (cases_lt d G.args)
      where
        argument : d < G.args → variable_type G.vars d ≡ Some ty
        argument less =
            let both = (same_args P Q t.heads f F G p q).count in
            let few = F.formed.few_args in
            absurd (other-name d (omega (arith, names-long P f F p, both)) (first_names P Q t.heads f F G p q d (omega (arith, both))))

        each : (b : Instr) → In b G.code → (type_assigned d b ≡ None) ⊎ (type_assigned d b ≡ Some ty)
        each b among =
            let k = in_get b G.code among in
            ⊎_elim (λ h. inr (h.1 ∙ dest-typed_so ty typed k.0 b (at-point Q f G q k.0 b k.1) h.0)) inl (type-assigned d b)

        later : G.args ≤ d → variable_type G.vars d ≡ Some ty
        later above =
            let v = get_inside G.vars d inside in
            variable-has G.vars d v.0 v.1 ∙ G.formed.types d v.0 above v.1
            ∙ first_type-is d ty G.code each some.item (get_in G.code some.point some.item some.at)
            (type-assigned_own d some.item some.dest ∙ dest-typed_so ty typed some.point some.item (at-point Q f G q some.point some.item some.at) some.dest)
