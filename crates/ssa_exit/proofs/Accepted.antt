-- A program whose shadows became variables is accepted.
use Rattle.std.proofs.Common.{◌≡◌, ◌⊎◌, ℕ, ◌<◌, true, false, ◌&&◌, List, [], ◌∷◌, length, Option, Some, None, refl, sym, ap, subst, ◌∙◌, inl, inr, ⊎_elim, arith}
use Rattle.std.specs.Prelude.{slice_get, ◌==◌}
use Rattle.std.proofs.lemmas.Bool.{eq-eqb, eqb-true, and_from}
use Rattle.std.proofs.lemmas.List.Elements.{Contains-get_or}
use Rattle.std.proofs.lemmas.List.Folds.{Any-from_list_any}
use Rattle.std.proofs.lemmas.Option.{same_Some}
use Rattle.bril_tree.specs.declared.numbered.Instr.{Instr}
use Rattle.bril_tree.specs.declared.numbered.Instr.TheVariants.{Label, Const, Act}
use Rattle.bril_tree.specs.declared.numbered_function.Func.{Func}
use Rattle.bril_tree.specs.declared.operation.Op.TheVariants as op
use Rattle.bril_tree.specs.declared.program.Prog.{Prog}
use Rattle.bril_tree.specs.declared.types.Base.{Base}
use Rattle.bril_tree.specs.declared.types.Base.TheVariants as base
use Rattle.bril_tree.specs.declared.types.Ty.{Ty}
use Rattle.bril_tree.specs.Accepted.{IsAccepted}
use Rattle.bril_tree.specs.Membership.{In}
use Rattle.bril_tree.specs.Numbered.{named, nop, variable_names}
use Rattle.bril_tree.specs.Operand.{dest_of}
use Rattle.bril_tree.specs.Step.{item_at}
use Rattle.bril_tree.specs.Typing.{both_typed, same_base, same_type, variable_type, wrong_unless}
use Rattle.bril_tree.proofs.Elements.{in_get}
use Rattle.bril_tree.proofs.Formed.{variable_below}
use Rattle.bril_tree.proofs.Members.{in_contains}
use Rattle.bril_tree.proofs.Trees.{none_from, nop-at}
use Rattle.bril_tree.proofs.Typings.{IsDestination, type_of, typed_by}
use Rattle.bril_names.proofs.Functions.{Differ-variables}
use Rattle.bril_names.proofs.Naming.{one_number}
use Rattle.pass_edit_laws.specs.names.Named.{SameName}
use Rattle.pass_edit_laws.proofs.lemmas.names.Heads.{argument-stays}
use Rattle.pass_edit_laws.specs.acceptance.Edited.{Edits, IsNew, IsOld, KeepsTypes}
use Rattle.pass_edit_laws.specs.acceptance.Stays.{FitsByItself}
use Rattle.pass_edit_laws.proofs.lemmas.acceptance.Edited.{edit_accepted, nop-new}
use Rattle.ssa_exit.specs.Unssaed.{is_written, names_a_shadow, writes_shadow}
use Rattle.ssa_exit.proofs.Items.{CopyThere, at-point, copy_there, gives_there, in-code, in-names, is-name, names-long}
use Rattle.ssa_exit.proofs.Points.{Unssaed, Kind, Stays, Gets, Sets, kind, kept, new-name, Got, Copied, Undefined, got, Put, Given, Gone, put}
use Rattle.ssa_exit.proofs.Refines.{preserves, unssa_plan}
use Rattle.ssa_exit.proofs.Types.{dest-stays, stands-typed}
use Rattle.ssa_exit.proofs.Variables.{get-typed, set-typed}
use Rattle.ssa_exit.proofs.Walks.{walks}

-- ---- types

same_base-own : (b : Base) → same_base b b ≡ true
same_base-own base.Int = refl
same_base-own base.Bool = refl
same_base-own base.Char = refl

same_type-own : (t : Ty) → same_type t t ≡ true
same_type-own t = and_from (t.depth == t.depth) (same_base t.base t.base) (eq-eqb t.depth t.depth refl) (same_base-own t.base)

-- a copy between variables of its type meets its row
copy-fits : (Q : Prog) (G : Func) (d s : ℕ) (ty : Ty) → variable_type G.vars d ≡ Some ty → variable_type G.vars s ≡ Some ty → FitsByItself Q G (Act (Some d) (Some ty) op.Id (s ∷ []) [] [])
copy-fits Q G d s ty dt st = record { shaped = refl; calls = refl; typed = by (variable_type G.vars d) (variable_type G.vars s) dt st }
  where
    by : (u v : Option Ty) → u ≡ Some ty → v ≡ Some ty → wrong_unless (both_typed same_type (Some ty) u && both_typed same_type v (Some ty)) ≡ None
    by u v e h =
        ap (λ z. wrong_unless (both_typed same_type (Some ty) z && both_typed same_type v (Some ty))) e ∙ ap (λ z. wrong_unless (same_type ty ty && both_typed same_type z (Some ty))) h
        ∙ ap (λ b. wrong_unless (b && b)) (same_type-own ty)

-- so does a variable of its type that gets some value
undef-fits : (Q : Prog) (G : Func) (d : ℕ) (ty : Ty) → variable_type G.vars d ≡ Some ty → FitsByItself Q G (Act (Some d) (Some ty) op.Undef [] [] [])
undef-fits Q G d ty dt = record {
  shaped = refl;
  calls = refl;
  typed = ap (λ z. wrong_unless (both_typed same_type (Some ty) z && true)) dt ∙ ap (λ b. wrong_unless (b && true)) (same_type-own ty);
}

-- ---- items

module _ (P Q : Prog) (fresh : ℕ → ℕ → List ℕ) (accepted : IsAccepted P) (t : Unssaed P Q fresh) (f : ℕ) (F G : Func) (p : slice_get P.funcs f ≡ Some F) (q : slice_get Q.funcs f ≡ Some G) where
  abbrev V : List (List ℕ)
  V = variable_names F.vars

  abbrev W : List (List ℕ)
  W = variable_names G.vars

  -- a `set` of the shadow of a variable with a type became a copy to what stands for it
  written-dest : (x : ℕ) (ty : Ty) → is_written F.code x ≡ true → variable_type F.vars x ≡ Some ty → (d : ℕ) → d < length W → named W d ≡ fresh f x → IsDestination G.code d
  written-dest x ty w typed d inside stands =
      let s = Any-from_list_any (writes_shadow x) F.code w in
      let k = in_get s.1 F.code (subst (λ b. In b F.code) s.3 (in_contains _ F.code (Contains-get_or F.code s.0 s.1 s.2))) in
      of k.0 s.1 k.1 s.4 (kind P accepted f k.0)
    where
      of : (j : ℕ) (a : Instr) → slice_get F.code j ≡ Some a → writes_shadow x a ≡ true → Kind (item_at P f j) → IsDestination G.code d
      of j a here sets (Stays e) = absurd (stays a sets (ap names_a_shadow (sym (at-point P f F p j a here)) ∙ e))
        where
          stays : (a : Instr) → writes_shadow x a ≡ true → names_a_shadow (Some a) ≡ false → ⊥
          stays (Label l) w n = cc
          stays (Const d ty v) w n = cc
          stays (Act d ty op.Set args fns ls) w n = cc
          stays (Act d ty _ args fns ls) w n = cc
      of j a here sets (Gets z zty args fns ls at) = absurd (let e = ap (writes_shadow x) (same_Some a _ (sym (at-point P f F p j a here) ∙ at)) in let h = sym sets ∙ e in cc)
      of j a here sets (Sets sty z y fns ls at) = by (put P Q fresh t f F p j sty z y fns ls at)
        where
          one : x ≡ z
          one = eqb-true x z (sym (ap (writes_shadow x) (same_Some a _ (sym (at-point P f F p j a here) ∙ at))) ∙ sets)

          by : Put P Q fresh t f F p j z y → IsDestination G.code d
          by (Given s given tree) =
              let c = copy_there Q f j (fresh f z) s (named V y) tree in
              let same : c.dest ≡ d = one_number W (Differ-variables G) c.dest d (in-names Q f G q c.dest c.dest_in) inside (is-name Q f G q c.dest _ c.dest_is ∙ ap (fresh f) (sym one) ∙ sym stands) in
              record { point = j; item = _; at = in-code Q f G q j _ c.at; dest = ap Some same }
          by (Gone none tree) = absurd (let e : Some ty ≡ None = sym typed ∙ ap (variable_type F.vars) one ∙ none in cc)

  -- an item that gives a variable of the program a value, of its type
  gives-new : (i x d : ℕ) (ty : Ty) (a b : Instr) → item_at P f i ≡ Some a → dest_of a ≡ Some x → type_of a ≡ Some ty → dest_of b ≡ Some d → type_of b ≡ Some ty → d < length W → named W d ≡ named V x → x < length V
      → (KeepsTypes F G → variable_type G.vars d ≡ Some ty → FitsByItself Q G b) → variable_type F.vars x ≡ Some ty → slice_get G.code i ≡ Some b → IsNew P Q f F G b
  gives-new i x d ty a b at da ta db tb inside is low fits typed here = record {
    dest = λ z y name dy.
        let same : d ≡ y = same_Some d y (sym db ∙ dy) in
        let one : x ≡ z = one_number V (Differ-variables F) x z low name.0 (sym is ∙ ap (named W) same ∙ sym name.2) in
        record { i = i; item = a; at = at; dest = da ∙ ap Some one; ty = tb ∙ sym ta };
    fits = λ keeps. fits keeps (sym (keeps x d (low, inside, sym is) (inr (record { point = i; item = b; at = here; dest = db }))) ∙ typed);
  }

  items : (j : ℕ) (b : Instr) → item_at Q f j ≡ Some b → IsNew P Q f F G b ⊎ IsOld P Q f F G j b
  items j b bt = by (kind P accepted f j)
    where
      is-b : (c : Instr) → item_at Q f j ≡ Some c → c ≡ b
      is-b c at = same_Some c b (sym at ∙ bt)

      by : Kind (item_at P f j) → IsNew P Q f F G b ⊎ IsOld P Q f F G j b
      by (Stays e) = inr (record {
        i = j;
        tree = sym (kept P Q fresh t f j e);
        stays = inr (λ x y name among i a at dest. dest-stays P Q fresh accepted t f F G p q i a at x y name dest);
      })
      by (Gets x ty args fns ls at) = inl (of (got P Q fresh t f F p j x ty args fns ls at))
        where
          a : Instr
          a = Act (Some x) (Some ty) op.Get args fns ls

          below : x < length F.vars
          below = variable_below F j _ (in-code P f F p j _ at) x (inl refl)

          typed : variable_type F.vars x ≡ Some ty
          typed = get-typed P accepted f F p j x ty args fns ls at

          of : Got P Q fresh t f F p j x ty → IsNew P Q f F G b
          of (Copied w tree) =
              let c = copy_there Q f j (named V x) ty (fresh f x) tree in
              let source : variable_type G.vars c.source ≡ Some ty =
              stands-typed P Q fresh accepted t f F G p q x c.source below (let l = in-names Q f G q c.source c.source_in in omega (arith, names-long Q f G q)) (is-name Q f G q c.source _ c.source_is) ty typed
              (written-dest x ty w typed c.source (in-names Q f G q c.source c.source_in) (is-name Q f G q c.source _ c.source_is)) in
              subst (IsNew P Q f F G) (is-b _ c.at)
              (gives-new j x c.dest ty (Act (Some x) (Some ty) op.Get args fns ls) (Act (Some c.dest) (Some ty) op.Id (c.source ∷ []) [] []) at refl refl refl refl (in-names Q f G q c.dest c.dest_in) (is-name Q f G q c.dest _ c.dest_is) (omega (arith, names-long P f F p, below))
              (λ keeps dt. copy-fits Q G c.dest c.source ty dt source) typed (in-code Q f G q j _ c.at))
          of (Undefined w tree) =
              let c = gives_there Q f j (named V x) ty op.Undef [] tree in
              subst (IsNew P Q f F G) (is-b _ (c.at ∙ ap (λ l. Some (Act (Some c.dest) (Some ty) op.Undef l [] [])) (none_from _ c.args c.args_are)))
              (gives-new j x c.dest ty (Act (Some x) (Some ty) op.Get args fns ls) (Act (Some c.dest) (Some ty) op.Undef [] [] []) at refl refl refl refl (in-names Q f G q c.dest c.dest_in) (is-name Q f G q c.dest _ c.dest_is) (omega (arith, names-long P f F p, below))
              (λ keeps dt. undef-fits Q G c.dest ty dt) typed (in-code Q f G q j _ (c.at ∙ ap (λ l. Some (Act (Some c.dest) (Some ty) op.Undef l [] [])) (none_from _ c.args c.args_are))))
      by (Sets sty x y fns ls at) = inl (of (put P Q fresh t f F p j sty x y fns ls at))
        where
          below : x < length F.vars
          below = variable_below F j _ (in-code P f F p j _ at) x (inl refl)

          given-below : y < length F.vars
          given-below = variable_below F j _ (in-code P f F p j _ at) y (inr (inl refl))

          of : Put P Q fresh t f F p j x y → IsNew P Q f F G b
          of (Gone none tree) = subst (IsNew P Q f F G) (is-b nop (nop-at Q f j tree)) (nop-new P Q f F G)
          of (Given s typed tree) = subst (IsNew P Q f F G) (is-b _ c.at) (record {
            dest = λ z w name dw.
                let same : c.dest ≡ w = same_Some c.dest w dw in
                absurd (new-name P Q fresh t f F p x z (omega (arith, names-long P f F p, below)) name.0 (sym (is-name Q f G q c.dest _ c.dest_is) ∙ ap (named W) same ∙ sym name.2));
            fits = λ keeps. copy-fits Q G c.dest c.source s dest-typed (source-typed keeps);
          })
            where
              c : CopyThere Q f j (fresh f x) s (named V y)
              c = copy_there Q f j (fresh f x) s (named V y) tree

              dest-typed : variable_type G.vars c.dest ≡ Some s
              dest-typed =
                  stands-typed P Q fresh accepted t f F G p q x c.dest below (let l = in-names Q f G q c.dest c.dest_in in omega (arith, names-long Q f G q)) (is-name Q f G q c.dest _ c.dest_is) s typed
                  (record { point = j; item = _; at = in-code Q f G q j _ c.at; dest = refl })

              name : SameName V W y c.source
              name = (omega (arith, names-long P f F p, given-below), in-names Q f G q c.source c.source_in, sym (is-name Q f G q c.source _ c.source_is))

              source-typed : KeepsTypes F G → variable_type G.vars c.source ≡ Some s
              source-typed keeps = sym (keeps y c.source name left) ∙ was
                where
                  was : variable_type F.vars y ≡ Some s
                  was = set-typed P accepted f F p j sty x y fns ls at s typed

                  left : (c.source < G.args) ⊎ IsDestination G.code c.source
                  left = ⊎_elim (λ less. inl (argument-stays P Q t.heads f F G p q y c.source name less))
                      (λ r. ⊎_elim (λ d. inr (dest-stays P Q fresh accepted t f F G p q d.point d.item (at-point P f F p d.point d.item d.at) y c.source name d.dest))
                      (λ n. absurd (let e : None ≡ Some s = sym n ∙ was in cc)) r) (typed_by F y given-below)

  -- ---- the function

  edits : Edits (unssa_plan P Q fresh accepted t) P Q f F G
  edits = record { items = items; walks = inl (walks P Q fresh accepted t f F G p q) }

-- the result of the pass is accepted
pub unssaed-accepted : (P Q : Prog) (fresh : ℕ → ℕ → List ℕ) → IsAccepted P → Unssaed P Q fresh → IsAccepted Q
unssaed-accepted P Q fresh accepted t = edit_accepted (λ _ _. unssa_plan P Q fresh accepted t) P Q accepted (preserves P Q fresh accepted t) t.heads (λ f F G p q. edits P Q fresh accepted t f F G p q)
