-- The result of an edit is accepted.
use Rattle.std.proofs.Common.{◌≡◌, ◌⊎◌, ℕ, ◌<◌, Option, Some, None, refl, sym, ap, subst, ◌∙◌, inl, inr, ⊎_elim}
use Rattle.std.specs.Prelude.{slice_get, is_some}
use Rattle.bril_tree.specs.declared.numbered.Instr.{Instr}
use Rattle.bril_tree.specs.declared.numbered_function.Func.{Func}
use Rattle.bril_tree.specs.declared.program.Prog.{Prog}
use Rattle.bril_tree.specs.Accepted.{IsAccepted, AreWalksAccepted}
use Rattle.bril_tree.specs.FunctionForm.{listed}
use Rattle.bril_tree.specs.Numbered.{nop, variable_names}
use Rattle.bril_tree.specs.Operand.{Variable, dest_of, reads_of}
use Rattle.bril_tree.specs.Step.{items_of, code_of, item_at}
use Rattle.bril_tree.specs.Typing.{variable_type}
use Rattle.bril_tree.specs.Walk.{IsReached}
use Rattle.bril_tree.specs.Membership.{In}
use Rattle.bril_tree.proofs.Acceptance.{walks_of, read_left}
use Rattle.bril_tree.proofs.Typings.{IsDestination}
use Rattle.pass_edit_laws.specs.plan.Plan.{Plan, Preserves}
use Rattle.pass_edit_laws.specs.walks.Matched.{MatchesWalks}
use Rattle.pass_edit_laws.proofs.lemmas.walks.Accepting.{walks_accepted}
use Rattle.pass_edit_laws.specs.names.Named.{SameName}
use Rattle.pass_edit_laws.specs.names.NamedPlan.{SameHeads}
use Rattle.pass_edit_laws.proofs.lemmas.names.Points.{same_name-in}
use Rattle.pass_edit_laws.proofs.lemmas.names.Heads.{main_same, types_same}
use Rattle.pass_edit_laws.specs.acceptance.Stays.{FitsByItself, HasTypeOfDest, Stays}
use Rattle.pass_edit_laws.proofs.lemmas.acceptance.Staying.{dest_of_tree}
use Rattle.pass_edit_laws.proofs.lemmas.acceptance.Accepted.{program_accepted}
use Rattle.pass_edit_laws.specs.acceptance.Edited.{KeepsTypes, IsNew, LosesNoDestination, IsOld, EditAccepted}
use Rattle.pass_edit_laws.proofs.lemmas.acceptance.Left.{left-typed, name-typed, unlost-typed}

-- ---- items that a pass made

-- one without a destination that meets its row by itself
pub bare-new : (P Q : Prog) (f : ℕ) (F G : Func) (b : Instr) → dest_of b ≡ None → FitsByItself Q G b → IsNew P Q f F G b
bare-new P Q f F G b none fits = record { dest = λ x y name d. absurd (let e : None ≡ Some y = sym none ∙ d in cc); fits = λ types. fits }

pub nop-new : (P Q : Prog) (f : ℕ) (F G : Func) → IsNew P Q f F G nop
nop-new P Q f F G = bare-new P Q f F G nop refl (record { shaped = refl; calls = refl; typed = refl })

-- ---- the law

module _ (P Q : Prog) (accepted : IsAccepted P) (heads : SameHeads P Q) (f : ℕ) (F G : Func) (p : slice_get P.funcs f ≡ Some F) (q : slice_get Q.funcs f ≡ Some G)
    (items : (j : ℕ) (b : Instr) → item_at Q f j ≡ Some b → IsNew P Q f F G b ⊎ IsOld P Q f F G j b) (walks : AreWalksAccepted (code_of Q f) G.args (is_some G.ret)) where
  -- each destination has a type that the variable of its name had
  source : (x y : ℕ) → SameName (variable_names F.vars) (variable_names G.vars) x y → (j : ℕ) (b : Instr) → item_at Q f j ≡ Some b → dest_of b ≡ Some y → HasTypeOfDest P f x b
  source x y name j b at d = ⊎_elim (λ n. n.dest x y name d) (λ o. dest_of_tree P Q heads f x y (same_name-in P Q f F G p q x y name) o.i j b at d o.tree) (items j b at)

  keeps_types : KeepsTypes F G
  keeps_types x y name left = left-typed P Q accepted heads f F G p q x y name (source x y name) left

  module _ (j : ℕ) (b : Instr) (at : item_at Q f j ≡ Some b) (o : IsOld P Q f F G j b) (x y : ℕ) (name : SameName (variable_names F.vars) (variable_names G.vars) x y) where
    of-dest : In y (listed (dest_of b)) → variable_type F.vars x ≡ variable_type G.vars y
    of-dest i = keeps_types x y name (inr (record { point = j; item = b; at = ap (λ o. slice_get (items_of o) j) (sym q) ∙ at; dest = only (dest_of b) i }))
      where
        only : (d : Option ℕ) → In y (listed d) → d ≡ Some y
        only None i = absurd i
        only (Some z) (inl e) = ap Some (sym e)
        only (Some z) (inr i) = absurd i

    of-read : In (Variable y) (reads_of b) → variable_type F.vars x ≡ variable_type G.vars y
    of-read i = ⊎_elim reached unlost o.stays
      where
        reached : IsReached (code_of Q f) j → variable_type F.vars x ≡ variable_type G.vars y
        reached r = keeps_types x y name (subst (λ c. (y < G.args) ⊎ IsDestination c y) (ap items_of q) (read_left (code_of Q f) G.args (is_some G.ret) walks j b r at y i))

        unlost : LosesNoDestination P Q f F G b → variable_type F.vars x ≡ variable_type G.vars y
        unlost n = unlost-typed P Q accepted heads f F G p q x y name (source x y name) (n x y name i)

  stays : Stays P Q f F G
  stays = record {
    items = λ j b at. ⊎_elim (λ n. inl (n.fits keeps_types)) (λ o. inr (record {
      i = o.i;
      tree = o.tree;
      dests = of-dest j b at o;
      reads = of-read j b at o;
      names = λ x y name i. name-typed P Q accepted heads f F G p q x y name (source x y name);
    })) (items j b at);
    walks = walks;
  }

-- the walks of the result are accepted
walks_now : (m : Plan) (P Q : Prog) → IsAccepted P → Preserves m P Q → SameHeads P Q → (f : ℕ) (F G : Func) → slice_get P.funcs f ≡ Some F → slice_get Q.funcs f ≡ Some G
    → MatchesWalks m P Q f F.args G.args ⊎ AreWalksAccepted (code_of Q f) G.args (is_some G.ret) → AreWalksAccepted (code_of Q f) G.args (is_some G.ret)
walks_now m P Q accepted preserves heads f F G p q (inl walks) =
    subst (λ r. AreWalksAccepted (code_of Q f) G.args (is_some r)) (heads.ret f F G p q)
    (walks_accepted m P Q f F.args G.args walks accepted preserves (is_some F.ret) (walks_of P accepted f F p))
walks_now m P Q accepted preserves heads f F G p q (inr walks) = walks

-- The program that a pass made is accepted.
pub edit_accepted : (plan : Prog → Prog → Plan) → EditAccepted plan
edit_accepted plan P Q accepted preserves heads edits =
    program_accepted P Q accepted heads (main_same P Q heads) (λ f F G p q. types_same P Q heads f F G p q)
    (λ f F G p q.
    let e = edits f F G p q in
    stays P Q accepted heads f F G p q e.items (walks_now (plan P Q) P Q accepted preserves heads f F G p q e.walks))
