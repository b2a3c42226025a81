-- The homes of the variables that are live at a point of an accepted program.
use Rattle.std.proofs.Common.{◌≡◌, ℕ, ◌<◌, ◌∙◌, List, length, Option, Some, None, refl, sym, ap, subst, arith}
use Rattle.std.specs.Prelude.{is_some, slice_get}
use Rattle.std.proofs.lemmas.Option.{slice_get_within}
use Rattle.bril_tree.specs.declared.home.Home.{Home}
use Rattle.bril_tree.specs.declared.numbered.VarInfo.{VarInfo}
use Rattle.bril_tree.specs.declared.numbered_function.Func.{Func}
use Rattle.bril_tree.specs.declared.program.Prog.{Prog}
use Rattle.bril_tree.specs.declared.types.Ty.{Ty}
use Rattle.bril_tree.specs.Accepted.{IsAcceptedFunction}
use Rattle.bril_tree.specs.Live.{IsLive}
use Rattle.bril_tree.specs.Operand.{Location, Variable}
use Rattle.bril_tree.specs.Typing.{variable_type}
use Rattle.bril_tree.proofs.Elements.{get_inside}
use Rattle.live_sets.specs.declared.live.Live.{Live}
use Rattle.live_sets.specs.Liveness.{TellsLive}
use Rattle.rv64_emit_laws.proofs.Living.{live-there}
use Rattle.rv64_words.specs.declared.points.HomeAt.{HomeAt}
use Rattle.rv64_image_laws.specs.ProgramPoints.{AreHomesOf}
use Rattle.rv64_emit.specs.LiveVariables.{AreLiveVariables}
use Rattle.rv64_emit.specs.PointLists.{AreHomesFor, AreTyped, IsHomeFor}

-- a variable that has a type is one of the function's
pub typed_inside : (vars : List VarInfo) (x : ℕ) (ty : Ty) → variable_type vars x ≡ Some ty → x < length vars
typed_inside vars x ty typed = by (slice_get vars x) refl
  where
    by : (o : Option VarInfo) → slice_get vars x ≡ o → x < length vars
    by None e = absurd (let none : None ≡ Some ty = sym (untyped e) ∙ typed in cc)
      where
        untyped : slice_get vars x ≡ None → variable_type vars x ≡ None
        untyped e = rw e refl
    by (Some v) e = slice_get_within vars x v e

module _ (p : Prog) (f : Func) (accepted : IsAcceptedFunction p f) (live : Live) (tells : TellsLive f.code live) (point : ℕ) (variables : List ℕ) (row : AreLiveVariables live (length f.vars) point variables) where
  -- each of them is live at the point, and has a type
  live_here : (k x : ℕ) → slice_get variables k ≡ Some x → IsLive f.code (Variable x) point
  live_here k x e = (tells (Variable x) point).0 (row.are k x e).1

  pub are_typed : AreTyped f.vars variables
  are_typed k x e = ap is_some (live-there p f accepted (Variable x) point (live_here k x e)).1

  module _ (home : Location → Home) (homes : List HomeAt) (are : AreHomesFor (λ x. home (Variable x)) f.vars variables (length variables) homes) where
    -- the variable whose home it is
    record Its (k : ℕ) (h : HomeAt) : Type 0 where
      variable : ℕ
      at : slice_get variables k ≡ Some variable
      is : IsHomeFor (λ x. home (Variable x)) f.vars variable h

    its : (k : ℕ) (h : HomeAt) → slice_get homes k ≡ Some h → Its k h
    its k h e =
        let low : k < length variables = omega (arith, slice_get_within homes k h e, are.long) in
        let x = get_inside variables k low in
        record { variable = x.0; at = x.1; is = are.are k x.0 h x.1 e }

    pub homes_are : AreHomesOf home f point homes
    homes_are = record {
      live = λ k h e. (let i = its k h e in subst (λ x. IsLive f.code (Variable x) point) (sym i.is.is) (live_here k i.variable i.at));
      typed = λ k h e. (let i = its k h e in ap (variable_type f.vars) i.is.is ∙ i.is.typed);
      there = λ k h e. (let i = its k h e in i.is.there ∙ ap (λ x. home (Variable x)) (sym i.is.is));
      rising = λ j k a b less e d. (
          let i = its j a e in
          let n = its k b d in
          omega (arith, row.rising j k i.variable n.variable less i.at n.at, i.is.is, n.is.is));
      all = λ x alive. all x alive;
    }
      where
        all : (x : ℕ) → IsLive f.code (Variable x) point → (k : ℕ) × (h : HomeAt) × (slice_get homes k ≡ Some h) × (h.var ≡ x)
        all x alive =
            let typed = live-there p f accepted (Variable x) point alive in
            let listed = row.all x (typed_inside f.vars x typed.0 typed.1) ((tells (Variable x) point).1 alive) in
            let low : listed.0 < length homes = omega (arith, slice_get_within variables listed.0 x listed.1, are.long) in
            let h = get_inside homes listed.0 low in
            (listed.0, h.0, h.1, (are.are listed.0 x h.0 listed.1 h.1).is)
