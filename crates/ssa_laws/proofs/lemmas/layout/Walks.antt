-- The walks of code in SSA form are accepted.
use Rattle.std.proofs.Common.{◌≡◌, ℕ, Bool, List, [], map, Some, ap, subst, ⊎_elim, arith}
use Rattle.std.specs.Prelude.{slice_get}
use Rattle.std.specs.List.{range_with_len}
use Rattle.bril_tree.specs.declared.numbered_function.Func.{Func}
use Rattle.bril_tree.specs.declared.program.Prog.{Prog}
use Rattle.bril_tree.specs.Accepted.{IsAccepted}
use Rattle.bril_tree.specs.Assigned.{assigned_of}
use Rattle.bril_tree.specs.Numbered.{variable_names}
use Rattle.bril_tree.specs.Operand.{Location, Variable, Shadow}
use Rattle.bril_tree.specs.Step.{code_of}
use Rattle.bril_tree.specs.Membership.{In}
use Rattle.bril_tree.proofs.LabelPoints.{in_range}
use Rattle.bril_tree.proofs.Members.{in_map, contains_in, in_contains}
use Rattle.pass_edit_laws.proofs.lemmas.acceptance.Heads.{start-covers}
use Rattle.pass_edit_laws.specs.walks.Matched.{MatchedWalk}
use Rattle.bril_tree.specs.Accepted.{AreWalksAccepted}
use Rattle.pass_edit_laws.specs.names.Named.{SameLocation}
use Rattle.bril_tree.specs.Numbered.{names_in}
use Rattle.bril_tree.proofs.Assignments.{in_or_not}
use Rattle.ssa_laws.specs.inserted_copies.Inserted.{inserted_plan, AreInserted}
use Rattle.ssa_laws.specs.reaching_definitions.Tables.{Tables}
use Rattle.ssa_laws.specs.layout.Laid.{Setting, Begins, args_in, home, Laid}
use Rattle.ssa_laws.proofs.lemmas.layout.Refines.{base, is-inserted}
use Rattle.ssa_laws.proofs.lemmas.inserted_copies.Walks.{copies-walks}
use Rattle.ssa_laws.specs.layout.Accepted.{Tight}
use Rattle.ssa_laws.proofs.lemmas.layout.Assured.{assures}

-- what begins is an argument
begun : (P Q : Prog) (table : ℕ → Tables) (name : ℕ → ℕ → List ℕ) (gets : ℕ → ℕ → List ℕ) (sets : ℕ → ℕ → List Setting) (f : ℕ) (F : Func) → slice_get P.funcs f ≡ Some F → (a : Location) (y : ℕ) → Begins P Q table name gets sets f a y → In a (map Variable (range_with_len 0 F.args))
begun P Q table name gets sets f F there (Variable x) y b =
    let few : args_in (slice_get P.funcs f) ≡ F.args = ap args_in there in
    let less = b.2 in
    in_map Variable x (range_with_len 0 F.args) (in_range 0 F.args x (omega arith) (omega (arith, few, less)))
begun P Q table name gets sets f F there (Shadow x) y b = absurd b

module _ (P Q : Prog) (table : ℕ → Tables) (name : ℕ → ℕ → List ℕ) (gets : ℕ → ℕ → List ℕ) (sets : ℕ → ℕ → List Setting) (c : ℕ) (accepted : IsAccepted P) (t : Laid P Q table name gets sets c)
    (f : ℕ) (F G : Func) (there : slice_get P.funcs f ≡ Some F) (points : slice_get Q.funcs f ≡ Some G) (tight : Tight P table sets f) where
  abbrev T : ℕ → ℕ → ℕ
  T = home P Q table name gets sets

  abbrev B : (f i : ℕ) → Location → Location → Type 0
  B = base P Q table name gets sets c accepted t

  abbrev I : AreInserted P Q T B c
  I = is-inserted P Q table name gets sets c accepted t

  starts : MatchedWalk (inserted_plan P Q T B) P Q f F.args G.args []
  starts = record {
    walk = [];
    matches = record {
      is = tt;
      points = (omega arith, omega arith);
      locations = λ a b h i. start-covers P Q t.heads f F G there points a b (subst (λ o. SameLocation (variable_names F.vars) (names_in o) a b) points (subst (λ o. SameLocation (names_in o) (names_in (slice_get Q.funcs f)) a b) there (I.start f a b h))) i;
      saved = tt;
    };
  }

  pub laid-walks : (ret : Bool) → AreWalksAccepted (code_of P f) F.args ret → AreWalksAccepted (code_of Q f) G.args ret
  laid-walks ret old =
      copies-walks P Q T B c accepted I f F.args G.args
      (λ point item place at among walk is ends. ⊎_elim (λ i. i) (λ n. absurd (old.assigned point item place at (contains_in place _ among) (record { walk = walk; is = is; ends = ends; lacks = λ k. n (in_contains place _ k) })))
      (in_or_not place (assigned_of (code_of P f) F.args walk).locations))
      (assures P Q table name gets sets c accepted t f F.args G.args (begun P Q table name gets sets f F there) tight) ret old starts
