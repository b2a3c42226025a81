-- Where functions have the same names, arguments and results, an argument keeps its type, and where a function begins all
-- walks match.
use Rattle.std.proofs.Common.{◌≡◌, ℕ, zero, suc, ◌<◌, List, [], ◌∷◌, length, map, take, Some, refl, sym, ap, subst, ◌∙◌, arith}
use Rattle.std.specs.Prelude.{slice_get}
use Rattle.std.specs.List.{range_with_len}
use Rattle.bril_tree.specs.declared.numbered.VarInfo.{VarInfo}
use Rattle.bril_tree.specs.declared.numbered_function.Func.{Func}
use Rattle.bril_tree.specs.declared.program.Prog.{Prog}
use Rattle.bril_tree.specs.Numbered.{variable_names, names_in}
use Rattle.bril_tree.specs.Operand.{Location, Variable, Shadow}
use Rattle.bril_tree.specs.Typing.{variable_type}
use Rattle.bril_tree.specs.Membership.{In}
use Rattle.bril_tree.proofs.Members.{in_map, in_map_source}
use Rattle.bril_tree.proofs.Elements.{get_inside}
use Rattle.bril_tree.proofs.Typings.{variable-has}
use Rattle.bril_tree.proofs.LabelPoints.{range_high, in_range}
use Rattle.pass_edit_laws.specs.walks.Matched.{MatchedWalk}
use Rattle.pass_edit_laws.specs.names.Named.{SameName, SameLocation}
use Rattle.pass_edit_laws.specs.names.NamedPlan.{NamePlan, SameHeads, plan}
use Rattle.pass_edit_laws.proofs.lemmas.names.Heads.{same_args, argument-back, argument-stays, argument-was}

-- ---- numbers from 0: what is assigned where a function begins are its arguments, and no shadow

pub start-high : (n x : ℕ) → In (Variable x) (map Variable (range_with_len 0 n)) → x < n
start-high n x i =
    let s = in_map_source Variable (Variable x) (range_with_len 0 n) i in
    let same : x ≡ s.0 = (let e = s.2 in cc) in
    let h = range_high 0 n s.0 s.1 in
    omega (arith, same, h)

pub start-shadow : (n x : ℕ) → In (Shadow x) (map Variable (range_with_len 0 n)) → ⊥
start-shadow n x i = let s = in_map_source Variable (Shadow x) (range_with_len 0 n) i in let e = s.2 in cc

taken : {X : Type 0} (n : ℕ) (xs : List X) (k : ℕ) → k < n → slice_get (take n xs) k ≡ slice_get xs k
taken zero xs k less = absurd (omega arith)
taken (suc n) [] k less = refl
taken (suc n) (x ∷ xs) zero less = refl
taken (suc n) (x ∷ xs) (suc k) less = taken n xs k (omega arith)

type-at : (vs ws : List VarInfo) (x : ℕ) → x < length vs → slice_get vs x ≡ slice_get ws x → variable_type vs x ≡ variable_type ws x
type-at vs ws x less e =
    let v = get_inside vs x less in
    variable-has vs x v.0 v.1 ∙ sym (variable-has ws x v.0 (sym e ∙ v.1))

module _ (P Q : Prog) (heads : SameHeads P Q) (f : ℕ) (F G : Func) (p : slice_get P.funcs f ≡ Some F) (q : slice_get Q.funcs f ≡ Some G) where
  -- an argument keeps its type
  pub argument-typed : (x y : ℕ) → SameName (variable_names F.vars) (variable_names G.vars) x y → y < G.args → variable_type F.vars x ≡ variable_type G.vars y
  argument-typed x y h less =
      let e = argument-back P Q heads f F G p q x y h less in
      let both = same_args P Q heads f F G p q in
      let was = argument-was P Q heads f F G p q x y h less in
      let few = F.formed.few_args in
      type-at F.vars G.vars x (omega arith) (sym (taken F.args F.vars x was) ∙ ap (λ l. slice_get l x) both.variables ∙ taken G.args G.vars x (omega (arith, e)))
      ∙ ap (variable_type G.vars) e

  -- arguments are assigned on both sides at the start
  pub start-covers : (a b : Location) → SameLocation (variable_names F.vars) (variable_names G.vars) a b → In a (map Variable (range_with_len 0 F.args)) → In b (map Variable (range_with_len 0 G.args))
  start-covers (Variable x) (Variable y) h i = let less = argument-stays P Q heads f F G p q x y h (start-high F.args x i) in in_map Variable y (range_with_len 0 G.args) (in_range 0 G.args y (omega arith) (omega arith))
  start-covers (Variable x) (Shadow y) h i = absurd h
  start-covers (Shadow x) (Variable y) h i = absurd h
  start-covers (Shadow x) (Shadow y) h i = absurd (start-shadow F.args x i)

  -- the walk without branches stands for itself
  pub start_matched : (N : NamePlan) → N.PointsMatch f 0 0 → MatchedWalk (plan P Q N) P Q f F.args G.args []
  start_matched N start = record {
    walk = [];
    matches = record {
      is = tt;
      points = start;
      locations = λ a b h i. start-covers a b (subst (λ o. SameLocation (variable_names F.vars) (names_in o) a b) q (subst (λ o. SameLocation (names_in o) (names_in (slice_get Q.funcs f)) a b) p h.0)) i;
      saved = tt;
    };
  }
