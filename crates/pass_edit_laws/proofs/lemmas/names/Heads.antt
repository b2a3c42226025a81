-- What follows from the same names, arguments and results of functions: each has a partner, the arguments stand for each
-- other, and where a function begins variables of one name hold the same.
use Rattle.std.proofs.Common.{◌≡◌, ℕ, ◌<◌, ◌≤◌, List, [], length, map, take, min, Option, Some, None, pos, refl, sym, ap, subst, ◌∙◌, ⊎_elim, arith}
use Rattle.std.specs.Prelude.{slice_get, unwrap_or}
use Rattle.std.specs.Option.{option_map}
use Rattle.std.proofs.lemmas.Bool.{cases_lt}
use Rattle.std.proofs.lemmas.List.{length-map, length-take, get_or-take, take-map}
use Rattle.std.proofs.lemmas.Option.{slice_get-map}
use Rattle.bril_tree.specs.declared.numbered.VarInfo.{VarInfo}
use Rattle.bril_tree.specs.declared.numbered_function.Func.{Func}
use Rattle.bril_tree.specs.declared.program.Prog.{Prog}
use Rattle.bril_tree.specs.declared.value.Value.{Value}
use Rattle.bril_tree.specs.declared.value.Value.TheVariants.{Int}
use Rattle.bril_tree.specs.Locals.{value_at}
use Rattle.bril_tree.specs.Numbered.{named, variable_names, names_of_functions, names_in, point_tree, tree_at}
use Rattle.bril_tree.specs.Operand.{Location, Variable, Shadow}
use Rattle.bril_tree.specs.ProgramForm.{main_name}
use Rattle.bril_tree.specs.Run.{types_of, main_types}
use Rattle.bril_tree.specs.State.{no_values}
use Rattle.bril_tree.specs.Step.{new_frame}
use Rattle.bril_tree.proofs.HeldValues.{arguments-past}
use Rattle.bril_names.proofs.Functions.{Differ-functions, Differ-variables, is_main}
use Rattle.bril_names.proofs.Naming.{one_number}
use Rattle.bril_names.proofs.Variables.{SameArguments, same_arguments}
use Rattle.pass_edit_laws.specs.names.Named.{SameName, SameLocation}
use Rattle.pass_edit_laws.specs.names.NamedPlan.{SameHeads}

no_locations : (a b : Location) (W : List (List ℕ)) → SameLocation [] W a b → ⊥
no_locations (Variable x) (Variable y) W h = let l = h.0 in omega arith
no_locations (Variable x) (Shadow y) W h = h
no_locations (Shadow x) (Variable y) W h = h
no_locations (Shadow x) (Shadow y) W h = let l = h.0 in omega arith

module _ (P Q : Prog) (heads : SameHeads P Q) where
  -- a function of P has one of the same number in Q
  pub partner : (f : ℕ) (F : Func) → slice_get P.funcs f ≡ Some F → (G : Func) × (slice_get Q.funcs f ≡ Some G)
  partner f F there = by (slice_get Q.funcs f) refl
    where
      name : slice_get (names_of_functions Q.funcs) f ≡ Some F.name
      name = ap (λ n. slice_get n f) (sym heads.names) ∙ slice_get-map (λ (g : Func). g.name) P.funcs f ∙ ap (option_map (λ (g : Func). g.name)) there

      by : (o : Option Func) → slice_get Q.funcs f ≡ o → (G : Func) × (slice_get Q.funcs f ≡ Some G)
      by None e = absurd (let h : None ≡ Some F.name = ap (option_map (λ (g : Func). g.name)) (sym e) ∙ sym (slice_get-map (λ (g : Func). g.name) Q.funcs f) ∙ name in cc)
      by (Some G) e = (G, e)

  pub no_partner : (f : ℕ) → slice_get P.funcs f ≡ None → (i : ℕ) → tree_at Q f i ≡ None
  no_partner f none i = by (slice_get Q.funcs f) refl
    where
      name : slice_get (names_of_functions Q.funcs) f ≡ None
      name = ap (λ n. slice_get n f) (sym heads.names) ∙ slice_get-map (λ (g : Func). g.name) P.funcs f ∙ ap (option_map (λ (g : Func). g.name)) none

      by : (o : Option Func) → slice_get Q.funcs f ≡ o → tree_at Q f i ≡ None
      by None e = ap (λ o. point_tree (names_of_functions Q.funcs) o i) e
      by (Some G) e = absurd (let h : Some G.name ≡ None = ap (option_map (λ (g : Func). g.name)) (sym e) ∙ sym (slice_get-map (λ (g : Func). g.name) Q.funcs f) ∙ name in cc)

  pub main_same : P.main ≡ Q.main
  main_same =
      let mine = is_main P in
      let theirs = subst (λ ns. (Q.main < length ns) × (named ns Q.main ≡ main_name)) (sym heads.names) ((is_main Q).within, (is_main Q).is_named) in
      one_number (names_of_functions P.funcs) (Differ-functions P) P.main Q.main mine.within theirs.0 (mine.is_named ∙ sym theirs.1)

  module _ (f : ℕ) (F G : Func) (p : slice_get P.funcs f ≡ Some F) (q : slice_get Q.funcs f ≡ Some G) where
    pub same_args : SameArguments F.args G.args F.vars G.vars
    same_args = same_arguments F.args G.args F.vars G.vars F.formed.few_args G.formed.few_args F.formed.args_typed G.formed.args_typed (heads.args f F G p q)

    pub types_same : types_of (Some F) ≡ types_of (Some G)
    types_same = ap (map (λ (v : VarInfo). v.ty)) same_args.variables

    -- the first names are those of the arguments
    pub first_names : (x : ℕ) → x < F.args → named (variable_names F.vars) x ≡ named (variable_names G.vars) x
    first_names x less =
        let both = same_args in
        let less' : x < G.args = omega (arith, both.count) in
        sym (get_or-take F.args (variable_names F.vars) x [] less)
        ∙ ap (λ names. named names x) (take-map (λ (v : VarInfo). v.name) F.args F.vars ∙ ap (map (λ (v : VarInfo). v.name)) both.variables ∙ sym (take-map (λ (v : VarInfo). v.name) G.args G.vars))
        ∙ get_or-take G.args (variable_names G.vars) x [] less'

    module _ (x y : ℕ) (h : SameName (variable_names F.vars) (variable_names G.vars) x y) where
      -- an argument stands for the argument of its number
      argument-there : x < F.args → x ≡ y
      argument-there less =
          let few = G.formed.few_args in
          let both = same_args.count in
          let size = length-map G.vars (λ (v : VarInfo). v.name) in
          one_number (variable_names G.vars) (Differ-variables G) x y (omega arith) h.1 (sym (first_names x less) ∙ h.2)

      pub argument-back : y < G.args → x ≡ y
      argument-back less =
          let few = F.formed.few_args in
          let both = same_args.count in
          let size = length-map F.vars (λ (v : VarInfo). v.name) in
          one_number (variable_names F.vars) (Differ-variables F) x y h.0 (omega arith) (h.2 ∙ sym (first_names y (omega (arith, both))))

      pub argument-stays : x < F.args → y < G.args
      argument-stays less = let e = argument-there less in let both = same_args.count in omega (arith, e)

      pub argument-was : y < G.args → x < F.args
      argument-was less = let e = argument-back less in let both = same_args.count in omega (arith, e)

    -- ---- where a function begins

    module _ (vs : List Value) (count : length vs ≡ length (types_of (Some F))) where
      -- as many values as arguments
      pub many : length vs ≡ F.args
      many = count ∙ length-map (take F.args F.vars) (λ (v : VarInfo). v.ty) ∙ taken F.args (length F.vars) (length (take F.args F.vars)) (length-take F.args F.vars) F.formed.few_args
        where
          taken : (n m l : ℕ) → l ≡ min n m → n ≤ m → l ≡ n
          taken n m l e h = grind arith

      variables_agree : (x y : ℕ) → SameName (variable_names F.vars) (variable_names G.vars) x y → (new_frame f vs).locations.vars x ≡ (new_frame f vs).locations.vars y
      variables_agree x y h = ⊎_elim (λ less. ap (new_frame f vs).locations.vars (argument-there x y h less)) outside (cases_lt x F.args)
        where
          outside : F.args ≤ x → (new_frame f vs).locations.vars x ≡ (new_frame f vs).locations.vars y
          outside high = ⊎_elim (λ less. ap (new_frame f vs).locations.vars (argument-back x y h less)) above (cases_lt y G.args)
            where
              above : G.args ≤ y → (new_frame f vs).locations.vars x ≡ (new_frame f vs).locations.vars y
              above past =
                  let both = same_args.count in
                  let m = many in
                  arguments-past 0 vs no_values x (omega arith) ∙ sym (arguments-past 0 vs no_values y (omega arith))

      locations_agree : (a b : Location) → SameLocation (variable_names F.vars) (variable_names G.vars) a b → value_at (new_frame f vs).locations a ≡ value_at (new_frame f vs).locations b
      locations_agree (Variable x) (Variable y) h = ap (λ (o : Option Value). unwrap_or o (Int (pos 0))) (variables_agree x y h)
      locations_agree (Variable x) (Shadow y) h = absurd h
      locations_agree (Shadow x) (Variable y) h = absurd h
      locations_agree (Shadow x) (Shadow y) h = refl

  pub main_types_same : main_types P ≡ main_types Q
  main_types_same = by (slice_get P.funcs P.main) refl
    where
      by : (o : Option Func) → slice_get P.funcs P.main ≡ o → types_of (slice_get P.funcs P.main) ≡ types_of (slice_get Q.funcs Q.main)
      by None e = absurd (let h : None ≡ Some main_name = ap (option_map (λ (g : Func). g.name)) (sym e) ∙ P.formed.main_is in cc)
      by (Some F) e =
          let g = partner P.main F e in
          ap types_of e ∙ types_same P.main F g.0 e g.1 ∙ sym (ap types_of g.1) ∙ ap (λ n. types_of (slice_get Q.funcs n)) main_same

  -- locations of one name hold the same where a function begins
  pub start_agrees : (f : ℕ) (vs : List Value) → length vs ≡ length (types_of (slice_get P.funcs f)) → (a b : Location) → SameLocation (names_in (slice_get P.funcs f)) (names_in (slice_get Q.funcs f)) a b → value_at (new_frame f vs).locations a ≡ value_at (new_frame f vs).locations b
  start_agrees f vs count a b h = by (slice_get P.funcs f) refl
    where
      by : (o : Option Func) → slice_get P.funcs f ≡ o → value_at (new_frame f vs).locations a ≡ value_at (new_frame f vs).locations b
      by None e = absurd (no_locations a b (names_in (slice_get Q.funcs f)) (subst (λ o. SameLocation (names_in o) (names_in (slice_get Q.funcs f)) a b) e h))
      by (Some F) e =
          let g = partner f F e in
          locations_agree f F g.0 e g.1 vs (subst (λ o. length vs ≡ length (types_of o)) e count) a b
          (subst (λ o. SameLocation (variable_names F.vars) (names_in o) a b) g.1 (subst (λ o. SameLocation (names_in o) (names_in (slice_get Q.funcs f)) a b) e h))
