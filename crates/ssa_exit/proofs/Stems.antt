-- Names that begin with a stem, and names that are made of one with which no name begins.
use Rattle.std.proofs.Common.{◌≡◌, ℕ, ◌+◌, ◌≤◌, Bool, true, false, cond, ◌&&◌, List, [], ◌∷◌, ◌++◌, refl, sym, ap, subst, ◌∙◌, inl, inr, arith}
use Rattle.std.specs.Prelude.{nat_eq}
use Rattle.std.specs.List.{starts_with}
use Rattle.std.proofs.lemmas.Bool.{eq-eqb, eqb-true}
use Rattle.std.proofs.lemmas.List.{append_cancel_left}
use Rattle.std.proofs.lemmas.List.Sums.{sum_by-cons}
use Rattle.bril_tree.specs.declared.numbered.VarInfo.{VarInfo}
use Rattle.bril_tree.specs.declared.numbered_function.Func.{Func}
use Rattle.bril_tree.specs.Membership.{In}
use Rattle.bril_tree.specs.Numbered.{named, variable_names}
use Rattle.bril_tree.proofs.Members.{in_contains, in_map_source}
use Rattle.bril_names.proofs.Functions.{Differ-variables}
use Rattle.bril_names.proofs.Naming.{one_number}
use Rattle.ssa_exit.specs.Fresh.{AreFresh, count_beginning, shadow_names}

abbrev starts : List ℕ → List ℕ → Bool
starts name stem = starts_with nat_eq name stem

-- ---- what begins with a stem

starts-own : (stem rest : List ℕ) → starts (stem ++ rest) stem ≡ true
starts-own [] rest = refl
starts-own (c ∷ stem) rest = ap (λ b. b && starts (stem ++ rest) stem) (eq-eqb c c refl) ∙ starts-own stem rest

one-counted : (stem : List ℕ) (vars : List VarInfo) (v : VarInfo) → In v vars → starts v.name stem ≡ true → count_beginning stem vars ≡ 0 → ⊥
one-counted stem [] v i s e = i
one-counted stem (w ∷ vars) v (inl same) s e =
    let here : ◌≡◌ {A = ℕ} (cond (starts w.name stem) 1 0) 1 = ap (λ (u : VarInfo). cond (starts u.name stem) 1 0) (sym same) ∙ ap (λ b. cond b 1 0) s in
    let sum = sum_by-cons (λ (u : VarInfo). cond (starts u.name stem) 1 0) w vars in
    omega (arith, here, sum, e)
one-counted stem (w ∷ vars) v (inr i) s e = one-counted stem vars v i s (let sum = sum_by-cons (λ (u : VarInfo). cond (starts u.name stem) 1 0) w vars in omega (arith, sum, e))

-- the names that are made of a stem with which none begins
pub are-fresh : (F : Func) (stem : List ℕ) → count_beginning stem F.vars ≡ 0 → AreFresh (variable_names F.vars) (shadow_names stem F.vars)
are-fresh F stem none = record {
  new = λ x low c.
      let s = in_map_source (λ (v : VarInfo). v.name) (shadow_names stem F.vars x) F.vars (in_contains (shadow_names stem F.vars x) (variable_names F.vars) c) in
      one-counted stem F.vars s.0 s.1 (ap (λ n. starts n stem) (sym s.2) ∙ starts-own stem (46 ∷ named (variable_names F.vars) x)) none;
  differ = λ x y low high e.
      let rest = append_cancel_left stem (46 ∷ named (variable_names F.vars) x) (46 ∷ named (variable_names F.vars) y) e in
      let same : named (variable_names F.vars) x ≡ named (variable_names F.vars) y = cc in
      one_number (variable_names F.vars) (Differ-variables F) x y low high same;
}

-- ---- one digit more

-- a name begins with one of two longer stems at most, and then with the stem
digits : (stem name : List ℕ) → cond (starts name (stem ++ 48 ∷ [])) 1 0 + cond (starts name (stem ++ 49 ∷ [])) 1 0 ≤ cond (starts name stem) 1 0
digits [] [] = omega arith
digits [] (d ∷ name) = by (nat_eq 48 d) (nat_eq 49 d) refl refl
  where
    by : (b c : Bool) → nat_eq 48 d ≡ b → nat_eq 49 d ≡ c → cond (nat_eq 48 d && true) 1 0 + cond (nat_eq 49 d && true) 1 0 ≤ 1
    by true true e h = absurd (let x = eqb-true 48 d e in let y = eqb-true 49 d h in omega (arith, x, y))
    by true false e h = subst (λ b. cond (b && true) 1 0 + cond (nat_eq 49 d && true) 1 0 ≤ 1) (sym e) (subst (λ b. 1 + cond (b && true) 1 0 ≤ 1) (sym h) (omega arith))
    by false true e h = subst (λ b. cond (b && true) 1 0 + cond (nat_eq 49 d && true) 1 0 ≤ 1) (sym e) (subst (λ b. 0 + cond (b && true) 1 0 ≤ 1) (sym h) (omega arith))
    by false false e h = subst (λ b. cond (b && true) 1 0 + cond (nat_eq 49 d && true) 1 0 ≤ 1) (sym e) (subst (λ b. 0 + cond (b && true) 1 0 ≤ 1) (sym h) (omega arith))
digits (c ∷ stem) [] = omega arith
digits (c ∷ stem) (d ∷ name) = by (nat_eq c d) (digits stem name)
  where
    by : (b : Bool) → cond (starts name (stem ++ 48 ∷ [])) 1 0 + cond (starts name (stem ++ 49 ∷ [])) 1 0 ≤ cond (starts name stem) 1 0
        → cond (b && starts name (stem ++ 48 ∷ [])) 1 0 + cond (b && starts name (stem ++ 49 ∷ [])) 1 0 ≤ cond (b && starts name stem) 1 0
    by true h = h
    by false h = omega arith

halves : (stem : List ℕ) (vars : List VarInfo) → count_beginning (stem ++ 48 ∷ []) vars + count_beginning (stem ++ 49 ∷ []) vars ≤ count_beginning stem vars
halves stem [] = omega arith
halves stem (v ∷ vars) =
    let zero = sum_by-cons (λ (u : VarInfo). cond (starts u.name (stem ++ 48 ∷ [])) 1 0) v vars in
    let one = sum_by-cons (λ (u : VarInfo). cond (starts u.name (stem ++ 49 ∷ [])) 1 0) v vars in
    let all = sum_by-cons (λ (u : VarInfo). cond (starts u.name stem) 1 0) v vars in
    let here = digits stem v.name in
    let rest = halves stem vars in
    omega (arith, zero, one, all, here, rest)

pub halves-of : (stem : List ℕ) (vars : List VarInfo) (zero one : List ℕ) → zero ≡ stem ++ 48 ∷ [] → one ≡ stem ++ 49 ∷ [] → count_beginning zero vars + count_beginning one vars ≤ count_beginning stem vars
halves-of stem vars zero one ez eo =
    subst (λ z. count_beginning z vars + count_beginning one vars ≤ count_beginning stem vars) (sym ez)
    (subst (λ o. count_beginning (stem ++ 48 ∷ []) vars + count_beginning o vars ≤ count_beginning stem vars) (sym eo) (halves stem vars))
