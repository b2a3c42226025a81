-- No two definitions have one name, and names don't grow.
use Rattle.std.proofs.Common.{◌≡◌, ℕ, ◌+◌, ◌-◌, ◌≤◌, Bool, true, false, cond, List, ◌∷◌, ◌++◌, ltb, refl, sym, ap, ◌∙◌, arith}
use Rattle.std.specs.Prelude.{replicate}
use Rattle.std.proofs.lemmas.Bool.{ltb-true}
use Rattle.bril_tree.specs.Numbered.{named}
use Rattle.ssa_build.specs.fresh_names.Laws.{NamesDiffer, NamesStayShort}
use Rattle.ssa_build.specs.fresh_names.Names.{base_name, front_of, has_dot, made_name, marks, number_text, stem_of}
use Rattle.ssa_build.proofs.lemmas.fresh_names.Texts.{after-dot, dotted, marks-more, marks-replicate, one-number, plain-number, stem-cut}

-- what stands before the `.`
before : ℕ → List ℕ → List ℕ
before front name = replicate (front - marks (stem_of name)) 95 ++ stem_of name

one-made : (front : ℕ) (name other : List ℕ) (y z : ℕ) → made_name front name y ≡ made_name front other z → y ≡ z
unfolding before
one-made front name other y z e = one-number y z (after-dot (before front name) (before front other) (number_text y) (number_text z) (plain-number y) (plain-number z) e)

-- it has as many `_` in front as it must have
enough : (front : ℕ) (name : List ℕ) → front ≤ marks (before front name)
unfolding before
enough front name = let h = marks-replicate (front - marks (stem_of name)) (stem_of name) in omega (arith, h)

no-argument : (front : ℕ) (argument name : List ℕ) (y : ℕ) → front_of argument ≤ front → argument ≡ made_name front name y → ⊥
unfolding before
no-argument front argument name y less e =
    let dot : has_dot argument ≡ true = ap has_dot e ∙ dotted (before front name) (number_text y) in
    let here : front_of argument ≡ marks argument + 1 = ap (λ b. cond b (marks argument + 1) 0) dot in
    let same = ap marks e in
    let more = marks-more (before front name) (46 ∷ number_text y) in
    let some = enough front name in
    omega (arith, here, same, more, some, less)

pub names-differ : NamesDiffer
names-differ names args front variable one less y z e = by (ltb y args) (ltb z args) refl refl e
  where
    by : (b c : Bool) → ltb y args ≡ b → ltb z args ≡ c → cond b (named names y) (made_name front (base_name names (variable y)) y) ≡ cond c (named names z) (made_name front (base_name names (variable z)) z) → y ≡ z
    by true true p q h = one y z (ltb-true y args p) (ltb-true z args q) h
    by true false p q h = absurd (no-argument front (named names y) (base_name names (variable z)) z (less y (ltb-true y args p)) h)
    by false true p q h = absurd (no-argument front (named names z) (base_name names (variable y)) y (less z (ltb-true z args q)) (sym h))
    by false false p q h = one-made front (base_name names (variable y)) (base_name names (variable z)) y z h

pub names-stay_short : NamesStayShort
unfolding before
names-stay_short front name y z =
    let cut : stem_of (made_name front name y) ≡ before front name = stem-cut (before front name) (number_text y) (plain-number y) in
    let none : front - marks (before front name) ≡ 0 = let h = enough front name in omega (arith, h) in
    ap (λ s. replicate (front - marks s) 95 ++ s ++ 46 ∷ number_text z) cut ∙ ap (λ n. replicate n 95 ++ before front name ++ 46 ∷ number_text z) none
