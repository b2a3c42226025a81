-- New names by classes, as a function on names, and what classes say of it.
use Rattle.std.proofs.Common.{◌≡◌, ◌≢◌, ℕ, zero, suc, ◌<◌, Bool, true, false, cond, ◌&&◌, eqb, List, [], ◌∷◌, length, map, Some, refl, sym, ap, ◌∙◌, ⊎_elim, arith}
use Rattle.std.specs.Prelude.{slice_get}
use Rattle.std.specs.List.{AllPairs, Contains}
use Rattle.std.proofs.lemmas.Bool.{and_parts, cases_lt, eq-eqb, eqb-true}
use Rattle.std.proofs.lemmas.List.{length-map}
use Rattle.bril_tree.specs.declared.numbered.VarInfo.{VarInfo}
use Rattle.bril_tree.specs.declared.numbered_function.Func.{Func}
use Rattle.bril_tree.specs.declared.program.Prog.{Prog}
use Rattle.bril_tree.specs.Numbered.{named, names_in, variable_names}
use Rattle.bril_names.proofs.Functions.{Differ-variables}
use Rattle.bril_names.proofs.Naming.{one_number}
use Rattle.variable_renaming.specs.Apart.{source_of}
use Rattle.variable_renaming.proofs.Names.{named-map}
use Rattle.variable_renaming.specs.Renamed.{IsSound, KeepsNames, name_of, new_name}
use Rattle.variable_renaming.specs.Classes.{AreSoundClasses, class_of, source_at}
use Rattle.variable_renaming.specs.Clashes.{Clashes}
use Rattle.variable_renaming.specs.Made.{NamesClasses}
use Rattle.variable_renaming.proofs.Editing.{outside}

-- ---- names

same_name : List ℕ → List ℕ → Bool
same_name [] [] = true
same_name [] (y ∷ ys) = false
same_name (x ∷ xs) [] = false
same_name (x ∷ xs) (y ∷ ys) = eqb x y && same_name xs ys

name-own : (n : List ℕ) → same_name n n ≡ true
unfolding same_name
name-own [] = refl
name-own (x ∷ xs) = ap (λ b. b && same_name xs xs) (eq-eqb x x refl) ∙ name-own xs

name-is : (n m : List ℕ) → same_name n m ≡ true → n ≡ m
unfolding same_name
name-is [] [] e = refl
name-is [] (y ∷ ys) e = absurd cc
name-is (x ∷ xs) [] e = absurd cc
name-is (x ∷ xs) (y ∷ ys) e = let p = and_parts (eqb x y) (same_name xs ys) e in let h = eqb-true x y p.0 in let t = name-is xs ys p.1 in λ i. h i ∷ t i

-- the name beside this one in a second list; it stays where it isn't in the first
pub renamed_by : List (List ℕ) → List (List ℕ) → List ℕ → List ℕ
renamed_by [] news n = n
renamed_by (v ∷ names) [] n = n
renamed_by (v ∷ names) (w ∷ news) n = cond (same_name v n) w (renamed_by names news n)

differ-rest : (v : List ℕ) (names : List (List ℕ)) → AllPairs (λ a b. a ≢ b) (v ∷ names) → AllPairs (λ a b. a ≢ b) names
differ-rest v names differ i j d less inside = differ (suc i) (suc j) d (omega arith) (omega arith)

by_test : (b : Bool) (w m : List ℕ) → b ≡ false → cond b w m ≡ m
by_test true w m e = absurd cc
by_test false w m e = refl

-- a name that isn't in the list stays
pub renamed-other : (names news : List (List ℕ)) (n : List ℕ) → ¬ Contains names n → renamed_by names news n ≡ n
unfolding renamed_by
renamed-other [] news n lacks = refl
renamed-other (v ∷ names) [] n lacks = refl
renamed-other (v ∷ names) (w ∷ news) n lacks = by_test (same_name v n) w (renamed_by names news n) (other (same_name v n) refl) ∙ renamed-other names news n (λ c. lacks (suc c.0, (let l = c.1 in omega arith), c.2))
  where
    other : (b : Bool) → same_name v n ≡ b → b ≡ false
    other true e = absurd (lacks (0, omega arith, name-is v n e))
    other false e = refl

pub renamed-is : (names news : List (List ℕ)) → AllPairs (λ a b. a ≢ b) names → length names ≡ length news → (x : ℕ) → x < length names → renamed_by names news (named names x) ≡ named news x
unfolding renamed_by
renamed-is [] news differ long x less = absurd (omega arith)
renamed-is (v ∷ names) [] differ long x less = absurd (omega arith)
renamed-is (v ∷ names) (w ∷ news) differ long zero less = ap (λ b. cond b w (renamed_by names news v)) (name-own v)
renamed-is (v ∷ names) (w ∷ news) differ long (suc x) less = by_test (same_name v (named names x)) w (renamed_by names news (named names x)) (other (same_name v (named names x)) refl) ∙ renamed-is names news (differ-rest v names differ) (omega arith) x (omega arith)
  where
    other : (b : Bool) → same_name v (named names x) ≡ b → b ≡ false
    other true e = absurd (differ 0 (suc x) [] (omega arith) less (name-is v (named names x) e))
    other false e = refl

-- ---- classes

module _ (P : Prog) (f : ℕ) (F : Func) (p : slice_get P.funcs f ≡ Some F) (class : List ℕ) (are : AreSoundClasses F class) (news : List (List ℕ)) (n : NamesClasses F class news) where
  abbrev V : List (List ℕ)
  V = variable_names F.vars

  abbrev pub rename : List ℕ → List ℕ
  rename = renamed_by V news

  size : length V ≡ length F.vars
  size = length-map F.vars (λ (v : VarInfo). v.name)

  -- the new name of a variable is that of its class
  pub has-name : (x : ℕ) → x < length F.vars → rename (name_of F x) ≡ name_of F (class_of class x)
  has-name x less = renamed-is V news (Differ-variables F) (size ∙ sym n.long) x (let s = size in omega arith) ∙ n.names x less

  pub new-is : (x : ℕ) → x < length F.vars → new_name P f rename x ≡ named V (class_of class x)
  new-is x less = ap (λ o. rename (named (names_in o) x)) p ∙ has-name x less

  same-class : (x y : ℕ) → x < length F.vars → y < length F.vars → named V (class_of class x) ≡ named V (class_of class y) → class_of class x ≡ class_of class y
  same-class x y a b e =
      let s = size in
      let i = are.inside x a in
      let j = are.inside y b in
      one_number V (Differ-variables F) (class_of class x) (class_of class y) (omega arith) (omega arith) e

  pub one-class : (x y : ℕ) → x < length F.vars → y < length F.vars → new_name P f rename x ≡ new_name P f rename y → class_of class x ≡ class_of class y
  one-class x y a b e = same-class x y a b (sym (new-is x a) ∙ e ∙ new-is y b)

  pub one-name : (x y : ℕ) → x < length F.vars → y < length F.vars → rename (name_of F x) ≡ rename (name_of F y) → class_of class x ≡ class_of class y
  one-name x y a b e = same-class x y a b (sym (has-name x a) ∙ e ∙ has-name y b)

  -- what is of a class of the function's variables is one of them
  of-function : (z x : ℕ) → x < length F.vars → class_of class z ≡ class_of class x → z < length F.vars
  of-function z x a e = ⊎_elim (λ l. l) (λ high. let own : class_of class z ≡ z = outside class z z (omega (arith, are.long)) in let i = are.inside x a in omega (arith, own, e)) (cases_lt z (length F.vars))

  pub classes-named : KeepsNames F rename
  classes-named = record {
    arguments = λ x less. let few = F.formed.few_args in has-name x (omega arith) ∙ ap (named V) (are.arguments x less);
    own = λ x less. (class_of class x, are.inside x less, has-name x less, has-name (class_of class x) (are.inside x less) ∙ ap (named V) (are.named x));
  }

  pub classes-sound : IsSound P f F rename
  classes-sound x y a b differ same =
      let m = are.joined x y differ (one-class x y a b same) in
      record {
        types = m.types;
        shadows = λ h k. m.shadows h k;
        spares = λ point item reached at dest other live.
            let clash : Clashes F.code point x y = record { reached = reached; instr = item; at = at; dest = dest; differ = differ; other = λ source. other y source (sym same); live = live } in
            let z = m.spares point clash in
            let source : source_of item ≡ Some z.0 = sym (ap source_at at) ∙ z.1 in
            other z.0 source (new-is z.0 (of-function z.0 x a z.2) ∙ ap (named V) z.2 ∙ sym (new-is x a));
      }

  -- the list of the new names
  pub names-renamed : map rename V ≡ news
  names-renamed = same-list (map rename V) news (length-map V rename ∙ size ∙ sym n.long) (λ x low. named-map rename V x (let l = length-map V rename in omega arith) ∙ renamed-is V news (Differ-variables F) (size ∙ sym n.long) x (let l = length-map V rename in omega arith))
    where
      same-list : (xs ys : List (List ℕ)) → length xs ≡ length ys → ((x : ℕ) → x < length xs → named xs x ≡ named ys x) → xs ≡ ys
      same-list [] [] e h = refl
      same-list [] (y ∷ ys) e h = absurd (omega arith)
      same-list (x ∷ xs) [] e h = absurd (omega arith)
      same-list (x ∷ xs) (y ∷ ys) e h = let a : x ≡ y = h 0 (omega arith) in let b = same-list xs ys (omega arith) (λ k low. h (suc k) (omega arith)) in λ i. a i ∷ b i
