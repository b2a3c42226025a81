-- The texts that names are made of.
use Rattle.std.proofs.Common.{◌≡◌, ℕ, zero, suc, ◌+◌, ◌-◌, ◌<◌, ◌≤◌, ◌^◌, Bool, true, false, cond, ◌&&◌, ◌||◌, List, [], ◌∷◌, ◌++◌, length, map, take, get_or, eqb, refl, sym, ap, ap₂, subst, ◌∙◌, ◌⊎◌, ⊎_elim, arith}
use Rattle.std.specs.Prelude.{replicate, not}
use Rattle.std.specs.Fmt.{decimal}
use Rattle.std.specs.Int.Digits.{digits_of}
use Rattle.std.specs.List.{list_all}
use Rattle.std.proofs.lemmas.Bool.{and_parts, eqb-true, and_right, or_right}
use Rattle.std.proofs.Math.Seq.{take-append_seam}
use Rattle.std.proofs.lemmas.Fmt.{decimal_digit, decimal-digits_of}
use Rattle.std.proofs.lemmas.Int.Digits.{first_digits_of, same_from_digits_of}
use Rattle.std.proofs.lemmas.List.{get_or-map}
use borrow.Author.Count.{below_more}
use Rattle.bril_tree.specs.declared.numbered.VarInfo.{VarInfo}
use Rattle.bril_tree.specs.Identifier.{begins_identifier, continues_identifier, is_identifier}
use Rattle.bril_tree.specs.Numbered.{named, variable_names}
use Rattle.bril_tree.proofs.Identifiers.{both_continue, decimal_continues, identifier_continues, longer_identifier, underscores_continue}
use Rattle.ssa_build.specs.fresh_names.Names.{front_of, has_dot, made_name, marks, number_text, stem_end, stem_of}

-- ---- decimals

pub number-decimal : (y : ℕ) → y < 2 ^ 64 → number_text y ≡ decimal y
number-decimal zero small = sym (decimal_digit 0 (omega arith))
number-decimal (suc n) small = sym (decimal-digits_of (suc n) (omega arith) small)

-- ---- the last `.`

abbrev pub plain : List ℕ → Bool
plain xs = list_all (λ byte. not (eqb byte 46)) xs

plain-dot : (ys es : List ℕ) → plain (ys ++ 46 ∷ es) ≡ false
plain-dot [] es = refl
plain-dot (y ∷ ys) es = ap (λ b. not (eqb y 46) && b) (plain-dot ys es) ∙ and_right (not (eqb y 46)) false refl

never : (ds ys es : List ℕ) → plain ds ≡ true → ds ≡ ys ++ 46 ∷ es → ⊥
never ds ys es p e = let h : true ≡ false = sym p ∙ ap plain e ∙ plain-dot ys es in cc

pub after-dot : (xs ys ds es : List ℕ) → plain ds ≡ true → plain es ≡ true → xs ++ 46 ∷ ds ≡ ys ++ 46 ∷ es → ds ≡ es
after-dot [] [] ds es p q e = cc
after-dot [] (y ∷ ys) ds es p q e = let tail : ds ≡ ys ++ 46 ∷ es = cc in absurd (never ds ys es p tail)
after-dot (x ∷ xs) [] ds es p q e = let tail : xs ++ 46 ∷ ds ≡ es = cc in absurd (never es xs ds q (sym tail))
after-dot (x ∷ xs) (y ∷ ys) ds es p q e = let tail : xs ++ 46 ∷ ds ≡ ys ++ 46 ∷ es = cc in after-dot xs ys ds es p q tail

plain-digits : (ds : List ℕ) → plain (map (λ d. 48 + d) ds) ≡ true
plain-digits [] = refl
plain-digits (d ∷ ds) = ap₂ (λ (a b : Bool). a && b) (by (eqb (48 + d) 46) refl) (plain-digits ds)
  where
    by : (b : Bool) → eqb (48 + d) 46 ≡ b → not b ≡ true
    by true e = absurd (let h = eqb-true (48 + d) 46 e in omega arith)
    by false e = refl

pub plain-number : (y : ℕ) → plain (number_text y) ≡ true
plain-number zero = refl
plain-number (suc n) = plain-digits (digits_of 10 (suc n))

-- ---- numbers of different texts

no-zero : (ds : List ℕ) → 0 < get_or ds 0 0 → 48 ∷ [] ≡ map (λ d. 48 + d) ds → ⊥
no-zero [] some e = omega arith
no-zero (d ∷ ds) some e = let h : ◌≡◌ {A = ℕ} 48 (48 + d) = cc in omega (arith, h, some)

one-map : (xs ys : List ℕ) → map (λ d. 48 + d) xs ≡ map (λ d. 48 + d) ys → xs ≡ ys
one-map [] [] e = refl
one-map [] (y ∷ ys) e = absurd cc
one-map (x ∷ xs) [] e = absurd cc
one-map (x ∷ xs) (y ∷ ys) e =
    let h : ◌≡◌ {A = ℕ} (48 + x) (48 + y) = cc in
    let t : map (λ d. 48 + d) xs ≡ map (λ d. 48 + d) ys = cc in
    let head : x ≡ y = omega (arith, h) in
    let tail = one-map xs ys t in
    λ i. head i ∷ tail i

pub one-number : (y z : ℕ) → number_text y ≡ number_text z → y ≡ z
one-number zero zero e = refl
one-number zero (suc n) e = absurd (no-zero (digits_of 10 (suc n)) (first_digits_of 10 (suc n) (omega arith) (omega arith)) e)
one-number (suc n) zero e = absurd (no-zero (digits_of 10 (suc n)) (first_digits_of 10 (suc n) (omega arith) (omega arith)) (sym e))
one-number (suc m) (suc n) e = same_from_digits_of 10 (suc m) (suc n) (omega arith) (one-map (digits_of 10 (suc m)) (digits_of 10 (suc n)) e)

-- ---- what a name begins with

pub marks-replicate : (k : ℕ) (xs : List ℕ) → marks (replicate k 95 ++ xs) ≡ k + marks xs
marks-replicate zero xs = omega arith
marks-replicate (suc k) xs = let h = marks-replicate k xs in omega (arith, h)

pub marks-more : (xs ys : List ℕ) → marks xs ≤ marks (xs ++ ys)
marks-more [] ys = omega arith
marks-more (x ∷ xs) ys = by (eqb x 95) (marks-more xs ys)
  where
    by : (b : Bool) → marks xs ≤ marks (xs ++ ys) → cond b (suc (marks xs)) 0 ≤ cond b (suc (marks (xs ++ ys))) 0
    by true h = omega arith
    by false h = omega arith

pub dotted : (xs ds : List ℕ) → has_dot (xs ++ 46 ∷ ds) ≡ true
dotted [] ds = refl
dotted (x ∷ xs) ds = ap (λ b. eqb x 46 || b) (dotted xs ds) ∙ or_right (eqb x 46) true refl

-- ---- stems

end-plain : (p e : ℕ) (ds : List ℕ) → plain ds ≡ true → stem_end p e ds ≡ e
end-plain p e [] h = refl
end-plain p e (d ∷ ds) h = by (eqb d 46) refl (end-plain (p + 1) e ds parts.1)
  where
    parts : (not (eqb d 46) ≡ true) × (plain ds ≡ true)
    parts = and_parts (not (eqb d 46)) (plain ds) h

    by : (b : Bool) → eqb d 46 ≡ b → stem_end (p + 1) e ds ≡ e → stem_end (p + 1) (cond b p e) ds ≡ e
    by true q rest = absurd (let h : false ≡ true = sym (ap not q) ∙ parts.0 in cc)
    by false q rest = rest

end-dot : (p e : ℕ) (xs ds : List ℕ) → plain ds ≡ true → stem_end p e (xs ++ 46 ∷ ds) ≡ p + length xs
end-dot p e [] ds h = end-plain (p + 1) p ds h ∙ omega arith
end-dot p e (x ∷ xs) ds h = end-dot (p + 1) (cond (eqb x 46) p e) xs ds h ∙ omega arith

pub stem-cut : (xs ds : List ℕ) → plain ds ≡ true → stem_of (xs ++ 46 ∷ ds) ≡ xs
stem-cut xs ds h = ap (λ n. take n (xs ++ 46 ∷ ds)) (end-dot 0 (length (xs ++ 46 ∷ ds)) xs ds h ∙ omega arith) ∙ take-append_seam xs (46 ∷ ds)

-- ---- identifiers

some-end : (p e : ℕ) (bs : List ℕ) → 0 < p → 0 < e → 0 < stem_end p e bs
some-end p e [] low some = some
some-end p e (b ∷ bs) low some = some-end (p + 1) (cond (eqb b 46) p e) bs (omega arith) (by (eqb b 46))
  where
    by : (c : Bool) → 0 < cond c p e
    by true = low
    by false = some

takes : (n : ℕ) (bs : List ℕ) → list_all continues_identifier bs ≡ true → list_all continues_identifier (take n bs) ≡ true
takes zero bs e = refl
takes (suc n) [] e = refl
takes (suc n) (b ∷ bs) e =
    let parts = and_parts (continues_identifier b) (list_all continues_identifier bs) e in
    ap₂ (λ (a c : Bool). a && c) parts.0 (takes n bs parts.1)

ident-take : (n : ℕ) (b : ℕ) (bs : List ℕ) → 0 < n → is_identifier (b ∷ bs) ≡ true → is_identifier (take n (b ∷ bs)) ≡ true
ident-take zero b bs some e = absurd (omega arith)
ident-take (suc n) b bs some e =
    let parts = and_parts (begins_identifier b) (list_all continues_identifier bs) e in
    ap₂ (λ (a c : Bool). a && c) parts.0 (takes n bs parts.1)

ident-stem : (name : List ℕ) → is_identifier name ≡ true → is_identifier (stem_of name) ≡ true
ident-stem [] e = absurd (let h : false ≡ true = e in cc)
ident-stem (b ∷ bs) e = ident-take (stem_end 0 (length (b ∷ bs)) (b ∷ bs)) b bs (by (eqb b 46) refl) e
  where
    by : (c : Bool) → eqb b 46 ≡ c → 0 < stem_end 1 (cond c 0 (length (b ∷ bs))) bs
    by true q = absurd (let h : false ≡ true = ap begins_identifier (sym (eqb-true b 46 q)) ∙ (and_parts (begins_identifier b) (list_all continues_identifier bs) e).0 in cc)
    by false q = some-end 1 (length (b ∷ bs)) bs (omega arith) (omega arith)

ident-front : (k : ℕ) (name : List ℕ) → is_identifier name ≡ true → is_identifier (replicate k 95 ++ name) ≡ true
ident-front zero name e = e
ident-front (suc k) name e = both_continue (replicate k 95) name (underscores_continue k) (identifier_continues name e)

pub made-ident : (front : ℕ) (name : List ℕ) (y : ℕ) → y < 2 ^ 64 → is_identifier name ≡ true → is_identifier (made_name front name y) ≡ true
made-ident front name y small e =
    longer_identifier (replicate (front - marks (stem_of name)) 95 ++ stem_of name) (46 ∷ number_text y) (ident-front (front - marks (stem_of name)) (stem_of name) (ident-stem name e))
    (subst (λ t. list_all continues_identifier (46 ∷ t) ≡ true) (sym (number-decimal y small)) (decimal_continues y small))

-- ---- the names of variables

pub front-at : (vars : List VarInfo) (x : ℕ) (v : VarInfo) (bytes : List ℕ) (needed : ℕ) → x < length vars → bytes ≡ (get_or vars x v).name → needed ≡ front_of bytes → needed ≡ front_of (named (variable_names vars) x)
front-at vars x v bytes needed low is e = e ∙ ap front_of (is ∙ sym (get_or-map (λ (w : VarInfo). w.name) vars x v [] low))

-- one more argument
pub front-more : (f : ℕ → ℕ) (n front needed new : ℕ) → needed ≡ f n → ((x : ℕ) → x < n → f x ≤ front) × ((m : ℕ) → ((x : ℕ) → x < n → f x ≤ m) → front ≤ m) → front ≤ new → needed ≤ new → (new ≡ front) ⊎ (new ≡ needed)
    → ((x : ℕ) → x < n + 1 → f x ≤ new) × ((m : ℕ) → ((x : ℕ) → x < n + 1 → f x ≤ m) → new ≤ m)
front-more f n front needed new e inv more here is = (
  below_more (λ x. f x ≤ new) n (λ x low. let h = inv.0 x low in omega (arith, h)) (omega arith),
  λ m all. let h = inv.1 m (λ x low. all x (omega arith)) in let last = all n (omega arith) in ⊎_elim (λ q. omega (arith, q, h)) (λ q. omega (arith, q, last)) is,
)
