-- Answers and ways depend on what an item reads alone, and rise with what is known.
use Rattle.std.proofs.Common.{◌≡◌, ◌⊎◌, ℕ, suc, ◌<◌, Bool, true, false, cond, List, [], ◌∷◌, length, map, get_or, pos, refl, sym, ap, subst, ◌∙◌, inl, inr, ⊎_elim, arith}
use Rattle.std.specs.Prelude.{slice_index, is_some, unwrap_or}
use Rattle.std.specs.List.{AllZip, list_any}
use Rattle.std.proofs.lemmas.Bool.{cases_Bool, or_cases, or_left, or_right}
use Rattle.bril_tree.specs.declared.numbered.Instr.{Instr}
use Rattle.bril_tree.specs.declared.numbered.Instr.TheVariants.{Label, Const, Act}
use Rattle.bril_tree.specs.declared.operation.Op.TheVariants as op
use Rattle.bril_tree.specs.declared.value.Value.{Value}
use Rattle.bril_tree.specs.declared.value.Value.TheVariants.{Int}
use Rattle.bril_tree.specs.Locals.{value_at}
use Rattle.bril_tree.specs.Membership.{In}
use Rattle.bril_tree.specs.Operand.{Location, Variable, Shadow, reads_of}
use Rattle.bril_tree.specs.Outcome.{Yields, bool_of}
use Rattle.bril_tree.specs.Shape.{is_shaped, shape_of}
use Rattle.bril_tree.specs.State.{Locals}
use Rattle.bril_tree.specs.Step.{point_of}
use Rattle.bril_tree.proofs.Elements.{in_index}
use Rattle.bril_tree.proofs.Members.{in_map, in_contains}
use Rattle.bril_tree.proofs.Outcomes.{ReadAlike, action-same}
use Rattle.bril_tree.proofs.Shapes.{shape-parts}
use Rattle.constant_pass.specs.declared.constants.known.Known.{Known}
use Rattle.constant_pass.specs.declared.constants.known.Known.TheVariants.{Nothing, One, Many}
use Rattle.constant_pass.specs.constants.Known.{IsBelow, is_many, is_nothing, single}
use Rattle.constant_pass.specs.constants.Answer.{Knowledge, answer, by_operands, given, known_outcome, locals_of}
use Rattle.constant_pass.specs.constants.Ways.{chosen, item_ways}

-- ---- order

pub below-refl : (k : Known) → IsBelow k k
below-refl Nothing = tt
below-refl (One v) = refl
below-refl Many = tt

pub below-same : (k l : Known) → k ≡ l → IsBelow k l
below-same k l e = subst (IsBelow k) e (below-refl k)

pub below-many : (k : Known) → IsBelow k Many
below-many Nothing = tt
below-many (One v) = tt
below-many Many = tt

pub below-trans : (k l m : Known) → IsBelow k l → IsBelow l m → IsBelow k m
below-trans Nothing l m h g = tt
below-trans (One v) Nothing m h g = absurd h
below-trans (One v) (One w) Nothing h g = absurd g
below-trans (One v) (One w) (One u) h g = h ∙ g
below-trans (One v) (One w) Many h g = tt
below-trans (One v) Many Nothing h g = absurd g
below-trans (One v) Many (One u) h g = absurd g
below-trans (One v) Many Many h g = tt
below-trans Many Nothing m h g = absurd h
below-trans Many (One w) m h g = absurd h
below-trans Many Many m h g = g

nothing-back : (k l : Known) → IsBelow k l → is_nothing l ≡ true → is_nothing k ≡ true
nothing-back Nothing l h e = refl
nothing-back (One v) Nothing h e = absurd h
nothing-back (One v) (One w) h e = absurd cc
nothing-back (One v) Many h e = absurd cc
nothing-back Many Nothing h e = absurd h
nothing-back Many (One w) h e = absurd h
nothing-back Many Many h e = absurd cc

many-on : (k l : Known) → IsBelow k l → is_many k ≡ true → is_many l ≡ true
many-on Nothing l h e = absurd cc
many-on (One v) l h e = absurd cc
many-on Many Nothing h e = absurd h
many-on Many (One w) h e = absurd h
many-on Many Many h e = refl

-- what is neither nothing nor many stays where it doesn't become many
same-one : (k l : Known) → is_nothing k ≡ false → is_many l ≡ false → IsBelow k l → k ≡ l
same-one Nothing l n m h = absurd cc
same-one (One v) Nothing n m h = absurd h
same-one (One v) (One w) n m h = ap One h
same-one (One v) Many n m h = absurd cc
same-one Many Nothing n m h = absurd h
same-one Many (One w) n m h = absurd h
same-one Many Many n m h = refl

-- ---- tests of several

module _ (p : Known → Bool) (k : Knowledge) where
  pub any-found : (xs : List Location) → list_any p (map k xs) ≡ true → (x : Location) × In x xs × (p (k x) ≡ true)
  any-found [] e = absurd cc
  any-found (x ∷ xs) e = ⊎_elim (λ h. (x, inl refl, h)) (λ h. let r = any-found xs h in (r.0, inr r.1, r.2)) (or_cases (p (k x)) (list_any p (map k xs)) e)

  pub any-there : (xs : List Location) (x : Location) → In x xs → p (k x) ≡ true → list_any p (map k xs) ≡ true
  any-there [] x i e = absurd i
  any-there (y ∷ xs) x (inl s) e = or_left (p (k y)) (list_any p (map k xs)) (ap (λ z. p (k z)) (sym s) ∙ e)
  any-there (y ∷ xs) x (inr i) e = or_right (p (k y)) (list_any p (map k xs)) (any-there xs x i e)

  pub any-none : (xs : List Location) (x : Location) → In x xs → list_any p (map k xs) ≡ false → p (k x) ≡ false
  any-none xs x i e = ⊎_elim (λ t. absurd (let f = sym (any-there xs x i t) ∙ e in cc)) (λ f. f) (cases_Bool (p (k x)))

-- ---- answers

module _ (k l : Knowledge) (xs : List Location) (a b : Known) where
  abbrev answered : Bool → Bool → Known → Known
  answered n m c = cond n Nothing (cond m Many c)

  pub operands-rise : ((x : Location) → In x xs → IsBelow (k x) (l x)) → (((x : Location) → In x xs → k x ≡ l x) → IsBelow a b) → IsBelow (by_operands (map k xs) a) (by_operands (map l xs) b)
  operands-rise below same = by (list_any is_nothing (map k xs)) refl (list_any is_nothing (map l xs)) refl (list_any is_many (map k xs)) refl (list_any is_many (map l xs)) refl
    where
      by : (n : Bool) → list_any is_nothing (map k xs) ≡ n → (o : Bool) → list_any is_nothing (map l xs) ≡ o → (m : Bool) → list_any is_many (map k xs) ≡ m → (p : Bool) → list_any is_many (map l xs) ≡ p → IsBelow (answered n m a) (answered o p b)
      by true en o eo m em p ep = tt
      by false en true eo m em p ep = absurd (let r = any-found is_nothing l xs eo in let f = sym (any-there is_nothing k xs r.0 r.1 (nothing-back (k r.0) (l r.0) (below r.0 r.1) r.2)) ∙ en in cc)
      by false en false eo true em true ep = tt
      by false en false eo true em false ep = absurd (let r = any-found is_many k xs em in let f = sym (any-there is_many l xs r.0 r.1 (many-on (k r.0) (l r.0) (below r.0 r.1) r.2)) ∙ ep in cc)
      by false en false eo false em true ep = below-many a
      by false en false eo false em false ep = same (λ x i. same-one (k x) (l x) (any-none is_nothing k xs x i en) (any-none is_many l xs x i ep) (below x i))

zip-self : {A : Type 0} (R : A → A → Type 0) (xs : List A) → ((x : A) → In x xs → R x x) → AllZip R xs xs
zip-self R [] h = tt
zip-self R (x ∷ xs) h = (h x (inl refl), zip-self R xs (λ y i. h y (inr i)))

-- what an item gives depends on what it reads alone
pub given-same : (returns : Bool) (item : Instr) (p q : Locals) → is_shaped returns item ≡ true → ((x : Location) → In x (reads_of item) → value_at p x ≡ value_at q x) → given item p ≡ given item q
given-same returns (Label n) p q s h = refl
given-same returns (Const d ty v) p q s h = refl
given-same returns (Act d ty op.Set args fs ls) p q s h = ap Yields (h (Variable (slice_index args 1)) (inl refl))
given-same returns (Act d ty o args fs ls) p q s h = action-same p q returns o d d ty args args (length fs) (length ls) s refl (zip-self (ReadAlike p q) (reads_of (Act d ty o args fs ls)) h)

pub value-same : (k l : Knowledge) (x : Location) → k x ≡ l x → value_at (locals_of k) x ≡ value_at (locals_of l) x
value-same k l (Variable x) e = ap (λ (a : Known). unwrap_or (single a) (Int (pos 0))) e
value-same k l (Shadow x) e = ap (λ (a : Known). unwrap_or (single a) (Int (pos 0))) e

map-same : (k l : Knowledge) (xs : List Location) → ((x : Location) → In x xs → k x ≡ l x) → map k xs ≡ map l xs
map-same k l [] h = refl
map-same k l (x ∷ xs) h = λ i. h x (inl refl) i ∷ map-same k l xs (λ y j. h y (inr j)) i

module _ (returns : Bool) (item : Instr) (shaped : is_shaped returns item ≡ true) (k l : Knowledge) where
  outcome-same : ((x : Location) → In x (reads_of item) → k x ≡ l x) → known_outcome (given item (locals_of k)) ≡ known_outcome (given item (locals_of l))
  outcome-same h = ap known_outcome (given-same returns item (locals_of k) (locals_of l) shaped (λ x i. value-same k l x (h x i)))

  pub answer-same : ((x : Location) → In x (reads_of item) → k x ≡ l x) → answer k item ≡ answer l item
  answer-same h = ap (λ ks. by_operands ks (known_outcome (given item (locals_of k)))) (map-same k l (reads_of item) h) ∙ ap (by_operands (map l (reads_of item))) (outcome-same h)

  pub answer-rises : ((x : Location) → In x (reads_of item) → IsBelow (k x) (l x)) → IsBelow (answer k item) (answer l item)
  answer-rises below = operands-rise k l (reads_of item) (known_outcome (given item (locals_of k))) (known_outcome (given item (locals_of l))) below (λ same. below-same (known_outcome (given item (locals_of k))) (known_outcome (given item (locals_of l))) (outcome-same same))

-- ---- ways

one-of-two : (b : Bool) (to first second : ℕ) → In to (cond b first second ∷ []) → In to (first ∷ second ∷ [])
one-of-two true to first second (inl e) = inl e
one-of-two true to first second (inr i) = absurd i
one-of-two false to first second (inl e) = inr (inl e)
one-of-two false to first second (inr i) = absurd i

chosen-rises : (k l : Known) (to first second : ℕ) → IsBelow k l → In to (chosen k first second) → In to (chosen l first second)
chosen-rises Nothing l to first second h i = absurd i
chosen-rises (One v) Nothing to first second h i = absurd h
chosen-rises (One v) (One w) to first second h i = subst (λ (u : Value). In to (cond (bool_of u) first second ∷ [])) h i
chosen-rises (One v) Many to first second h i = one-of-two (bool_of v) to first second i
chosen-rises Many Nothing to first second h i = absurd h
chosen-rises Many (One w) to first second h i = absurd h
chosen-rises Many Many to first second h i = i

pub ways-rise : (k l : Knowledge) (code : List Instr) (point : ℕ) (item : Instr) (to : ℕ) → ((x : Location) → IsBelow (k x) (l x)) → In to (item_ways k code point item) → In to (item_ways l code point item)
ways-rise k l code point (Label n) to below i = i
ways-rise k l code point (Const d ty v) to below i = i
ways-rise k l code point (Act d ty op.Br args fs ls) to below i = chosen-rises (k (Variable (slice_index args 0))) (l (Variable (slice_index args 0))) to _ _ (below (Variable (slice_index args 0))) i
ways-rise k l code point (Act d ty op.Guard args fs ls) to below i = chosen-rises (k (Variable (slice_index args 0))) (l (Variable (slice_index args 0))) to _ _ (below (Variable (slice_index args 0))) i
ways-rise k l code point (Act d ty o args fs ls) to below i = i

pub first-read : (args : List ℕ) → length args ≡ 1 → In (Variable (slice_index args 0)) (map Variable args)
first-read args one = in_map Variable (slice_index args 0) args (in_index args 0 (omega arith))

pub ways-same : (returns : Bool) (k l : Knowledge) (code : List Instr) (point : ℕ) (item : Instr) → is_shaped returns item ≡ true → ((x : Location) → In x (reads_of item) → k x ≡ l x) → item_ways k code point item ≡ item_ways l code point item
ways-same returns k l code point (Label n) s h = refl
ways-same returns k l code point (Const d ty v) s h = refl
ways-same returns k l code point (Act d ty op.Br args fs ls) s h =
    ap (λ c. chosen c (point_of (slice_index ls 0) code) (point_of (slice_index ls 1) code)) (h (Variable (slice_index args 0)) (first-read args (shape-parts (shape_of returns op.Br) (is_some d) (length args) (length fs) (length ls) s).args_are))
ways-same returns k l code point (Act d ty op.Guard args fs ls) s h =
    ap (λ c. chosen c (suc point) (point_of (slice_index ls 0) code)) (h (Variable (slice_index args 0)) (first-read args (shape-parts (shape_of returns op.Guard) (is_some d) (length args) (length fs) (length ls) s).args_are))
ways-same returns k l code point (Act d ty o args fs ls) s h = refl

-- an argument passes a test
pub any-at : (p : Known → Bool) (k : Knowledge) (args : List ℕ) (i x : ℕ) → i < length args → get_or args i x ≡ x → p (k (Variable x)) ≡ true → list_any p (map k (map Variable args)) ≡ true
any-at p k args i x low e t = any-there p k (map Variable args) (Variable x) (in_map Variable x args (in_contains x args (i, low, e))) t
