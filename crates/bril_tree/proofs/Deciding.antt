-- Whether two items are equal is decided.
use Rattle.std.proofs.Common.{◌≡◌, ◌⊎◌, ℕ, Bool, true, false, List, [], ◌∷◌, Option, Some, None, Decides, refl, sym, ap, ◌∙◌, inl, inr, ⊎_elim}
use Rattle.std.specs.Prelude.{ℤ}
use Rattle.std.specs.Ordering.{int_eq}
use Rattle.std.proofs.lemmas.Bool.{cases_eq}
use Rattle.std.proofs.lemmas.Bool.Decides.{Decides-int_eq}
use Rattle.std.proofs.lemmas.Option.{same_Some}
use Rattle.bril_tree.specs.declared.numbered.Instr.{Instr}
use Rattle.bril_tree.specs.declared.numbered.Instr.TheVariants.{Label, Const, Act}
use Rattle.bril_tree.specs.declared.operation.Op.{Op}
use Rattle.bril_tree.specs.declared.types.Base.{Base}
use Rattle.bril_tree.specs.declared.types.Base.TheVariants as base
use Rattle.bril_tree.specs.declared.types.Ty.{Ty}
use Rattle.bril_tree.specs.declared.value.Lit.{Lit}
use Rattle.bril_tree.specs.declared.value.Lit.TheVariants as literal
use Rattle.bril_tree.specs.Spelling.{operation_text, operation_of}
use Rattle.bril_tree.proofs.Equal.{Ty-equal}
use Rattle.bril_tree.proofs.Named.{named_is_found}

abbrev pub Decided : Type 0 → Type 0
Decided X = X ⊎ (X → ⊥)

-- ---- bools, integers, options and lists

pub same-bool : (b c : Bool) → Decided (b ≡ c)
same-bool true true = inl refl
same-bool true false = inr (λ e. cc)
same-bool false true = inr (λ e. cc)
same-bool false false = inl refl

pub same-integer : (m n : ℤ) → Decided (m ≡ n)
same-integer m n = by (int_eq m n) (Decides-int_eq m n)
  where
    by : (b : Bool) → Decides b (m ≡ n) → Decided (m ≡ n)
    by true d = inl (d.0 refl)
    by false d = inr (λ e. let h = d.1 e in cc)

module _ {X : Type 0} (same : (x y : X) → Decided (x ≡ y)) where
  pub same-option : (o u : Option X) → Decided (o ≡ u)
  same-option None None = inl refl
  same-option None (Some y) = inr (λ e. cc)
  same-option (Some x) None = inr (λ e. cc)
  same-option (Some x) (Some y) = ⊎_elim (λ e. inl (ap Some e)) (λ n. inr (λ e. n (same_Some x y e))) (same x y)

  pub same-list : (xs ys : List X) → Decided (xs ≡ ys)
  same-list [] [] = inl refl
  same-list [] (y ∷ ys) = inr (λ e. cc)
  same-list (x ∷ xs) [] = inr (λ e. cc)
  same-list (x ∷ xs) (y ∷ ys) = by (same x y) (same-list xs ys)
    where
      by : Decided (x ≡ y) → Decided (xs ≡ ys) → Decided (x ∷ xs ≡ y ∷ ys)
      by (inl e) (inl f) = inl (λ i. e i ∷ f i)
      by (inl e) (inr n) = inr (λ h. n cc)
      by (inr n) f = inr (λ h. n cc)

-- ---- the parts of items

-- by their names
pub same-operation : (o u : Op) → Decided (o ≡ u)
same-operation o u = ⊎_elim (λ e. inl (same_Some o u (sym (named_is_found o) ∙ ap operation_of e ∙ named_is_found u))) (λ n. inr (λ e. n (ap operation_text e))) (same-list cases_eq (operation_text o) (operation_text u))

same-base : (a b : Base) → Decided (a ≡ b)
same-base base.Int base.Int = inl refl
same-base base.Bool base.Bool = inl refl
same-base base.Char base.Char = inl refl
same-base _ _ = inr (λ e. cc)

pub same-type : (s t : Ty) → Decided (s ≡ t)
same-type s t = by (cases_eq s.depth t.depth) (same-base s.base t.base)
  where
    by : Decided (s.depth ≡ t.depth) → Decided (s.base ≡ t.base) → Decided (s ≡ t)
    by (inl d) (inl b) = inl (Ty-equal s t d b)
    by (inl d) (inr n) = inr (λ e. n (ap (λ (x : Ty). x.base) e))
    by (inr n) b = inr (λ e. n (ap (λ (x : Ty). x.depth) e))

pub same-literal : (a b : Lit) → Decided (a ≡ b)
same-literal (literal.Int m) (literal.Int n) = ⊎_elim (λ e. inl (ap literal.Int e)) (λ d. inr (λ e. d cc)) (same-integer m n)
same-literal (literal.Bool b) (literal.Bool c) = ⊎_elim (λ e. inl (ap literal.Bool e)) (λ d. inr (λ e. d cc)) (same-bool b c)
same-literal (literal.Char m) (literal.Char n) = ⊎_elim (λ e. inl (ap literal.Char e)) (λ d. inr (λ e. d cc)) (cases_eq m n)
same-literal _ _ = inr (λ e. cc)

-- ---- items

-- an item by its kind, its numbers and its other parts
const-same : (x y : ℕ) (s t : Ty) (v w : Lit) → Decided (x ≡ y) → Decided (s ≡ t) → Decided (v ≡ w) → Decided (Const x s v ≡ Const y t w)
const-same x y s t v w (inl a) (inl b) (inl c) = inl (λ i. Const (a i) (b i) (c i))
const-same x y s t v w (inl a) (inl b) (inr n) = inr (λ e. n cc)
const-same x y s t v w (inl a) (inr n) c = inr (λ e. n cc)
const-same x y s t v w (inr n) b c = inr (λ e. n cc)

module _ (d e : Option ℕ) (s t : Option Ty) (o u : Op) where
  act-same : (args result_args funcs gns labels result_labels : List ℕ) → Decided (d ≡ e) → Decided (s ≡ t) → Decided (o ≡ u) → Decided (args ≡ result_args) → Decided (funcs ≡ gns) → Decided (labels ≡ result_labels)
      → Decided (Act d s o args funcs labels ≡ Act e t u result_args gns result_labels)
  act-same xs ys fs gs ls ms (inl a) (inl b) (inl c) (inl g) (inl h) (inl k) = inl (λ i. Act (a i) (b i) (c i) (g i) (h i) (k i))
  act-same xs ys fs gs ls ms (inr n) b c g h k = inr (λ z. n cc)
  act-same xs ys fs gs ls ms (inl a) (inr n) c g h k = inr (λ z. n cc)
  act-same xs ys fs gs ls ms (inl a) (inl b) (inr n) g h k = inr (λ z. n cc)
  act-same xs ys fs gs ls ms (inl a) (inl b) (inl c) (inr n) h k = inr (λ z. n cc)
  act-same xs ys fs gs ls ms (inl a) (inl b) (inl c) (inl g) (inr n) k = inr (λ z. n cc)
  act-same xs ys fs gs ls ms (inl a) (inl b) (inl c) (inl g) (inl h) (inr n) = inr (λ z. n cc)

pub same-item : (a b : Instr) → Decided (a ≡ b)
same-item (Label l) (Label m) = ⊎_elim (λ e. inl (ap Label e)) (λ n. inr (λ e. n cc)) (cases_eq l m)
same-item (Const x s v) (Const y t w) = const-same x y s t v w (cases_eq x y) (same-type s t) (same-literal v w)
same-item (Act d s o xs fs ls) (Act e t u ys gs ms) =
    act-same d e s t o u xs ys fs gs ls ms (same-option cases_eq d e) (same-option same-type s t) (same-operation o u) (same-list cases_eq xs ys) (same-list cases_eq fs gs) (same-list cases_eq ls ms)
same-item (Label l) (Const y t w) = inr (λ e. cc)
same-item (Label l) (Act d t u ys gs ms) = inr (λ e. cc)
same-item (Const x s v) (Label m) = inr (λ e. cc)
same-item (Const x s v) (Act d t u ys gs ms) = inr (λ e. cc)
same-item (Act d s o xs fs ls) (Label m) = inr (λ e. cc)
same-item (Act d s o xs fs ls) (Const y t w) = inr (λ e. cc)
