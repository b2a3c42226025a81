-- Spelled values fit their types, and a word spells one value of a type at most.
use Rattle.std.proofs.Common.{◌≡◌, ℕ, zero, suc, Bool, true, false, List, [], ◌∷◌, ◌++◌, length, Option, None, Some, refl, sym, ap, ◌∙◌, subst, append-nil, arith}
use Rattle.std.specs.Prelude.{slice_get, encode_utf8}
use Rattle.std.specs.List.{AllZip}
use Rattle.std.proofs.lemmas.Str.{encode_same}
use Rattle.bril_nums.proofs.IntText.{IsInt-one}
use Rattle.bril_tree.specs.Run.{Suits}
use Rattle.bril_tree.specs.Value.{IsInRange, IsOfBase, IsOfDepth, bool_text}
use Rattle.bril_tree.specs.declared.types.Base.{Base}
use Rattle.bril_tree.specs.declared.types.Base.TheVariants as base
use Rattle.bril_tree.specs.declared.types.Ty.{Ty}
use Rattle.bril_tree.specs.declared.value.Value.{Value}
use Rattle.bril_tree.specs.declared.value.Value.TheVariants.{Int, Bool as Boolean, Char}
use Rattle.bril_arguments.specs.Spelled.{IsSpelledOfBase, IsSpelledAt, IsSpelled, AreSpelled}

-- ---- the values fit

suits_of_base : (b : Base) (word : List ℕ) (v : Value) → IsSpelledOfBase b word v → IsInRange v × IsOfBase b v
suits_of_base base.Int word v h = subst (λ u. IsInRange u × IsOfBase base.Int u) (sym h.1) (h.3, tt)
suits_of_base base.Bool word v h = subst (λ u. IsInRange u × IsOfBase base.Bool u) (sym h.1) (tt, tt)
suits_of_base base.Char word v h = subst (λ u. IsInRange u × IsOfBase base.Char u) (sym h.1) (h.3, tt)

suits_at : (depth : ℕ) (b : Base) (word : List ℕ) (v : Value) → IsSpelledAt depth b word v → IsInRange v × IsOfDepth depth b v
suits_at zero b word v h = suits_of_base b word v h
suits_at (suc depth) b word v h = absurd h

suits : (ty : Option Ty) (word : List ℕ) (v : Value) → IsSpelled ty word v → Suits v ty
suits None word v h = absurd h
suits (Some ty) word v h = suits_at ty.depth ty.base word v h

pub AreSpelled-fit : (types : List (Option Ty)) (words : List (List ℕ)) (values : List Value) → AreSpelled types words values → AllZip Suits values types
AreSpelled-fit [] [] [] h = tt
AreSpelled-fit [] [] (v ∷ vs) h = absurd h
AreSpelled-fit [] (w ∷ ws) vs h = absurd h
AreSpelled-fit (t ∷ ts) [] vs h = absurd h
AreSpelled-fit (t ∷ ts) (w ∷ ws) [] h = absurd h
AreSpelled-fit (t ∷ ts) (w ∷ ws) (v ∷ vs) h = (suits t w v h.0, AreSpelled-fit ts ws vs h.1)

-- ---- one value

one_bool : (a b : Bool) → bool_text a ≡ bool_text b → a ≡ b
one_bool true true e = refl
one_bool true false e = cc
one_bool false true e = cc
one_bool false false e = refl

one_char : (c d : ℕ) → encode_utf8 c ≡ encode_utf8 d → c ≡ d
one_char c d e = (encode_same c d [] [] (append-nil (encode_utf8 c) ∙ e ∙ sym (append-nil (encode_utf8 d)))).0

one_of_base : (b : Base) (word : List ℕ) (u v : Value) → IsSpelledOfBase b word u → IsSpelledOfBase b word v → u ≡ v
one_of_base base.Int word u v g h = g.1 ∙ ap Int (IsInt-one word g.0 h.0 g.2 h.2) ∙ sym h.1
one_of_base base.Bool word u v g h = g.1 ∙ ap Boolean (one_bool g.0 h.0 (sym g.2 ∙ h.2)) ∙ sym h.1
one_of_base base.Char word u v g h = g.1 ∙ ap Char (one_char g.0 h.0 (sym g.2 ∙ h.2)) ∙ sym h.1

one_at : (depth : ℕ) (b : Base) (word : List ℕ) (u v : Value) → IsSpelledAt depth b word u → IsSpelledAt depth b word v → u ≡ v
one_at zero b word u v g h = one_of_base b word u v g h
one_at (suc depth) b word u v g h = absurd h

one_value : (ty : Option Ty) (word : List ℕ) (u v : Value) → IsSpelled ty word u → IsSpelled ty word v → u ≡ v
one_value None word u v g h = absurd h
one_value (Some ty) word u v g h = one_at ty.depth ty.base word u v g h

pub AreSpelled-one : (types : List (Option Ty)) (words : List (List ℕ)) (us vs : List Value) → AreSpelled types words us → AreSpelled types words vs → us ≡ vs
AreSpelled-one [] [] [] [] g h = refl
AreSpelled-one [] [] [] (v ∷ vs) g h = absurd h
AreSpelled-one [] [] (u ∷ us) vs g h = absurd g
AreSpelled-one [] (w ∷ ws) us vs g h = absurd g
AreSpelled-one (t ∷ ts) [] us vs g h = absurd g
AreSpelled-one (t ∷ ts) (w ∷ ws) [] vs g h = absurd g
AreSpelled-one (t ∷ ts) (w ∷ ws) (u ∷ us) [] g h = absurd h
AreSpelled-one (t ∷ ts) (w ∷ ws) (u ∷ us) (v ∷ vs) g h =
    let first = one_value t w u v g.0 h.0 in
    let rest = AreSpelled-one ts ws us vs g.1 h.1 in
    λ i. first i ∷ rest i

-- ---- lists of words

pub AreSpelled-length : (types : List (Option Ty)) (words : List (List ℕ)) (values : List Value) → AreSpelled types words values → length words ≡ length types
AreSpelled-length [] [] [] h = refl
AreSpelled-length [] [] (v ∷ vs) h = absurd h
AreSpelled-length [] (w ∷ ws) vs h = absurd h
AreSpelled-length (t ∷ ts) [] vs h = absurd h
AreSpelled-length (t ∷ ts) (w ∷ ws) [] h = absurd h
AreSpelled-length (t ∷ ts) (w ∷ ws) (v ∷ vs) h = let rest = AreSpelled-length ts ws vs h.1 in omega arith

-- the word at a place spells a value of the type there
pub AreSpelled-get : (types : List (Option Ty)) (words : List (List ℕ)) (values : List Value) (i : ℕ) (ty : Option Ty) (word : List ℕ) → AreSpelled types words values
    → slice_get types i ≡ Some ty → slice_get words i ≡ Some word → (v : Value) × IsSpelled ty word v
AreSpelled-get [] words values i ty word h t w = cc
AreSpelled-get (t' ∷ ts) [] values i ty word h t w = absurd h
AreSpelled-get (t' ∷ ts) (w' ∷ ws) [] i ty word h t w = absurd h
AreSpelled-get (t' ∷ ts) (w' ∷ ws) (v ∷ vs) zero ty word h t w =
    let type_is : t' ≡ ty = cc in
    let word_is : w' ≡ word = cc in
    (v, subst (λ x. IsSpelled x word v) type_is (subst (λ x. IsSpelled t' x v) word_is h.0))
AreSpelled-get (t' ∷ ts) (w' ∷ ws) (v ∷ vs) (suc i) ty word h t w = AreSpelled-get ts ws vs i ty word h.1 t w

-- one more word spells one more value
pub AreSpelled-push : (types : List (Option Ty)) (words : List (List ℕ)) (values : List Value) (ty : Option Ty) (word : List ℕ) (v : Value) → AreSpelled types words values → IsSpelled ty word v
    → AreSpelled (types ++ ty ∷ []) (words ++ word ∷ []) (values ++ v ∷ [])
AreSpelled-push [] [] [] ty word v h one = (one, tt)
AreSpelled-push [] [] (v' ∷ vs) ty word v h one = absurd h
AreSpelled-push [] (w' ∷ ws) vs ty word v h one = absurd h
AreSpelled-push (t' ∷ ts) [] vs ty word v h one = absurd h
AreSpelled-push (t' ∷ ts) (w' ∷ ws) [] ty word v h one = absurd h
AreSpelled-push (t' ∷ ts) (w' ∷ ws) (v' ∷ vs) ty word v h one = (h.0, AreSpelled-push ts ws vs ty word v h.1 one)
