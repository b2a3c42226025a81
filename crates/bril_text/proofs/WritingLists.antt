-- Lists that grow while they are written.
use Rattle.std.proofs.Common.{◌≡◌, ℕ, zero, suc, ◌+◌, ◌<◌, Result, Ok, Err, List, [], ◌∷◌, ◌++◌, length, take, get_or, sym, ap, ◌∙◌, append_assoc, append-nil, add-one}
use Rattle.std.specs.List.{repeat, flat_map}
use Rattle.std.specs.Result.{OnOk}
use Rattle.std.proofs.lemmas.List.{take_more, flat_map_more}

repeat-suc : {A : Type 0} (n : ℕ) (xs : List A) → repeat (suc n) xs ≡ repeat n xs ++ xs
repeat-suc zero xs = append-nil xs
repeat-suc (suc n) xs = ap (λ l. xs ++ l) (repeat-suc n xs) ∙ sym (append_assoc xs (repeat n xs) xs)

repeat_more : {A : Type 0} (n : ℕ) (xs : List A) → repeat (n + 1) xs ≡ repeat n xs ++ xs
repeat_more n xs = rw add-one (repeat-suc n xs)

-- the piece one more time
pub repeat_written : (n : ℕ) (old piece now next : List ℕ) → now ≡ old ++ repeat n piece → next ≡ now ++ piece → next ≡ old ++ repeat (n + 1) piece
repeat_written n old piece now next e p = p ∙ ap (λ l. l ++ piece) e ∙ append_assoc old (repeat n piece) piece ∙ ap (λ l. old ++ l) (sym (repeat_more n piece))

-- the text of one more item
pub items_written : {X : Type 0} (f : X → List ℕ) (xs : List X) (i : ℕ) (x : X) (old now next : List ℕ) → i < length xs → x ≡ get_or xs i x → now ≡ old ++ flat_map f (take i xs) → next ≡ now ++ f x → next ≡ old ++ flat_map f (take (i + 1) xs)
items_written f xs i x old now next h g e p =
    p ∙ ap (λ l. l ++ f x) e ∙ flat_map_more f old (take i xs) x
    ∙ ap (λ l. old ++ flat_map f l) (ap (λ y. take i xs ++ (y ∷ [])) g ∙ sym (take_more xs i x h))

-- one piece after another
pub two_written : (now then last p q : List ℕ) → then ≡ now ++ p → last ≡ then ++ q → last ≡ now ++ (p ++ q)
two_written now then last p q e f = f ∙ ap (λ l. l ++ q) e ∙ append_assoc now p q

pub on_ok : {T E P : Type 0} (r : Result T E) → P → OnOk r P
on_ok (Ok x) p = p
on_ok (Err e) p = tt
