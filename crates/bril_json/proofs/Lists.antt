-- Lists of values that grow while they are built.
use Rattle.std.proofs.Common.{◌≡◌, ℕ, ◌+◌, ◌<◌, ◌≤◌, Result, Ok, Err, List, [], ◌∷◌, ◌++◌, length, take, get_or, Some, Vec, Global, refl, sym, ap, ◌∙◌, arith}
use Rattle.std.specs.Result.{OnOk}
use Rattle.std.proofs.lemmas.List.{take_more, take_all}
use Rattle.serde_json.specs.Data.{Data, Items, no_items, item, array}
use Rattle.serde_json.specs.View.{view, items_view}
use Rattle.serde_json.specs.declared.value.Value.{Value, Array}
use Rattle.serde_json.proofs.Views.{view-Array}
use Rattle.bril_json.specs.Canonical.{listed, unless_empty}

-- the values, and one more
abbrev and_then : Items → Data → Items
and_then no_items d = item d no_items
and_then (item first rest) d = item first (and_then rest d)

items_view-push : (vs : List Value) (v : Value) → items_view (vs ++ v ∷ []) ≡ and_then (items_view vs) (view v)
items_view-push [] v = refl
items_view-push (first ∷ rest) v = ap (item (view first)) (items_view-push rest v)

listed-push : {X : Type 0} (f : X → Data) (xs : List X) (x : X) → listed f (xs ++ x ∷ []) ≡ and_then (listed f xs) (f x)
listed-push f [] x = refl
listed-push f (first ∷ rest) x = ap (item (f first)) (listed-push f rest x)

-- the value of one more
pub each_more : {X : Type 0} (f : X → Data) (xs : List X) (i : ℕ) (x : X) (vs next : List Value) (v : Value) → i < length xs → x ≡ get_or xs i x → items_view vs ≡ listed f (take i xs) → view v ≡ f x → next ≡ vs ++ v ∷ []
    → items_view next ≡ listed f (take (i + 1) xs)
each_more f xs i x vs next v h g e seen p =
    ap items_view p ∙ items_view-push vs v ∙ ap (λ ds. and_then ds (view v)) e ∙ ap (and_then (listed f (take i xs))) seen ∙ sym (listed-push f (take i xs) x)
    ∙ ap (listed f) (ap (λ y. take i xs ++ (y ∷ [])) g ∙ sym (take_more xs i x h))

-- the values of all
pub each_all : {X : Type 0} (f : X → Data) (xs : List X) (i : ℕ) (vs : List Value) → length xs ≤ i → items_view vs ≡ listed f (take i xs) → items_view vs ≡ listed f xs
each_all f xs i vs h e = e ∙ ap (listed f) (take_all i xs h)

some_items : (vs : List Value) → 0 < length vs → Some (array (items_view vs)) ≡ unless_empty (items_view vs)
some_items [] h = absurd (omega arith)
some_items (v ∷ vs) h = refl

-- a list with an item
pub list_view : (v : Vec Value Global) → 0 < length v.items → Some (view (Array v)) ≡ unless_empty (items_view v.items)
list_view v h = ap Some (view-Array v) ∙ some_items v.items h

pub on_ok : {T E P : Type 0} (r : Result T E) → P → OnOk r P
on_ok (Ok x) p = p
on_ok (Err e) p = tt
