-- The first item of a list that is sought, over parts of the list.
use Rattle.std.proofs.Common.{◌≡◌, ◌∙◌, refl, sym, ap, ℕ, ◌+◌, ◌<◌, List, [], ◌∷◌, ◌++◌, length, take, drop, get_or, Option, Some, None, append_assoc}
use Rattle.std.specs.Prelude.{flat_map, find, not, option_map}
use Rattle.bril_tree.specs.declared.import.Taken.{Taken}
use Rattle.import_linker.specs.Names.{Function, contains, first_unknown}
use Rattle.import_linker.specs.Tables.{first_absent, first_outside}
use Rattle.import_linker.specs.Refusing.{IsLack}
use Rattle.import_linker.specs.declared.fault.LinkFault.{LinkFault}
use Rattle.import_linker.specs.declared.fault.LinkFault.TheVariants as fault
use Rattle.std.specs.Option.{option_or}
use Rattle.std.proofs.lemmas.List.Folds.{find-append}
use Rattle.std.proofs.lemmas.List.{take_more, take-append-drop}
use Rattle.import_linker.proofs.Repeating.{flat_more, flat_split}

pub after_none : {X : Type 0} (a b c : Option X) → c ≡ option_or a b → a ≡ None → c ≡ b
after_none a b c e none = e ∙ ap (λ o. option_or o b) none

pub map-option_or : {X Y : Type 0} (f : X → Y) (a b : Option X) → option_map f (option_or a b) ≡ option_or (option_map f a) (option_map f b)
map-option_or f None b = refl
map-option_or f (Some x) b = refl

module _ {X Z : Type 0} (F : List X → Option Z) (law : (xs ys : List X) → F (xs ++ ys) ≡ option_or (F xs) (F ys)) where
  module _ (xs : List X) (i : ℕ) (x : X) (lt : i < length xs) (is : x ≡ get_or xs i x) where
    split : xs ≡ take i xs ++ (x ∷ [] ++ drop (i + 1) xs)
    split =
        sym (take-append-drop (i + 1) xs) ∙ ap (λ (l : List X). l ++ drop (i + 1) xs) (take_more xs i x lt ∙ ap (λ (y : X). take i xs ++ y ∷ []) (sym is))
        ∙ append_assoc (take i xs) (x ∷ []) (drop (i + 1) xs)

    -- none is found among one more
    pub none_more : F (take i xs) ≡ None → F (x ∷ []) ≡ None → F (take (i + 1) xs) ≡ None
    none_more before here =
        ap F (take_more xs i x lt ∙ ap (λ (y : X). take i xs ++ y ∷ []) (sym is))
        ∙ after_none (F (take i xs)) (F (x ∷ [])) _ (law (take i xs) (x ∷ [])) before ∙ here

    -- what is found from here on is what is found
    pub found_here : F (take i xs) ≡ None → F xs ≡ option_or (F (x ∷ [])) (F (drop (i + 1) xs))
    found_here before =
        after_none (F (take i xs)) _ _ (ap F split ∙ law (take i xs) (x ∷ [] ++ drop (i + 1) xs)) before
        ∙ law (x ∷ []) (drop (i + 1) xs)

  module _ {Y : Type 0} (g : Y → List X) (xs : List Y) (i : ℕ) (x : Y) (lt : i < length xs) (is : x ≡ get_or xs i x) where
    pub none_more_in : F (flat_map g (take i xs)) ≡ None → F (g x) ≡ None → F (flat_map g (take (i + 1) xs)) ≡ None
    none_more_in before here =
        ap F (flat_more g xs i x lt is)
        ∙ after_none (F (flat_map g (take i xs))) (F (g x)) _ (law (flat_map g (take i xs)) (g x)) before ∙ here

    pub found_here_in : F (flat_map g (take i xs)) ≡ None → F (flat_map g xs) ≡ option_or (F (g x)) (F (flat_map g (drop (i + 1) xs)))
    found_here_in before =
        after_none (F (flat_map g (take i xs))) _ _
        (ap F (flat_split g xs i x lt is) ∙ law (flat_map g (take i xs)) (g x ++ flat_map g (drop (i + 1) xs))) before
        ∙ law (g x) (flat_map g (drop (i + 1) xs))

-- ---- the searches

pub unknown-append : (known xs ys : List (List ℕ)) → first_unknown known (xs ++ ys) ≡ option_or (first_unknown known xs) (first_unknown known ys)
unknown-append known xs ys = find-append (λ (name : List ℕ). not (contains known name)) xs ys

pub outside-append : (names : List (List ℕ)) (xs ys : List Taken) → first_outside names (xs ++ ys) ≡ option_or (first_outside names xs) (first_outside names ys)
outside-append names xs ys =
    ap (option_map (λ (t : Taken). t.name)) (find-append (λ (t : Taken). not (contains names t.name)) xs ys)
    ∙ map-option_or (λ (t : Taken). t.name) (find (λ (t : Taken). not (contains names t.name)) xs) (find (λ (t : Taken). not (contains names t.name)) ys)

pub absent-append : (tables : List (List (List ℕ))) (xs ys : List Function) → first_absent tables (xs ++ ys) ≡ option_or (first_absent tables xs) (first_absent tables ys)
absent-append tables xs ys =
    ap (option_map (λ (f : Function). f.name)) (find-append (λ (f : Function). not (contains (get_or tables f.file []) f.name)) xs ys)
    ∙ map-option_or (λ (f : Function). f.name) (find (λ (f : Function). not (contains (get_or tables f.file []) f.name)) xs) (find (λ (f : Function). not (contains (get_or tables f.file []) f.name)) ys)

-- ---- refusals

-- a name that is that of no function stays the first before others
pub lack_first : (e : LinkFault) (path : List ℕ) (first rest : Option (List ℕ)) → IsLack e path first → IsLack e path (option_or first rest)
lack_first (fault.Read other) path first rest h = h
lack_first (fault.Bad other why) path first rest h = h
lack_first (fault.NotThere other name) path first rest h = (h.0, ap (λ o. option_or o rest) h.1)
lack_first (fault.Clash other name) path first rest h = h
lack_first fault.TooManyFiles path first rest h = h
lack_first fault.TooManyBytes path first rest h = h
lack_first fault.Memory path first rest h = tt
