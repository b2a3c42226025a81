-- Types, and lists with commas between their items, as they are printed.
use Rattle.std.proofs.Common.{◌≡◌, ℕ, true, zero, suc, List, [], ◌∷◌, ◌++◌, refl, codes}
use Rattle.std.specs.List.{repeat, flat_map, join_by, All}
use Rattle.std.proofs.Math.ListN.{replicate}
use Rattle.std.proofs.lemmas.List.Elements.{All-head, All-tail}
use Rattle.bril_tree.specs.declared.function_tree.Dest.{Dest}
use Rattle.bril_tree.specs.declared.types.Base.{Base}
use Rattle.bril_tree.specs.declared.types.Base.TheVariants as base
use Rattle.bril_tree.specs.declared.types.Ty.{Ty}
use Rattle.bril_lex.specs.Printed.{ends_before}
use Rattle.bril_lex.specs.declared.token.Kind.TheVariants as kind
use Rattle.bril_grammar.specs.declared.mark.Mark.TheVariants.{Comma, Less, Greater}
use Rattle.bril_tree.specs.Spelling.{base_text}
use Rattle.bril_grammar.specs.Terminal.{Terminal}
use Rattle.bril_grammar.specs.Written.{pointer_terminals, type_terminals, typed_terminals}
use Rattle.bril_text.specs.Canonical.{type_text, typed_text}
use Rattle.bril_tree.specs.TreeForm.{IsDest}
use Rattle.bril_text.proofs.WritingPieces.{Prints, nothing, token, blank, mark, both}

-- the bytes don't continue an identifier, a function, a label or a number
abbrev pub Ends : List ℕ → Type 0
Ends following = ends_before kind.Identifier following ≡ true

closing : (n : ℕ) (following : List ℕ) → Prints (repeat n (codes ">")) following (replicate n (Terminal.Punctuation Greater))
closing zero following = nothing following
closing (suc n) following = mark 62 (repeat n (codes ">")) following (replicate n (Terminal.Punctuation Greater)) refl (closing n following)

closing_ends : (n : ℕ) (following : List ℕ) → Ends following → Ends (repeat n (codes ">") ++ following)
closing_ends zero following e = e
closing_ends (suc n) following e = refl

base_prints : (b : Base) (more following : List ℕ) (terminals : List Terminal) → Ends (more ++ following) → Prints more following terminals → Prints (base_text b ++ more) following (Terminal.Name (base_text b) ∷ terminals)
base_prints base.Int more following terminals e p = token kind.Identifier (codes "int") more following terminals refl e p
base_prints base.Bool more following terminals e p = token kind.Identifier (codes "bool") more following terminals refl e p
base_prints base.Char more following terminals e p = token kind.Identifier (codes "char") more following terminals refl e p

opening : (n : ℕ) (more following : List ℕ) (terminals : List Terminal) → Prints more following terminals → Prints (repeat n (codes "ptr<") ++ more) following (repeat n pointer_terminals ++ terminals)
opening zero more following terminals p = p
opening (suc n) more following terminals p =
    let after = repeat n (codes "ptr<") ++ more in
    let later = repeat n pointer_terminals ++ terminals in
    token kind.Identifier (codes "ptr") (60 ∷ after) following (Terminal.Punctuation Less ∷ later) refl refl (mark 60 after following later refl (opening n more following terminals p))

pub type_prints : (ty : Ty) (following : List ℕ) → Ends following → Prints (type_text ty) following (type_terminals ty)
type_prints ty following e =
    opening ty.depth (base_text ty.base ++ repeat ty.depth (codes ">")) following _
    (base_prints ty.base (repeat ty.depth (codes ">")) following _ (closing_ends ty.depth following e) (closing ty.depth following))

pub typed_prints : (dest : Dest) (following : List ℕ) → IsDest dest → Ends following → Prints (typed_text dest) following (typed_terminals dest)
typed_prints dest following is e =
    token kind.Identifier dest.name (codes ": " ++ type_text dest.ty) following _ is refl
    (mark 58 (32 ∷ type_text dest.ty) following (type_terminals dest.ty) refl (blank 32 (type_text dest.ty) following (type_terminals dest.ty) refl (type_prints dest.ty following e)))

-- items, one after another
pub all_print : {X : Type 0} (f : X → List ℕ) (g : X → List Terminal) (P : X → Type 0) (each : (x : X) (following : List ℕ) → P x → Prints (f x) following (g x)) (xs : List X) (following : List ℕ) → All P xs → Prints (flat_map f xs) following (flat_map g xs)
all_print f g P each [] following all = nothing following
all_print f g P each (x ∷ xs) following all =
    both (f x) (flat_map f xs) following (g x) (flat_map g xs) (each x (flat_map f xs ++ following) (All-head P x xs all)) (all_print f g P each xs following (All-tail P x xs all))

-- the items after the first, with commas between them
others_end : {X : Type 0} (f : X → List ℕ) (xs : List X) (following : List ℕ) → Ends following → Ends (flat_map (λ (y : X). codes ", " ++ f y) xs ++ following)
others_end f [] following e = e
others_end f (x ∷ xs) following e = refl

others_print : {X : Type 0} (f : X → List ℕ) (g : X → List Terminal) (P : X → Type 0) (each : (x : X) (following : List ℕ) → P x → Ends following → Prints (f x) following (g x)) (xs : List X) (following : List ℕ) → All P xs → Ends following → Prints (flat_map (λ (y : X). codes ", " ++ f y) xs) following (flat_map (λ (y : X). (Terminal.Punctuation Comma ∷ []) ++ g y) xs)
others_print f g P each [] following all e = nothing following
others_print {X} f g P each (x ∷ xs) following all e =
    let after = flat_map (λ (y : X). codes ", " ++ f y) xs in
    let later = flat_map (λ (y : X). (Terminal.Punctuation Comma ∷ []) ++ g y) xs in
    let here = both (f x) after following (g x) later (each x (after ++ following) (All-head P x xs all) (others_end f xs following e)) (others_print f g P each xs following (All-tail P x xs all) e) in
    mark 44 (32 ∷ (f x ++ after)) following (g x ++ later) refl (blank 32 (f x ++ after) following (g x ++ later) refl here)

-- items with commas between them
pub list_prints : {X : Type 0} (f : X → List ℕ) (g : X → List Terminal) (P : X → Type 0) (each : (x : X) (following : List ℕ) → P x → Ends following → Prints (f x) following (g x)) (xs : List X) (following : List ℕ) → All P xs → Ends following → Prints (join_by f (codes ", ") xs) following (join_by g (Terminal.Punctuation Comma ∷ []) xs)
list_prints f g P each [] following all e = nothing following
list_prints {X} f g P each (x ∷ xs) following all e =
    let after = flat_map (λ (y : X). codes ", " ++ f y) xs in
    let later = flat_map (λ (y : X). (Terminal.Punctuation Comma ∷ []) ++ g y) xs in
    both (f x) after following (g x) later (each x (after ++ following) (All-head P x xs all) (others_end f xs following e)) (others_print f g P each xs following (All-tail P x xs all) e)
