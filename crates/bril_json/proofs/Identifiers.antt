-- Identifiers are ASCII, and so UTF-8.
use Rattle.std.proofs.Common.{◌≡◌, ℕ, ◌<◌, true, List, [], ◌∷◌, refl, arith, lt-ltb, IsUtf8}
use Rattle.std.proofs.lemmas.Bool.{and_parts, and_from}
use Rattle.std.proofs.lemmas.Bool.Decides.{nat_tests}
use Rattle.std.specs.List.{list_all}
use Rattle.bril_tree.specs.Identifier.{is_identifier, begins_identifier, continues_identifier}
use Rattle.json.proofs.Printed.Utf8.{are_ascii, IsUtf8-are_ascii}

begins_below : (byte : ℕ) → begins_identifier byte ≡ true → byte < 128
begins_below byte e = grind (arith, nat_tests)

continues_below : (byte : ℕ) → continues_identifier byte ≡ true → byte < 128
continues_below byte e = grind (arith, nat_tests)

rest_ascii : (bytes : List ℕ) → list_all continues_identifier bytes ≡ true → are_ascii bytes ≡ true
rest_ascii [] e = refl
rest_ascii (byte ∷ bytes) e =
    let both = and_parts _ _ e in
    and_from _ _ (lt-ltb _ _ (continues_below byte both.0)) (rest_ascii bytes both.1)

identifier_ascii : (name : List ℕ) → is_identifier name ≡ true → are_ascii name ≡ true
identifier_ascii [] e = refl
identifier_ascii (first ∷ rest) e =
    let both = and_parts _ _ e in
    and_from _ _ (lt-ltb _ _ (begins_below first both.0)) (rest_ascii rest both.1)

pub identifier_utf8 : (name : List ℕ) → is_identifier name ≡ true → IsUtf8 name
identifier_utf8 name e = IsUtf8-are_ascii name (identifier_ascii name e)
