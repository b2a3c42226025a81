-- The computed front: it is a piece, and every piece that begins the bytes is no longer.
use Rattle.std.proofs.Common.{◌≡◌, ℕ, ◌+◌, ◌<◌, ◌≤◌, true, false, List, [], ◌∷◌, ◌++◌, length, take, Option, Some, refl, sym, ap, ◌∙◌, subst, arith, IsUtf8}
use Rattle.std.specs.Prelude.{◌==◌}
use Rattle.std.specs.List.{list_all, prefix_len}
use Rattle.std.specs.Str.Lossy.{utf8_valid_len}
use Rattle.std.proofs.lemmas.Bool.{and_parts, ne_eqb, cond-false}
use Rattle.bril_tree.specs.Identifier.{begins_identifier, continues_identifier, is_identifier}
use Rattle.bril_lex.specs.Spelling.{is_mark, is_blank}
use Rattle.bril_lex.specs.Piece.{stays_in_line}
use Rattle.bril_lex.specs.Scan.{front_after, identifier_len, comment_len, front_at, front_of}
use Rattle.bril_lex.specs.declared.token.Kind.{Kind}
use Rattle.bril_lex.specs.declared.token.Kind.TheVariants as kind
use Rattle.bril_lex.specs.declared.class.Class.{Class}
use Rattle.bril_lex.specs.declared.class.Class.TheVariants.{OfKind, Blank, Comment}
use Rattle.bril_lex.specs.declared.scan.Front.{Front}
use Rattle.bril_lex.proofs.Leads.{lead_of-mark, lead_of-blank, lead_of-identifier}
use Rattle.bril_lex.proofs.Spans.{prefix_len-append_all, take_append}
use Rattle.bril_lex.proofs.Utf8.{valid_longest}

-- a front of the class and the length
abbrev pub front : Class → ℕ → Option Front
front class n = Some (record { class = class; length = n })

-- ---- identifiers, functions and labels
-- an identifier at the front, and how long it is
pub identifier_len-append : (name rest : List ℕ) → is_identifier name ≡ true → identifier_len (name ++ rest) ≡ length name + prefix_len continues_identifier rest
identifier_len-append [] rest h = cc
identifier_len-append (first ∷ more) rest h =
    let parts = and_parts (begins_identifier first) (list_all continues_identifier more) h in
    rw parts.0 (omega (arith, prefix_len-append_all continues_identifier more rest parts.1))

pub front_of-identifier : (text rest : List ℕ) → is_identifier text ≡ true → front_of (text ++ rest) ≡ front (OfKind kind.Identifier) (length text + prefix_len continues_identifier rest)
front_of-identifier [] rest h = cc
front_of-identifier (first ∷ more) rest h =
    let parts = and_parts _ _ h in
    let size : prefix_len continues_identifier (more ++ rest) + 1 ≡ length (first ∷ more) + prefix_len continues_identifier rest = omega (arith, prefix_len-append_all continues_identifier more rest parts.1) in
    ap (λ l. front_at l first (more ++ rest)) (lead_of-identifier first parts.0) ∙ ap (front (OfKind kind.Identifier)) size

-- a token of one byte and others
pub front_after-some : (k : Kind) (n : ℕ) → 0 < n → front_after k n ≡ front (OfKind k) (n + 1)
front_after-some k n h = let e : (n == 0) ≡ false = ne_eqb n 0 (λ z. omega arith) in cond-false _ _ _ e

name_size : (name : List ℕ) → is_identifier name ≡ true → 0 < length name
name_size [] h = cc
name_size (b ∷ bs) h = omega arith

pub front_of-function : (name rest : List ℕ) → is_identifier name ≡ true → front_of (64 ∷ (name ++ rest)) ≡ front (OfKind kind.Function) (length name + 1 + prefix_len continues_identifier rest)
front_of-function name rest h =
    let size = identifier_len-append name rest h in
    let some : 0 < identifier_len (name ++ rest) = omega (arith, size, name_size name h) in
    front_after-some kind.Function _ some ∙ ap (front (OfKind kind.Function)) (omega (arith, size))

pub front_of-label : (name rest : List ℕ) → is_identifier name ≡ true → front_of (46 ∷ (name ++ rest)) ≡ front (OfKind kind.Label) (length name + 1 + prefix_len continues_identifier rest)
front_of-label name rest h =
    let size = identifier_len-append name rest h in
    let some : 0 < identifier_len (name ++ rest) = omega (arith, size, name_size name h) in
    front_after-some kind.Label _ some ∙ ap (front (OfKind kind.Label)) (omega (arith, size))

-- ---- marks, blanks and comments
pub front_of-mark : (mark : ℕ) (rest : List ℕ) → is_mark mark ≡ true → front_of (mark ∷ rest) ≡ front (OfKind kind.Mark) 1
front_of-mark mark rest h = ap (λ l. front_at l mark rest) (lead_of-mark mark h)

pub front_of-blank : (blank : ℕ) (rest : List ℕ) → is_blank blank ≡ true → front_of (blank ∷ rest) ≡ front Blank 1
front_of-blank blank rest h = ap (λ l. front_at l blank rest) (lead_of-blank blank h)

-- what is in the line and is UTF-8 is part of the comment
pub comment_len-reaches : (body rest : List ℕ) → IsUtf8 body → list_all stays_in_line body ≡ true → length body ≤ comment_len (body ++ rest)
comment_len-reaches body rest u line =
    let size = prefix_len-append_all stays_in_line body rest line in
    let cut : take (prefix_len stays_in_line (body ++ rest)) (body ++ rest) ≡ body ++ take (prefix_len stays_in_line rest) rest = ap (λ n. take n (body ++ rest)) size ∙ take_append body rest (prefix_len stays_in_line rest) in
    subst (λ l. length body ≤ utf8_valid_len l) (sym cut) (valid_longest body (take (prefix_len stays_in_line rest) rest) u)

pub front_of-comment : (body rest : List ℕ) → front_of (35 ∷ (body ++ rest)) ≡ front Comment (comment_len (body ++ rest) + 1)
front_of-comment body rest = refl
