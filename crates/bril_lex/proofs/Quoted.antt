-- Char literals and paths at the front of bytes.
use Rattle.std.proofs.Common.{◌≡◌, ℕ, suc, ◌+◌, ◌<◌, ◌≤◌, Bool, true, false, ◌&&◌, not, List, [], ◌∷◌, ◌++◌, length, take, drop, get_or, Option, Some, None, refl, sym, ap, ◌∙◌, subst, inl, inr, arith, length-append, take-append-drop, append_assoc, length-take-le, lt-ltb, le-leb, drop-cons}
use Rattle.std.specs.Prelude.{◌==◌, ◌≢◌, is_some, nat_lt, nat_le}
use Rattle.std.specs.List.{prefix_len}
use Rattle.std.specs.Char.{IsScalar}
use Rattle.std.specs.Str.{is_utf8}
use Rattle.std.proofs.lemmas.Bool.{and_parts, and_from, eqb-true, eq-eqb, cond-true, cond-false, cond_both, false_from_ne_true, true≢false, leb-true, ltb-true, not-true, not_from_false}
use Rattle.std.proofs.lemmas.List.{take_at, get_or_at}
use Rattle.std.proofs.lemmas.List.Sums.{prefix_len-le-length}
use Rattle.std.proofs.lemmas.Str.{is_utf8-from_IsUtf8, IsUtf8-from_is_utf8, char_from_byte, encode_ascii}
use Rattle.bril_tree.specs.Path.{is_path_byte}
use Rattle.bril_lex.specs.Spelling.{escaped, SpellsChar, SpellsPath}
use Rattle.bril_lex.specs.Scan.{stands_at, scalar_len, begins_escape, plain_len, char_len, path_len, front_of}
use Rattle.bril_lex.specs.declared.token.Kind.TheVariants as kind
use Rattle.bril_lex.specs.declared.class.Class.TheVariants.{OfKind}
use Rattle.bril_lex.proofs.Spans.{prefix_len-append_all, list_all-prefix}
use Rattle.bril_lex.proofs.Utf8.{scalar_len-encode, scalar_len-tells, BeginsScalar, first_of}
use Rattle.bril_lex.proofs.Fronts.{front, front_after-some}
use lib.Utf8.{encode}

-- ---- a byte at an index
pub stands_at-append : (b : ℕ) (text rest : List ℕ) (n : ℕ) → length text ≡ n → stands_at b n (text ++ (b ∷ rest)) ≡ true
stands_at-append b text rest n e =
    and_from _ _ (lt-ltb n (length (text ++ (b ∷ rest))) (omega (arith, e, length-append text (b ∷ rest))))
    (eq-eqb _ _ (get_or_at text b rest 0 n e))

pub stands_at-tells : (b n : ℕ) (bytes : List ℕ) → stands_at b n bytes ≡ true → (n < length bytes) × (get_or bytes n 0 ≡ b)
stands_at-tells b n bytes h =
    let parts = and_parts (nat_lt n (length bytes)) (get_or bytes n 0 == b) h in
    (ltb-true _ _ parts.0, eqb-true _ _ parts.1)

pub stands_at-drop : (b n : ℕ) (bytes : List ℕ) → stands_at b n bytes ≡ true → drop n bytes ≡ b ∷ drop (suc n) bytes
stands_at-drop b n bytes h =
    let at = stands_at-tells b n bytes h in
    drop-cons bytes n 0 at.0 ∙ ap (λ x. x ∷ drop (suc n) bytes) at.1

-- ---- chars
first_byte : (c b : ℕ) (rest : List ℕ) → b < 128 → stands_at b 0 (encode c ++ rest) ≡ true → c ≡ b
first_byte c b rest ascii h =
    let at = stands_at-tells b 0 (encode c ++ rest) h in
    char_from_byte (encode c ++ rest) rest c refl (omega (arith, at.1)) at.0 ∙ at.1

-- a plain char is no escape
pub no_escape : (c : ℕ) (rest : List ℕ) → begins_escape (encode c ++ (39 ∷ rest)) ≡ false
no_escape c rest = false_from_ne_true _ by
  where
    by : begins_escape (encode c ++ (39 ∷ rest)) ≡ true → ⊥
    by h =
        let parts = and_parts _ (is_some (escaped (get_or (encode c ++ (39 ∷ rest)) 1 0))) h in
        let starts = and_parts (stands_at 92 0 (encode c ++ (39 ∷ rest))) (stands_at 39 2 (encode c ++ (39 ∷ rest))) parts.0 in
        let is : c ≡ 92 = first_byte c 92 (39 ∷ rest) (omega arith) starts.0 in
        let spelled : encode c ≡ 92 ∷ [] = ap encode is ∙ encode_ascii 92 (omega arith) in
        let letter : is_some (escaped 39) ≡ true = subst (λ t. is_some (escaped (get_or (t ++ (39 ∷ rest)) 1 0)) ≡ true) spelled parts.1 in
        true≢false (sym letter)

pub char_len-plain : (c : ℕ) (rest : List ℕ) → IsScalar c → c ≢ 10 → char_len (encode c ++ (39 ∷ rest)) ≡ length (encode c) + 1
char_len-plain c rest s lf =
    let f = first_of c s in
    let size = scalar_len-encode c (39 ∷ rest) s in
    let some : ltb_some = lt-ltb 0 _ (omega (arith, size, ap length f.is)) in
    let no_lf : not (stands_at 10 0 (encode c ++ (39 ∷ rest))) ≡ true =
    not_from_false _ (false_from_ne_true _ (λ h. lf (first_byte c 10 (39 ∷ rest) (omega arith) h))) in
    let quote : stands_at 39 (scalar_len (encode c ++ (39 ∷ rest))) (encode c ++ (39 ∷ rest)) ≡ true = stands_at-append 39 (encode c) rest _ (sym size) in
    cond-false _ _ _ (no_escape c rest) ∙ cond-true _ _ 0 (and_from _ _ (and_from _ _ some no_lf) quote) ∙ ap (λ n. n + 1) size
  where
    ltb_some : Type 0
    ltb_some = nat_lt 0 (scalar_len (encode c ++ (39 ∷ rest))) ≡ true

pub escape_begins : (letter c : ℕ) (rest : List ℕ) → escaped letter ≡ Some c → begins_escape (92 ∷ letter ∷ 39 ∷ rest) ≡ true
escape_begins letter c rest e =
    and_from _ _ (and_from _ _ (stands_at-append 92 [] (letter ∷ 39 ∷ rest) 0 refl) (stands_at-append 39 (92 ∷ letter ∷ []) rest 2 refl)) (ap is_some e)

pub char_len-escape : (letter c : ℕ) (rest : List ℕ) → escaped letter ≡ Some c → char_len (92 ∷ letter ∷ 39 ∷ rest) ≡ 3
char_len-escape letter c rest e = cond-true _ _ _ (escape_begins letter c rest e)

pub front_of-char : (text rest : List ℕ) (c : ℕ) → SpellsChar c text → front_of (text ++ rest) ≡ front (OfKind kind.Char) (length text)
front_of-char text rest c (inl e) =
    let size = char_len-escape e.letter c rest e.stands_for in
    let some = front_after-some kind.Char (char_len (92 ∷ e.letter ∷ 39 ∷ rest)) (omega (arith, size)) in
    subst (λ t. front_of (t ++ rest) ≡ front (OfKind kind.Char) (length t)) (sym e.spelled)
    (some ∙ ap (front (OfKind kind.Char)) (omega (arith, size)))
front_of-char text rest c (inr p) =
    let whole : (encode c ++ (39 ∷ [])) ++ rest ≡ encode c ++ (39 ∷ rest) = append_assoc (encode c) (39 ∷ []) rest in
    let size : char_len ((encode c ++ (39 ∷ [])) ++ rest) ≡ length (encode c) + 1 = ap char_len whole ∙ char_len-plain c rest p.scalar p.no_line_end in
    let some = front_after-some kind.Char (char_len ((encode c ++ (39 ∷ [])) ++ rest)) (omega (arith, size)) in
    subst (λ t. front_of (t ++ rest) ≡ front (OfKind kind.Char) (length t)) (sym p.spelled)
    (some ∙ ap (front (OfKind kind.Char)) (omega (arith, size, length-append (encode c) (39 ∷ []))))

-- a char literal begins with a quote, and has n bytes after it
pub record BeginsChar (bytes : List ℕ) (n : ℕ) : Type 0 where
  pub character : ℕ
  pub text : List ℕ
  pub rest : List ℕ
  pub cut : 39 ∷ bytes ≡ text ++ rest
  pub size : length text ≡ n + 1
  pub spells : SpellsChar character text

escape_at : (bytes : List ℕ) → begins_escape bytes ≡ true → BeginsChar bytes 3
escape_at bytes h =
    let parts = and_parts _ (is_some (escaped (get_or bytes 1 0))) h in
    let starts = and_parts (stands_at 92 0 bytes) (stands_at 39 2 bytes) parts.0 in
    by bytes (stands_at-tells 92 0 bytes starts.0) (stands_at-tells 39 2 bytes starts.1) parts.1
  where
    letter_of : (l : ℕ) (o : Option ℕ) (rest : List ℕ) → escaped l ≡ o → is_some o ≡ true → BeginsChar (92 ∷ l ∷ 39 ∷ rest) 3
    letter_of l None rest e h' = cc
    letter_of l (Some c) rest e h' = record {
      character = c;
      text = 39 ∷ 92 ∷ l ∷ 39 ∷ [];
      rest = rest;
      cut = refl;
      size = refl;
      spells = inl (record { letter = l; spelled = refl; stands_for = e });
    }

    by : (bs : List ℕ) → (0 < length bs) × (get_or bs 0 0 ≡ 92) → (2 < length bs) × (get_or bs 2 0 ≡ 39) → is_some (escaped (get_or bs 1 0)) ≡ true → BeginsChar bs 3
    by [] first third l = absurd (omega (arith, first.0))
    by (a ∷ []) first third l = absurd (omega (arith, third.0))
    by (a ∷ b ∷ []) first third l = absurd (omega (arith, third.0))
    by (a ∷ b ∷ q ∷ rest) first third l =
        let is : 92 ∷ b ∷ 39 ∷ rest ≡ a ∷ b ∷ q ∷ rest = (λ i. sym first.1 i ∷ b ∷ sym third.1 i ∷ rest) in
        subst (λ t. BeginsChar t 3) is (letter_of b (escaped b) rest refl l)

pub record PlainParts (bytes : List ℕ) : Type 0 where
  pub some : 0 < scalar_len bytes
  pub no_lf : stands_at 10 0 bytes ≡ false
  pub quote : stands_at 39 (scalar_len bytes) bytes ≡ true

plain_at : (bytes : List ℕ) → PlainParts bytes → BeginsChar bytes (scalar_len bytes + 1)
plain_at bytes p =
    let v = scalar_len-tells bytes p.some in
    let following = stands_at-drop 39 (scalar_len bytes) bytes p.quote in
    let rest = drop (suc (scalar_len bytes)) bytes in
    record {
      character = v.value;
      text = 39 ∷ (encode v.value ++ (39 ∷ []));
      rest = rest;
      cut = ap (λ l. 39 ∷ l) (v.cut ∙ ap (λ l. encode v.value ++ l) following ∙ sym (append_assoc (encode v.value) (39 ∷ []) rest));
      size = omega (arith, length-append (encode v.value) (39 ∷ []), v.size);
      spells = inr (record { spelled = refl; scalar = v.scalar; no_line_end = λ lf. lf_stands v lf });
    }
  where
    lf_stands : (v : BeginsScalar bytes (scalar_len bytes)) → v.value ≡ 10 → ⊥
    lf_stands v lf =
        let spelled : encode v.value ≡ 10 ∷ [] = ap encode lf ∙ encode_ascii 10 (omega arith) in
        let begins : bytes ≡ 10 ∷ drop (scalar_len bytes) bytes = v.cut ∙ ap (λ l. l ++ drop (scalar_len bytes) bytes) spelled in
        let test : stands_at 10 0 bytes ≡ true = ap (stands_at 10 0) begins ∙ stands_at-append 10 [] (drop (scalar_len bytes) bytes) 0 refl in
        true≢false (sym test ∙ p.no_lf)

pub char_len-tells : (bytes : List ℕ) → 0 < char_len bytes → BeginsChar bytes (char_len bytes)
char_len-tells bytes =
    cond_both (begins_escape bytes) 3 (plain_len bytes) (λ n. 0 < n → BeginsChar bytes n)
    (λ e _. escape_at bytes e)
    (λ _. cond_both test (scalar_len bytes + 1) 0 (λ n. 0 < n → BeginsChar bytes n)
    (λ e _. plain_at bytes (parts e))
    (λ _ l. absurd (omega arith)))
  where
    test : Bool
    test = (nat_lt 0 (scalar_len bytes) && not (stands_at 10 0 bytes)) && stands_at 39 (scalar_len bytes) bytes

    parts : test ≡ true → PlainParts bytes
    parts e =
        let both = and_parts (nat_lt 0 (scalar_len bytes) && not (stands_at 10 0 bytes)) (stands_at 39 (scalar_len bytes) bytes) e in
        let first = and_parts (nat_lt 0 (scalar_len bytes)) (not (stands_at 10 0 bytes)) both.0 in
        record { some = ltb-true _ _ first.0; no_lf = not-true _ first.1; quote = both.1 }

-- ---- paths
pub front_of-path : (path text rest : List ℕ) → SpellsPath path text → front_of (text ++ rest) ≡ front (OfKind kind.Path) (length text)
front_of-path path text rest s =
    let whole : (path ++ (34 ∷ [])) ++ rest ≡ path ++ (34 ∷ rest) = append_assoc path (34 ∷ []) rest in
    let count : prefix_len is_path_byte (path ++ (34 ∷ rest)) ≡ length path = prefix_len-append_all is_path_byte path (34 ∷ rest) s.is_path.spelled ∙ omega arith in
    let cut : take (prefix_len is_path_byte (path ++ (34 ∷ rest))) (path ++ (34 ∷ rest)) ≡ path = take_at path (34 ∷ rest) _ (sym count) in
    let some : nat_lt 0 (prefix_len is_path_byte (path ++ (34 ∷ rest))) ≡ true = lt-ltb 0 _ (omega (arith, count, s.is_path.some)) in
    let short : nat_le (prefix_len is_path_byte (path ++ (34 ∷ rest))) 4096 ≡ true = le-leb _ 4096 (omega (arith, count, s.is_path.short)) in
    let quote = stands_at-append 34 path rest _ (sym count) in
    let utf8 : is_utf8 (take (prefix_len is_path_byte (path ++ (34 ∷ rest))) (path ++ (34 ∷ rest))) ≡ true = ap is_utf8 cut ∙ is_utf8-from_IsUtf8 path s.is_utf8 in
    let size : path_len ((path ++ (34 ∷ [])) ++ rest) ≡ length path + 1 =
    ap path_len whole ∙ cond-true _ _ 0 (and_from _ _ (and_from _ _ (and_from _ _ some short) quote) utf8) ∙ ap (λ n. n + 1) count in
    let front_is = front_after-some kind.Path (path_len ((path ++ (34 ∷ [])) ++ rest)) (omega (arith, size)) in
    subst (λ t. front_of (t ++ rest) ≡ front (OfKind kind.Path) (length t)) (sym s.spelled)
    (front_is ∙ ap (front (OfKind kind.Path)) (omega (arith, size, length-append path (34 ∷ []))))

-- a path begins with a quote, and has n bytes after it
pub record BeginsPath (bytes : List ℕ) (n : ℕ) : Type 0 where
  pub path : List ℕ
  pub text : List ℕ
  pub rest : List ℕ
  pub cut : 34 ∷ bytes ≡ text ++ rest
  pub size : length text ≡ n + 1
  pub spells : SpellsPath path text

pub record PathParts (bytes : List ℕ) (n : ℕ) : Type 0 where
  pub some : 0 < n
  pub short : n ≤ 4096
  pub quote : stands_at 34 n bytes ≡ true
  pub utf8 : is_utf8 (take n bytes) ≡ true

path_at : (bytes : List ℕ) → PathParts bytes (prefix_len is_path_byte bytes) → BeginsPath bytes (prefix_len is_path_byte bytes + 1)
path_at bytes p =
    let n = prefix_len is_path_byte bytes in
    let long = length-take-le n bytes (prefix_len-le-length is_path_byte bytes) in
    let following = stands_at-drop 34 n bytes p.quote in
    record {
      path = take n bytes;
      text = 34 ∷ (take n bytes ++ (34 ∷ []));
      rest = drop (suc n) bytes;
      cut = ap (λ l. 34 ∷ l) (sym (take-append-drop n bytes) ∙ ap (λ l. take n bytes ++ l) following ∙ sym (append_assoc (take n bytes) (34 ∷ []) (drop (suc n) bytes)));
      size = omega (arith, length-append (take n bytes) (34 ∷ []), long);
      spells = record {
        spelled = refl;
        is_path = record { some = omega (arith, long, p.some); short = omega (arith, long, p.short); spelled = list_all-prefix is_path_byte bytes };
        is_utf8 = IsUtf8-from_is_utf8 _ p.utf8;
      };
    }

pub path_len-tells : (bytes : List ℕ) → 0 < path_len bytes → BeginsPath bytes (path_len bytes)
path_len-tells bytes =
    cond_both test (prefix_len is_path_byte bytes + 1) 0 (λ m. 0 < m → BeginsPath bytes m)
    (λ e _. path_at bytes (parts e))
    (λ _ l. absurd (omega arith))
  where
    n : ℕ
    n = prefix_len is_path_byte bytes

    test : Bool
    test = ((nat_lt 0 n && nat_le n 4096) && stands_at 34 n bytes) && is_utf8 (take n bytes)

    parts : test ≡ true → PathParts bytes n
    parts e =
        let a = and_parts ((nat_lt 0 n && nat_le n 4096) && stands_at 34 n bytes) (is_utf8 (take n bytes)) e in
        let b = and_parts (nat_lt 0 n && nat_le n 4096) (stands_at 34 n bytes) a.0 in
        let c = and_parts (nat_lt 0 n) (nat_le n 4096) b.0 in
        record { some = ltb-true _ _ c.0; short = leb-true _ _ c.1; quote = b.1; utf8 = a.1 }
