-- Plain values: no float, each number of 64 bits, each text UTF-8, and the keys of each object in their order. The
-- compact text of such a value reads as that value.
use Rattle.std.proofs.Common.{◌≡◌, ℕ, suc, ◌≤◌, ◌<◌, ◌^◌, pos, negsuc, List, [], ◌∷◌, Bool, true, false, Option, Some, None, option_map, option_and_then, IsUtf8, refl, sym, ap, ◌∙◌, Greater, nat_cmp, arith, append-nil}
use Rattle.std.proofs.lemmas.Bool.{or_from}
use Rattle.std.proofs.lemmas.Fmt.{IsAscii-decimal}
use Rattle.std.proofs.lemmas.Str.{IsUtf8-append, IsUtf8-from_ascii}
use Rattle.std.specs.Cmp.Lexicographic.{slice_cmp}
use Rattle.std.specs.Prelude.{⊤}
use Rattle.json.specs.Json as json
use Rattle.json.specs.Lex.{tokens}
use Rattle.json.specs.Token.{Token}
use Rattle.json.specs.Tree as tree
use Rattle.json.specs.Tree.{json_tokens}
use Rattle.json.proofs.Printed.Decimals.{IsNumber-decimal, IsNumber-signed_decimal}
use Rattle.json.proofs.Printed.Tokens.{tokens-print}
use Rattle.json.proofs.Printed.Trees.{value-json_tokens, ArePrintable-json_tokens}
use Rattle.json.proofs.Printed.Utf8.{IsUtf8-are_ascii, IsUtf8-quoted, IsUtf8-boolean}
use Rattle.json.specs.Print.{IsNumber}
use Rattle.serde_json.specs.Data.{Num, unsigned, negative, float, Data, null, boolean, number, string, array, object, Items, no_items, item, Members, no_members, member, put, depth, items_depth, members_depth}
use Rattle.serde_json.specs.Read.{number_of, of_json, of_items, of_members, max_depth, read}
use Rattle.serde_json.specs.Written.{number_text, outline, items_outline, members_outline, has_float, items_have_float, members_have_float, comma_if, compact_text, items_text, members_text}
use Rattle.serde_json.proofs.Numbers.{number_of-decimal, number_of-negative}
use Rattle.serde_json.proofs.Texts.{print-outline}

abbrev pub IsPlainNumber : Num → Type 0
IsPlainNumber (unsigned n) = n < 2 ^ 64
IsPlainNumber (negative (pos n)) = ⊥
IsPlainNumber (negative (negsuc n)) = n < 2 ^ 63
IsPlainNumber (float x) = ⊥

-- the key comes before those of the members
abbrev pub IsBefore : List ℕ → Members → Type 0
IsBefore key no_members = ⊤
IsBefore key (member other d ms) = (slice_cmp nat_cmp other key ≡ Greater) × IsBefore key ms

abbrev mutual
  pub IsPlain : Data → Type 0
  IsPlain null = ⊤
  IsPlain (boolean b) = ⊤
  IsPlain (number n) = IsPlainNumber n
  IsPlain (string s) = IsUtf8 s
  IsPlain (array ds) = ArePlain ds
  IsPlain (object ms) = AreInOrder ms

  pub ArePlain : Items → Type 0
  ArePlain no_items = ⊤
  ArePlain (item d ds) = IsPlain d × ArePlain ds

  pub AreInOrder : Members → Type 0
  AreInOrder no_members = ⊤
  AreInOrder (member key d ms) = IsUtf8 key × IsPlain d × IsBefore key ms × AreInOrder ms

-- ---- what the outline of a plain value reads as

number_read : (n : Num) → IsPlainNumber n → number_of (number_text n) ≡ Some n
number_read (unsigned n) h = number_of-decimal n h
number_read (negative (pos n)) h = absurd h
number_read (negative (negsuc n)) h = number_of-negative n h
number_read (float x) h = absurd h

put_past : (key other : List ℕ) (d e : Data) (found : Members) → slice_cmp nat_cmp other key ≡ Greater → put other e (member key d found) ≡ member key d (put other e found)
put_past key other d e found h = rw h refl

-- a member that comes before all others stays the first
first_stays : (key : List ℕ) (d : Data) (ms found : Members) → IsBefore key ms → of_members (members_outline ms) (member key d found) ≡ option_map (member key d) (of_members (members_outline ms) found)
first_stays key d no_members found h = refl
first_stays key d (member other e ms) found h = by (λ x. first_stays key d ms (put other x found) h.1) (of_json (outline e))
  where
    by : ((x : Data) → of_members (members_outline ms) (member key d (put other x found)) ≡ option_map (member key d) (of_members (members_outline ms) (put other x found))) → (o : Option Data) → option_and_then (λ x. of_members (members_outline ms) (put other x (member key d found))) o ≡ option_map (member key d) (option_and_then (λ x. of_members (members_outline ms) (put other x found)) o)
    by later None = refl
    by later (Some x) = ap (of_members (members_outline ms)) (put_past key other d x found h.0) ∙ later x

mutual
  outline_read : (d : Data) → IsPlain d → of_json (outline d) ≡ Some d
  outline_read null h = refl
  outline_read (boolean b) h = refl
  outline_read (number n) h = ap (option_map number) (number_read n h)
  outline_read (string s) h = refl
  outline_read (array ds) h = ap (option_map array) (items_read ds h)
  outline_read (object ms) h = ap (option_map object) (members_read ms h)

  items_read : (ds : Items) → ArePlain ds → of_items (items_outline ds) ≡ Some ds
  items_read no_items h = refl
  items_read (item d ds) h =
      ap (option_and_then (λ x. option_map (item x) (of_items (items_outline ds)))) (outline_read d h.0) ∙ ap (option_map (item d)) (items_read ds h.1)

  members_read : (ms : Members) → AreInOrder ms → of_members (members_outline ms) no_members ≡ Some ms
  members_read no_members h = refl
  members_read (member key d ms) h =
      ap (option_and_then (λ x. of_members (members_outline ms) (put key x no_members))) (outline_read d h.1)
      ∙ first_stays key d ms no_members h.2 ∙ ap (option_map (member key d)) (members_read ms h.3)

mutual
  outline_depth : (d : Data) → tree.depth (outline d) ≤ depth d
  outline_depth null = omega arith
  outline_depth (boolean b) = omega arith
  outline_depth (number n) = omega arith
  outline_depth (string s) = omega arith
  outline_depth (array ds) = omega (arith, items_outline_depth ds)
  outline_depth (object ms) = omega (arith, members_outline_depth ms)

  items_outline_depth : (ds : Items) → tree.items_depth (items_outline ds) ≤ items_depth ds
  items_outline_depth no_items = omega arith
  items_outline_depth (item d ds) = omega (arith, outline_depth d, items_outline_depth ds)

  members_outline_depth : (ms : Members) → tree.members_depth (members_outline ms) ≤ members_depth ms
  members_outline_depth no_members = omega arith
  members_outline_depth (member key d ms) = omega (arith, outline_depth d, members_outline_depth ms)

-- ---- the text of a plain value

number_printed : (n : Num) → IsPlainNumber n → IsNumber (number_text n)
number_printed (unsigned n) h = IsNumber-decimal n h
number_printed (negative (pos n)) h = absurd h
number_printed (negative (negsuc n)) h = IsNumber-signed_decimal (negsuc n) h
number_printed (float x) h = absurd h

mutual
  has_numbers : (d : Data) → IsPlain d → tree.HasNumbers (outline d)
  has_numbers null h = tt
  has_numbers (boolean b) h = tt
  has_numbers (number n) h = number_printed n h
  has_numbers (string s) h = tt
  has_numbers (array ds) h = items_have_numbers ds h
  has_numbers (object ms) h = members_have_numbers ms h

  items_have_numbers : (ds : Items) → ArePlain ds → tree.ItemsHaveNumbers (items_outline ds)
  items_have_numbers no_items h = tt
  items_have_numbers (item d ds) h = (has_numbers d h.0, items_have_numbers ds h.1)

  members_have_numbers : (ms : Members) → AreInOrder ms → tree.MembersHaveNumbers (members_outline ms)
  members_have_numbers no_members h = tt
  members_have_numbers (member key d ms) h = (has_numbers d h.1, members_have_numbers ms h.3)

number_utf8 : (n : Num) → IsPlainNumber n → IsUtf8 (number_text n)
number_utf8 (unsigned n) h = IsUtf8-from_ascii _ (IsAscii-decimal n h)
number_utf8 (negative (pos n)) h = absurd h
number_utf8 (negative (negsuc n)) h = IsUtf8-append (45 ∷ []) _ (IsUtf8-are_ascii (45 ∷ []) refl) (IsUtf8-from_ascii _ (IsAscii-decimal (suc n) (omega arith)))
number_utf8 (float x) h = absurd h

comma_utf8 : (later : Bool) → IsUtf8 (comma_if later)
comma_utf8 true = IsUtf8-are_ascii _ refl
comma_utf8 false = IsUtf8-are_ascii _ refl

-- an ASCII mark before a text
behind : (mark : ℕ) (text : List ℕ) → IsUtf8 (mark ∷ []) → IsUtf8 text → IsUtf8 (mark ∷ text)
behind mark text m t = IsUtf8-append (mark ∷ []) text m t

mutual
  pub text_utf8 : (d : Data) → IsPlain d → IsUtf8 (compact_text d)
  text_utf8 null h = IsUtf8-are_ascii _ refl
  text_utf8 (boolean b) h = IsUtf8-boolean b
  text_utf8 (number n) h = number_utf8 n h
  text_utf8 (string s) h = IsUtf8-quoted s h
  text_utf8 (array ds) h = behind 91 _ (IsUtf8-are_ascii _ refl) (items_utf8 false ds h)
  text_utf8 (object ms) h = behind 123 _ (IsUtf8-are_ascii _ refl) (members_utf8 false ms h)

  items_utf8 : (later : Bool) (ds : Items) → ArePlain ds → IsUtf8 (items_text later ds)
  items_utf8 later no_items h = IsUtf8-are_ascii _ refl
  items_utf8 later (item d ds) h = IsUtf8-append _ _ (comma_utf8 later) (IsUtf8-append _ _ (text_utf8 d h.0) (items_utf8 true ds h.1))

  members_utf8 : (later : Bool) (ms : Members) → AreInOrder ms → IsUtf8 (members_text later ms)
  members_utf8 later no_members h = IsUtf8-are_ascii _ refl
  members_utf8 later (member key d ms) h =
      IsUtf8-append _ _ (comma_utf8 later) (IsUtf8-append _ _ (IsUtf8-quoted key h.0) (behind 58 _ (IsUtf8-are_ascii _ refl) (IsUtf8-append _ _ (text_utf8 d h.1) (members_utf8 true ms h.3))))

number_whole : (n : Num) → IsPlainNumber n → has_float (number n) ≡ false
number_whole (unsigned n) h = refl
number_whole (negative z) h = refl
number_whole (float x) h = absurd h

mutual
  pub plain_whole : (d : Data) → IsPlain d → has_float d ≡ false
  plain_whole null h = refl
  plain_whole (boolean b) h = refl
  plain_whole (number n) h = number_whole n h
  plain_whole (string s) h = refl
  plain_whole (array ds) h = items_whole ds h
  plain_whole (object ms) h = members_whole ms h

  items_whole : (ds : Items) → ArePlain ds → items_have_float ds ≡ false
  items_whole no_items h = refl
  items_whole (item d ds) h = or_from _ _ (plain_whole d h.0) (items_whole ds h.1)

  members_whole : (ms : Members) → AreInOrder ms → members_have_float ms ≡ false
  members_whole no_members h = refl
  members_whole (member key d ms) h = or_from _ _ (plain_whole d h.1) (members_whole ms h.3)

-- what is read where these are the value and the tokens after it
abbrev whole : Option (json.Json × List Token) → Option Data
whole o = option_and_then of_json (option_and_then (λ p. json.if_last p.0 p.1) o)

-- the text of a plain value reads as the value
pub text_read : (d : Data) → IsPlain d → depth d ≤ max_depth → read (compact_text d) ≡ Some d
text_read d h shallow =
    let ts = json_tokens (outline d) in
    let cut : tokens (compact_text d) ≡ ts = ap tokens (sym (print-outline d)) ∙ tokens-print ts (ArePrintable-json_tokens (outline d) (has_numbers d h)) in
    ap whole (ap (json.value max_depth) (cut ∙ sym (append-nil ts)) ∙ value-json_tokens (outline d) max_depth [] (omega (arith, outline_depth d))) ∙ outline_read d h
