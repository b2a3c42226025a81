-- The tokens at the front of bytes.
use Rattle.std.proofs.Common.{◌≡◌, ℕ, zero, suc, ◌<◌, ◌≤◌, Bool, true, false, List, [], ◌∷◌, ◌++◌, length, take, drop, get_or, Option, Some, None, refl, sym, ap, subst, ◌∙◌, ⊎_elim, arith}
use denote.Ref.{Bor}
use Rattle.std.specs.Prelude.{IsTrue, MatchBool, MatchOption, option_map, nat_eq}
use Rattle.std.proofs.lemmas.Bool.{cases_eq, eq-eqb, ne_eqb}
use Rattle.std.specs.List.{list_all}
use Rattle.std.proofs.lemmas.List.{take-append-drop, drop_more, drop_all}
use Rattle.std.proofs.lemmas.List.Elements.{All-head, All-tail}
use Rattle.rv64_listing.specs.Line.{is_blank, AreBlank, IsComment}
use Rattle.rv64_listing.specs.Tokens.{Token, Space, CommaT, OpenT, CloseT, Run, Class, Blank, CommaC, OpenC, CloseC, Hash, Plain, class, is_plain, is_plain_byte, spaced, joined, add, cut, unspaced, tokens, FirstIs, Skips, IsPlainLength}
use Rattle.rv64_listing.specs.Reading.{behind_space, behind_comma, behind_open, behind_close, is_end, run_in}
use Rattle.rv64_listing.proofs.Cut.{NotRun, is_plain_text, class_blank, cut_ends, cut_blanks, cut_text}
use Rattle.rv64_listing.proofs.Uncut.{blank_is, hash_is, blanks_off, comma_off, open_off, close_off}

-- ---- what is first

pub first_at : (test : ℕ → Bool) (t : Bool) (xs : List ℕ) (i : ℕ) → i < length xs → test (get_or xs i 0) ≡ t → FirstIs test t (drop i xs)
first_at test t xs i h e = subst (FirstIs test t) (sym (drop_more xs i 0 h)) e

pub first_none : (test : ℕ → Bool) (t : Bool) (xs : List ℕ) (i : ℕ) → length xs ≤ i → FirstIs test t (drop i xs)
first_none test t xs i h = subst (FirstIs test t) (sym (drop_all i xs h)) tt

pub skips_at : (rest : List ℕ) (i : ℕ) → AreBlank (take i rest) → FirstIs is_blank false (drop i rest) → Skips rest (drop i rest)
skips_at rest i blank first = record { blanks = take i rest; is = sym (take-append-drop i rest); blank = blank; begins = first }

-- ---- the first token

record Some_token (bytes : List ℕ) : Type 0 where
  token : Token
  more : List Token
  is : cut bytes ≡ token ∷ more
  solid : token ≡ Space → ⊥

joined_token : (b : ℕ) (ts : List Token) → (text : List ℕ) × (more : List Token) × (joined b ts ≡ Run text ∷ more)
joined_token b [] = (b ∷ [], [], refl)
joined_token b (Run r ∷ ts) = (b ∷ r, ts, refl)
joined_token b (Space ∷ ts) = (b ∷ [], Space ∷ ts, refl)
joined_token b (CommaT ∷ ts) = (b ∷ [], CommaT ∷ ts, refl)
joined_token b (OpenT ∷ ts) = (b ∷ [], OpenT ∷ ts, refl)
joined_token b (CloseT ∷ ts) = (b ∷ [], CloseT ∷ ts, refl)

token_by : (b : ℕ) (bs : List ℕ) (c : Class) → class b ≡ c → is_blank b ≡ false → (b ≡ 35 → ⊥) → Some_token (b ∷ bs)
token_by b bs Blank e n h = absurd (let k : true ≡ false = sym (blank_is b e) ∙ n in cc)
token_by b bs Hash e n h = absurd (h (hash_is b e))
token_by b bs CommaC e n h = record { token = CommaT; more = cut bs; is = ap (λ c. add c b (cut bs)) e; solid = λ k. let l : CommaT ≡ Space = k in cc }
token_by b bs OpenC e n h = record { token = OpenT; more = cut bs; is = ap (λ c. add c b (cut bs)) e; solid = λ k. let l : OpenT ≡ Space = k in cc }
token_by b bs CloseC e n h = record { token = CloseT; more = cut bs; is = ap (λ c. add c b (cut bs)) e; solid = λ k. let l : CloseT ≡ Space = k in cc }
token_by b bs Plain e n h = let j = joined_token b (cut bs) in record { token = Run j.0; more = j.1; is = ap (λ c. add c b (cut bs)) e ∙ j.2; solid = λ k. let l : Run j.0 ≡ Space = k in cc }

spaced_is : (t : Token) (ts : List Token) → (t ≡ Space → ⊥) → spaced (t ∷ ts) ≡ Space ∷ t ∷ ts
spaced_is Space ts n = absurd (n refl)
spaced_is CommaT ts n = refl
spaced_is OpenT ts n = refl
spaced_is CloseT ts n = refl
spaced_is (Run r) ts n = refl

gap : (b : ℕ) (bs after : List ℕ) (t : Token) (ts : List Token) → AreBlank (b ∷ bs) → cut after ≡ t ∷ ts → (t ≡ Space → ⊥) → cut ((b ∷ bs) ++ after) ≡ Space ∷ t ∷ ts
gap b [] after t ts all e n = ap (λ c. add c b (cut after)) (class_blank b (All-head (λ b. IsTrue (is_blank b)) b [] all)) ∙ (ap spaced e ∙ spaced_is t ts n)
gap b (c ∷ cs) after t ts all e n =
    ap (λ k. add k b (cut ((c ∷ cs) ++ after))) (class_blank b (All-head (λ b. IsTrue (is_blank b)) b (c ∷ cs) all)) ∙ ap spaced (gap c cs after t ts (All-tail (λ b. IsTrue (is_blank b)) b (c ∷ cs) all) e n)

-- ---- ends

pub ends_here : (rest after : List ℕ) → Skips rest after → IsComment after → cut rest ≡ []
ends_here rest after s h = ap cut s.is ∙ cut_blanks s.blanks after s.blank (cut_ends after h)

goes_on : (blanks after : List ℕ) (t : Token) (ts : List Token) → AreBlank blanks → cut after ≡ t ∷ ts → (t ≡ Space → ⊥) → cut (blanks ++ after) ≡ [] → ⊥
goes_on [] after t ts all e n k = let l : t ∷ ts ≡ [] = sym e ∙ k in cc
goes_on (b ∷ bs) after t ts all e n k = let l : Space ∷ t ∷ ts ≡ [] = sym (gap b bs after t ts all e n) ∙ k in cc

pub no_end : (rest : List ℕ) (b : ℕ) (bs : List ℕ) → Skips rest (b ∷ bs) → (b ≡ 35 → ⊥) → cut rest ≡ [] → ⊥
no_end rest b bs s h k = let t = token_by b bs (class b) refl s.begins h in goes_on s.blanks (b ∷ bs) t.token t.more s.blank t.is t.solid (sym (ap cut s.is) ∙ k)

-- ---- gaps

gap_front : (blanks after : List ℕ) (rest : List ℕ) (t : Token) (ts : List Token) → rest ≡ blanks ++ after → AreBlank blanks → FirstIs is_blank false after → FirstIs is_blank true rest → (rest ≡ [] → ⊥) → cut after ≡ t ∷ ts → (t ≡ Space → ⊥) → cut rest ≡ Space ∷ cut after
gap_front [] [] rest t ts is all first begins some e n = absurd (some is)
gap_front [] (b ∷ bs) rest t ts is all first begins some e n = absurd (let f : is_blank b ≡ true = subst (FirstIs is_blank true) is begins in let k : true ≡ false = sym f ∙ first in cc)
gap_front (c ∷ cs) after rest t ts is all first begins some e n = ap cut is ∙ (gap c cs after t ts all e n ∙ ap (λ x. Space ∷ x) (sym e))

pub gap_here : (rest : List ℕ) (b : ℕ) (bs : List ℕ) → Skips rest (b ∷ bs) → (b ≡ 35 → ⊥) → FirstIs is_blank true rest → (rest ≡ [] → ⊥) → cut rest ≡ Space ∷ cut (b ∷ bs)
gap_here rest b bs s h begins some = let t = token_by b bs (class b) refl s.begins h in gap_front s.blanks (b ∷ bs) rest t.token t.more s.is s.blank s.begins begins some t.is t.solid

pub gap_by : (rest after : List ℕ) → Skips rest after → (cut rest ≡ [] → ⊥) → FirstIs is_blank true rest → (rest ≡ [] → ⊥) → cut rest ≡ Space ∷ cut after
gap_by rest [] s more begins some = absurd (more (ends_here rest [] s tt))
gap_by rest (b ∷ bs) s more begins some = gap_here rest b bs s (λ e. more (ends_here rest (b ∷ bs) s e)) begins some

pub no_gap_here : (rest : List ℕ) (ts : List Token) → FirstIs is_blank false rest → cut rest ≡ Space ∷ ts → ⊥
no_gap_here rest ts first e =
    let r = blanks_off rest ts e in
    let f : is_blank r.first ≡ false = subst (FirstIs is_blank false) r.is first in
    let k : true ≡ false = sym (All-head (λ b. IsTrue (is_blank b)) r.first r.more r.blank) ∙ f in cc

-- ---- commas

pub no_comma : (rest : List ℕ) → ((after : List ℕ) → rest ≡ 44 ∷ after → ⊥) → (ts : List Token) → cut rest ≡ CommaT ∷ ts → ⊥
no_comma rest none ts e = let r = comma_off rest ts e in none r.0 r.1

-- ---- runs

pub not_run : (xs : List ℕ) → FirstIs is_plain_byte false xs → NotRun (cut xs)
not_run [] h = tt
not_run (b ∷ bs) h = by (class b) refl h
  where
    spaced_run : (ts : List Token) → NotRun (spaced ts)
    spaced_run [] = tt
    spaced_run (Space ∷ ts) = tt
    spaced_run (CommaT ∷ ts) = tt
    spaced_run (OpenT ∷ ts) = tt
    spaced_run (CloseT ∷ ts) = tt
    spaced_run (Run r ∷ ts) = tt

    by : (c : Class) → class b ≡ c → is_plain (class b) ≡ false → NotRun (cut (b ∷ bs))
    by Blank e h = subst (λ c. NotRun (add c b (cut bs))) (sym e) (spaced_run (cut bs))
    by Hash e h = subst (λ c. NotRun (add c b (cut bs))) (sym e) tt
    by CommaC e h = subst (λ c. NotRun (add c b (cut bs))) (sym e) tt
    by OpenC e h = subst (λ c. NotRun (add c b (cut bs))) (sym e) tt
    by CloseC e h = subst (λ c. NotRun (add c b (cut bs))) (sym e) tt
    by Plain e h = absurd (let k : true ≡ false = sym (ap is_plain e) ∙ h in cc)

plain_text : (xs : List ℕ) → (xs ≡ [] → ⊥) → list_all is_plain_byte xs ≡ true → is_plain_text xs ≡ true
plain_text [] n h = absurd (n refl)
plain_text (b ∷ bs) n h = h

taken_some : (xs : List ℕ) (n : ℕ) → n ≤ length xs → (n ≡ 0 → ⊥) → take n xs ≡ [] → ⊥
taken_some xs zero l n e = n refl
taken_some [] (suc k) l n e = absurd (omega arith)
taken_some (x ∷ xs) (suc k) l n e = let h : x ∷ take k xs ≡ [] = e in cc

pub run_here : (rest : List ℕ) (n : ℕ) → IsPlainLength rest n → (n ≡ 0 → ⊥) → cut rest ≡ Run (take n rest) ∷ cut (drop n rest)
run_here rest n p some =
    ap cut (sym (take-append-drop n rest)) ∙ cut_text (take n rest) (drop n rest) (plain_text (take n rest) (taken_some rest n p.within some) p.plain) (not_run (drop n rest) p.ends)

pub no_run_here : (rest : List ℕ) (n : ℕ) → IsPlainLength rest n → n ≡ 0 → (text : List ℕ) (ts : List Token) → cut rest ≡ Run text ∷ ts → ⊥
no_run_here rest n p zero_is text ts e =
    let f : FirstIs is_plain_byte false rest = subst (λ k. FirstIs is_plain_byte false (drop k rest)) zero_is p.ends in
    subst NotRun e (not_run rest f)

-- ---- what tests say

pub empty_ends : (rest after : List ℕ) → Skips rest after → length after ≡ 0 → cut rest ≡ []
empty_ends rest [] s e = ends_here rest [] s tt
empty_ends rest (b ∷ bs) s e = absurd (let k : suc (length bs) ≡ 0 = e in omega arith)

pub first_ends : (rest after : List ℕ) → Skips rest after → (length after ≡ 0 → ⊥) → MatchBool (nat_eq (get_or after 0 0) 35) (cut rest ≡ []) (cut rest ≡ [] → ⊥)
first_ends rest [] s n = absurd (n refl)
first_ends rest (b ∷ bs) s n = ⊎_elim
    (λ e. rw (eq-eqb b 35 e) (ends_here rest (b ∷ bs) s e))
    (λ m. rw (ne_eqb b 35 m) (no_end rest b bs s m))
    (cases_eq b 35)

pub first_blank : (rest : List ℕ) → is_blank (get_or rest 0 0) ≡ true → FirstIs is_blank true rest
first_blank [] e = tt
first_blank (b ∷ bs) e = e

pub first_not_blank : (rest : List ℕ) → is_blank (get_or rest 0 0) ≡ false → FirstIs is_blank false rest
first_not_blank [] e = tt
first_not_blank (b ∷ bs) e = e

pub empty_tokens : (rest : List ℕ) → length rest ≡ 0 → cut rest ≡ []
empty_tokens [] e = refl
empty_tokens (b ∷ bs) e = absurd (let k : suc (length bs) ≡ 0 = e in omega arith)

pub nothing_is : (rest : List ℕ) (t : Token) (ts : List Token) → cut rest ≡ [] → cut rest ≡ t ∷ ts → ⊥
nothing_is rest t ts e f = let k : [] ≡ t ∷ ts = sym e ∙ f in cc

-- ---- what the steps answer

pub none_space : (ts : List Token) → ((us : List Token) → ts ≡ Space ∷ us → ⊥) → None ≡ behind_space ts
none_space [] none = refl
none_space (Space ∷ ts) none = absurd (none ts refl)
none_space (CommaT ∷ ts) none = refl
none_space (OpenT ∷ ts) none = refl
none_space (CloseT ∷ ts) none = refl
none_space (Run r ∷ ts) none = refl

pub none_comma : (ts : List Token) → ((us : List Token) → ts ≡ CommaT ∷ us → ⊥) → None ≡ behind_comma ts
none_comma [] none = refl
none_comma (Space ∷ ts) none = refl
none_comma (CommaT ∷ ts) none = absurd (none ts refl)
none_comma (OpenT ∷ ts) none = refl
none_comma (CloseT ∷ ts) none = refl
none_comma (Run r ∷ ts) none = refl

pub none_open : (ts : List Token) → ((us : List Token) → ts ≡ OpenT ∷ us → ⊥) → None ≡ behind_open ts
none_open [] none = refl
none_open (Space ∷ ts) none = refl
none_open (CommaT ∷ ts) none = refl
none_open (OpenT ∷ ts) none = absurd (none ts refl)
none_open (CloseT ∷ ts) none = refl
none_open (Run r ∷ ts) none = refl

pub none_close : (ts : List Token) → ((us : List Token) → ts ≡ CloseT ∷ us → ⊥) → None ≡ behind_close ts
none_close [] none = refl
none_close (Space ∷ ts) none = refl
none_close (CommaT ∷ ts) none = refl
none_close (OpenT ∷ ts) none = refl
none_close (CloseT ∷ ts) none = absurd (none ts refl)
none_close (Run r ∷ ts) none = refl

pub none_run : (ts : List Token) → ((text : List ℕ) (us : List Token) → ts ≡ Run text ∷ us → ⊥) → None ≡ run_in ts
none_run [] none = refl
none_run (Space ∷ ts) none = refl
none_run (CommaT ∷ ts) none = refl
none_run (OpenT ∷ ts) none = refl
none_run (CloseT ∷ ts) none = refl
none_run (Run r ∷ ts) none = absurd (none r ts refl)

pub ends : (ts : List Token) → ts ≡ [] → true ≡ is_end ts
ends ts e = sym (ap is_end e)

pub ends_not : (ts : List Token) → (ts ≡ [] → ⊥) → false ≡ is_end ts
ends_not [] n = absurd (n refl)
ends_not (t ∷ ts) n = refl

pub end_test : (ts : List Token) → true ≡ is_end ts → ts ≡ []
end_test [] e = refl
end_test (t ∷ ts) e = absurd (let k : true ≡ false = e in cc)

pub no_end_test : (ts : List Token) → false ≡ is_end ts → ts ≡ [] → ⊥
no_end_test ts e is = let k : false ≡ true = e ∙ ap is_end is in cc

-- the mark stands there, or not
pub no_open : (rest : List ℕ) → ((after : List ℕ) → rest ≡ 40 ∷ after → ⊥) → (ts : List Token) → cut rest ≡ OpenT ∷ ts → ⊥
no_open rest none ts e = let r = open_off rest ts e in none r.0 r.1

pub no_close : (rest : List ℕ) → ((after : List ℕ) → rest ≡ 41 ∷ after → ⊥) → (ts : List Token) → cut rest ≡ CloseT ∷ ts → ⊥
no_close rest none ts e = let r = close_off rest ts e in none r.0 r.1

-- behind its first blanks, a line has its tokens
unspaced_gap : (blanks after : List ℕ) (t : Token) (ts : List Token) → AreBlank blanks → cut after ≡ t ∷ ts → (t ≡ Space → ⊥) → unspaced (cut (blanks ++ after)) ≡ t ∷ ts
unspaced_gap [] after t ts all e n = ap unspaced e ∙ unspaced_is t ts n
  where
    unspaced_is : (t : Token) (ts : List Token) → (t ≡ Space → ⊥) → unspaced (t ∷ ts) ≡ t ∷ ts
    unspaced_is Space ts n = absurd (n refl)
    unspaced_is CommaT ts n = refl
    unspaced_is OpenT ts n = refl
    unspaced_is CloseT ts n = refl
    unspaced_is (Run r) ts n = refl
unspaced_gap (b ∷ bs) after t ts all e n = ap unspaced (gap b bs after t ts all e n)

pub behind_first : (line after : List ℕ) → Skips line after → cut after ≡ tokens line
behind_first line [] s = sym (ap unspaced (ends_here line [] s tt))
behind_first line (b ∷ bs) s = ⊎_elim
    (λ e. (let c : cut (b ∷ bs) ≡ [] = cut_ends (b ∷ bs) e in c ∙ sym (ap unspaced (ends_here line (b ∷ bs) s e))))
    (λ n.
    let t = token_by b bs (class b) refl s.begins n in
    t.is ∙ sym (ap tokens s.is ∙ unspaced_gap s.blanks (b ∷ bs) t.token t.more s.blank t.is t.solid))
    (cases_eq b 35)

pub tests_end : (b : Bool) (ts : List Token) → MatchBool b (ts ≡ []) (ts ≡ [] → ⊥) → b ≡ is_end ts
tests_end true ts h = ends ts h
tests_end false ts h = ends_not ts h

-- a mark that stands at the front, or not

pub comma_step : (rest : List ℕ) (o : Option (Bor (List ℕ))) → MatchOption o ((after : List ℕ) → rest ≡ 44 ∷ after → ⊥) (λ a. rest ≡ 44 ∷ a.now) → option_map (λ a. cut a.now) o ≡ behind_comma (cut rest)
comma_step rest None h = none_comma (cut rest) (λ us e. no_comma rest h us e)
comma_step rest (Some a) h = sym (ap behind_comma (ap cut h))

pub open_step : (rest : List ℕ) (o : Option (Bor (List ℕ))) → MatchOption o ((after : List ℕ) → rest ≡ 40 ∷ after → ⊥) (λ a. rest ≡ 40 ∷ a.now) → option_map (λ a. cut a.now) o ≡ behind_open (cut rest)
open_step rest None h = none_open (cut rest) (λ us e. no_open rest h us e)
open_step rest (Some a) h = sym (ap behind_open (ap cut h))

pub close_step : (rest : List ℕ) (o : Option (Bor (List ℕ))) → MatchOption o ((after : List ℕ) → rest ≡ 41 ∷ after → ⊥) (λ a. rest ≡ 41 ∷ a.now) → option_map (λ a. cut a.now) o ≡ behind_close (cut rest)
close_step rest None h = none_close (cut rest) (λ us e. no_close rest h us e)
close_step rest (Some a) h = sym (ap behind_close (ap cut h))
