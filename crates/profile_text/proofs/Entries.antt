-- Lines of entries: what they lack, that they tell the entry, and which lines they are.
use Rattle.std.proofs.Common.{◌≡◌, ◌≢◌, ℕ, ◌+◌, ◌<◌, ◌≤◌, Bool, true, false, not, append_assoc, get_or, take, List, [], ◌∷◌, ◌++◌, length, map, refl, sym, ap, ap₂, subst, ◌∙◌, arith}
use Rattle.std.specs.Fmt.{decimal}
use Rattle.std.specs.Prelude.{bytes_eq, codes, IsTrue, MatchBool, ◌==◌, ◌||◌}
use Rattle.std.specs.List.{All, list_all}
use Rattle.std.proofs.lemmas.Bool.Decides.{Decides-eqb}
use Rattle.std.proofs.lemmas.Fmt.{decimal_injective}
use Rattle.std.proofs.lemmas.List.{append_cancel_left, flat_map_more, length-map, map-append, take_more}
use Rattle.std.proofs.lemmas.List.Concat.{flat_map-append}
use Rattle.std.proofs.lemmas.List.Elements.{All-nil, All-cons, All-head, All-tail, All-append, All-weaker}
use Rattle.std.proofs.lemmas.List.Sums.{AllPass-from_list_all}
use Rattle.bril_tree.specs.Identifier.{is_identifier, continues_identifier}
use Rattle.bril_tree.proofs.Identifiers.{identifier_continues}
use Rattle.bril_profile.specs.declared.profile.Entry.{Entry}
use Rattle.profile_text.specs.declared.entry.Parts.{Parts}
use Rattle.profile_text.specs.declared.version.Version.{Version}
use Rattle.profile_text.specs.declared.version.Version.TheVariants.{First, Second}
use Rattle.profile_text.specs.Form.{Lacks, choice_letter, choices_text, is_letter, SpellChoices, IsCount, ending, parts_line, line_of, AreCut, AreParts, entry_line, IsEntry, first_line, profile_lines, text_of}
use Rattle.profile_text.proofs.Counts.{count_lacks}
use Rattle.profile_text.proofs.Cuts.{cut_once, heads, lacks_at, line_front, tails}

-- ---- what names lack

-- a byte that no identifier has
pub name_lacks : (b : ℕ) (name : List ℕ) → continues_identifier b ≡ false → is_identifier name ≡ true → Lacks b name
name_lacks b name out h =
    All-weaker (λ c. continues_identifier c ≡ true) (λ c. c ≢ b) other name (AllPass-from_list_all continues_identifier name (identifier_continues name h))
  where
    other : (c : ℕ) → continues_identifier c ≡ true → c ≢ b
    other c inside e = let k : true ≡ false = sym inside ∙ ap continues_identifier e ∙ out in cc

-- ---- what lines lack

-- bytes of a literal, none of which is LF
plain_lacks : (bytes : List ℕ) → list_all (λ b. not (b == 10)) bytes ≡ true → Lacks 10 bytes
plain_lacks bytes h = All-weaker (λ b. not (b == 10) ≡ true) (λ b. b ≢ 10) other bytes (AllPass-from_list_all (λ b. not (b == 10)) bytes h)
  where
    other : (c : ℕ) → not (c == 10) ≡ true → c ≢ 10
    other c inside e = let k : true ≡ false = sym inside ∙ ap (λ b. not (b == 10)) e in cc

-- a byte below `-`
letters_lack : (b : ℕ) → b < 45 → (choices : List Bool) → Lacks b (map choice_letter choices)
letters_lack b low [] = All-nil (λ c. c ≢ b)
letters_lack b low (true ∷ cs) = All-cons (λ c. c ≢ b) 84 (map choice_letter cs) (λ e. let k : 84 ≡ b = e in omega arith) (letters_lack b low cs)
letters_lack b low (false ∷ cs) = All-cons (λ c. c ≢ b) 70 (map choice_letter cs) (λ e. let k : 70 ≡ b = e in omega arith) (letters_lack b low cs)

choices_lack : (b : ℕ) → b < 45 → (choices : List Bool) → Lacks b (choices_text choices)
choices_lack b low [] = All-cons (λ c. c ≢ b) 45 [] (λ e. let k : 45 ≡ b = e in omega arith) (All-nil (λ c. c ≢ b))
choices_lack b low (c ∷ cs) = letters_lack b low (c ∷ cs)

ending_lacks : (version : Version) (choices : List Bool) (count : ℕ) → IsCount version count → Lacks 10 (ending version (choices_text choices) count)
ending_lacks First choices count fits = choices_lack 10 (omega arith) choices
ending_lacks Second choices count fits =
    All-append (λ c. c ≢ 10) (choices_text choices) (32 ∷ decimal count) (choices_lack 10 (omega arith) choices)
    (All-append (λ c. c ≢ 10) (32 ∷ []) (decimal count) (plain_lacks (32 ∷ []) refl) (count_lacks 10 count (omega arith) fits.1))

pub line_lacks : (version : Version) (entry : Entry) → IsEntry version entry → Lacks 10 (entry_line version entry)
line_lacks version e valid =
    let behind : List ℕ = ending version (choices_text e.choices) e.count in
    All-append (λ c. c ≢ 10) (codes "trace @") (e.func ++ (32 ∷ 46 ∷ (e.label ++ (32 ∷ behind)))) (plain_lacks (codes "trace @") refl)
    (All-append (λ c. c ≢ 10) e.func (32 ∷ 46 ∷ (e.label ++ (32 ∷ behind))) (name_lacks 10 e.func refl valid.func)
    (All-append (λ c. c ≢ 10) (32 ∷ 46 ∷ []) (e.label ++ (32 ∷ behind)) (plain_lacks (32 ∷ 46 ∷ []) refl)
    (All-append (λ c. c ≢ 10) e.label (32 ∷ behind) (name_lacks 10 e.label refl valid.label)
    (All-append (λ c. c ≢ 10) (32 ∷ []) behind (plain_lacks (32 ∷ []) refl) (ending_lacks version e.choices e.count valid.count)))))

entry_lines_lack : (version : Version) (entries : List Entry) → All (IsEntry version) entries → All (Lacks 10) (map (entry_line version) entries)
entry_lines_lack version [] all = All-nil (Lacks 10)
entry_lines_lack version (e ∷ es) all =
    All-cons (Lacks 10) (entry_line version e) (map (entry_line version) es) (line_lacks version e (All-head (IsEntry version) e es all)) (entry_lines_lack version es (All-tail (IsEntry version) e es all))

pub first_line_lacks : (version : Version) → Lacks 10 (first_line version)
first_line_lacks First = plain_lacks (first_line First) refl
first_line_lacks Second = plain_lacks (first_line Second) refl

pub lines_lack : (version : Version) (entries : List Entry) → All (IsEntry version) entries → All (Lacks 10) (profile_lines version entries)
lines_lack version entries all = All-cons (Lacks 10) (first_line version) (map (entry_line version) entries) (first_line_lacks version) (entry_lines_lack version entries all)

-- ---- what lines tell

parts_same : (f g l m c d : List ℕ) → Lacks 32 f → Lacks 32 g → Lacks 32 l → Lacks 32 m → parts_line f l c ≡ parts_line g m d → (f ≡ g) × ((l ≡ m) × (c ≡ d))
parts_same f g l m c d lf lg ll lm e =
    let a : f ++ 32 ∷ (46 ∷ (l ++ 32 ∷ c)) ≡ g ++ 32 ∷ (46 ∷ (m ++ 32 ∷ d)) = append_cancel_left (codes "trace @") (f ++ 32 ∷ (46 ∷ (l ++ 32 ∷ c))) (g ++ 32 ∷ (46 ∷ (m ++ 32 ∷ d))) e in
    let p = cut_once 32 f g (46 ∷ (l ++ 32 ∷ c)) (46 ∷ (m ++ 32 ∷ d)) lf lg a in
    let b : 46 ∷ (l ++ 32 ∷ c) ≡ 46 ∷ (m ++ 32 ∷ d) = p.1 in
    let b' : l ++ 32 ∷ c ≡ m ++ 32 ∷ d = cc in
    (p.0, cut_once 32 l m c d ll lm b')

letter_same : (c d : Bool) → choice_letter c ≡ choice_letter d → c ≡ d
letter_same true true e = refl
letter_same true false e = absurd (let h : 84 ≡ 70 = e in omega arith)
letter_same false true e = absurd (let h : 70 ≡ 84 = e in omega arith)
letter_same false false e = refl

pub letter_is_none : (c : Bool) → choice_letter c ≡ 45 → ⊥
letter_is_none true e = let h : 84 ≡ 45 = e in omega arith
letter_is_none false e = let h : 70 ≡ 45 = e in omega arith

letters_same : (cs ds : List Bool) → map choice_letter cs ≡ map choice_letter ds → cs ≡ ds
letters_same [] [] e = refl
letters_same [] (d ∷ ds) e = absurd (let h : [] ≡ choice_letter d ∷ map choice_letter ds = e in cc)
letters_same (c ∷ cs) [] e = absurd (let h : choice_letter c ∷ map choice_letter cs ≡ [] = e in cc)
letters_same (c ∷ cs) (d ∷ ds) e =
    let h : choice_letter c ∷ map choice_letter cs ≡ choice_letter d ∷ map choice_letter ds = e in
    let first : choice_letter c ≡ choice_letter d = cc in
    let rest : map choice_letter cs ≡ map choice_letter ds = cc in
    ap₂ (λ x (xs : List Bool). x ∷ xs) (letter_same c d first) (letters_same cs ds rest)

choices_same : (cs ds : List Bool) → choices_text cs ≡ choices_text ds → cs ≡ ds
choices_same [] [] e = refl
choices_same [] (d ∷ ds) e = absurd (let h : 45 ∷ [] ≡ choice_letter d ∷ map choice_letter ds = e in letter_is_none d cc)
choices_same (c ∷ cs) [] e = absurd (let h : choice_letter c ∷ map choice_letter cs ≡ 45 ∷ [] = e in letter_is_none c cc)
choices_same (c ∷ cs) (d ∷ ds) e = letters_same (c ∷ cs) (d ∷ ds) e

-- the letters and the count behind a label
ending_same : (version : Version) (l m : List ℕ) (a b : ℕ) → AreCut version l → AreCut version m → IsCount version a → IsCount version b → ending version l a ≡ ending version m b → (l ≡ m) × (a ≡ b)
ending_same First l m a b cl cm fa fb e = (e, fa ∙ sym fb)
ending_same Second l m a b cl cm fa fb e =
    let p = cut_once 32 l m (decimal a) (decimal b) cl cm e in
    (p.0, decimal_injective a b (let h = fa.1 in omega arith) (let h = fb.1 in omega arith) p.1)

choices_cut : (version : Version) (choices : List Bool) → AreCut version (choices_text choices)
choices_cut First choices = tt
choices_cut Second choices = choices_lack 32 (omega arith) choices

pub entry_same : (version : Version) (a b : Entry) → IsEntry version a → IsEntry version b → entry_line version a ≡ entry_line version b → a ≡ b
entry_same version a b va vb e =
    let p = parts_same a.func b.func a.label b.label (ending version (choices_text a.choices) a.count) (ending version (choices_text b.choices) b.count)
    (name_lacks 32 a.func refl va.func) (name_lacks 32 b.func refl vb.func) (name_lacks 32 a.label refl va.label) (name_lacks 32 b.label refl vb.label) e in
    let q = ending_same version (choices_text a.choices) (choices_text b.choices) a.count b.count (choices_cut version a.choices) (choices_cut version b.choices) va.count vb.count p.1.1 in
    let choices = choices_same a.choices b.choices q.0 in
    λ i. record { func = p.0 i; label = p.1.0 i; choices = choices i; count = q.1 i }

pub entries_same : (version : Version) (xs ys : List Entry) → All (IsEntry version) xs → All (IsEntry version) ys → map (entry_line version) xs ≡ map (entry_line version) ys → xs ≡ ys
entries_same version [] [] vx vy e = refl
entries_same version [] (y ∷ ys) vx vy e = absurd (let h : [] ≡ entry_line version y ∷ map (entry_line version) ys = e in cc)
entries_same version (x ∷ xs) [] vx vy e = absurd (let h : entry_line version x ∷ map (entry_line version) xs ≡ [] = e in cc)
entries_same version (x ∷ xs) (y ∷ ys) vx vy e =
    ap₂ (λ z (zs : List Entry). z ∷ zs)
    (entry_same version x y (All-head (IsEntry version) x xs vx) (All-head (IsEntry version) y ys vy) (heads (entry_line version x) (entry_line version y) (map (entry_line version) xs) (map (entry_line version) ys) e))
    (entries_same version xs ys (All-tail (IsEntry version) x xs vx) (All-tail (IsEntry version) y ys vy) (tails (entry_line version x) (entry_line version y) (map (entry_line version) xs) (map (entry_line version) ys) e))

-- the first line tells the version
first_lines_differ : first_line First ≡ first_line Second → ⊥
first_lines_differ e = let k : true ≡ false = ap (λ xs. bytes_eq xs (first_line First)) e in cc

pub version_same : (v w : Version) → first_line v ≡ first_line w → v ≡ w
version_same First First e = refl
version_same First Second e = absurd (first_lines_differ e)
version_same Second First e = absurd (first_lines_differ (sym e))
version_same Second Second e = refl

-- ---- which letters spell choices

one_letter : (b : ℕ) (t f : Bool) → (b == 84) ≡ t → (b == 70) ≡ f → (t || f) ≡ true → choice_letter (b == 84) ≡ b
one_letter b true f e g h = ap choice_letter e ∙ sym ((Decides-eqb b 84).0 e)
one_letter b false true e g h = ap choice_letter e ∙ sym ((Decides-eqb b 70).0 g)
one_letter b false false e g h = absurd (let k : false ≡ true = h in cc)

letters_back : (letters : List ℕ) → All (λ b. is_letter b ≡ true) letters → map choice_letter (map (λ b. b == 84) letters) ≡ letters
letters_back [] all = refl
letters_back (b ∷ bs) all =
    ap₂ (λ x (xs : List ℕ). x ∷ xs) (one_letter b (b == 84) (b == 70) refl refl (All-head (λ c. is_letter c ≡ true) b bs all)) (letters_back bs (All-tail (λ c. is_letter c ≡ true) b bs all))

choices_back : (choices : List Bool) → map (λ b. b == 84) (map choice_letter choices) ≡ choices
choices_back [] = refl
choices_back (true ∷ cs) = ap (λ z. true ∷ z) (choices_back cs)
choices_back (false ∷ cs) = ap (λ z. false ∷ z) (choices_back cs)

letters_pass : (choices : List Bool) → list_all is_letter (map choice_letter choices) ≡ true
letters_pass [] = refl
letters_pass (true ∷ cs) = letters_pass cs
letters_pass (false ∷ cs) = letters_pass cs

spelled : (letters : List ℕ) → (letters ≡ [] → ⊥) → length letters ≤ 256 → list_all is_letter letters ≡ true → SpellChoices letters
spelled [] some short all = absurd (some refl)
spelled (b ∷ bs) some short all = record {
  choices = map (λ c. c == 84) (b ∷ bs);
  short = (let e = length-map (b ∷ bs) (λ c. c == 84) in omega arith);
  text = letters_back (b ∷ bs) (AllPass-from_list_all is_letter (b ∷ bs) all);
}

unspelled : (letters : List ℕ) → (letters ≡ 45 ∷ [] → ⊥) → list_all is_letter letters ≡ false → SpellChoices letters → ⊥
unspelled letters other none s = by s.choices s.text
  where
    by : (cs : List Bool) → choices_text cs ≡ letters → ⊥
    by [] e = other (sym e)
    by (c ∷ cs) e = let k : true ≡ false = sym (letters_pass (c ∷ cs)) ∙ ap (list_all is_letter) e ∙ none in cc

pub tells_spelled : (letters : List ℕ) (r : Bool) → r ≡ list_all is_letter letters → (letters ≡ [] → ⊥) → (letters ≡ 45 ∷ [] → ⊥) → length letters ≤ 256 → MatchBool r (SpellChoices letters) (SpellChoices letters → ⊥)
tells_spelled letters true is some other short = spelled letters some short (sym is)
tells_spelled letters false is some other short = unspelled letters other (sym is)

-- the letters of choices give them back
pub choices_read : (letters : List ℕ) (s : SpellChoices letters) (choices : List Bool) → (letters ≡ 45 ∷ [] → ⊥) → choices ≡ map (λ b. b == 84) letters → choices ≡ s.choices
choices_read letters s choices other is = by s.choices s.text
  where
    by : (cs : List Bool) → choices_text cs ≡ letters → choices ≡ cs
    by [] e = absurd (other (sym e))
    by (c ∷ cs) e = is ∙ ap (map (λ b. b == 84)) (sym e) ∙ choices_back (c ∷ cs)

-- ---- where a line is an entry's, and where it is none's

abbrev pub entry_from : (p : Parts) → AreParts p → Entry
entry_from p are = record { func = p.func.now; label = p.label.now; choices = are.letters.choices; count = p.count }

pub entry_from_is : (version : Version) (p : Parts) (are : AreParts p) → IsCount version p.count → IsEntry version (entry_from p are)
entry_from_is version p are fits = record { func = are.func; label = are.label; short = are.letters.short; count = fits }

pub entry_from_line : (version : Version) (p : Parts) (are : AreParts p) → entry_line version (entry_from p are) ≡ line_of version p
entry_from_line version p are = ap (λ z. parts_line p.func.now p.label.now (ending version z p.count)) are.letters.text

-- where no names are told
pub bad_names : (version : Version) (line : List ℕ) → ((f l c : List ℕ) → Lacks 32 f → Lacks 32 l → line ≡ parts_line f l c → ⊥) → (entry : Entry) → IsEntry version entry → entry_line version entry ≡ line → ⊥
bad_names version line bad e valid same = bad e.func e.label (ending version (choices_text e.choices) e.count) (name_lacks 32 e.func refl valid.func) (name_lacks 32 e.label refl valid.label) (sym same)

-- of the names in a line and what stands behind them, those that are an entry's
names_of_entry : (version : Version) (e : Entry) → IsEntry version e → (f l c : List ℕ) → Lacks 32 f → Lacks 32 l → entry_line version e ≡ parts_line f l c → (e.func ≡ f) × ((e.label ≡ l) × (ending version (choices_text e.choices) e.count ≡ c))
names_of_entry version e valid f l c lf ll same = parts_same e.func f e.label l (ending version (choices_text e.choices) e.count) c (name_lacks 32 e.func refl valid.func) lf (name_lacks 32 e.label refl valid.label) ll same

-- where no letters and no count stand behind them
pub bad_ending : (version : Version) (line f l c : List ℕ) → line ≡ parts_line f l c → Lacks 32 f → Lacks 32 l → ((letters : List ℕ) (count : ℕ) → AreCut version letters → IsCount version count → c ≡ ending version letters count → ⊥)
    → (entry : Entry) → IsEntry version entry → entry_line version entry ≡ line → ⊥
bad_ending version line f l c is lf ll bad e valid same =
    bad (choices_text e.choices) e.count (choices_cut version e.choices) valid.count (sym (names_of_entry version e valid f l c lf ll (same ∙ is)).1.1)

-- where the names or the letters aren't an entry's
pub bad_parts : (version : Version) (line : List ℕ) (p : Parts) → line ≡ line_of version p → Lacks 32 p.func.now → Lacks 32 p.label.now → AreCut version p.letters.now → IsCount version p.count → (AreParts p → ⊥)
    → (entry : Entry) → IsEntry version entry → entry_line version entry ≡ line → ⊥
bad_parts version line p is lf ll cut fits bad e valid same =
    let q = names_of_entry version e valid p.func.now p.label.now (ending version p.letters.now p.count) lf ll (same ∙ is) in
    let t = ending_same version (choices_text e.choices) p.letters.now e.count p.count (choices_cut version e.choices) cut valid.count fits q.1.1 in
    bad (record {
      func = subst (λ n. IsTrue (is_identifier n)) q.0 valid.func;
      label = subst (λ n. IsTrue (is_identifier n)) q.1.0 valid.label;
      letters = record { choices = e.choices; short = valid.short; text = t.0 };
    })

-- ---- one entry more

pub text_more : (entries : List Entry) (i : ℕ) (e : Entry) (old now next : List ℕ) → i < length entries → e ≡ get_or entries i e → now ≡ old ++ text_of (map (entry_line Second) (take i entries)) → next ≡ now ++ (entry_line Second e ++ 10 ∷ [])
    → next ≡ old ++ text_of (map (entry_line Second) (take (i + 1) entries))
text_more entries i e old now next less at so made =
    let line : Entry → List ℕ = entry_line Second in
    made ∙ ap (λ z. z ++ (line e ++ 10 ∷ [])) so ∙ flat_map_more (λ (line : List ℕ). line ++ 10 ∷ []) old (map line (take i entries)) (line e)
    ∙ ap (λ z. old ++ text_of z) (sym (map-append line (take i entries) (e ∷ [])))
    ∙ ap (λ z. old ++ text_of (map line z)) (ap (λ z. take i entries ++ z ∷ []) at ∙ sym (take_more entries i e less))

pub source_more : (version : Version) (entries new : List Entry) (entry : Entry) (rest after source : List ℕ) → new ≡ entries ++ entry ∷ [] → rest ≡ entry_line version entry ++ 10 ∷ after → text_of (map (entry_line version) entries) ++ rest ≡ source
    → text_of (map (entry_line version) new) ++ after ≡ source
source_more version entries new entry rest after source is first so =
    let line : Entry → List ℕ = entry_line version in
    ap (λ (z : List Entry). text_of (map line z) ++ after) is
    ∙ ap (λ z. text_of z ++ after) (map-append line entries (entry ∷ []))
    ∙ ap (λ z. z ++ after) (flat_map-append (λ (line : List ℕ). line ++ 10 ∷ []) (map line entries) (line entry ∷ []))
    ∙ append_assoc (text_of (map line entries)) (text_of (line entry ∷ [])) after
    ∙ ap (λ z. text_of (map line entries) ++ z) (line_front (line entry) [] after ∙ sym first) ∙ so

-- ---- where a line has no parts

pub no_space : (line rest : List ℕ) → line ≡ codes "trace @" ++ rest → Lacks 32 rest → (f l c : List ℕ) → Lacks 32 f → Lacks 32 l → line ≡ parts_line f l c → ⊥
no_space line rest is lacks f l c lf ll e =
    let a : rest ≡ f ++ 32 ∷ (46 ∷ (l ++ 32 ∷ c)) = append_cancel_left (codes "trace @") rest (f ++ 32 ∷ (46 ∷ (l ++ 32 ∷ c))) (sym is ∙ e) in
    lacks_at 32 rest f (46 ∷ (l ++ 32 ∷ c)) lacks a

behind_name : (line rest g after : List ℕ) → line ≡ codes "trace @" ++ rest → rest ≡ g ++ 32 ∷ after → Lacks 32 g → (f l c : List ℕ) → Lacks 32 f → line ≡ parts_line f l c → after ≡ 46 ∷ (l ++ 32 ∷ c)
behind_name line rest g after is cut lg f l c lf e =
    let a : rest ≡ f ++ 32 ∷ (46 ∷ (l ++ 32 ∷ c)) = append_cancel_left (codes "trace @") rest (f ++ 32 ∷ (46 ∷ (l ++ 32 ∷ c))) (sym is ∙ e) in
    (cut_once 32 g f after (46 ∷ (l ++ 32 ∷ c)) lg lf (sym cut ∙ a)).1

pub no_dot : (line rest g after : List ℕ) → line ≡ codes "trace @" ++ rest → rest ≡ g ++ 32 ∷ after → Lacks 32 g → ((z : List ℕ) → after ≡ 46 ∷ z → ⊥) → (f l c : List ℕ) → Lacks 32 f → Lacks 32 l → line ≡ parts_line f l c → ⊥
no_dot line rest g after is cut lg none f l c lf ll e = none (l ++ 32 ∷ c) (behind_name line rest g after is cut lg f l c lf e)

pub no_second_space : (line rest g after last : List ℕ) → line ≡ codes "trace @" ++ rest → rest ≡ g ++ 32 ∷ after → Lacks 32 g → after ≡ 46 ∷ last → Lacks 32 last → (f l c : List ℕ) → Lacks 32 f → Lacks 32 l → line ≡ parts_line f l c → ⊥
no_second_space line rest g after last is cut lg dot lacks f l c lf ll e =
    let h : 46 ∷ last ≡ 46 ∷ (l ++ 32 ∷ c) = sym dot ∙ behind_name line rest g after is cut lg f l c lf e in
    lacks_at 32 last l c lacks cc
