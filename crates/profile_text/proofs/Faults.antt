-- First lines that break the form, and texts.
use Rattle.std.proofs.Common.{◌≡◌, ◌≢◌, ◌⊎◌, inl, inr, ⊎_elim, ℕ, zero, suc, ◌+◌, ◌<◌, ◌≤◌, List, [], ◌∷◌, ◌++◌, length, map, Result, Ok, Err, refl, sym, ap, subst, ◌∙◌, arith, append_assoc, append-nil, length-append}
use Rattle.std.specs.Prelude.{IfOk, IfErr, IsErrOf, MatchResult}
use Rattle.std.specs.List.{All}
use Rattle.std.proofs.lemmas.List.Elements.{All-head, All-push, All-tail, All-same}
use Rattle.bril_profile.specs.declared.profile.Entry.{Entry}
use Rattle.bril_profile.specs.declared.profile.Profile.{Profile}
use Rattle.profile_text.specs.declared.fault.ProfileFault.{ProfileFault}
use Rattle.profile_text.specs.declared.fault.ProfileFault.TheVariants.{Line, Memory}
use Rattle.profile_text.specs.declared.version.Version.{Version}
use Rattle.profile_text.specs.declared.version.Version.TheVariants.{First}
use Rattle.profile_text.specs.Form.{Lacks, IsEntry, AreEntries, IsProfileText, entry_line, first_line, profile_lines, profile_text, text_of}
use Rattle.profile_text.specs.Fault.{AreFirstLines, IsFirstFault, IsFaultOf, HasNoEntry}
use Rattle.profile_text.specs.Laws.{TextsDiffer, FaultsAreOne, TextsHaveNoFault}
use Rattle.profile_text.proofs.Cuts.{line_front, lines_longer, all_front, cut_once, heads, lacks_at, tails}
use Rattle.profile_text.proofs.Entries.{lines_lack, line_lacks, first_line_lacks, entries_same, source_more, version_same}

-- ---- first lines

first_lines_lack : (lines : List (List ℕ)) → AreFirstLines lines → All (Lacks 10) lines
first_lines_lack lines f = all_front (Lacks 10) lines f.others (All-same (Lacks 10) (lines ++ f.others) (profile_lines f.version f.entries) (sym f.are) (lines_lack f.version f.entries f.valid.all))

-- fewer of them
fewer : (lines more : List (List ℕ)) → AreFirstLines (lines ++ more) → AreFirstLines lines
fewer lines more f = record { version = f.version; entries = f.entries; valid = f.valid; others = more ++ f.others; are = f.are ∙ append_assoc lines more f.others }

-- the line that a fault has isn't among first lines
module _ (before : List (List ℕ)) (rest s : List ℕ) (broken : (next after : List ℕ) → rest ≡ next ++ 10 ∷ after → AreFirstLines (before ++ next ∷ []) → ⊥) where
  pub no_more : (more : List (List ℕ)) → AreFirstLines (before ++ more) → rest ≡ text_of more ++ s → more ≡ []
  no_more [] f e = refl
  no_more (next ∷ more) f e =
      absurd (broken next (text_of more ++ s) (e ∙ line_front next more s)
      (fewer (before ++ next ∷ []) more (subst AreFirstLines (sym (append_assoc before (next ∷ []) more)) f)))

one_side : (source : List ℕ) (m n : ℕ) (f : IsFirstFault source m) (g : IsFirstFault source n) → length f.before ≤ length g.before → m ≡ n
one_side source m n f g less =
    let l = lines_longer f.before g.before f.rest g.rest (first_lines_lack f.before f.begun) (first_lines_lack g.before g.begun) less (sym f.is ∙ g.is) in
    let none = no_more f.before f.rest g.rest f.broken l.more (subst AreFirstLines l.is g.begun) l.rest in
    let same : g.before ≡ f.before = l.is ∙ ap (λ z. f.before ++ z) none ∙ append-nil f.before in
    f.place ∙ ap (λ (z : List (List ℕ)). suc (length z)) (sym same) ∙ sym g.place

either : (a b : ℕ) → (a ≤ b) ⊎ (b ≤ a)
either zero b = inl (omega arith)
either (suc a) zero = inr (omega arith)
either (suc a) (suc b) = ⊎_elim (λ h. inl (omega arith)) (λ h. inr (omega arith)) (either a b)

pub faults_are_one : FaultsAreOne
faults_are_one source m n f g = ⊎_elim (λ h. one_side source m n f g h) (λ h. sym (one_side source n m g f h)) (either (length f.before) (length g.before))

-- ---- texts

text_nonempty : (x : List ℕ) (xs : List (List ℕ)) (r : List ℕ) → [] ≡ text_of (x ∷ xs) ++ r → ⊥
text_nonempty [] xs r e = let h : [] ≡ 10 ∷ (text_of xs ++ r) = e in cc
text_nonempty (b ∷ bs) xs r e = let h : [] ≡ b ∷ (((bs ++ 10 ∷ []) ++ text_of xs) ++ r) = e in cc

no_lines : (more : List (List ℕ)) (r : List ℕ) → [] ≡ text_of more ++ r → more ≡ []
no_lines [] r e = refl
no_lines (x ∷ xs) r e = absurd (text_nonempty x xs r e)

are_first : (version : Version) (entries : List Entry) → AreEntries version entries → AreFirstLines (profile_lines version entries)
are_first version entries valid = record { version = version; entries = entries; valid = valid; others = []; are = sym (append-nil (profile_lines version entries)) }

whole : (lines : List (List ℕ)) → text_of lines ≡ text_of lines ++ []
whole lines = sym (append-nil (text_of lines))

lines_side : (xs ys : List (List ℕ)) → All (Lacks 10) xs → All (Lacks 10) ys → text_of xs ≡ text_of ys → length xs ≤ length ys → xs ≡ ys
lines_side xs ys lx ly e less =
    let l = lines_longer xs ys [] [] lx ly less (sym (whole xs) ∙ e ∙ whole ys) in
    let none = no_lines l.more [] l.rest in
    sym (l.is ∙ ap (λ z. xs ++ z) none ∙ append-nil xs)

-- a text has one list of lines
lines_same : (xs ys : List (List ℕ)) → All (Lacks 10) xs → All (Lacks 10) ys → text_of xs ≡ text_of ys → xs ≡ ys
lines_same xs ys lx ly e = ⊎_elim (λ h. lines_side xs ys lx ly e h) (λ h. sym (lines_side ys xs ly lx (sym e) h)) (either (length xs) (length ys))

-- what lines say of entries, in the version that their first line tells
entry_lines_in : (v w : Version) (entries : List Entry) (first : List ℕ) (lines : List (List ℕ)) → w ≡ v → profile_lines w entries ≡ first ∷ lines → map (entry_line v) entries ≡ lines
entry_lines_in v w entries first lines same e = ap (λ z. map (entry_line z) entries) (sym same) ∙ tails (first_line w) first (map (entry_line w) entries) lines e

pub texts_differ : TextsDiffer
texts_differ source xs ys f g =
    let e = lines_same (profile_lines f.version xs) (profile_lines g.version ys) (lines_lack f.version xs f.valid.all) (lines_lack g.version ys g.valid.all) (f.text ∙ sym g.text) in
    let same = version_same g.version f.version (heads (first_line g.version) (first_line f.version) (map (entry_line g.version) ys) (map (entry_line f.version) xs) (sym e)) in
    entries_same f.version xs ys f.valid.all (subst (λ z. All (IsEntry z) ys) same g.valid.all) (sym (entry_lines_in f.version g.version ys (first_line f.version) (map (entry_line f.version) xs) same (sym e)))

shorter_fault : (version : Version) (entries : List Entry) (line : ℕ) → AreEntries version entries → (f : IsFirstFault (profile_text version entries) line) → length f.before ≤ length (profile_lines version entries) → ⊥
shorter_fault version entries line valid f less =
    let lines : List (List ℕ) = profile_lines version entries in
    let l = lines_longer f.before lines f.rest [] (first_lines_lack f.before f.begun) (lines_lack version entries valid.all) less (sym f.is ∙ whole lines) in
    let none = no_more f.before f.rest [] f.broken l.more (subst AreFirstLines l.is (are_first version entries valid)) l.rest in
    let same : f.before ≡ lines = sym (append-nil f.before) ∙ ap (λ z. f.before ++ z) (sym none) ∙ sym l.is in
    let empty : f.rest ≡ [] = l.rest ∙ ap (λ z. text_of z ++ []) none in
    f.there (λ e. let h : first_line version ∷ map (entry_line version) entries ≡ [] = sym same ∙ e in cc) empty

longer_fault : (version : Version) (entries : List Entry) (line : ℕ) → AreEntries version entries → (f : IsFirstFault (profile_text version entries) line) → length (profile_lines version entries) ≤ length f.before → ⊥
longer_fault version entries line valid f less =
    let lines : List (List ℕ) = profile_lines version entries in
    let l = lines_longer lines f.before [] f.rest (lines_lack version entries valid.all) (first_lines_lack f.before f.begun) less (sym (whole lines) ∙ f.is) in
    let none = no_lines l.more f.rest l.rest in
    let same : f.before ≡ lines = l.is ∙ ap (λ z. lines ++ z) none ∙ append-nil lines in
    shorter_fault version entries line valid f (let h : length f.before ≡ length lines = ap length same in omega arith)

pub texts_have_no_fault : TextsHaveNoFault
texts_have_no_fault source entries line t fault =
    let f = subst (λ s. IsFirstFault s line) (sym t.text) fault in
    ⊎_elim (λ h. shorter_fault t.version entries line t.valid f h) (λ h. longer_fault t.version entries line t.valid f h) (either (length f.before) (length (profile_lines t.version entries)))

-- ---- where reading stops

-- what stands at a place of a longer list of lines
record At (version : Version) (next : List ℕ) (less : ℕ) (entries : List Entry) : Type 0 where
  entry : Entry
  valid : IsEntry version entry
  is : entry_line version entry ≡ next
  more : less < length entries

module _ (version : Version) where
  at_next : (xs ys : List Entry) (next : List ℕ) (others : List (List ℕ)) → All (IsEntry version) ys → map (entry_line version) ys ≡ (map (entry_line version) xs ++ next ∷ []) ++ others → At version next (length xs) ys
  at_next [] [] next others all e = absurd (let h : [] ≡ next ∷ others = e in cc)
  at_next [] (y ∷ ys) next others all e = record { entry = y; valid = All-head (IsEntry version) y ys all; is = heads (entry_line version y) next (map (entry_line version) ys) others e; more = omega arith }
  at_next (x ∷ xs) [] next others all e = absurd (let h : [] ≡ entry_line version x ∷ ((map (entry_line version) xs ++ next ∷ []) ++ others) = e in cc)
  at_next (x ∷ xs) (y ∷ ys) next others all e =
      let a = at_next xs ys next others (All-tail (IsEntry version) y ys all) (tails (entry_line version y) (entry_line version x) (map (entry_line version) ys) ((map (entry_line version) xs ++ next ∷ []) ++ others) e) in
      record { entry = a.entry; valid = a.valid; is = a.is; more = (let h = a.more in omega arith) }

  lengths : (entries : List Entry) → length (map (entry_line version) entries) ≡ length entries
  lengths [] = refl
  lengths (e ∷ es) = ap suc (lengths es)

  -- no entry's line follows these entries, or there are 64
  fault_behind : (entries : List Entry) (source rest : List ℕ) (line : ℕ) → text_of (map (entry_line version) entries) ++ rest ≡ source → All (IsEntry version) entries → line ≡ length entries + 2 → line ≤ 66 → rest ≢ []
      → (line ≤ 65 → HasNoEntry version rest) → IsFirstFault (first_line version ++ 10 ∷ source) line
  fault_behind entries source rest line is all place low there none = record {
    before = profile_lines version entries;
    rest = rest;
    is = ap (λ z. first_line version ++ 10 ∷ z) (sym is) ∙ sym (line_front (first_line version) (map (entry_line version) entries) rest);
    place = place ∙ (let h : length (profile_lines version entries) ≡ suc (length entries) = ap suc (lengths entries) in omega arith);
    begun = are_first version entries (record { few = omega arith; all = all });
    broken = λ next after e f. bad next after e f;
    there = λ _. there;
  }
    where
      bad : (next after : List ℕ) → rest ≡ next ++ 10 ∷ after → AreFirstLines (profile_lines version entries ++ next ∷ []) → ⊥
      bad next after e f =
          let lines : List (List ℕ) = (map (entry_line version) entries ++ next ∷ []) ++ f.others in
          let same = version_same f.version version (heads (first_line f.version) (first_line version) (map (entry_line f.version) f.entries) lines f.are) in
          let a = at_next entries f.entries next f.others (subst (λ z. All (IsEntry z) f.entries) same f.valid.all) (entry_lines_in version f.version f.entries (first_line version) lines same f.are) in
          let few = f.valid.few in let more = a.more in
          none (omega arith) next after e a.entry a.valid a.is

-- line 1 isn't there, or isn't the first line of a profile
pub fault_first : (source : List ℕ) → ((version : Version) (next after : List ℕ) → source ≡ next ++ 10 ∷ after → next ≡ first_line version → ⊥) → IsFirstFault source 1
fault_first source none = record {
  before = [];
  rest = source;
  is = refl;
  place = refl;
  begun = record { version = First; entries = []; valid = record { few = omega arith; all = nothing }; others = profile_lines First []; are = refl };
  broken = λ next after e f. none f.version next after e (heads next (first_line f.version) f.others (map (entry_line f.version) f.entries) (sym f.are));
  there = λ n. absurd (n refl);
}
  where
    nothing : All (IsEntry First) []
    nothing = λ k d h. absurd (omega arith)

-- ---- what reading answers

pub reads_text : (source : List ℕ) (r : Result Profile ProfileFault) → IfOk r (λ profile. IsProfileText source profile.entries) → IfErr r (IsFaultOf source)
    → (entries : List Entry) → IsProfileText source entries → MatchResult r (λ profile. profile.entries ≡ entries) (λ fault. fault ≡ Memory)
reads_text source (Ok profile) text fault entries t = texts_differ source profile.entries entries text t
reads_text source (Err (Line line)) text fault entries t = absurd (texts_have_no_fault source entries line t fault)
reads_text source (Err Memory) text fault entries t = refl

pub tells_fault : (source : List ℕ) (r : Result Profile ProfileFault) → IfOk r (λ profile. IsProfileText source profile.entries) → IfErr r (IsFaultOf source)
    → (line : ℕ) → IsFirstFault source line → IsErrOf r (Line line)
tells_fault source (Ok profile) text fault line f = absurd (texts_have_no_fault source profile.entries line text f)
tells_fault source (Err (Line other)) text fault line f = ap (λ z. Err (Line z)) (faults_are_one source other line fault f)
tells_fault source (Err Memory) text fault line f = absurd (texts_have_no_fault source fault.entries line fault.text f)

-- ---- where a line is no entry's

pub no_line : (version : Version) (rest : List ℕ) → Lacks 10 rest → HasNoEntry version rest
no_line version rest l next after e entry valid same = lacks_at 10 rest next after l e

pub no_entry : (version : Version) (rest first behind : List ℕ) → rest ≡ first ++ 10 ∷ behind → Lacks 10 first → ((entry : Entry) → IsEntry version entry → entry_line version entry ≡ first → ⊥) → HasNoEntry version rest
no_entry version rest first behind is l none next after e entry valid same =
    let p = cut_once 10 next first after behind (subst (Lacks 10) same (line_lacks version entry valid)) l (sym e ∙ is) in
    none entry valid (same ∙ p.0)

-- ---- lines that were looked at

-- The source begins with the lines of these entries; behind them stands the rest, in this line, from 1, of the whole.
pub record AreReadTo (version : Version) (source rest : List ℕ) (line : ℕ) (entries : List Entry) : Type 0 where
  pub same : text_of (map (entry_line version) entries) ++ rest ≡ source
  pub all : All (IsEntry version) entries
  pub place : line ≡ length entries + 2
  pub low : line ≤ 66

pub record IsReadTo (version : Version) (source rest : List ℕ) (line : ℕ) : Type 0 where
  pub entries : List Entry
  pub so_far : AreReadTo version source rest line entries

pub read_more : (version : Version) (source rest after : List ℕ) (line : ℕ) (entries more : List Entry) (entry : Entry) → AreReadTo version source rest line entries → more ≡ entries ++ entry ∷ [] → IsEntry version entry
    → rest ≡ entry_line version entry ++ 10 ∷ after → line ≤ 65 → AreReadTo version source after (line + 1) more
read_more version source rest after line entries more entry so_far is valid first low =
    let size : length more ≡ length entries + 1 = ap length is ∙ length-append entries (entry ∷ []) in
    record {
      same = source_more version entries more entry rest after source is first so_far.same;
      all = All-same (IsEntry version) more (entries ++ entry ∷ []) is (All-push (IsEntry version) entries entry so_far.all valid);
      place = (let h = so_far.place in omega arith);
      low = omega arith;
    }

pub fault_at : (version : Version) (source rest : List ℕ) (line : ℕ) (fault : ProfileFault) → IsReadTo version source rest line → rest ≢ [] → (fault ≡ Line line) × (line ≤ 65 → HasNoEntry version rest)
    → IsFaultOf (first_line version ++ 10 ∷ source) fault
fault_at version source rest line fault read there why =
    let so_far = read.so_far in
    subst (IsFaultOf (first_line version ++ 10 ∷ source)) (sym why.0) (fault_behind version read.entries source rest line so_far.same so_far.all so_far.place so_far.low there why.1)

pub no_first_line : (source first behind : List ℕ) → source ≡ first ++ 10 ∷ behind → Lacks 10 first → ((version : Version) → first ≡ first_line version → ⊥) → IsFirstFault source 1
no_first_line source first behind is l other = fault_first source bad
  where
    bad : (version : Version) (next after : List ℕ) → source ≡ next ++ 10 ∷ after → next ≡ first_line version → ⊥
    bad version next after e same =
        let p = cut_once 10 first next behind after l (subst (Lacks 10) (sym same) (first_line_lacks version)) (sym is ∙ e) in
        other version (p.0 ∙ same)
