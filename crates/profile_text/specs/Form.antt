-- The text of a profile in both versions, and what a profile keeps.
use Rattle.std.specs.Fmt.{decimal}
use Rattle.std.specs.Prelude.{◌≡◌, ◌≢◌, ℕ, ◌≤◌, ◌<◌, ◌^◌, Bool, true, false, ◌==◌, ◌||◌, List, [], ◌∷◌, ◌++◌, All, IsTrue, codes, length, map}
use Rattle.std.specs.List.{flat_map}
use Rattle.bril_tree.specs.Identifier.{is_identifier}
use Rattle.bril_profile.specs.declared.profile.Entry.{Entry}
use Rattle.profile_text.specs.declared.entry.Parts.{Parts}
use Rattle.profile_text.specs.declared.version.Version.{Version}
use Rattle.profile_text.specs.declared.version.Version.TheVariants.{First, Second}

-- ---- lines

-- the byte is none of these
abbrev pub Lacks : ℕ → List ℕ → Type 0
Lacks byte bytes = All (λ b. b ≢ byte) bytes

-- the lines, each with LF behind it
abbrev pub text_of : List (List ℕ) → List ℕ
text_of lines = flat_map (λ line. line ++ 10 ∷ []) lines

-- ---- entries

-- `T` where the first label was taken
abbrev pub choice_letter : Bool → ℕ
choice_letter true = 84
choice_letter false = 70

abbrev pub is_letter : ℕ → Bool
is_letter b = (b == 84) || (b == 70)

-- a letter for each choice, or `-` for none
abbrev pub choices_text : List Bool → List ℕ
choices_text [] = 45 ∷ []
choices_text (choice ∷ choices) = map choice_letter (choice ∷ choices)

-- The letters spell choices, 256 at most.
pub record SpellChoices (letters : List ℕ) : Type 0 where
  pub choices : List Bool
  pub short : length choices ≤ 256
  pub text : choices_text choices ≡ letters

-- an entry of version 1 has the count 1, and one of version 2 has 1 to 4,294,967,295
abbrev pub IsCount : Version → ℕ → Type 0
IsCount First count = count ≡ 1
IsCount Second count = (1 ≤ count) × (count < 2 ^ 32)

-- what stands behind the label: `CHOICES` in version 1, `CHOICES N` in version 2
abbrev pub ending : Version → (letters : List ℕ) → (count : ℕ) → List ℕ
ending First letters count = letters
ending Second letters count = letters ++ 32 ∷ decimal count

-- `trace @f .l` and a space, by the names, and what stands behind it
abbrev pub parts_line : (func label behind : List ℕ) → List ℕ
parts_line func label behind = codes "trace @" ++ (func ++ (32 ∷ 46 ∷ (label ++ (32 ∷ behind))))

abbrev pub entry_line : Version → Entry → List ℕ
entry_line version entry = parts_line entry.func entry.label (ending version (choices_text entry.choices) entry.count)

-- What an entry keeps: the names are identifiers, there are at most 256 choices, and the count is one of the version.
pub record IsEntry (version : Version) (entry : Entry) : Type 0 where
  pub func : IsTrue (is_identifier entry.func)
  pub label : IsTrue (is_identifier entry.label)
  pub short : length entry.choices ≤ 256
  pub count : IsCount version entry.count

-- the line that has these parts
abbrev pub line_of : Version → Parts → List ℕ
line_of version p = parts_line p.func.now p.label.now (ending version p.letters.now p.count)

-- no space stands among the letters where a count follows them
abbrev pub AreCut : Version → (letters : List ℕ) → Type 0
AreCut First letters = Unit {0}
AreCut Second letters = Lacks 32 letters

-- The names and the letters are those of an entry's line.
pub record AreParts (p : Parts) : Type 0 where
  pub func : IsTrue (is_identifier p.func.now)
  pub label : IsTrue (is_identifier p.label.now)
  pub letters : SpellChoices p.letters.now

-- ---- profiles

abbrev pub first_line : Version → List ℕ
first_line First = codes "bril-profile 1"
first_line Second = codes "bril-profile 2"

-- the first line, and a line for each entry
abbrev pub profile_lines : Version → List Entry → List (List ℕ)
profile_lines version entries = first_line version ∷ map (entry_line version) entries

abbrev pub profile_text : Version → List Entry → List ℕ
profile_text version entries = text_of (profile_lines version entries)

-- What the entries of a profile keep: there are at most 64, and each is one of the version.
pub record AreEntries (version : Version) (entries : List Entry) : Type 0 where
  pub few : length entries ≤ 64
  pub all : All (IsEntry version) entries

-- The source is the text of the profile that has these entries, in one of the versions.
pub record IsProfileText (source : List ℕ) (entries : List Entry) : Type 0 where
  pub version : Version
  pub valid : AreEntries version entries
  pub text : profile_text version entries ≡ source
