-- The first line of a source that breaks the form.
use Rattle.std.specs.Prelude.{◌≡◌, ◌≢◌, ℕ, suc, List, [], ◌∷◌, ◌++◌, length}
use Rattle.bril_profile.specs.declared.profile.Entry.{Entry}
use Rattle.profile_text.specs.declared.fault.ProfileFault.{ProfileFault}
use Rattle.profile_text.specs.declared.fault.ProfileFault.TheVariants.{Line, Memory}
use Rattle.profile_text.specs.declared.version.Version.{Version}
use Rattle.profile_text.specs.Form.{AreEntries, IsEntry, IsProfileText, entry_line, profile_lines, text_of}

-- These are the first lines of some profile, in one of the versions.
pub record AreFirstLines (lines : List (List ℕ)) : Type 0 where
  pub version : Version
  pub entries : List Entry
  pub valid : AreEntries version entries
  pub others : List (List ℕ)
  pub are : profile_lines version entries ≡ lines ++ others

-- The lines before this one, counted from 1, are the first lines of some profile. With this one they are not, or it
-- doesn't end with LF. It has a byte at least, unless it is line 1.
pub record IsFirstFault (source : List ℕ) (line : ℕ) : Type 0 where
  pub before : List (List ℕ)
  pub rest : List ℕ
  pub is : source ≡ text_of before ++ rest
  pub place : line ≡ suc (length before)
  pub begun : AreFirstLines before
  pub broken : (next after : List ℕ) → rest ≡ next ++ 10 ∷ after → AreFirstLines (before ++ next ∷ []) → ⊥
  pub there : before ≢ [] → rest ≢ []

-- The source is the text of a profile.
pub record IsText (source : List ℕ) : Type 0 where
  pub entries : List Entry
  pub text : IsProfileText source entries

-- what a source's fault says of it; memory may be wanting for any text of a profile
abbrev pub IsFaultOf : List ℕ → ProfileFault → Type 0
IsFaultOf source (Line line) = IsFirstFault source line
IsFaultOf source Memory = IsText source

-- no line of an entry of the version stands at the front, with its LF
abbrev pub HasNoEntry : Version → List ℕ → Type 0
HasNoEntry version rest = (next after : List ℕ) → rest ≡ next ++ 10 ∷ after → (entry : Entry) → IsEntry version entry → entry_line version entry ≡ next → ⊥
