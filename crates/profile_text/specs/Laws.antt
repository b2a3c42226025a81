-- The laws of the text form.
use Rattle.std.specs.Prelude.{◌≡◌, ℕ, List}
use Rattle.bril_profile.specs.declared.profile.Entry.{Entry}
use Rattle.profile_text.specs.Form.{IsProfileText}
use Rattle.profile_text.specs.Fault.{IsFirstFault}

-- a text is one profile's
abbrev pub TextsDiffer : Type 0
TextsDiffer = (source : List ℕ) (entries others : List Entry) → IsProfileText source entries → IsProfileText source others → entries ≡ others

-- a source has one first line that breaks the form
abbrev pub FaultsAreOne : Type 0
FaultsAreOne = (source : List ℕ) (m n : ℕ) → IsFirstFault source m → IsFirstFault source n → m ≡ n

-- the text of a profile has none
abbrev pub TextsHaveNoFault : Type 0
TextsHaveNoFault = (source : List ℕ) (entries : List Entry) (line : ℕ) → IsProfileText source entries → IsFirstFault source line → ⊥
