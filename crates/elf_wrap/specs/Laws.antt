-- The laws of the form.
use Rattle.std.specs.Prelude.{◌≡◌, ◌≢◌, ◌⊎◌, ℕ, ◌<◌, ◌≤◌, ◌^◌, List, ◌∷◌, ◌++◌, length, take, drop, All, Some, None}
use Rattle.std.specs.List.{flat_map}
use Rattle.elf_wrap.specs.declared.fault.ElfFault.{ElfFault}
use Rattle.elf_wrap.specs.declared.fault.ElfFault.TheVariants.{Memory}
use Rattle.elf_wrap.specs.declared.table.Field.{Field}
use Rattle.rv64_words.specs.Region.{most_words, most_stack}
use Rattle.elf_wrap.specs.Numbers.{le_number}
use Rattle.elf_wrap.specs.Form.{field_bytes, field_fault, wrapped, words_told, stack_told, words_in, header_size, elf_fault}

abbrev pub AreWords : List ℕ → Type 0
AreWords words = All (λ w. w < 2 ^ 32) words

abbrev pub AreBytes : List ℕ → Type 0
AreBytes bytes = All (λ b. b < 256) bytes

-- what a source tells, without a fault
pub record Opens (source : List ℕ) (stack : ℕ) (words : List ℕ) : Type 0 where
  pub right : elf_fault source ≡ None
  pub stack_is : stack_told source ≡ stack
  pub words_are : words_in (words_told source) (drop header_size source) ≡ words

-- the file of an image within both limits opens as the image
abbrev pub WrappedOpens : Type 0
WrappedOpens = (stack : ℕ) (words : List ℕ) → AreWords words → length words ≤ most_words → stack ≤ most_stack → Opens (wrapped stack words) stack words

-- a source that opens is the file of what it tells, within both limits
pub record IsFile (source : List ℕ) (stack : ℕ) (words : List ℕ) : Type 0 where
  pub is : source ≡ wrapped stack words
  pub are_words : AreWords words
  pub few : length words ≤ most_words
  pub low : stack ≤ most_stack

abbrev pub OpenedIsWrapped : Type 0
OpenedIsWrapped = (source : List ℕ) (stack : ℕ) (words : List ℕ) → AreBytes source → Opens source stack words → IsFile source stack words

-- The fields before one stand as they must from the front on, and at it the rest is too short, or another number.
pub record IsFirstFieldFault (fs : List Field) (source : List ℕ) (at : ℕ) : Type 0 where
  pub before : List Field
  pub field : Field
  pub after : List Field
  pub split : fs ≡ before ++ field ∷ after
  pub rest : List ℕ
  pub is : source ≡ flat_map field_bytes before ++ rest
  pub bad : ((length rest < field.size) × (at ≡ length source)) ⊎ ((field.size ≤ length rest) × (le_number (take field.size rest) ≢ field.value) × (at ≡ length (flat_map field_bytes before)))

abbrev pub FieldFaultsAreFirst : Type 0
FieldFaultsAreFirst = (fs : List Field) (source : List ℕ) (at : ℕ) → AreBytes source → field_fault 0 fs source ≡ Some at → IsFirstFieldFault fs source at

-- what the fault of a source says of it: it is the first one, or memory was wanting for what has none
abbrev pub IsFaultOf : List ℕ → ElfFault → Type 0
IsFaultOf source fault = (elf_fault source ≡ Some fault) ⊎ ((fault ≡ Memory) × (elf_fault source ≡ None))
