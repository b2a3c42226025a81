-- The words of options, and their names.
use Rattle.std.proofs.Common.{◌≡◌, refl, true, false, List, ◌∷◌, ◌++◌, Some, None, ℕ}
use Rattle.std.specs.Str.{bytes_eq}
use Rattle.bril_words.specs.declared.options.Setting.{Setting}
use Rattle.bril_words.specs.declared.options.Setting.TheVariants.{Passes, Profile, Frames, Cells, Steps, Hot, Most}
use Rattle.bril_words.specs.declared.options.Flag.{Flag}
use Rattle.bril_words.specs.declared.options.Flag.TheVariants.{Stats}
use Rattle.bril_words.specs.declared.options.Operand.{Operand}
use Rattle.bril_words.specs.declared.options.Operand.TheVariants.{File, Listing, Elf, Script, Functions}
use Rattle.bril_words.specs.Options.{option_name, flag_name, operand_id}
use Rattle.bril_words.specs.Plain.{dashed}
use Rattle.bril_words.proofs.Steps.{NamesOption}

pub option_word : (x : Setting) → NamesOption (dashed (option_name x)) (option_name x) None
option_word Passes = record { dash = refl; long = refl }
option_word Profile = record { dash = refl; long = refl }
option_word Frames = record { dash = refl; long = refl }
option_word Cells = record { dash = refl; long = refl }
option_word Steps = record { dash = refl; long = refl }
option_word Hot = record { dash = refl; long = refl }
option_word Most = record { dash = refl; long = refl }

pub joined_word : (x : Setting) (v : List ℕ) → NamesOption (dashed (option_name x) ++ 61 ∷ v) (option_name x) (Some v)
joined_word Passes v = record { dash = refl; long = refl }
joined_word Profile v = record { dash = refl; long = refl }
joined_word Frames v = record { dash = refl; long = refl }
joined_word Cells v = record { dash = refl; long = refl }
joined_word Steps v = record { dash = refl; long = refl }
joined_word Hot v = record { dash = refl; long = refl }
joined_word Most v = record { dash = refl; long = refl }

pub flag_word : (x : Flag) → NamesOption (dashed (flag_name x)) (flag_name x) None
flag_word Stats = record { dash = refl; long = refl }

pub same_option : (x : Setting) → bytes_eq (option_name x) (option_name x) ≡ true
same_option Passes = refl
same_option Profile = refl
same_option Frames = refl
same_option Cells = refl
same_option Steps = refl
same_option Hot = refl
same_option Most = refl

-- no operand has the id of an option
pub option_apart : (o : Operand) (x : Setting) → bytes_eq (operand_id o) (option_name x) ≡ false
option_apart File Passes = refl
option_apart File Profile = refl
option_apart File Frames = refl
option_apart File Cells = refl
option_apart File Steps = refl
option_apart File Hot = refl
option_apart File Most = refl
option_apart Listing Passes = refl
option_apart Listing Profile = refl
option_apart Listing Frames = refl
option_apart Listing Cells = refl
option_apart Listing Steps = refl
option_apart Listing Hot = refl
option_apart Listing Most = refl
option_apart Elf Passes = refl
option_apart Elf Profile = refl
option_apart Elf Frames = refl
option_apart Elf Cells = refl
option_apart Elf Steps = refl
option_apart Elf Hot = refl
option_apart Elf Most = refl
option_apart Script Passes = refl
option_apart Script Profile = refl
option_apart Script Frames = refl
option_apart Script Cells = refl
option_apart Script Steps = refl
option_apart Script Hot = refl
option_apart Script Most = refl
option_apart Functions Passes = refl
option_apart Functions Profile = refl
option_apart Functions Frames = refl
option_apart Functions Cells = refl
option_apart Functions Steps = refl
option_apart Functions Hot = refl
option_apart Functions Most = refl

pub operand_apart : (o : Operand) (x : Setting) → bytes_eq (option_name x) (operand_id o) ≡ false
operand_apart File Passes = refl
operand_apart File Profile = refl
operand_apart File Frames = refl
operand_apart File Cells = refl
operand_apart File Steps = refl
operand_apart File Hot = refl
operand_apart File Most = refl
operand_apart Listing Passes = refl
operand_apart Listing Profile = refl
operand_apart Listing Frames = refl
operand_apart Listing Cells = refl
operand_apart Listing Steps = refl
operand_apart Listing Hot = refl
operand_apart Listing Most = refl
operand_apart Elf Passes = refl
operand_apart Elf Profile = refl
operand_apart Elf Frames = refl
operand_apart Elf Cells = refl
operand_apart Elf Steps = refl
operand_apart Elf Hot = refl
operand_apart Elf Most = refl
operand_apart Script Passes = refl
operand_apart Script Profile = refl
operand_apart Script Frames = refl
operand_apart Script Cells = refl
operand_apart Script Steps = refl
operand_apart Script Hot = refl
operand_apart Script Most = refl
operand_apart Functions Passes = refl
operand_apart Functions Profile = refl
operand_apart Functions Frames = refl
operand_apart Functions Cells = refl
operand_apart Functions Steps = refl
operand_apart Functions Hot = refl
operand_apart Functions Most = refl

pub flag_apart : (o : Operand) (x : Flag) → bytes_eq (operand_id o) (flag_name x) ≡ false
flag_apart File Stats = refl
flag_apart Listing Stats = refl
flag_apart Elf Stats = refl
flag_apart Script Stats = refl
flag_apart Functions Stats = refl

pub operand_of_flag : (o : Operand) (x : Flag) → bytes_eq (flag_name x) (operand_id o) ≡ false
operand_of_flag File Stats = refl
operand_of_flag Listing Stats = refl
operand_of_flag Elf Stats = refl
operand_of_flag Script Stats = refl
operand_of_flag Functions Stats = refl
