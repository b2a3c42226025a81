-- The names of options, flags and operands, and what help says of them.
use Rattle.std.specs.Fmt.{decimal}
use Rattle.std.specs.Prelude.{ℕ, List, ◌++◌, codes}
use Rattle.bril_words.specs.Defaults.{default_cells, default_entries, default_frames, default_hot, default_steps, most_cells, most_entries, most_frames, most_functions, most_hot, most_steps}
use Rattle.bril_words.specs.declared.options.Setting.{Setting}
use Rattle.bril_words.specs.declared.options.Setting.TheVariants.{Passes, Profile, Frames, Cells, Steps, Hot, Most}
use Rattle.bril_words.specs.declared.options.Flag.{Flag}
use Rattle.bril_words.specs.declared.options.Flag.TheVariants.{Stats}
use Rattle.bril_words.specs.declared.options.Operand.{Operand}
use Rattle.bril_words.specs.declared.options.Operand.TheVariants.{File, Listing, Elf, Script, Functions}

-- the name of an option, under which its value is kept
abbrev pub option_name : Setting → List ℕ
option_name Passes = codes "passes"
option_name Profile = codes "profile"
option_name Frames = codes "frames"
option_name Cells = codes "cells"
option_name Steps = codes "steps"
option_name Hot = codes "hot"
option_name Most = codes "most"

-- the name of a flag
abbrev pub flag_name : Flag → List ℕ
flag_name Stats = codes "stats"

-- the id under which an operand's word is kept: the same for each path, but for that of a script, which stands beside another
abbrev pub operand_id : Operand → List ℕ
operand_id File = codes "file"
operand_id Listing = codes "file"
operand_id Elf = codes "file"
operand_id Script = codes "script"
operand_id Functions = codes "functions"

-- ---- help

-- a range from 1
abbrev pub range_text : (most : ℕ) → List ℕ
range_text most = codes ", 1 to " ++ decimal most

-- the same, and what an option is where it doesn't stand
abbrev pub number_text : (most default : ℕ) → List ℕ
number_text most default = range_text most ++ codes " [default: " ++ decimal default ++ codes "]"

-- what an option does, its range and its default
abbrev pub option_help : Setting → List ℕ
option_help Passes = codes "Passes to apply, with commas between their names [default: none]"
option_help Profile = codes "File with a profile for the passes [default: none]"
option_help Frames = codes "Most frames at once" ++ number_text most_frames default_frames
option_help Cells = codes "Most cells in live blocks" ++ number_text most_cells default_cells
option_help Steps = codes "Most steps (words on the machine)" ++ number_text most_steps default_steps
option_help Hot = codes "Arrivals that make a label hot" ++ number_text most_hot default_hot
option_help Most = codes "Most entries of the profile" ++ number_text most_entries default_entries

-- what a flag does
abbrev pub flag_help : Flag → List ℕ
flag_help Stats = codes "Tell the counts of the run on standard error"

-- what an operand is
abbrev pub operand_help : Operand → List ℕ
operand_help File = codes "Bril program: JSON where the name ends in .json, else text"
operand_help Listing = codes "Listing of machine words, as list writes it"
operand_help Elf = codes "ELF file, as elf writes it"
operand_help Script = codes "Script: a line each of break @f N, clear @f N, go, step, show"
operand_help Functions = codes "Functions of the demo program beside main" ++ range_text most_functions
