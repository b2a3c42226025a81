-- What the lines on the error output are made of.
use Rattle.std.specs.Prelude.{ℕ, List, [], Option, Some, None, codes, slice_get, string_bytes}
use Rattle.std.specs.Fmt.{decimal}
use Rattle.bril_tree.specs.declared.limits.Fault.{Fault}
use Rattle.bril_tree.specs.declared.limits.Fault.TheVariants as fault
use Rattle.bril_tree.specs.declared.numbered.VarInfo.{VarInfo}
use Rattle.bril_tree.specs.declared.numbered_function.Func.{Func}
use Rattle.bril_tree.specs.declared.program.Prog.{Prog}
use Rattle.bril_json.specs.declared.fault.JsonFault.{JsonFault}
use Rattle.bril_json.specs.declared.fault.JsonFault.TheVariants as json
use Rattle.bril_names.specs.declared.fault.NameFault.{NameFault}
use Rattle.bril_names.specs.declared.fault.NameFault.TheVariants as name
use Rattle.bril_text.specs.declared.fault.TextFault.{TextFault}
use Rattle.bril_text.specs.declared.fault.TextFault.TheVariants as text
use Rattle.bril_words.specs.declared.misuse.Misuse.{Misuse}
use Rattle.bril_words.specs.declared.misuse.Misuse.TheVariants.{Words, Value, Functions, Memory}
use Rattle.bril_words.specs.declared.options.Setting.TheVariants.{Passes, Profile, Frames, Cells, Steps, Hot, Most}
use Rattle.rv64_words.specs.declared.trap.Trap.{Trap}
use Rattle.rv64_words.specs.declared.trap.Trap.TheVariants as trap
use Rattle.bril_report.specs.declared.report.FaultPlace.{FaultPlace}

-- the kind of a fault of the text, by its number
abbrev pub text_front : TextFault → List ℕ
text_front (text.Lex at) = codes ": text 1 at "
text_front (text.Grammar at) = codes ": text 2 at "
text_front (text.IntRange at) = codes ": text 3 at "
text_front (text.Float at) = codes ": text 4 at "
text_front (text.Deep at) = codes ": text 5 at "
text_front text.Memory = codes ": text 0 at "

-- the byte at which it stands
abbrev pub text_position : TextFault → ℕ
text_position (text.Lex at) = at
text_position (text.Grammar at) = at
text_position (text.IntRange at) = at
text_position (text.Float at) = at
text_position (text.Deep at) = at
text_position text.Memory = 0

-- a function and an item by their numbers, where a fault stands in one
abbrev pub position_of : Option ℕ → Option ℕ → FaultPlace
position_of func item = record { func = func; item = item }

-- a number, or `-` for none
abbrev pub number_or_dash : Option ℕ → List ℕ
number_or_dash None = codes "-"
number_or_dash (Some n) = decimal n

-- the kind of a fault of the JSON, by its number
abbrev pub json_front : JsonFault → List ℕ
json_front json.Syntax = codes ": json 1 function "
json_front (json.Shape func item) = codes ": json 2 function "
json_front (json.IntRange func item) = codes ": json 3 function "
json_front (json.Float func item) = codes ": json 4 function "
json_front (json.Deep func item) = codes ": json 5 function "
json_front json.Memory = codes ": json 0 function "

abbrev pub json_position : JsonFault → FaultPlace
json_position json.Syntax = position_of None None
json_position (json.Shape func item) = position_of func item
json_position (json.IntRange func item) = position_of (Some func) (Some item)
json_position (json.Float func item) = position_of func item
json_position (json.Deep func item) = position_of func item
json_position json.Memory = position_of None None

-- the kind of a fault of the names, by its number
abbrev pub name_front : NameFault → List ℕ
name_front (name.NoFunction func item) = codes "name 1 function "
name_front (name.TwiceFunction func) = codes "name 2 function "
name_front (name.NoLabel func item) = codes "name 3 function "
name_front (name.TwiceLabel func item) = codes "name 4 function "
name_front name.NoMain = codes "name 5 function "
name_front (name.TwiceArg func) = codes "name 6 function "
name_front name.Memory = codes "name 0 function "

abbrev pub name_position : NameFault → FaultPlace
name_position (name.NoFunction func item) = position_of (Some func) (Some item)
name_position (name.TwiceFunction func) = position_of (Some func) None
name_position (name.NoLabel func item) = position_of (Some func) (Some item)
name_position (name.TwiceLabel func item) = position_of (Some func) (Some item)
name_position name.NoMain = position_of None None
name_position (name.TwiceArg func) = position_of (Some func) None
name_position name.Memory = position_of None None

-- ---- names in the line of a program that isn't accepted

abbrev pub name_of : Option VarInfo → List ℕ
name_of None = []
name_of (Some variable) = variable.name

abbrev pub name_in : Option Func → ℕ → List ℕ
name_in None variable = []
name_in (Some f) variable = name_of (slice_get f.vars variable)

-- the name of a variable of a function
abbrev pub variable_name : Prog → ℕ → ℕ → List ℕ
variable_name p func variable = name_in (slice_get p.funcs func) variable

-- a fault of a run, by its number and its name
abbrev pub fault_line : Fault → List ℕ
fault_line fault.DivZero = codes "fault 1 DivZero\n"
fault_line fault.BadChar = codes "fault 2 BadChar\n"
fault_line fault.BadAlloc = codes "fault 3 BadAlloc\n"
fault_line fault.BadFree = codes "fault 4 BadFree\n"
fault_line fault.Access = codes "fault 5 Access\n"
fault_line fault.Uninit = codes "fault 6 Uninit\n"
fault_line fault.Leak = codes "fault 7 Leak\n"
fault_line fault.Frames = codes "fault 8 Frames\n"
fault_line fault.Cells = codes "fault 9 Cells\n"
fault_line fault.PtrRange = codes "fault 10 PtrRange\n"
fault_line fault.Allocs = codes "fault 11 Allocs\n"

-- the kind of a trap of the machine, by its number
abbrev pub trap_kind : Trap → ℕ
trap_kind (trap.Fetch pc) = 1
trap_kind (trap.Word pc) = 2
trap_kind (trap.Address pc at) = 3
trap_kind (trap.Call pc number) = 4
trap_kind (trap.NoScalar pc value) = 5

-- the pc of the word at which it comes
abbrev pub trap_pc : Trap → ℕ
trap_pc (trap.Fetch pc) = pc
trap_pc (trap.Word pc) = pc
trap_pc (trap.Address pc at) = pc
trap_pc (trap.Call pc number) = pc
trap_pc (trap.NoScalar pc value) = pc

-- words that ask for nothing: the text of `clap`, or the option whose value fails
abbrev pub misuse_line : Misuse → List ℕ
misuse_line (Words text) = string_bytes text
misuse_line (Value Passes) = codes "usage: --passes\n"
misuse_line (Value Profile) = codes "usage: --profile\n"
misuse_line (Value Frames) = codes "usage: --frames\n"
misuse_line (Value Cells) = codes "usage: --cells\n"
misuse_line (Value Steps) = codes "usage: --steps\n"
misuse_line (Value Hot) = codes "usage: --hot\n"
misuse_line (Value Most) = codes "usage: --most\n"
misuse_line Functions = codes "usage: N\n"
misuse_line Memory = codes "out of memory\n"
