-- The number of each status, and its line in pieces.
use Rattle.std.specs.Prelude.{ℕ, List, [], ◌∷◌, ◌++◌, Some, None, codes}
use Rattle.std.specs.Fmt.{decimal}
use Rattle.bril_tree.specs.declared.program.Prog.{Prog}
use Rattle.bril_checker.specs.declared.fault.CheckFault.{CheckFault}
use Rattle.bril_checker.specs.declared.fault.CheckFault.TheVariants as check
use Rattle.bril_names.specs.declared.fault.NameFault.{NameFault}
use Rattle.rv64_words.specs.declared.trap.Trap.{Trap}
use Rattle.bril_report.specs.declared.report.FaultPlace.{FaultPlace}
use Rattle.import_linker.specs.declared.formats.fault.ReadFault.{ReadFault}
use Rattle.import_linker.specs.declared.formats.fault.ReadFault.TheVariants.{Text, Json}
use Rattle.bril_report.specs.declared.status.Status.{Status}
use Rattle.bril_report.specs.declared.status.Status.TheVariants as status
use Rattle.bril_report.specs.Lines.{text_front, text_position, position_of, number_or_dash, json_front, json_position, name_front, name_position, variable_name, fault_line, misuse_line, trap_kind, trap_pc}

-- the number of a status
abbrev pub status_number : Status → ℕ
status_number status.Done = 0
status_number (status.Faulted fault) = 2
status_number (status.Spent steps) = 3
status_number (status.Trapped trap) = 4
status_number (status.Misused misuse) = 64
status_number (status.Misread path fault) = 65
status_number (status.NotThere path name) = 65
status_number (status.Clash path name) = 65
status_number (status.Misnamed fault) = 65
status_number (status.Unaccepted program fault) = 65
status_number (status.MisreadListing path line) = 65
status_number (status.MisreadElf path at) = 65
status_number (status.CannotRead path) = 66
status_number (status.MisreadProfile line) = 67
status_number status.TooManyBytes = 68
status_number status.TooManyFiles = 68
status_number status.ProfileTooLarge = 68
status_number status.ScriptTooLarge = 68
status_number (status.CodeTooBig words) = 68
status_number (status.StackTooBig words) = 68
status_number (status.PassTooLarge place bound) = 68
status_number (status.ArgumentCount given wanted) = 69
status_number (status.BadArgument position) = 69
status_number (status.ArgumentRoom given room) = 69
status_number (status.UnknownPass place) = 70
status_number status.OutOfMemory = 71
status_number (status.MisreadScript line) = 72
status_number status.CannotWrite = 74

-- ---- the pieces of a line, each for one put

abbrev pub position_pieces : FaultPlace → List ℕ → List (List ℕ)
position_pieces position rest = number_or_dash position.func ∷ codes " item " ∷ number_or_dash position.item ∷ rest ∷ []

abbrev pub number_pieces : List ℕ → ℕ → List (List ℕ)
number_pieces front number = front ∷ decimal number ∷ codes "\n" ∷ []

-- a fault of the bytes of the file at a path
abbrev pub misread_pieces : List ℕ → ReadFault → List (List ℕ)
misread_pieces path (Text fault) = path ∷ text_front fault ∷ decimal (text_position fault) ∷ codes "\n" ∷ []
misread_pieces path (Json fault) = path ∷ json_front fault ∷ position_pieces (json_position fault) (codes "\n")

-- a name that stands for no function in the file at a path, or for two
abbrev pub not_there_pieces : List ℕ → List ℕ → List (List ℕ)
not_there_pieces path name = codes "link 3 " ∷ path ∷ codes " " ∷ name ∷ codes "\n" ∷ []

abbrev pub clash_pieces : List ℕ → List ℕ → List (List ℕ)
clash_pieces path name = codes "link 4 " ∷ path ∷ codes " " ∷ name ∷ codes "\n" ∷ []

-- a fault of the names
abbrev pub misnamed_pieces : NameFault → List (List ℕ)
misnamed_pieces fault = name_front fault ∷ position_pieces (name_position fault) (codes "\n")

abbrev pub item_pieces : List ℕ → ℕ → ℕ → List (List ℕ)
item_pieces front func item = front ∷ position_pieces (position_of (Some func) (Some item)) (codes "\n")

abbrev pub main_pieces : ℕ → List (List ℕ)
main_pieces main = codes "check 7 function " ∷ position_pieces (position_of (Some main) None) (codes "\n")

abbrev pub unassigned_pieces : List ℕ → ℕ → ℕ → List (List ℕ)
unassigned_pieces name func item =
    codes "check 3 function " ∷ (position_pieces (position_of (Some func) (Some item)) (codes " variable ") ++ name ∷ codes "\n" ∷ [])

-- the kind of a fault of the checker, by its number, and its position
abbrev pub unaccepted_pieces : Prog → CheckFault → List (List ℕ)
unaccepted_pieces p (check.Types func item) = item_pieces (codes "check 1 function ") func item
unaccepted_pieces p (check.Arity func item) = item_pieces (codes "check 2 function ") func item
unaccepted_pieces p (check.MaybeUnassigned func item variable) = unassigned_pieces (variable_name p func variable) func item
unaccepted_pieces p (check.Nest func item) = item_pieces (codes "check 4 function ") func item
unaccepted_pieces p (check.SpecCall func item) = item_pieces (codes "check 5 function ") func item
unaccepted_pieces p (check.NoReturn func item) = item_pieces (codes "check 6 function ") func item
unaccepted_pieces p check.MainType = main_pieces p.main
unaccepted_pieces p (check.PrintPtr func item) = item_pieces (codes "check 8 function ") func item
unaccepted_pieces p check.Memory = codes "check 0 function - item -\n" ∷ []

-- the first line, from 1, of the file at a path that tells no word, and the byte offset at which it is no ELF file of an image first
abbrev pub listing_pieces : List ℕ → ℕ → List (List ℕ)
listing_pieces path line = path ∷ codes ": listing " ∷ decimal line ∷ codes "\n" ∷ []

abbrev pub elf_pieces : List ℕ → ℕ → List (List ℕ)
elf_pieces path at = path ∷ codes ": elf " ∷ decimal at ∷ codes "\n" ∷ []

-- a path at which nothing could be read
abbrev pub unread_pieces : List ℕ → List (List ℕ)
unread_pieces path = codes "cannot read " ∷ path ∷ codes "\n" ∷ []

-- files with too many bytes, and too many files
abbrev pub many_bytes_pieces : List (List ℕ)
many_bytes_pieces = codes "too large: bytes\n" ∷ []

abbrev pub many_files_pieces : List (List ℕ)
many_files_pieces = codes "too large: files\n" ∷ []

-- a profile with too many bytes, and the first line, from 1, that breaks the form of a profile
abbrev pub long_profile_pieces : List (List ℕ)
long_profile_pieces = codes "too large: profile\n" ∷ []

abbrev pub profile_pieces : ℕ → List (List ℕ)
profile_pieces line = number_pieces (codes "profile line ") line

-- a script with too many bytes, and the first line, from 1, that breaks the form of a script
abbrev pub long_script_pieces : List (List ℕ)
long_script_pieces = codes "too large: script\n" ∷ []

abbrev pub script_pieces : ℕ → List (List ℕ)
script_pieces line = number_pieces (codes "script line ") line

-- the words of code, and of stack, that a program would have
abbrev pub code_pieces : ℕ → List (List ℕ)
code_pieces words = number_pieces (codes "too large: code ") words

abbrev pub stack_pieces : ℕ → List (List ℕ)
stack_pieces words = number_pieces (codes "too large: stack ") words

-- the pass at a place, from 1, whose bound on items is too large
abbrev pub pass_pieces : ℕ → ℕ → List (List ℕ)
pass_pieces place bound = codes "too large: pass " ∷ decimal place ∷ codes " " ∷ decimal bound ∷ codes "\n" ∷ []

-- so many arguments, and how many `main` takes
abbrev pub count_pieces : ℕ → ℕ → List (List ℕ)
count_pieces given wanted = codes "arguments: " ∷ decimal given ∷ codes " given, " ∷ decimal wanted ∷ codes " wanted\n" ∷ []

-- so many arguments, and how many a stack has room for
abbrev pub room_pieces : ℕ → ℕ → List (List ℕ)
room_pieces given room = codes "arguments: " ∷ decimal given ∷ codes " given, " ∷ decimal room ∷ codes " room\n" ∷ []

-- the position, from 1, of an argument that spells no value of its type
abbrev pub spelling_pieces : ℕ → List (List ℕ)
spelling_pieces position = number_pieces (codes "argument ") position

-- the place, from 1, of a name that no pass answers to
abbrev pub unknown_pass_pieces : ℕ → List (List ℕ)
unknown_pass_pieces place = number_pieces (codes "unknown pass ") place

-- the steps that were made while the run goes on
abbrev pub spent_pieces : ℕ → List (List ℕ)
spent_pieces steps = number_pieces (codes "spent ") steps

-- the kind of a trap, by its number, and its pc
abbrev pub trap_pieces : Trap → List (List ℕ)
trap_pieces trap = codes "trap " ∷ decimal (trap_kind trap) ∷ codes " pc " ∷ decimal (trap_pc trap) ∷ codes "\n" ∷ []

-- the line of a status; none where all was done
abbrev pub status_pieces : Status → List (List ℕ)
status_pieces status.Done = []
status_pieces (status.Faulted fault) = fault_line fault ∷ []
status_pieces (status.Spent steps) = spent_pieces steps
status_pieces (status.Trapped trap) = trap_pieces trap
status_pieces (status.Misused misuse) = misuse_line misuse ∷ []
status_pieces (status.Misread path fault) = misread_pieces path fault
status_pieces (status.NotThere path name) = not_there_pieces path name
status_pieces (status.Clash path name) = clash_pieces path name
status_pieces (status.Misnamed fault) = misnamed_pieces fault
status_pieces (status.Unaccepted program fault) = unaccepted_pieces program fault
status_pieces (status.MisreadListing path line) = listing_pieces path line
status_pieces (status.MisreadElf path at) = elf_pieces path at
status_pieces (status.CannotRead path) = unread_pieces path
status_pieces status.TooManyBytes = many_bytes_pieces
status_pieces status.TooManyFiles = many_files_pieces
status_pieces (status.CodeTooBig words) = code_pieces words
status_pieces (status.StackTooBig words) = stack_pieces words
status_pieces (status.PassTooLarge place bound) = pass_pieces place bound
status_pieces (status.ArgumentCount given wanted) = count_pieces given wanted
status_pieces (status.BadArgument position) = spelling_pieces position
status_pieces (status.ArgumentRoom given room) = room_pieces given room
status_pieces status.ProfileTooLarge = long_profile_pieces
status_pieces (status.MisreadProfile line) = profile_pieces line
status_pieces status.ScriptTooLarge = long_script_pieces
status_pieces (status.MisreadScript line) = script_pieces line
status_pieces (status.UnknownPass place) = unknown_pass_pieces place
status_pieces status.OutOfMemory = codes "out of memory\n" ∷ []
status_pieces status.CannotWrite = codes "cannot write\n" ∷ []
