-- What a message points to.
use Rattle.std.specs.Prelude.{ℕ, List, [], Some, None}
use Rattle.bril_checker.specs.declared.fault.CheckFault.{CheckFault}
use Rattle.bril_checker.specs.declared.fault.CheckFault.TheVariants as check
use Rattle.bril_json.specs.declared.fault.JsonFault.{JsonFault}
use Rattle.bril_json.specs.declared.fault.JsonFault.TheVariants as json
use Rattle.bril_names.specs.declared.fault.NameFault.{NameFault}
use Rattle.bril_names.specs.declared.fault.NameFault.TheVariants as name
use Rattle.bril_report.specs.declared.status.Status.{Status}
use Rattle.bril_report.specs.declared.status.Status.TheVariants as status
use Rattle.bril_text.specs.declared.fault.TextFault.{TextFault}
use Rattle.bril_text.specs.declared.fault.TextFault.TheVariants as text
use Rattle.import_linker.specs.declared.formats.fault.ReadFault.TheVariants.{Text, Json}
use Rattle.bril_explain.specs.declared.target.Target.{Target}
use Rattle.bril_explain.specs.declared.target.Target.TheVariants.{Byte, Keys, Function, Item, Named, File}

-- the path of the file that a status speaks of, the first file of the program where it names none
abbrev pub fault_path : List ℕ → Status → List ℕ
fault_path root (status.Misread path fault) = path
fault_path root (status.NotThere path name) = path
fault_path root (status.Clash path name) = path
fault_path root (status.CannotRead path) = path
fault_path root _ = root

-- the name of a function of which a status speaks, where it is wrong in a file
abbrev pub fault_name : Status → List ℕ
fault_name (status.NotThere path name) = name
fault_name (status.Clash path name) = name
fault_name _ = []

-- the byte that a fault of a text names
abbrev pub text_target : TextFault → Target
text_target (text.Lex at) = Byte at
text_target (text.Grammar at) = Byte at
text_target (text.IntRange at) = Byte at
text_target (text.Float at) = Byte at
text_target (text.Deep at) = Byte at
text_target text.Memory = File

-- the function or the item of a JSON file that a fault names
abbrev pub json_target : JsonFault → Target
json_target json.Syntax = File
json_target (json.Shape None item) = File
json_target (json.Shape (Some func) item) = Keys func item
json_target (json.IntRange func item) = Keys func (Some item)
json_target (json.Float None item) = File
json_target (json.Float (Some func) item) = Keys func item
json_target (json.Deep None item) = File
json_target (json.Deep (Some func) item) = Keys func item
json_target json.Memory = File

-- the item or the function that a fault of a name names
abbrev pub name_target : NameFault → Target
name_target (name.NoFunction func item) = Item func item
name_target (name.TwiceFunction func) = Function func
name_target (name.NoLabel func item) = Item func item
name_target (name.TwiceLabel func item) = Item func item
name_target name.NoMain = File
name_target (name.TwiceArg func) = Function func
name_target name.Memory = File

-- the item that a fault of the checker names, or `main`, which has this number
abbrev pub check_target : ℕ → CheckFault → Target
check_target main (check.Types func item) = Item func item
check_target main (check.Arity func item) = Item func item
check_target main (check.MaybeUnassigned func item variable) = Item func item
check_target main (check.Nest func item) = Item func item
check_target main (check.SpecCall func item) = Item func item
check_target main (check.NoReturn func item) = Item func item
check_target main check.MainType = Function main
check_target main (check.PrintPtr func item) = Item func item
check_target main check.Memory = File

-- what a message on a status points to
abbrev pub target_of : Status → Target
target_of (status.Misread path (Text fault)) = text_target fault
target_of (status.Misread path (Json fault)) = json_target fault
target_of (status.NotThere path name) = Named
target_of (status.Clash path name) = Named
target_of (status.Misnamed fault) = name_target fault
target_of (status.Unaccepted p fault) = check_target p.main fault
target_of _ = File
