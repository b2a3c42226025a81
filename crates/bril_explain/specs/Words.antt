-- What is wrong, and what would mend it, in words.
use Rattle.std.specs.Prelude.{ℕ, List, [], ◌∷◌, ◌++◌, Option, Some, None, codes, if◌then◌else◌, is_some, slice_get}
use Rattle.std.specs.Option.{option_or}
use Rattle.bril_checker.specs.declared.fault.CheckFault.{CheckFault}
use Rattle.bril_checker.specs.declared.fault.CheckFault.TheVariants as check
use Rattle.bril_json.specs.declared.fault.JsonFault.{JsonFault}
use Rattle.bril_json.specs.declared.fault.JsonFault.TheVariants as json
use Rattle.bril_names.specs.declared.fault.NameFault.{NameFault}
use Rattle.bril_names.specs.declared.fault.NameFault.TheVariants as name
use Rattle.bril_report.specs.Lines.{variable_name}
use Rattle.bril_report.specs.declared.status.Status.{Status}
use Rattle.bril_report.specs.declared.status.Status.TheVariants as status
use Rattle.bril_text.specs.declared.fault.TextFault.{TextFault}
use Rattle.bril_text.specs.declared.fault.TextFault.TheVariants as text
use Rattle.bril_tree.specs.declared.numbered.Instr.{Instr}
use Rattle.bril_tree.specs.declared.numbered.Instr.TheVariants as instr
use Rattle.bril_tree.specs.declared.numbered.VarInfo.{VarInfo}
use Rattle.bril_tree.specs.declared.numbered_function.Func.{Func}
use Rattle.bril_tree.specs.declared.program.Prog.{Prog}
use Rattle.import_linker.specs.declared.formats.fault.ReadFault.TheVariants.{Text, Json}

-- ---- what is wrong

-- of a fault of a text
abbrev pub text_problem : TextFault → List ℕ
text_problem (text.Lex at) = codes "nothing in the text form begins so"
text_problem (text.Grammar at) = codes "the program can't go on so, or ends too early"
text_problem (text.IntRange at) = codes "this number doesn't fit 64 bits"
text_problem (text.Float at) = codes "floats aren't supported"
text_problem (text.Deep at) = codes "this type has more than 32 ptr"
text_problem text.Memory = codes "out of memory"

-- of a fault of a JSON file
abbrev pub json_problem : JsonFault → List ℕ
json_problem json.Syntax = codes "this file is no JSON"
json_problem (json.Shape func item) = codes "this isn't as the JSON form of a program has it"
json_problem (json.IntRange func item) = codes "its number doesn't fit 64 bits"
json_problem (json.Float func item) = codes "floats aren't supported"
json_problem (json.Deep func item) = codes "a type has more than 32 ptr"
json_problem json.Memory = codes "out of memory"

-- of a fault of a name
abbrev pub name_problem : NameFault → List ℕ
name_problem (name.NoFunction func item) = codes "this names a function that isn't there"
name_problem (name.TwiceFunction func) = codes "another function has this name"
name_problem (name.NoLabel func item) = codes "this names a label that its function doesn't have"
name_problem (name.TwiceLabel func item) = codes "this label stands in its function before"
name_problem name.NoMain = codes "no function is named @main"
name_problem (name.TwiceArg func) = codes "two arguments of this function have one name"
name_problem name.Memory = codes "out of memory"

-- of a fault of the checker
abbrev pub check_problem : CheckFault → List ℕ
check_problem (check.Types func item) = codes "an operand or the destination has a wrong type"
check_problem (check.Arity func item) = codes "a wrong number of operands, or of destinations"
check_problem (check.MaybeUnassigned func item variable) = codes " may be read before it is assigned"
check_problem (check.Nest func item) = codes "the speculations don't fit together here"
check_problem (check.SpecCall func item) = codes "a call, a ret or the end of a function inside a speculation"
check_problem (check.NoReturn func item) = codes "the function ends here without a value"
check_problem check.MainType = codes "main returns a value, or takes a pointer"
check_problem (check.PrintPtr func item) = codes "a pointer can't be printed"
check_problem check.Memory = codes "out of memory"

-- the name of a variable that has no type, since nothing assigns it
abbrev pub untyped : Option VarInfo → Option (List ℕ)
untyped None = None
untyped (Some variable) = if is_some variable.ty then None else Some variable.name

-- that of the first of these variables
abbrev pub untyped_among : List VarInfo → List ℕ → Option (List ℕ)
untyped_among vars [] = None
untyped_among vars (arg ∷ args) = option_or (untyped (slice_get vars arg)) (untyped_among vars args)

-- the first that an item reads
abbrev pub untyped_in : List VarInfo → Option Instr → Option (List ℕ)
untyped_in vars None = None
untyped_in vars (Some (instr.Label label)) = None
untyped_in vars (Some (instr.Const dest ty value)) = None
untyped_in vars (Some (instr.Act dest ty op args callees targets)) = untyped_among vars args

abbrev pub untyped_of : Option Func → ℕ → Option (List ℕ)
untyped_of None item = None
untyped_of (Some f) item = untyped_in f.vars (slice_get f.code item)

-- the variable that an item with a fault of its types reads, and that nothing assigns
abbrev pub never_assigned : Prog → CheckFault → Option (List ℕ)
never_assigned p (check.Types func item) = untyped_of (slice_get p.funcs func) item
never_assigned p _ = None

-- the variable of which a fault of the checker speaks
abbrev pub subject : Prog → CheckFault → List ℕ
subject p (check.MaybeUnassigned func item variable) = variable_name p func variable
subject p _ = []

abbrev pub unaccepted_problem : Option (List ℕ) → Prog → CheckFault → List ℕ
unaccepted_problem None p fault = subject p fault ++ check_problem fault
unaccepted_problem (Some name) p fault = name ++ codes " is assigned nowhere in its function"

abbrev pub problem : Status → List ℕ
problem (status.Misread path (Text fault)) = text_problem fault
problem (status.Misread path (Json fault)) = json_problem fault
problem (status.NotThere path name) = codes "no function is named @" ++ name
problem (status.Clash path name) = codes "two functions are named @" ++ name
problem (status.Misnamed fault) = name_problem fault
problem (status.Unaccepted p fault) = unaccepted_problem (never_assigned p fault) p fault
problem (status.CannotRead path) = codes "this file can't be read"
problem status.TooManyBytes = codes "the program is too large"
problem status.TooManyFiles = codes "the program has more than 256 files"
problem _ = codes "out of memory"

-- ---- what would mend it

-- of a fault of a text
abbrev pub text_help : TextFault → List ℕ
text_help (text.Lex at) = codes "write a name, @function, .label, number, char, path in double quotes, or a mark"
text_help (text.Grammar at) = codes "look for a misspelled word here, or for a `;` or a brace that is missing before it"
text_help (text.IntRange at) = codes "an int goes from -9223372036854775808 to 9223372036854775807"
text_help (text.Float at) = codes "use int, bool, char or ptr"
text_help (text.Deep at) = codes "take some of the ptr away"
text_help text.Memory = codes "end other programs, or take a smaller one"

-- of a fault of a JSON file
abbrev pub json_help : JsonFault → List ℕ
json_help json.Syntax = codes "look for a bracket, a quote or a comma that is missing or stands too much"
json_help (json.Shape func item) = codes "compare its keys and values with the table of objects in docs/FORMATS.md"
json_help (json.IntRange func item) = codes "an int goes from -9223372036854775808 to 9223372036854775807"
json_help (json.Float func item) = codes "use int, bool, char or ptr"
json_help (json.Deep func item) = codes "take some of the ptr away"
json_help json.Memory = codes "end other programs, or take a smaller one"

-- of a fault of a name
abbrev pub name_help : NameFault → List ℕ
name_help (name.NoFunction func item) = codes "define the function, or correct its name"
name_help (name.TwiceFunction func) = codes "give one of the two another name"
name_help (name.NoLabel func item) = codes "put the label into the function, or correct its name"
name_help (name.TwiceLabel func item) = codes "give one of the two another name"
name_help name.NoMain = codes "name the function with which the program begins @main"
name_help (name.TwiceArg func) = codes "give one of the two another name"
name_help name.Memory = codes "end other programs, or take a smaller one"

-- of a fault of the checker
abbrev pub check_help : CheckFault → List ℕ
check_help (check.Types func item) = codes "compare the types of its variables with the row of the operation in docs/LANGUAGE.md"
check_help (check.Arity func item) = codes "count its operands, and compare with the row of the operation in docs/LANGUAGE.md"
check_help (check.MaybeUnassigned func item variable) = codes "assign it on each way that leads here, also where a branch goes around"
check_help (check.Nest func item) = codes "let each way to here come through the same speculate, at most 8 of them, and end each once"
check_help (check.SpecCall func item) = codes "commit before this, or move it out of the speculation"
check_help (check.NoReturn func item) = codes "end each way through the function with ret and a value"
check_help check.MainType = codes "let main return nothing, and take ints, bools and chars alone"
check_help (check.PrintPtr func item) = codes "load what it points to, and print that"
check_help check.Memory = codes "end other programs, or take a smaller one"

abbrev pub unaccepted_help : Option (List ℕ) → CheckFault → List ℕ
unaccepted_help None fault = check_help fault
unaccepted_help (Some name) fault = codes "assign it before this item, or correct its name"

abbrev pub help : Status → List ℕ
help (status.Misread path (Text fault)) = text_help fault
help (status.Misread path (Json fault)) = json_help fault
help (status.NotThere path name) = codes "define a function of this name in the file, or import it from a file that has it"
help (status.Clash path name) = codes "give one of the two another name; an import can do so by `as`"
help (status.Misnamed fault) = name_help fault
help (status.Unaccepted p fault) = unaccepted_help (never_assigned p fault) fault
help (status.CannotRead path) = codes "look whether it is there, is no folder, and may be read"
help status.TooManyBytes = codes "all files of a program together have at most 16,777,216 bytes"
help status.TooManyFiles = codes "put functions that belong together into one file, and name each file by one path"
help _ = codes "end other programs, or take a smaller one"
