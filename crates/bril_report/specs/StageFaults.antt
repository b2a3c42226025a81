-- The status of each stage's fault, and of how a command ended.
use Rattle.std.specs.Prelude.{ℕ, List, Result, Ok, Err}
use Rattle.bril_arguments.specs.declared.fault.ArgFault.{ArgFault}
use Rattle.bril_arguments.specs.declared.fault.ArgFault.TheVariants as argument
use Rattle.bril_checker.specs.declared.fault.CheckFault.{CheckFault}
use Rattle.bril_checker.specs.declared.fault.CheckFault.TheVariants as check
use Rattle.bril_names.specs.declared.fault.NameFault.{NameFault}
use Rattle.bril_names.specs.declared.fault.NameFault.TheVariants as name
use Rattle.bril_report.specs.declared.status.Status.{Status}
use Rattle.bril_report.specs.declared.status.Status.TheVariants as status
use Rattle.bril_tree.specs.declared.program.Prog.{Prog}
use Rattle.bril_words.specs.declared.misuse.Misuse.{Misuse}
use Rattle.bril_words.specs.declared.misuse.Misuse.TheVariants as misuse
use Rattle.elf_wrap.specs.declared.fault.ElfFault.{ElfFault}
use Rattle.elf_wrap.specs.declared.fault.ElfFault.TheVariants as elf
use Rattle.import_linker.specs.declared.fault.LinkFault.{LinkFault}
use Rattle.import_linker.specs.declared.fault.LinkFault.TheVariants as link
use Rattle.monitor_script.specs.declared.fault.ScriptFault.{ScriptFault}
use Rattle.monitor_script.specs.declared.fault.ScriptFault.TheVariants as script
use Rattle.pass_law.specs.declared.fault.ListFault.{ListFault}
use Rattle.pass_law.specs.declared.fault.ListFault.TheVariants as list
use Rattle.profile_text.specs.declared.fault.ProfileFault.{ProfileFault}
use Rattle.profile_text.specs.declared.fault.ProfileFault.TheVariants as profile
use Rattle.rv64_listing.specs.declared.fault.ListingFault.{ListingFault}
use Rattle.rv64_listing.specs.declared.fault.ListingFault.TheVariants as listing
use Rattle.rv64_words.specs.declared.fault.EmitFault.{EmitFault}
use Rattle.rv64_words.specs.declared.fault.EmitFault.TheVariants as emit

-- the status of a command that was done, or ended so
abbrev pub status_of : Result Unit Status → Status
status_of (Ok done) = status.Done
status_of (Err how) = how

-- the status of words that ask for nothing
abbrev pub misuse_status : Misuse → Status
misuse_status (misuse.Words text) = status.Misused (misuse.Words text)
misuse_status (misuse.Value setting) = status.Misused (misuse.Value setting)
misuse_status misuse.Functions = status.Misused misuse.Functions
misuse_status misuse.Memory = status.OutOfMemory

-- the status of a fault of reading and linking files
abbrev pub link_status : LinkFault → Status
link_status (link.Read path) = status.CannotRead path
link_status (link.Bad path fault) = status.Misread path fault
link_status (link.NotThere path name) = status.NotThere path name
link_status (link.Clash path name) = status.Clash path name
link_status link.TooManyFiles = status.TooManyFiles
link_status link.TooManyBytes = status.TooManyBytes
link_status link.Memory = status.OutOfMemory

-- the status of a fault of the names
abbrev pub name_status : NameFault → Status
name_status (name.NoFunction func item) = status.Misnamed (name.NoFunction func item)
name_status (name.TwiceFunction func) = status.Misnamed (name.TwiceFunction func)
name_status (name.NoLabel func item) = status.Misnamed (name.NoLabel func item)
name_status (name.TwiceLabel func item) = status.Misnamed (name.TwiceLabel func item)
name_status name.NoMain = status.Misnamed name.NoMain
name_status (name.TwiceArg func) = status.Misnamed (name.TwiceArg func)
name_status name.Memory = status.OutOfMemory

-- the status of a fault of the checker, with the program that has it
abbrev pub check_status : Prog → CheckFault → Status
check_status p (check.Types func item) = status.Unaccepted p (check.Types func item)
check_status p (check.Arity func item) = status.Unaccepted p (check.Arity func item)
check_status p (check.MaybeUnassigned func item variable) = status.Unaccepted p (check.MaybeUnassigned func item variable)
check_status p (check.Nest func item) = status.Unaccepted p (check.Nest func item)
check_status p (check.SpecCall func item) = status.Unaccepted p (check.SpecCall func item)
check_status p (check.NoReturn func item) = status.Unaccepted p (check.NoReturn func item)
check_status p check.MainType = status.Unaccepted p check.MainType
check_status p (check.PrintPtr func item) = status.Unaccepted p (check.PrintPtr func item)
check_status p check.Memory = status.OutOfMemory

-- the status of a fault of the arguments
abbrev pub argument_status : ArgFault → Status
argument_status (argument.Count given wanted) = status.ArgumentCount given wanted
argument_status (argument.Spelling position) = status.BadArgument position
argument_status argument.Memory = status.OutOfMemory

-- the status of a fault of a profile's text
abbrev pub profile_status : ProfileFault → Status
profile_status (profile.Line line) = status.MisreadProfile line
profile_status profile.Memory = status.OutOfMemory

-- the status of a fault of a list of passes
abbrev pub list_status : ListFault → Status
list_status (list.Unknown place prog) = status.UnknownPass place
list_status (list.TooLarge place bound prog) = status.PassTooLarge place bound
list_status list.Memory = status.OutOfMemory

-- the status of a program that gets no image
abbrev pub emit_status : EmitFault → Status
emit_status (emit.CodeTooBig words) = status.CodeTooBig words
emit_status (emit.StackTooBig words) = status.StackTooBig words
emit_status emit.Memory = status.OutOfMemory

-- the status of a fault of a listing, with the path of the file that has it
abbrev pub listing_status : List ℕ → ListingFault → Status
listing_status path (listing.Line line) = status.MisreadListing path line
listing_status path listing.Memory = status.OutOfMemory

-- the status of a fault of an ELF file, with its path
abbrev pub elf_status : List ℕ → ElfFault → Status
elf_status path (elf.At at) = status.MisreadElf path at
elf_status path (elf.CodeTooBig words) = status.CodeTooBig words
elf_status path (elf.StackTooBig words) = status.StackTooBig words
elf_status path elf.Memory = status.OutOfMemory

-- the status of a fault of a monitor's script
abbrev pub script_status : ScriptFault → Status
script_status (script.Line line) = status.MisreadScript line
script_status script.Memory = status.OutOfMemory
