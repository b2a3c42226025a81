-- The fault of reading a tree that a fault of a form is.
use Rattle.bril_json.specs.declared.fault.JsonFault.{JsonFault}
use Rattle.bril_json.specs.declared.fault.JsonFault.TheVariants as json
use Rattle.bril_text.specs.declared.fault.TextFault.{TextFault}
use Rattle.bril_text.specs.declared.fault.TextFault.TheVariants as text
use Rattle.import_linker.specs.declared.formats.fault.ReadFault.TheVariants.{Text, Json}
use Rattle.import_linker.specs.declared.formats.fault.TreeFault.{TreeFault}
use Rattle.import_linker.specs.declared.formats.fault.TreeFault.TheVariants.{Misread, Memory}

abbrev pub text_fault : TextFault → TreeFault
text_fault (text.Lex at) = Misread (Text (text.Lex at))
text_fault (text.Grammar at) = Misread (Text (text.Grammar at))
text_fault (text.IntRange at) = Misread (Text (text.IntRange at))
text_fault (text.Float at) = Misread (Text (text.Float at))
text_fault (text.Deep at) = Misread (Text (text.Deep at))
text_fault text.Memory = Memory

abbrev pub json_fault : JsonFault → TreeFault
json_fault json.Syntax = Misread (Json json.Syntax)
json_fault (json.Shape func item) = Misread (Json (json.Shape func item))
json_fault (json.IntRange func item) = Misread (Json (json.IntRange func item))
json_fault (json.Float func item) = Misread (Json (json.Float func item))
json_fault (json.Deep func item) = Misread (Json (json.Deep func item))
json_fault json.Memory = Memory
