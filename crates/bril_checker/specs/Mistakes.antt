-- How the code says what is wrong with an item's types.
use Rattle.bril_tree.specs.Typing.{TypeFault, WrongType, PrintsPointer}
use Rattle.bril_checker.specs.declared.mistakes.Mistake.{Mistake}
use Rattle.bril_checker.specs.declared.mistakes.Mistake.TheVariants as mistake

abbrev pub meaning : Mistake → TypeFault
meaning mistake.WrongType = WrongType
meaning mistake.PrintsPointer = PrintsPointer
