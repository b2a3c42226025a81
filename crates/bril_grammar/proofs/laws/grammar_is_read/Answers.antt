use Rattle.bril_grammar.proofs.Whole.{programs_are_read, readings_are_spellings}
use Rattle.bril_grammar.proofs.laws.grammar_is_read.Goals as goal

pub returns : goal.returns
returns c = record { programs = programs_are_read; readings = readings_are_spellings }
