-- The laws of the grammar.
use Rattle.std.proofs.Common.{◌≡◌, Result, Ok, Err, refl}
use Rattle.bril_tree.specs.declared.tree.Tree.{Tree}
use Rattle.bril_grammar.specs.declared.fault.Fault.{Fault}
use Rattle.bril_grammar.specs.Fault.{FirstFault}
use Rattle.bril_grammar.specs.Laws.{ProgramsAreRead, ReadingsAreSpellings, SpellOneTree, ReadFaultIsFirst, FirstFaultIsRead, ProgramsHaveNoFault, OthersHaveOneFault}
use Rattle.bril_grammar.specs.Machine.{read}
use Rattle.bril_grammar.specs.Terminal.{terminals_of}
use Rattle.bril_grammar.proofs.Complete.{spelling-run}
use Rattle.bril_grammar.proofs.First.{fault-first, first-fault}
use Rattle.bril_grammar.proofs.Sound.{spelled}

pub programs_are_read : ProgramsAreRead
programs_are_read lexemes tree h = spelling-run (terminals_of lexemes) tree h

pub readings_are_spellings : ReadingsAreSpellings
readings_are_spellings lexemes tree e = spelled (terminals_of lexemes) tree e

pub spell_one_tree : SpellOneTree
spell_one_tree lexemes t u g h =
    let first = programs_are_read lexemes t g in
    let second = programs_are_read lexemes u h in
    cc

pub read_fault_is_first : ReadFaultIsFirst
read_fault_is_first lexemes f e = fault-first (terminals_of lexemes) f e

pub first_fault_is_read : FirstFaultIsRead
first_fault_is_read lexemes f h = first-fault (terminals_of lexemes) f h

pub programs_have_no_fault : ProgramsHaveNoFault
programs_have_no_fault lexemes tree f g h =
    let tree_is = programs_are_read lexemes tree g in
    let fault_is = first_fault_is_read lexemes f h in
    cc

pub others_have_one_fault : OthersHaveOneFault
others_have_one_fault lexemes none = by (read lexemes) refl
  where
    by : (r : Result Tree Fault) → read lexemes ≡ r → (f : Fault) × FirstFault lexemes f × ((g : Fault) → FirstFault lexemes g → g ≡ f)
    by (Ok tree) e = absurd (none tree (readings_are_spellings lexemes tree e))
    by (Err f) e = (f, read_fault_is_first lexemes f e, λ g h. let other = first_fault_is_read lexemes g h in cc)
