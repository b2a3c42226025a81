use Rattle.std.proofs.Common.{◌≡◌, ◌<◌, length, slice_get, Some, refl}
use Rattle.std.proofs.lemmas.List.{length-set}
use Rattle.std.proofs.lemmas.Option.{slice_get_read}
use Rattle.bril_tree.specs.Step.{code_of}
use Rattle.bril_interpreter.proofs.Tables.{table_within, tables-counted, failures_within, failure_counted}
use Rattle.bril_interpreter.proofs.Steps.{failure-did}
use Rattle.bril_interpreter.proofs.interp.Interp.count_failure.Goals as goal

pub invariant_of-self : goal.invariant_of-self
invariant_of-self c =
    let kept = c.self.invariant in
    let tables = c.self.inside.tables.items in
    let function = c.self.inside.newest.function in
    let table = c.index_mut-table.result.now in
    let at : c.self.inside.newest.point < length (code_of c.self.inside.checked.now.prog function) = rw (← c.self.view_is) at c.requires in
    let within : function < length tables = table_within c.self.inside.checked.now.prog.funcs tables function c.self.inside.newest.point kept.functions at in
    let there : slice_get tables function ≡ Some table = slice_get_read tables (length tables) function table refl within (rw c.function.ensures at c.index_mut-table.ensures.value) in
    rw (c.count_failure.ensures, c.function.ensures)
    (record {
      counted = kept.counted;
      frame = kept.frame;
      callers = kept.callers;
      functions = tables-counted c.self.inside.checked.now.prog.funcs tables function table _ kept.functions there (length-set table.failures c.point.result _);
      memory = kept.memory;
    })

pub returns : goal.returns
returns c =
    let kept = c.self.invariant in
    let tables = c.self.inside.tables.items in
    let function = c.self.inside.newest.function in
    let point = c.self.inside.newest.point in
    let table = c.index_mut-table.result.now in
    let at : point < length (code_of c.self.inside.checked.now.prog function) = rw (← c.self.view_is) at c.requires in
    let within : function < length tables = table_within c.self.inside.checked.now.prog.funcs tables function point kept.functions at in
    let there : slice_get tables function ≡ Some table = slice_get_read tables (length tables) function table refl within (rw c.function.ensures at c.index_mut-table.ensures.value) in
    let few : point < length table.failures = failures_within c.self.inside.checked.now.prog.funcs tables function point table kept.functions there at in
    rw (c.count_failure.ensures, c.function.ensures, c.point.ensures, ← c.self.view_is)
    (failure-did _ _ (failure_counted tables function point table there few))
