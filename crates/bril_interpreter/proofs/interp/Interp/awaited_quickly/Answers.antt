use Rattle.std.proofs.Common.{◌≡◌, ◌∙◌, ap, length, slice_get, Some, refl}
use Rattle.std.proofs.lemmas.Option.{slice_get_read}
use Rattle.bril_interpreter.proofs.Entered.{awaits_found}
use Rattle.bril_interpreter.proofs.interp.Interp.awaited_quickly.Goals as goal

pub returns-in-Some-Call : goal.returns-in-Some-Call
returns-in-Some-Call c =
    let i = c.self.inside in
    let caller = c.in_ok-caller.caller.now in
    let table = c.in_ok-table.table.now in
    let look = rw (c.deref.ensures.value, c.function.ensures) at c.in_ok-table.ensures.lookup in
    let there : slice_get i.tables.items caller.function ≡ Some table = slice_get_read i.tables.items (length i.tables.items) caller.function table refl look.3.0 look.1 in
    let find = rw (c.quick.ensures, c.point.ensures) at c.in-Some-Call.ensures.lookup in
    let at : slice_get table.quick caller.point ≡ Some c.in-Some-Call.field-0.now = slice_get_read table.quick (length table.quick) caller.point c.in-Some-Call.field-0.now refl find.3.0 find.1 in
    rw (← c.self.view_is) (awaits_found _ i.tables.items c.self.invariant caller table c.in-Some-Call.dest c.in-Some-Call.field-0-1 c.in_ok-caller.ensures there (at ∙ ap Some c.in-Some-Call.field-0-is))
