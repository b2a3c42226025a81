use Rattle.std.proofs.Common.{◌≡◌, length, slice_get, Some, refl}
use Rattle.std.proofs.lemmas.Option.{slice_get_read}
use Rattle.bril_interpreter.proofs.Tables.{point_found, point_missing}
use Rattle.bril_interpreter.proofs.interp.Interp.label_point.Goals as goal

pub returns-in-Some : goal.returns-in-Some
returns-in-Some c =
    let look = rw (c.deref.ensures.value, c.function.ensures) at c.in-Some.ensures.lookup in
    let there : slice_get c.self.inside.tables.items c.self.inside.newest.function ≡ Some c.in-Some.table.now =
    slice_get_read c.self.inside.tables.items (length c.self.inside.tables.items) c.self.inside.newest.function c.in-Some.table.now refl look.3.0 look.1 in
    rw (c.point_of.ensures, c.code-end.ensures, ← c.self.view_is) (point_found c.self.inside.checked.now.prog.funcs c.self.inside.tables.items c.self.inside.newest.function c.in-Some.table.now c.args.label c.self.invariant.functions there)

pub returns-in-None : goal.returns-in-None
returns-in-None c =
    let look = rw (c.deref.ensures.value, c.function.ensures) at c.in-None.ensures.lookup in
    rw (c.code-end.ensures, ← c.self.view_is) (point_missing c.self.inside.checked.now.prog.funcs c.self.inside.tables.items c.self.inside.newest.function c.args.label c.self.invariant.functions look.3)
